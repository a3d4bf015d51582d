-- What an array of `from_fn` holds, where the calls leave the closure as it was. Assumes nothing.
use Rattle.std.proofs.Common.{zero, suc, ◌≡◌, ℕ, ◌+◌, ◌<◌, ◌≤◌, List, slice_index_or, subst, inl, inr, arith}
use Rattle.std.proofs.lemmas.Bool.{cases_lt}
use Rattle.std.proofs.lemmas.List.{get_or_past}
use Rattle.std.specs.Array.{IsFromFnResult, IsFromFnResultFrom}
use denote.Param.Members.{Mut, Called}

module _ {F B : Type 0} {g : Mut F (ℕ × Unit {0}) B} {f : F} (R : ℕ → B → Type 0) (gives : (i : ℕ) (y : B) (s : F) → Called g f (i, tt) y s → (s ≡ f) × R i y) where
  at_from : (ys : List B) (i n : ℕ) → IsFromFnResultFrom g f ys i n → (k : ℕ) (d : B) → i ≤ k → k < i + n → R k (slice_index_or ys k d)
  at_from ys i zero h k d low high = absurd (omega arith)
  at_from ys i (suc n) h k d low high =
      let e = gives i h.1 h.0 h.3 in
      elim (cases_lt i k) [
        | inl lt ↦ at_from ys (i + 1) n (subst (λ s. IsFromFnResultFrom g s ys (i + 1) n) e.0 h.4) k d (omega arith) (omega arith)
        | inr le ↦ let same : k ≡ i = omega arith in rw (same, h.2.1 d) e.1
      ]

  pub from_fn_at : {ys : List B} {n : ℕ} → IsFromFnResult g f ys n → (k : ℕ) (d : B) → k < n → R k (slice_index_or ys k d)
  from_fn_at {ys} {n} H k d h = at_from ys 0 n H.each k d (omega arith) (omega arith)

  -- the same of every number, where it holds of what stands behind the array
  pub from_fn_over : {ys : List B} {n : ℕ} → IsFromFnResult g f ys n → (d : B) → ((k : ℕ) → n ≤ k → R k d) → (k : ℕ) → R k (slice_index_or ys k d)
  from_fn_over {ys} {n} H d behind k = elim (cases_lt k n) [
    | inl lt ↦ from_fn_at H k d lt
    | inr le ↦ rw (get_or_past ys k d (omega (arith, H.long))) (behind k le)
  ]
