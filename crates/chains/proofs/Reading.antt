-- What a walk back along `before` keeps. Assumes nothing.
use Rattle.std.proofs.Common.{◌≡◌, ℕ, ◌<◌, ◌≤◌, ◌≢◌, List, [], ◌∷◌, ◌++◌, length, sym, refl, ap, ◌∙◌, append_assoc, length-append, true, Result, Ok, Err, arith}
use Rattle.std.proofs.ByRecursion.{All-weaker}
use Rattle.std.specs.Result.{OnOk, is_ok}
use Rattle.chains.specs.Chains.{Chain, Told, Traced}

-- what a call promises at `Ok` or at `Err`, where that is what it answered
pub when_ok : {T E P : Type 0} (r : Result T E) → true ≡ is_ok r → OnOk r P → P
when_ok (Ok x) e h = h
when_ok (Err d) e h = cc

-- `before` tells one chain to v at most
pub told_once : (before : ℕ → ℕ) (v w : ℕ) (c d : List ℕ) → v ≡ w → Told before v c → Told before w d → c ≡ d
told_once before v w [] [] e s t = refl
told_once before v w [] (u ∷ d) e s t = absurd (t.1 (sym t.0 ∙ ap before (sym e) ∙ s ∙ e))
told_once before v w (u ∷ c) [] e s t = absurd (s.1 (sym s.0 ∙ ap before e ∙ t ∙ sym e))
told_once before v w (u ∷ c) (x ∷ d) e s t =
    let same : u ≡ x = sym s.0 ∙ ap before e ∙ t.0 in
    let rest : c ≡ d = told_once before u x c d same s.2 t.2 in
    cc

-- a chain among n pillars is one among more
pub traced_wider : (n m : ℕ) (before : ℕ → ℕ) (v : ℕ) (c : List ℕ) → n ≤ m → Traced n before v c → Traced m before v c
traced_wider n m before v c few t = record {
  chain = All-weaker (λ p. p < n) (λ p. p < m) (λ p h. omega arith) (v ∷ c) t.chain;
  short = omega (arith, t.short);
  told = t.told;
}

-- A walk back from v by the pillars `walked` has come to p: a chain to p goes on to v, and a chain to v comes by p.
pub record Walk (n : ℕ) (before : ℕ → ℕ) (v p : ℕ) (walked : List ℕ) : Type 0 where
  pub up : (rest : List ℕ) → Chain n p rest → Told before p rest → (whole : List ℕ) × (v ∷ whole ≡ walked ++ p ∷ rest) × Chain n v whole × Told before v whole
  pub down : (whole : List ℕ) → Chain n v whole → Told before v whole → (rest : List ℕ) × (v ∷ whole ≡ walked ++ p ∷ rest) × Chain n p rest × Told before p rest

module _ {n : ℕ} {before : ℕ → ℕ} {v p : ℕ} {walked : List ℕ} (W : Walk n before v p walked) where
  split : before p ≢ p → (whole rest : List ℕ) → v ∷ whole ≡ walked ++ p ∷ rest → Chain n p rest → Told before p rest → (more : List ℕ) × (v ∷ whole ≡ (walked ++ p ∷ []) ++ before p ∷ more) × Chain n (before p) more × Told before (before p) more
  split ne whole [] e h t = absurd (ne t)
  split ne whole (u ∷ rest) e h t = rw t.0 (rest, e ∙ sym (append_assoc walked (p ∷ []) (u ∷ rest)), h.1, t.2)

  pub walk_more : p < n → before p ≢ p → Walk n before v (before p) (walked ++ p ∷ [])
  walk_more inside ne = record {
    up = λ rest h t.
        let w = W.up (before p ∷ rest) (inside, h) (refl, ne, t) in
        (w.0, w.1 ∙ sym (append_assoc walked (p ∷ []) (before p ∷ rest)), w.2, w.3);
    down = λ whole h t.
        let w = W.down whole h t in
        split ne whole w.0 w.1 w.2 w.3;
  }

  pub walk_ends : p < n → before p ≡ p → length walked < n → (c : List ℕ) × Traced n before v c × (walked ++ p ∷ [] ≡ v ∷ c)
  walk_ends inside e few =
      let w = W.up [] (inside, tt) e in
      (w.0, record { chain = w.2; short = omega (arith, ap length w.1, length-append walked (p ∷ [])); told = w.3 }, sym w.1)
