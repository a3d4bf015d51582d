-- An input cut at its first line feed, and what that says of its lines.
use Rattle.std.proofs.Common.{◌≡◌, ℕ, ◌+◌, ◌-◌, ◌<◌, ◌⊎◌, List, [], ◌∷◌, ◌++◌, length, get_or, take, drop, sym, refl, ap, ◌∙◌, inl, inr, arith, take-append-drop, ne_eqb, Bool, ◌==◌, Some, None, ◌≤◌}
use Rattle.std.specs.List.{AllByRecursion, position, position_or_len}
use Rattle.std.proofs.lemmas.List.{drop_more, length-take, get_or-take}
use Rattle.std.proofs.ByRecursion.{All-from_get_or}
use Rattle.std.proofs.lemmas.List.Quantifiers.{position-Some}
use Rattle.std.proofs.lemmas.List.Sums.{fails_before_first}
use Rattle.std.proofs.lemmas.Bool.{eqb-true, eqb-false}
use Rattle.std.proofs.lemmas.Bool.Decides.{nat_tests}
use Rattle.std.proofs.lemmas.Slice.{between_to_end}
use Rattle.frames.specs.Lines.{FirstLine, lines_of, onto_first}

-- whether a byte is a line feed
abbrev feed : ℕ → Bool
feed b = b == 10

-- a line ends where the first line feed stands
pub cut : (s : List ℕ) (i : ℕ) → position feed s ≡ Some i → FirstLine s (take i s) (take (length s - (i + 1)) (drop (i + 1) s))
cut s i e =
    let p = position-Some feed s i 0 e in
    let h : i < length s = p.0 in
    let at : get_or s i 0 ≡ 10 = eqb-true _ _ p.1 in
    let rest : take (length s - (i + 1)) (drop (i + 1) s) ≡ drop (i + 1) s = between_to_end s (i + 1) (length s) (omega arith) in
    let split : drop i s ≡ 10 ∷ drop (i + 1) s = drop_more s i 0 h ∙ ap (λ b. b ∷ drop (i + 1) s) at in
    rw rest
    record {
      some_bytes = omega arith;
      unbroken = All-from_get_or (λ b. b ≡ 10 → ⊥) (take i s) 0 (λ k l t. let b : k < i = omega (arith, simp length-take at l) in eqb-false _ _ (p.2 k b) (sym (get_or-take i s k 0 b) ∙ t));
      whole = inl (sym (take-append-drop i s) ∙ ap (λ r. take i s ++ r) split);
    }

-- or at the end of the input, where none does
pub uncut : (s : List ℕ) → 0 < length s → position feed s ≡ None → FirstLine s s []
uncut s some e = record { some_bytes = some; unbroken = All-from_get_or (λ b. b ≡ 10 → ⊥) s 0 none; whole = inr (refl, refl) }
  where
    none : (k : ℕ) → k < length s → get_or s k 0 ≡ 10 → ⊥
    none k l =
        let past : length s ≤ position_or_len feed s = grind (arith, nat_tests) in
        eqb-false _ _ (fails_before_first feed s k 0 (omega arith))

ended : (l rest : List ℕ) → AllByRecursion (λ b. b ≡ 10 → ⊥) l → lines_of (l ++ (10 ∷ rest)) ≡ l ∷ lines_of rest
ended [] rest h = refl
ended (b ∷ l) rest h = rw (ne_eqb b 10 h.0, ended l rest h.1)

last_line : (l : List ℕ) → 0 < length l → AllByRecursion (λ b. b ≡ 10 → ⊥) l → lines_of l ≡ l ∷ []
last_line [] s h = absurd (omega arith)
last_line (b ∷ []) s h = rw (ne_eqb b 10 h.0)
last_line (b ∷ a ∷ l) s h = rw (ne_eqb b 10 h.0) (ap (onto_first b) (last_line (a ∷ l) (omega arith) h.1))

-- the first line of an input is the first of its lines, and the rest has the others
pub first_of_lines : (input line rest : List ℕ) → FirstLine input line rest → lines_of input ≡ line ∷ lines_of rest
first_of_lines input line rest f = go f.whole
  where
    go : (input ≡ line ++ (10 ∷ rest)) ⊎ ((input ≡ line) × (rest ≡ [])) → lines_of input ≡ line ∷ lines_of rest
    go (inl e) = ap lines_of e ∙ ended line rest f.unbroken
    go (inr e) = ap lines_of e.0 ∙ last_line line (omega (arith, f.some_bytes, ap length e.0)) f.unbroken ∙ ap (λ r. line ∷ lines_of r) (sym e.1)
