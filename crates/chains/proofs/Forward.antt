-- A chain from its last pillar back, and from its first one on. Assumes nothing.
use Rattle.std.proofs.Common.{◌≡◌, ℕ, ◌<◌, Bool, List, [], ◌∷◌, reverse, sym, refl, ap, ◌∙◌, subst}
use mathlib.Core.List.{reverse_aux}
use Rattle.std.specs.List.{AllByRecursion}
use Rattle.chains.specs.Chains.{chain_value, Different, Leads, BestFound, ReadOut, pillar_at}
use Rattle.chains.specs.Along.{value_onward, value_along, last_of, BestTo}
use Rattle.chains.proofs.Reversed.{all_reversed, different_reversed}
use Rattle.chains.proofs.Reading.{told_once}

module _ {M : Type 0} (op : M → M → M) (first : ℕ → M) (run : ℕ → ℕ → M) where
  forward : (v : ℕ) (c ps : List ℕ) → (p : ℕ) × (rest : List ℕ) × (reverse_aux c (v ∷ ps) ≡ p ∷ rest) × (value_along op first run p rest ≡ value_onward op run (chain_value op first run v c) v ps) × (last_of p rest ≡ last_of v ps)
  forward v [] ps = (v, ps, refl, refl, refl)
  forward v (u ∷ c) ps = forward u c (v ∷ ps)

  backward : (P : ℕ → Type 0) (p : ℕ) (c ps : List ℕ) → AllByRecursion P (p ∷ c) → AllByRecursion P ps → (d : List ℕ) × (value_onward op run (chain_value op first run p c) p ps ≡ chain_value op first run (last_of p ps) d) × AllByRecursion P (last_of p ps ∷ d)
  backward P p c [] h k = (c, refl, h)
  backward P p c (q ∷ ps) h k = backward P q (p ∷ c) ps (k.0, h) k.1

  pub best_to : (leq : M → M → Bool) (n : ℕ) (best : ℕ → M) (before : ℕ → ℕ) → BestFound op leq first run n best before → (v : ℕ) → v < n → (c : List ℕ) → Leads op first run n before v (best v) c → (x : M) → x ≡ best v → (pillars : List ℕ) → pillars ≡ reverse (v ∷ c) → BestTo op leq first run n v x pillars
  best_to leq n best before F v h c L x x_is pillars written =
      let f = forward v c [] in
      record {
        start = f.0;
        rest = f.1;
        listed = written ∙ f.2;
        within = subst (AllByRecursion (λ p. p < n)) f.2 (all_reversed (λ p. p < n) (v ∷ c) L.traced.chain);
        different = subst Different f.2 (different_reversed (v ∷ c) L.different);
        ends = f.4;
        worth = f.3 ∙ L.worth ∙ sym x_is;
        least = λ p ps k e.
            let b = backward (λ q. q < n) p [] ps (k.0, tt) k.1 in
            rw (x_is, b.1, ← e) (F.least (last_of p ps) b.0 b.2);
      }

  -- the chain that is read out of a search's table is a best one
  pub best_read : (leq : M → M → Bool) (n : ℕ) (best : ℕ → M) (before : List ℕ) → BestFound op leq first run n best (pillar_at before) → (v : ℕ) → v < n → (x : M) → x ≡ best v → (pillars : List ℕ) → ReadOut before v pillars → BestTo op leq first run n v x pillars
  best_read leq n best before F v h x x_is pillars R =
      let f = F.some v h in
      let same : R.passed ≡ f.0 = told_once (pillar_at before) v v R.passed f.0 refl R.traced.told f.1.traced.told in
      best_to leq n best (pillar_at before) F v h f.0 f.1 x x_is pillars (R.told ∙ ap (λ c. reverse (v ∷ c)) same)
