-- What holds of the pillars of a list holds of them from the other end. Assumes nothing.
use Rattle.std.proofs.Common.{ℕ, ◌≢◌, List, [], ◌∷◌, reverse, sym}
use mathlib.Core.List.{reverse_aux}
use Rattle.std.specs.List.{AllByRecursion}
use Rattle.std.proofs.ByRecursion.{All-weaker, all_shuffled}
use Rattle.std.proofs.lemmas.List.Sorted.{IsPermutation-reverse}
use Rattle.chains.specs.Chains.{Different}
use Rattle.chains.proofs.State.{both_all}

-- no pillar of c is one of ps
different_back : (c ps : List ℕ) → Different c → Different ps → AllByRecursion (λ q. AllByRecursion (λ p. p ≢ q) ps) c → Different (reverse_aux c ps)
different_back [] ps h k apart = k
different_back (u ∷ c) ps h k apart =
    let both = both_all (λ q. q ≢ u) (λ q. AllByRecursion (λ p. p ≢ q) ps) c h.0 apart.1 in
    different_back c (u ∷ ps) h.1 (apart.0, k) (All-weaker (λ q. (q ≢ u) × AllByRecursion (λ p. p ≢ q) ps) (λ q. AllByRecursion (λ p. p ≢ q) (u ∷ ps)) (λ q b. (λ e. b.0 (sym e), b.1)) c both)

all_trivial : (c : List ℕ) → AllByRecursion (λ q. AllByRecursion (λ p. p ≢ q) []) c
all_trivial [] = tt
all_trivial (u ∷ c) = (tt, all_trivial c)

pub all_reversed : (P : ℕ → Type 0) (c : List ℕ) → AllByRecursion P c → AllByRecursion P (reverse c)
all_reversed P c h = all_shuffled P c (reverse c) (IsPermutation-reverse c) h

pub different_reversed : (c : List ℕ) → Different c → Different (reverse c)
different_reversed c h = different_back c [] h tt (all_trivial c)
