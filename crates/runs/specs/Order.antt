-- The runs of a plan in run order, and their terms.
use Rattle.std.specs.Prelude.{◌≡◌, ℕ, zero, suc, min, max, List, [], ◌∷◌, ◌++◌, Some, None, Option}
use Rattle.std.specs.List.{AllByRecursion}
use Rattle.std.specs.Option.{unwrap_or}
use Rattle.yard.specs.declared.force.InForce.{InForce}
use Rattle.yard.specs.declared.force.Mast.{Mast}
use Rattle.yard.specs.declared.force.Terms.{Terms}
use Rattle.yard.specs.declared.force.Run.{Run}
use Rattle.yard.specs.declared.force.Run.TheVariants.{Feeder, Link}
use Rattle.yard.specs.Force.{new_terms, mast_at, mast_terms, link_at}

-- so many numbers from n on
abbrev pub numbers_from : ℕ → ℕ → List ℕ
numbers_from n zero = []
numbers_from n (suc k) = n ∷ numbers_from (suc n) k

-- the numbers of the masts that stand, in a list whose first place has the number m
abbrev pub standing_from : ℕ → List (Option Mast) → List ℕ
standing_from m [] = []
standing_from m (Some a ∷ rest) = m ∷ standing_from (suc m) rest
standing_from m (None ∷ rest) = standing_from (suc m) rest

abbrev pub feeders_of : ℕ → List ℕ → List Run
feeders_of m [] = []
feeders_of m (p ∷ ps) = Feeder m p ∷ feeders_of m ps

abbrev pub all_feeders : List ℕ → List ℕ → List Run
all_feeders [] ps = []
all_feeders (m ∷ ms) ps = feeders_of m ps ++ all_feeders ms ps

abbrev pub links_of : ℕ → List ℕ → List Run
links_of p [] = []
links_of p (q ∷ qs) = Link p q ∷ links_of p qs

abbrev pub all_links : List ℕ → List Run
all_links [] = []
all_links (p ∷ ps) = links_of p ps ++ all_links ps

-- feeders by mast then pillar, then links by lower then higher pillar
abbrev pub runs_of : InForce → List Run
runs_of F = all_feeders (standing_from 0 F.masts) (numbers_from 0 F.count) ++ all_links (numbers_from 0 F.count)

-- the terms of a run; a link is one run from either end
abbrev pub terms_or_new : Option Terms → Terms
terms_or_new o = unwrap_or o new_terms

abbrev pub run_terms : InForce → Run → Terms
run_terms F (Feeder m p) = terms_or_new (mast_terms (mast_at F m) p)
run_terms F (Link p q) = link_at F (min p q) (max p q)

-- the first run of a list that has a property
pub record FirstWith (P : Run → Type 0) (all : List Run) (r : Run) : Type 0 where
  pub before : List Run
  pub after : List Run
  pub split : all ≡ before ++ (r ∷ after)
  pub none_before : AllByRecursion (λ s. P s → ⊥) before
  pub holds : P r
