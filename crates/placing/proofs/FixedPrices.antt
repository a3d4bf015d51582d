-- The greatest fixed price, from which the search for the level begins.
use Rattle.std.proofs.Common.{◌≡◌, ◌<◌, ◌≤◌, [], Some, None, sym, ◌∙◌, subst, arith}
use Rattle.std.specs.List.{AllByRecursion}
use Rattle.std.proofs.ByRecursion.{All-weaker}
use Rattle.yard.specs.declared.force.InForce.{InForce}
use Rattle.yard.specs.declared.force.Terms.{Terms}
use Rattle.runs.specs.Spots.{SomeMast}
use Rattle.runs.specs.Order.{runs_of, run_terms, FirstWith}
use Rattle.runs.specs.Pricing.{price_at}
use Rattle.runs.specs.Dearest.{price_by, IsDearest}
use Rattle.runs.specs.declared.dearest.Priced.{Priced}
use Rattle.runs.proofs.Listed.{the_feeder}
use Rattle.runs.proofs.DearestRun.{at_most}

-- a plan with a mast has a run
pub some_run : (F : InForce) → SomeMast F → 0 < F.count → runs_of F ≡ [] → ⊥
some_run F (m, s, stands) h none = the_feeder (λ r. ⊥) F m 0 s (subst (AllByRecursion (λ r. ⊥)) (sym none) tt) stands h

at_no_length : (t : Terms) → price_at t 0 ≡ t.fixed
at_no_length t = omega arith

-- the dearest run where no run has a length is the first with the greatest fixed price
module _ (F : InForce) (d : Priced) (is : IsDearest (price_by F None) (runs_of F) (Some d)) where
  pub first_fixed : FirstWith (λ s. (run_terms F s).fixed ≡ d.cents) (runs_of F) d.run
  first_fixed = record {
    before = is.1.before;
    after = is.1.after;
    split = is.1.split;
    none_before = All-weaker (λ s. price_by F None s ≡ d.cents → ⊥) (λ s. (run_terms F s).fixed ≡ d.cents → ⊥) (λ s n e. n (at_no_length (run_terms F s) ∙ e)) is.1.before is.1.none_before;
    holds = sym (at_no_length (run_terms F d.run)) ∙ is.1.holds;
  }

  pub all_paid : AllByRecursion (λ r. (run_terms F r).fixed ≤ d.cents) (runs_of F)
  all_paid =
      All-weaker (λ s. price_by F None s ≤ d.cents) (λ s. (run_terms F s).fixed ≤ d.cents) (λ s h. subst (λ n. n ≤ d.cents) (at_no_length (run_terms F s)) h) (runs_of F)
      (at_most (price_by F None) (runs_of F) d.cents (omega (arith, is.0)))
