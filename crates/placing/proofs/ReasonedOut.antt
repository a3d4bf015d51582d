-- From what was settled to the reason that is told.
use Rattle.std.proofs.Common.{◌≡◌, ℕ, ◌-◌, ◌<◌, ◌≤◌, List, [], ◌++◌, length, drop, Ok, sym, refl, subst, arith}
use Rattle.std.specs.List.{AllByRecursion}
use Rattle.std.proofs.ByRecursion.{All-weaker}
use Rattle.chains.specs.Measures.{Steps}
use Rattle.chains.specs.Pillars.{listed}
use Rattle.network.specs.declared.answer.ShortChain.{ShortChain}
use Rattle.yard.specs.declared.force.InForce.{InForce}
use Rattle.yard.specs.declared.force.Run.{Run}
use Rattle.runs.specs.Order.{runs_of, run_terms, FirstWith}
use Rattle.runs.specs.Levels.{LeastLevel}
use Rattle.runs.specs.Shortness.{run_limit, reach_of}
use Rattle.runs.specs.Tying.{Ready}
use Rattle.placing.specs.declared.answer.Reason.TheVariants.{Floor, Fixed, Chain, Clash}
use Rattle.placing.specs.Settling.{ChainShort, told_of}
use Rattle.placing.specs.Steps.{WhyStep}
use Rattle.placing.proofs.Crowding.{few_different}

-- a chain has no more pillars than the plan
pub few_pillars : (F : InForce) (of : Run → Steps) (c : ShortChain) → ChainShort F of c → length (listed c.chain.pillars) ≤ F.count
few_pillars F of c W = few_different F.count (listed c.chain.pillars) W.different W.in_plan

-- what Why answers, by what was settled
module _ (F : InForce) (before : List ℕ) (ready : Ready F) (room : F.count ≤ length before) where
  pub clash_told : (c : ShortChain) (after : List ℕ) → ChainShort F (run_limit F) c → after ≡ listed c.chain.pillars ++ drop (length (listed c.chain.pillars)) before →
      WhyStep F before (Ok (Clash (told_of c))) after
  clash_told c after W e = (ready, room, (listed c.chain.pillars, W, refl, e))

  module _ (start L : ℕ) (fixed : Run) (least : LeastLevel F L) (first : FirstWith (λ r. (run_terms F r).fixed ≡ start) (runs_of F) fixed)
      (paid : AllByRecursion (λ r. (run_terms F r).fixed ≤ start) (runs_of F)) where
    pub floor_told : L ≡ 0 → WhyStep F before (Ok Floor) before
    floor_told e = (ready, room, ([], (L, least, e), refl, refl))

    pub fixed_told : 0 < L → L ≡ start → WhyStep F before (Ok (Fixed fixed)) before
    fixed_told h e = (ready, room, ([], (L, least, (h, subst (λ n. FirstWith (λ r. (run_terms F r).fixed ≡ n) (runs_of F) fixed) (sym e) first)), refl, refl))

    pub chain_told : (c : ShortChain) (after : List ℕ) → start < L → ChainShort F (reach_of F (L - 1)) c → after ≡ listed c.chain.pillars ++ drop (length (listed c.chain.pillars)) before →
        WhyStep F before (Ok (Chain (told_of c))) after
    chain_told c after h W e = (
      ready,
      room,
      (
        listed c.chain.pillars,
        (L, least, (omega arith, All-weaker (λ r. (run_terms F r).fixed ≤ start) (λ r. (run_terms F r).fixed ≡ L → ⊥) (λ r k f. omega (arith, k, f, h)) (runs_of F) paid, W)),
        refl,
        e,
      ),
    )
