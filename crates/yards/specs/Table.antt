-- Worked yards: edits of a new plan, and what Place and Why answer after them.
use Rattle.std.specs.Prelude.{◌≡◌, ℕ, ◌*◌, List, [], ◌∷◌, ◌++◌, length, drop, replicate, ℤ, pos, negsuc, Ok, Err, Result}
use Rattle.std.specs.List.{AllByRecursion}
use Rattle.yard.specs.declared.edit.EntryTerms.{EntryTerms}
use Rattle.yard.specs.declared.edit.Edit.{Edit}
use Rattle.yard.specs.declared.edit.Edit.TheVariants.{Open, Raise, Feeder, Link}
use Rattle.yard.specs.declared.force.InForce.{InForce}
use Rattle.yard.specs.declared.force.Run.TheVariants as run
use Rattle.yard.specs.declared.fault.Refusal.{Refusal}
use Rattle.yard.specs.declared.fault.Rule.TheVariants as rule
use Rattle.yard.specs.Force.{opened_at}
use Rattle.yard.specs.Rows.{refusal_of}
use Rattle.yard.specs.Edits.{answered, after_edit}
use Rattle.placing.specs.declared.answer.ChainTold.{ChainTold}
use Rattle.placing.specs.declared.answer.Reason.{Reason}
use Rattle.placing.specs.declared.answer.Reason.TheVariants.{Floor, Fixed, Chain, Clash}
use Rattle.placing.specs.Steps.{PlaceStep, WhyStep}

-- A yard by its edits; what Place answers, and the halves that it writes; what Why answers, and the pillars that it writes.
pub record WorkedYard : Type 0 where
  pub edits : List Edit
  pub place : Result ℕ Refusal
  pub halves : List ℤ
  pub reason : Reason
  pub pillars : List ℕ

-- what is in force after some edits, one after the other
abbrev pub after_edits : InForce → List Edit → InForce
after_edits F [] = F
after_edits F (e ∷ es) = after_edits (after_edit F e) es

abbrev pub yard_force : WorkedYard → InForce
yard_force y = after_edits (opened_at 1) y.edits

-- no edit is refused
abbrev pub EachTaken : InForce → List Edit → Type 0
EachTaken F [] = Unit {0}
EachTaken F (e ∷ es) = (answered F e ≡ Ok tt) × EachTaken (after_edit F e) es

-- a list with these entries written at its head
abbrev pub written_over : {X : Type 0} → List X → List X → List X
written_over xs before = xs ++ drop (length xs) before

-- the lists that Place and Why are given: zeros, as many as they need
abbrev pub zero_halves : InForce → List ℤ
zero_halves F = replicate (2 * F.count) (pos 0)

abbrev pub zero_pillars : InForce → List ℕ
zero_pillars F = replicate F.count 0

pub record RightYard (y : WorkedYard) : Type 0 where
  pub taken : EachTaken (opened_at 1) y.edits
  pub placed : PlaceStep (yard_force y) (zero_halves (yard_force y)) y.place (written_over y.halves (zero_halves (yard_force y)))
  pub reasoned : WhyStep (yard_force y) (zero_pillars (yard_force y)) (Ok y.reason) (written_over y.pillars (zero_pillars (yard_force y)))

-- terms that an edit states: a rate and a fixed price with no limit, or a limit alone
abbrev pub priced_terms : ℕ → ℕ → EntryTerms
priced_terms rate fixed = record { rate = rate; fixed = fixed; limit = 4294967295 }

abbrev pub limit_terms : ℕ → EntryTerms
limit_terms limit = record { rate = 0; fixed = 0; limit = limit }

-- a chain that is told: its masts, its gap, its total and how many pillars it has
abbrev pub told_chain : ℕ → ℕ → ℕ → ℕ → ℕ → ChainTold
told_chain from to gap total count = record { from = from; to = to; gap = gap; total = total; count = count }

-- the dearer rate draws the pillar nearer to its mast
abbrev pub two_rates : WorkedYard
two_rates = record {
  edits = Open 1 ∷ Raise 0 (pos 0) (pos 0) ∷ Raise 1 (pos 10) (pos 0) ∷ Feeder 0 0 (priced_terms 3 0) ∷ Feeder 1 0 (priced_terms 2 0) ∷ [];
  place = Ok 12;
  halves = pos 8 ∷ pos 0 ∷ [];
  reason = Chain (told_chain 0 1 10 8 1);
  pillars = 0 ∷ [];
}

-- the middle of a trench square
abbrev pub four_corners : WorkedYard
four_corners = record {
  edits =
      Open 1 ∷ Raise 0 (pos 0) (pos 0) ∷ Raise 1 (pos 1) (pos 0) ∷ Raise 2 (pos 0) (pos 1) ∷ Raise 3 (pos 1) (pos 1) ∷
      Feeder 0 0 (priced_terms 1 0) ∷ Feeder 1 0 (priced_terms 1 0) ∷ Feeder 2 0 (priced_terms 1 0) ∷ Feeder 3 0 (priced_terms 1 0) ∷ [];
  place = Ok 1;
  halves = pos 1 ∷ pos 1 ∷ [];
  reason = Chain (told_chain 0 3 2 0 1);
  pillars = 0 ∷ [];
}

-- no placing keeps both limits
abbrev pub clashing_limits : WorkedYard
clashing_limits = record {
  edits = Open 1 ∷ Raise 0 (pos 0) (pos 0) ∷ Raise 1 (pos 10) (pos 0) ∷ Feeder 0 0 (limit_terms 4) ∷ Feeder 1 0 (limit_terms 5) ∷ [];
  place = Err (refusal_of rule.Unkept 0);
  halves = [];
  reason = Clash (told_chain 0 1 10 9 1);
  pillars = 0 ∷ [];
}

-- one placing keeps both limits
abbrev pub limits_that_just_meet : WorkedYard
limits_that_just_meet = record {
  edits = Open 1 ∷ Raise 0 (pos 0) (pos 0) ∷ Raise 1 (pos 10) (pos 0) ∷ Feeder 0 0 (limit_terms 5) ∷ Feeder 1 0 (limit_terms 5) ∷ [];
  place = Ok 0;
  halves = pos 10 ∷ pos 0 ∷ [];
  reason = Floor;
  pillars = [];
}

-- a chain of two feeders and a link
abbrev pub two_pillars_in_a_row : WorkedYard
two_pillars_in_a_row = record {
  edits =
      Open 2 ∷ Raise 0 (pos 0) (pos 0) ∷ Raise 1 (pos 12) (pos 0) ∷
      Feeder 0 0 (priced_terms 1 0) ∷ Feeder 1 1 (priced_terms 1 0) ∷ Link 0 1 (priced_terms 2 0) ∷ [];
  place = Ok 5;
  halves = pos 10 ∷ pos 0 ∷ pos 14 ∷ pos 0 ∷ [];
  reason = Chain (told_chain 0 1 12 10 2);
  pillars = 0 ∷ 1 ∷ [];
}

-- the pillar stands at the only mast, and the fixed price is the level
abbrev pub fixed_price_alone : WorkedYard
fixed_price_alone = record {
  edits = Open 1 ∷ Raise 0 (pos 7) (negsuc 1) ∷ Feeder 0 0 (priced_terms 5 100) ∷ [];
  place = Ok 100;
  halves = pos 14 ∷ negsuc 3 ∷ [];
  reason = Fixed (run.Feeder 0 0);
  pillars = [];
}

-- what decides is the field's edge, and no run
abbrev pub one_far_limit : WorkedYard
one_far_limit = record {
  edits =
      Open 1 ∷ Raise 0 (pos 0) (pos 0) ∷ Raise 1 (pos 10) (pos 0) ∷ Raise 2 (pos 0) (pos 10) ∷ Raise 3 (pos 10) (pos 10) ∷
      Feeder 0 0 (limit_terms 200000) ∷ [];
  place = Ok 0;
  halves = pos 30 ∷ pos 10 ∷ [];
  reason = Floor;
  pillars = [];
}

-- the largest rates and fixed prices, over the longest way that masts can be apart
abbrev pub largest_prices : WorkedYard
largest_prices = record {
  edits =
      Open 1 ∷ Raise 0 (negsuc 49999) (negsuc 49999) ∷ Raise 1 (pos 50000) (pos 50000) ∷
      Feeder 0 0 (priced_terms 10000 1000000000) ∷ Feeder 1 0 (priced_terms 10000 1000000000) ∷ [];
  place = Ok 2000000000;
  halves = pos 0 ∷ pos 0 ∷ [];
  reason = Chain (told_chain 0 1 200000 199998 1);
  pillars = 0 ∷ [];
}

abbrev pub worked_yards : List WorkedYard
worked_yards =
    two_rates ∷ four_corners ∷ clashing_limits ∷ limits_that_just_meet ∷ two_pillars_in_a_row ∷ fixed_price_alone ∷ one_far_limit ∷ largest_prices ∷ []

-- the whole table is right
abbrev pub WorkedYardsRight : Type 0
WorkedYardsRight = AllByRecursion RightYard worked_yards
