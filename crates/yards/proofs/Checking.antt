-- The check of a worked yard by a certificate: it gives a proof that the yard is right, or nothing.
use Rattle.std.specs.Prelude.{Some, None}
use Rattle.std.proofs.Common.{◌≡◌, ℕ, ◌+◌, ◌-◌, ◌*◌, ◌%◌, ◌<◌, ◌≤◌, List, [], ◌∷◌, map, length, get_or, ℤ, pos, nat_abs, ◌≤ℤ◌, Some, None, Ok, Err, Option, Result, refl, ap, inr, arith}
use Rattle.std.specs.List.{AllByRecursion}
use Rattle.std.specs.Option.{option_or}
use Rattle.std.proofs.lemmas.List.{length-replicate}
use Rattle.chains.specs.Chains.{Different}
use Rattle.chains.specs.Measures.{Steps}
use Rattle.network.specs.Chain.{AddTo}
use Rattle.yard.specs.declared.edit.Edit.{Edit}
use Rattle.yard.specs.declared.fault.EntryFault.{EntryFault}
use Rattle.yard.specs.declared.fault.Refusal.{Refusal}
use Rattle.yard.specs.declared.fault.Rule.{Rule}
use Rattle.yard.specs.declared.fault.Rule.TheVariants as rule
use Rattle.yard.specs.declared.force.InForce.{InForce}
use Rattle.yard.specs.declared.force.Run.{Run}
use Rattle.yard.specs.declared.force.Run.TheVariants.{Feeder, Link}
use Rattle.yard.specs.Force.{opened_at}
use Rattle.yard.specs.Rows.{refusal_of}
use Rattle.yard.specs.Edits.{entry_fault, answer_of, after_edit}
use Rattle.runs.specs.Spots.{Spot, StandsAt, OnTrenches, steps_between, twice_sum, twice_difference}
use Rattle.runs.specs.Order.{numbers_from, runs_of, run_terms, FirstWith}
use Rattle.runs.specs.Pricing.{KeepsLimit}
use Rattle.runs.specs.Levels.{Placing, site_at, length_of, level_of, KeepsLimits, Rival, BetweenMasts, InTheField, NoneLower, LeastLevel}
use Rattle.runs.specs.Tying.{ties_by, TiedDown, by_feeder, by_link, Ready}
use Rattle.runs.specs.Shortness.{run_limit, reach_of, chain_runs}
use Rattle.runs.proofs.Ruling.{clash_none, chain_floor, fixed_floor}
use Rattle.placing.specs.declared.answer.ChainTold.{ChainTold}
use Rattle.placing.specs.declared.answer.Reason.{Reason}
use Rattle.placing.specs.declared.answer.Reason.TheVariants.{Floor, Fixed, Chain, Clash}
use Rattle.placing.specs.Steps.{Placed, halves_of, PlaceStep, ToldShort, Because, Reasoned, count_told, WhyStep}
use Rattle.yards.specs.Table.{WorkedYard, EachTaken, yard_force, written_over, zero_halves, zero_pillars, RightYard}
use Rattle.yards.proofs.Finding.{◌then◌, when, same, other, less, no_more, no_higher, each, each_below, first_found, standing}
use Rattle.yards.proofs.Capping.{Way, sums, differences, Capped, eligible, capped}

-- What a check is told: for each pillar a way of tying runs to a mast, and what caps its sum and its difference at the level, a way to a mast or, where
-- there is none, the field's edge. Where Place is refused no caps are asked for.
pub record Certificate : Type 0 where
  pub ties : List Way
  pub sum_caps : List (Option Way)
  pub difference_caps : List (Option Way)

abbrev no_way : Way
no_way = record { onward = []; mast = 0 }

-- each edit is taken
abbrev unfaulted : (o : Option EntryFault) → Option (answer_of o ≡ Ok tt)
unfaulted None = Some refl
unfaulted (Some f) = None

abbrev each_taken : (F : InForce) (es : List Edit) → Option (EachTaken F es)
each_taken F [] = Some tt
each_taken F (e ∷ es) = unfaulted (entry_fault F e) then λ h. each_taken (after_edit F e) es then λ more. Some (h, more)

-- the reaches add up
abbrev adds_to : (rs : List Steps) (t : ℕ) → Option (AddTo rs t)
adds_to [] t = same t 0
adds_to (Some r ∷ rs) t = adds_to rs (t - r) then λ more. same t (r + (t - r)) then λ e. Some (t - r, more, e)
adds_to (None ∷ rs) t = None

-- no pillar stands twice
abbrev different : (ps : List ℕ) → Option (Different ps)
different [] = Some tt
different (p ∷ ps) = each (λ q. q ≡ p → ⊥) (λ q. other q p) ps then λ h. different ps then λ more. Some (h, more)

-- a length keeps a limit
abbrev kept : (n : ℕ) (o : Option ℕ) → Option (KeepsLimit n o)
kept n (Some limit) = no_more n limit
kept n None = Some tt

-- two runs are the same
pub ends_same : (of : ℕ → ℕ → Run) {m n p q : ℕ} → m ≡ n → p ≡ q → of m p ≡ of n q
ends_same of e f = cc

abbrev same_run : (r s : Run) → Option (r ≡ s)
same_run (Feeder m p) (Feeder n q) = same m n then λ e. same p q then λ f. Some (ends_same Feeder e f)
same_run (Link m p) (Link n q) = same m n then λ e. same p q then λ f. Some (ends_same Link e f)
same_run _ _ = None

-- the placing that some halves tell
abbrev sites_of : List ℤ → Placing
sites_of [] = []
sites_of (x ∷ []) = []
sites_of (x ∷ y ∷ more) = record { hx = x; hy = y } ∷ sites_of more

abbrev paired : (zs : List ℤ) → Option (halves_of (sites_of zs) ≡ zs)
paired [] = Some refl
paired (x ∷ []) = None
paired (x ∷ y ∷ more) = paired more then λ e. Some (ap (λ (zs : List ℤ). x ∷ y ∷ zs) e)

-- the refusal where limits clash
abbrev of_unkept : (r : Rule) → Option (r ≡ rule.Unkept)
of_unkept rule.Unkept = Some refl
of_unkept _ = None

pub unkept_told : (r : Rule) (p : ℕ) → r ≡ rule.Unkept → p ≡ 0 → refusal_of r p ≡ refusal_of rule.Unkept 0
unkept_told r p e f = cc

abbrev unkept : (r : Refusal) → Option (r ≡ refusal_of rule.Unkept 0)
unkept r = of_unkept r.rule then λ e. same r.place 0 then λ f. Some (unkept_told r.rule r.place e f)

module _ (F : InForce) where
  -- a mast stands and no pillar is loose
  abbrev tied : (p : ℕ) (ps : List ℕ) (m : ℕ) → Option (TiedDown F p)
  tied p [] m =
      standing F m then λ s. less p F.count then λ u. when (ties_by (run_terms F (Feeder m p))) (λ t. by_feeder m p s.0 s.1 u t)
  tied p (q ∷ ps) m =
      less p F.count then λ u. less q F.count then λ v. other p q then λ d. tied q ps m then λ more.
      when (ties_by (run_terms F (Link p q))) (λ t. by_link p q u v d t more)

  -- the first standing mast of which a test holds
  abbrev mast_with : (P : Spot → Type 0) → ((s : Spot) → Option (P s)) → Option ((m : ℕ) × (s : Spot) × StandsAt F m s × P s)
  mast_with P test = first_found (λ m. standing F m then λ s. test s.0 then λ h. Some (m, s.0, s.1, h)) (numbers_from 0 (length F.masts))

  abbrev ready : List Way → Option (Ready F)
  ready ways =
      mast_with (λ s. Unit {0}) (λ s. Some tt) then λ m.
      each_below (TiedDown F) (λ p. tied p (get_or ways p no_way).onward (get_or ways p no_way).mast) F.count then λ all.
      Some ((m.0, m.1, m.2), all)

  abbrev between : (of : Spot → ℤ) (s : Spot) → Option (BetweenMasts F of s)
  between of s =
      mast_with (λ a. of a ≤ℤ of s) (λ a. no_higher (of a) (of s)) then λ low. mast_with (λ a. of s ≤ℤ of a) (λ a. no_higher (of s) (of a)) then λ high.
      Some (low, high)

  -- a chain is too short
  abbrev too_short : (of : Run → Steps) (c : ChainTold) (ps : List ℕ) → Option (ToldShort F of c ps)
  too_short of c ps =
      less c.from c.to then λ lower. standing F c.from then λ here. standing F c.to then λ there. less 0 (length ps) then λ some.
      each (λ p. p < F.count) (λ p. less p F.count) ps then λ inside. different ps then λ apart. same c.gap (steps_between here.0 there.0) then λ gap.
      adds_to (map of (chain_runs c.from ps c.to)) c.total then λ total. less c.total c.gap then λ short.
      Some (record {
        lower_first = lower;
        here = here.0;
        there = there.0;
        from_stands = here.1;
        to_stands = there.1;
        some_pillar = some;
        in_plan = inside;
        different = apart;
        gap_is = gap;
        total_is = total;
        short = short;
      })

  -- the first run with a fixed price
  abbrev FixedAt : ℕ → Run → Type 0
  FixedAt L r = (run_terms F r).fixed ≡ L

  pub first_here : (L : ℕ) (r s : Run) (rs : List Run) → FixedAt L s → s ≡ r → FirstWith (FixedAt L) (s ∷ rs) r
  first_here L r s rs h e = record { before = []; after = rs; split = ap (λ (t : Run). t ∷ rs) e; none_before = tt; holds = rw (← e) h }

  pub first_later : (L : ℕ) (r s : Run) (rs : List Run) → (FixedAt L s → ⊥) → FirstWith (FixedAt L) rs r → FirstWith (FixedAt L) (s ∷ rs) r
  first_later L r s rs h W = record {
    before = s ∷ W.before;
    after = W.after;
    split = ap (λ (l : List Run). s ∷ l) W.split;
    none_before = (h, W.none_before);
    holds = W.holds;
  }

  abbrev first_with : (L : ℕ) (r : Run) (rs : List Run) → Option (FirstWith (FixedAt L) rs r)
  first_with L r [] = None
  first_with L r (s ∷ rs) =
      option_or (same (run_terms F s).fixed L then λ h. same_run s r then λ e. Some (first_here L r s rs h e))
      (other (run_terms F s).fixed L then λ h. first_with L r rs then λ W. Some (first_later L r s rs h W))

  -- why the level is no lower
  abbrev because : (L : ℕ) (a : Reason) (ps : List ℕ) → Option (Because F L a ps)
  because L Floor ps = same L 0
  because L (Fixed r) ps = less 0 L then λ u. first_with L r (runs_of F) then λ W. Some (u, W)
  because L (Chain c) ps =
      less 0 L then λ u. each (λ r. FixedAt L r → ⊥) (λ r. other (run_terms F r).fixed L) (runs_of F) then λ h.
      too_short (reach_of F (L - 1)) c ps then λ S. Some (u, h, S)
  because L (Clash c) ps = None

  -- and so no placing has a lower one
  none_lower : (L : ℕ) (a : Reason) (ps : List ℕ) → Because F L a ps → NoneLower F L
  none_lower L Floor ps h = λ R sites keeps. omega arith
  none_lower L (Fixed r) ps h = fixed_floor F L r h.1
  none_lower L (Chain c) ps h = chain_floor F L c.from c.to c.gap c.total ps h.0 h.2
  none_lower L (Clash c) ps h = absurd h

  because_least : (L : ℕ) (a : Reason) (ps : List ℕ) → LeastLevel F L → Because F L a ps → Reasoned F a ps
  because_least L Floor ps d h = (L, d, h)
  because_least L (Fixed r) ps d h = (L, d, h)
  because_least L (Chain c) ps d h = (L, d, h)
  because_least L (Clash c) ps d h = absurd h

  -- the placing is the one that Place answers
  abbrev CappedThere : ℕ → Placing → ℕ → Type 0
  CappedThere L P p = Capped F L sums p (twice_sum (site_at P p)) × Capped F L differences p (twice_difference (site_at P p))

  abbrev rival : (P : Placing) → Option (Rival F P)
  rival P = same (length P) F.count then λ long. each OnTrenches (λ s. same (nat_abs s.hx % 2) (nat_abs s.hy % 2)) P then λ h. Some (long, h)

  abbrev in_the_field : (P : Placing) → Option (InTheField F P)
  in_the_field P = each _ (λ s. between twice_sum s then λ h. between twice_difference s then λ k. Some (h, k)) P

  abbrev keeps_limits : (P : Placing) → Option (KeepsLimits F P)
  keeps_limits P = each _ (λ r. kept (length_of F P r) (run_terms F r).limit) (runs_of F)

  abbrev caps : (L : ℕ) (P : Placing) (c : Certificate) → Option ((p : ℕ) → p < F.count → CappedThere L P p)
  caps L P c =
      each_below (CappedThere L P)
      (λ p. capped F L sums p (twice_sum (site_at P p)) (get_or c.sum_caps p None) then λ h.
      capped F L differences p (twice_difference (site_at P p)) (get_or c.difference_caps p None) then λ k. Some (h, k)) F.count

  pub placed_by : (L : ℕ) (P : Placing) (a : Reason) (ps : List ℕ) → Because F L a ps → Rival F P → InTheField F P → KeepsLimits F P → level_of F P ≡ L →
      ((p : ℕ) → p < F.count → CappedThere L P p) → Placed F L P
  placed_by L P a ps why sites field keeps level caps = record {
    sites = sites;
    in_field = field;
    keeps = keeps;
    level_is = level;
    least = none_lower L a ps why;
    largest = λ R s f k e p u. let E = eligible F L R s f k e in ((caps p u).0 R E, (caps p u).1 R E);
  }

  abbrev placed : (L : ℕ) (P : Placing) (c : Certificate) (a : Reason) (ps : List ℕ) → Because F L a ps → Option (Placed F L P)
  placed L P c a ps why =
      rival P then λ sites. in_the_field P then λ field. keeps_limits P then λ keeps. same (level_of F P) L then λ level. caps L P c then λ h.
      Some (placed_by L P a ps why sites field keeps level h)

  -- what Place and Why answer
  abbrev Answers : Result ℕ Refusal → List ℤ → Reason → List ℕ → Type 0
  Answers place zs a ps =
      PlaceStep F (zero_halves F) place (written_over zs (zero_halves F)) × WhyStep F (zero_pillars F) (Ok a) (written_over ps (zero_pillars F))

  enough_room : (2 * F.count ≤ length (zero_halves F)) × (F.count ≤ length (zero_pillars F))
  enough_room = (omega (arith, length-replicate (2 * F.count) (pos 0)), omega (arith, length-replicate {A = ℕ} F.count 0))

  pub answers_placed : (L : ℕ) (zs : List ℤ) (a : Reason) (ps : List ℕ) → Ready F → Because F L a ps → Placed F L (sites_of zs) →
      halves_of (sites_of zs) ≡ zs → length zs ≡ 2 * F.count → count_told a ≡ length ps → Answers (Ok L) zs a ps
  answers_placed L zs a ps y why d e long told = (
    (y, enough_room.0, (sites_of zs, d, rw (e, long) refl)),
    (y, enough_room.1, (ps, because_least L a ps (record { reached = (sites_of zs, d.sites, d.keeps, d.level_is); none_lower = d.least }) why, told, refl)),
  )

  pub answers_clash : (r : Refusal) (c : ChainTold) (ps : List ℕ) → Ready F → ToldShort F (run_limit F) c ps → r ≡ refusal_of rule.Unkept 0 →
      c.count ≡ length ps → Answers (Err r) [] (Clash c) ps
  answers_clash r c ps y S e told =
      ((refl, inr (y, enough_room.0, clash_none F c.from c.to c.gap c.total ps S, e)), (y, enough_room.1, (ps, S, told, refl)))

  abbrev answers : (place : Result ℕ Refusal) (zs : List ℤ) (a : Reason) (ps : List ℕ) → Certificate → Ready F → Option (Answers place zs a ps)
  answers (Ok L) zs a ps c y =
      because L a ps then λ why. placed L (sites_of zs) c a ps why then λ d. paired zs then λ e. same (length zs) (2 * F.count) then λ long.
      same (count_told a) (length ps) then λ told. Some (answers_placed L zs a ps y why d e long told)
  answers (Err r) [] (Clash k) ps c y =
      too_short (run_limit F) k ps then λ S. unkept r then λ e. same k.count (length ps) then λ told. Some (answers_clash r k ps y S e told)
  answers (Err r) _ _ ps c y = None

abbrev right : (y : WorkedYard) → Certificate → Option (RightYard y)
right y c =
    each_taken (opened_at 1) y.edits then λ taken. ready (yard_force y) c.ties then λ d.
    answers (yard_force y) y.place y.halves y.reason y.pillars c d then λ a. Some (record { taken = taken; placed = a.0; reasoned = a.1 })

-- each yard of a table by its certificate
abbrev pub each_right : (ys : List WorkedYard) → List Certificate → Option (AllByRecursion RightYard ys)
each_right [] [] = Some tt
each_right (y ∷ ys) (c ∷ cs) = right y c then λ h. each_right ys cs then λ more. Some (h, more)
each_right _ _ = None
