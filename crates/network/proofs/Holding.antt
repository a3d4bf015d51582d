-- The chain that holds a pillar down, as the tables tell it. Assumes nothing.
use Rattle.std.specs.Prelude.{Some, None}
use Rattle.std.proofs.Common.{zero, suc, ◌≡◌, ℕ, ◌+◌, ◌-◌, ◌^◌, ◌<◌, ◌≤◌, List, [], ◌∷◌, reverse, length, get_or, sym, refl, ap, ◌∙◌, arith}
use Rattle.chains.specs.Measures.{no_steps, Steps}
use Rattle.chains.specs.Chains.{ReadOut, Unread, pillar_at}
use Rattle.chains.proofs.Reading.{told_once, traced_wider}
use Rattle.network.specs.declared.line.Problem.{Problem}
use Rattle.network.specs.Line.{Tight, TooLow, steps_of, offer_of}
use Rattle.network.specs.Lines.{line_of, HeldDown}
use Rattle.network.proofs.Best.{Way, way, giver_stands, tight}
use Rattle.network.proofs.Sums.{add_parts, limited_same}

too_low_lem : (s : Steps) (a x : ℕ) → TooLow s a x → (s ≡ Some (steps_of s)) × (x + steps_of s < a)
too_low_lem (Some r) a x h = (refl, h)
too_low_lem None a x h = absurd h

-- what stands behind a table counts no steps, whichever of the two is taken for it
pub steps_default : (xs : List Steps) (i : ℕ) → steps_of (get_or xs i None) ≡ steps_of (get_or xs i no_steps)
steps_default [] i = refl
steps_default (x ∷ xs) zero = refl
steps_default (x ∷ xs) (suc i) = steps_default xs i

module _ {P : Problem} {first best : List Steps} {before : List ℕ} {i j : ℕ} (H : HeldDown P first best before i j) where
  narrow : P.width < 2 ^ 64
  narrow = omega (arith, P.shaped.narrow)

  -- the way from 0 by the best chain to the pillar, and on to the point
  abbrev sum : ℕ
  sum = steps_of (get_or best j no_steps) + steps_of ((line_of P).feeder i j)

  limit : ((line_of P).feeder i j ≡ Some (steps_of ((line_of P).feeder i j))) × (sum < (line_of P).at i)
  limit = too_low_lem ((line_of P).feeder i j) ((line_of P).at i) (steps_of (get_or best j no_steps)) H.low

  -- the table tells a chain that twelve entries have room for
  pub holding_told : length before ≡ 12 → Unread before j 12 → ⊥
  holding_told long U =
      let f = H.searched.found.some j H.pillar in
      omega (arith, U f.0 (traced_wider (length P.links.now) (length before) (pillar_at before) j f.0 (omega (arith, P.shaped.few)) f.1.traced), f.1.traced.short, P.shaped.few)

  -- the pillars that were read out
  module _ {out : List ℕ} (R : ReadOut before j out) where
    holding_way : Way (line_of P) (λ v. get_or first v no_steps) i sum out
    holding_way =
        let f = H.searched.found.some j H.pillar in
        let same : R.passed ≡ f.0 = told_once (pillar_at before) j j R.passed f.0 refl R.traced.told f.1.traced.told in
        way (line_of P) (λ v. get_or first v no_steps) (λ v. get_or best v no_steps) (λ v. get_or before v 0) narrow H.searched.starts H.searched.found j i H.pillar H.point (P.shaped.inside i H.point) (steps_of ((line_of P).feeder i j)) limit.0 limit.1 f.0 f.1 out (R.told ∙ ap (λ c. reverse (j ∷ c)) same)

    start_is : get_or out 0 0 ≡ holding_way.start
    start_is = ap (λ xs. get_or xs 0 0) holding_way.listed

    pub holding_start : (0 < length out) × (get_or out 0 0 < length P.links.now)
    holding_start = (omega (arith, ap length holding_way.listed), rw start_is holding_way.within.0)

    pub first_in : get_or out 0 0 < length first
    first_in = omega (arith, H.searched.first_long, holding_start)

    pub holding_giver : (g : ℕ) × (g < length P.places.now) × (get_or first (get_or out 0 0) no_steps ≡ offer_of (line_of P) g (get_or out 0 0))
    holding_giver = rw start_is (giver_stands (line_of P) (λ v. get_or first v no_steps) (λ v. get_or best v no_steps) (λ v. get_or before v 0) narrow H.searched.starts H.searched.found j i H.pillar H.point (P.shaped.inside i H.point) (steps_of ((line_of P).feeder i j)) limit.0 limit.1 out holding_way)

    module _ {g : ℕ} (in_g : g < length P.places.now) (gives : get_or first (get_or out 0 0) no_steps ≡ offer_of (line_of P) g (get_or out 0 0)) where
      gives_start : get_or first holding_way.start no_steps ≡ offer_of (line_of P) g holding_way.start
      gives_start = rw start_is at gives

      pub holding_sub : (line_of P).at g ≤ sum
      holding_sub =
          let p = add_parts (Some ((line_of P).at g)) ((line_of P).feeder g holding_way.start) holding_way.from (sym gives_start ∙ holding_way.from_is) in
          omega (arith, limited_same ((line_of P).at g) p.0 p.2, p.4, holding_way.sums)

      pub holding_tight : Tight (line_of P) g i out (sum - (line_of P).at g)
      holding_tight = tight (line_of P) (λ v. get_or first v no_steps) (λ v. get_or best v no_steps) (λ v. get_or before v 0) narrow H.searched.starts H.searched.found j i H.pillar H.point (P.shaped.inside i H.point) (steps_of ((line_of P).feeder i j)) limit.0 limit.1 out holding_way g in_g gives_start (sum - (line_of P).at g) (omega (arith, holding_sub))
