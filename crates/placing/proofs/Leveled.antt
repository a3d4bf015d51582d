-- From what was settled to the level and the sites of the plan.
use Rattle.std.proofs.Common.{◌≡◌, ℕ, zero, suc, ◌+◌, ◌-◌, ◌<◌, ◌≤◌, List, [], ◌∷◌, map, length, take, ℤ, ◌+ℤ◌, ◌-ℤ◌, Some, None, Ok, Option, sym, refl, ap, ◌∙◌, subst, arith}
use native.Mathlib.Nat.{sub-zero}
use Rattle.std.specs.List.{AllByRecursion}
use Rattle.std.proofs.lemmas.List.{get_or-take, take-map, length-map, length-take}
use Rattle.std.proofs.lemmas.Int.{ints}
use Rattle.chains.specs.Pillars.{listed}
use Rattle.network.specs.declared.answer.Positions.{Positions}
use Rattle.network.specs.declared.answer.ShortChain.{ShortChain}
use Rattle.network.specs.Networks.{position_in}
use Rattle.yard.specs.Grid.{IsReading}
use Rattle.yard.specs.declared.force.InForce.{InForce}
use Rattle.yard.specs.declared.force.Run.{Run}
use Rattle.yard.specs.declared.force.Run.TheVariants.{Feeder, Link}
use Rattle.yard.specs.declared.site.Site.{Site}
use Rattle.runs.specs.Spots.{Spot, origin, steps_between, mast_spot}
use Rattle.runs.specs.Order.{runs_of, run_terms, FirstWith}
use Rattle.runs.specs.Levels.{Placing, site_at, spot_or_origin, price_of, greatest, level_of, NoneKeeps, NoneLower, LeastLevel, ReadAs, Found}
use Rattle.runs.specs.Pricing.{price_at}
use Rattle.runs.specs.Shortness.{run_limit}
use Rattle.runs.specs.Dearest.{site_spot, spots_of, price_by}
use Rattle.runs.proofs.Listed.{all_runs}
use Rattle.runs.proofs.Ruling.{clash_none, chain_floor, fixed_floor}
use Rattle.placing.specs.Networked.{FitsAt}
use Rattle.placing.specs.Settling.{ChainShort, Forced}
use Rattle.placing.specs.Steps.{Placed}

-- no placing that keeps all limits is below the level that was settled
pub forced_floor : (F : InForce) (start L : ℕ) (r : Run) (below : Option ShortChain) → FirstWith (λ s. (run_terms F s).fixed ≡ start) (runs_of F) r →
    Forced F start L below → NoneLower F L
forced_floor F start L r None first e = subst (NoneLower F) (sym e) (fixed_floor F start r first)
forced_floor F start L r (Some c) first (h, W) = chain_floor F L c.chain.from c.chain.to c.gap c.chain.total (listed c.chain.pillars) (omega arith) W

pub clash_refuses : (F : InForce) (c : ShortChain) → ChainShort F (run_limit F) c → NoneKeeps F
clash_refuses F c W = clash_none F c.chain.from c.chain.to c.gap c.chain.total (listed c.chain.pillars) W

pub found_placed : (F : InForce) (L : ℕ) (P : Placing) → NoneLower F L → Found F L P → Placed F L P
found_placed F L P none f = record {
  sites = f.sites;
  in_field = f.in_field;
  keeps = f.keeps;
  level_is = omega (arith, f.no_more, none P f.sites f.keeps);
  least = none;
  largest = λ R s i k e. f.largest R s i k (omega arith);
}

-- the sites of the plan's pillars, at the head of a longer list of sites
module _ (F : InForce) (sites : List Site) (n : ℕ) (count : n ≡ F.count) (many : n ≤ length sites) where
  pub front_sites : Placing
  front_sites = spots_of (take (n - 0) sites)

  at_front : (p : ℕ) → p < F.count → site_at front_sites p ≡ site_at (spots_of sites) p
  unfolding front_sites
  at_front p h = rw (sub-zero, ← take-map site_spot n sites) (get_or-take n (spots_of sites) p origin (omega arith))

  pub front_long : length front_sites ≡ F.count
  unfolding front_sites
  front_long = rw (sub-zero) (length-map (take n sites) site_spot ∙ simp length-take (omega arith))

  pub front_read : (at : Positions) → ((j : ℕ) → j < n → IsReading (site_at (spots_of sites) j).hx (site_at (spots_of sites) j).hy (position_in at j)) → ReadAs F front_sites (position_in at)
  front_read at read j h = subst (λ s. IsReading s.hx s.hy (position_in at j)) (sym (at_front j h)) (read j (omega arith))

  same_prices : (rs : List Run) → AllByRecursion (λ r. price_by F (Some sites) r ≡ price_of F front_sites r) rs → map (price_by F (Some sites)) rs ≡ map (price_of F front_sites) rs
  same_prices [] h = refl
  same_prices (r ∷ rs) h = ap (λ x. x ∷ map (price_by F (Some sites)) rs) h.0 ∙ ap (λ l. price_of F front_sites r ∷ l) (same_prices rs h.1)

  pub front_level : greatest (map (price_by F (Some sites)) (runs_of F)) ≡ level_of F front_sites
  front_level =
      ap greatest (same_prices (runs_of F) (all_runs (λ r. price_by F (Some sites) r ≡ price_of F front_sites r) F
      (λ m p s stands h. ap (λ t. price_at (run_terms F (Feeder m p)) (steps_between (spot_or_origin (mast_spot F m)) t)) (sym (at_front p h)))
      (λ p q o h. ap (λ t. price_at (run_terms F (Link p q)) (steps_between t (site_at (spots_of sites) q))) (sym (at_front p (omega arith))) ∙ ap (λ t. price_at (run_terms F (Link p q)) (steps_between (site_at front_sites p) t)) (sym (at_front q h)))))

-- the sites that were settled, placed
pub placed_at : (F : InForce) (start L : ℕ) (r : Run) (below : Option ShortChain) (at : Positions) (sites : List Site) (n cents : ℕ) →
    FirstWith (λ s. (run_terms F s).fixed ≡ start) (runs_of F) r → Forced F start L below → FitsAt F L (Ok at) → n ≡ F.count → n ≤ length sites →
    ((j : ℕ) → j < n → IsReading (site_at (spots_of sites) j).hx (site_at (spots_of sites) j).hy (position_in at j)) →
    cents ≡ greatest (map (price_by F (Some sites)) (runs_of F)) → (cents ≡ L) × Placed F cents (spots_of (take (n - 0) sites))
unfolding front_sites
placed_at F start L r below at sites n cents first forced fits count many read e =
    let P = front_sites F sites n count many in
    let found = fits.1 P (front_long F sites n count many) (front_read F sites n count many at read) in
    let placed = found_placed F L P (forced_floor F start L r below first forced) found in
    let same : cents ≡ L = e ∙ front_level F sites n count many ∙ placed.level_is in
    (same, subst (λ M. Placed F M P) (sym same) placed)

-- the placing with some readings
abbrev spot_read : ℤ × ℤ → Spot
spot_read r = record { hx = r.0 +ℤ r.1; hy = r.0 -ℤ r.1 }

spots_read : (ℕ → ℤ × ℤ) → ℕ → ℕ → Placing
spots_read at i zero = []
spots_read at i (suc k) = spot_read (at i) ∷ spots_read at (suc i) k

spots_long : (at : ℕ → ℤ × ℤ) (i k : ℕ) → length (spots_read at i k) ≡ k
unfolding spots_read
spots_long at i zero = refl
spots_long at i (suc k) = ap suc (spots_long at (suc i) k)

spots_at : (at : ℕ → ℤ × ℤ) (i k j : ℕ) → j < k → site_at (spots_read at i k) j ≡ spot_read (at (i + j))
unfolding spots_read
spots_at at i zero j h = absurd (omega arith)
spots_at at i (suc k) zero h = ap (λ n. spot_read (at n)) (omega arith)
spots_at at i (suc k) (suc j) h = spots_at at (suc i) k j (omega arith) ∙ ap (λ n. spot_read (at n)) (omega arith)

read_back : (s t : ℤ) → IsReading (s +ℤ t) (s -ℤ t) (s, t)
read_back s t = (omega (arith, ints), omega (arith, ints))

-- the level that was settled is the least, and it is reached
pub least_settled : (F : InForce) (start L : ℕ) (r : Run) (below : Option ShortChain) (at : Positions) → FirstWith (λ s. (run_terms F s).fixed ≡ start) (runs_of F) r →
    Forced F start L below → FitsAt F L (Ok at) → LeastLevel F L
least_settled F start L r below at first forced fits =
    let P = spots_read (position_in at) 0 F.count in
    let read : ReadAs F P (position_in at) = λ j h.
    subst (λ s. IsReading s.hx s.hy (position_in at j)) (sym (spots_at (position_in at) 0 F.count j h ∙ ap (λ n. spot_read (position_in at n)) (omega arith))) (read_back (position_in at j).0 (position_in at j).1) in
    let placed = found_placed F L P (forced_floor F start L r below first forced) (fits.1 P (spots_long (position_in at) 0 F.count) read) in
    record { reached = (P, placed.sites, placed.keeps, placed.level_is); none_lower = placed.least }
