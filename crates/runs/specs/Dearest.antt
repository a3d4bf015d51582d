-- The dearest run of a plan.
use Rattle.std.specs.Prelude.{◌≡◌, ℕ, cond, List, [], ◌∷◌, map, Some, None, Option, nat_le}
use Rattle.yard.specs.declared.force.InForce.{InForce}
use Rattle.yard.specs.declared.force.Run.{Run}
use Rattle.yard.specs.declared.site.Site.{Site}
use Rattle.runs.specs.declared.dearest.Priced.{Priced}
use Rattle.runs.specs.Spots.{Spot}
use Rattle.runs.specs.Order.{run_terms, FirstWith}
use Rattle.runs.specs.Levels.{Placing, length_of, greatest}
use Rattle.runs.specs.Pricing.{price_at}

-- the placing of some sites
abbrev pub site_spot : Site → Spot
site_spot s = record { hx = s.hx; hy = s.hy }

abbrev pub spots_of : List Site → Placing
spots_of sites = map site_spot sites

-- the length of a run where the pillars stand at some sites, and its price; where they stand nowhere, no run has a length
abbrev pub length_at : InForce → Option (List Site) → Run → ℕ
length_at F None r = 0
length_at F (Some sites) r = length_of F (spots_of sites) r

abbrev pub price_by : InForce → Option (List Site) → Run → ℕ
price_by F w r = price_at (run_terms F r) (length_at F w r)

-- the dearest of some runs: the first one that has the greatest price
abbrev pub IsDearest : (Run → ℕ) → List Run → Option Priced → Type 0
IsDearest of rs None = rs ≡ []
IsDearest of rs (Some d) = (d.cents ≡ greatest (map of rs)) × FirstWith (λ s. of s ≡ d.cents) rs d.run

-- the dearest so far and a further run: the dearer, and of equals the earlier
abbrev pub dearer_of : Option Priced → Run → ℕ → Option Priced
dearer_of None r n = Some (record { run = r; cents = n })
dearer_of (Some d) r n = cond (nat_le n d.cents) (Some d) (Some (record { run = r; cents = n }))

abbrev pub dearest_from : (Run → ℕ) → Option Priced → List Run → Option Priced
dearest_from of best [] = best
dearest_from of best (r ∷ rs) = dearest_from of (dearer_of best r (of r)) rs
