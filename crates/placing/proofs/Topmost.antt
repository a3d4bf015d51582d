-- At the highest level it is their limits that keep runs from going 200,000 steps.
use Rattle.std.specs.Prelude.{Some}
use Rattle.std.proofs.Common.{◌≡◌, ℕ, ◌+◌, ◌<◌, ◌≤◌, min, max, true, not, ◌&&◌, leb, List, [], ◌∷◌, map, Some, None, Option, sym, refl, ap, mul-le-mul, arith}
use Rattle.std.specs.List.{AllByRecursion}
use Rattle.std.proofs.lemmas.Bool.{and_parts, leb-true}
use Rattle.network.specs.Chain.{AddTo}
use Rattle.network.proofs.Sums.{add_first, add_cons}
use Rattle.yard.specs.declared.force.InForce.{InForce}
use Rattle.yard.specs.declared.force.Terms.{Terms}
use Rattle.yard.specs.declared.force.Run.{Run}
use Rattle.yard.specs.declared.force.Run.TheVariants.{Feeder, Link}
use Rattle.yard.specs.Force.{mast_at, mast_terms}
use Rattle.yard.specs.Edits.{limit_over}
use Rattle.yard.specs.Sound.{fair, fair_if, feeder_fair, link_fair}
use Rattle.runs.specs.Order.{run_terms, terms_or_new}
use Rattle.runs.specs.Pricing.{KeepsLimit, reach_at, price_at}
use Rattle.placing.specs.Jumping.{reaches_at}
use Rattle.runs.proofs.Reaching.{reached}

-- the limit is the greatest length that it lets pass
at_limit : (o : Option ℕ) (x : ℕ) → KeepsLimit x o → (KeepsLimit (x + 1) o → ⊥) → o ≡ Some x
at_limit (Some l) x keeps past = ap Some (omega arith)
at_limit None x keeps past = absurd (past tt)

-- the highest level pays for a run of 200,000 steps
pays_at_top : (t : Terms) (n : ℕ) → fair t ≡ true → n ≤ 200000 → (t.fixed ≤ 3000000000) × (price_at t n ≤ 3000000000)
pays_at_top t n f h =
    let parts = and_parts (leb t.rate 10000) (leb t.fixed 1000000000 && not (limit_over t.limit)) f in
    let rate : t.rate ≤ 10000 = leb-true t.rate 10000 parts.0 in
    let fixed : t.fixed ≤ 1000000000 = leb-true t.fixed 1000000000 (and_parts (leb t.fixed 1000000000) (not (limit_over t.limit)) parts.1).0 in
    (omega arith, omega (arith, mul-le-mul rate h))

-- at the highest level a run that goes fewer than 200,000 steps goes just its limit
pub top_limit : (t : Terms) (x : ℕ) → fair t ≡ true → reach_at t 3000000000 ≡ Some x → x < 200000 → t.limit ≡ Some x
top_limit t x f e h =
    let exact = reached t 3000000000 (Some x) (sym e) in
    let pays = pays_at_top t (x + 1) f (omega arith) in
    at_limit t.limit x (exact.kept x (omega arith)) (λ k. omega (arith, exact.enough pays.0 (x + 1) pays.1 k))

-- so the runs of a chain that is short at the highest level go just their limits
pub top_limits : (ts : List Terms) (total gap : ℕ) → AllByRecursion (λ t. fair t ≡ true) ts → AddTo (reaches_at ts 3000000000) total → total < gap → gap ≤ 200000 →
    AddTo (map (λ t. t.limit) ts) total
top_limits [] total gap f h short near = h
top_limits (t ∷ ts) total gap f h short near =
    let first = add_first (reach_at t 3000000000) (reaches_at ts 3000000000) total h in
    let here = first.0 in
    let rest = first.1 in
    let sum : total ≡ here + rest = first.4 in
    add_cons t.limit (map (λ u. u.limit) ts) here rest total (top_limit t here f.0 first.2 (omega arith))
    (top_limits ts rest gap f.1 first.3 (omega arith) near) sum

-- the terms of a run are fair, new terms among them
fair_or_new : (o : Option Terms) → fair_if o ≡ true → fair (terms_or_new o) ≡ true
fair_or_new (Some t) h = h
fair_or_new None h = refl

pub run_fair : (F : InForce) → ((m p : ℕ) → feeder_fair F m p ≡ true) → ((p q : ℕ) → link_fair F p q ≡ true) → (r : Run) → fair (run_terms F r) ≡ true
run_fair F feeders links (Feeder m p) = fair_or_new (mast_terms (mast_at F m) p) (feeders m p)
run_fair F feeders links (Link p q) = links (min p q) (max p q)
