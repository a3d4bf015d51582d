use Rattle.std.proofs.Common.{ℕ, ◌<◌, length, rules}
use Rattle.std.proofs.lemmas.List.{get_or-map}
use Rattle.network.specs.Networks.{position_in}
use Rattle.network.specs.Tables.{Near}
use Rattle.network.proofs.FromFn.{from_fn_at}
use Rattle.yard.specs.Grid.{IsReading}
use Rattle.yard.specs.declared.site.Site.{Site}
use Rattle.runs.specs.Spots.{origin}
use Rattle.runs.specs.Dearest.{site_spot}
use Rattle.placing.proofs.sites.sites_of.Goals as goal

pub returns : goal.returns
returns c j h few near =
    let sites = c.from_fn.result in
    let at = position_in c.args.positions.now in
    let long : j < length sites = search rules in
    let read = from_fn_at (λ (i : ℕ) (s : Site). i < c.args.n → Near (at i) → IsReading s.hx s.hy (at i)) (λ i s q k. search rules) c.from_fn.ensures.items j c.in-Some.origin few h near in
    rw (get_or-map site_spot sites j c.in-Some.origin origin long) read
