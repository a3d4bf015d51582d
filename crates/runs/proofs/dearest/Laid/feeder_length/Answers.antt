use Rattle.std.proofs.Common.{◌≡◌, ℕ, ◌<◌, List, length, get_or, ℤ, ◌+ℤ◌, Some, rules}
use Rattle.std.proofs.lemmas.List.{get_or-map}
use Rattle.yard.specs.Force.{mast_at}
use Rattle.yard.specs.Grid.{distance}
use Rattle.yard.specs.declared.force.InForce.{InForce}
use Rattle.yard.specs.declared.force.Mast.{Mast}
use Rattle.yard.specs.declared.force.Run.TheVariants.{Feeder}
use Rattle.yard.specs.declared.site.Site.{Site}
use Rattle.runs.specs.Spots.{origin}
use Rattle.runs.specs.Dearest.{site_spot, length_at}
use Rattle.runs.proofs.dearest.Laid.feeder_length.Goals as goal

feeder_long : (F : InForce) (sites : List Site) (s : Site) (m p n : ℕ) (a : Mast) (x y : ℤ) → p < length sites → mast_at F m ≡ Some a →
    x ≡ a.at.x +ℤ a.at.x → y ≡ a.at.y +ℤ a.at.y → n ≡ distance x y (get_or sites p s).hx (get_or sites p s).hy → n ≡ length_at F (Some sites) (Feeder m p)
feeder_long F sites s m p n a x y in_p stands is_x is_y e = rw (stands, get_or-map site_spot sites p s origin in_p, ← is_x, ← is_y) e

pub returns : goal.returns
returns c =
    let foot = c.in-Some-at.foot in
    let at = c.args.mast.now.at in
    let x : foot.hx ≡ at.x +ℤ at.x = search rules in
    let y : foot.hy ≡ at.y +ℤ at.y = search rules in
    rw c.in-Some.is
    (feeder_long c.args.self.now.plan.now.force c.in-Some.sites.now c.index-sites-p.result c.args.m c.args.p c.length.result c.args.mast.now foot.hx foot.hy
    (search rules) c.requires.mast x y c.length.ensures.steps)
