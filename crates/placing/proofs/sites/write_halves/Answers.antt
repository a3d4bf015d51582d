use Rattle.std.proofs.Common.{◌≡◌, ap, ◌∙◌, w32, SFits, to_z, of_z, rules}
use Rattle.std.proofs.lemmas.Int.{to_z-of_z}
use Rattle.placing.proofs.Sited.{halves_more}
use Rattle.placing.proofs.sites.write_halves.Goals as goal

pub loop-p-preserved : goal.loop-p-preserved
loop-p-preserved c =
    let s = c.index-sites-p.result in
    let both = c.halves-hx.result in
    let f : SFits w32 both.0 = search rules in
    let g : SFits w32 both.1 = search rules in
    let x : to_z w32 (of_z w32 both.0) ≡ s.hx = to_z-of_z w32 both.0 f ∙ ap (λ h. h.0) c.halves-hx.ensures in
    let y : to_z w32 (of_z w32 both.1) ≡ s.hy = to_z-of_z w32 both.1 g ∙ ap (λ h. h.1) c.halves-hx.ensures in
    rw (x, y) (halves_more c.args.sites.now c.args.list.now c.loop-p.list c.loop-p.p s c.loop-p-test.true c.index-sites-p.is c.requires c.loop-p.invariant)
