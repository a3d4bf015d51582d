use Rattle.std.proofs.Common.{◌≡◌, sym, ◌∙◌, w32, SFits, rules}
use Rattle.std.proofs.lemmas.Int.{to_z-of_z}
use Rattle.yard.specs.Grid.{distance}
use Rattle.yard.proofs.Readings.{larger_gap}
use Rattle.yard.proofs.site.Site.length.Goals as goal

pub returns : goal.returns
returns c =
    let a = c.args.self.now in
    let b = c.args.other.now in
    let p = c.reading-sum.result in
    let q = c.reading-other_sum.result in
    let f : SFits w32 p.0 = search rules in
    let g : SFits w32 p.1 = search rules in
    let h : SFits w32 q.0 = search rules in
    let k : SFits w32 q.1 = search rules in
    let gap = larger_gap a.hx a.hy b.hx b.hy in
    let steps : c.max.result ≡ distance a.hx a.hy b.hx b.hy =
    rw (c.max.ensures, simp to_z-of_z at c.abs_diff.ensures, simp to_z-of_z at c.abs_diff-2.ensures) (gap p q c.reading-sum.ensures c.reading-other_sum.ensures) in
    record { steps = steps; gaps = λ p q r s. steps ∙ sym (gap p q r s) }
