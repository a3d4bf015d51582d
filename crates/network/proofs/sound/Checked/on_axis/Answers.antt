use Rattle.std.proofs.Common.{◌≡◌, ℕ, ◌<◌, length, get_or, take, pos, ◌+ℤ◌, ap, ◌∙◌, arith, w64, SFits, rules}
use Rattle.std.proofs.lemmas.Int.{to_z-of_z}
use Rattle.std.proofs.lemmas.List.{get_or-take, length-take-le}
use Rattle.network.specs.Axes.{number_on}
use Rattle.network.specs.Tables.{point_in}
use Rattle.network.specs.Networks.{network_layout}
use Rattle.network.proofs.Raise.{raised}
use Rattle.network.proofs.sound.Checked.on_axis.Goals as goal

pub returns : goal.returns
returns c =
    let N = c.args.self.now.network in
    let n = length N.links.now in
    let x = λ (j : ℕ). get_or c.in_ok-found.found j 0 in
    let f : SFits w64 c.lowest-low.result = search rules in
    let back = to_z-of_z w64 c.lowest-low.result f in
    let long : length c.lift.new.places ≡ length N.points.now = omega arith in
    let cut : length (take n c.in_ok-found.found) ≡ n = search (rules, length-take-le) in
    let at : (j : ℕ) → j < n → get_or c.positions.result j (pos 0) ≡ c.lowest-low.result +ℤ pos (x j) = λ j h. c.positions.ensures.at j (rw cut h) ∙ ap (λ z. z +ℤ pos (get_or (take n c.in_ok-found.found) j 0)) back ∙ ap (λ k. c.lowest-low.result +ℤ pos k) (get_or-take n c.in_ok-found.found j 0 h) in
    (raised (network_layout N) (λ i. number_on c.args.axis (point_in N.points.now i)) c.lowest-low.result c.widest.result (λ i. get_or c.lift.new.places i 0) c.lowest-low.ensures (rw long at c.widest.ensures) (rw back at c.lift.ensures) x (rw long at c.in_ok-found.ensures) c.args.self.now.sound.even _ at, rw cut at c.positions.ensures.behind)
