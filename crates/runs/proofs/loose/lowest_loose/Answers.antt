use Rattle.std.proofs.Common.{◌≡◌, ◌-◌, ◌≤◌, length, take, ◌∙◌, arith, rules}
use Rattle.chains.specs.Chains.{value_at, run_at, pillar_at}
use Rattle.chains.specs.Measures.{no_tie, both_tied, rather}
use Rattle.chains.proofs.Tables.{found_in_front}
use Rattle.runs.proofs.Dearer.{front_row, front_at}
use Rattle.runs.proofs.Loosening.{lowest_found}
use Rattle.runs.proofs.loose.lowest_loose.Goals as goal

pub returns : goal.returns
returns c =
    let F = c.args.plan.now.force in
    let n = c.pillars-n.result in
    let entries = c.entries-entries.result in
    let first = take (n - 0) entries in
    let table = c.link_rows-links.result in
    let rows = take (n - 0) table in
    let t = c.in-Ok.found in
    let long : length first ≡ F.count = search rules in
    let many : n ≤ length table = search rules in
    let enough : n ≤ length entries = search rules in
    let best = take (n - 0) t.values in
    let before = take (n - 0) t.before in
    let found = found_in_front no_tie both_tied rather (value_at no_tie first) (run_at no_tie rows) (length first) (n - 0) t.values t.before (omega arith) c.in-Ok.ensures.found.1 in
    lowest_found F (value_at no_tie first) (run_at no_tie rows) (λ p u. front_at entries n p no_tie no_tie (omega (arith, c.pillars-n.ensures)) enough ∙ c.entries-entries.ensures p (omega (arith, c.pillars-n.ensures)))
    (λ p q u v. front_row table n p q no_tie (omega (arith, c.pillars-n.ensures)) many ∙ c.link_rows-links.ensures p q u v)
    (value_at no_tie best) (pillar_at before) (rw long at found) (length best) (omega arith) c.first_untied.result c.first_untied.ensures
