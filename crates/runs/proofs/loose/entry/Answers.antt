use Rattle.std.proofs.Common.{ap, ◌∙◌, rules}
use Rattle.std.specs.List.{list_any}
use Rattle.std.proofs.lemmas.Iterator.{YieldsList-from_slice}
use Rattle.std.proofs.lemmas.Iterator.Search.{any_from_yields_List}
use Rattle.chains.specs.Measures.{of_yes}
use Rattle.runs.specs.Tying.{mast_ties}
use Rattle.runs.proofs.loose.entry.Goals as goal

pub returns : goal.returns
returns c =
    let masts = c.masts.result.now in
    let any = any_from_yields_List (mast_ties c.args.p) _ _ _ c.any.ensures.ran (YieldsList-from_slice masts cc) (λ x b q k. search rules) in
    ap of_yes (any ∙ ap (list_any (mast_ties c.args.p)) c.masts.ensures.masts)
