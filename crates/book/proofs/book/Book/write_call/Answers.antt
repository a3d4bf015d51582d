use Rattle.std.proofs.Common.{sym, refl, rules}
use Rattle.std.proofs.lemmas.Grind.{common_steps}
use Rattle.book.proofs.Grown.{complete_more}
use Rattle.book.proofs.book.Book.write_call.Goals as goal

pub invariant_of-self-2 : goal.invariant_of-self-2
invariant_of-self-2 g c =
    let honest = c.requires.honest _ _ _ _ _ c.call-answer.ensures refl c.copy_from_slice.ensures.items c.page.ensures in
    record { whole = complete_more _ _ _ _ _ _ c.args.self.now.whole c.reserve.ensures.items c.push_reserved.ensures.items (sym honest.1) honest.0 }

pub returns-clause-ok : goal.returns-clause-ok
returns-clause-ok g c =
    let honest = c.requires.honest _ _ _ _ _ c.call-answer.ensures refl c.copy_from_slice.ensures.items c.page.ensures in
    (_, _, _, _, _, refl, refl, refl, refl, refl, c.copy_from_slice.ensures.items, c.call-answer.ensures, c.page.ensures, record { page_added = search (rules, common_steps); force_after = sym honest.1 })
