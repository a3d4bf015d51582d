use Rattle.std.proofs.Common.{ap}
use Rattle.book.specs.Pages.{entry_told}
use Rattle.book.proofs.Grown.{complete_more}
use Rattle.book.proofs.book.Book.edit.Goals as goal

pub invariant_of-self-2 : goal.invariant_of-self-2
invariant_of-self-2 c = record {
  whole = complete_more _ _ _ _ _ _ c.args.self.now.whole c.reserve.ensures.items c.push_reserved.ensures.items c.make-answer.ensures.after
      (ap entry_told c.make-answer.ensures.answer);
}
