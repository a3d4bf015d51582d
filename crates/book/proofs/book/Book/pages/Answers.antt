use Rattle.book.proofs.Grown.{book_holds}
use Rattle.book.proofs.book.Book.pages.Goals as goal

pub returns-clause-promise : goal.returns-clause-promise
returns-clause-promise c = book_holds _ _ c.args.self.now.whole
