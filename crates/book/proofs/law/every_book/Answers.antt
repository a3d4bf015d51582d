use Rattle.book.proofs.Promise.{site_book}
use Rattle.book.proofs.law.every_book.Goals as goal

pub returns : goal.returns
returns c = site_book
