-- What the pages that a book keeps say.
use Rattle.std.specs.Prelude.{List, map, vec_items}
use Rattle.placing.specs.Refusals.{place_told, why_told}
use Rattle.book.specs.declared.page.Page.{Page}
use Rattle.book.specs.declared.page.Page.TheVariants.{Edited, Placed, Asked}
use Rattle.book.specs.Pages.{SitePage, edited_by, placed_on, asked_on, entry_told}

abbrev pub page_of : Page → SitePage
page_of (Edited e a) = edited_by e (entry_told a)
page_of (Placed c) = placed_on c.room (place_told c.answer) (vec_items c.list)
page_of (Asked c) = asked_on c.room (why_told c.answer) (vec_items c.list)

abbrev pub pages_of : List Page → List SitePage
pages_of = map page_of
