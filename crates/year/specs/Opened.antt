-- What an opened year promises.
use Rattle.std.specs.Prelude.{ℕ, List}
use Rattle.journal.specs.Calls.{Call}
use Rattle.journal.specs.Contents.{Follows}
use Rattle.book.specs.declared.book.Book.{Book}
use Rattle.book.specs.Views.{contents_of}
use Rattle.year.specs.Law.{Law}

-- for every list of calls, and every book that has followed it from such an opening, the law holds; it speaks of books, whose sums cannot overflow, since a list alone may name tables beyond all limits
abbrev pub Lawful : ℕ → ℕ → Type 0
Lawful y n = (h : List Call) (b : Book) → Follows y n h (contents_of b) → Law y n h (contents_of b)
