-- What is printed of a book that was offered the frames of a log. Assumes nothing.
use Rattle.std.proofs.Common.{◌≡◌, ℕ, ◌+◌, List, [], None, Option, Ok, refl, ap, ◌∙◌, subst, arith}
use Rattle.std.proofs.lemmas.Bool.{le-leb}
use Rattle.rows.specs.Held.{held}
use Rattle.factor.specs.declared.plant.PlantList.{PlantList}
use Rattle.factor.specs.declared.question.Factor.{Factor}
use Rattle.factor.specs.Questions.{Asked}
use Rattle.factor.specs.PlantRows.{first_fit}
use Rattle.emission.specs.Entries.{Table}
use Rattle.months.specs.declared.year.Months.{Months}
use Rattle.journal.specs.Contents.{Contents, Follows}
use Rattle.journal.specs.Figures.{IsLine}
use Rattle.journal.specs.Reads.{year_figure, year_line_read, total_count, net_grams}
use Rattle.journal.specs.Words.{Taken, none_yet}
use Rattle.journal.proofs.Following.{agrees}
use Rattle.journal.proofs.Runs.{year_line_told, total_told}
use Rattle.book.specs.declared.book.Book.{Book}
use Rattle.book.specs.Views.{contents_of}
use Rattle.book.proofs.Held.{sound}
use Rattle.book_log.specs.Log.{OfferedAll}
use Rattle.printed.specs.Text.{year_text}
use Rattle.printed.specs.Printed.{default_table, calls_of, YearPrinted}
use Rattle.printed.proofs.Alone.{year_alone}

-- a list without rows holds nothing
abbrev none : Asked → Option Factor
none q = None

pub empty_list : (list : PlantList) → list.list.length ≡ 0 → ◌≡◌ {A = Asked → Option Factor} (λ q. first_fit q (held list.list.rows.now list.list.length)) none
empty_list list e = λ i q. first_fit q (held list.list.rows.now (e i))

-- a line of the year is read where there is one
line_read : (ms : Months) (l : ℕ) → IsLine l → Ok (year_figure ms l) ≡ year_line_read ms l
line_read ms l w = rw (le-leb 1 l w.from_fuel, le-leb l 7 w.to_heat_sold) refl

-- the text is that of the year, and no other is
pub record Determined (y n : ℕ) (bytes text : List ℕ) : Type 0 where
  pub printed : YearPrinted y n bytes text
  pub alone : (other : List ℕ) → YearPrinted y n bytes other → other ≡ text

pub printed_year : (y n : ℕ) (start : Contents) (book : Book) (bytes text : List ℕ) (table : Table) (taken refused : ℕ)
    → Follows y n [] start → OfferedAll bytes table start taken refused (contents_of book) → table ≡ default_table
    → text ≡ year_text book.year.number taken refused (year_figure book.months) (total_count book.months) (net_grams book.months)
    → Determined y n bytes text
printed_year y n start book bytes text table taken refused opened offered is shown =
    let o = subst (λ (t : Table). OfferedAll bytes t start taken refused (contents_of book)) is offered in
    let follows = o.offered.follows y n [] opened in
    let none : 0 + taken ≡ taken = omega arith in
    let p : YearPrinted y n bytes text = record {
      frames = o.frames;
      rest = o.rest;
      spells = o.spells;
      taken = taken;
      refused = refused;
      takes = subst (Taken y n (calls_of o.frames)) none (o.offered.takes y n 0 [] opened none_yet);
      counted = o.counted;
      figure = year_figure book.months;
      lines = λ l w. year_line_told (contents_of book) (sound book) l (Ok (year_figure book.months l)) (line_read book.months l w) y n (calls_of o.frames) follows;
      count = total_count book.months;
      net = net_grams book.months;
      total = total_told (contents_of book) (sound book) (total_count book.months) (net_grams book.months) refl refl y n (calls_of o.frames) follows;
      is = shown ∙ ap (λ (k : ℕ). year_text k taken refused (year_figure book.months) (total_count book.months) (net_grams book.months)) (agrees follows).year;
    } in
    record { printed = p; alone = λ other q. year_alone p follows q }
