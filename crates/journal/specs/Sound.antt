-- What holds of every book's contents: each line is the count and the grams of its standing rows, and no row is so large that a sum could overflow.
use Rattle.std.specs.Prelude.{◌≡◌, ℕ, ◌≤◌, Bool, cond, ◌&&◌, List, take, sum_by, ◌==◌}
use Rattle.calendar.specs.Months.{InMonth}
use Rattle.emission.specs.Parts.{most_grams}
use Rattle.months.specs.Accounts.{figure_at, Shaped}
use Rattle.journal.specs.declared.row.JournalEntry.{JournalEntry}
use Rattle.journal.specs.Contents.{Contents, usable, Row, row_line}

-- a line of a month
pub record Place : Type 0 where
  pub month : ℕ
  pub line : ℕ
  pub from_january : 1 ≤ month
  pub to_december : month ≤ 12
  pub from_fuel : 1 ≤ line
  pub to_heat_sold : line ≤ 7

-- the row stands in line l of month m
abbrev pub stands_in : ℕ → ℕ → JournalEntry → Bool
stands_in m l row = row.stands && (row.month.number == m && row_line row == l)

-- the rows that are used
abbrev pub used_rows : Contents → List JournalEntry
used_rows b = take b.used b.memory

abbrev pub row_count : ℕ → ℕ → List JournalEntry → ℕ
row_count m l rows = sum_by (λ row. cond (stands_in m l row) 1 0) rows

abbrev pub row_grams : ℕ → ℕ → List JournalEntry → ℕ
row_grams m l rows = sum_by (λ row. cond (stands_in m l row) row.entry.grams 0) rows

pub record Sound (b : Contents) : Type 0 where
  pub fits : b.used ≤ usable b.memory
  pub shaped : Shaped b.months
  pub counts : (p : Place) → (figure_at b.months p.month p.line).count ≡ row_count p.month p.line (used_rows b)
  pub weighs : (p : Place) → (figure_at b.months p.month p.line).grams ≡ row_grams p.month p.line (used_rows b)
  pub bounded : (k : ℕ) (row : JournalEntry) → Row b k row → row.entry.grams ≤ most_grams
  pub dated : (k : ℕ) (row : JournalEntry) → Row b k row → InMonth b.year row.entry.day row.month.number
