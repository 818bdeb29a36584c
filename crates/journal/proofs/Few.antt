-- No line of a year, nor all lines together, have more entries than the journal. Assumes nothing.
use Rattle.std.proofs.Common.{ℕ, ◌≤◌, Bool, true, false, cond, ◌&&◌, eqb, List, [], ◌∷◌, length, arith, lit≤}
use Rattle.std.specs.List.{AllByRecursion}
use Rattle.std.proofs.ByRecursion.{sum_by_le}
use Rattle.journal.specs.declared.row.JournalEntry.{JournalEntry}
use Rattle.journal.specs.Contents.{Contents, row_line}
use Rattle.journal.specs.Sound.{Sound, used_rows}
use Rattle.journal.specs.Reads.{year_figure, total_count}
use Rattle.journal.proofs.SumsOver.{among}
use Rattle.journal.proofs.Sums.{rows_sum, line_count, lines_count}
use Rattle.journal.proofs.Soundness.{used_length}

one_most : (b : Bool) → cond b 1 0 ≤ 1
one_most true = omega arith
one_most false = omega arith

each_most : (p : JournalEntry → Bool) (rows : List JournalEntry) → AllByRecursion (λ row. cond (row.stands && p row) 1 0 ≤ 1) rows
each_most p [] = tt
each_most p (row ∷ rows) = (one_most (row.stands && p row), each_most p rows)

rows_few : (p : JournalEntry → Bool) (rows : List JournalEntry) → (rows_sum p rows).count ≤ length rows
rows_few p rows = let most = sum_by_le (λ row. cond (row.stands && p row) 1 0) 1 rows (each_most p rows) in omega (arith, most)

module _ (b : Contents) (sound : Sound b) where
  pub line_few : (l : ℕ) → 1 ≤ l → l ≤ 7 → (year_figure b.months l).count ≤ 60000
  line_few l from to = omega (arith, line_count sound l from to, rows_few (λ row. eqb (row_line row) l) (used_rows b), used_length b sound, sound.fits)

  pub total_few : total_count b.months ≤ 60000
  total_few = omega (arith, lines_count sound 1 7 (lit≤ tt) (lit≤ tt), rows_few (λ row. among 1 7 (row_line row)) (used_rows b), used_length b sound, sound.fits)
