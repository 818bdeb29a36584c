use Rattle.std.proofs.Common.{◌≡◌, take, sum_by}
use Rattle.months.specs.Lines.{line_number}
use Rattle.months.specs.Accounts.{figure_at}
use Rattle.calendar.specs.Months.{month_numbers}
use Rattle.book.proofs.book.Book.year_figure.Given as goal

-- the months before this one are added
abbrev pub invariant-loop-month : goal.invariant-loop-month
invariant-loop-month l =
    (l.count ≡ sum_by (λ m. (figure_at l.self.months m (line_number l.line)).count) (take l.month-index month_numbers))
    × (l.grams ≡ sum_by (λ m. (figure_at l.self.months m (line_number l.line)).grams) (take l.month-index month_numbers))
