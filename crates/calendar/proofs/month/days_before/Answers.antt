-- Each table is computed whole from the months' lengths, and compared as one.
use Rattle.std.proofs.Common.{sym, ap}
use Rattle.calendar.specs.Months.{days_before}
use Rattle.calendar.proofs.month.days_before.Goals as goal

pub returns-then-is_leap : goal.returns-then-is_leap
returns-then-is_leap c = ap days_before (sym c.if-is_leap.true)

pub returns-else-is_leap : goal.returns-else-is_leap
returns-else-is_leap c = ap days_before (sym c.if-is_leap.false)
