use Rattle.std.proofs.Common.{refl, lit<, lit≤}
use Rattle.calendar.proofs.Places.{one_month, fills}
use Rattle.calendar.proofs.stands.calendar_stands.Goals as goal

pub returns : goal.returns
returns c =
    record {
      zero = refl;
      month = one_month;
      year = fills;
      leap = (tt, record { from_january = lit≤ tt; to_december = lit≤ tt; begun = lit≤ tt; before_next = lit< tt });
      common = (refl, record { from_january = lit≤ tt; to_december = lit≤ tt; begun = lit≤ tt; before_next = lit< tt });
      century = refl;
      sixty = (record { from_january = lit≤ tt; to_december = lit≤ tt; begun = lit≤ tt; before_next = lit< tt }, record { from_january = lit≤ tt; to_december = lit≤ tt; begun = lit≤ tt; before_next = lit< tt });
    }
