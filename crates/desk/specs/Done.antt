-- What a command does to an open book.
use Rattle.std.specs.Prelude.{◌≡◌, ℕ, cond, nat_lt, Some, None, Option, Result}
use Rattle.refusal.specs.declared.Refusal.{Refusal}
use Rattle.emission.specs.Entries.{Table}
use Rattle.months.specs.declared.state.Event.TheVariants.{Hold as HoldEvent, Release as ReleaseEvent, Close as CloseEvent}
use Rattle.journal.specs.Calls.{Call, offer, withdraw, turn, Given}
use Rattle.journal.specs.Contents.{Contents, Step}
use Rattle.commands.specs.declared.command.Command.{Command}
use Rattle.commands.specs.declared.command.Command.TheVariants.{Open, Rows, Row, Source, Offer, Withdraw, Hold, Release, Close, Line, YearLine, Total, Statement, Print, Month, Record, Quantities, Name, Frame}

-- a month that no byte holds is none, as 0 is: so are a line and a kind
abbrev pub byte_of : ℕ → ℕ
byte_of n = cond (nat_lt n 256) n 0

-- the call of the book that a command is, with the table that the source holds
abbrev pub call_of : Table → Command → Option Call
call_of t (Offer frame) = Some (offer frame.items t)
call_of t (Withdraw number) = Some (withdraw number)
call_of t (Hold month) = Some (turn (byte_of month) HoldEvent)
call_of t (Release month) = Some (turn (byte_of month) ReleaseEvent)
call_of t (Close month) = Some (turn (byte_of month) CloseEvent)
call_of t (Open year entries) = None
call_of t (Rows n) = None
call_of t (Row row) = None
call_of t (Source mode) = None
call_of t (Line month line) = None
call_of t (YearLine line) = None
call_of t Total = None
call_of t (Statement bytes) = None
call_of t Print = None
call_of t (Month year day) = None
call_of t (Record frame) = None
call_of t (Quantities frame) = None
call_of t (Name frame) = None
call_of t (Frame stated) = None

-- the command is no call of the book, whatever the source
abbrev pub NoCall : Command → Type 0
NoCall command = (t : Table) → call_of t command ≡ None

-- the call was made of the book, or, where there is none, the book is as it was
pub data Done (b b' : Contents) : Option Call → Type 0 where
  called : {c : Call} {r : Result Given Refusal} → Step b c r b' → Done b b' (Some c)
  left : b' ≡ b → Done b b' None
