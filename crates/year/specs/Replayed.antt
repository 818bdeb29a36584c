-- The calls that a list of them comes to, with the tables that its sources hold.
use Rattle.std.specs.Prelude.{ℕ, List, [], ◌∷◌, None, fold, Result, slice_index_or}
use Rattle.refusal.specs.declared.Refusal.{Refusal}
use Rattle.emission.specs.Entries.{Table}
use Rattle.months.specs.declared.state.Event.TheVariants.{Hold as HoldEvent, Release as ReleaseEvent, Close as CloseEvent}
use Rattle.journal.specs.Calls as calls
use Rattle.journal.specs.Contents.{Contents, Step}
use Rattle.year.specs.declared.call.Call.{Call}
use Rattle.year.specs.declared.call.Call.TheVariants.{Offer, Withdraw, Hold, Release, Close}

-- a frame offered with the table at a place, or with one that holds nothing
abbrev pub offer_from : List Table → ℕ → List ℕ → calls.Call
offer_from tables at frame = calls.offer frame (slice_index_or tables at (λ q. None))

abbrev pub call_of : List Table → Call → calls.Call
call_of tables (Offer frame at) = offer_from tables at frame.now
call_of tables (Withdraw number) = calls.withdraw number
call_of tables (Hold month) = calls.turn month HoldEvent
call_of tables (Release month) = calls.turn month ReleaseEvent
call_of tables (Close month) = calls.turn month CloseEvent

-- the newest first
abbrev pub calls_of : List Table → List Call → List calls.Call
calls_of tables cs = fold (λ h c. call_of tables c ∷ h) [] cs

-- a call was made of a book, and answered
pub record Called (c : calls.Call) (b b' : Contents) : Type 0 where
  pub answer : Result calls.Given Refusal
  pub step : Step b c answer b'
