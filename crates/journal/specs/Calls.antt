-- The calls that feed a year's book, and what a taken call gives.
use Rattle.std.specs.Prelude.{ℕ, List, Ok, Err, Result}
use Rattle.refusal.specs.declared.Refusal.{Refusal}
use Rattle.emission.specs.Entries.{Kept, Table}
use Rattle.months.specs.declared.state.Event.{Event}

-- a frame is offered with the table that its source then holds, an entry is withdrawn by its number, or an event is called for a month
pub data Call : Type 0 where
  offer : List ℕ → Table → Call
  withdraw : ℕ → Call
  turn : ℕ → Event → Call

-- an entry's number and grams, or a month's number
pub data Given : Type 0 where
  an_entry : ℕ → ℕ → Given
  a_month : ℕ → Given

-- of an entry, its number and its grams are told
abbrev pub entry_told : Result (ℕ × Kept) Refusal → Result Given Refusal
entry_told (Ok e) = Ok (an_entry e.0 e.1.grams)
entry_told (Err x) = Err x

abbrev pub month_told : Result ℕ Refusal → Result Given Refusal
month_told (Ok m) = Ok (a_month m)
month_told (Err x) = Err x
