-- What a book holds, what each call makes of it, and what it is to have followed a list of calls.
use Rattle.std.specs.Prelude.{◌≡◌, ℕ, ◌+◌, ◌-◌, ◌≤◌, min, true, false, List, [], ◌∷◌, length, Ok, Err, Result, slice_index_or, slice_set}
use Rattle.refusal.specs.declared.Refusal.{Refusal}
use Rattle.calendar.specs.Months.{InMonth}
use Rattle.kind.specs.Kinds.{numbers_of}
use Rattle.emission.specs.Entries.{Kept, Table}
use Rattle.emission.specs.Views.{kept_of}
use Rattle.months.specs.declared.state.State.{State}
use Rattle.months.specs.declared.state.Event.{Event}
use Rattle.months.specs.declared.line.Line.{Line}
use Rattle.months.specs.declared.account.Change.TheVariants.{Book, Withdraw, Turn}
use Rattle.months.specs.declared.year.Months.{Months}
use Rattle.months.specs.Lines.{line_number, line_of}
use Rattle.months.specs.Accounts.{new_months, state_at, Changed}
use Rattle.journal.specs.declared.row.JournalEntry.{JournalEntry}
use Rattle.journal.specs.Calls.{Call, offer, withdraw, turn, Given, an_entry, a_month}
use Rattle.journal.specs.Rules.{OfferAnswer, WithdrawAnswer, TurnAnswer}

-- the year's number, the months, the whole memory of the journal, and how many of its rows are used
pub record Contents : Type 0 where
  pub year : ℕ
  pub months : Months
  pub memory : List JournalEntry
  pub used : ℕ

-- how many rows of a memory may be used
abbrev pub usable : List JournalEntry → ℕ
usable memory = min 60000 (length memory)

-- the state of a month in the book
abbrev pub InState : Contents → ℕ → State → Type 0
InState b m s = state_at b.months m ≡ s

-- the used row number k, counted from 1
pub record Row (b : Contents) (k : ℕ) (row : JournalEntry) : Type 0 where
  pub counted : 1 ≤ k
  pub used : k ≤ b.used
  pub is : row ≡ slice_index_or b.memory (k - 1) row

-- the row under a number is an entry that stands
pub record Marked (b : Contents) (k : ℕ) (e : Kept) : Type 0 where
  pub row : JournalEntry
  pub at : Row b k row
  pub kept : kept_of row.entry ≡ e
  pub stands : row.stands ≡ true

-- the line of a row's kind
abbrev pub row_line : JournalEntry → ℕ
row_line row = line_of (numbers_of row.entry.kind).0

-- the row is written behind the used ones, and booked in its month and line
pub record Entered (row : JournalEntry) (b b' : Contents) : Type 0 where
  pub line : Line
  pub of_line : line_number line ≡ row_line row
  pub lies : InMonth b.year row.entry.day row.month.number
  pub stands : row.stands ≡ true
  pub year : b'.year ≡ b.year
  pub memory : b'.memory ≡ slice_set b.memory b.used row
  pub used : b'.used ≡ b.used + 1
  pub months : Changed b.months row.month.number (Book line row.entry.grams) true b'.months

abbrev pub withdrawn_row : JournalEntry → JournalEntry
withdrawn_row row = record { entry = row.entry; month = row.month; stands = false }

-- row number k is marked as withdrawn, and taken out of its month and line
pub record Left (k : ℕ) (row : JournalEntry) (b b' : Contents) : Type 0 where
  pub at : Row b k row
  pub line : Line
  pub of_line : line_number line ≡ row_line row
  pub year : b'.year ≡ b.year
  pub memory : b'.memory ≡ slice_set b.memory (k - 1) (withdrawn_row row)
  pub used : b'.used ≡ b.used
  pub months : Changed b.months row.month.number (Withdraw line row.entry.grams) true b'.months

-- month m takes the event, and all else is as it was
pub record Turned (m : ℕ) (v : Event) (b b' : Contents) : Type 0 where
  pub year : b'.year ≡ b.year
  pub memory : b'.memory ≡ b.memory
  pub used : b'.used ≡ b.used
  pub months : Changed b.months m (Turn v) true b'.months

-- a call takes the contents b to others, and is answered so; a refused one leaves them as they were
pub data Step (b : Contents) : Call → Result Given Refusal → Contents → Type 0 where
  offer_refused : {f : List ℕ} {t : Table} {x : Refusal} {b' : Contents} → OfferAnswer b.year (usable b.memory) b.used (InState b) f t (Err x) → b ≡ b' → Step b (offer f t) (Err x) b'
  offer_taken : {f : List ℕ} {t : Table} {k : ℕ} {b' : Contents} (row : JournalEntry) → OfferAnswer b.year (usable b.memory) b.used (InState b) f t (Ok (k, kept_of row.entry)) → Entered row b b' → Step b (offer f t) (Ok (an_entry k row.entry.grams)) b'
  withdrawal_refused : {k : ℕ} {x : Refusal} {b' : Contents} → WithdrawAnswer b.year (InState b) (Marked b) k (Err x) → b ≡ b' → Step b (withdraw k) (Err x) b'
  withdrawal_taken : {k : ℕ} {b' : Contents} (row : JournalEntry) → WithdrawAnswer b.year (InState b) (Marked b) k (Ok (k, kept_of row.entry)) → Left k row b b' → Step b (withdraw k) (Ok (an_entry k row.entry.grams)) b'
  event_refused : {m : ℕ} {v : Event} {x : Refusal} {b' : Contents} → TurnAnswer (InState b) m v (Err x) → b ≡ b' → Step b (turn m v) (Err x) b'
  event_taken : {m : ℕ} {v : Event} {b' : Contents} → TurnAnswer (InState b) m v (Ok m) → Turned m v b b' → Step b (turn m v) (Ok (a_month m)) b'

-- a newly opened year: every month open, no row used
pub record New (y n : ℕ) (b : Contents) : Type 0 where
  pub year : b.year ≡ y
  pub room : usable b.memory ≡ n
  pub months : b.months ≡ new_months
  pub used : b.used ≡ 0

-- the contents are what a list of calls, the newest first, made of others
pub data After (a : Contents) : List Call → Contents → Type 0 where
  start : After a [] a
  then_call : {h : List Call} {b b' : Contents} {c : Call} {r : Result Given Refusal} → After a h b → Step b c r b' → After a (c ∷ h) b'

-- the contents are what the calls made of a new year y of whose entries n may be used
pub record Follows (y n : ℕ) (h : List Call) (b : Contents) : Type 0 where
  pub opened : Contents
  pub new : New y n opened
  pub after : After opened h b
