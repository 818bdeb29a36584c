-- The law of a year's book, over every list of calls that it has followed, the newest call first.
use Rattle.std.specs.Prelude.{◌≡◌, ℕ, T, List, [], ◌∷◌, ℤ, Ok, Err, Result, ◌≢◌}
use Rattle.refusal.specs.declared.Refusal.{Refusal}
use Rattle.calendar.specs.Calendar.{day_lawful}
use Rattle.frame.specs.Format.{Parts, year_named, day_named}
use Rattle.frame.specs.Reading.{frame_of}
use Rattle.emission.specs.Entries.{Kept, Table}
use Rattle.months.specs.declared.account.Figure.{Figure}
use Rattle.months.specs.declared.state.State.TheVariants.{Closed}
use Rattle.months.specs.Accounts.{figure_at}
use Rattle.journal.specs.Calls.{Call, offer, withdraw, Given}
use Rattle.journal.specs.Rules.{IsMonth}
use Rattle.journal.specs.Words.{StateIs, Stands, Answers}
use Rattle.journal.specs.Contents.{Contents, Step, New, After}
use Rattle.journal.specs.Sound.{Place}
use Rattle.journal.specs.Figures.{Sum, Standing, InLine, IsAdded, IsDeducted, Any, Figures, Near, NearNet, TotalTold}
use Rattle.journal.specs.Reads.{total_count, net_grams}

-- line l of month m counts exactly its standing entries and adds up their grams, which lie within half a gram per entry of their exact emission
pub record LineLaw (y n : ℕ) (h : List Call) (m l : ℕ) (f : Figure) : Type 0 where
  pub sum : Sum
  pub standing : Standing y n h (InLine y m l) sum
  pub alone : (s : Sum) → Standing y n h (InLine y m l) s → s ≡ sum
  pub figures : Figures f sum
  pub near : Near sum

-- the net total counts all standing entries, and keeps that bound to their exact net emission
pub record TotalLaw (y n : ℕ) (h : List Call) (count : ℕ) (net : ℤ) : Type 0 where
  pub told : TotalTold y n h count net
  pub all_alone : (s : Sum) → Standing y n h Any s → s ≡ told.all
  pub added_alone : (s : Sum) → Standing y n h IsAdded s → s ≡ told.added
  pub deducted_alone : (s : Sum) → Standing y n h IsDeducted s → s ≡ told.deducted
  pub near : NearNet told.all told.added told.deducted

-- year y has taken the frame f
pub data Took (y n : ℕ) (f : List ℕ) : List Call → Type 0 where
  newest : {h : List Call} {t : Table} {g : Given} → Answers y n h (offer f t) (Ok g) → Took y n f (offer f t ∷ h)
  earlier : {h : List Call} {c : Call} → Took y n f h → Took y n f (c ∷ h)

-- year y has refused the frame f
pub data Refused (y n : ℕ) (f : List ℕ) (x : Refusal) : List Call → Type 0 where
  newest : {h : List Call} {t : Table} → Answers y n h (offer f t) (Err x) → Refused y n f x (offer f t ∷ h)
  earlier : {h : List Call} {c : Call} → Refused y n f x h → Refused y n f x (c ∷ h)

-- a frame that passes the frame layer names year y and a lawful day of it
pub record NamesDayOf (y : ℕ) (f : List ℕ) : Type 0 where
  pub parts : Parts
  pub reads : frame_of f ≡ Ok parts
  pub year : year_named parts ≡ y
  pub day : T (day_lawful y (day_named parts))

-- the list determines an answer to a call
pub record Determined (y n : ℕ) (h : List Call) (c : Call) : Type 0 where
  pub answer : Result Given Refusal
  pub is : Answers y n h c answer

-- the contents b of a book that has followed the calls h in year y, of whose entries n may be used
pub record Law (y n : ℕ) (h : List Call) (b : Contents) : Type 0 where
  -- the list determines one answer to each call; the book takes exactly the calls that it determines to be taken, and refuses the others by their number
  pub determined : (c : Call) → Determined y n h c
  pub answers : (c : Call) (r : Result Given Refusal) (b' : Contents) → Step b c r b' → Answers y n h c r
  pub one_answer : (c : Call) (r r' : Result Given Refusal) → Answers y n h c r → Answers y n h c r' → r ≡ r'
  -- an entry stands until a withdrawal of it is taken
  pub still : (k j : ℕ) (e : Kept) (x : Refusal) → Stands y n h k e → Answers y n h (withdraw j) (Err x) → Stands y n (withdraw j ∷ h) k e
  pub withdrawn : (k : ℕ) (e : Kept) (g : Given) → Answers y n h (withdraw k) (Ok g) → Stands y n (withdraw k ∷ h) k e → ⊥
  -- its lines and its net total are those of the standing entries
  pub lines : (p : Place) → LineLaw y n h p.month p.line (figure_at b.months p.month p.line)
  pub total : TotalLaw y n h (total_count b.months) (net_grams b.months)
  -- the lines of a month that is closed stay as they are, whatever is called later
  pub closed : (m : ℕ) → IsMonth m → StateIs h m Closed → (later : List Call) (b' : Contents) → After b later b' → (l : ℕ) → figure_at b'.months m l ≡ figure_at b.months m l
  -- a frame that this year took is taken by no year of another number, whatever was called there
  pub own_year : (f : List ℕ) → Took y n f h → (y₂ n₂ : ℕ) (h₂ : List Call) → Took y₂ n₂ f h₂ → y ≡ y₂
  -- a frame that names this year and a lawful day of it was never refused for its date or as of another year
  pub in_date : (f : List ℕ) (x : Refusal) → NamesDayOf y f → Refused y n f x h → (x.number ≢ 6) × (x.number ≢ 14)

-- the law held at the opening and after each call, and each call was answered what the calls before it determine
pub data Throughout (y n : ℕ) : List Call → Contents → Type 0 where
  opened : {b : Contents} → New y n b → Law y n [] b → Throughout y n [] b
  and_then : {h : List Call} {b b' : Contents} {c : Call} {r : Result Given Refusal} → Throughout y n h b → Step b c r b' → Answers y n h c r → Law y n (c ∷ h) b' → Throughout y n (c ∷ h) b'
