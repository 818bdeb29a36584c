-- What the standing entries of a list of calls come to, and what a reader of the book is therefore told.
use Rattle.std.specs.Prelude.{◌≡◌, ℕ, ◌+◌, ◌*◌, ◌≤◌, List, ℤ, pos, ◌-ℤ◌, Ok, Err, Result}
use Rattle.refusal.specs.declared.Layer.TheVariants.{Book}
use Rattle.refusal.specs.declared.Refusal.{Refusal}
use Rattle.refusal.specs.Said.{refusal}
use Rattle.calendar.specs.Months.{InMonth}
use Rattle.emission.specs.Parts.{parts_per_gram}
use Rattle.emission.specs.Entries.{Kept, kept_parts}
use Rattle.months.specs.declared.account.Figure.{Figure}
use Rattle.months.specs.Lines.{line_of}
use Rattle.journal.specs.Calls.{Call}
use Rattle.journal.specs.Rules.{IsMonth}
use Rattle.journal.specs.Words.{Taken, Stands}

-- how many entries, their grams, and their exact emission in parts of a gram
pub record Sum : Type 0 where
  pub count : ℕ
  pub grams : ℕ
  pub parts : ℕ

abbrev pub no_sum : Sum
no_sum = record { count = 0; grams = 0; parts = 0 }

-- a sum with one entry more
abbrev pub with : Sum → Kept → Sum
with s e = record { count = s.count + 1; grams = s.grams + e.grams; parts = s.parts + kept_parts e }

-- of the entries numbered 1 to k, those that stand and that P picks come to a sum
pub data AddsUp (y n : ℕ) (h : List Call) (P : Kept → Type 0) : ℕ → Sum → Type 0 where
  none : AddsUp y n h P 0 no_sum
  picked : {k : ℕ} {s : Sum} {e : Kept} → AddsUp y n h P k s → Stands y n h (k + 1) e → P e → AddsUp y n h P (k + 1) (with s e)
  passed : {k : ℕ} {s : Sum} → AddsUp y n h P k s → ((e : Kept) → Stands y n h (k + 1) e → P e → ⊥) → AddsUp y n h P (k + 1) s

-- all standing entries that P picks come to a sum
pub record Standing (y n : ℕ) (h : List Call) (P : Kept → Type 0) (s : Sum) : Type 0 where
  pub taken : ℕ
  pub numbered : Taken y n h taken
  pub adds : AddsUp y n h P taken s

-- an entry of line l, and one of line l in month m
pub record OfLine (l : ℕ) (e : Kept) : Type 0 where
  pub line : line_of e.kind ≡ l

pub record InLine (y m l : ℕ) (e : Kept) : Type 0 where
  pub month : InMonth y e.day m
  pub line : line_of e.kind ≡ l

-- lines 1 to 5 are added to the net total, 6 and 7 are deducted from it
pub record IsAdded (e : Kept) : Type 0 where
  pub line : line_of e.kind ≤ 5

pub record IsDeducted (e : Kept) : Type 0 where
  pub line : 6 ≤ line_of e.kind

abbrev pub Any : Kept → Type 0
Any e = Unit {0}

pub record IsLine (l : ℕ) : Type 0 where
  pub from_fuel : 1 ≤ l
  pub to_heat_sold : l ≤ 7

-- a figure is a sum's count and grams
pub record Figures (f : Figure) (s : Sum) : Type 0 where
  pub count : f.count ≡ s.count
  pub grams : f.grams ≡ s.grams

-- what the calls determine line l of month m to be
pub data LineTold (y n : ℕ) (h : List Call) (m l : ℕ) : Result Figure Refusal → Type 0 where
  told : {f : Figure} {s : Sum} → IsMonth m → IsLine l → Standing y n h (InLine y m l) s → Figures f s → LineTold y n h m l (Ok f)
  no_month : (IsMonth m → ⊥) → LineTold y n h m l (Err (refusal Book 19 0))
  no_line : (IsLine l → ⊥) → LineTold y n h m l (Err (refusal Book 19 0))

-- what they determine line l of the year to be
pub data YearLineTold (y n : ℕ) (h : List Call) (l : ℕ) : Result Figure Refusal → Type 0 where
  told : {f : Figure} {s : Sum} → IsLine l → Standing y n h (OfLine l) s → Figures f s → YearLineTold y n h l (Ok f)
  no_line : (IsLine l → ⊥) → YearLineTold y n h l (Err (refusal Book 19 0))

-- what they determine the net total to be: the count of all that stand, and the grams added less those deducted
pub record TotalTold (y n : ℕ) (h : List Call) (count : ℕ) (net : ℤ) : Type 0 where
  pub all : Sum
  pub added : Sum
  pub deducted : Sum
  pub all_is : Standing y n h Any all
  pub added_is : Standing y n h IsAdded added
  pub deducted_is : Standing y n h IsDeducted deducted
  pub splits : all.count ≡ added.count + deducted.count
  pub counts : count ≡ all.count
  pub nets : net ≡ pos added.grams -ℤ pos deducted.grams

-- the grams lie within half a gram per entry of the exact emission
pub record Near (s : Sum) : Type 0 where
  pub from_below : 2 * (s.grams * parts_per_gram) ≤ 2 * s.parts + s.count * parts_per_gram
  pub from_above : 2 * s.parts ≤ 2 * (s.grams * parts_per_gram) + s.count * parts_per_gram

-- the net grams lie within half a gram per entry of the exact net emission, deductions moved to the other side
pub record NearNet (all added deducted : Sum) : Type 0 where
  pub from_below : 2 * (added.grams * parts_per_gram) + 2 * deducted.parts ≤ 2 * (deducted.grams * parts_per_gram) + 2 * added.parts + all.count * parts_per_gram
  pub from_above : 2 * (deducted.grams * parts_per_gram) + 2 * added.parts ≤ 2 * (added.grams * parts_per_gram) + 2 * deducted.parts + all.count * parts_per_gram
