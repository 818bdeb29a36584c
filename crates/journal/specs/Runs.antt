-- What a call, and what a reader, says of every list of calls that its book has followed.
use Rattle.std.specs.Prelude.{ℕ, List, ◌∷◌, ℤ, Result}
use Rattle.refusal.specs.declared.Refusal.{Refusal}
use Rattle.months.specs.declared.account.Figure.{Figure}
use Rattle.journal.specs.Calls.{Call, Given}
use Rattle.journal.specs.Words.{Answers}
use Rattle.journal.specs.Contents.{Contents, Follows}
use Rattle.journal.specs.Figures.{LineTold, YearLineTold, TotalTold}

-- the list is followed with the call added to it, and the call is answered what the list before it determines
pub record Extended (y n : ℕ) (h : List Call) (c : Call) (r : Result Given Refusal) (b' : Contents) : Type 0 where
  pub follows : Follows y n (c ∷ h) b'
  pub answers : Answers y n h c r

abbrev pub Extends : Contents → Call → Result Given Refusal → Contents → Type 0
Extends b c r b' = (y n : ℕ) (h : List Call) → Follows y n h b → Extended y n h c r b'

-- what is read is what the list determines
abbrev pub TellsLine : Contents → ℕ → ℕ → Result Figure Refusal → Type 0
TellsLine b m l r = (y n : ℕ) (h : List Call) → Follows y n h b → LineTold y n h m l r

abbrev pub TellsYearLine : Contents → ℕ → Result Figure Refusal → Type 0
TellsYearLine b l r = (y n : ℕ) (h : List Call) → Follows y n h b → YearLineTold y n h l r

abbrev pub TellsTotal : Contents → ℕ → ℤ → Type 0
TellsTotal b count net = (y n : ℕ) (h : List Call) → Follows y n h b → TotalTold y n h count net
