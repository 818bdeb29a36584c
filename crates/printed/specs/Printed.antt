-- What is printed of a log, read off the list of offerings that the log spells.
use Rattle.std.specs.Prelude.{◌≡◌, ℕ, ◌+◌, ◌<◌, ◌≤◌, List, [], ◌++◌, length, drop, None, Ok, ℤ}
use Rattle.months.specs.declared.account.Figure.{Figure}
use Rattle.factor.specs.Questions.{by_tier}
use Rattle.factor.specs.Printed.{printed_answer}
use Rattle.emission.specs.Entries.{Table}
use Rattle.journal.specs.declared.row.JournalEntry.{JournalEntry}
use Rattle.journal.specs.Calls.{Call}
use Rattle.journal.specs.Words.{Taken}
use Rattle.journal.specs.Figures.{IsLine, YearLineTold, TotalTold}
use Rattle.frame_log.specs.Log.{Spells, cut_count, Names, Yearless}
use Rattle.book_log.specs.Log.{offerings}
use Rattle.printed.specs.Text.{year_text, no_year_text}

-- no plant factors, and the printed table for default ones
abbrev pub default_table : Table
default_table = by_tier (λ _. None) printed_answer

-- the calls that frames spell: each is offered, in order
abbrev pub calls_of : List (List ℕ) → List Call
calls_of frames = offerings default_table frames []

-- the text of year y, of whose entries n may be used, after the frames that the bytes spell
pub record YearPrinted (y n : ℕ) (bytes text : List ℕ) : Type 0 where
  pub frames : List (List ℕ)
  pub rest : List ℕ
  pub spells : Spells bytes frames rest
  pub taken : ℕ
  pub refused : ℕ
  pub takes : Taken y n (calls_of frames) taken
  pub counted : taken + refused ≡ length frames + cut_count rest
  pub figure : ℕ → Figure
  pub lines : (l : ℕ) → IsLine l → YearLineTold y n (calls_of frames) l (Ok (figure l))
  pub count : ℕ
  pub net : ℤ
  pub total : TotalTold y n (calls_of frames) count net
  pub is : text ≡ year_text y taken refused figure count net

-- the text of a log
pub data LogPrinted (n : ℕ) (log text : List ℕ) : Type 0 where
  no_year : Yearless log → text ≡ no_year_text → LogPrinted n log text
  of_year : {y : ℕ} → Names log y → YearPrinted y n (drop 2 log) text → LogPrinted n log text

-- the text of a log, of whose entries n may be used, and there is no other, stands in the front of a buffer and has so many bytes
pub record Wrote (n : ℕ) (log before : List ℕ) (size : ℕ) (after : List ℕ) : Type 0 where
  pub text : List ℕ
  pub printed : LogPrinted n log text
  pub alone : (other : List ℕ) → LogPrinted n log other → other ≡ text
  pub long : size ≡ length text
  pub within : size ≤ 576
  pub front : after ≡ text ++ drop size before

-- the buffer has fewer bytes than are needed for whatever is printed, and it and the memory are as they were
pub record TooShort (needed : ℕ) (before after : List ℕ) (memory memory' : List JournalEntry) : Type 0 where
  pub is : needed ≡ 576
  pub short : length before < needed
  pub same : after ≡ before
  pub untouched : memory' ≡ memory
