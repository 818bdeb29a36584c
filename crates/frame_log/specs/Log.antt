-- What a log spells, and what its counts are.
use Rattle.std.specs.Prelude.{◌≡◌, ◌≢◌, ℕ, ◌+◌, ◌<◌, ◌≤◌, Bool, true, false, cond, List, [], ◌∷◌, ◌++◌, length, drop, Some, None, Ok, Err, Option, Result, ◌==◌}
use Rattle.std.specs.Borrow.{Bor}
use Rattle.std.specs.List.{AllByRecursion, FoldsTo}
use Rattle.refusal.specs.declared.Refusal.{Refusal}
use Rattle.calendar.specs.Calendar.{year_lawful}
use Rattle.frame.specs.Format.{word}
use Rattle.record.specs.declared.raw.RawRecord.{RawRecord}
use Rattle.record.specs.Records.{two_bytes, record_in}
use Rattle.frame_log.specs.declared.frames.CutOff.{CutOff}
use Rattle.frame_log.specs.declared.frames.Frames.{Frames}

-- a frame after its length
abbrev pub framed : List ℕ → List ℕ
framed frame = two_bytes (length frame) ++ frame

abbrev pub spelled : List (List ℕ) → List ℕ
spelled [] = []
spelled (f ∷ fs) = framed f ++ spelled fs

-- no frame is left: all is read, or a length or a frame is cut off
pub data Ended (rest : List ℕ) : Type 0 where
  all_read : length rest ≡ 0 → Ended rest
  length_cut : length rest ≡ 1 → Ended rest
  frame_cut : 2 ≤ length rest → length rest < 2 + word rest 0 → Ended rest

-- the bytes that frames are still to be read from
abbrev pub left_of : Frames → List ℕ
left_of frames = frames.rest.now

-- nothing at the end, and before it a frame, or a frame that is cut off, after which nothing comes
abbrev pub Gives : Frames → Option (Result (Bor (List ℕ)) CutOff) → Frames → Type 0
Gives before None after = (left_of before ≡ []) × (left_of after ≡ [])
Gives before (Some (Ok frame)) after = (framed frame.now ++ left_of after ≡ left_of before) × (length frame.now < 65536)
Gives before (Some (Err fault)) after = (left_of before ≢ []) × Ended (left_of before) × (left_of after ≡ [])

-- the bytes are these frames, and then an end
pub record Spells (bytes : List ℕ) (frames : List (List ℕ)) (rest : List ℕ) : Type 0 where
  pub is : spelled frames ++ rest ≡ bytes
  pub short : AllByRecursion (λ f. length f < 65536) frames
  pub ended : Ended rest

-- a frame is taken if it reads as a lawful record of the year
abbrev pub of_year : ℕ → Result RawRecord Refusal → Bool
of_year year (Ok r) = r.year == year
of_year year (Err e) = false

abbrev pub taken_by : ℕ → List ℕ → Bool
taken_by year frame = of_year year (record_in frame)

abbrev pub taken_count : ℕ → List (List ℕ) → ℕ
taken_count year [] = 0
taken_count year (f ∷ fs) = cond (taken_by year f) 1 0 + taken_count year fs

abbrev pub refused_count : ℕ → List (List ℕ) → ℕ
refused_count year [] = 0
refused_count year (f ∷ fs) = cond (taken_by year f) 0 1 + refused_count year fs

-- what is cut off counts as one refused
abbrev pub cut_count : List ℕ → ℕ
cut_count [] = 0
cut_count (b ∷ bs) = 1

-- the counts of the bytes after the year
pub record CountedIn (year : ℕ) (bytes : List ℕ) (shown taken refused : ℕ) : Type 0 where
  pub frames : List (List ℕ)
  pub rest : List ℕ
  pub spells : Spells bytes frames rest
  pub year_is : shown ≡ year
  pub taken_is : taken ≡ taken_count year frames
  pub refused_is : refused ≡ refused_count year frames + cut_count rest

-- the counts of a log
pub record Counted (log : List ℕ) (year taken refused : ℕ) : Type 0 where
  pub yearless : length log < 2 → (year ≡ 0) × (taken ≡ 0) × (refused ≡ 0)
  pub unlawful : 2 ≤ length log → year_lawful (word log 0) ≡ false → (year ≡ 0) × (taken ≡ 0) × (refused ≡ 0)
  pub lawful : 2 ≤ length log → year_lawful (word log 0) ≡ true → CountedIn (word log 0) (drop 2 log) year taken refused

-- the log begins with a lawful year
pub record Names (log : List ℕ) (year : ℕ) : Type 0 where
  pub long : 2 ≤ length log
  pub is : year ≡ word log 0
  pub lawful : year_lawful (word log 0) ≡ true

-- the log begins with no lawful year
pub data Yearless (log : List ℕ) : Type 0 where
  year_cut : length log < 2 → Yearless log
  unlawful : 2 ≤ length log → year_lawful (word log 0) ≡ false → Yearless log

-- a taker was handed one frame more, and the frame is counted if it took it
abbrev pub Handed : {T : Type 0} → (T → List ℕ → Bool → T → Type 0) → T × ℕ → List ℕ → T × ℕ → Type 0
Handed answers p frame q = (b : Bool) × answers p.0 frame b q.0 × (q.1 ≡ p.1 + cond b 1 0)

-- a taker was handed every frame that the bytes spell, in order, and took so many
pub record Tallied {T : Type 0} (answers : T → List ℕ → Bool → T → Type 0) (bytes : List ℕ) (before : T) (taken refused : ℕ) (after : T) : Type 0 where
  pub frames : List (List ℕ)
  pub rest : List ℕ
  pub spells : Spells bytes frames rest
  pub calls : FoldsTo {P = T × ℕ} (Handed answers) (before, 0) frames (after, taken)
  pub counted : taken + refused ≡ length frames + cut_count rest

-- bytes spell one list of frames and one rest
abbrev pub SpellsOnce : Type 0
SpellsOnce = (bytes : List ℕ) (fs gs : List (List ℕ)) (r s : List ℕ) → Spells bytes fs r → Spells bytes gs s → (fs ≡ gs) × (r ≡ s)
