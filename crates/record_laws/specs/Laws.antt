-- Records and frames, there and back.
use Rattle.std.specs.Prelude.{◌≡◌, ℕ, ◌≤◌, List, length, Ok, Result}
use Rattle.refusal.specs.declared.Refusal.{Refusal}
use Rattle.refusal.specs.Said.{then}
use Rattle.frame.specs.Reading.{name_of}
use Rattle.frame_laws.specs.Runs.{Bytes}
use Rattle.reading.specs.Layout.{Held}
use Rattle.record.specs.declared.raw.RawRecord.{RawRecord}
use Rattle.record.specs.Records.{checked, record_in, record_bytes, fitted}

-- the bytes hold this record and this name
abbrev pub ReadsBack : RawRecord → (name bytes : List ℕ) → Type 0
ReadsBack r name bytes = (record_in bytes ≡ Ok r) × (name_of bytes ≡ Ok name)

-- a lawful record of binary32 readings, written with a name, reads back
abbrev pub WrittenReads : Type 0
WrittenReads = (r : RawRecord) (name : List ℕ) → Held r.readings → checked r ≡ Ok r → length name ≤ 16 → ReadsBack r name (record_bytes r name)

-- a frame that reads as a record, written again with its name, is the same frame
abbrev pub ReadWrites : Type 0
ReadWrites = (bs : List ℕ) (r : RawRecord) (name : List ℕ) → Bytes bs → ReadsBack r name bs → record_bytes r name ≡ bs

-- a record that was read is lawful
abbrev pub ReadLawful : Type 0
ReadLawful = (bs : List ℕ) (r : RawRecord) → record_in bs ≡ Ok r → checked r ≡ Ok r

-- what copying a frame answers: its length, its own refusal, or that the buffer is short
abbrev pub copy_says : List ℕ → ℕ → Result ℕ Refusal
copy_says bs room = then (record_in bs) (λ _. fitted (length bs) room)
