-- What a record is, as a host states it, as a frame holds it, and as it is written.
use Rattle.std.specs.Prelude.{ℕ, ◌/◌, ◌%◌, cond, List, [], ◌∷◌, ◌++◌, length, drop, Some, None, Ok, Err, Option, Result, nat_le}
use Rattle.std.specs.Option.{option_map}
use Rattle.refusal.specs.declared.Refusal.{Refusal}
use Rattle.refusal.specs.declared.Layer.TheVariants.{Record, Book}
use Rattle.refusal.specs.Said.{refusal, then}
use Rattle.frame.specs.Format.{Parts, written, year_named, day_named, share_named, name_answers}
use Rattle.frame.specs.Reading.{frame_of}
use Rattle.reading.specs.declared.sets.ReadingSet.{ReadingSet}
use Rattle.reading.specs.Limited.{lawful_set, first_unlawful}
use Rattle.reading.specs.Layout.{shape_of, set_in, set_bytes}
use Rattle.record.specs.declared.raw.RawRecord.{RawRecord}
use Rattle.kind.specs.Subject.{shape_in}
use Rattle.record.specs.Rules.{Head, head_in, same_shape, share_lawful}

-- a head with readings and share: the set must be the kind's, each reading lawful, and the share as the kind asks, in this order
abbrev pub completed : Head → ReadingSet → Option ℕ → Result RawRecord Refusal
completed h set share =
    cond (same_shape (shape_of set) (shape_in h.kind h.item))
    (cond (lawful_set set)
    (cond (share_lawful h.kind share)
    (Ok (record { year = h.year; day = h.day; kind = h.kind; item = h.item; tier = h.tier; share = share; readings = set }))
    (Err (refusal Record 10 0)))
    (Err (refusal Record 9 (first_unlawful set))))
    (Err (refusal Record 9 0))

-- a stated record, if it is lawful, or its first refusal
unfoldable pub checked : RawRecord → Result RawRecord Refusal
checked r = then (head_in r.year r.day r.kind r.item r.tier) (λ h. completed h r.readings r.share)

-- readings whose number is not that of the kind's set are refused at place 0
abbrev pub with_set : Head → Option ℕ → Option ReadingSet → Result RawRecord Refusal
with_set h share None = Err (refusal Record 9 0)
with_set h share (Some set) = completed h set share

-- the record that a frame's parts name
unfoldable pub record_by : Parts → Result RawRecord Refusal
record_by p =
    then (head_in (year_named p) (day_named p) p.kind p.item p.tier)
    (λ h. with_set h (share_named p) (set_in (shape_in h.kind h.item) p.readings))

-- the record that a byte string holds as a frame
abbrev pub record_in : List ℕ → Result RawRecord Refusal
record_in bs = then (frame_of bs) record_by

-- a number in two bytes, high byte first
abbrev pub two_bytes : ℕ → List ℕ
two_bytes n = n / 256 ∷ n % 256 ∷ []

abbrev pub share_bytes : Option ℕ → Option (List ℕ)
share_bytes = option_map two_bytes

-- the parts of the frame that holds a record and a meter's name
abbrev pub parts_for : RawRecord → List ℕ → Parts
parts_for r name = record {
  when = two_bytes r.year ++ two_bytes r.day;
  kind = r.kind;
  item = r.item;
  tier = r.tier;
  readings = set_bytes r.readings;
  share = share_bytes r.share;
  name = name;
}

-- that frame
abbrev pub record_bytes : RawRecord → List ℕ → List ℕ
record_bytes r name = written (parts_for r name)

-- a frame's length, if the buffer has room for it
abbrev pub fitted : ℕ → ℕ → Result ℕ Refusal
fitted n room = cond (nat_le n room) (Ok n) (Err (refusal Book 20 n))

-- what writing a record and a name into a buffer of that room answers: a long name is refused first, a short buffer last
unfoldable pub write_says : RawRecord → List ℕ → ℕ → Result ℕ Refusal
write_says r name room = then (name_answers name) (λ _. then (checked r) (λ _. fitted (length (record_bytes r name)) room))

-- the buffer after an answer: the frame at its front, or as it was
abbrev pub left : List ℕ → List ℕ → Result ℕ Refusal → List ℕ
left bytes old (Ok n) = bytes ++ drop n old
left bytes old (Err e) = old
