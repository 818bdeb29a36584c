-- What a run tells of the fields of a frame, one after the other.
use Rattle.std.specs.Prelude.{◌≡◌, ◌≢◌, ℕ, ◌+◌, List, [], length, drop, Some, None, Ok, Err, Option, Result}
use Rattle.frame.specs.declared.fault.FrameFault.{FrameFault}
use Rattle.frame.specs.declared.field.Field.{Field}
use Rattle.frame.specs.declared.field.Run.{Run}
use Rattle.frame.specs.declared.tag.Tag.{Tag}
use Rattle.frame.specs.Reading.{front, told, refuses}
use Rattle.frame.specs.Faults.{refusal_of}
use Rattle.frame.specs.Tags.{number_of}
use Rattle.frame.specs.Views.{tag_of, bytes_of}

-- the bytes from the offset on
abbrev pub left : Run → List ℕ
left run = drop run.offset run.frame.now

-- the number of the tag before, or 0 at the first field
abbrev pub number_above : Option Tag → ℕ
number_above None = 0
number_above (Some tag) = number_of tag

-- the field at the offset, and the run after it
pub record TellsField (run : Run) (field : Field) (after : Run) : Type 0 where
  pub field_is : told (tag_of field) (bytes_of field) (left after) ≡ front run.offset (number_above run.above) (left run)
  pub offset_is : after.offset ≡ run.offset + (3 + length (bytes_of field))
  pub above_is : number_above after.above ≡ tag_of field

-- the fault at the offset
abbrev pub TellsFault : Run → FrameFault → Type 0
TellsFault run fault = refuses (refusal_of fault) ≡ front run.offset (number_above run.above) (left run)

abbrev pub Tells : Run → Result Field FrameFault → Run → Type 0
Tells run (Ok field) after = TellsField run field after
Tells run (Err fault) after = TellsFault run fault

-- nothing at the end, and before it a field, or a fault after which nothing comes
abbrev pub Gives : Run → Option (Result Field FrameFault) → Run → Type 0
Gives run None after = (left run ≡ []) × (left after ≡ [])
Gives run (Some (Ok field)) after = (left run ≢ []) × TellsField run field after
Gives run (Some (Err fault)) after = (left run ≢ []) × TellsFault run fault × (left after ≡ [])
