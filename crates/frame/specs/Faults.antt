-- The layer, the number and the place of each fault.
use Rattle.refusal.specs.declared.Refusal.{Refusal}
use Rattle.refusal.specs.declared.Layer.TheVariants.{Frame, Book}
use Rattle.refusal.specs.Said.{refusal}
use Rattle.frame.specs.declared.fault.FrameFault.{FrameFault}
use Rattle.frame.specs.declared.fault.FrameFault.TheVariants.{EndsInside, TagUnknown, TagNotRising, LengthWrong, FieldMissing, BufferShort}

abbrev pub refusal_of : FrameFault → Refusal
refusal_of (EndsInside offset) = refusal Frame 1 offset
refusal_of (TagUnknown offset) = refusal Frame 2 offset
refusal_of (TagNotRising offset) = refusal Frame 3 offset
refusal_of (LengthWrong offset) = refusal Frame 4 offset
refusal_of (FieldMissing tag) = refusal Frame 5 tag
refusal_of (BufferShort needed) = refusal Book 20 needed
