-- The layer, the number and the place of each fault; a lower layer's is passed on whole.
use Rattle.refusal.specs.declared.Refusal.{Refusal}
use Rattle.refusal.specs.declared.Layer.TheVariants.{Record}
use Rattle.refusal.specs.Said.{refusal}
use Rattle.frame.specs.Faults as frame
use Rattle.calendar.specs.Faults as calendar
use Rattle.kind.specs.Faults as kind
use Rattle.reading.specs.Refusals as reading
use Rattle.record.specs.declared.fault.RecordFault.{RecordFault}
use Rattle.record.specs.declared.fault.RecordFault.TheVariants.{Frame, Date, Kind, Readings, ShareWrong}

abbrev pub refusal_of : RecordFault → Refusal
refusal_of (Frame e) = frame.refusal_of e
refusal_of (Date e) = calendar.refusal_of e
refusal_of (Kind e) = kind.refusal_of e
refusal_of (Readings e) = reading.refusal_of e
refusal_of ShareWrong = refusal Record 10 0
