-- What a fault of the readings refuses.
use Rattle.refusal.specs.declared.Refusal.{Refusal}
use Rattle.refusal.specs.declared.Layer.TheVariants.{Record}
use Rattle.refusal.specs.Said.{refusal}
use Rattle.reading.specs.declared.fault.ReadingFault.{ReadingFault}
use Rattle.reading.specs.declared.fault.ReadingFault.TheVariants.{SetWrong, Unlawful}

-- place 0 for the set as a whole, else the reading's number from 1
abbrev pub refusal_of : ReadingFault → Refusal
refusal_of SetWrong = refusal Record 9 0
refusal_of (Unlawful i) = refusal Record 9 i
