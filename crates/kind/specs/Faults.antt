-- The layer, the number and the place of each fault.
use Rattle.refusal.specs.declared.Refusal.{Refusal}
use Rattle.refusal.specs.declared.Layer.TheVariants.{Record}
use Rattle.refusal.specs.Said.{refusal}
use Rattle.kind.specs.declared.fault.KindFault.{KindFault}
use Rattle.kind.specs.declared.fault.KindFault.TheVariants.{KindUnknown, TierUnknown}

abbrev pub refusal_of : KindFault → Refusal
refusal_of KindUnknown = refusal Record 7 0
refusal_of TierUnknown = refusal Record 8 0
