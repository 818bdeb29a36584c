-- The layer, the number and the place of each fault.
use Rattle.refusal.specs.declared.Refusal.{Refusal}
use Rattle.refusal.specs.declared.Layer.TheVariants.{Factor}
use Rattle.refusal.specs.Said.{refusal}
use Rattle.factor.specs.declared.fault.FactorFault.{FactorFault}
use Rattle.factor.specs.declared.fault.FactorFault.TheVariants.{FactorMissing, MethaneExceeded, ListFull}

abbrev pub refusal_of : FactorFault → Refusal
refusal_of FactorMissing = refusal Factor 12 0
refusal_of MethaneExceeded = refusal Factor 13 0
refusal_of ListFull = refusal Factor 16 0
