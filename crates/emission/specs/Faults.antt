-- The layer, the number and the place of each fault; a factor's is passed on whole.
use Rattle.refusal.specs.declared.Refusal.{Refusal}
use Rattle.refusal.specs.declared.Layer.TheVariants.{Record}
use Rattle.refusal.specs.Said.{refusal}
use Rattle.factor.specs.Faults as factor
use Rattle.emission.specs.declared.fault.EmissionFault.{EmissionFault}
use Rattle.emission.specs.declared.fault.EmissionFault.TheVariants.{OutletAboveInlet, SludgeAboveCod, Factor}

abbrev pub refusal_of : EmissionFault → Refusal
refusal_of OutletAboveInlet = refusal Record 11 1
refusal_of SludgeAboveCod = refusal Record 11 2
refusal_of (Factor e) = factor.refusal_of e
