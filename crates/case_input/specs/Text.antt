-- How a fault of the input is printed.
use Rattle.std.specs.Prelude.{ℕ, List, codes}
use Rattle.case_input.specs.declared.fault.InputFault.{InputFault}
use Rattle.case_input.specs.declared.fault.InputFault.TheVariants.{CutOff, NoCharacter}

abbrev pub fault_text : InputFault → List ℕ
fault_text CutOff = codes "the input is cut off"
fault_text NoCharacter = codes "no character"
