-- The numbers of classes and their items.
use Rattle.std.specs.Prelude.{ℕ}
use Rattle.kind.specs.Kinds.{fuel_item, carbonate_item}
use Rattle.factor.specs.declared.question.Class.{Class}
use Rattle.factor.specs.declared.question.Class.TheVariants.{Combustion, Decomposition, Methane, Power, Heat}

abbrev pub class_number : Class → ℕ
class_number (Combustion fuel) = 1
class_number (Decomposition carbonate) = 2
class_number Methane = 3
class_number Power = 4
class_number Heat = 5

-- a fuel's row, a carbonate's item, and 0 for all else
abbrev pub class_item : Class → ℕ
class_item (Combustion fuel) = fuel_item fuel
class_item (Decomposition carbonate) = carbonate_item carbonate
class_item Methane = 0
class_item Power = 0
class_item Heat = 0
