use Rattle.std.proofs.Common.{refl}
use Rattle.emission.proofs.Exact.{fuel, carbonate, bought, energy, water, steam, wastewater}
use Rattle.emission.proofs.laws.parts_stand.Goals as goal

pub returns : goal.returns
returns c = record { zero = refl; exact = record { fuel = fuel; carbonate = carbonate; bought = bought; energy = energy; water = water; steam = steam; wastewater = wastewater } }
