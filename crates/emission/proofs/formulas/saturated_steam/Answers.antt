use Rattle.std.proofs.Common.{arith}
use Rattle.steam.proofs.Values.{bounded}
use Rattle.emission.proofs.formulas.saturated_steam.Goals as goal

pub overflow_mul-enthalpy : goal.overflow_mul-enthalpy
overflow_mul-enthalpy c = let h = rw c.unwrap-enthalpy.ensures at c.saturated.ensures.within in record { fits = omega (arith, (bounded _ _ _ h).narrow) }

pub nonzero_div-enthalpy : goal.nonzero_div-enthalpy
nonzero_div-enthalpy c = let h = rw c.unwrap-enthalpy.ensures at c.saturated.ensures.within in omega (arith, (bounded _ _ _ h).positive)
