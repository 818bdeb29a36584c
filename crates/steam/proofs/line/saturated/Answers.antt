use Rattle.std.proofs.Common.{arith}
use Rattle.steam.proofs.Values.{sum_small}
use Rattle.steam.proofs.line.saturated.Goals as goal

pub overflow_mul-result : goal.overflow_mul-result
overflow_mul-result c = omega (arith, sum_small _ _ _ c.in_ok-below.ensures)

pub overflow_mul-result-2 : goal.overflow_mul-result-2
overflow_mul-result-2 c = omega (arith, sum_small _ _ _ c.in_ok-below.ensures)

pub overflow_add-result : goal.overflow_add-result
overflow_add-result c = omega (arith, sum_small _ _ _ c.in_ok-below.ensures)
