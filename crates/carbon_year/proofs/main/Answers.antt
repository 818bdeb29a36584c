use Rattle.std.proofs.Common.{arith}
use Rattle.printed.proofs.Short.{never_short}
use Rattle.carbon_year.proofs.main.Goals as goal

pub unwrap-length-requires : goal.unwrap-length-requires
unwrap-length-requires c = never_short c.print_log.result _ _ _ _ _ c.print_log.ensures (omega arith)
