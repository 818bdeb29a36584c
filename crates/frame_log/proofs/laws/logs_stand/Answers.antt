use Rattle.std.proofs.Common.{refl}
use Rattle.frame_log.proofs.Once.{spells_once}
use Rattle.frame_log.proofs.laws.logs_stand.Goals as goal

pub returns : goal.returns
returns c = record { zero = refl; once = spells_once }
