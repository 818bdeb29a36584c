use Rattle.std.proofs.Common.{refl}
use Rattle.statement.proofs.Reading.{reads_back}
use Rattle.statement.proofs.laws.statements_stand.Goals as goal

pub returns : goal.returns
returns c = record { zero = refl; back = reads_back }
