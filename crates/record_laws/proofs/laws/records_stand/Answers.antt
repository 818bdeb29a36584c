use Rattle.std.proofs.Common.{refl}
use Rattle.record_laws.proofs.Main.{written_back_again, same_frame, lawful_read}
use Rattle.record_laws.proofs.laws.records_stand.Goals as goal

pub returns : goal.returns
returns c = record { zero = refl; written = written_back_again; read = same_frame; lawful = lawful_read }
