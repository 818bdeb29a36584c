use Rattle.std.proofs.Common.{refl}
use Rattle.frame_laws.proofs.Main.{accepts, refuses, refuses_as_frame}
use Rattle.frame_laws.proofs.frames_stand.Goals as goal

pub returns : goal.returns
returns c = record { zero = refl; accepts = accepts; refuses = refuses; layer = refuses_as_frame }
