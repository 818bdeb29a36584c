use Rattle.std.proofs.Common.{take}
use Rattle.std.specs.List.{flat_map}
use Rattle.frame.specs.Written.{field_bytes}
use Rattle.frame.proofs.Puts.{Begun}
use Rattle.frame.proofs.writer.put_all.Given as goal

abbrev pub invariant-loop-field : goal.invariant-loop-field
invariant-loop-field l = Begun l.initial.out (flat_map field_bytes (take l.field-index l.fields)) l.at l.out
