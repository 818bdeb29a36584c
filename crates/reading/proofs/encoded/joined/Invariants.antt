use Rattle.std.proofs.Common.{◌≡◌, length, ◌*◌, take}
use Rattle.std.specs.List.{flat_map}
use Rattle.reading.specs.Wire.{encode}
use Rattle.reading.proofs.encoded.joined.Given as goal

abbrev pub invariant-loop-x : goal.invariant-loop-x
invariant-loop-x l = record { items : l.bytes.items ≡ flat_map encode (take l.x-index l.readings); filled : length l.bytes.items ≡ 4 * l.x-index }
