-- The bytes that a `SetBytes` holds.
use Rattle.std.specs.Prelude.{ℕ, List, take}
use Rattle.reading.specs.declared.encoded.SetBytes.{SetBytes}

-- the part of its room that is filled
abbrev pub content : SetBytes → List ℕ
content s = take s.length s.bytes
