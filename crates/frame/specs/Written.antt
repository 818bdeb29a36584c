-- The fields of a frame as they are written.
use Rattle.std.specs.Prelude.{ℕ, Bool, true, List, [], length, Some, None, Option}
use Rattle.frame.specs.declared.field.Field.{Field}
use Rattle.frame.specs.Format.{field, length_fits}
use Rattle.frame.specs.Views.{tag_of, bytes_of}

-- a field that may be missing
abbrev pub field_bytes : Option Field → List ℕ
field_bytes None = []
field_bytes (Some f) = field (tag_of f) (bytes_of f)

abbrev pub field_fits : Option Field → Bool
field_fits None = true
field_fits (Some f) = length_fits (tag_of f) (length (bytes_of f))
