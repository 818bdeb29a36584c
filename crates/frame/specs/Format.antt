-- The format of a frame, as it is written.
use Rattle.std.specs.Prelude.{ℕ, ◌+◌, ◌*◌, ◌/◌, ◌%◌, Bool, true, cond, ◌&&◌, ◌||◌, List, [], ◌∷◌, ◌++◌, length, drop, Some, None, Ok, Err, Option, Result, ◌==◌, nat_le, slice_index}
use Rattle.refusal.specs.declared.Refusal.{Refusal}
use Rattle.refusal.specs.declared.Layer.TheVariants.{Frame, Book}
use Rattle.refusal.specs.Said.{refusal}

-- the tags of a frame's fields are 1 to 7
abbrev pub known : ℕ → Bool
known tag = nat_le 1 tag && nat_le tag 7

-- how many bytes a field of each tag may hold: one to five readings, a name of 1 to 16 bytes
abbrev pub length_fits : ℕ → ℕ → Bool
length_fits tag n =
    cond (tag == 1) (n == 4)
    (cond (tag == 2 || (tag == 3 || tag == 4)) (n == 1)
    (cond (tag == 5) (n == 4 || (n == 8 || (n == 12 || (n == 16 || n == 20))))
    (cond (tag == 6) (n == 2) (nat_le 1 n && nat_le n 16))))

-- a field: its tag, its length in two bytes, high byte first, and its bytes
abbrev pub field : ℕ → List ℕ → List ℕ
field tag bs = tag ∷ length bs / 256 ∷ length bs % 256 ∷ bs

-- what a frame holds: year and day, kind, item, tier letter, readings, share, and the meter's name, empty where it has none
pub record Parts : Type 0 where
  pub when : List ℕ
  pub kind : ℕ
  pub item : ℕ
  pub tier : ℕ
  pub readings : List ℕ
  pub share : Option (List ℕ)
  pub name : List ℕ

-- a field that may be missing
abbrev pub optional : ℕ → Option (List ℕ) → List ℕ
optional tag None = []
optional tag (Some bs) = field tag bs

-- an empty name writes no field
abbrev pub named : List ℕ → Option (List ℕ)
named [] = None
named (b ∷ bs) = Some (b ∷ bs)

-- the frame that holds these parts
unfoldable pub written : Parts → List ℕ
written p =
    field 1 p.when ++ (field 2 (p.kind ∷ []) ++ (field 3 (p.item ∷ []) ++ (field 4 (p.tier ∷ []) ++ (field 5 p.readings
    ++ (optional 6 p.share ++ optional 7 (named p.name))))))

abbrev pub optional_fits : ℕ → Option (List ℕ) → Bool
optional_fits tag None = true
optional_fits tag (Some bs) = length_fits tag (length bs)

-- every part has a length that its field may have
abbrev pub sound : Parts → Bool
sound p = length p.when == 4 && (length_fits 5 (length p.readings) && (optional_fits 6 p.share && nat_le (length p.name) 16))

-- what checking a name answers: nothing more, or the refusal of one longer than 16 bytes
abbrev pub name_answers : List ℕ → Result (Unit {0}) Refusal
name_answers name = cond (nat_le (length name) 16) (Ok tt) (Err (refusal Frame 4 0))

-- two bytes from place i on, as a number, high byte first
abbrev pub word : List ℕ → ℕ → ℕ
word bs i = slice_index bs i * 256 + slice_index bs (i + 1)

-- the year and the day that a frame names
abbrev pub year_named : Parts → ℕ
year_named p = word p.when 0

abbrev pub day_named : Parts → ℕ
day_named p = word p.when 2

abbrev pub number_in : Option (List ℕ) → Option ℕ
number_in None = None
number_in (Some bs) = Some (word bs 0)

-- the share that a frame names, in thousandths
abbrev pub share_named : Parts → Option ℕ
share_named p = number_in p.share

-- what writing these parts into a buffer of that room answers: the frame's length, or a refusal
unfoldable pub write_answers : Parts → ℕ → Result ℕ Refusal
write_answers p room =
    cond (sound p)
    (cond (nat_le (length (written p)) room) (Ok (length (written p))) (Err (refusal Book 20 (length (written p)))))
    (Err (refusal Frame 4 0))

-- the buffer afterwards: bytes beyond the frame keep their content, and a refusal leaves every byte
unfoldable pub write_leaves : Parts → List ℕ → List ℕ
write_leaves p old =
    cond (sound p && nat_le (length (written p)) (length old)) (written p ++ drop (length (written p)) old) old
