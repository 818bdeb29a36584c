-- What a byte string means as a frame: its parts, or the refusal with its number and place.
use Rattle.std.specs.Prelude.{ℕ, zero, suc, ◌+◌, cond, List, [], length, take, drop, Some, None, Ok, Err, Option, Result, ◌==◌, nat_le, nat_lt, slice_index}
use Rattle.refusal.specs.declared.Refusal.{Refusal}
use Rattle.refusal.specs.declared.Layer.TheVariants.{Frame}
use Rattle.refusal.specs.Said.{refusal}
use Rattle.frame.specs.Format.{known, length_fits, word, Parts}

-- what stands at the front of the bytes that are left: a field with the bytes left after it, or a refusal
pub data Front : Type 0 where
  told : (tag : ℕ) → (bytes left : List ℕ) → Front
  refuses : Refusal → Front

-- at an offset: header complete, tag known, tag above the one before, length right, bytes complete, in this order
abbrev pub front : (at above : ℕ) → List ℕ → Front
front at above bs =
    cond (nat_le 3 (length bs))
    (cond (known (slice_index bs 0))
    (cond (nat_lt above (slice_index bs 0))
    (cond (length_fits (slice_index bs 0) (word bs 1))
    (cond (nat_le (word bs 1) (length (drop 3 bs)))
    (told (slice_index bs 0) (take (word bs 1) (drop 3 bs)) (drop (word bs 1) (drop 3 bs)))
    (refuses (refusal Frame 1 at)))
    (refuses (refusal Frame 4 at)))
    (refuses (refusal Frame 3 at)))
    (refuses (refusal Frame 2 at)))
    (refuses (refusal Frame 1 at))

-- the bytes of each field that was told
pub record Told : Type 0 where
  pub f1 : Option (List ℕ)
  pub f2 : Option (List ℕ)
  pub f3 : Option (List ℕ)
  pub f4 : Option (List ℕ)
  pub f5 : Option (List ℕ)
  pub f6 : Option (List ℕ)
  pub f7 : Option (List ℕ)

abbrev pub nothing : Told
nothing = record { f1 = None; f2 = None; f3 = None; f4 = None; f5 = None; f6 = None; f7 = None }

abbrev pub put : ℕ → List ℕ → Told → Told
put tag bs t = record {
  f1 = cond (tag == 1) (Some bs) t.f1;
  f2 = cond (tag == 2) (Some bs) t.f2;
  f3 = cond (tag == 3) (Some bs) t.f3;
  f4 = cond (tag == 4) (Some bs) t.f4;
  f5 = cond (tag == 5) (Some bs) t.f5;
  f6 = cond (tag == 6) (Some bs) t.f6;
  f7 = cond (tag == 7) (Some bs) t.f7;
}

-- a field that must be there, or the refusal that names its tag
abbrev pub need : {A : Type 0} → Option (List ℕ) → ℕ → (List ℕ → Result A Refusal) → Result A Refusal
need None tag go = Err (refusal Frame 5 tag)
need (Some bs) tag go = go bs

abbrev pub bytes_or : Option (List ℕ) → List ℕ
bytes_or None = []
bytes_or (Some bs) = bs

abbrev pub first : List ℕ → ℕ
first bs = slice_index bs 0

-- fields 1 to 5 must be present; the first that is missing is refused
abbrev pub whole : Told → Result Parts Refusal
whole t =
    need t.f1 1 (λ a. need t.f2 2 (λ b. need t.f3 3 (λ c. need t.f4 4 (λ d. need t.f5 5 (λ e.
    Ok (record { when = a; kind = first b; item = first c; tier = first d; readings = e; share = t.f6; name = bytes_or t.f7 }))))))

-- the fields from offset at on, above the tag told last; k is no less than the number of fields that are left
unfoldable pub reads : (k at above : ℕ) → Told → List ℕ → Result Parts Refusal
reads zero at above t bs = whole t
reads (suc k) at above t bs =
    cond (length bs == 0) (whole t)
    (elim (front at above bs) [
      | told tag bytes left ↦ reads k (at + (3 + length bytes)) tag (put tag bytes t) left
      | refuses r ↦ Err r
    ])

-- every field from the front takes at least three bytes
abbrev pub frame_of : List ℕ → Result Parts Refusal
frame_of bs = reads (length bs) 0 0 nothing bs

abbrev pub name_by : Result Parts Refusal → Result (List ℕ) Refusal
name_by (Ok p) = Ok p.name
name_by (Err e) = Err e

-- the meter's name, empty where the frame has none
abbrev pub name_of : List ℕ → Result (List ℕ) Refusal
name_of bs = name_by (frame_of bs)
