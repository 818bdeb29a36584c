-- Runs of fields with rising tags, and what can be wrong after one.
use Rattle.std.specs.Prelude.{◌≡◌, ℕ, ◌+◌, ◌<◌, ◌≤◌, Bool, true, false, cond, ◌||◌, List, [], ◌∷◌, ◌++◌, length, ◌==◌, slice_index}
use Rattle.std.specs.List.{AllByRecursion}
use Rattle.frame.specs.Format.{known, length_fits, word, field}

abbrev pub Bytes : List ℕ → Type 0
Bytes bs = AllByRecursion (λ b. b < 256) bs

pub record Field : Type 0 where
  pub tag : ℕ
  pub bytes : List ℕ

-- each tag is known and above the one before, and each length is right
abbrev pub Rising : ℕ → List Field → Type 0
Rising above [] = Unit {0}
Rising above (f ∷ fs) = (known f.tag ≡ true) × (above < f.tag) × (length_fits f.tag (length f.bytes) ≡ true) × Rising f.tag fs

-- the fields one after the other
abbrev pub laid : List Field → List ℕ
laid [] = []
laid (f ∷ fs) = field f.tag f.bytes ++ laid fs

-- the tag told last
abbrev pub last : ℕ → List Field → ℕ
last above [] = above
last above (f ∷ fs) = last f.tag fs

abbrev pub has : ℕ → List Field → Bool
has tag [] = false
has tag (f ∷ fs) = f.tag == tag || has tag fs

-- the first of the fields 1 to 5 that the run lacks, or 0
abbrev pub first_missing : List Field → ℕ
first_missing fs = cond (has 1 fs) (cond (has 2 fs) (cond (has 3 fs) (cond (has 4 fs) (cond (has 5 fs) 0 5) 4) 3) 2) 1

-- what is wrong with the bytes that follow the tag told last, by the number of the refusal
pub data Fault (above : ℕ) (rest : List ℕ) : ℕ → Type 0 where
  header_cut : 1 ≤ length rest → length rest < 3 → Fault above rest 1
  tag_unknown : 3 ≤ length rest → known (slice_index rest 0) ≡ false → Fault above rest 2
  tag_not_rising : 3 ≤ length rest → known (slice_index rest 0) ≡ true → slice_index rest 0 ≤ above → Fault above rest 3
  length_wrong : 3 ≤ length rest → known (slice_index rest 0) ≡ true → above < slice_index rest 0 → length_fits (slice_index rest 0) (word rest 1) ≡ false → Fault above rest 4
  bytes_cut : 3 ≤ length rest → known (slice_index rest 0) ≡ true → above < slice_index rest 0 → length_fits (slice_index rest 0) (word rest 1) ≡ true
      → length rest < 3 + word rest 1 → Fault above rest 1
