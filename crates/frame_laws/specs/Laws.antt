-- The laws of frames.
use Rattle.std.specs.Prelude.{◌≡◌, ℕ, ◌≤◌, true, ◌⊎◌, List, ◌++◌, length, Ok, Err}
use Rattle.refusal.specs.declared.Refusal.{Refusal}
use Rattle.refusal.specs.declared.Layer.TheVariants.{Frame}
use Rattle.refusal.specs.Said.{refusal}
use Rattle.frame.specs.Format.{Parts, written, sound}
use Rattle.frame.specs.Reading.{frame_of}
use Rattle.frame_laws.specs.Runs.{Bytes, Field, Rising, laid, last, first_missing, Fault}

-- a byte string is accepted, with the parts p, exactly if it is p written out and every length in p is right
abbrev pub Accepts : Type 0
Accepts =
    (bs : List ℕ) (p : Parts) → Bytes bs
    → (frame_of bs ≡ Ok p → (written p ≡ bs) × (sound p ≡ true)) × ((written p ≡ bs) × (sound p ≡ true) → frame_of bs ≡ Ok p)

-- good fields stand before the place, and the fault of that number at it
pub record FaultAt (bs : List ℕ) (number place : ℕ) : Type 0 where
  pub before : List Field
  pub rest : List ℕ
  pub rising : Rising 0 before
  pub is : laid before ++ rest ≡ bs
  pub place_is : place ≡ length (laid before)
  pub fault : Fault (last 0 before) rest number

-- the bytes are good fields throughout, of which the one with that tag is the first that is missing
pub record Lacks (bs : List ℕ) (tag : ℕ) : Type 0 where
  pub all : List Field
  pub rising : Rising 0 all
  pub is : laid all ≡ bs
  pub required : 1 ≤ tag
  pub missing : first_missing all ≡ tag

abbrev pub Faulty : List ℕ → ℕ → ℕ → Type 0
Faulty bs number place = FaultAt bs number place ⊎ ((number ≡ 5) × Lacks bs place)

-- a byte string is refused by a number at a place exactly if it has that fault there
abbrev pub Refuses : Type 0
Refuses =
    (bs : List ℕ) (number place : ℕ) → Bytes bs
    → (frame_of bs ≡ Err (refusal Frame number place) → Faulty bs number place) × (Faulty bs number place → frame_of bs ≡ Err (refusal Frame number place))

-- every refusal of the frame layer says so
abbrev pub RefusesAsFrame : Type 0
RefusesAsFrame = (bs : List ℕ) (r : Refusal) → Bytes bs → frame_of bs ≡ Err r → r.layer ≡ Frame
