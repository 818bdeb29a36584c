use Rattle.std.proofs.Common.{◌≡◌, ℕ, suc, true, T, List, [], ◌∷◌, get_or}
use lib.Ieee.{Float, nan, binary32, fits}
use lib.Ieee.Bits.{is_true}
use Rattle.std.specs.List.{AllByRecursion}
use Rattle.reading.proofs.encoded.joined.Goals as goal

all_held : (xs : List Float) → ((i : ℕ) → T (fits binary32 (get_or xs i nan))) → AllByRecursion (λ x. fits binary32 x ≡ true) xs
all_held [] h = tt
all_held (x ∷ xs) h = (is_true (fits binary32 x) (h 0), all_held xs (λ i. h (suc i)))

pub returns-clause-held : goal.returns-clause-held
returns-clause-held c = all_held c.args.readings.now c.type_inv.readings
