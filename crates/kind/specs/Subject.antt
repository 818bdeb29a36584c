-- The rules of kinds, items and tiers, in the numbers and letters that a frame holds.
use Rattle.std.specs.Prelude.{ℕ, Bool, false, cond, ◌&&◌, ◌||◌, Ok, Err, Result, ◌==◌, nat_le}
use Rattle.refusal.specs.declared.Refusal.{Refusal}
use Rattle.refusal.specs.declared.Layer.TheVariants.{Record}
use Rattle.refusal.specs.Said.{refusal}
use Rattle.reading.specs.declared.sets.Shape.{Shape}
use Rattle.reading.specs.declared.sets.Shape.TheVariants.{Amount, Water, Steam, Wastewater}

-- the items of each kind: 1 fuel, 2 carbonate, 3 bought CO2, 4 wastewater, 5 and 6 power, 7 and 8 heat
abbrev pub kind_known : ℕ → ℕ → Bool
kind_known kind item =
    cond (kind == 1) (nat_le 1 item && nat_le item 21)
    (cond (kind == 2) (nat_le 1 item && nat_le item 3)
    (cond (nat_le 3 kind && nat_le kind 6) (item == 0)
    (cond (nat_le 7 kind && nat_le kind 8) (nat_le item 2) false)))

-- a kind's number and its item, or the refusal
abbrev pub kind_in : ℕ → ℕ → Result (ℕ × ℕ) Refusal
kind_in kind item = cond (kind_known kind item) (Ok (kind, item)) (Err (refusal Record 7 0))

-- wastewater has five readings, heat by its item an amount, water or steam, and all else an amount
abbrev pub shape_in : ℕ → ℕ → Shape
shape_in kind item =
    cond (kind == 4) Wastewater
    (cond (nat_le 7 kind) (cond (item == 1) Water (cond (item == 2) Steam Amount)) Amount)

-- M for measured, D for default
abbrev pub tier_known : ℕ → Bool
tier_known letter = letter == 77 || letter == 68

abbrev pub tier_in : ℕ → Result ℕ Refusal
tier_in letter = cond (tier_known letter) (Ok letter) (Err (refusal Record 8 0))
