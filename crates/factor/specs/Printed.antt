-- The printed default values: fuels and heat.
use Rattle.std.specs.Prelude.{ℕ, ◌-◌, ◌*◌, Bool, true, cond, ◌&&◌, List, [], ◌∷◌, Some, None, Option, ◌==◌, nat_le, slice_index_or}
use Rattle.factor.specs.declared.question.Factor.{Factor}
use Rattle.factor.specs.Limits.{keeps}
use Rattle.factor.specs.Questions.{Asked}

-- each fuel's heat value in thousandths of GJ, carbon in 10⁻⁵ tC/GJ, and oxidised percentage
abbrev pub printed : List (ℕ × ℕ × ℕ)
printed =
    (26_700, 2740, 94) ∷  -- anthracite
    (19_570, 2610, 93) ∷  -- bituminous coal
    (11_900, 2800, 96) ∷  -- lignite
    (26_344, 2541, 90) ∷  -- washed coal
    (12_545, 2541, 90) ∷  -- other washed coal
    (17_460, 3360, 90) ∷  -- briquettes
    (28_435, 2950, 93) ∷  -- coke
    (41_816, 2010, 98) ∷  -- crude oil
    (41_816, 2110, 98) ∷  -- fuel oil
    (43_070, 1890, 98) ∷  -- gasoline
    (42_652, 2020, 98) ∷  -- diesel
    (43_070, 1960, 98) ∷  -- kerosene
    (44_200, 1720, 98) ∷  -- liquefied natural gas
    (50_179, 1720, 98) ∷  -- liquefied petroleum gas
    (45_998, 1820, 98) ∷  -- refinery gas
    (33_453, 2200, 98) ∷  -- coal tar
    (179_810, 1358, 99) ∷  -- coke oven gas
    (33_000, 7080, 99) ∷  -- blast furnace gas
    (84_000, 4960, 99) ∷  -- converter gas
    (52_270, 1220, 99) ∷  -- other coal gas
    (389_310, 1530, 99) ∷  -- natural gas
    []

-- the row of a fuel, counted from 1
abbrev pub printed_at : ℕ → ℕ × ℕ × ℕ
printed_at n = slice_index_or printed (n - 1) (0, 0, 0)

-- the rate is heat value times carbon, the share ten times the percentage
abbrev pub factor_of : ℕ × ℕ × ℕ → Factor
factor_of row = record { rate = row.0 * row.1; share = 10 * row.2 }

abbrev pub fuel_factor : ℕ → Factor
fuel_factor n = factor_of (printed_at n)

-- what is printed for a class and an item: each of the 21 fuels, and heat at 0.11 tCO2/GJ
abbrev pub printed_default : ℕ → ℕ → Option Factor
printed_default class item =
    cond (class == 1 && (nat_le 1 item && nat_le item 21)) (Some (fuel_factor item))
    (cond (class == 5) (Some (record { rate = 1100; share = 1000 })) None)

-- nothing is measured, and no year is left out; 68 is the letter D
abbrev pub printed_answer : Asked → Option Factor
printed_answer q = cond (q.tier == 68) (printed_default q.class q.item) None

-- each row within the limits of fuels
abbrev pub rows_keep : List (ℕ × ℕ × ℕ) → Bool
rows_keep [] = true
rows_keep (row ∷ rows) = keeps 1 (factor_of row).rate (factor_of row).share && rows_keep rows
