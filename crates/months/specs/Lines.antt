-- The lines of a month, and the line of each kind, in numbers.
use Rattle.std.specs.Prelude.{ℕ, cond, ◌&&◌, List, [], ◌∷◌, Some, None, Option, ◌==◌, nat_le}
use Rattle.months.specs.declared.line.Line.{Line}
use Rattle.months.specs.declared.line.Line.TheVariants.{Fuel, Carbonate, Wastewater, PowerBought, HeatBought, PowerSold, HeatSold}

abbrev pub line_number : Line → ℕ
line_number Fuel = 1
line_number Carbonate = 2
line_number Wastewater = 3
line_number PowerBought = 4
line_number HeatBought = 5
line_number PowerSold = 6
line_number HeatSold = 7

-- the numbers of the lines in their order
abbrev pub line_numbers : List ℕ
line_numbers = 1 ∷ 2 ∷ 3 ∷ 4 ∷ 5 ∷ 6 ∷ 7 ∷ []

-- the line of a kind: 1 fuel, 2 carbonate and bought CO2, 3 wastewater, 4 power bought, 5 heat bought, 6 power sold, 7 heat sold
abbrev pub line_of : ℕ → ℕ
line_of k =
    cond (k == 1) 1
    (cond (nat_le k 3) 2
    (cond (k == 4) 3
    (cond (k == 5) 4
    (cond (k == 6) 6
    (cond (k == 7) 5 7)))))

-- a line's number; none where no line has it
abbrev pub line_in : ℕ → Option ℕ
line_in l = cond (nat_le 1 l && nat_le l 7) (Some l) None
