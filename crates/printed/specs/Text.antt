-- How a year is printed.
use Rattle.std.specs.Prelude.{ℕ, ◌+◌, ◌/◌, ◌%◌, List, [], ◌∷◌, ◌++◌, codes, ℤ, pos, negsuc, unsigned_abs}
use Rattle.std.specs.Fmt.{decimal}
use Rattle.std.specs.List.{flat_map}
use Rattle.months.specs.declared.account.Figure.{Figure}
use Rattle.months.specs.Lines.{line_numbers}

-- the last decimal digit of a number
abbrev pub digit : ℕ → ℕ
digit n = 48 + n % 10

-- a number below a million in six digits
abbrev pub six_digits : ℕ → List ℕ
six_digits n = digit (n / 100000) ∷ digit (n / 10000) ∷ digit (n / 1000) ∷ digit (n / 100) ∷ digit (n / 10) ∷ digit n ∷ []

abbrev pub sign_of : ℤ → List ℕ
sign_of (pos n) = []
sign_of (negsuc n) = codes "-"

-- grams as tonnes: a minus sign where they are negative, the whole tonnes, a point, the grams beyond them
abbrev pub tonnes_text : ℤ → List ℕ
tonnes_text g = sign_of g ++ (decimal (unsigned_abs g / 1000000) ++ (codes "." ++ six_digits (unsigned_abs g % 1000000)))

-- a line: its label, how many entries, and their tonnes
abbrev pub line_text : ℕ → ℕ → ℤ → List ℕ
line_text label count grams = label ∷ (codes " " ++ (decimal count ++ (codes " " ++ (tonnes_text grams ++ codes "\n"))))

-- the year, and how many frames were taken and how many refused
abbrev pub first_text : ℕ → ℕ → ℕ → List ℕ
first_text year taken refused = decimal year ++ (codes " " ++ (decimal taken ++ (codes " " ++ (decimal refused ++ codes "\n"))))

-- lines 1 to 7 under their numbers, and T with all
unfoldable pub year_text : ℕ → ℕ → ℕ → (ℕ → Figure) → ℕ → ℤ → List ℕ
year_text year taken refused figure count net =
    first_text year taken refused
    ++ (flat_map (λ l. line_text (48 + l) (figure l).count (pos (figure l).grams)) line_numbers
    ++ line_text 84 count net)

-- what is printed where there is no lawful year
abbrev pub no_year_text : List ℕ
no_year_text = codes "0 0 0\n"
