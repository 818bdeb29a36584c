-- What the plant's own rows answer.
use Rattle.std.specs.Prelude.{Bool, ◌&&◌, List, Option, option_map, ◌==◌, nat_le}
use Rattle.std.specs.List.{find}
use Rattle.factor.specs.declared.plant.PlantRow.{PlantRow}
use Rattle.factor.specs.declared.question.Factor.{Factor}
use Rattle.factor.specs.Questions.{Asked}
use Rattle.factor.specs.Limits.{keeps}

abbrev pub row_factor : PlantRow → Factor
row_factor row = record { rate = row.rate; share = row.share }

-- the row is for what is asked
abbrev pub row_names : Asked → PlantRow → Bool
row_names q row = row.class == q.class && row.item == q.item

-- the row holds in the year that is asked, at the tier that is asked
abbrev pub row_holds : Asked → PlantRow → Bool
row_holds q row = row.tier == q.tier && (nat_le row.first_year q.year && nat_le q.year row.last_year)

-- the row can answer: it is for what is asked, holds then, and keeps to the limits of its class
abbrev pub row_fits : Asked → PlantRow → Bool
row_fits q row = row_names q row && (row_holds q row && keeps row.class row.rate row.share)

-- the first row that fits answers
abbrev pub first_fit : Asked → List PlantRow → Option Factor
first_fit q rows = option_map row_factor (find (row_fits q) rows)
