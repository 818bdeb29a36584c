-- What holds of every list of the plant's rows, and of the printed table.
use Rattle.std.specs.Prelude.{◌≡◌, ℕ, ◌<◌, true, false, T, List, length, Some, None, slice_index_or}
use Rattle.factor.specs.declared.plant.PlantRow.{PlantRow}
use Rattle.factor.specs.declared.question.Factor.{Factor}
use Rattle.factor.specs.Questions.{Asked}
use Rattle.factor.specs.Limits.{Within}
use Rattle.factor.specs.PlantRows.{row_factor, row_fits, first_fit}
use Rattle.factor.specs.Printed.{printed, printed_answer, rows_keep}

-- none of the first n rows fits
abbrev pub NoneFits : Asked → List PlantRow → ℕ → Type 0
NoneFits q rows n = (k : ℕ) (d : PlantRow) → k < n → row_fits q (slice_index_or rows k d) ≡ false

-- row i fits and answers with its rate and share, and none before it fits
pub record FirstAt (q : Asked) (rows : List PlantRow) (i : ℕ) (f : Factor) : Type 0 where
  pub inside : i < length rows
  pub fits : (d : PlantRow) → row_fits q (slice_index_or rows i d) ≡ true
  pub answers : (d : PlantRow) → f ≡ row_factor (slice_index_or rows i d)
  pub earlier : NoneFits q rows i

-- an answer is that of the first row that fits
abbrev pub AnswerIsFirst : Type 0
AnswerIsFirst = (q : Asked) (rows : List PlantRow) (f : Factor) → first_fit q rows ≡ Some f → (i : ℕ) × FirstAt q rows i f

-- the first row that fits answers
abbrev pub FirstAnswers : Type 0
FirstAnswers = (q : Asked) (rows : List PlantRow) (i : ℕ) (f : Factor) → FirstAt q rows i f → first_fit q rows ≡ Some f

-- nothing is answered only if no row fits
abbrev pub NoAnswer : Type 0
NoAnswer = (q : Asked) (rows : List PlantRow) → first_fit q rows ≡ None → NoneFits q rows (length rows)

-- if no row fits, nothing is answered
abbrev pub NoneAnswers : Type 0
NoneAnswers = (q : Asked) (rows : List PlantRow) → NoneFits q rows (length rows) → first_fit q rows ≡ None

-- the printed table has a row for each of the 21 fuels, and each is within the limits of fuels
abbrev pub PrintedWhole : Type 0
PrintedWhole = (length printed ≡ 21) × T (rows_keep printed)

-- what the plant's rows answer is within the limits of the class that is asked
abbrev pub RowsLimited : Type 0
RowsLimited = (q : Asked) (rows : List PlantRow) (f : Factor) → first_fit q rows ≡ Some f → Within q.class f

-- what the printed table answers is within the limits of the class that is asked
abbrev pub PrintedLimited : Type 0
PrintedLimited = (q : Asked) (f : Factor) → printed_answer q ≡ Some f → Within q.class f
