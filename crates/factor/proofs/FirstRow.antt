-- The first row that fits a question. Assumes nothing.
use Rattle.std.proofs.Common.{◌≡◌, ℕ, zero, suc, Bool, true, false, List, [], ◌∷◌, length, Some, None, sym, refl, ap, ◌∙◌, le_of_suc-le-suc, not-suc-le-zero, arith}
use Rattle.std.proofs.lemmas.Option.{none-some}
use Rattle.factor.specs.declared.plant.PlantRow.{PlantRow}
use Rattle.factor.specs.declared.question.Factor.{Factor}
use Rattle.factor.specs.Questions.{Asked}
use Rattle.factor.specs.PlantRows.{row_factor, row_fits, first_fit}
use Rattle.factor.specs.Laws.{NoneFits, FirstAt}
use Rattle.factor.specs.Limited.{answers, passes}

-- the laws
earlier_too : (q : Asked) (row : PlantRow) (rows : List PlantRow) (n : ℕ) → row_fits q row ≡ false → NoneFits q rows n → NoneFits q (row ∷ rows) (suc n)
earlier_too q row rows n e h zero d l = e
earlier_too q row rows n e h (suc k) d l = h k d (le_of_suc-le-suc l)

pub answer_is_first : (q : Asked) (rows : List PlantRow) (f : Factor) → first_fit q rows ≡ Some f → (i : ℕ) × FirstAt q rows i f
answer_is_first q [] f e = absurd (none-some f e)
answer_is_first q (row ∷ rows) f e = go (answer_is_first q rows f) (row_fits q row) refl
  where
    go : (first_fit q rows ≡ Some f → (i : ℕ) × FirstAt q rows i f) → (b : Bool) → row_fits q row ≡ b → (i : ℕ) × FirstAt q (row ∷ rows) i f
    go later true w =
        let g : Some (row_factor row) ≡ Some f = sym (answers q row rows w) ∙ e in
        let k : f ≡ row_factor row = cc in
        (0, record { inside = omega arith; fits = λ d. w; answers = λ d. k; earlier = λ j d l. absurd (not-suc-le-zero l) })
    go later false w =
        let r = later (sym (passes q row rows w) ∙ e) in
        (suc r.0, record { inside = omega (arith, r.1.inside); fits = r.1.fits; answers = r.1.answers; earlier = earlier_too q row rows r.0 w r.1.earlier })

pub first_answers : (q : Asked) (rows : List PlantRow) (i : ℕ) (f : Factor) → FirstAt q rows i f → first_fit q rows ≡ Some f
first_answers q [] i f a = absurd (not-suc-le-zero a.inside)
first_answers q (row ∷ rows) zero f a = answers q row rows (a.fits row) ∙ ap Some (sym (a.answers row))
first_answers q (row ∷ rows) (suc i) f a =
    passes q row rows (a.earlier 0 row (omega arith))
    ∙ first_answers q rows i f
    (record { inside = le_of_suc-le-suc a.inside; fits = a.fits; answers = a.answers; earlier = λ k d l. a.earlier (suc k) d (omega (arith, l)) })

pub no_answer : (q : Asked) (rows : List PlantRow) → first_fit q rows ≡ None → NoneFits q rows (length rows)
no_answer q [] e k d l = absurd (not-suc-le-zero l)
no_answer q (row ∷ rows) e k d l = go (no_answer q rows) (row_fits q row) refl k d l
  where
    go : (first_fit q rows ≡ None → NoneFits q rows (length rows)) → (b : Bool) → row_fits q row ≡ b → NoneFits q (row ∷ rows) (suc (length rows))
    go later true w = absurd (none-some (row_factor row) (sym e ∙ answers q row rows w))
    go later false w = earlier_too q row rows (length rows) w (later (sym (passes q row rows w) ∙ e))

pub none_answers : (q : Asked) (rows : List PlantRow) → NoneFits q rows (length rows) → first_fit q rows ≡ None
none_answers q [] h = refl
none_answers q (row ∷ rows) h =
    passes q row rows (h 0 row (omega arith)) ∙ none_answers q rows (λ k d l. h (suc k) d (omega (arith, l)))
