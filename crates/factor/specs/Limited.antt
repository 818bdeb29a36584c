-- That what each source's table answers is within the limits: the clause `limits` of asking and the law of `LimitedSource` are proved from here.
use Rattle.std.proofs.Common.{◌≡◌, ℕ, zero, suc, ◌-◌, ◌<◌, ◌≤◌, Bool, true, false, cond, ◌&&◌, T, eqb, leb, nat_eq, List, [], ◌∷◌, length, get_or, option_map, IfSome, Some, None, Option, sym, refl, ap, ◌∙◌, subst, inl, inr, le_of_suc-le-suc, not-suc-le-zero, arith, eqb→eq}
use Rattle.std.specs.List.{find}
use Rattle.std.proofs.lemmas.Bool.{cases_Bool, and_parts, eqb-true, leb-true}
use Rattle.std.proofs.lemmas.Option.{none-some}
use lib.Ieee.Fits.{and_l, and_r}
use Rattle.factor.specs.declared.plant.PlantRow.{PlantRow}
use Rattle.factor.specs.declared.question.Factor.{Factor}
use Rattle.factor.specs.Questions.{Asked, by_tier}
use Rattle.factor.specs.Limits.{keeps, Within}
use Rattle.factor.specs.PlantRows.{row_factor, row_names, row_holds, row_fits, first_fit}
use Rattle.factor.specs.Printed.{printed, factor_of, fuel_factor, printed_default, printed_answer, rows_keep}

-- each factor that can be the answer is within the limits
abbrev pub Limited : ℕ → Option Factor → Type 0
Limited class o = (f : Factor) → o ≡ Some f → Within class f

pub none_limited : (class : ℕ) → Limited class None
none_limited class f e = absurd (none-some f e)

pub answer_within : (class : ℕ) (o : Option Factor) → Limited class o → IfSome o (λ f. Within class f)
answer_within class None h = tt
answer_within class (Some f) h = h f refl

either_limited : (class : ℕ) (b : Bool) (m d : Option Factor) → Limited class m → Limited class d → Limited class (cond b m d)
either_limited class true m d v w = v
either_limited class false m d v w = w

-- of two sources, that of the tier answers
pub by_tier_limited : (class : ℕ) (m d : Asked → Option Factor) (q : Asked) → Limited class (m q) → Limited class (d q) → Limited class (by_tier m d q)
by_tier_limited class m d q = either_limited class (nat_eq q.tier 77) (m q) (d q)

-- a front row that fits answers, and one that does not leaves the answer to the others
pub answers : (q : Asked) (row : PlantRow) (rows : List PlantRow) → row_fits q row ≡ true → first_fit q (row ∷ rows) ≡ Some (row_factor row)
answers q row rows e = ap (λ (b : Bool). option_map row_factor (cond b (Some row) (find (row_fits q) rows))) e

pub passes : (q : Asked) (row : PlantRow) (rows : List PlantRow) → row_fits q row ≡ false → first_fit q (row ∷ rows) ≡ first_fit q rows
passes q row rows e = ap (λ (b : Bool). option_map row_factor (cond b (Some row) (find (row_fits q) rows))) e

-- a row that fits is within the limits of the class that is asked
fit_within : (q : Asked) (row : PlantRow) → T (row_fits q row) → Within q.class (row_factor row)
fit_within q row t =
    let names = and_l (row_names q row) (row_holds q row && keeps row.class row.rate row.share) t in
    let rest = and_r (row_names q row) (row_holds q row && keeps row.class row.rate row.share) t in
    let class = eqb→eq row.class q.class (and_l (eqb row.class q.class) (eqb row.item q.item) names) in
    subst (λ (n : ℕ). T (keeps n row.rate row.share)) class (and_r (row_holds q row) (keeps row.class row.rate row.share) rest)

pub rows_limited : (q : Asked) (rows : List PlantRow) → Limited q.class (first_fit q rows)
rows_limited q [] f e = none_limited q.class f e
rows_limited q (row ∷ rows) f e = go (rows_limited q rows f) (row_fits q row) refl
  where
    go : (first_fit q rows ≡ Some f → Within q.class f) → (b : Bool) → row_fits q row ≡ b → Within q.class f
    go later true w =
        let g : Some (row_factor row) ≡ Some f = sym (answers q row rows w) ∙ e in
        let k : row_factor row ≡ f = cc in
        subst (Within q.class) k (fit_within q row (subst T (sym w) tt))
    go later false w = later (sym (passes q row rows w) ∙ e)

-- what is computed of the whole table holds of each row
keep_at : (rows : List (ℕ × ℕ × ℕ)) (k : ℕ) → T (rows_keep rows) → k < length rows → T (keeps 1 (factor_of (get_or rows k (0, 0, 0))).rate (factor_of (get_or rows k (0, 0, 0))).share)
keep_at [] k t h = absurd (not-suc-le-zero h)
keep_at (row ∷ rows) zero t h = and_l (keeps 1 (factor_of row).rate (factor_of row).share) (rows_keep rows) t
keep_at (row ∷ rows) (suc k) t h = keep_at rows k (and_r (keeps 1 (factor_of row).rate (factor_of row).share) (rows_keep rows) t) (le_of_suc-le-suc h)

fuel_within : (item : ℕ) → 1 ≤ item → item ≤ 21 → Within 1 (fuel_factor item)
fuel_within item from to = let h : item - 1 < 21 = omega arith in keep_at printed (item - 1) tt h

default_limited : (class item : ℕ) → Limited class (printed_default class item)
default_limited class item f e =
    elim (cases_Bool (eqb class 1 && (leb 1 item && leb item 21))) [
      | inl t ↦ (let a = and_parts (eqb class 1) (leb 1 item && leb item 21) t in
          let b = and_parts (leb 1 item) (leb item 21) a.1 in
          let h = simp t at e in
          let w : fuel_factor item ≡ f = cc in
          subst (λ n. Within n f) (sym (eqb-true class 1 a.0)) (subst (Within 1) w (fuel_within item (leb-true 1 item b.0) (leb-true item 21 b.1))))
      | inr t ↦ (let h = simp t at e in
          elim (cases_Bool (eqb class 5)) [
            | inl u ↦ (let k = simp u at h in
                let w : ◌≡◌ {A = Factor} (record { rate = 1100; share = 1000 }) f = cc in
                subst (λ n. Within n f) (sym (eqb-true class 5 u)) (subst (Within 5) w tt))
            | inr u ↦ (let k = simp u at h in none_limited class f k)
          ])
    ]

pub printed_limited : (q : Asked) → Limited q.class (printed_answer q)
printed_limited q f e =
    elim (cases_Bool (eqb q.tier 68)) [
      | inl t ↦ default_limited q.class q.item f (simp t at e)
      | inr t ↦ none_limited q.class f (simp t at e)
    ]
