-- The table's rule at each of its rows, from one test that antt computes over the whole table. Assumes nothing.
use Rattle.std.proofs.Common.{◌≡◌, ℕ, zero, suc, ◌+◌, ◌-◌, ◌*◌, ◌/◌, ◌<◌, ◌≤◌, Bool, ◌&&◌, T, eqb, ltb, leb, List, [], ◌∷◌, length, get_or, sym, refl, ap, subst, inl, inr, le_of_suc-le-suc, not-suc-le-zero, add-one, arith, eqb→eq, ltb→lt, leb→le}
use Rattle.std.proofs.lemmas.Bool.{cases_lt}
use lib.Ieee.Fits.{and_l, and_r}
use Rattle.steam.specs.Table.{Row, rows, row_at}
use Rattle.steam.specs.Laws.{Step, Table}

-- the enthalpy of a row lies in the table's range
abbrev ranged : Row → Bool
ranged a = leb 219250 a.1 && leb a.1 280190

-- the pressure rises from a to b by a gap that divides 1,000
abbrev stepped : Row → Row → Bool
stepped a b = ltb a.0 b.0 && eqb ((1000 / (b.0 - a.0)) * (b.0 - a.0)) 1000

-- the test over all rows from a on
abbrev lawful : Row → List Row → Bool
lawful a [] = ranged a
lawful a (b ∷ rest) = (ranged a && stepped a b) && lawful b rest

range_at : (a : Row) (rest : List Row) → T (lawful a rest) → (i : ℕ) → i < suc (length rest) → T (ranged (get_or (a ∷ rest) i (0, 0)))
range_at a [] t zero h = t
range_at a [] t (suc i) h = absurd (not-suc-le-zero (le_of_suc-le-suc h))
range_at a (b ∷ rest) t zero h = and_l (ranged a) (stepped a b) (and_l (ranged a && stepped a b) (lawful b rest) t)
range_at a (b ∷ rest) t (suc i) h = range_at b rest (and_r (ranged a && stepped a b) (lawful b rest) t) i (le_of_suc-le-suc h)

step_at : (a : Row) (rest : List Row) → T (lawful a rest) → (i : ℕ) → i < length rest → T (stepped (get_or (a ∷ rest) i (0, 0)) (get_or rest i (0, 0)))
step_at a [] t i h = absurd (not-suc-le-zero h)
step_at a (b ∷ rest) t zero h = and_r (ranged a) (stepped a b) (and_l (ranged a && stepped a b) (lawful b rest) t)
step_at a (b ∷ rest) t (suc i) h = step_at b rest (and_r (ranged a && stepped a b) (lawful b rest) t) i (le_of_suc-le-suc h)

-- the rows after the first
abbrev tail : List Row → List Row
tail [] = []
tail (a ∷ rest) = rest

range : (i : ℕ) → i < 72 → T (ranged (row_at i))
unfolding rows
range i h = range_at (row_at 0) (tail rows) tt i h

step : (i : ℕ) → i + 1 < 72 → T (stepped (row_at i) (row_at (suc i)))
unfolding rows
step i h = step_at (row_at 0) (tail rows) tt i (omega arith)

pub least : (i : ℕ) → i < 72 → 219250 ≤ (row_at i).1
least i h = leb→le 219250 (row_at i).1 (and_l (leb 219250 (row_at i).1) (leb (row_at i).1 280190) (range i h))

pub most : (i : ℕ) → i < 72 → (row_at i).1 ≤ 280190
most i h = leb→le (row_at i).1 280190 (and_r (leb 219250 (row_at i).1) (leb (row_at i).1 280190) (range i h))

stepped_step : (a b : Row) → T (stepped a b) → (a.0 < b.0) × ((1000 / (b.0 - a.0)) * (b.0 - a.0) ≡ 1000)
stepped_step a b t = (
  ltb→lt a.0 b.0 (and_l (ltb a.0 b.0) (eqb ((1000 / (b.0 - a.0)) * (b.0 - a.0)) 1000) t),
  eqb→eq ((1000 / (b.0 - a.0)) * (b.0 - a.0)) 1000 (and_r (ltb a.0 b.0) (eqb ((1000 / (b.0 - a.0)) * (b.0 - a.0)) 1000) t),
)

pub steps : (i : ℕ) → i + 1 < 72 → Step i
steps i h =
    let s = stepped_step (row_at i) (row_at (i + 1)) (subst (λ (j : ℕ). T (stepped (row_at i) (row_at j))) (sym (add-one i)) (step i h)) in
    record { rises = s.0; gaps = 1000 / ((row_at (i + 1)).0 - (row_at i).0); divides = s.1 }

-- the pressure is higher at every later place
pub higher : (i j : ℕ) → i < j → j < 72 → (row_at i).0 < (row_at j).0
higher i zero l h = absurd (not-suc-le-zero l)
higher i (suc j) l h =
    let s : (row_at j).0 < (row_at (suc j)).0 = subst (λ (n : ℕ). (row_at j).0 < (row_at n).0) (add-one j) (steps j (omega arith)).rises in
    elim (cases_lt i j) [
      | inl b ↦ omega (arith, higher i j b (omega arith), s)
      | inr b ↦
          let e : j ≡ i = omega arith in
          subst (λ (n : ℕ). (row_at n).0 < (row_at (suc j)).0) e s
    ]

pub no_lower : (i j : ℕ) → i ≤ j → j < 72 → (row_at i).0 ≤ (row_at j).0
no_lower i j l h =
    elim (cases_lt i j) [
      | inl b ↦ omega (arith, higher i j b h)
      | inr b ↦
          let e : i ≡ j = omega arith in
          omega (arith, ap (λ (n : ℕ). (row_at n).0) e)
    ]

pub size : length rows ≡ 72
unfolding rows
size = refl

pub first : (row_at 0).0 ≡ 1
unfolding rows
first = refl

pub last : (row_at 71).0 ≡ 22000
unfolding rows
last = refl

pub table : Table
table = record { size = size; first = first; last = last; least = least; most = most; steps = steps }
