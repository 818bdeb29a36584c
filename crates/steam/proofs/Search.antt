-- The search for the rows about a pressure, place by place. Assumes nothing.
use Rattle.std.proofs.Common.{◌≡◌, ℕ, zero, suc, ◌+◌, ◌-◌, ◌<◌, ◌≤◌, true, false, leb, ltb, ◌∷◌, length, get_or, take, drop, sym, refl, ap, ◌∙◌, subst, inl, inr, add-one, add_comm, arith, drop-cons}
use Rattle.std.specs.List.Sorted.{IsPartitionPoint, IsPartitionedBy}
use Rattle.std.proofs.lemmas.Grind.{get_or_after_one}
use Rattle.std.proofs.lemmas.List.{get_or-take, get_or-drop}
use Rattle.std.proofs.lemmas.List.Sorted.{IsPartitionedBy-ltb, IsNonDecreasingBy-from_default}
use Rattle.std.proofs.lemmas.Bool.{le-leb, lt-leb, ltb-true, ltb-false, cond-true, cond-false, cases_lt}
use Rattle.steam.specs.Table.{Row, rows, row_at}
use Rattle.steam.specs.Line.{Neighbours, Saturated, line, line_from, enthalpy, enthalpy_over, enthalpy_under}
use Rattle.steam.proofs.Rows.{size, first, last, no_lower}

-- the rows up to a place have been passed: p is not below it, and the enthalpy is found from there on
record Passed (p place : ℕ) : Type 0 where
  pub from : (row_at place).0 ≤ p
  pub past : 0 < place → (row_at place).0 < p
  pub rest : enthalpy p ≡ line_from p (row_at place) (drop (place + 1) rows)

begin : (p : ℕ) → (row_at 0).0 ≤ p → Passed p 0
unfolding enthalpy
begin p h = record { from = h; past = λ l. absurd (omega arith); rest = refl }

-- the rows from a place on, apart into the row there and the others
apart : (place : ℕ) → place < 72 → drop place rows ≡ row_at place ∷ drop (place + 1) rows
apart place h = drop-cons rows place (0, 0) (subst (λ (n : ℕ). place < n) (sym size) h) ∙ ap (λ (n : ℕ). row_at place ∷ drop n rows) (sym (add-one place))

next : (p place : ℕ) → place < 71 → (row_at (place + 1)).0 < p → Passed p place → Passed p (place + 1)
next p place h l w =
    let b = row_at (place + 1) in
    record {
      from = omega (arith, l);
      past = λ _. l;
      rest = w.rest ∙ ap (line_from p (row_at place)) (apart (place + 1) (omega arith)) ∙ cond-false (leb p b.0) (line p (row_at place) b) (line_from p b (drop (place + 1 + 1) rows)) (lt-leb p b.0 l);
    }

found : (p place : ℕ) → place < 71 → p ≤ (row_at (place + 1)).0 → Passed p place → Neighbours p (row_at place) (row_at (place + 1))
found p place h l w =
    let b = row_at (place + 1) in
    record {
      between = record { place = place; inside = subst (λ (n : ℕ). place + 1 < n) (sym size) (omega arith); lower = refl; upper = refl; from = w.from; to = l };
      on_line = w.rest ∙ ap (line_from p (row_at place)) (apart (place + 1) (omega arith)) ∙ cond-true (leb p b.0) (line p (row_at place) b) (line_from p b (drop (place + 1 + 1) rows)) (le-leb p b.0 l);
    }

-- the enthalpy is on a line, from a place that the search has come to
reached : (p place n : ℕ) → place + n ≡ 71 → p ≤ 22000 → Passed p place → Saturated p (enthalpy_over p) (enthalpy_under p)
reached p place zero e t w =
    let f : place ≡ 71 = omega arith in
    let past : (row_at 71).0 < p = subst (λ (k : ℕ). 0 < k → (row_at k).0 < p) f w.past (omega arith) in
    absurd (omega (arith, last, past))
reached p place (suc n) e t w =
    elim (cases_lt (row_at (place + 1)).0 p) [
      | inl l ↦ reached p (place + 1) n (omega arith) t (next p place (omega arith) l w)
      | inr l ↦
          let v = found p place (omega arith) l w in
          record { a = row_at place; b = row_at (place + 1); between = v.between; on_line = record { numerator = ap (λ (f : ℕ × ℕ). f.0) v.on_line; denominator = ap (λ (f : ℕ × ℕ). f.1) v.on_line } }
    ]

pub holds : (p : ℕ) → 1 ≤ p → p ≤ 22000 → Saturated p (enthalpy_over p) (enthalpy_under p)
holds p o t = reached p 0 71 refl t (begin p (omega (arith, first)))

-- of the rows after the first, those below p come first
later : (i : ℕ) → get_or (drop 1 rows) i (0, 0) ≡ row_at (i + 1)
later i = get_or_after_one rows i (0, 0) ∙ ap row_at (add_comm 1 i)

later_size : length (drop 1 rows) ≡ 71
unfolding rows
later_size = refl

pub parted : (p : ℕ) → IsPartitionedBy (λ (a : Row). ltb a.0 p) (drop 1 rows)
parted p =
    IsPartitionedBy-ltb (λ (a : Row). a.0) (drop 1 rows) p
    (IsNonDecreasingBy-from_default (λ (a : Row). a.0) (drop 1 rows) (0, 0) (λ i j l h. omega (arith, later_size, no_lower (i + 1) (j + 1) (omega arith) (omega (arith, later_size)), ap (λ (a : Row). a.0) (later i), ap (λ (a : Row). a.0) (later j))))

-- i of the rows after the first are below p
abbrev pub Point : ℕ → ℕ → Type 0
Point p i = IsPartitionPoint (λ (a : Row). ltb a.0 p ≡ true) (λ (a : Row). ltb a.0 p ≡ false) (drop 1 rows) i

below : (p i : ℕ) → Point p i → (k : ℕ) → k < i → (row_at (k + 1)).0 < p
below p i w k l = subst (λ (a : Row). a.0 < p) (later k) (ltb-true _ p (w.0 k (0, 0) (omega arith) l))

above : (p i : ℕ) → Point p i → i < 71 → p ≤ (row_at (i + 1)).0
above p i w h = subst (λ (a : Row). p ≤ a.0) (later i) (ltb-false _ p (w.1 i (0, 0) (omega arith) (omega (arith, later_size))))

passed : (p i : ℕ) → i ≤ 71 → (row_at 0).0 ≤ p → ((k : ℕ) → k < i → (row_at (k + 1)).0 < p) → Passed p i
passed p zero h o l = begin p o
passed p (suc n) h o l = subst (Passed p) (add-one n) (next p n (omega arith) (l n (omega arith)) (passed p n (omega arith) o (λ k f. l k (omega (arith, f)))))

-- a row of the part from place i on
abbrev pub part : ℕ → ℕ → Row
part i k = get_or (take (72 - i) (drop i rows)) k (0, 0)

part_is : (i k j : ℕ) → j ≡ i + k → j < 72 → part i k ≡ row_at j
part_is i k j e h = get_or-take (72 - i) (drop i rows) k (0, 0) (omega arith) ∙ get_or-drop i rows k (0, 0) ∙ ap row_at (sym e)

pub about : (p i : ℕ) → Point p i → i < 71 → (part i 0).0 ≤ p → Neighbours p (part i 0) (part i 1)
about p i w h l =
    let a = part_is i 0 i (omega arith) (omega arith) in
    let from : (row_at i).0 ≤ p = subst (λ (r : Row). r.0 ≤ p) a l in
    let n = found p i h (above p i w h) (passed p i (omega arith) (omega (arith, from, no_lower 0 i (omega arith) (omega arith))) (below p i w)) in
    subst (λ (r : Row). Neighbours p r (part i 1)) (sym a) (subst (λ (r : Row). Neighbours p (row_at i) r) (sym (part_is i 1 (i + 1) refl (omega arith))) n)

pub before : (p i : ℕ) → Point p i → i < 71 → p < (part i 0).0 → p < 1
before p zero w h l = omega (arith, first, subst (λ (r : Row). p < r.0) (part_is 0 0 0 refl (omega arith)) l)
before p (suc i) w h l =
    let under = below p (suc i) w i (omega arith) in
    let over = subst (λ (r : Row). p < r.0) (part_is (suc i) 0 (i + 1) (omega arith) (omega arith)) l in
    absurd (omega (arith, under, over))

pub beyond : (p i : ℕ) → Point p i → 71 ≤ i → 22000 < p
beyond p i w l = omega (arith, last, below p i w 70 (omega arith))
