-- The enthalpy at every pressure. Assumes nothing.
use Rattle.std.proofs.Common.{◌≡◌, ℕ, zero, suc, ◌+◌, ◌-◌, ◌*◌, ◌<◌, ◌≤◌, sym, refl, ap, ◌∙◌, subst, inl, inr, add-zero, mul-le-mul_right, mul-zero, zero-add, mul_right_comm, arith}
use native.Mathlib.Nat.{sub_self}
use Rattle.std.proofs.lemmas.Bool.{cases_lt, cases_order}
use Rattle.steam.specs.Table.{Row, row_at}
use Rattle.steam.specs.Line.{OnLine, Neighbours, Saturated, enthalpy_over, enthalpy_under}
use Rattle.steam.specs.Laws.{OneValue, Bounds}
use Rattle.steam.proofs.Rows.{size, first, last, least, most, steps, higher, no_lower}
use Rattle.steam.proofs.Weights.{at_most, at_least}
use Rattle.steam.proofs.Search.{holds}

-- an enthalpy by the place of its lower row
record At (p place over under : ℕ) : Type 0 where
  pub inside : place + 1 < 72
  pub from : (row_at place).0 ≤ p
  pub to : p ≤ (row_at (place + 1)).0
  pub numerator : over ≡ (row_at place).1 * ((row_at (place + 1)).0 - p) + (row_at (place + 1)).1 * (p - (row_at place).0)
  pub denominator : under ≡ (row_at (place + 1)).0 - (row_at place).0

placed : (p over under : ℕ) (s : Saturated p over under) → At p s.between.place over under
placed p over under s =
    let w = s.between in
    let on = subst (λ (b : Row). OnLine p (row_at w.place) b over under) w.upper (subst (λ (a : Row). OnLine p a s.b over under) w.lower s.on_line) in
    record {
      inside = subst (λ (n : ℕ). w.place + 1 < n) size w.inside;
      from = subst (λ (a : Row). a.0 ≤ p) w.lower w.from;
      to = subst (λ (b : Row). p ≤ b.0) w.upper w.to;
      numerator = on.numerator;
      denominator = on.denominator;
    }

-- at an end of a line only one row weighs
lower_end : (g h p b : ℕ) → g * (b - p) + h * (p - p) ≡ g * (b - p)
lower_end g h p b = ap (λ (n : ℕ). g * (b - p) + h * n) (sub_self p) ∙ ap (λ (n : ℕ). g * (b - p) + n) (mul-zero h) ∙ add-zero (g * (b - p))

upper_end : (g h p a : ℕ) → g * (p - p) + h * (p - a) ≡ h * (p - a)
upper_end g h p a = ap (λ (n : ℕ). g * n + h * (p - a)) (sub_self p) ∙ ap (λ (n : ℕ). n + h * (p - a)) (mul-zero g) ∙ zero-add (h * (p - a))

at_place : (p k over under i : ℕ) → At p k over under → i < 72 → p ≡ (row_at i).0 → over ≡ (row_at i).1 * under
at_place p k over under i s h e =
    elim (cases_order i k) [
      | inl same ↦
          let f : p ≡ (row_at k).0 = e ∙ ap (λ (n : ℕ). (row_at n).0) same in
          let g = (row_at k).1 in
          let b = row_at (k + 1) in
          s.numerator ∙ ap (λ (n : ℕ). g * (b.0 - p) + b.1 * (p - n)) (sym f) ∙ lower_end g b.1 p b.0 ∙ ap (λ (n : ℕ). g * (b.0 - n)) f ∙ ap (λ (n : ℕ). g * n) (sym s.denominator) ∙ ap (λ (n : ℕ). (row_at n).1 * under) (sym same)
      | inr (inl before) ↦ absurd (omega (arith, higher i k before (omega (arith, s.inside)), s.from, e))
      | inr (inr after) ↦
          elim (cases_lt (k + 1) i) [
            | inl far ↦ absurd (omega (arith, higher (k + 1) i far h, s.to, e))
            | inr near ↦
                let same : i ≡ k + 1 = omega arith in
                let f : p ≡ (row_at (k + 1)).0 = e ∙ ap (λ (n : ℕ). (row_at n).0) same in
                let a = row_at k in
                let g = (row_at (k + 1)).1 in
                s.numerator ∙ ap (λ (n : ℕ). a.1 * (n - p) + g * (p - a.0)) (sym f) ∙ upper_end a.1 g p a.0 ∙ ap (λ (n : ℕ). g * (n - a.0)) f ∙ ap (λ (n : ℕ). g * n) (sym s.denominator) ∙ ap (λ (n : ℕ). (row_at n).1 * under) (sym same)
          ]
    ]

-- a row's own pressure has the row's enthalpy
pub at_a_row : (i over under : ℕ) → i < 72 → Saturated (row_at i).0 over under → over ≡ (row_at i).1 * under
at_a_row i over under h s = at_place (row_at i).0 s.between.place over under i (placed (row_at i).0 over under s) h refl

-- two lines meet only at a row
meet : (p i j o₁ u₁ o₂ u₂ : ℕ) → At p i o₁ u₁ → At p j o₂ u₂ → i < j → o₁ * u₂ ≡ o₂ * u₁
meet p i j o₁ u₁ o₂ u₂ s t l =
    let h : j < 72 = omega (arith, t.inside) in
    let e : p ≡ (row_at j).0 = omega (arith, no_lower (i + 1) j (omega arith) h, s.to, t.from) in
    let g = (row_at j).1 in
    ap (λ (n : ℕ). n * u₂) (at_place p i o₁ u₁ j s h e) ∙ mul_right_comm g u₁ u₂ ∙ ap (λ (n : ℕ). n * u₁) (sym (at_place p j o₂ u₂ j t h e))

one_line : (p k o₁ u₁ o₂ u₂ : ℕ) → At p k o₁ u₁ → At p k o₂ u₂ → o₁ * u₂ ≡ o₂ * u₁
one_line p k o₁ u₁ o₂ u₂ s t = ap (λ (n : ℕ). n * u₂) (s.numerator ∙ sym t.numerator) ∙ ap (λ (n : ℕ). o₂ * n) (t.denominator ∙ sym s.denominator)

-- any two fractions for one pressure are equal
pub same_value : (p o₁ u₁ o₂ u₂ : ℕ) → Saturated p o₁ u₁ → Saturated p o₂ u₂ → o₁ * u₂ ≡ o₂ * u₁
same_value p o₁ u₁ o₂ u₂ s t =
    let i = s.between.place in
    let j = t.between.place in
    let v = placed p o₁ u₁ s in
    let w = placed p o₂ u₂ t in
    elim (cases_order i j) [
      | inl e ↦ one_line p j o₁ u₁ o₂ u₂ (subst (λ (k : ℕ). At p k o₁ u₁) e v) w
      | inr (inl l) ↦ meet p i j o₁ u₁ o₂ u₂ v w l
      | inr (inr g) ↦ sym (meet p j i o₂ u₂ o₁ u₁ w v g)
    ]

-- from 1 to 22,000 kPa there is one enthalpy
pub one_value : (p : ℕ) → 1 ≤ p → p ≤ 22000 → OneValue p
one_value p o t = record { holds = holds p o t; alone = λ over under s. same_value p over under (enthalpy_over p) (enthalpy_under p) s (holds p o t) }

-- a divisor of 1,000 is at most 1,000
divisor : (k n : ℕ) → k * n ≡ 1000 → n ≤ 1000
divisor zero n e = absurd (omega arith)
divisor (suc k) n e = omega (arith, mul-le-mul_right {m = 1} {n = suc k} n (omega arith), e)

pub bounded : (p over under : ℕ) → Saturated p over under → Bounds p over under
bounded p over under s =
    let k = s.between.place in
    let w = placed p over under s in
    let a = row_at k in
    let b = row_at (k + 1) in
    let t = steps k w.inside in
    let d : t.gaps * under ≡ 1000 = ap (λ (n : ℕ). t.gaps * n) w.denominator ∙ t.divides in
    let sum : under ≡ b.0 - p + (p - a.0) = omega (arith, w.denominator, w.from, w.to) in
    record {
      low = omega (arith, first, no_lower 0 k (omega arith) (omega (arith, w.inside)), w.from);
      high = omega (arith, last, no_lower (k + 1) 71 (omega (arith, w.inside)) (omega arith), w.to);
      positive = omega (arith, w.denominator, t.rises);
      narrow = divisor t.gaps under d;
      parts = t.gaps;
      divides = d;
      least = omega (arith, w.numerator, sum, at_least a.1 b.1 (b.0 - p) (p - a.0) (least k (omega (arith, w.inside))) (least (k + 1) w.inside));
      most = omega (arith, w.numerator, sum, at_most a.1 b.1 (b.0 - p) (p - a.0) (most k (omega (arith, w.inside))) (most (k + 1) w.inside));
    }

-- the weighted sum of two neighbouring rows is small
pub sum_small : (p : ℕ) (a b : Row) → Neighbours p a b → a.1 * (b.0 - p) + b.1 * (p - a.0) ≤ 280190 * 1000
sum_small p a b n =
    let w = bounded p (a.1 * (b.0 - p) + b.1 * (p - a.0)) (b.0 - a.0) (record { a = a; b = b; between = n.between; on_line = record { numerator = refl; denominator = refl } }) in
    omega (arith, w.most, w.narrow)
