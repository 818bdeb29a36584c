-- No lawful record emits more than 8 × 10¹¹ g. Assumes nothing.
use Rattle.std.proofs.Common.{◌≡◌, ℕ, ◌-◌, ◌*◌, ◌/◌, ◌≤◌, Bool, true, false, cond, T, eqb, leb, Some, None, Option, sym, refl, ap, ◌∙◌, subst, inl, inr, le_trans, le_refl, mul_assoc, mul_comm, mul-le-mul, mul-le-mul_left, div-mul-le_self, sub-le, arith}
use native.Mathlib.Nat.{mul-mul-mul_comm}
use lib.Ieee.Bits.{is_true}
use lib.Ieee.Fits.{and_l, and_r}
use Rattle.std.proofs.lemmas.Bool.{leb-true, eqb-true, cases_Bool}
use Rattle.std.proofs.lemmas.Bool.Decides.{nat_tests}
use Rattle.reading.specs.declared.sets.ReadingSet.{ReadingSet}
use Rattle.reading.specs.declared.sets.ReadingSet.TheVariants.{Amount, Water, Steam, Wastewater}
use Rattle.reading.specs.Limited.{readings_of, lawful_set}
use Rattle.reading.specs.Quantity.{quantities_of}
use Rattle.reading.specs.Layout.{shape_of}
use Rattle.reading.proofs.Kept.{each}
use Rattle.kind.specs.Subject.{shape_in}
use Rattle.steam.proofs.Values.{bounded, one_value}
use Rattle.factor.specs.declared.question.Factor.{Factor}
use Rattle.factor.specs.Limits.{keeps, largest_rate, share_lawful}
use Rattle.factor.specs.Questions.{Asked}
use Rattle.record.specs.declared.raw.RawRecord.{RawRecord}
use Rattle.record.specs.Rules.{fitting, same_shape, share_lawful as record_share_lawful, at_most_whole, shape_number}
use Rattle.emission.specs.Emission.{emission_parts, amount_parts, rate_of, share_of, purity_of, loss_of}
use Rattle.emission.specs.Entries.{asked, Limited}
use Rattle.emission.proofs.Within.{most, least_one}

-- what is known of a factor that a kind asked for
pub record FactorLimits (kind : ℕ) (f : Option Factor) : Type 0 where
  pub rate_9 : rate_of f ≤ 1000000000
  pub rate_5 : (kind ≡ 1 → ⊥) → rate_of f ≤ 100000
  pub share_3 : share_of f ≤ 1000

rate_most : (class rate share : ℕ) → T (keeps class rate share) → (rate ≤ 1000000000) × ((class ≡ 1 → ⊥) → rate ≤ 100000) × (share ≤ 1000)
rate_most class rate share t =
    let a : leb rate (largest_rate class) ≡ true = is_true _ (and_l (leb rate (largest_rate class)) (share_lawful class share) t) in
    let b : share_lawful class share ≡ true = is_true _ (and_r (leb rate (largest_rate class)) (share_lawful class share) t) in
    (grind (arith, nat_tests), λ n. grind (arith, nat_tests), grind (arith, nat_tests))

no_factor : (kind : ℕ) → FactorLimits kind None
no_factor kind = record { rate_9 = omega arith; rate_5 = λ n. omega arith; share_3 = omega arith }

of_asked : (kind : ℕ) (a : Asked) (f : Option Factor) → (a.class ≡ 1 → kind ≡ 1) → Limited (Some a) f → FactorLimits kind f
of_asked kind a None k l = absurd l
of_asked kind a (Some g) k l =
    let m = rate_most a.class g.rate g.share l in
    record { rate_9 = m.0; rate_5 = λ n. m.1 (λ c. n (k c)); share_3 = m.2 }

-- the factor of a record's own question
pub factor_limits : (r : RawRecord) (f : Option Factor) → Limited (asked r) f → FactorLimits r.kind f
factor_limits r f h =
    elim (cases_Bool (leb r.kind 2)) [
      | inl l ↦ of_asked r.kind (record { class = r.kind; item = r.item; tier = r.tier; year = r.year }) f (λ c. c) (simp l at h)
      | inr l ↦ (let h = simp l at h in
          elim (cases_Bool (eqb r.kind 3)) [
            | inl t ↦ subst (FactorLimits r.kind) (sym (simp t at h)) (no_factor r.kind)
            | inr t ↦ of_asked r.kind (record { class = cond (eqb r.kind 4) 3 (cond (leb r.kind 6) 4 5); item = 0; tier = r.tier; year = r.year }) f (λ c. absurd (late (eqb r.kind 4) (leb r.kind 6) c)) (simp t at h)
          ])
    ]
  where
    late : (a b : Bool) → ◌≡◌ {A = ℕ} (cond a 3 (cond b 4 5)) 1 → ⊥
    late true b e = omega arith
    late false true e = omega arith
    late false false e = omega arith

-- a product of two products
four : (a b c d A B C D : ℕ) → a ≤ A → b ≤ B → c ≤ C → d ≤ D → (a * b) * (c * d) ≤ (A * B) * (C * D)
four a b c d A B C D p q r s = mul-le-mul (mul-le-mul p q) (mul-le-mul r s)

three : (a b c A B : ℕ) → a ≤ A → b ≤ B → (a * b) * c ≤ (A * B) * c
three a b c A B p q = mul-le-mul (mul-le-mul p q) (le_refl c)

share_most : (s : Option ℕ) → at_most_whole s ≡ true → (purity_of s ≤ 1000) × (loss_of s ≤ 1000)
share_most None t = (omega arith, omega arith)
share_most (Some s) t = let l = leb-true s 1000 t in (l, l)

share_kept : (kind : ℕ) (s : Option ℕ) → record_share_lawful kind s ≡ true → at_most_whole s ≡ true
share_kept kind None t = refl
share_kept kind (Some s) t = grind (arith, nat_tests)

amount_most : (kind q : ℕ) (share : Option ℕ) (f : Option Factor) → q ≤ 800000 → at_most_whole share ≡ true → FactorLimits kind f → amount_parts kind q share f ≤ 24000000000000000000000
amount_most kind q share f h s l =
    elim (cases_Bool (eqb kind 1)) [
      | inl e ↦ rw e (le_trans (four q (rate_of f) (share_of f) 1100 800000 1000000000 1000 1100 h l.rate_9 l.share_3 (omega arith)) (omega arith))
      | inr e ↦ (let n : kind ≡ 1 → ⊥ = λ k. (let x : eqb kind 1 ≡ true = rw k refl in let z : ◌≡◌ {A = ℕ} 0 1 = cc in omega arith) in
          rw e (elim (cases_Bool (eqb kind 2)) [
            | inl t ↦ rw t (le_trans (four q (rate_of f) (purity_of share) 300000 800000 100000 1000 300000 h (l.rate_5 n) (share_most share s).0 (omega arith)) (omega arith))
            | inr t ↦ rw t (elim (cases_Bool (eqb kind 3)) [
              | inl u ↦ rw u (le_trans (three q (loss_of share) 30000000000 800000 1000 h (share_most share s).1) (omega arith))
              | inr u ↦ rw u (le_trans (three q (rate_of f) 3000000000 800000 100000 h (l.rate_5 n)) (omega arith))
            ])
          ]))
    ]

-- wastewater: less recovered methane is no more
wastewater_most : (cod rate recovered potential : ℕ) → cod ≤ 8000000000 → rate ≤ 100000 → potential ≤ 1000
    → (cod * rate - recovered * 100000000) * (potential * 30000) ≤ 24000000000000000000000
wastewater_most cod rate recovered potential c r p =
    let formed : cod * rate ≤ 8000000000 * 100000 = mul-le-mul c r in
    let left : cod * rate - recovered * 100000000 ≤ 800000000000000 = omega arith in
    le_trans (mul-le-mul left (mul-le-mul p (le_refl 30000))) (omega arith)

-- steam: the enthalpy's denominator falls out
steam_most : (kg over under rate : ℕ) → 1 ≤ under → kg ≤ 800000 → over ≤ 280190 * under → rate ≤ 100000
    → (kg * (over - 8374 * under)) * (rate * (30000 / under)) ≤ 24000000000000000000000
steam_most kg over under rate u k h r =
    let g = 30000 / under in
    let gu : g * under ≤ 30000 = div-mul-le_self 30000 under in
    let x : over - 8374 * under ≤ 280190 * under = omega arith in
    let a : (kg * (over - 8374 * under)) * (rate * g) ≤ (800000 * (280190 * under)) * (100000 * g) = mul-le-mul (mul-le-mul k x) (mul-le-mul r (le_refl g)) in
    let e : (800000 * (280190 * under)) * (100000 * g) ≡ (224152000000 * 100000) * (under * g) =
    ap (λ n. n * (100000 * g)) (sym (mul_assoc 800000 280190 under)) ∙ mul-mul-mul_comm 224152000000 under 100000 g in
    let b : (224152000000 * 100000) * (under * g) ≤ (224152000000 * 100000) * 30000 = mul-le-mul_left (224152000000 * 100000) (subst (λ n. n ≤ 30000) (mul_comm g under) gu) in
    le_trans a (le_trans (subst (λ n. n ≤ (224152000000 * 100000) * 30000) (sym e) b) (omega arith))

-- a set that is not an amount is not a fuel's
not_fuel : (kind item : ℕ) (n : ℕ) → (n ≡ 0 → ⊥) → kind ≡ 1 → eqb n (shape_number (shape_in kind item)) ≡ true → ⊥
not_fuel kind item n h k e = h (subst (λ m. n ≡ shape_number (shape_in m item)) k (eqb-true n (shape_number (shape_in kind item)) e))

pub parts_most : (kind item : ℕ) (set : ReadingSet) (share : Option ℕ) (f : Option Factor) → T (lawful_set set) → T (fitting kind item (shape_of set) share) → FactorLimits kind f
    → emission_parts kind (quantities_of set) share f ≤ 24000000000000000000000
parts_most kind item set share f t fit l = go set t (is_true _ (and_l (same_shape (shape_of set) (shape_in kind item)) (record_share_lawful kind share) fit))
  where
    whole : at_most_whole share ≡ true
    whole = share_kept kind share (is_true _ (and_r (same_shape (shape_of set) (shape_in kind item)) (record_share_lawful kind share) fit))

    go : (set : ReadingSet) → T (lawful_set set) → same_shape (shape_of set) (shape_in kind item) ≡ true → emission_parts kind (quantities_of set) share f ≤ 24000000000000000000000
    go (Amount x) t s = let e = each (readings_of (Amount x)) t in amount_most kind _ share f (most _ e.0) whole l
    go (Water w) t s =
        let e = each (readings_of (Water w)) t in
        let rate = l.rate_5 (λ k. not_fuel kind item 1 (λ z. omega arith) k s) in
        let above = most _ e.1.0 in
        le_trans (mul-le-mul (mul-le-mul (most _ e.0) (le_trans (sub-le _ 2000) above)) (mul-le-mul rate (le_refl 125604))) (omega arith)
    go (Steam p) t s =
        let e = each (readings_of (Steam p)) t in
        let rate = l.rate_5 (λ k. not_fuel kind item 2 (λ z. omega arith) k s) in
        let low = least_one _ refl refl e.1.0 in
        let b = bounded _ _ _ (one_value _ low (most _ e.1.0)).holds in
        steam_most _ _ _ (rate_of f) b.positive (most _ e.0) b.most rate
    go (Wastewater w) t s =
        let e = each (readings_of (Wastewater w)) t in
        let rate = l.rate_5 (λ k. not_fuel kind item 3 (λ z. omega arith) k s) in
        let cod = le_trans (sub-le _ _) (mul-le-mul (most _ e.0) (le_trans (sub-le _ _) (most _ e.1.0))) in
        wastewater_most _ (rate_of f) _ (share_of f) cod rate l.share_3
