-- The sums of the front parts of a list. Assumes nothing.
use Rattle.std.proofs.Common.{◌≡◌, ℕ, zero, suc, ◌+◌, ◌-◌, ◌<◌, ◌≤◌, List, [], ◌∷◌, length, get_or, take, sum, sym, ◌∙◌, subst, inl, inr, le_of_suc-le-suc, not-suc-le-zero, add-zero, arith}
use Rattle.std.proofs.lemmas.List.{take-take}
use Rattle.std.proofs.lemmas.List.Sums.{sum_by-cons, sum_by-take-le}
use Rattle.std.proofs.lemmas.Bool.{cases_lt}
use Rattle.calendar.specs.Months.{sums_from}

-- an entry of the running sums is the sum of what stands before it
pub sums_at : (s : ℕ) (xs : List ℕ) (k : ℕ) → k < length xs → get_or (sums_from s xs) k 0 ≡ s + sum (take k xs)
sums_at s [] k h = absurd (not-suc-le-zero h)
sums_at s (x ∷ xs) zero h = sym (add-zero s)
sums_at s (x ∷ xs) (suc k) h = sums_at (s + x) xs k (le_of_suc-le-suc h) ∙ omega (arith, sum_by-cons (λ (n : ℕ). n) x (take k xs))

-- a longer front has no smaller sum
pub rises : (xs : List ℕ) (i j : ℕ) → i ≤ j → sum (take i xs) ≤ sum (take j xs)
rises xs i j h = subst (λ (ys : List ℕ). sum ys ≤ sum (take j xs)) (take-take i j xs h) (sum_by-take-le (λ (n : ℕ). n) (take j xs) i)

-- d is past the front that ends before entry m, and not past the one that ends with it
pub record Falls (xs : List ℕ) (d k m : ℕ) : Type 0 where
  pub low : 1 ≤ m
  pub high : m ≤ k
  pub past : sum (take (m - 1) xs) < d
  pub within : d ≤ sum (take m xs)

pub falls : (xs : List ℕ) (d k : ℕ) → 1 ≤ d → d ≤ sum (take k xs) → (m : ℕ) × Falls xs d k m
falls xs d zero p h = absurd (omega arith)
falls xs d (suc k) p h =
    elim (cases_lt (sum (take k xs)) d) [
      | inl over ↦
          let e : k ≡ suc k - 1 = omega arith in
          (suc k, record { low = omega arith; high = omega arith; past = subst (λ (j : ℕ). sum (take j xs) < d) e over; within = h })
      | inr under ↦
          let r = falls xs d k p under in
          (r.0, record { low = r.1.low; high = omega (arith, r.1.high); past = r.1.past; within = r.1.within })
    ]
