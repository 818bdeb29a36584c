-- Where the months of a year stand. Assumes nothing.
use Rattle.std.proofs.Common.{◌≡◌, ℕ, ◌+◌, ◌-◌, ◌<◌, ◌≤◌, ◌⊎◌, Bool, true, false, cond, T, leb, ltb, List, length, get_or, take, sum, sym, refl, ap, ◌∙◌, subst, inl, inr, zero-add, arith, leb→le}
use lib.Ieee.Fits.{and_l, and_r}
use Rattle.std.proofs.lemmas.Bool.{cases_order, cases_lt, ltb-true, ltb-false, lt-ltb}
use Rattle.std.proofs.lemmas.Grind.{get_or_default_zero}
use Rattle.calendar.specs.Calendar.{year_lawful, leap, days_in, day_lawful}
use Rattle.calendar.specs.Months.{lengths, days_before, InMonth}
use Rattle.std.specs.List.Sorted.{IsPartitionedBy, IsPartitionPoint}
use Rattle.calendar.specs.Laws.{OnlyMonth}
use Rattle.calendar.proofs.Sums.{sums_at, rises, Falls, falls}

-- an entry of the table is the sum of the lengths before it
pub before_at : (b : Bool) (k : ℕ) → k < 12 → get_or (days_before b) k 0 ≡ sum (take k (lengths b))
before_at b k h = sums_at 0 (lengths b) k h ∙ zero-add (sum (take k (lengths b)))

-- the same of the table that the code has chosen
pub table_at : (y : ℕ) (b : Bool) (table : List ℕ) → b ≡ leap y → table ≡ days_before b → (k : ℕ) → k < 12 → get_or table k 0 ≡ sum (take k (lengths (leap y)))
table_at y b table e f k h = ap (λ (t : List ℕ). get_or t k 0) (f ∙ ap days_before e) ∙ before_at (leap y) k h

-- a year's days by its months, at both kinds of year
filled : (b : Bool) → cond b 366 365 ≡ sum (lengths b)
filled true = refl
filled false = refl

pub fills : (y : ℕ) → days_in y ≡ sum (lengths (leap y))
fills y = filled (leap y)

pub first : (y d : ℕ) → T (day_lawful y d) → 1 ≤ d
first y d t = leb→le 1 d (and_l (leb 1 d) (leb d (days_in y)) t)

pub last : (y d : ℕ) → T (day_lawful y d) → d ≤ sum (lengths (leap y))
last y d t = subst (λ (n : ℕ). d ≤ n) (fills y) (leb→le d (days_in y) (and_r (leb 1 d) (leb d (days_in y)) t))

pub lies : (y d m : ℕ) → Falls (lengths (leap y)) d 12 m → InMonth y d m
lies y d m f =
    let e : m ≡ m + 1 - 1 = omega arith in
    let w : d ≤ sum (take (m + 1 - 1) (lengths (leap y))) = subst (λ (j : ℕ). d ≤ sum (take j (lengths (leap y)))) e f.within in
    record { from_january = f.low; to_december = f.high; begun = omega (arith, f.past); before_next = omega (arith, w) }

-- of two months that hold a day, neither is the earlier
apart : (y d m n : ℕ) → InMonth y d m → InMonth y d n → m < n → ⊥
apart y d m n a b h = omega (arith, rises (lengths (leap y)) (m + 1 - 1) (n - 1) (omega arith), a.before_next, b.begun)

-- a day lies in one month only
pub same_month : (y d m n : ℕ) → InMonth y d m → InMonth y d n → m ≡ n
same_month y d m n a b =
    elim (cases_order m n) [
      | inl e ↦ e
      | inr (inl l) ↦ absurd (apart y d m n a b l)
      | inr (inr g) ↦ absurd (apart y d n m b a g)
    ]

pub one_month : (y d : ℕ) → T (year_lawful y) → T (day_lawful y d) → (m : ℕ) × OnlyMonth y d m
one_month y d _ t =
    let f = falls (lengths (leap y)) d 12 (first y d t) (last y d t) in
    let i = lies y d f.0 f.1 in (f.0, record { holds = i; alone = λ n o. same_month y d n f.0 o i })

twelve : (b : Bool) (table : List ℕ) → table ≡ days_before b → length table ≡ 12
twelve b table f = ap (λ (t : List ℕ). length t) f

-- whether a day is past what stands before a month of the table
module _ (y : ℕ) (b : Bool) (table : List ℕ) (e : b ≡ leap y) (f : table ≡ days_before b) where
  entry_at : (k x : ℕ) → k < 12 → get_or table k x ≡ sum (take k (lengths (leap y)))
  entry_at k x h =
      let l : length table ≡ 12 = twelve b table f in
      get_or_default_zero table k x (omega arith) ∙ table_at y b table e f k h

  pub sorted : (d : ℕ) → IsPartitionedBy (λ n. ltb n d) table
  sorted d i j x h k past =
      let l : length table ≡ 12 = twelve b table f in
      let below : get_or table j x < d = ltb-true (get_or table j x) d past in
      lt-ltb (get_or table i x) d (omega (arith, rises (lengths (leap y)) i j h, entry_at i x (omega arith), entry_at j x (omega arith)))

  -- the month that has begun and whose next has not
  pub begun : (d m : ℕ) → T (day_lawful y d) → m ≤ length table → IsPartitionPoint (λ n. ltb n d ≡ true) (λ n. ltb n d ≡ false) table m → Falls (lengths (leap y)) d 12 m
  begun d m lawful most p =
      let l : length table ≡ 12 = twelve b table f in
      let low : 1 ≤ m = from_first (cases_lt 0 m) in
      record { low = low; high = omega arith; past = subst (λ (n : ℕ). n < d) (entry_at (m - 1) 0 (omega arith)) (ltb-true (get_or table (m - 1) 0) d (p.0 (m - 1) 0 (omega arith) (omega arith))); within = to_last (cases_lt m 12) }
    where
      from_first : (0 < m) ⊎ (m ≤ 0) → 1 ≤ m
      from_first (inl h) = h
      from_first (inr h) =
          let l : length table ≡ 12 = twelve b table f in
          let none = ltb-false (get_or table 0 0) d (p.1 0 0 (omega arith) (omega arith)) in
          absurd (omega (arith, none, entry_at 0 0 (omega arith), first y d lawful))

      to_last : (m < 12) ⊎ (12 ≤ m) → d ≤ sum (take m (lengths (leap y)))
      to_last (inl h) =
          let l : length table ≡ 12 = twelve b table f in
          omega (arith, ltb-false (get_or table m 0) d (p.1 m 0 (omega arith) (omega arith)), entry_at m 0 h)
      to_last (inr h) =
          let l : length table ≡ 12 = twelve b table f in
          let all : m ≡ 12 = omega arith in
          subst (λ (k : ℕ). d ≤ sum (take k (lengths (leap y)))) (sym all) (last y d lawful)
