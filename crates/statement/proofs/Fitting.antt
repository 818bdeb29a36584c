-- What a book states fits the bytes of a statement. Assumes nothing.
use Rattle.std.proofs.Common.{ℕ, ◌*◌, ◌^◌, ◌<◌, ◌≤◌, ◌-ℤ◌, ◌∷◌, [], pos, sum_by, leb, w64, SFits, arith}
use Rattle.std.proofs.lemmas.Bool.{leb-true}
use Rattle.std.proofs.lemmas.Int.{ints}
use lib.Ieee.Bits.{is_true}
use lib.Ieee.Fits.{and_r}
use Rattle.calendar.specs.declared.year.Year.{Year}
use Rattle.emission.specs.Parts.{most_grams}
use Rattle.months.specs.Accounts.{figure_at}
use Rattle.journal.specs.Contents.{Contents}
use Rattle.journal.specs.Sound.{Sound}
use Rattle.journal.specs.Reads.{year_figure, total_count, net_grams}
use Rattle.journal.proofs.Soundness.{figure_bounds}
use Rattle.journal.proofs.Years.{year_most}
use Rattle.journal.proofs.Few.{line_few, total_few}

pub year_fits : (y : Year) → y.number < 2 ^ 16
year_fits y = let most = leb-true y.number 2199 (is_true (leb y.number 2199) (and_r (leb 2000 y.number) (leb y.number 2199) y.lawful)) in omega (arith, most)

-- the grams of a line in a year
most_of_line : (b : Contents) → Sound b → (l : ℕ) → 1 ≤ l → l ≤ 7 → (year_figure b.months l).grams ≤ 12 * (60000 * most_grams)
most_of_line b sound l from to =
    year_most (λ m. (figure_at b.months m l).grams) (60000 * most_grams)
    (λ m low high. (figure_bounds b sound (record { month = m; line = l; from_january = low; to_december = high; from_fuel = from; to_heat_sold = to })).1) 12

five : (f : ℕ → ℕ) (n : ℕ) → ((l : ℕ) → 1 ≤ l → l ≤ 7 → f l ≤ n) → sum_by f (1 ∷ 2 ∷ 3 ∷ 4 ∷ 5 ∷ []) ≤ 5 * n
five f n most = omega (arith, most 1 (omega arith) (omega arith), most 2 (omega arith) (omega arith), most 3 (omega arith) (omega arith), most 4 (omega arith) (omega arith), most 5 (omega arith) (omega arith))

two : (f : ℕ → ℕ) (n : ℕ) → ((l : ℕ) → 1 ≤ l → l ≤ 7 → f l ≤ n) → sum_by f (6 ∷ 7 ∷ []) ≤ 2 * n
two f n most = omega (arith, most 6 (omega arith) (omega arith), most 7 (omega arith) (omega arith))

difference : (a d : ℕ) → a < 2 ^ 63 → d < 2 ^ 63 → SFits w64 (pos a -ℤ pos d)
difference a d small less = omega (arith, ints)

module _ (b : Contents) (sound : Sound b) where
  pub grams_fit : (l : ℕ) → 1 ≤ l → l ≤ 7 → (year_figure b.months l).grams < 2 ^ 64
  grams_fit l from to = let most = most_of_line b sound l from to in omega (arith, most)

  pub count_fits : (l : ℕ) → 1 ≤ l → l ≤ 7 → (year_figure b.months l).count < 2 ^ 16
  count_fits l from to = let few = line_few b sound l from to in omega (arith, few)

  pub total_fits : total_count b.months < 2 ^ 16
  total_fits = let few = total_few b sound in omega (arith, few)

  pub net_fits : SFits w64 (net_grams b.months)
  net_fits =
      let added = five (λ l. (year_figure b.months l).grams) (12 * (60000 * most_grams)) (most_of_line b sound) in
      let deducted = two (λ l. (year_figure b.months l).grams) (12 * (60000 * most_grams)) (most_of_line b sound) in
      difference (sum_by (λ l. (year_figure b.months l).grams) (1 ∷ 2 ∷ 3 ∷ 4 ∷ 5 ∷ [])) (sum_by (λ l. (year_figure b.months l).grams) (6 ∷ 7 ∷ []))
      (omega (arith, added)) (omega (arith, deducted))
