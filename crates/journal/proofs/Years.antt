-- A line's months added one after another. Assumes nothing.
use Rattle.std.proofs.Common.{◌≡◌, ℕ, zero, suc, ◌+◌, ◌*◌, ◌^◌, ◌<◌, ◌≤◌, List, [], ◌∷◌, map, get_or, take, pos, ◌-ℤ◌, Ok, sum_by, refl, sym, ap, ◌∙◌, ap₂, arith, w64, SFits, to_z, of_z}
use Rattle.std.proofs.Math.ListN.{get_or-map}
use Rattle.std.proofs.lemmas.Grind.{get_or_default_zero}
use Rattle.std.proofs.lemmas.List.Sums.{sum_by_more, sum_by-take-le}
use Rattle.std.proofs.lemmas.Int.{ints, to_z_pos, to_z-of_z}
use Rattle.calendar.specs.declared.month.Month.{Month}
use Rattle.emission.specs.Parts.{most_grams}
use Rattle.months.specs.declared.line.Line.{Line}
use Rattle.months.specs.declared.line.Line.TheVariants.{Fuel, Carbonate, Wastewater, PowerBought, HeatBought, PowerSold, HeatSold}
use Rattle.months.specs.declared.account.Figure.{Figure}
use Rattle.months.specs.declared.year.Months.{Months}
use Rattle.months.specs.Lines.{line_number}
use Rattle.months.specs.Accounts.{figure_at}
use Rattle.months.proofs.Changes.{line_bounds}
use Rattle.journal.specs.Contents.{Contents}
use Rattle.journal.specs.Sound.{Place, Sound}
use Rattle.journal.proofs.Soundness.{figure_bounds}
use Rattle.calendar.specs.Months.{month_numbers}
use Rattle.journal.specs.Reads.{year_figure, year_line_read, total_count, net_grams}

number_at : (i : ℕ) → i < 12 → get_or month_numbers i 0 ≡ i + 1
number_at zero h = refl
number_at (suc zero) h = refl
number_at (suc (suc zero)) h = refl
number_at (suc (suc (suc zero))) h = refl
number_at (suc (suc (suc (suc zero)))) h = refl
number_at (suc (suc (suc (suc (suc zero))))) h = refl
number_at (suc (suc (suc (suc (suc (suc zero)))))) h = refl
number_at (suc (suc (suc (suc (suc (suc (suc zero))))))) h = refl
number_at (suc (suc (suc (suc (suc (suc (suc (suc zero)))))))) h = refl
number_at (suc (suc (suc (suc (suc (suc (suc (suc (suc zero))))))))) h = refl
number_at (suc (suc (suc (suc (suc (suc (suc (suc (suc (suc zero)))))))))) h = refl
number_at (suc (suc (suc (suc (suc (suc (suc (suc (suc (suc (suc zero))))))))))) h = refl
number_at (suc (suc (suc (suc (suc (suc (suc (suc (suc (suc (suc (suc i)))))))))))) h = absurd (omega arith)

-- the number of the month at a place
pub numbered : (months : List Month) → map (λ m. m.number) months ≡ month_numbers → (i : ℕ) → i < 12 → (d : Month) → (get_or months i d).number ≡ i + 1
numbered months all i below d = sym (get_or-map {A = Month} (λ m. m.number) months i d) ∙ ap (λ (l : List ℕ). get_or l i d.number) all ∙ get_or_default_zero month_numbers i d.number below ∙ number_at i below

-- one month more
pub month_more : (f : ℕ → ℕ) (i : ℕ) → i < 12 → sum_by f (take (i + 1) month_numbers) ≡ sum_by f (take i month_numbers) + f (i + 1)
month_more f i below = sum_by_more f month_numbers i 0 (omega arith) ∙ ap (λ (k : ℕ). sum_by f (take i month_numbers) + f k) (number_at i below)

-- what is bounded in each month is bounded in the year, and so is each part of the year
pub year_most : (f : ℕ → ℕ) (most : ℕ) → ((m : ℕ) → 1 ≤ m → m ≤ 12 → f m ≤ most) → (k : ℕ) → sum_by f (take k month_numbers) ≤ 12 * most
year_most f most each k =
    let at : (m : ℕ) → 1 ≤ m → m ≤ 12 → f m ≤ most = each in
    let part = sum_by-take-le f month_numbers k in
    omega (arith, part, at 1 (omega arith) (omega arith), at 2 (omega arith) (omega arith), at 3 (omega arith) (omega arith), at 4 (omega arith) (omega arith), at 5 (omega arith) (omega arith), at 6 (omega arith) (omega arith), at 7 (omega arith) (omega arith), at 8 (omega arith) (omega arith), at 9 (omega arith) (omega arith), at 10 (omega arith) (omega arith), at 11 (omega arith) (omega arith), at 12 (omega arith) (omega arith))

-- the parts of a line's year
module _ (b : Contents) (sound : Sound b) (line : Line) where
  place : (m : ℕ) → 1 ≤ m → m ≤ 12 → Place
  place m low high = record { month = m; line = line_number line; from_january = low; to_december = high; from_fuel = (line_bounds line).0; to_heat_sold = (line_bounds line).1 }

  pub count_most : (k : ℕ) → sum_by (λ m. (figure_at b.months m (line_number line)).count) (take k month_numbers) ≤ 12 * 60000
  unfolding place
  count_most k = year_most (λ m. (figure_at b.months m (line_number line)).count) 60000 (λ m low high. (figure_bounds b sound (place m low high)).0) k

  pub grams_most : (k : ℕ) → sum_by (λ m. (figure_at b.months m (line_number line)).grams) (take k month_numbers) ≤ 12 * (60000 * most_grams)
  unfolding place
  grams_most k = year_most (λ m. (figure_at b.months m (line_number line)).grams) (60000 * most_grams) (λ m low high. (figure_bounds b sound (place m low high)).1) k

  -- with one month more added
  module _ (i : ℕ) (below : i < 12) (m : ℕ) (numbered : m ≡ i + 1) (figure : Figure) (read : figure ≡ figure_at b.months m (line_number line)) where
    is_next : figure ≡ figure_at b.months (i + 1) (line_number line)
    is_next = read ∙ ap (λ (k : ℕ). figure_at b.months k (line_number line)) numbered

    pub count_more : (count : ℕ) → count ≡ sum_by (λ m. (figure_at b.months m (line_number line)).count) (take i month_numbers) → count + figure.count ≡ sum_by (λ m. (figure_at b.months m (line_number line)).count) (take (i + 1) month_numbers)
    count_more count so_far =
        let more = month_more (λ m. (figure_at b.months m (line_number line)).count) i below in
        omega (arith, more, so_far, ap (λ (f : Figure). f.count) is_next)

    pub grams_more : (grams : ℕ) → grams ≡ sum_by (λ m. (figure_at b.months m (line_number line)).grams) (take i month_numbers) → grams + figure.grams ≡ sum_by (λ m. (figure_at b.months m (line_number line)).grams) (take (i + 1) month_numbers)
    grams_more grams so_far =
        let more = month_more (λ m. (figure_at b.months m (line_number line)).grams) i below in
        omega (arith, more, so_far, ap (λ (f : Figure). f.grams) is_next)

-- the whole year
pub year_is : (ms : Months) (l i count grams : ℕ) → i ≡ 12 → count ≡ sum_by (λ m. (figure_at ms m l).count) (take i month_numbers) → grams ≡ sum_by (λ m. (figure_at ms m l).grams) (take i month_numbers) → ◌≡◌ {A = Figure} (record { count = count; grams = grams }) (year_figure ms l)
year_is ms l i count grams all counted weighed =
    let n : count ≡ (year_figure ms l).count = counted ∙ ap (λ (k : ℕ). sum_by (λ m. (figure_at ms m l).count) (take k month_numbers)) all in
    let g : grams ≡ (year_figure ms l).grams = weighed ∙ ap (λ (k : ℕ). sum_by (λ m. (figure_at ms m l).grams) (take k month_numbers)) all in
    ap₂ (λ (x y : ℕ). record { count = x; grams = y }) n g

-- the year of a line is read by the line's number
pub year_read : (ms : Months) (line : Line) (f : Figure) → f ≡ year_figure ms (line_number line) → Ok f ≡ year_line_read ms (line_number line)
year_read ms Fuel f e = ap Ok e
year_read ms Carbonate f e = ap Ok e
year_read ms Wastewater f e = ap Ok e
year_read ms PowerBought f e = ap Ok e
year_read ms HeatBought f e = ap Ok e
year_read ms PowerSold f e = ap Ok e
year_read ms HeatSold f e = ap Ok e

-- all lines, and those added less those deducted
sum_of : (f : ℕ → ℕ) (a b c d e g h : ℕ) → a ≡ f 1 → b ≡ f 2 → c ≡ f 3 → d ≡ f 4 → e ≡ f 5 → g ≡ f 6 → h ≡ f 7 → a + b + c + d + e + g + h ≡ sum_by f (1 ∷ 2 ∷ 3 ∷ 4 ∷ 5 ∷ 6 ∷ 7 ∷ [])
sum_of f a b c d e g h p q r s t u v = omega arith

added_of : (f : ℕ → ℕ) (a b c d e : ℕ) → a ≡ f 1 → b ≡ f 2 → c ≡ f 3 → d ≡ f 4 → e ≡ f 5 → a + b + c + d + e ≡ sum_by f (1 ∷ 2 ∷ 3 ∷ 4 ∷ 5 ∷ [])
added_of f a b c d e p q r s t = omega arith

deducted_of : (f : ℕ → ℕ) (g h : ℕ) → g ≡ f 6 → h ≡ f 7 → g + h ≡ sum_by f (6 ∷ 7 ∷ [])
deducted_of f g h u v = omega arith

-- a difference of amounts that fit a signed number fits one
net_fits : (a d : ℕ) → a < 2 ^ 63 → d < 2 ^ 63 → SFits w64 (to_z w64 a -ℤ to_z w64 d)
net_fits a d small less = omega (arith, ints)

net_is : (a d : ℕ) → a < 2 ^ 63 → d < 2 ^ 63 → to_z w64 (of_z w64 (to_z w64 a -ℤ to_z w64 d)) ≡ pos a -ℤ pos d
net_is a d small less = to_z-of_z w64 (to_z w64 a -ℤ to_z w64 d) (net_fits a d small less) ∙ ap₂ ◌-ℤ◌ (to_z_pos w64 a small) (to_z_pos w64 d less)

-- the grams of a line in a year
abbrev pub IsLight : Figure → Type 0
IsLight f = f.grams ≤ 12 * (60000 * most_grams)

module _ (a b c d e g h : Figure) (la : IsLight a) (lb : IsLight b) (lc : IsLight c) (ld : IsLight d) (le : IsLight e) (lg : IsLight g) (lh : IsLight h) where
  added_fits : a.grams + b.grams + c.grams + d.grams + e.grams < 2 ^ 63
  added_fits = omega arith

  deducted_fits : g.grams + h.grams < 2 ^ 63
  deducted_fits = omega arith

  module _ (ms : Months) (p : a ≡ year_figure ms 1) (q : b ≡ year_figure ms 2) (r : c ≡ year_figure ms 3) (s : d ≡ year_figure ms 4) (t : e ≡ year_figure ms 5) (u : g ≡ year_figure ms 6) (v : h ≡ year_figure ms 7) where
    count_of : {x y : Figure} → x ≡ y → x.count ≡ y.count
    count_of i = ap (λ (x : Figure). x.count) i

    grams_along : {x y : Figure} → x ≡ y → x.grams ≡ y.grams
    grams_along i = ap (λ (x : Figure). x.grams) i

    pub total_counts : a.count + b.count + c.count + d.count + e.count + g.count + h.count ≡ total_count ms
    total_counts = sum_of (λ l. (year_figure ms l).count) a.count b.count c.count d.count e.count g.count h.count (count_of p) (count_of q) (count_of r) (count_of s) (count_of t) (count_of u) (count_of v)

    pub total_nets : to_z w64 (of_z w64 (to_z w64 (a.grams + b.grams + c.grams + d.grams + e.grams) -ℤ to_z w64 (g.grams + h.grams))) ≡ net_grams ms
    total_nets =
        net_is _ _ added_fits deducted_fits ∙
        ap₂ (λ (x y : ℕ). pos x -ℤ pos y)
        (added_of (λ l. (year_figure ms l).grams) a.grams b.grams c.grams d.grams e.grams (grams_along p) (grams_along q) (grams_along r) (grams_along s) (grams_along t))
        (deducted_of (λ l. (year_figure ms l).grams) g.grams h.grams (grams_along u) (grams_along v))
