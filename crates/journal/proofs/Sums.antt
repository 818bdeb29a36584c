-- From what a book holds to what its calls determine: a book's figures are the sums of the standing entries. Assumes nothing.
use Rattle.std.proofs.Common.{◌≡◌, ℕ, zero, suc, ◌+◌, ◌-◌, ◌<◌, ◌≤◌, Bool, true, false, cond, ◌&&◌, eqb, ltb, leb, List, [], ◌∷◌, length, get_or, take, pos, ◌-ℤ◌, Decides, sum_by, sym, refl, ap, ◌∙◌, subst, inl, inr, le_of_suc-le-suc, add-zero, add-one, arith, lit≤}
use Rattle.std.proofs.lemmas.List.Sums.{sum_by_more}
use Rattle.std.proofs.lemmas.Bool.Decides.{nat_tests as tells, Decides-eqb, Decides-like}
use Rattle.std.proofs.lemmas.Bool.{true≢false, eqb-true, eq-eqb, ltb-true, lt-ltb, leb-true, le-leb, and_parts, and_from, cases_Bool}
use Rattle.calendar.specs.Months.{InMonth}
use Rattle.calendar.proofs.Places.{same_month}
use Rattle.kind.specs.Kinds.{numbers_of}
use Rattle.kind.specs.declared.kinds.Kind.{Kind}
use Rattle.kind.specs.declared.kinds.Kind.TheVariants.{FuelBurnt, CarbonateUsed, BoughtCo2, WastewaterTreated, PowerBought, PowerSold, HeatBought, HeatSold}
use Rattle.emission.specs.Entries.{Kept, kept_parts}
use Rattle.emission.specs.Views.{kept_of}
use Rattle.months.specs.Lines.{line_of}
use Rattle.months.specs.Accounts.{figure_at}
use Rattle.months.proofs.Changes.{month_bounds}
use Rattle.journal.specs.declared.row.JournalEntry.{JournalEntry}
use Rattle.journal.specs.Calls.{Call}
use Rattle.journal.specs.Words.{Taken, Stands}
use Rattle.journal.specs.Contents.{Contents, Row, Marked, row_line}
use Rattle.journal.specs.Sound.{Place, stands_in, used_rows, row_count, row_grams, Sound}
use Rattle.journal.specs.Figures.{Sum, AddsUp, none, picked, passed, Standing, OfLine, InLine, IsAdded, IsDeducted, Any, Figures, TotalTold}
use Rattle.calendar.specs.Months.{month_numbers}
use Rattle.journal.specs.Reads.{year_figure, total_count, net_grams}
use Rattle.journal.proofs.SumsOver.{up_from, among, sum_same, sum_along, sum_plus, sum_classes, and_off}

-- the book's rows are the entries that the calls determine to stand
pub record Tied (y n : ℕ) (h : List Call) (b : Contents) : Type 0 where
  pub year : b.year ≡ y
  pub taken : Taken y n h b.used
  pub marked : (k : ℕ) (e : Kept) → Marked b k e → Stands y n h k e
  pub stands : (k : ℕ) (e : Kept) → Stands y n h k e → Marked b k e

-- the element at a place within a list, whatever the default
element : {A : Type 0} (xs : List A) (k : ℕ) → k < length xs → (x : A) × ((d : A) → get_or xs k d ≡ x)
element [] k h = absurd (omega arith)
element (x ∷ xs) zero h = (x, λ d. refl)
element (x ∷ xs) (suc k) h = element xs k (le_of_suc-le-suc h)

-- the count, the grams and the exact emission of the rows that stand and pass a test
abbrev pub rows_sum : (JournalEntry → Bool) → List JournalEntry → Sum
rows_sum p rows = record {
  count = sum_by (λ row. cond (row.stands && p row) 1 0) rows;
  grams = sum_by (λ row. cond (row.stands && p row) row.entry.grams 0) rows;
  parts = sum_by (λ row. cond (row.stands && p row) (kept_parts (kept_of row.entry)) 0) rows;
}

-- a sum with the row x more, if b says that it passes
abbrev row_more : Sum → Bool → JournalEntry → Sum
row_more s b x = record { count = s.count + cond b 1 0; grams = s.grams + cond b x.entry.grams 0; parts = s.parts + cond b (kept_parts (kept_of x.entry)) 0 }

-- the sum of one row more
rows_more : (p : JournalEntry → Bool) (rows : List JournalEntry) (k : ℕ) (x : JournalEntry) → k < length rows → get_or rows k x ≡ x → rows_sum p (take (k + 1) rows) ≡ row_more (rows_sum p (take k rows)) (x.stands && p x) x
rows_more p rows k x h is =
    let more : (v : JournalEntry → ℕ) → sum_by v (take (k + 1) rows) ≡ sum_by v (take k rows) + v x =
    λ v. sum_by_more v rows k x h ∙ ap (λ (z : JournalEntry). sum_by v (take k rows) + v z) is in
    λ i. record {
      count = more (λ row. cond (row.stands && p row) 1 0) i;
      grams = more (λ row. cond (row.stands && p row) row.entry.grams 0) i;
      parts = more (λ row. cond (row.stands && p row) (kept_parts (kept_of row.entry)) 0) i;
    }

-- a row that does not pass adds nothing
row_passed : (s : Sum) (x : JournalEntry) → row_more s false x ≡ s
row_passed s x = λ i. record { count = add-zero s.count i; grams = add-zero s.grams i; parts = add-zero s.parts i }

-- each kind has one of the seven lines
kind_line : (k : Kind) → (1 ≤ line_of (numbers_of k).0) × (line_of (numbers_of k).0 ≤ 7)
kind_line (FuelBurnt fuel) = (lit≤ tt, lit≤ tt)
kind_line (CarbonateUsed carbonate) = (lit≤ tt, lit≤ tt)
kind_line BoughtCo2 = (lit≤ tt, lit≤ tt)
kind_line WastewaterTreated = (lit≤ tt, lit≤ tt)
kind_line PowerBought = (lit≤ tt, lit≤ tt)
kind_line PowerSold = (lit≤ tt, lit≤ tt)
kind_line (HeatBought heat) = (lit≤ tt, lit≤ tt)
kind_line (HeatSold heat) = (lit≤ tt, lit≤ tt)

line_bounds : (row : JournalEntry) → (1 ≤ row_line row) × (row_line row ≤ 7)
line_bounds row = kind_line row.entry.kind

-- a number is among n from a on
is_among : (a n k : ℕ) → a ≤ k → k < a + n → among a n k ≡ true
is_among a n k low high = and_from (leb a k) (ltb k (a + n)) (le-leb a k low) (lt-ltb k (a + n) high)

-- the place of a month and line
abbrev place : (m l : ℕ) → 1 ≤ m → m < 13 → 1 ≤ l → l ≤ 7 → Place
place m l low high from to = record { month = m; line = l; from_january = low; to_december = omega arith; from_fuel = from; to_heat_sold = to }

-- the twelve months' rows of a line are the line's
year_rows : (v : JournalEntry → ℕ) (l : ℕ) (rows : List JournalEntry) → sum_by (λ m. sum_by (λ row. cond (stands_in m l row) (v row) 0) rows) month_numbers ≡ sum_by (λ row. cond (row.stands && eqb (row_line row) l) (v row) 0) rows
year_rows v l rows =
    let in_year : (row : JournalEntry) → among 1 12 row.month.number ≡ true =
    λ row. is_among 1 12 row.month.number (month_bounds row.month).0 (omega (arith, (month_bounds row.month).1)) in
    sum_classes (λ row. row.month.number) (λ row t. cond (row.stands && (t && eqb (row_line row) l)) (v row) 0) (λ row. and_off row.stands (v row)) 1 12 rows ∙
    sum_same _ _ rows (λ row. ap (λ (t : Bool). cond (row.stands && (t && eqb (row_line row) l)) (v row) 0) (in_year row))

-- the rows of each of n lines from a on, added, are the rows of those lines
line_rows : (v : JournalEntry → ℕ) (a n : ℕ) (rows : List JournalEntry) → sum_by (λ l. sum_by (λ row. cond (row.stands && eqb (row_line row) l) (v row) 0) rows) (up_from a n) ≡ sum_by (λ row. cond (row.stands && among a n (row_line row)) (v row) 0) rows
line_rows v a n rows = sum_classes row_line (λ row t. cond (row.stands && t) (v row) 0) (λ row. and_off row.stands (v row)) a n rows

-- the rows of n lines from a on
abbrev pub lines_sum : ℕ → ℕ → List JournalEntry → Sum
lines_sum a n rows = rows_sum (λ row. among a n (row_line row)) rows

-- a row is of the seven lines just if it is of the first five or of the last two
lines_split : (rows : List JournalEntry) → (lines_sum 1 7 rows).count ≡ (lines_sum 1 5 rows).count + (lines_sum 6 2 rows).count
lines_split rows =
    sum_same _ _ rows (λ row. one row.stands (row_line row)) ∙
    sum_plus (λ row. cond (row.stands && among 1 5 (row_line row)) 1 0) (λ row. cond (row.stands && among 6 2 (row_line row)) 1 0) rows
  where
    one : (s : Bool) (k : ℕ) → cond (s && among 1 7 k) 1 0 ≡ cond (s && among 1 5 k) 1 0 + cond (s && among 6 2 k) 1 0
    one true k = grind (arith, tells)
    one false k = refl

-- what a test of n numbers from a on tells
among_tells : (a n k : ℕ) → Decides (among a n k) ((a ≤ k) × (k < a + n))
among_tells a n k = (
  λ t. let both = and_parts (leb a k) (ltb k (a + n)) t in (leb-true a k both.0, ltb-true k (a + n) both.1),
  λ both. is_among a n k both.0 both.1,
)

module _ {b : Contents} (S : Sound b) where
  -- the rows that stand in line l, whatever their month
  pub line_count : (l : ℕ) → 1 ≤ l → l ≤ 7 → (year_figure b.months l).count ≡ (rows_sum (λ row. eqb (row_line row) l) (used_rows b)).count
  line_count l from to =
      sum_along (λ m. (figure_at b.months m l).count) (λ m. row_count m l (used_rows b)) 1 12
      (λ m low high. S.counts (place m l low high from to)) ∙
      year_rows (λ row. 1) l (used_rows b)

  line_grams : (l : ℕ) → 1 ≤ l → l ≤ 7 → (year_figure b.months l).grams ≡ (rows_sum (λ row. eqb (row_line row) l) (used_rows b)).grams
  line_grams l from to =
      sum_along (λ m. (figure_at b.months m l).grams) (λ m. row_grams m l (used_rows b)) 1 12
      (λ m low high. S.weighs (place m l low high from to)) ∙
      year_rows (λ row. row.entry.grams) l (used_rows b)

  -- the year's figures of i lines from a on, added
  pub lines_count : (a i : ℕ) → 1 ≤ a → a + i ≤ 8 → sum_by (λ l. (year_figure b.months l).count) (up_from a i) ≡ (lines_sum a i (used_rows b)).count
  lines_count a i from to =
      sum_along (λ l. (year_figure b.months l).count) (λ l. (rows_sum (λ row. eqb (row_line row) l) (used_rows b)).count) a i (λ l low high. line_count l (omega arith) (omega arith)) ∙
      line_rows (λ row. 1) a i (used_rows b)

  lines_grams : (a i : ℕ) → 1 ≤ a → a + i ≤ 8 → sum_by (λ l. (year_figure b.months l).grams) (up_from a i) ≡ (lines_sum a i (used_rows b)).grams
  lines_grams a i from to =
      sum_along (λ l. (year_figure b.months l).grams) (λ l. (rows_sum (λ row. eqb (row_line row) l) (used_rows b)).grams) a i (λ l low high. line_grams l (omega arith) (omega arith)) ∙
      line_rows (λ row. row.entry.grams) a i (used_rows b)

module _ {y n : ℕ} {h : List Call} {b : Contents} (S : Sound b) (T : Tied y n h b) where
  -- a test of rows that tells, of those that stand, which P picks
  module _ (p : JournalEntry → Bool) (P : Kept → Type 0) (tells : (k : ℕ) (row : JournalEntry) → Row b k row → row.stands ≡ true → Decides (p row) (P (kept_of row.entry))) where
    short : (k : ℕ) → k < b.used → k < length b.memory
    short k l = omega (arith, S.fits)

    -- the row passes, and stands under the next number
    row_picked : (k : ℕ) (s : Sum) (x : JournalEntry) → Row b (k + 1) x → (x.stands && p x) ≡ true → AddsUp y n h P k s → AddsUp y n h P (k + 1) (row_more s (x.stands && p x) x)
    row_picked k s x at pass sums =
        let both = and_parts x.stands (p x) pass in
        let stands = T.marked (k + 1) (kept_of x.entry) (record { row = x; at = at; kept = refl; stands = both.0 }) in
        subst (λ (t : Bool). AddsUp y n h P (k + 1) (row_more s t x)) (sym pass) (picked sums stands ((tells (k + 1) x at both.0).0 both.1))

    -- whatever P picks under the next number is the row, and passes
    row_left : (k : ℕ) (s : Sum) (x : JournalEntry) → ((d : JournalEntry) → get_or b.memory k d ≡ x) → (x.stands && p x) ≡ false → AddsUp y n h P k s → AddsUp y n h P (k + 1) (row_more s (x.stands && p x) x)
    row_left k s x is fail sums = subst (λ (t : Bool). AddsUp y n h P (k + 1) (row_more s t x)) (sym fail) (subst (AddsUp y n h P (k + 1)) (sym (row_passed s x)) (passed sums clash))
      where
        clash : (e : Kept) → Stands y n h (k + 1) e → P e → ⊥
        clash e st pe =
            let m = T.stands (k + 1) e st in
            let k-is : k + 1 - 1 ≡ k = omega arith in
            let same : m.row ≡ x = m.at.is ∙ (ap (λ (j : ℕ). get_or b.memory j m.row) k-is ∙ is m.row) in
            let passes = (tells (k + 1) m.row m.at m.stands).1 (subst P (sym m.kept) pe) in
            true≢false (sym (and_from m.row.stands (p m.row) m.stands passes) ∙ (ap (λ (z : JournalEntry). z.stands && p z) same ∙ fail))

    next : (k : ℕ) → k < b.used → AddsUp y n h P k (rows_sum p (take k b.memory)) → AddsUp y n h P (k + 1) (rows_sum p (take (k + 1) b.memory))
    next k l sums =
        let found = element b.memory k (short k l) in
        let x = found.0 in
        let k-is : k ≡ k + 1 - 1 = omega arith in
        let at : Row b (k + 1) x = record { counted = omega arith; used = omega arith; is = sym (found.1 x) ∙ ap (λ (j : ℕ). get_or b.memory j x) k-is } in
        subst (AddsUp y n h P (k + 1)) (sym (rows_more p b.memory k x (short k l) (found.1 x)))
        (elim (cases_Bool (x.stands && p x)) [
          | inl pass ↦ row_picked k (rows_sum p (take k b.memory)) x at pass sums
          | inr fail ↦ row_left k (rows_sum p (take k b.memory)) x found.1 fail sums
        ])

    walk : (k : ℕ) → k ≤ b.used → AddsUp y n h P k (rows_sum p (take k b.memory))
    walk zero l = none
    walk (suc k) l = rw (← add-one k) (next k (omega arith) (walk k (omega arith)))

    pub rows_standing : Standing y n h P (rows_sum p (used_rows b))
    rows_standing = record { taken = b.used; numbered = T.taken; adds = walk b.used (omega arith) }

  -- a row's month and line tell whether its entry is in the line
  in_line : (m l : ℕ) (k : ℕ) (row : JournalEntry) → Row b k row → row.stands ≡ true → Decides (eqb row.month.number m && eqb (row_line row) l) (InLine y m l (kept_of row.entry))
  in_line m l k row at _ = (told, back)
    where
      lies : InMonth y row.entry.day row.month.number
      lies = subst (λ (z : ℕ). InMonth z row.entry.day row.month.number) T.year (S.dated k row at)

      told : (eqb row.month.number m && eqb (row_line row) l) ≡ true → InLine y m l (kept_of row.entry)
      told pass =
          let both = and_parts (eqb row.month.number m) (eqb (row_line row) l) pass in
          record { month = subst (InMonth y row.entry.day) (eqb-true row.month.number m both.0) lies; line = eqb-true (row_line row) l both.1 }

      back : InLine y m l (kept_of row.entry) → (eqb row.month.number m && eqb (row_line row) l) ≡ true
      back i = and_from (eqb row.month.number m) (eqb (row_line row) l) (eq-eqb row.month.number m (same_month y row.entry.day row.month.number m lies i.month)) (eq-eqb (row_line row) l i.line)

  -- a line of a month is what stands in it
  pub line_standing : (p : Place) → (s : Sum) × Standing y n h (InLine y p.month p.line) s × Figures (figure_at b.months p.month p.line) s
  line_standing p = (
    rows_sum (λ row. eqb row.month.number p.month && eqb (row_line row) p.line) (used_rows b),
    rows_standing _ (InLine y p.month p.line) (in_line p.month p.line),
    record { count = S.counts p; grams = S.weighs p },
  )

  -- a line of the year is what stands in it
  pub year_line_standing : (l : ℕ) → 1 ≤ l → l ≤ 7 → (s : Sum) × Standing y n h (OfLine l) s × Figures (year_figure b.months l) s
  year_line_standing l from to = (
    rows_sum (λ row. eqb (row_line row) l) (used_rows b),
    rows_standing _ (OfLine l) (λ k row at stands. Decides-like (eqb (row_line row) l) (λ e. record { line = e }) (λ o. o.line) (Decides-eqb (row_line row) l)),
    record { count = line_count S l from to; grams = line_grams S l from to },
  )

  -- the rows of some lines are what stands in them
  lines_standing : (a i : ℕ) (P : Kept → Type 0) → ((row : JournalEntry) → Decides (among a i (row_line row)) (P (kept_of row.entry))) → Standing y n h P (lines_sum a i (used_rows b))
  lines_standing a i P tells = rows_standing _ P (λ k row at stands. tells row)

  -- the total is what stands, the first five lines less the last two
  pub total_standing : TotalTold y n h (total_count b.months) (net_grams b.months)
  total_standing = record {
    all = lines_sum 1 7 (used_rows b);
    added = lines_sum 1 5 (used_rows b);
    deducted = lines_sum 6 2 (used_rows b);
    all_is = lines_standing 1 7 Any (λ row. Decides-like (among 1 7 (row_line row)) (λ _. tt) (λ _. ((line_bounds row).0, omega (arith, (line_bounds row).1))) (among_tells 1 7 (row_line row)));
    added_is = lines_standing 1 5 IsAdded (λ row. Decides-like (among 1 5 (row_line row)) (λ w. record { line = omega arith }) (λ e. ((line_bounds row).0, omega (arith, e.line))) (among_tells 1 5 (row_line row)));
    deducted_is = lines_standing 6 2 IsDeducted (λ row. Decides-like (among 6 2 (row_line row)) (λ w. record { line = w.0 }) (λ e. (e.line, omega (arith, (line_bounds row).1))) (among_tells 6 2 (row_line row)));
    splits = lines_split (used_rows b);
    counts = lines_count S 1 7 (lit≤ tt) (lit≤ tt);
    nets = λ i. pos (lines_grams S 1 5 (lit≤ tt) (lit≤ tt) i) -ℤ pos (lines_grams S 6 2 (lit≤ tt) (lit≤ tt) i);
  }
