-- Why the contents of every book are sound: those of a new year are, and each taken call keeps them so. Assumes nothing.
use Rattle.std.proofs.Common.{◌≡◌, ℕ, suc, ◌+◌, ◌-◌, ◌*◌, ◌<◌, ◌≤◌, Bool, true, false, cond, ◌&&◌, eqb, ◌⊎◌, List, [], ◌∷◌, ◌++◌, length, get_or, set, Some, None, Option, sym, refl, ap, ◌∙◌, inl, inr, add-zero, arith, length-set, length-take, get_or-set_other, get_or-take, get_or-set_same}
use mathlib.Core.Logic.{∥∥₁_elim}
use native.Mathlib.Bridge.{le_prop}
use lib.Seq.{take-set-lt}
use denote.Struct.Props.{props}
use Rattle.std.specs.List.{AllByRecursion}
use Rattle.std.specs.Option.{option_map}
use Rattle.std.proofs.lemmas.Bool.Decides.{eqb_tells}
use Rattle.std.proofs.lemmas.Bool.{eqb-true, cases_lt}
use Rattle.std.proofs.lemmas.List.{take_more_set}
use Rattle.std.proofs.lemmas.List.Sums.{sum_by_push, sum_by-set}
use Rattle.std.proofs.ByRecursion.{sum_by_le}
use Rattle.calendar.specs.Months.{InMonth}
use Rattle.emission.specs.Parts.{most_grams}
use Rattle.months.specs.declared.state.State.{State}
use Rattle.months.specs.declared.state.Event.{Event}
use Rattle.months.specs.declared.line.Line.{Line}
use Rattle.months.specs.declared.account.Figure.{Figure}
use Rattle.months.specs.declared.account.Account.{Account}
use Rattle.months.specs.declared.account.Change.TheVariants.{Book, Withdraw, Turn}
use Rattle.months.specs.declared.year.Months.{Months}
use Rattle.months.specs.Lines.{line_number}
use Rattle.months.specs.States.{made, books, withdraws}
use Rattle.months.specs.Accounts.{account_at, state_at, line_at, figure_at, Shaped, more, less, with_line, with_state, with_account, ChangedTo, Changed}
use Rattle.months.proofs.Changes.{line_bounds, account_set, line_set, shaped_new, new_empty, shaped_change}
use Rattle.journal.specs.declared.row.JournalEntry.{JournalEntry}
use Rattle.journal.specs.Rules.{IsMonth}
use Rattle.journal.specs.Contents.{Contents, usable, Row, Entered, withdrawn_row, Left, Turned, New}
use Rattle.journal.specs.Sound.{Place, stands_in, used_rows, row_count, row_grams, Sound}

-- a line after one is replaced
figure_set : (ms : Months) → Shaped ms → (m : ℕ) → 1 ≤ m → m ≤ 12 → (l : ℕ) → 1 ≤ l → l ≤ 7 → (f : Figure) → (k j : ℕ) → 1 ≤ k → 1 ≤ j → figure_at (with_account ms m (with_line (account_at ms m) l f)) k j ≡ cond (eqb m k) (cond (eqb l j) f (figure_at ms k j)) (figure_at ms k j)
figure_set ms shaped m low high l from to f k j k1 j1 =
    ap (λ (v : Account). line_at v j) (account_set ms shaped m low high (with_line (account_at ms m) l f) k k1) ∙
    elim (eqb_tells m k) [
      | inl t ↦ rw t.0 (line_set (account_at ms m) (shaped.1 m low high) l from to f j j1 ∙ ap (λ (q : ℕ). cond (eqb l j) f (figure_at ms q j)) t.1)
      | inr t ↦ rw t.0 refl
    ]

-- the lines are those before when only a state is
figure_kept : (ms : Months) → Shaped ms → (m : ℕ) → 1 ≤ m → m ≤ 12 → (s : State) → (k j : ℕ) → 1 ≤ k → figure_at (with_account ms m (with_state (account_at ms m) s)) k j ≡ figure_at ms k j
figure_kept ms shaped m low high s k j k1 =
    ap (λ (v : Account). line_at v j) (account_set ms shaped m low high (with_state (account_at ms m) s) k k1) ∙
    elim (eqb_tells m k) [
      | inl t ↦ rw t.0 (ap (λ (q : ℕ). figure_at ms q j) t.1)
      | inr t ↦ rw t.0 refl
    ]

-- what a change that was taken made of the months
taken : (b : Bool) (a : Account) (ms : Months) (m : ℕ) (ms' : Months) → ChangedTo (cond b (Some a) None) ms m true ms' → ms' ≡ with_account ms m a
taken true a ms m ms' c = c.1
taken false a ms m ms' c = let z : ◌≡◌ {A = ℕ} 0 1 = cc in absurd (omega arith)

booked : (ms : Months) (m : ℕ) (line : Line) (g : ℕ) (ms' : Months) → Changed ms m (Book line g) true ms' → ms' ≡ with_account ms m (with_line (account_at ms m) (line_number line) (more (figure_at ms m (line_number line)) g))
booked ms m line g ms' c = taken (books (state_at ms m)) _ ms m ms' c

withdrawn : (ms : Months) (m : ℕ) (line : Line) (g : ℕ) (ms' : Months) → Changed ms m (Withdraw line g) true ms' → ms' ≡ with_account ms m (with_line (account_at ms m) (line_number line) (less (figure_at ms m (line_number line)) g))
withdrawn ms m line g ms' c = taken (withdraws (state_at ms m)) _ ms m ms' c

-- every line after an event is as it was
turned_figures : (ms : Months) → Shaped ms → (m : ℕ) → 1 ≤ m → m ≤ 12 → (v : Event) (ms' : Months) → Changed ms m (Turn v) true ms' → (k j : ℕ) → 1 ≤ k → figure_at ms' k j ≡ figure_at ms k j
turned_figures ms shaped m low high v ms' c k j k1 = go (made (state_at ms m) v) c
  where
    go : (o : Option State) → ChangedTo (option_map (with_state (account_at ms m)) o) ms m true ms' → figure_at ms' k j ≡ figure_at ms k j
    go None c = let z : ◌≡◌ {A = ℕ} 0 1 = cc in absurd (omega arith)
    go (Some s) c = ap (λ (x : Months). figure_at x k j) c.1 ∙ figure_kept ms shaped m low high s k j k1

-- the figure of a place after one more entry, and after one less
pick_more : (f : Figure → ℕ) (i j : Bool) (x y : Figure) (S v : ℕ) → (i ≡ true → j ≡ true → f x ≡ S + v) → f y ≡ S → f (cond i (cond j x y) y) ≡ S + cond (i && j) v 0
pick_more f true true x y S v a b = a refl refl
pick_more f true false x y S v a b = omega arith
pick_more f false true x y S v a b = omega arith
pick_more f false false x y S v a b = omega arith

pick_less : (f : Figure → ℕ) (i j : Bool) (x y : Figure) (S S' v : ℕ) → S' + cond (i && j) v 0 ≡ S → (i ≡ true → j ≡ true → f x ≡ S - v) → f y ≡ S → f (cond i (cond j x y) y) ≡ S'
pick_less f true true x y S S' v h a b = omega (arith, a refl refl)
pick_less f true false x y S S' v h a b = omega arith
pick_less f false true x y S S' v h a b = omega arith
pick_less f false false x y S S' v h a b = omega arith

cond-le : (b : Bool) (v n : ℕ) → v ≤ n → cond b v 0 ≤ n
cond-le true v n h = h
cond-le false v n h = omega arith

-- what holds of each element by its place holds of all
all_read : {A : Type 0} (P : A → Type 0) (xs : List A) → ((i : ℕ) (x : A) → i < length xs → x ≡ get_or xs i x → P x) → AllByRecursion P xs
all_read P [] h = tt
all_read P (x ∷ xs) h = (h 0 x (omega arith) refl, all_read P xs (λ i y below is. h (suc i) y (omega arith) is))

pub used_length : (b : Contents) → Sound b → length (used_rows b) ≡ b.used
used_length b sound = simp length-take (omega (arith, sound.fits))

-- a used row is within bounds, by its place among them
used_row : (b : Contents) (i : ℕ) (row : JournalEntry) → i < b.used → row ≡ get_or (used_rows b) i row → Row b (i + 1) row
used_row b i row below is =
    let same : i + 1 - 1 ≡ i = omega arith in
    record { counted = omega arith; used = omega arith; is = is ∙ get_or-take b.used b.memory i row below ∙ ap (λ (k : ℕ). get_or b.memory k row) (sym same) }

-- no line has more entries than the journal, nor more grams than so many entries have at most
pub figure_bounds : (b : Contents) → Sound b → (p : Place) → ((figure_at b.months p.month p.line).count ≤ 60000) × ((figure_at b.months p.month p.line).grams ≤ 60000 * most_grams)
figure_bounds b sound p =
    let m = p.month in
    let l = p.line in
    let rows : List JournalEntry = used_rows b in
    let long = used_length b sound in
    let most = sound.fits in
    let counted = sum_by_le (λ row. cond (stands_in m l row) 1 0) 1 rows (all_read (λ row. cond (stands_in m l row) 1 0 ≤ 1) rows (λ i row below is. cond-le (stands_in m l row) 1 1 (omega arith))) in
    let weighed = sum_by_le (λ row. cond (stands_in m l row) row.entry.grams 0) most_grams rows (all_read (λ row. cond (stands_in m l row) row.entry.grams 0 ≤ most_grams) rows (λ i row below is. cond-le (stands_in m l row) row.entry.grams most_grams (sound.bounded (i + 1) row (used_row b i row (omega arith) is)))) in
    (omega (arith, sound.counts p, counted), omega (arith, sound.weighs p, weighed))

-- a new year
pub sound_new : (y n : ℕ) (b : Contents) → New y n b → Sound b
sound_new y n b new =
    let none : used_rows b ≡ [] = rw new.used refl in
    let empty : (p : Place) → figure_at b.months p.month p.line ≡ record { count = 0; grams = 0 } = λ p. ap (λ (x : Months). figure_at x p.month p.line) new.months ∙ new_empty p.month p.from_january p.to_december p.line p.from_fuel p.to_heat_sold in
    record {
      fits = omega (arith, new.used);
      shaped = rw new.months shaped_new;
      counts = λ p. ap (λ (f : Figure). f.count) (empty p) ∙ sym (ap (row_count p.month p.line) none);
      weighs = λ p. ap (λ (f : Figure). f.grams) (empty p) ∙ sym (ap (row_grams p.month p.line) none);
      bounded = λ k row at. absurd (omega (arith, new.used, at.counted, at.used));
      dated = λ k row at. absurd (omega (arith, new.used, at.counted, at.used));
    }

-- a row is entered
module _ (row : JournalEntry) (b b' : Contents) (sound : Sound b) (entered : Entered row b b') (fits : b.used < usable b.memory) where
  entered_rows : used_rows b' ≡ used_rows b ++ (row ∷ [])
  entered_rows = rw (entered.used, entered.memory) (take_more_set b.memory b.used row (omega arith))

  entered_row : (k : ℕ) (r : JournalEntry) → Row b' k r → Row b k r ⊎ (r ≡ row)
  entered_row k r at =
      let counted = at.counted in
      let used : k ≤ b.used + 1 = omega (arith, at.used, entered.used) in
      let is : r ≡ get_or (set b.memory b.used row) (k - 1) r = rw entered.memory at at.is in
      elim (cases_lt (k - 1) b.used) [
        | inl below ↦ inl (record { counted = counted; used = omega arith; is = is ∙ get_or-set_other b.memory b.used (k - 1) row r (λ e. omega arith) })
        | inr past ↦
            let last : k - 1 ≡ b.used = omega arith in
            inr (is ∙ ap (λ (i : ℕ). get_or (set b.memory b.used row) i r) last ∙ get_or-set_same b.memory b.used row r (omega arith))
      ]

  pub sound_entered : row.entry.grams ≤ most_grams → Sound b'
  sound_entered small =
      let m = row.month.number in
      let line = entered.line in
      let l = line_number line in
      let g = row.entry.grams in
      let lb = line_bounds line in
      let low = entered.lies.from_january in
      let high = entered.lies.to_december in
      let bounds = figure_bounds b sound in
      let is = booked b.months m line g b'.months entered.months in
      let after : (p : Place) → figure_at b'.months p.month p.line ≡ cond (eqb m p.month) (cond (eqb l p.line) (more (figure_at b.months m l) g) (figure_at b.months p.month p.line)) (figure_at b.months p.month p.line) =
      λ p. ap (λ (x : Months). figure_at x p.month p.line) is ∙ figure_set b.months sound.shaped m low high l lb.0 lb.1 (more (figure_at b.months m l) g) p.month p.line p.from_january p.from_fuel in
      let same : (p : Place) → eqb m p.month ≡ true → eqb l p.line ≡ true → figure_at b.months m l ≡ figure_at b.months p.month p.line =
      λ p e f. let e' = eqb-true m p.month e in let f' = eqb-true l p.line f in cc in
      let stands : (p : Place) → stands_in p.month p.line row ≡ (eqb m p.month && eqb l p.line) =
      λ p. rw (entered.stands, ← entered.of_line) refl in
      record {
        fits = let long : length b'.memory ≡ length b.memory = ap length entered.memory ∙ simp length-set in omega (arith, entered.used);
        shaped = shaped_change b.months sound.shaped m low high (Book line g) true b'.months entered.months;
        counts = λ p.
            ap (λ (f : Figure). f.count) (after p) ∙
            rw (entered_rows, sum_by_push (λ r. cond (stands_in p.month p.line r) 1 0) (used_rows b) row, stands p)
            (pick_more (λ f. f.count) (eqb m p.month) (eqb l p.line) (more (figure_at b.months m l) g) (figure_at b.months p.month p.line) (row_count p.month p.line (used_rows b)) 1
            (λ e f. omega (arith, ap (λ (x : Figure). x.count) (same p e f), sound.counts p, (bounds p).0)) (sound.counts p));
        weighs = λ p.
            ap (λ (f : Figure). f.grams) (after p) ∙
            rw (entered_rows, sum_by_push (λ r. cond (stands_in p.month p.line r) r.entry.grams 0) (used_rows b) row, stands p)
            (pick_more (λ f. f.grams) (eqb m p.month) (eqb l p.line) (more (figure_at b.months m l) g) (figure_at b.months p.month p.line) (row_grams p.month p.line (used_rows b)) g
            (λ e f. omega (arith, ap (λ (x : Figure). x.grams) (same p e f), sound.weighs p, (bounds p).1)) (sound.weighs p));
        bounded = λ k r at. elim (entered_row k r at) [ inl before ↦ sound.bounded k r before | inr e ↦ rw e small ];
        dated = λ k r at. rw entered.year (elim (entered_row k r at) [ inl before ↦ sound.dated k r before | inr e ↦ rw e entered.lies ]);
      }

-- an entry is withdrawn
module _ (k : ℕ) (row : JournalEntry) (b b' : Contents) (sound : Sound b) (left : Left k row b b') where
  left_below : k - 1 < b.used
  left_below = omega (arith, left.at.counted, left.at.used)

  left_rows : used_rows b' ≡ set (used_rows b) (k - 1) (withdrawn_row row)
  left_rows = rw (left.used, left.memory) (take-set-lt b.used b.memory (k - 1) (withdrawn_row row) left_below)

  left_is : get_or (used_rows b) (k - 1) row ≡ row
  left_is = get_or-take b.used b.memory (k - 1) row left_below ∙ sym left.at.is

  left_row : (j : ℕ) (r : JournalEntry) → Row b' j r → Row b j r ⊎ (r ≡ withdrawn_row row)
  left_row j r at =
      let counted = at.counted in
      let used : j ≤ b.used = omega (arith, at.used, left.used) in
      let below = left_below in
      let is : r ≡ get_or (set b.memory (k - 1) (withdrawn_row row)) (j - 1) r = rw left.memory at at.is in
      elim (eqb_tells (j - 1) (k - 1)) [
        | inl t ↦ inr (is ∙ ap (λ (i : ℕ). get_or (set b.memory (k - 1) (withdrawn_row row)) i r) t.1 ∙ get_or-set_same b.memory (k - 1) (withdrawn_row row) r (omega (arith, sound.fits)))
        | inr t ↦ inl (record { counted = counted; used = used; is = is ∙ get_or-set_other b.memory (k - 1) (j - 1) (withdrawn_row row) r t.1 })
      ]

  pub sound_left : row.stands ≡ true → Sound b'
  sound_left standing =
      let m = row.month.number in
      let line = left.line in
      let l = line_number line in
      let g = row.entry.grams in
      let lb = line_bounds line in
      let lies = sound.dated k row left.at in
      let low = lies.from_january in
      let high = lies.to_december in
      let below : k - 1 < length (used_rows b) = omega (arith, left_below, used_length b sound) in
      let is = withdrawn b.months m line g b'.months left.months in
      let after : (p : Place) → figure_at b'.months p.month p.line ≡ cond (eqb m p.month) (cond (eqb l p.line) (less (figure_at b.months m l) g) (figure_at b.months p.month p.line)) (figure_at b.months p.month p.line) =
      λ p. ap (λ (x : Months). figure_at x p.month p.line) is ∙ figure_set b.months sound.shaped m low high l lb.0 lb.1 (less (figure_at b.months m l) g) p.month p.line p.from_january p.from_fuel in
      let same : (p : Place) → eqb m p.month ≡ true → eqb l p.line ≡ true → figure_at b.months m l ≡ figure_at b.months p.month p.line =
      λ p e f. let e' = eqb-true m p.month e in let f' = eqb-true l p.line f in cc in
      let stands : (p : Place) → stands_in p.month p.line row ≡ (eqb m p.month && eqb l p.line) =
      λ p. rw (standing, ← left.of_line) refl in
      let fewer : (p : Place) → row_count p.month p.line (used_rows b') + cond (eqb m p.month && eqb l p.line) 1 0 ≡ row_count p.month p.line (used_rows b) =
      λ p. let c = rw (left_is, stands p) at (sum_by-set (λ r. cond (stands_in p.month p.line r) 1 0) (used_rows b) (k - 1) (withdrawn_row row) row below) in rw left_rows (c ∙ add-zero _) in
      let lighter : (p : Place) → row_grams p.month p.line (used_rows b') + cond (eqb m p.month && eqb l p.line) g 0 ≡ row_grams p.month p.line (used_rows b) =
      λ p. let c = rw (left_is, stands p) at (sum_by-set (λ r. cond (stands_in p.month p.line r) r.entry.grams 0) (used_rows b) (k - 1) (withdrawn_row row) row below) in rw left_rows (c ∙ add-zero _) in
      record {
        fits = let long : length b'.memory ≡ length b.memory = ap length left.memory ∙ simp length-set in omega (arith, left.used, sound.fits);
        shaped = shaped_change b.months sound.shaped m low high (Withdraw line g) true b'.months left.months;
        counts = λ p.
            ap (λ (f : Figure). f.count) (after p) ∙
            pick_less (λ f. f.count) (eqb m p.month) (eqb l p.line) (less (figure_at b.months m l) g) (figure_at b.months p.month p.line) (row_count p.month p.line (used_rows b)) (row_count p.month p.line (used_rows b')) 1
            (fewer p) (λ e f. omega (arith, ap (λ (x : Figure). x.count) (same p e f), sound.counts p)) (sound.counts p);
        weighs = λ p.
            ap (λ (f : Figure). f.grams) (after p) ∙
            pick_less (λ f. f.grams) (eqb m p.month) (eqb l p.line) (less (figure_at b.months m l) g) (figure_at b.months p.month p.line) (row_grams p.month p.line (used_rows b)) (row_grams p.month p.line (used_rows b')) g
            (lighter p) (λ e f. omega (arith, ap (λ (x : Figure). x.grams) (same p e f), sound.weighs p)) (sound.weighs p);
        bounded = λ j r at. elim (left_row j r at) [ inl before ↦ sound.bounded j r before | inr e ↦ rw e (sound.bounded k row left.at) ];
        dated = λ j r at. rw left.year (elim (left_row j r at) [ inl before ↦ sound.dated j r before | inr e ↦ rw e lies ]);
      }

-- a month takes an event
pub sound_turned : (m : ℕ) (v : Event) (b b' : Contents) → Sound b → IsMonth m → Turned m v b b' → Sound b'
sound_turned m v b b' sound is turned =
    let low = is.from_january in
    let high = is.to_december in
    let rows : used_rows b' ≡ used_rows b = rw (turned.used, turned.memory) refl in
    let kept : (p : Place) → figure_at b'.months p.month p.line ≡ figure_at b.months p.month p.line =
    λ p. turned_figures b.months sound.shaped m low high v b'.months turned.months p.month p.line p.from_january in
    let before : (k : ℕ) (row : JournalEntry) → Row b' k row → Row b k row =
    λ k row at. record { counted = at.counted; used = omega (arith, at.used, turned.used); is = rw turned.memory at at.is } in
    record {
      fits = rw (turned.used, turned.memory) sound.fits;
      shaped = shaped_change b.months sound.shaped m low high (Turn v) true b'.months turned.months;
      counts = λ p. ap (λ (f : Figure). f.count) (kept p) ∙ sound.counts p ∙ sym (ap (row_count p.month p.line) rows);
      weighs = λ p. ap (λ (f : Figure). f.grams) (kept p) ∙ sound.weighs p ∙ sym (ap (row_grams p.month p.line) rows);
      bounded = λ k row at. sound.bounded k row (before k row at);
      dated = λ k row at. rw turned.year (sound.dated k row (before k row at));
    }

-- contents are sound in one way at most, so that a book that says only that they are says how
in_month_once : (y d m : ℕ) → IsProp (InMonth y d m)
in_month_once y d m p q = λ i. record {
  from_january = le_prop p.from_january q.from_january i;
  to_december = le_prop p.to_december q.to_december i;
  begun = le_prop p.begun q.begun i;
  before_next = le_prop p.before_next q.before_next i;
}

sound_once : (b : Contents) → IsProp (Sound b)
sound_once b p q =
    let shaped : IsProp (Shaped b.months) = hlevel props in
    let counts : IsProp ((p : Place) → (figure_at b.months p.month p.line).count ≡ row_count p.month p.line (used_rows b)) = hlevel props in
    let weighs : IsProp ((p : Place) → (figure_at b.months p.month p.line).grams ≡ row_grams p.month p.line (used_rows b)) = hlevel props in
    let bounded : IsProp ((k : ℕ) (row : JournalEntry) → Row b k row → row.entry.grams ≤ most_grams) = hlevel props in
    let dated : IsProp ((k : ℕ) (row : JournalEntry) → Row b k row → InMonth b.year row.entry.day row.month.number) = λ f g i k row at. in_month_once b.year row.entry.day row.month.number (f k row at) (g k row at) i in
    λ i. record {
      fits = le_prop p.fits q.fits i;
      shaped = shaped p.shaped q.shaped i;
      counts = counts p.counts q.counts i;
      weighs = weighs p.weighs q.weighs i;
      bounded = bounded p.bounded q.bounded i;
      dated = dated p.dated q.dated i;
    }

pub sound_is : (b : Contents) → ∥ Sound b ∥₁ → Sound b
sound_is b held = ∥∥₁_elim held (sound_once b) (λ sound. sound)
