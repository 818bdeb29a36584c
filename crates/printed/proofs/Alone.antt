-- A log and its memory determine what is printed. Assumes nothing.
use Rattle.std.proofs.Common.{◌≡◌, ℕ, ◌+◌, ◌≤◌, List, [], ◌++◌, length, drop, Ok, ℤ, pos, ◌-ℤ◌, sym, ap, ◌∙◌, subst, arith, lit≤}
use Rattle.std.specs.List.{flat_map}
use Rattle.months.specs.declared.account.Figure.{Figure}
use Rattle.months.specs.Lines.{line_numbers}
use Rattle.emission.specs.Entries.{Kept}
use Rattle.journal.specs.Calls.{Call}
use Rattle.journal.specs.Contents.{Contents, Follows}
use Rattle.journal.specs.Figures.{Sum, Standing, IsLine, Figures, YearLineTold, told, TotalTold}
use Rattle.journal.specs.Words.{Taken, Stands}
use Rattle.journal.proofs.Agree.{Agree, mark_one}
use Rattle.journal.proofs.Following.{agrees}
use Rattle.journal.proofs.SumsOne.{standing_one}
use Rattle.frame_log.specs.Log.{Names, Yearless, year_cut, unlawful, cut_count}
use Rattle.frame_log.proofs.Once.{spells_once}
use Rattle.std.proofs.lemmas.Bool.{true≢false}
use Rattle.printed.specs.Text.{line_text, first_text, year_text, no_year_text}
use Rattle.printed.specs.Printed.{calls_of, YearPrinted, LogPrinted, no_year, of_year}

-- the list that a book has followed determines how many are taken, and what stands
module _ {y n : ℕ} {h : List Call} {b : Contents} (a : Agree y n h b) where
  one_taken : (i j : ℕ) → Taken y n h i → Taken y n h j → i ≡ j
  one_taken i j p q = a.counted i p ∙ sym (a.counted j q)

  one_entry : (k : ℕ) (e e' : Kept) → Stands y n h k e → Stands y n h k e' → e ≡ e'
  one_entry k e e' p q = mark_one b a.fits k e e' (a.stands k e p) (a.stands k e' q)

  one_sum : {P : Kept → Type 0} {s s' : Sum} → Standing y n h P s → Standing y n h P s' → s ≡ s'
  one_sum p q = standing_one p q one_entry one_taken

  same_figure : {s s' : Sum} {f f' : Figure} → s ≡ s' → Figures f s → Figures f' s' → f ≡ f'
  same_figure e p q = λ i. record { count = (p.count ∙ (ap (λ (s : Sum). s.count) e ∙ sym q.count)) i; grams = (p.grams ∙ (ap (λ (s : Sum). s.grams) e ∙ sym q.grams)) i }

  one_line : {l : ℕ} {f f' : Figure} → YearLineTold y n h l (Ok f) → YearLineTold y n h l (Ok f') → f ≡ f'
  one_line (told _ p v) (told _ q w) = same_figure (one_sum p q) v w

  one_count : {c c' : ℕ} {g g' : ℤ} → TotalTold y n h c g → TotalTold y n h c' g' → c ≡ c'
  one_count t u = t.counts ∙ (ap (λ (s : Sum). s.count) (one_sum t.all_is u.all_is) ∙ sym u.counts)

  one_net : {c c' : ℕ} {g g' : ℤ} → TotalTold y n h c g → TotalTold y n h c' g' → g ≡ g'
  one_net t u =
      let added = one_sum t.added_is u.added_is in
      let deducted = one_sum t.deducted_is u.deducted_is in
      t.nets ∙ ((λ i. pos (added i).grams -ℤ pos (deducted i).grams) ∙ sym u.nets)

-- the text of the lines has their seven figures and no others
lines_alike : (f g : ℕ → Figure) → ((l : ℕ) → IsLine l → f l ≡ g l) → flat_map (λ l. line_text (48 + l) (f l).count (pos (f l).grams)) line_numbers ≡ flat_map (λ l. line_text (48 + l) (g l).count (pos (g l).grams)) line_numbers
lines_alike f g e =
    let line : (l : ℕ) → 1 ≤ l → l ≤ 7 → line_text (48 + l) (f l).count (pos (f l).grams) ≡ line_text (48 + l) (g l).count (pos (g l).grams) =
    λ l low high. ap (λ (x : Figure). line_text (48 + l) x.count (pos x.grams)) (e l (record { from_fuel = low; to_heat_sold = high })) in
    λ i. line 1 (lit≤ tt) (lit≤ tt) i ++ (line 2 (lit≤ tt) (lit≤ tt) i ++ (line 3 (lit≤ tt) (lit≤ tt) i ++ (line 4 (lit≤ tt) (lit≤ tt) i ++ (line 5 (lit≤ tt) (lit≤ tt) i ++ (line 6 (lit≤ tt) (lit≤ tt) i ++ (line 7 (lit≤ tt) (lit≤ tt) i ++ []))))))

text_alike : (y : ℕ) {t t' r r' c c' : ℕ} {g g' : ℤ} (f f' : ℕ → Figure) → t ≡ t' → r ≡ r' → ((l : ℕ) → IsLine l → f l ≡ f' l) → c ≡ c' → g ≡ g' → year_text y t r f c g ≡ year_text y t' r' f' c' g'
unfolding year_text
text_alike y f f' t r e c g = let lines = lines_alike f f' e in λ i. first_text y (t i) (r i) ++ (lines i ++ line_text 84 (c i) (g i))

pub year_alone : {y n : ℕ} {b : Contents} {bytes text other : List ℕ} (p : YearPrinted y n bytes text) → Follows y n (calls_of p.frames) b → YearPrinted y n bytes other → other ≡ text
year_alone {y = y} {n = n} p follows q =
    let a = agrees follows in
    let same = spells_once _ _ _ _ _ q.spells p.spells in
    let frames = same.0 in
    let takes = subst (λ (fs : List (List ℕ)). Taken y n (calls_of fs) q.taken) frames q.takes in
    let taken = one_taken a q.taken p.taken takes p.takes in
    let refused : q.refused ≡ p.refused = omega (arith, taken, q.counted, p.counted, ap (λ (fs : List (List ℕ)). length fs) frames, ap cut_count same.1) in
    let lines = λ (l : ℕ) (w : IsLine l). one_line a (subst (λ (fs : List (List ℕ)). YearLineTold y n (calls_of fs) l (Ok (q.figure l))) frames (q.lines l w)) (p.lines l w) in
    let total = subst (λ (fs : List (List ℕ)). TotalTold y n (calls_of fs) q.count q.net) frames q.total in
    q.is ∙ (text_alike y q.figure p.figure taken refused lines (one_count a total p.total) (one_net a total p.total) ∙ sym p.is)

no_names : {log : List ℕ} {y : ℕ} → Yearless log → Names log y → ⊥
no_names (year_cut h) w = omega (arith, h, w.long)
no_names (unlawful h e) w = true≢false (sym w.lawful ∙ e)

-- a log without a lawful year prints one text, and so does one with a year whose text is determined
pub no_year_alone : {n : ℕ} {log text other : List ℕ} → Yearless log → text ≡ no_year_text → LogPrinted n log other → other ≡ text
no_year_alone h e (no_year _ is) = is ∙ sym e
no_year_alone h e (of_year w _) = absurd (no_names h w)

pub of_year_alone : {n y : ℕ} {log text other : List ℕ} → Names log y → ((other : List ℕ) → YearPrinted y n (drop 2 log) other → other ≡ text) → LogPrinted n log other → other ≡ text
of_year_alone w alone (no_year h _) = absurd (no_names h w)
of_year_alone {n = n} {log = log} {other = other} w alone (of_year v p) = alone other (subst (λ (k : ℕ). YearPrinted k n (drop 2 log) other) (v.is ∙ sym w.is) p)
