-- From a step to every list of calls, and from what a book holds to what such a list determines. Assumes nothing.
use Rattle.std.proofs.Common.{◌≡◌, ℕ, ◌≤◌, Bool, true, false, ◌&&◌, leb, List, [], ℤ, Result, sym, refl, subst, inl, inr, arith}
use Rattle.std.proofs.lemmas.Bool.{leb-true, leb-false, and_parts, and_cases}
use Rattle.refusal.specs.declared.Refusal.{Refusal}
use Rattle.months.specs.declared.account.Figure.{Figure}
use Rattle.journal.specs.Calls.{Call, Given}
use Rattle.journal.specs.Contents.{Contents, Step, New, start, then_call, Follows}
use Rattle.journal.specs.Sound.{Sound}
use Rattle.journal.specs.Figures.{LineTold, told, no_month, no_line, YearLineTold, TotalTold}
use Rattle.journal.specs.Reads.{line_read, year_line_read, total_count, net_grams}
use Rattle.journal.specs.Runs.{Extends, TellsLine, TellsYearLine, TellsTotal}
use Rattle.journal.proofs.Agree.{answered}
use Rattle.journal.proofs.Following.{agrees}
use Rattle.journal.proofs.Sums.{Tied, line_standing, year_line_standing, total_standing}

pub extends : {b b' : Contents} {c : Call} {r : Result Given Refusal} → Step b c r b' → Extends b c r b'
extends s y n h f =
    record {
      follows = record { opened = f.opened; new = f.new; after = then_call f.after s };
      answers = answered (agrees f) s;
    }

pub opened_follows : {y n : ℕ} {b : Contents} → New y n b → Follows y n [] b
opened_follows {b = b} w = record { opened = b; new = w; after = start }

pub tied : {y n : ℕ} {h : List Call} {b : Contents} → Follows y n h b → Tied y n h b
tied f = let a = agrees f in record { year = a.year; taken = a.taken; marked = a.marked; stands = a.stands }

not_in : (low high k : ℕ) → (leb low k && leb k high) ≡ false → (low ≤ k) → (k ≤ high) → ⊥
not_in low high k e p q =
    elim (and_cases (leb low k) (leb k high) e) [
      | inl x ↦ omega (arith, leb-false low k x)
      | inr x ↦ omega (arith, leb-false k high x)
    ]

pub line_told : (b : Contents) → Sound b → (m l : ℕ) (r : Result Figure Refusal) → r ≡ line_read b.months m l → TellsLine b m l r
line_told b s m l r e y n h f = subst (LineTold y n h m l) (sym e) (go (leb 1 m && leb m 12) refl (leb 1 l && leb l 7) refl)
  where
    go : (x : Bool) → (leb 1 m && leb m 12) ≡ x → (z : Bool) → (leb 1 l && leb l 7) ≡ z → LineTold y n h m l (line_read b.months m l)
    go true p true q =
        let mp = and_parts (leb 1 m) (leb m 12) p in
        let lp = and_parts (leb 1 l) (leb l 7) q in
        let o = line_standing s (tied f) (record { month = m; line = l; from_january = leb-true 1 m mp.0; to_december = leb-true m 12 mp.1; from_fuel = leb-true 1 l lp.0; to_heat_sold = leb-true l 7 lp.1 }) in
        rw (p, q) (told (record { from_january = leb-true 1 m mp.0; to_december = leb-true m 12 mp.1 }) (record { from_fuel = leb-true 1 l lp.0; to_heat_sold = leb-true l 7 lp.1 }) o.1 o.2)
    go true p false q = rw (p, q) (no_line (λ i. not_in 1 7 l q i.from_fuel i.to_heat_sold))
    go false p z q = rw p (no_month (λ i. not_in 1 12 m p i.from_january i.to_december))

pub year_line_told : (b : Contents) → Sound b → (l : ℕ) (r : Result Figure Refusal) → r ≡ year_line_read b.months l → TellsYearLine b l r
year_line_told b s l r e y n h f = subst (YearLineTold y n h l) (sym e) (go (leb 1 l && leb l 7) refl)
  where
    go : (z : Bool) → (leb 1 l && leb l 7) ≡ z → YearLineTold y n h l (year_line_read b.months l)
    go true q =
        let lp = and_parts (leb 1 l) (leb l 7) q in
        let o = year_line_standing s (tied f) l (leb-true 1 l lp.0) (leb-true l 7 lp.1) in
        rw q (told (record { from_fuel = leb-true 1 l lp.0; to_heat_sold = leb-true l 7 lp.1 }) o.1 o.2)
    go false q = rw q (no_line (λ i. not_in 1 7 l q i.from_fuel i.to_heat_sold))

pub total_told : (b : Contents) → Sound b → (count : ℕ) (net : ℤ) → count ≡ total_count b.months → net ≡ net_grams b.months → TellsTotal b count net
total_told b s count net p q y n h f =
    subst (λ (x : ℕ). TotalTold y n h x net) (sym p) (subst (TotalTold y n h (total_count b.months)) (sym q) (total_standing s (tied f)))
