-- What the months hold after a month or a line is replaced. Assumes nothing.
use Rattle.std.proofs.Common.{◌≡◌, ℕ, ◌-◌, ◌≤◌, Bool, true, false, cond, eqb, leb, List, length, get_or, set, Some, None, Option, sym, refl, ap, ◌∙◌, inl, inr, arith, lit≤, leb→le, length-set, get_or-set_other, get_or-set_same}
use lib.Ieee.Fits.{and_l, and_r}
use Rattle.std.specs.Option.{option_map}
use Rattle.std.proofs.lemmas.List.{get_or-replicate}
use Rattle.std.proofs.lemmas.Bool.Decides.{eqb_tells}
use Rattle.calendar.specs.declared.month.Month.{Month}
use Rattle.months.specs.declared.line.Line.{Line}
use Rattle.months.specs.declared.line.Line.TheVariants.{Fuel, Carbonate, Wastewater, PowerBought, HeatBought, PowerSold, HeatSold}
use Rattle.months.specs.declared.state.State.{State}
use Rattle.months.specs.declared.state.State.TheVariants.{Open}
use Rattle.months.specs.declared.account.Figure.{Figure}
use Rattle.months.specs.declared.account.Account.{Account}
use Rattle.months.specs.declared.account.Change.{Change}
use Rattle.months.specs.declared.account.Change.TheVariants.{Book, Withdraw, Turn}
use Rattle.months.specs.declared.year.Months.{Months}
use Rattle.months.specs.Lines.{line_number}
use Rattle.months.specs.States.{made, books, withdraws}
use Rattle.months.specs.Accounts.{no_figure, no_account, new_account, new_months, account_at, state_at, line_at, figure_at, Shaped, more, less, with_line, with_state, with_account, account_after, ChangedTo, Changed}

pub line_bounds : (line : Line) → (1 ≤ line_number line) × (line_number line ≤ 7)
line_bounds Fuel = (lit≤ tt, lit≤ tt)
line_bounds Carbonate = (lit≤ tt, lit≤ tt)
line_bounds Wastewater = (lit≤ tt, lit≤ tt)
line_bounds PowerBought = (lit≤ tt, lit≤ tt)
line_bounds HeatBought = (lit≤ tt, lit≤ tt)
line_bounds PowerSold = (lit≤ tt, lit≤ tt)
line_bounds HeatSold = (lit≤ tt, lit≤ tt)

pub month_bounds : (month : Month) → (1 ≤ month.number) × (month.number ≤ 12)
month_bounds month =
    let n = month.number in
    (leb→le 1 n (and_l (leb 1 n) (leb n 12) month.lawful), leb→le n 12 (and_r (leb 1 n) (leb n 12) month.lawful))

-- an element after one is replaced, counted from 1
from_one : {A : Type 0} (xs : List A) (i j : ℕ) (x d : A) → 1 ≤ i → i ≤ length xs → 1 ≤ j → get_or (set xs (i - 1) x) (j - 1) d ≡ cond (eqb i j) x (get_or xs (j - 1) d)
from_one xs i j x d low high other =
    elim (eqb_tells i j) [
      | inl t ↦ rw t.0 (rw (← t.1) (get_or-set_same xs (i - 1) x d (omega arith)))
      | inr t ↦ rw t.0 (get_or-set_other xs (i - 1) (j - 1) x d (λ e. t.1 (omega arith)))
    ]

pub account_set : (ms : Months) → Shaped ms → (m : ℕ) → 1 ≤ m → m ≤ 12 → (a : Account) → (k : ℕ) → 1 ≤ k → account_at (with_account ms m a) k ≡ cond (eqb m k) a (account_at ms k)
account_set ms shaped m low high a k from = from_one ms.accounts m k a no_account low (omega (arith, shaped.0)) from

pub line_set : (a : Account) → length a.lines ≡ 7 → (l : ℕ) → 1 ≤ l → l ≤ 7 → (f : Figure) → (j : ℕ) → 1 ≤ j → line_at (with_line a l f) j ≡ cond (eqb l j) f (line_at a j)
line_set a long l low high f j from = from_one a.lines l j f no_figure low (omega arith) from

pub shaped_set : (ms : Months) → Shaped ms → (m : ℕ) → 1 ≤ m → m ≤ 12 → (a : Account) → length a.lines ≡ 7 → Shaped (with_account ms m a)
shaped_set ms shaped m low high a long = (simp length-set shaped.0, lines)
  where
    kept : (b : Bool) (other : Account) → length other.lines ≡ 7 → length (cond b a other).lines ≡ 7
    kept true other e = long
    kept false other e = e

    lines : (k : ℕ) → 1 ≤ k → k ≤ 12 → length (account_at (with_account ms m a) k).lines ≡ 7
    lines k from to =
        ap (λ (v : Account). length v.lines) (account_set ms shaped m low high a k from) ∙
        kept (eqb m k) (account_at ms k) (shaped.1 k from to)

-- each of the new months
account_new : (m : ℕ) → 1 ≤ m → m ≤ 12 → account_at new_months m ≡ new_account
account_new m low high = get_or-replicate 12 (m - 1) new_account no_account (omega arith)

pub shaped_new : Shaped new_months
shaped_new = (refl, λ m low high. ap (λ (v : Account). length v.lines) (account_new m low high))

pub new_open : (m : ℕ) → 1 ≤ m → m ≤ 12 → state_at new_months m ≡ Open
new_open m low high = ap (λ (v : Account). v.state) (account_new m low high)

pub new_empty : (m : ℕ) → 1 ≤ m → m ≤ 12 → (l : ℕ) → 1 ≤ l → l ≤ 7 → figure_at new_months m l ≡ no_figure
new_empty m low high l from to =
    ap (λ (v : Account). line_at v l) (account_new m low high) ∙ get_or-replicate 7 (l - 1) no_figure no_figure (omega arith)

-- a change keeps a month's seven lines
pub after_lines : (a : Account) (ch : Change) (a' : Account) → account_after a ch ≡ Some a' → length a.lines ≡ 7 → length a'.lines ≡ 7
after_lines a ch a' is long = go ch is
  where
    allowed : (b : Bool) (l : ℕ) (f : Figure) → cond b (Some (with_line a l f)) None ≡ Some a' → length a'.lines ≡ 7
    allowed true l f e = let same : with_line a l f ≡ a' = cc in ap (λ (v : Account). length v.lines) (sym same) ∙ simp length-set long
    allowed false l f e = let z : ◌≡◌ {A = ℕ} 0 1 = cc in absurd (omega arith)

    turned : (o : Option State) → option_map (with_state a) o ≡ Some a' → length a'.lines ≡ 7
    turned None e = let z : ◌≡◌ {A = ℕ} 0 1 = cc in absurd (omega arith)
    turned (Some s) e = let same : with_state a s ≡ a' = cc in ap (λ (v : Account). length v.lines) (sym same) ∙ long

    go : (c : Change) → account_after a c ≡ Some a' → length a'.lines ≡ 7
    go (Book line g) e = allowed (books a.state) (line_number line) (more (line_at a (line_number line)) g) e
    go (Withdraw line g) e = allowed (withdraws a.state) (line_number line) (less (line_at a (line_number line)) g) e
    go (Turn event) e = turned (made a.state event) e

-- whatever is answered to a change, twelve months of seven lines stay such
pub shaped_change : (ms : Months) → Shaped ms → (m : ℕ) → 1 ≤ m → m ≤ 12 → (ch : Change) (r : Bool) (ms' : Months) → Changed ms m ch r ms' → Shaped ms'
shaped_change ms shaped m low high ch r ms' changed = go (account_after (account_at ms m) ch) refl changed
  where
    go : (o : Option Account) → account_after (account_at ms m) ch ≡ o → ChangedTo o ms m r ms' → Shaped ms'
    go None is c = rw c.1 shaped
    go (Some a) is c = rw c.1 (shaped_set ms shaped m low high a (after_lines (account_at ms m) ch a is (shaped.1 m low high)))
