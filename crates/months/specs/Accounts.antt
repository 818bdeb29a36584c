-- What the months hold, and what a change makes of them.
use Rattle.std.specs.Prelude.{◌≡◌, ℕ, ◌+◌, ◌-◌, ◌^◌, ◌≤◌, min, Bool, true, false, cond, [], length, replicate, Some, None, Option, slice_index_or, slice_set}
use Rattle.std.specs.Option.{option_map}
use Rattle.months.specs.declared.state.State.{State}
use Rattle.months.specs.declared.state.State.TheVariants.{Open}
use Rattle.months.specs.declared.account.Figure.{Figure}
use Rattle.months.specs.declared.account.Account.{Account}
use Rattle.months.specs.declared.account.Change.{Change}
use Rattle.months.specs.declared.account.Change.TheVariants.{Book, Withdraw, Turn}
use Rattle.months.specs.declared.year.Months.{Months}
use Rattle.months.specs.Lines.{line_number}
use Rattle.months.specs.States.{made, books, withdraws}

-- no entries
abbrev pub no_figure : Figure
no_figure = record { count = 0; grams = 0 }

-- stands in where no month has the number
abbrev pub no_account : Account
no_account = record { state = Open; lines = [] }

-- an open month without entries
abbrev pub new_account : Account
new_account = record { state = Open; lines = replicate 7 no_figure }

abbrev pub new_months : Months
new_months = record { accounts = replicate 12 new_account }

-- month m, from 1 on
abbrev pub account_at : Months → ℕ → Account
account_at ms m = slice_index_or ms.accounts (m - 1) no_account

abbrev pub state_at : Months → ℕ → State
state_at ms m = (account_at ms m).state

-- line l of a month, from 1 on
abbrev pub line_at : Account → ℕ → Figure
line_at a l = slice_index_or a.lines (l - 1) no_figure

abbrev pub figure_at : Months → ℕ → ℕ → Figure
figure_at ms m l = line_at (account_at ms m) l

abbrev pub TwelveMonths : Months → Type 0
TwelveMonths ms = length ms.accounts ≡ 12

-- each month has seven lines
abbrev pub SevenLines : Months → Type 0
SevenLines ms = (m : ℕ) → 1 ≤ m → m ≤ 12 → length (account_at ms m).lines ≡ 7

abbrev pub Shaped : Months → Type 0
Shaped ms = TwelveMonths ms × SevenLines ms

-- a figure with one entry of g grams more; each number stops at the largest of its type
abbrev pub more : Figure → ℕ → Figure
more f g = record { count = min (f.count + 1) (2 ^ 32 - 1); grams = min (f.grams + g) (2 ^ 64 - 1) }

-- a figure with one entry of g grams less
abbrev pub less : Figure → ℕ → Figure
less f g = record { count = f.count - 1; grams = f.grams - g }

abbrev pub with_line : Account → ℕ → Figure → Account
with_line a l f = record { state = a.state; lines = slice_set a.lines (l - 1) f }

abbrev pub with_state : Account → State → Account
with_state a s = record { state = s; lines = a.lines }

abbrev pub with_account : Months → ℕ → Account → Months
with_account ms m a = record { accounts = slice_set ms.accounts (m - 1) a }

-- a month after a change; none where its state forbids it
abbrev pub account_after : Account → Change → Option Account
account_after a (Book line g) =
    cond (books a.state) (Some (with_line a (line_number line) (more (line_at a (line_number line)) g))) None
account_after a (Withdraw line g) =
    cond (withdraws a.state) (Some (with_line a (line_number line) (less (line_at a (line_number line)) g))) None
account_after a (Turn event) = option_map (with_state a) (made a.state event)

-- month m is as given, or, where nothing is given, all is as it was
abbrev pub ChangedTo : Option Account → Months → ℕ → Bool → Months → Type 0
ChangedTo None ms m r ms' = (r ≡ false) × (ms' ≡ ms)
ChangedTo (Some a) ms m r ms' = (r ≡ true) × (ms' ≡ with_account ms m a)

-- what is answered to a change of month m, and the months after it
abbrev pub Changed : Months → ℕ → Change → Bool → Months → Type 0
Changed ms m ch r ms' = ChangedTo (account_after (account_at ms m) ch) ms m r ms'
