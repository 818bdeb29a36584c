-- Exact numbers: fractions of whole numbers.
use Rattle.std.specs.Prelude.{ℕ, ◌-◌, ◌*◌}

pub record Fraction : Type 0 where
  pub over : ℕ
  pub under : ℕ

infix 6 ◌/:◌
abbrev pub ◌/:◌ : ℕ → ℕ → Fraction
a /: b = record { over = a; under = b }

infixl 5 ◌·◌
abbrev pub ◌·◌ : Fraction → Fraction → Fraction
f · g = record { over = f.over * g.over; under = f.under * g.under }

infix 6 ◌less◌
-- a fraction less a whole number
abbrev pub ◌less◌ : Fraction → ℕ → Fraction
f less n = record { over = f.over - n * f.under; under = f.under }
