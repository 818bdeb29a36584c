-- The letters of the tiers.
use Rattle.std.specs.Prelude.{ℕ}
use Rattle.kind.specs.declared.tiers.Tier.{Tier}
use Rattle.kind.specs.declared.tiers.Tier.TheVariants.{Measured, Default}

-- the codes of the letters M and D
abbrev pub letter_of : Tier → ℕ
letter_of Measured = 77
letter_of Default = 68
