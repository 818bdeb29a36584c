-- The limits of factors, by the number of their class: 1 fuel, 2 carbonate, 3 methane, 4 power, 5 heat.
use Rattle.std.specs.Prelude.{ℕ, Bool, cond, ◌&&◌, ◌||◌, T, ◌==◌, nat_le}
use Rattle.factor.specs.declared.question.Factor.{Factor}

-- the largest rate of a class
abbrev pub largest_rate : ℕ → ℕ
largest_rate class =
    cond (class == 1) 1_000_000_000
    (cond (class == 2) 100_000
    (cond (class == 3) 30_000
    (cond (class == 4) 100_000 10_000)))

-- a fuel or methane may count in part, all else counts whole
abbrev pub share_lawful : ℕ → ℕ → Bool
share_lawful class share = cond (class == 1 || class == 3) (nat_le share 1000) (share == 1000)

-- a rate and a share within the limits of a class
abbrev pub keeps : ℕ → ℕ → ℕ → Bool
keeps class rate share = nat_le rate (largest_rate class) && share_lawful class share

-- a factor within the limits of a class
abbrev pub Within : ℕ → Factor → Type 0
Within class f = T (keeps class f.rate f.share)
