-- The numbers of kinds and items.
use Rattle.std.specs.Prelude.{ℕ, cond, ◌&&◌, Ok, Err, Result, ◌==◌, nat_le}
use Rattle.refusal.specs.declared.Refusal.{Refusal}
use Rattle.refusal.specs.declared.Layer.TheVariants.{Record}
use Rattle.refusal.specs.Said.{refusal}
use Rattle.kind.specs.declared.kinds.Fuel.{Fuel}
use Rattle.kind.specs.declared.kinds.Carbonate.{Carbonate}
use Rattle.kind.specs.declared.kinds.Carbonate.TheVariants.{Calcium, SodiumBicarbonate, Other}
use Rattle.kind.specs.declared.kinds.Heat.{Heat}
use Rattle.kind.specs.declared.kinds.Heat.TheVariants.{Energy, HotWater, SaturatedSteam}
use Rattle.kind.specs.declared.kinds.Kind.{Kind}
use Rattle.kind.specs.declared.kinds.Kind.TheVariants.{FuelBurnt, CarbonateUsed, BoughtCo2, WastewaterTreated, PowerBought, PowerSold, HeatBought, HeatSold}

abbrev pub fuel_item : Fuel → ℕ
fuel_item fuel = fuel.row

abbrev pub carbonate_item : Carbonate → ℕ
carbonate_item Calcium = 1
carbonate_item SodiumBicarbonate = 2
carbonate_item Other = 3

abbrev pub heat_item : Heat → ℕ
heat_item Energy = 0
heat_item HotWater = 1
heat_item SaturatedSteam = 2

-- a kind's number and its item's
abbrev pub numbers_of : Kind → ℕ × ℕ
numbers_of (FuelBurnt fuel) = (1, fuel_item fuel)
numbers_of (CarbonateUsed carbonate) = (2, carbonate_item carbonate)
numbers_of BoughtCo2 = (3, 0)
numbers_of WastewaterTreated = (4, 0)
numbers_of PowerBought = (5, 0)
numbers_of PowerSold = (6, 0)
numbers_of (HeatBought heat) = (7, heat_item heat)
numbers_of (HeatSold heat) = (8, heat_item heat)

-- the items of one kind
abbrev pub fuel_in : ℕ → Result ℕ Refusal
fuel_in item = cond (nat_le 1 item && nat_le item 21) (Ok item) (Err (refusal Record 7 0))

abbrev pub carbonate_in : ℕ → Result ℕ Refusal
carbonate_in item = cond (nat_le 1 item && nat_le item 3) (Ok item) (Err (refusal Record 7 0))

abbrev pub heat_in : ℕ → Result ℕ Refusal
heat_in item = cond (nat_le item 2) (Ok item) (Err (refusal Record 7 0))

-- the kinds whose one item is 0
abbrev pub plain_in : ℕ → ℕ → Result (ℕ × ℕ) Refusal
plain_in kind item = cond ((nat_le 3 kind && nat_le kind 6) && item == 0) (Ok (kind, item)) (Err (refusal Record 7 0))
