use Rattle.std.proofs.Common.{refl}
use Rattle.steam.specs.Table.{rows}
use Rattle.steam.specs.Line.{enthalpy}
use Rattle.emission.proofs.figures.figures_stand.Goals as goal

pub returns : goal.returns
unfolding rows enthalpy
returns c =
    record {
      zero = refl;
      figures = record {
        coal = refl;
        gas = refl;
        water_70 = refl;
        water_20 = refl;
        steam_1000 = refl;
        steam_950 = refl;
        wastewater = refl;
        recovered_13 = refl;
        recovered_13_passes = refl;
        recovered_14 = refl;
        power_5701 = refl;
        power_5703 = refl;
        bought = refl;
        purity = refl;
      };
    }
