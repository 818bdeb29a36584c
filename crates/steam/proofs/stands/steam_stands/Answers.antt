use Rattle.std.proofs.Common.{refl, arith, lit≤}
use Rattle.steam.specs.Table.{rows}
use Rattle.steam.specs.Line.{enthalpy}
use Rattle.steam.proofs.Rows.{table}
use Rattle.steam.proofs.Values.{one_value, same_value, at_a_row, bounded}
use Rattle.steam.proofs.stands.steam_stands.Goals as goal

pub returns : goal.returns
unfolding rows enthalpy
returns c =
    record {
      zero = refl;
      rows = table;
      value = one_value;
      same = same_value;
      at = at_a_row;
      bounds = bounded;
      first = λ over under s. omega (arith, (one_value 1 (lit≤ tt) (lit≤ tt)).alone over under s);
      thousand = λ over under s. omega (arith, (one_value 1000 (lit≤ tt) (lit≤ tt)).alone over under s);
      last = λ over under s. omega (arith, (one_value 22000 (lit≤ tt) (lit≤ tt)).alone over under s);
      middle = λ over under s. omega (arith, (one_value 950 (lit≤ tt) (lit≤ tt)).alone over under s);
    }
