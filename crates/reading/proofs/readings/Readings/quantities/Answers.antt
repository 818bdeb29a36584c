use Rattle.reading.proofs.Kept.{rounded, water_counts, steam_counts, wastewater_counts}
use Rattle.reading.proofs.readings.Readings.quantities.Goals as goal

pub returns-in-Water : goal.returns-in-Water
returns-in-Water c =
    let set = c.args.self.set in
    let value = water_counts set c.args.self.lawful c.in-Water.w c.quantity-in-Water.result c.quantity-in-Water-2.result c.in-Water.is c.quantity-in-Water.ensures c.quantity-in-Water-2.ensures in
    record { value = value; rounded = rounded set _ value }

pub returns-in-Steam : goal.returns-in-Steam
returns-in-Steam c =
    let set = c.args.self.set in
    let value = steam_counts set c.args.self.lawful c.in-Steam.s c.quantity-in-Steam.result c.quantity-in-Steam-2.result c.in-Steam.is c.quantity-in-Steam.ensures c.quantity-in-Steam-2.ensures in
    record { value = value; rounded = rounded set _ value }

pub returns-in-Wastewater : goal.returns-in-Wastewater
returns-in-Wastewater c =
    let set = c.args.self.set in
    let value =
    wastewater_counts set c.args.self.lawful c.in-Wastewater.w c.quantity-in-Wastewater.result c.quantity-in-Wastewater-2.result c.quantity-in-Wastewater-3.result c.quantity-in-Wastewater-4.result c.quantity-in-Wastewater-5.result
    c.in-Wastewater.is c.quantity-in-Wastewater.ensures c.quantity-in-Wastewater-2.ensures c.quantity-in-Wastewater-3.ensures c.quantity-in-Wastewater-4.ensures c.quantity-in-Wastewater-5.ensures in
    record { value = value; rounded = rounded set _ value }
