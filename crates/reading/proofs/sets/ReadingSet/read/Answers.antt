use Rattle.std.proofs.Common.{rules, ◌≡◌, sym, ◌∙◌, length, [], Some, arith, lit<}
use lib.Ieee.{nan}
use Rattle.reading.specs.declared.sets.Shape.TheVariants.{Amount as AmountShape, Water as WaterShape, Steam as SteamShape, Wastewater as WastewaterShape}
use Rattle.reading.specs.declared.sets.ReadingSet.TheVariants.{Amount, Water, Steam, Wastewater}
use Rattle.reading.proofs.Places.{all_at, wrong_length, wrong_count, right_count}
use Rattle.reading.proofs.Joined.{was_read}
use Rattle.reading.proofs.sets.ReadingSet.read.Goals as goal

pub returns-then-bytes-size-clause-value : goal.returns-then-bytes-size-clause-value
returns-then-bytes-size-clause-value c = wrong_length c.args.shape c.args.bytes.now (λ e. c.if-bytes-size.true (e ∙ sym c.size.ensures))

pub returns-in_err-as_array-in-Amount-clause-value : goal.returns-in_err-as_array-in-Amount-clause-value
returns-in_err-as_array-in-Amount-clause-value c =
    c.from_residual.ensures
    ∙ wrong_count c.args.shape AmountShape c.args.bytes.now _ _ c.in-Amount.is c.as_chunks.ensures.front_len c.as_chunks.ensures.back_len c.in_err-as_array-in-Amount.ensures.cases

pub returns-in_ok-as_array-in-Amount : goal.returns-in_ok-as_array-in-Amount
returns-in_ok-as_array-in-Amount c =
    let bs = c.args.bytes.now in
    let counted : length c.as_chunks.result.0.now ≡ 1 = search rules in
    let at = all_at bs _ c.map.result 1 c.as_chunks.ensures.front c.as_chunks.ensures.front_len counted (λ k l. let a = c.map.ensures.items.at k [] nan l in search rules) in
    let value = (λ i. Some (Amount (at 0 (lit< tt) i))) ∙ right_count c.args.shape AmountShape bs _ _ c.in-Amount.is c.as_chunks.ensures.front_len c.as_chunks.ensures.back_len (omega arith) counted in
    record { value = value; back = was_read c.args.shape bs _ (λ k l. search rules) value }

pub returns-in_err-as_array-in-Water-clause-value : goal.returns-in_err-as_array-in-Water-clause-value
returns-in_err-as_array-in-Water-clause-value c =
    c.from_residual-in_err-as_array-in-Water.ensures
    ∙ wrong_count c.args.shape WaterShape c.args.bytes.now _ _ c.in-Water.is c.as_chunks.ensures.front_len c.as_chunks.ensures.back_len c.in_err-as_array-in-Water.ensures.cases

pub returns-in_ok-as_array-in-Water : goal.returns-in_ok-as_array-in-Water
returns-in_ok-as_array-in-Water c =
    let bs = c.args.bytes.now in
    let counted : length c.as_chunks.result.0.now ≡ 2 = search rules in
    let at = all_at bs _ c.map-in-Water.result 2 c.as_chunks.ensures.front c.as_chunks.ensures.front_len counted (λ k l. let a = c.map-in-Water.ensures.items.at k [] nan l in search rules) in
    let value = (λ i. Some (Water (record { kilograms = at 0 (lit< tt) i; celsius = at 1 (lit< tt) i }))) ∙ right_count c.args.shape WaterShape bs _ _ c.in-Water.is c.as_chunks.ensures.front_len c.as_chunks.ensures.back_len (omega arith) counted in
    record { value = value; back = was_read c.args.shape bs _ (λ k l. search rules) value }

pub returns-in_err-as_array-in-Steam-clause-value : goal.returns-in_err-as_array-in-Steam-clause-value
returns-in_err-as_array-in-Steam-clause-value c =
    c.from_residual-in_err-as_array-in-Steam.ensures
    ∙ wrong_count c.args.shape SteamShape c.args.bytes.now _ _ c.in-Steam.is c.as_chunks.ensures.front_len c.as_chunks.ensures.back_len c.in_err-as_array-in-Steam.ensures.cases

pub returns-in_ok-as_array-in-Steam : goal.returns-in_ok-as_array-in-Steam
returns-in_ok-as_array-in-Steam c =
    let bs = c.args.bytes.now in
    let counted : length c.as_chunks.result.0.now ≡ 2 = search rules in
    let at = all_at bs _ c.map-in-Steam.result 2 c.as_chunks.ensures.front c.as_chunks.ensures.front_len counted (λ k l. let a = c.map-in-Steam.ensures.items.at k [] nan l in search rules) in
    let value = (λ i. Some (Steam (record { kilograms = at 0 (lit< tt) i; kilopascals = at 1 (lit< tt) i }))) ∙ right_count c.args.shape SteamShape bs _ _ c.in-Steam.is c.as_chunks.ensures.front_len c.as_chunks.ensures.back_len (omega arith) counted in
    record { value = value; back = was_read c.args.shape bs _ (λ k l. search rules) value }

pub returns-in_err-as_array-in-Wastewater-clause-value : goal.returns-in_err-as_array-in-Wastewater-clause-value
returns-in_err-as_array-in-Wastewater-clause-value c =
    c.from_residual-in_err-as_array-in-Wastewater.ensures
    ∙ wrong_count c.args.shape WastewaterShape c.args.bytes.now _ _ c.in-Wastewater.is c.as_chunks.ensures.front_len c.as_chunks.ensures.back_len c.in_err-as_array-in-Wastewater.ensures.cases

pub returns-in_ok-as_array-in-Wastewater : goal.returns-in_ok-as_array-in-Wastewater
returns-in_ok-as_array-in-Wastewater c =
    let bs = c.args.bytes.now in
    let counted : length c.as_chunks.result.0.now ≡ 5 = search rules in
    let at = all_at bs _ c.map-in-Wastewater.result 5 c.as_chunks.ensures.front c.as_chunks.ensures.front_len counted (λ k l. let a = c.map-in-Wastewater.ensures.items.at k [] nan l in search rules) in
    let value = (λ i. Some (Wastewater (record { cubic_metres = at 0 (lit< tt) i; inlet = at 1 (lit< tt) i; outlet = at 2 (lit< tt) i; sludge = at 3 (lit< tt) i; recovered = at 4 (lit< tt) i }))) ∙ right_count c.args.shape WastewaterShape bs _ _ c.in-Wastewater.is c.as_chunks.ensures.front_len c.as_chunks.ensures.back_len (omega arith) counted in
    record { value = value; back = was_read c.args.shape bs _ (λ k l. search rules) value }
