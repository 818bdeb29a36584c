use Rattle.std.proofs.Common.{◌≤◌, sym, refl, ap, ◌∙◌, subst, arith}
use Rattle.std.proofs.lemmas.Result.{err_from_is_err_and}
use Rattle.reading.specs.Quantity.{quantities_of}
use Rattle.kind.specs.Kinds.{numbers_of}
use Rattle.record.specs.Views.{raw_of}
use Rattle.emission.specs.Emission.{emission_parts, InRange}
use Rattle.rounding.proofs.Laws.{at_most}
use Rattle.emission.specs.Parts.{grams_of, most_grams}
use Rattle.emission.proofs.Within.{in_range}
use Rattle.emission.proofs.Bounds.{factor_limits, parts_most}
use Rattle.emission.proofs.Entered.{cod_refused, factor_refused, methane_refused, entered}
use Rattle.emission.proofs.measured.entry_of.Goals as goal

pub returns-in_err-check_cod : goal.returns-in_err-check_cod
returns-in_err-check_cod g c =
    let p = err_from_is_err_and c.from_residual.result c.from_residual.ensures.1 in
    let q-is = c.quantities-quantities.ensures.value ∙ ap quantities_of c.readings.ensures in
    record { gives = rw (p.1, p.2) (cod_refused (raw_of c.args.lawful) _ _ q-is _ c.in_err-check_cod.ensures); same = refl; most = rw p.1 tt }

pub returns-in_err-factor : goal.returns-in_err-factor
returns-in_err-factor g c =
    let p = err_from_is_err_and c.from_residual-in_err-factor.result c.from_residual-in_err-factor.ensures.1 in
    let q-is = c.quantities-quantities.ensures.value ∙ ap quantities_of c.readings.ensures in
    let e = c.in_err-factor.ensures in
    record { gives = rw (p.1, p.2) (factor_refused (raw_of c.args.lawful) _ _ q-is c.in_ok-check_cod.ensures _ e.gives); same = e.same; most = rw p.1 tt }

pub returns-in_err-check_methane : goal.returns-in_err-check_methane
returns-in_err-check_methane g c =
    let p = err_from_is_err_and c.from_residual-in_err-check_methane.result c.from_residual-in_err-check_methane.ensures.1 in
    let q-is = c.quantities-quantities.ensures.value ∙ ap quantities_of c.readings.ensures in
    let e = c.in_ok-factor.ensures in
    record { gives = rw (p.1, p.2) (methane_refused (raw_of c.args.lawful) _ _ q-is c.in_ok-check_cod.ensures _ e.gives _ c.in_err-check_methane.ensures); same = e.same; most = rw p.1 tt }

pub emission-parts-requires : goal.emission-parts-requires
emission-parts-requires g c =
    let q-is = c.quantities-quantities.ensures.value in
    subst InRange (sym q-is) (in_range _ c.readings.result.lawful)

pub grams-requires : goal.grams-requires
grams-requires g c =
    let r = c.args.lawful in
    let f = c.in_ok-factor.factor in
    let q-is = c.quantities-quantities.ensures.value ∙ ap quantities_of c.readings.ensures in
    let e = c.emission-parts.ensures ∙ (λ i. emission_parts (numbers_of (c.kind.ensures i)).0 (q-is i) (c.share.ensures i) f) in
    let l = factor_limits (raw_of r) f c.in_ok-factor.ensures.limits in
    subst (λ n. n ≤ 24000000000000000000000) (sym e) (parts_most (numbers_of r.kind).0 (numbers_of r.kind).1 r.readings.set r.share f r.readings.lawful r.lawful l)

pub returns : goal.returns
returns g c =
    let r = c.args.lawful in
    let f = c.in_ok-factor.factor in
    let q-is = c.quantities-quantities.ensures.value ∙ ap quantities_of c.readings.ensures in
    let e = c.emission-parts.ensures ∙ (λ i. emission_parts (numbers_of (c.kind.ensures i)).0 (q-is i) (c.share.ensures i) f) in
    let day-is = c.number.ensures ∙ c.day.ensures.day in
    let grams-is = c.grams.ensures ∙ ap grams_of e in
    let h = c.in_ok-factor.ensures in
    let l = factor_limits (raw_of r) f h.limits in
    let p = parts_most (numbers_of r.kind).0 (numbers_of r.kind).1 r.readings.set r.share f r.readings.lawful r.lawful l in
    record {
      gives = entered (raw_of r) _ _ q-is c.in_ok-check_cod.ensures f h.gives _ c.in_ok-check_methane.ensures
          (λ i. record {
            day = day-is i;
            kind = (numbers_of (c.kind-2.ensures i)).0;
            item = (numbers_of (c.kind-2.ensures i)).1;
            tier = c.tier.ensures i;
            share = c.share-2.ensures i;
            quantities = q-is i;
            factor = f;
            grams = grams-is i;
          });
      same = h.same;
      most = subst (λ n. n ≤ most_grams) (sym grams-is) (at_most _ 30000000000 most_grams (omega arith) (omega arith));
    }
