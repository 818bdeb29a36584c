-- The ways that a record and a source's table end. Assumes nothing.
use Rattle.std.proofs.Common.{◌≡◌, Ok, Err, Option, sym, ap, ◌∙◌}
use Rattle.refusal.specs.declared.Refusal.{Refusal}
use Rattle.reading.specs.declared.sets.Quantities.{Quantities}
use Rattle.reading.specs.Quantity.{quantities_of}
use Rattle.factor.specs.declared.question.Factor.{Factor}
use Rattle.record.specs.declared.raw.RawRecord.{RawRecord}
use Rattle.record.proofs.Chain.{then_ok, then_err}
use Rattle.emission.specs.Parts.{grams_of}
use Rattle.emission.specs.Emission.{emission_parts, cod_checked, methane_checked}
use Rattle.emission.specs.Entries.{Kept, Table, asked, factor_in, entry_in}

module _ (r : RawRecord) (table : Table) (q : Quantities) (q-is : q ≡ quantities_of r.readings) where
  pub cod_refused : (e : Refusal) → Err e ≡ cod_checked q → Err e ≡ entry_in r table
  unfolding entry_in
  cod_refused e c = sym (then_err _ _ e (c ∙ ap cod_checked q-is))

  module _ (cod : Ok tt ≡ cod_checked q) where
    pub factor_refused : (e : Refusal) → Err e ≡ factor_in (asked r) table → Err e ≡ entry_in r table
    unfolding entry_in
    factor_refused e f = sym (then_ok _ _ tt (cod ∙ ap cod_checked q-is) ∙ then_err _ _ e f)

    module _ (f : Option Factor) (held : Ok f ≡ factor_in (asked r) table) where
      pub methane_refused : (e : Refusal) → Err e ≡ methane_checked q f → Err e ≡ entry_in r table
      unfolding entry_in
      methane_refused e m = sym (then_ok _ _ tt (cod ∙ ap cod_checked q-is) ∙ (then_ok _ _ f held ∙ then_err _ _ e (m ∙ ap (λ x. methane_checked x f) q-is)))

      pub entered : (k : Kept) → Ok tt ≡ methane_checked q f
          → k ≡ record {
            day = r.day;
            kind = r.kind;
            item = r.item;
            tier = r.tier;
            share = r.share;
            quantities = quantities_of r.readings;
            factor = f;
            grams = grams_of (emission_parts r.kind (quantities_of r.readings) r.share f);
          }
          → Ok k ≡ entry_in r table
      unfolding entry_in
      entered k m e = ap Ok e ∙ sym (then_ok _ _ tt (cod ∙ ap cod_checked q-is) ∙ (then_ok _ _ f held ∙ then_ok _ _ tt (m ∙ ap (λ x. methane_checked x f) q-is)))
