-- What a record and a source's table give: the entry to keep, or the refusal.
use Rattle.std.specs.Prelude.{◌≡◌, ℕ, cond, Some, None, Ok, Err, Option, Result, ◌==◌, nat_le}
use Rattle.refusal.specs.declared.Refusal.{Refusal}
use Rattle.refusal.specs.declared.Layer.TheVariants.{Factor as FactorLayer}
use Rattle.refusal.specs.Said.{refusal, then}
use Rattle.reading.specs.declared.sets.Quantities.{Quantities}
use Rattle.reading.specs.Quantity.{quantities_of}
use Rattle.factor.specs.declared.question.Factor.{Factor}
use Rattle.factor.specs.Limits.{Within}
use Rattle.factor.specs.Questions.{Asked}
use Rattle.record.specs.declared.raw.RawRecord.{RawRecord}
use Rattle.emission.specs.Parts.{grams_of}
use Rattle.emission.specs.Emission.{emission_parts, cod_checked, methane_checked}

-- what is kept of a record
pub record Kept : Type 0 where
  pub day : ℕ
  pub kind : ℕ
  pub item : ℕ
  pub tier : ℕ
  pub share : Option ℕ
  pub quantities : Quantities
  pub factor : Option Factor
  pub grams : ℕ

-- a source's table
abbrev pub Table : Type 0
Table = Asked → Option Factor

-- fuels and carbonates ask class 1 and 2 with their item; wastewater asks class 3, power 4 and heat 5, with item 0; bought CO2 asks nothing
abbrev pub asked : RawRecord → Option Asked
asked r =
    cond (nat_le r.kind 2) (Some (record { class = r.kind; item = r.item; tier = r.tier; year = r.year }))
    (cond (r.kind == 3) None
    (Some (record { class = cond (r.kind == 4) 3 (cond (nat_le r.kind 6) 4 5); item = 0; tier = r.tier; year = r.year })))

abbrev pub held : Option Factor → Result (Option Factor) Refusal
held None = Err (refusal FactorLayer 12 0)
held (Some f) = Ok (Some f)

-- the factor that the table holds for the question; a question that it holds nothing for is refused
abbrev pub factor_in : Option Asked → Table → Result (Option Factor) Refusal
factor_in None table = Ok None
factor_in (Some a) table = held (table a)

-- a factor that was asked for is within the limits of its class
abbrev pub Limited : Option Asked → Option Factor → Type 0
Limited None f = f ≡ None
Limited (Some a) None = ⊥
Limited (Some a) (Some f) = Within a.class f

-- the exact emission of what is kept, in parts
abbrev pub kept_parts : Kept → ℕ
kept_parts k = emission_parts k.kind k.quantities k.share k.factor

-- wastewater is checked first, then the factor is asked for, then the methane is checked
unfoldable pub entry_in : RawRecord → Table → Result Kept Refusal
entry_in r table =
    then (cod_checked (quantities_of r.readings)) (λ _. then (factor_in (asked r) table) (λ f. then (methane_checked (quantities_of r.readings) f) (λ _.
    Ok (record {
      day = r.day;
      kind = r.kind;
      item = r.item;
      tier = r.tier;
      share = r.share;
      quantities = quantities_of r.readings;
      factor = f;
      grams = grams_of (emission_parts r.kind (quantities_of r.readings) r.share f);
    }))))
