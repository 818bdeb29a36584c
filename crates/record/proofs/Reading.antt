-- The ways that reading and checking a record end. Assumes nothing.
use Rattle.std.proofs.Common.{◌≡◌, ℕ, List, Some, None, Ok, Err, Option, Result, sym, ap, ◌∙◌}
use Rattle.refusal.specs.declared.Refusal.{Refusal}
use Rattle.refusal.specs.declared.Layer.TheVariants.{Record}
use Rattle.refusal.specs.Said.{refusal}
use Rattle.frame.specs.Format.{Parts, year_named, day_named, share_named}
use Rattle.frame.specs.Reading.{frame_of}
use Rattle.reading.specs.declared.sets.ReadingSet.{ReadingSet}
use Rattle.reading.specs.declared.sets.Shape.{Shape}
use Rattle.reading.specs.Layout.{set_in}
use Rattle.record.specs.declared.raw.RawRecord.{RawRecord}
use Rattle.kind.specs.Subject.{shape_in}
use Rattle.record.specs.Rules.{Head, head_in}
use Rattle.record.specs.Records.{completed, checked, with_set, record_by, record_in}
use Rattle.record.proofs.Chain.{then_ok, then_err}

pub checked_headless : (r : RawRecord) (e : Refusal) → Err e ≡ head_in r.year r.day r.kind r.item r.tier → Err e ≡ checked r
unfolding checked
checked_headless r e h = sym (then_err _ _ e h)

pub checked_whole : (r : RawRecord) (h : Head) (o : Result RawRecord Refusal) → Ok h ≡ head_in r.year r.day r.kind r.item r.tier → o ≡ completed h r.readings r.share → o ≡ checked r
unfolding checked
checked_whole r h o e c = c ∙ sym (then_ok _ _ h e)

module _ (bs : List ℕ) (p : Parts) (y d : ℕ) (y-is : y ≡ year_named p) (d-is : d ≡ day_named p) (framed : Ok p ≡ frame_of bs) where
  by_parts : record_in bs ≡ record_by p
  by_parts = then_ok (frame_of bs) record_by p framed

  pub read_headless : (e : Refusal) → Err e ≡ head_in y d p.kind p.item p.tier → Err e ≡ record_in bs
  unfolding record_by
  read_headless e h = sym (by_parts ∙ then_err _ _ e (h ∙ (λ i. head_in (y-is i) (d-is i) p.kind p.item p.tier)))

  module _ (h : Head) (shape : Shape) (headed : Ok h ≡ head_in y d p.kind p.item p.tier) (Shape-is : shape ≡ shape_in h.kind h.item) where
    by_head : record_in bs ≡ with_set h (share_named p) (set_in shape p.readings)
    unfolding record_by
    by_head =
        by_parts ∙ (then_ok _ _ h (headed ∙ (λ i. head_in (y-is i) (d-is i) p.kind p.item p.tier)) ∙ ap (λ s. with_set h (share_named p) (set_in s p.readings)) (sym Shape-is))

    pub read_setless : None ≡ set_in shape p.readings → Err (refusal Record 9 0) ≡ record_in bs
    read_setless e = sym (by_head ∙ ap (with_set h (share_named p)) (sym e))

    pub read_whole : (set : ReadingSet) (share : Option ℕ) (o : Result RawRecord Refusal) → Some set ≡ set_in shape p.readings → share ≡ share_named p → o ≡ completed h set share → o ≡ record_in bs
    read_whole set share o e s c = c ∙ (ap (completed h set) s ∙ sym (by_head ∙ ap (with_set h (share_named p)) (sym e)))
