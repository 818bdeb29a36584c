use Rattle.std.proofs.Common.{Bool, cond, [], ◌∷◌, sym, refl, subst}
use Rattle.book.specs.Views.{contents_of}
use Rattle.book_log.specs.Log.{Offered}
use Rattle.book_log.proofs.Offerings.{offered_one}
use Rattle.book_log.proofs.taker.OfferingTaker.takes.Goals as goal

pub returns : goal.returns
returns g c =
    let o = c.offer.ensures in
    record {
      offered = subst (λ (b : Bool). Offered (c.args.frame.now ∷ []) (g.S.Source.table c.args.self.now.source.now) (contents_of c.args.self.now.book.now) (cond b 1 0) (contents_of c.offer.new.self)) (sym c.is_ok.ensures.value) (offered_one c.offer.result o.follows);
      same = o.same;
      memory = o.memory;
      book = refl;
      source = refl;
    }
