use Rattle.std.proofs.Common.{sym, ◌∙◌, arith}
use Rattle.reading.proofs.Exactly.{is_clear, not_finite, not_positive, passes, stops, refused}
use Rattle.reading.proofs.limits.Limits.allow.Goals as goal
use Rattle.reading.proofs.limits.Limits.allow.Goals.{then-not-is_finite-via-then-not-is_finite, then-not-is_finite-via-else-not-is_finite+then-is_sign_negative}

pub returns-then-not-is_finite : goal.returns-then-not-is_finite
returns-then-not-is_finite c =
    refused c.args.x c.args.self.low c.args.self.high
    (elim c.then-not-is_finite.branch [
      | then-not-is_finite-via-then-not-is_finite w ↦ not_finite c.args.x (sym c.is_finite.ensures.value ∙ w.if-not-is_finite.true)
      | then-not-is_finite-via-else-not-is_finite+then-is_sign_negative w ↦ not_positive c.args.x (sym w.is_sign_negative.ensures ∙ w.if-is_sign_negative.true)
    ])

pub returns-then-from-wide : goal.returns-then-from-wide
returns-then-from-wide c =
    passes c.args.x c.from-wide.result c.from.result c.from-then-from-wide.result c.args.self.low c.args.self.high
    (is_clear c.args.x (sym c.is_finite.ensures.value ∙ c.if-not-is_finite.false) (sym c.is_sign_negative.ensures ∙ c.if-is_sign_negative.false))
    c.from-wide.ensures c.from.ensures (omega arith) (omega arith) c.from-then-from-wide.ensures c.if-from-wide.true

pub returns-else-from-wide : goal.returns-else-from-wide
returns-else-from-wide c =
    stops c.args.x c.from-wide.result c.from.result c.from.result c.args.self.low c.args.self.high
    (is_clear c.args.x (sym c.is_finite.ensures.value ∙ c.if-not-is_finite.false) (sym c.is_sign_negative.ensures ∙ c.if-is_sign_negative.false))
    c.from-wide.ensures c.from.ensures (omega arith) (omega arith) c.if-from-wide.false
