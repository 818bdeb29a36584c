use Rattle.std.proofs.Common.{◌≡◌, ◌+◌, ◌<◌, length, drop, sym, refl, rules, arith}
use Rattle.std.proofs.lemmas.Bool.{le-leb, lt-leb}
use Rattle.std.proofs.lemmas.List.{take_rest, drop-drop}
use Rattle.std.proofs.lemmas.Result.{err_from_is_err_and}
use native.Mathlib.Nat.{sub-zero}
use Rattle.refusal.specs.declared.Layer.TheVariants.{Frame}
use Rattle.refusal.specs.Said.{refusal}
use Rattle.frame.specs.Faults.{refusal_of}
use Rattle.frame.specs.Tags.{number_of}
use Rattle.frame.specs.Views.{bytes_of}
use Rattle.frame.specs.Runs.{number_above}
use Rattle.frame.proofs.Front.{Headed, front_headed}
use Rattle.frame.proofs.field.Run.next_field.Goals as goal
use Rattle.frame.proofs.field.Run.next_field.Goals.{After-allows}

-- the header has been found right but for the length in it
headed : (c : After-allows) → Headed (number_above c.args.self.now.above) c.left.result.now (number_of c.in_ok-tag.tag) c.from-length.result
headed c = record { head = c.in-len3-up.len_at_least; tagged = search rules; up = search rules; sized = search rules }

pub returns-then-not-allows : goal.returns-then-not-allows
returns-then-not-allows c =
    let h = headed (goal.at.returns-then-not-allows c).After-allows in
    let e = front_headed c.args.self.now.offset _ _ _ _ h in
    rw (← c.left.ensures, e, ← c.if-not-allows.ensures)

pub returns-in_err-bytes : goal.returns-in_err-bytes
returns-in_err-bytes c =
    let h = headed (goal.at.returns-in_err-bytes c).After-allows in
    let e = front_headed c.args.self.now.offset _ _ _ _ h in
    let p = err_from_is_err_and c.from_residual-in_err-bytes.result c.from_residual-in_err-bytes.ensures.1 in
    let k = rw c.in_err-bytes.ensures.ok_part at c.get.ensures.lookup in
    let g = simp take_rest at k in
    let f : refusal_of c.in_err-bytes.field-0.0 ≡ refusal Frame 1 c.args.self.now.offset = search rules in
    let short : length (drop 3 c.left.result.now) < c.from-length.result = omega arith in
    rw (p.1, p.2, f, ← c.left.ensures, e, ← c.if-not-allows.ensures, lt-leb _ _ short) refl

pub returns : goal.returns
returns c =
    let h = headed (goal.at.returns c).After-allows in
    let e = front_headed c.args.self.now.offset _ _ _ _ h in
    let k = rw c.in_ok-bytes.ensures.ok_part at c.get.ensures.lookup in
    let g = simp (take_rest, sub-zero) at k in
    let d : drop c.from-length.result (drop 3 c.left.result.now) ≡ drop (c.args.self.now.offset + (3 + c.from-length.result)) c.args.self.now.frame.now = rw (drop-drop, c.left.ensures, drop-drop) in
    let n : length (bytes_of c.new.result) ≡ c.from-length.result = rw c.new.ensures.bytes (omega arith) in
    record {
      field_is = rw (← c.left.ensures, e, ← c.if-not-allows.ensures, le-leb _ _ g.0.1, d, ← c.new.ensures.tag, ← g.0.2, ← c.new.ensures.bytes);
      offset_is = rw n;
      above_is = sym c.new.ensures.tag;
    }
