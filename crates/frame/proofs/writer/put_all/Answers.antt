use Rattle.std.proofs.Common.{[], length, get_or, take, None, arith}
use Rattle.std.proofs.lemmas.List.{take_more, flat_map_more}
use Rattle.std.proofs.lemmas.List.Concat.{length-flat_map}
use Rattle.std.proofs.lemmas.List.Sums.{sum_by_more_le}
use Rattle.frame.specs.Written.{field_bytes}
use Rattle.frame.proofs.Puts.{begun_more}
use Rattle.frame.proofs.writer.put_all.Goals as goal

pub put-at-requires-clause-room : goal.put-at-requires-clause-room
put-at-requires-clause-room c =
    let xs = c.args.fields.now in
    let i = c.loop-field.field-index in
    let m = sum_by_more_le (λ f. length (field_bytes f)) xs i None c.loop-field-test.true in
    omega (arith, length-flat_map field_bytes (take i xs), length-flat_map field_bytes xs)

pub loop-field-preserved : goal.loop-field-preserved
loop-field-preserved c =
    let xs = c.args.fields.now in
    let i = c.loop-field.field-index in
    rw (take_more xs i None c.loop-field-test.true, ← flat_map_more field_bytes [])
    (begun_more _ _ _ _ (field_bytes (get_or xs i None)) _ _ c.loop-field.invariant c.put-at.ensures.end c.put-at.ensures.wrote)
