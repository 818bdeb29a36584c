use Rattle.std.proofs.Common.{sym, ◌∙◌, arith}
use Rattle.std.proofs.lemmas.List.Concat.{length-flat_map}
use Rattle.frame.specs.Views.{parts_of}
use Rattle.frame.specs.Written.{field_bytes}
use Rattle.frame.proofs.Sizes.{sizes_written, written_most}
use Rattle.frame.proofs.Puts.{write_unsound, write_short, write_done}
use Rattle.frame.proofs.writer.write.Goals as goal

pub returns-then-not-all_fit : goal.returns-then-not-all_fit
returns-then-not-all_fit c =
    let w = write_unsound (parts_of c.args.fields) c.args.out.now (sym c.by_tag-fields.ensures.fit ∙ sym c.if-not-all_fit.ensures) in
    record { answers = w.0; leaves = w.1 }

pub frame_size-needed-requires : goal.frame_size-needed-requires
frame_size-needed-requires c =
    let p = parts_of c.args.fields in
    rw (sizes_written p c.by_tag-fields.result c.by_tag-fields.ensures.written) (omega (arith, written_most p (sym c.by_tag-fields.ensures.fit ∙ sym c.if-not-all_fit.ensures)))

pub returns-then-out-needed : goal.returns-then-out-needed
returns-then-out-needed c =
    let p = parts_of c.args.fields in
    let needed = c.frame_size-needed.ensures ∙ sizes_written p c.by_tag-fields.result c.by_tag-fields.ensures.written in
    let w = write_short p c.args.out.now _ (sym c.by_tag-fields.ensures.fit ∙ sym c.if-not-all_fit.ensures) needed c.if-out-needed.true in
    record { answers = w.0; leaves = w.1 }

pub put_all-requires-clause-room : goal.put_all-requires-clause-room
put_all-requires-clause-room c = omega (arith, length-flat_map field_bytes c.by_tag-fields.result)

pub returns : goal.returns
returns c =
    let p = parts_of c.args.fields in
    let needed = c.frame_size-needed.ensures ∙ sizes_written p c.by_tag-fields.result c.by_tag-fields.ensures.written in
    let w = write_done p c.args.out.now _ (sym c.by_tag-fields.ensures.fit ∙ sym c.if-not-all_fit.ensures) needed c.if-out-needed.false in
    record { answers = w.0; leaves = c.put_all.ensures ∙ rw c.by_tag-fields.ensures.written w.1 }
