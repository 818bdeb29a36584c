use Rattle.std.proofs.Common.{drop, ◌∙◌, arith, length-take}
use Rattle.std.proofs.lemmas.List.{take_at}
use Rattle.statement.proofs.writer.write.Goals as goal

pub copy_from_slice-requires : goal.copy_from_slice-requires
copy_from_slice-requires c =
    let size = c.bytes_of.ensures.reads.size in
    rw (length-take, c.as_slice.ensures.value) (omega (arith, size, c.if-out-lt-LENGTH.false))

pub returns-clause-reads : goal.returns-clause-reads
returns-clause-reads c =
    let is = c.copy_from_slice.ensures.after ∙ c.as_slice.ensures.value in
    rw (is, take_at c.bytes_of.result.items (drop 116 c.args.out.now) 116 c.bytes_of.ensures.reads.size) c.bytes_of.ensures.reads
