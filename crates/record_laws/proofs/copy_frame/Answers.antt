use Rattle.std.proofs.Common.{Ok, ap, ◌∙◌}
use Rattle.record_laws.proofs.Main.{copied, all_bytes}
use Rattle.record_laws.proofs.copy_frame.Goals as goal

pub returns : goal.returns
returns c =
    let bs = c.args.frame.now in
    let w = copied bs c.args.out.now c.raw.result c.in_ok-name.name.now _ c.write.new.out (all_bytes bs c.type_inv.frame)
    (ap Ok c.raw.ensures ∙ c.in_ok-record.ensures) c.in_ok-name.ensures c.write.ensures.answers c.write.ensures.leaves in
    record { answers = w.0; leaves = w.1 }
