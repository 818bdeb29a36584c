use Rattle.record_laws.proofs.Main.{wrote_back}
use Rattle.record_laws.proofs.write_frame.Goals as goal

pub returns : goal.returns
returns c =
    record {
      answers = c.write.ensures.answers;
      leaves = c.write.ensures.leaves;
      back = wrote_back c.args.raw c.args.name.now c.args.out.now c.write.new.out c.write.result c.write.ensures.held c.write.ensures.answers c.write.ensures.leaves;
    }
