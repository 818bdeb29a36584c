use Rattle.journal.proofs.Runs.{opened_follows}
use Rattle.book.proofs.Held.{sound}
use Rattle.year.proofs.Main.{law}
use Rattle.year.proofs.opening.open.Goals as goal

pub returns : goal.returns
returns c =
    let new = c.new.ensures.new in
    record {
      follows = opened_follows new;
      law = λ h b f. law c.args.year.lawful (sound b) f;
      memory = c.new.ensures.memory;
      rows = c.new.ensures.rows;
    }
