use Rattle.frame_log.proofs.Counting.{counted_in, lawful_log}
use Rattle.frame_log.proofs.year_and_counts.Goals as goal

pub returns : goal.returns
returns c =
    let e = c.in_ok-year.ensures in
    lawful_log c.args.log.now c.in_ok-year.frames.now _ _ _ e.0 e.1 (counted_in _ _ (λ x b q e. e) c.tally-counts.ensures)
