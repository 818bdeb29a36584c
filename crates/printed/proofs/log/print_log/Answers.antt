use Rattle.std.proofs.Common.{List, ℕ, ◌++◌, drop, ap, ◌∙◌}
use Rattle.printed.proofs.log.print_log.Goals as goal

pub returns : goal.returns
returns c = record {
  text = c.log_text-text.result.items;
  printed = c.log_text-text.ensures.printed;
  alone = c.log_text-text.ensures.alone;
  long = c.len-length.ensures.value;
  within = c.len-length.ensures.fits;
  front = ap (λ (v : List ℕ). v ++ drop c.len-length.result c.args.out.now) (c.copy_from_slice.ensures.after ∙ c.as_slice.ensures.value);
}
