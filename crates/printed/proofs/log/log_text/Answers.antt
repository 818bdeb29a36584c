use Rattle.std.proofs.Common.{◌≡◌, List, ℕ, subst}
use Rattle.journal.specs.Contents.{usable}
use Rattle.printed.specs.Printed.{of_year, YearPrinted}
use Rattle.printed.proofs.Alone.{of_year_alone}
use Rattle.printed.proofs.log.log_text.Goals as goal

pub returns : goal.returns
returns c =
    let e = c.in-Some.ensures in
    let d = c.booked.ensures in
    record {
      printed = of_year e.0 (subst (λ (bytes : List ℕ). YearPrinted c.in-Some.year.number (usable c.args.memory.now) bytes c.booked.result.items) e.1 d.printed);
      alone = λ other p. of_year_alone e.0 (subst (λ (bytes : List ℕ). (other : List ℕ) → YearPrinted c.in-Some.year.number (usable c.args.memory.now) bytes other → other ≡ c.booked.result.items) e.1 d.alone) p;
    }
