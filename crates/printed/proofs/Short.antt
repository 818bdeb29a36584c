-- A buffer that is long enough is never too short. Assumes nothing.
use Rattle.std.proofs.Common.{ℕ, ◌≤◌, List, length, Ok, Err, Result, MatchResult, refl, arith}
use Rattle.std.specs.Result.{IsOk}
use Rattle.statement.specs.declared.fault.BufferShort.{BufferShort}
use Rattle.journal.specs.declared.row.JournalEntry.{JournalEntry}
use Rattle.printed.specs.Printed.{TooShort}

pub never_short : (r : Result ℕ BufferShort) (P : ℕ → Type 0) (before after : List ℕ) (memory memory' : List JournalEntry)
    → MatchResult r P (λ e. TooShort e.needed before after memory memory') → 576 ≤ length before → IsOk r
never_short (Ok n) P before after memory memory' h long = refl
never_short (Err e) P before after memory memory' h long = absurd (omega (arith, h.is, h.short))
