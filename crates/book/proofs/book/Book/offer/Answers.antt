use Rattle.std.proofs.Common.{◌<◌, ◌≤◌, true, is_ok, refl, sym, ◌∙◌, arith}
use Rattle.std.proofs.lemmas.Result.{err_from_is_err_and}
use Rattle.record.specs.Views.{raw_of}
use Rattle.journal.specs.Contents.{usable}
use Rattle.journal.proofs.Steps.{no_record, no_entry, of_other_year, of_this_year, in_no_open_month, in_full_journal, offer_sound, offer_taken}
use Rattle.journal.proofs.Runs.{extends}
use Rattle.book.specs.Views.{contents_of}
use Rattle.book.proofs.Held.{sound, differ, alike}
use Rattle.book.proofs.book.Book.offer.Goals as goal

pub returns-in_err-lawful : goal.returns-in_err-lawful
returns-in_err-lawful g c =
    let p = err_from_is_err_and c.from_residual.result c.from_residual.ensures.1 in
    let step = no_record (contents_of c.args.self.now) c.args.frame.now (g.S.Source.table c.args.source.now) _ c.in_err-lawful.ensures in
    record { step = rw (p.1, p.2) step; follows = rw (p.1, p.2) (extends step); same = refl {a = g.S.Source.table c.args.source.now}; memory = refl {a = c.args.self.now.journal.rows.ghost_name} }

pub returns-in_err-entry : goal.returns-in_err-entry
returns-in_err-entry g c =
    let p = err_from_is_err_and c.from_residual-in_err-entry.result c.from_residual-in_err-entry.ensures.1 in
    let step = no_entry (contents_of c.args.self.now) c.args.frame.now (g.S.Source.table c.args.source.now) (raw_of c.in_ok-lawful.lawful) c.in_ok-lawful.ensures _ c.in_err-entry.ensures.gives in
    record { step = rw (p.1, p.2) step; follows = rw (p.1, p.2) (extends step); same = c.entry_of.ensures.same; memory = refl {a = c.args.self.now.journal.rows.ghost_name} }

pub returns-then-ne : goal.returns-then-ne
returns-then-ne g c =
    let b = contents_of c.args.self.now in
    let frame = c.args.frame.now in
    let table = g.S.Source.table c.args.source.now in
    let entry = c.in_ok-entry.entry in
    let day = c.day-day.result in
    let step = of_other_year b frame table (raw_of c.in_ok-lawful.lawful) c.in_ok-lawful.ensures entry c.in_ok-entry.ensures.gives day.year.number c.day-day.ensures.year (λ same. differ _ _ c.if-ne.ensures (c.year.ensures ∙ same)) in
    record { step = step; follows = extends step; same = c.entry_of.ensures.same; memory = refl {a = c.args.self.now.journal.rows.ghost_name} }

pub returns-in_default : goal.returns-in_default
returns-in_default g c =
    let b = contents_of c.args.self.now in
    let frame = c.args.frame.now in
    let table = g.S.Source.table c.args.source.now in
    let entry = c.in_ok-entry.entry in
    let day = c.day-day.result in
    let m = c.month-month.result.number in
    let ours = of_this_year b frame table (raw_of c.in_ok-lawful.lawful) c.in_ok-lawful.ensures entry c.in_ok-entry.ensures.gives day.year.number c.day-day.ensures.year day.number m c.day-day.ensures.day (sym c.year.ensures ∙ alike _ _ c.if-ne.ensures) c.month-month.ensures in
    let step = in_no_open_month b frame table entry m ours c.state.result c.state.ensures c.in_default.not-Open in
    record { step = step; follows = extends step; same = c.entry_of.ensures.same; memory = refl {a = c.args.self.now.journal.rows.ghost_name} }

pub returns-then-len-ge-MOST_ENTRIES : goal.returns-then-len-ge-MOST_ENTRIES
returns-then-len-ge-MOST_ENTRIES g c =
    let b = contents_of c.args.self.now in
    let frame = c.args.frame.now in
    let table = g.S.Source.table c.args.source.now in
    let entry = c.in_ok-entry.entry in
    let day = c.day-day.result in
    let m = c.month-month.result.number in
    let ours = of_this_year b frame table (raw_of c.in_ok-lawful.lawful) c.in_ok-lawful.ensures entry c.in_ok-entry.ensures.gives day.year.number c.day-day.ensures.year day.number m c.day-day.ensures.day (sym c.year.ensures ∙ alike _ _ c.if-ne.ensures) c.month-month.ensures in
    let at-end : usable b.memory ≤ b.used = omega (arith, c.len.ensures, c.if-len-ge-MOST_ENTRIES.true) in
    let step = in_full_journal b frame table entry m ours c.state.result c.state.ensures c.in-Open.is at-end b.memory b.used refl refl in
    record { step = step; follows = extends step; same = c.entry_of.ensures.same; memory = refl {a = c.args.self.now.journal.rows.ghost_name} }

pub returns-in_err-number : goal.returns-in_err-number
returns-in_err-number g c =
    let p = err_from_is_err_and c.from_residual-in_err-number.result c.from_residual-in_err-number.ensures.1 in
    let b = contents_of c.args.self.now in
    let frame = c.args.frame.now in
    let table = g.S.Source.table c.args.source.now in
    let entry = c.in_ok-entry.entry in
    let day = c.day-day.result in
    let m = c.month-month.result.number in
    let ours = of_this_year b frame table (raw_of c.in_ok-lawful.lawful) c.in_ok-lawful.ensures entry c.in_ok-entry.ensures.gives day.year.number c.day-day.ensures.year day.number m c.day-day.ensures.day (sym c.year.ensures ∙ alike _ _ c.if-ne.ensures) c.month-month.ensures in
    let none = c.in_err-number.ensures.change in
    let at-end : usable b.memory ≤ b.used = omega (arith, none.full) in
    let step = in_full_journal b frame table entry m ours c.state.result c.state.ensures c.in-Open.is at-end c.push.new.self.rows.now c.push.new.self.length none.same none.count in
    rw (p.1, p.2) (record { step = step; follows = extends step; same = c.entry_of.ensures.same; memory = c.push.ensures.memory })

pub invariant_of-self-2 : goal.invariant_of-self-2
invariant_of-self-2 g c =
    let b = contents_of c.args.self.now in
    let frame = c.args.frame.now in
    let table = g.S.Source.table c.args.source.now in
    let entry = c.in_ok-entry.entry in
    let day = c.day-day.result in
    let m = c.month-month.result.number in
    let ours = of_this_year b frame table (raw_of c.in_ok-lawful.lawful) c.in_ok-lawful.ensures entry c.in_ok-entry.ensures.gives day.year.number c.day-day.ensures.year day.number m c.day-day.ensures.day (sym c.year.ensures ∙ alike _ _ c.if-ne.ensures) c.month-month.ensures in
    let more = c.in_ok-number.ensures.change.1 in
    let fits : b.used < usable b.memory = omega (arith, c.len.ensures, c.if-len-ge-MOST_ENTRIES.false, more.fits) in
    record { sound = ∣ offer_sound b frame table entry m ours c.state.result c.state.ensures c.in-Open.is (record { entry = entry; month = c.month-month.result; stands = true }) refl refl refl fits c.from-line.result c.from-line.ensures (is_ok c.change.result) c.change.new.self c.change.ensures c.push.new.self.rows.now c.push.new.self.length more.stored more.count (sound c.args.self.now) c.in_ok-entry.ensures.most ∣₁ }

pub returns : goal.returns
returns g c =
    let b = contents_of c.args.self.now in
    let frame = c.args.frame.now in
    let table = g.S.Source.table c.args.source.now in
    let entry = c.in_ok-entry.entry in
    let day = c.day-day.result in
    let m = c.month-month.result.number in
    let ours = of_this_year b frame table (raw_of c.in_ok-lawful.lawful) c.in_ok-lawful.ensures entry c.in_ok-entry.ensures.gives day.year.number c.day-day.ensures.year day.number m c.day-day.ensures.day (sym c.year.ensures ∙ alike _ _ c.if-ne.ensures) c.month-month.ensures in
    let pushed = c.in_ok-number.ensures.change in
    let more = pushed.1 in
    let fits : b.used < usable b.memory = omega (arith, c.len.ensures, c.if-len-ge-MOST_ENTRIES.false, more.fits) in
    let step = offer_taken b frame table entry m ours c.state.result c.state.ensures c.in-Open.is (record { entry = entry; month = c.month-month.result; stands = true }) refl refl refl fits c.from-line.result c.from-line.ensures (is_ok c.change.result) c.change.new.self c.change.ensures c.push.new.self.rows.now c.push.new.self.length more.stored more.count c.in_ok-number.number pushed.0 in
    record { step = step; follows = extends step; same = c.entry_of.ensures.same; memory = c.push.ensures.memory }
