-- What each way through a call makes of a book's contents: its step, and that they stay sound. Assumes nothing.
use Rattle.std.proofs.Common.{◌≡◌, ℕ, ◌+◌, ◌-◌, ◌<◌, ◌≤◌, Bool, true, false, cond, ◌&&◌, leb, List, length, set, Some, None, Ok, Err, Option, Result, sym, refl, ap, ◌∙◌, subst, arith}
use Rattle.std.specs.Option.{option_map}
use Rattle.std.proofs.lemmas.Bool.{le-leb}
use Rattle.refusal.specs.declared.Layer.TheVariants.{Book as BookLayer}
use Rattle.refusal.specs.declared.Refusal.{Refusal}
use Rattle.refusal.specs.Said.{refusal, then}
use Rattle.calendar.specs.declared.month.Month.{Month}
use Rattle.calendar.specs.Months.{InMonth, month_in}
use Rattle.record.specs.declared.raw.RawRecord.{RawRecord}
use Rattle.record.specs.Records.{record_in}
use Rattle.record.proofs.Chain.{then_ok, then_err}
use Rattle.reading.specs.Quantity.{quantities_of}
use Rattle.kind.specs.Kinds.{numbers_of}
use Rattle.emission.specs.declared.entry.Entry.{Entry}
use Rattle.emission.specs.Parts.{most_grams}
use Rattle.emission.specs.Entries.{Kept, Table, asked, factor_in, entry_in}
use Rattle.emission.specs.Emission.{cod_checked, methane_checked}
use Rattle.emission.specs.Views.{kept_of}
use Rattle.months.specs.declared.state.State.{State}
use Rattle.months.specs.declared.state.State.TheVariants.{Open, Held, Closed}
use Rattle.months.specs.declared.state.Event.{Event}
use Rattle.months.specs.declared.line.Line.{Line}
use Rattle.months.specs.declared.account.Account.{Account}
use Rattle.months.specs.declared.account.Change.TheVariants.{Book, Withdraw, Turn}
use Rattle.months.specs.declared.year.Months.{Months}
use Rattle.months.specs.Lines.{line_number, line_of}
use Rattle.months.specs.States.{made, books, withdraws}
use Rattle.months.specs.Accounts.{account_at, state_at, with_state, ChangedTo, Changed}
use Rattle.months.proofs.Changes.{month_bounds}
use Rattle.journal.specs.declared.row.JournalEntry.{JournalEntry}
use Rattle.journal.specs.Calls.{offer, withdraw, turn, an_entry, a_month}
use Rattle.journal.specs.Rules.{offered, IsMonth}
use Rattle.journal.specs.Rules as rules
use Rattle.journal.specs.Contents.{Contents, usable, InState, Row, Marked, Entered, withdrawn_row, Left, Turned, Step}
use Rattle.journal.specs.Contents as contents
use Rattle.journal.specs.Sound.{Sound}
use Rattle.journal.proofs.Soundness.{sound_entered, sound_left, sound_turned}

-- contents of the same year
abbrev into : Contents → Months → List JournalEntry → ℕ → Contents
into b ms rows n = record { year = b.year; months = ms; memory = rows; used = n }

pub into_same : (b : Contents) (ms : Months) (rows : List JournalEntry) (n : ℕ) → ms ≡ b.months → rows ≡ b.memory → n ≡ b.used → b ≡ into b ms rows n
into_same b ms rows n e f g = rw (e, f, g) refl

pub sound_same : (b : Contents) (ms : Months) (rows : List JournalEntry) (n : ℕ) → Sound b → ms ≡ b.months → rows ≡ b.memory → n ≡ b.used → Sound (into b ms rows n)
sound_same b ms rows n sound e f g = subst Sound (into_same b ms rows n e f g) sound

not_both : {P : Type 0} (r : Bool) → r ≡ true → r ≡ false → P
not_both r took left = let z : ◌≡◌ {A = Bool} true false = sym took ∙ left in let w : ◌≡◌ {A = ℕ} 0 1 = cc in absurd (omega arith)

-- the month of a number
pub is_month : (m : ℕ) (month : Month) → Some month.number ≡ month_in m → IsMonth m × (month.number ≡ m)
is_month m month e = go (leb 1 m && leb m 12) e
  where
    bounds : (1 ≤ month.number) × (month.number ≤ 12)
    bounds = month_bounds month

    go : (t : Bool) → Some month.number ≡ cond t (Some m) None → IsMonth m × (month.number ≡ m)
    go true e = let same : month.number ≡ m = cc in (record { from_january = omega (arith, bounds); to_december = omega (arith, bounds) }, same)
    go false e = let z : ◌≡◌ {A = ℕ} 0 1 = cc in absurd (omega arith)

pub no_month : (m : ℕ) → None ≡ month_in m → IsMonth m → ⊥
no_month m e is = let low = is.from_january in let high = is.to_december in let a : leb 1 m ≡ true = le-leb 1 m low in let b : leb m 12 ≡ true = le-leb m 12 high in go (leb 1 m) (leb m 12) a b e
  where
    go : (s t : Bool) → s ≡ true → t ≡ true → None ≡ cond (s && t) (Some m) None → ⊥
    go true true a b e = let z : ◌≡◌ {A = ℕ} 0 1 = cc in omega arith
    go true false a b e = let z : ◌≡◌ {A = ℕ} 0 1 = cc in omega arith
    go false t a b e = let z : ◌≡◌ {A = ℕ} 0 1 = cc in omega arith

-- events
module _ (b : Contents) (m : ℕ) (v : Event) (month : Month) (named : Some month.number ≡ month_in m) (r : Bool) (ms' : Months) (done : Changed b.months month.number (Turn v) r ms') where
  in_year : IsMonth m
  in_year = (is_month m month named).0

  changed : Changed b.months m (Turn v) r ms'
  changed = subst (λ (k : ℕ). Changed b.months k (Turn v) r ms') (is_month m month named).1 done

  event_turned : r ≡ true → Turned m v b (into b ms' b.memory b.used)
  event_turned took = record { year = refl; memory = refl; used = refl; months = subst (λ (q : Bool). Changed b.months m (Turn v) q ms') took changed }

  event_kept : (o : Option Account) → ChangedTo o b.months m r ms' → r ≡ false → ms' ≡ b.months
  event_kept None c left = c.1
  event_kept (Some a) c left = not_both r c.0 left

  pub event_sound : Sound b → Sound (into b ms' b.memory b.used)
  event_sound sound = go r refl
    where
      go : (q : Bool) → r ≡ q → Sound (into b ms' b.memory b.used)
      go true e = sound_turned m v b (into b ms' b.memory b.used) sound in_year (event_turned e)
      go false e = sound_same b ms' b.memory b.used sound (event_kept _ changed e) refl refl

  pub event_taken : r ≡ true → Step b (turn m v) (Ok (a_month m)) (into b ms' b.memory b.used)
  event_taken took = contents.event_taken (go (made (state_at b.months m) v) refl changed) (event_turned took)
    where
      go : (o : Option State) → made (state_at b.months m) v ≡ o → ChangedTo (option_map (with_state (account_at b.months m)) o) b.months m r ms' → rules.TurnAnswer (InState b) m v (Ok m)
      go None e c = not_both r took c.0
      go (Some s) e c = rules.turned in_year refl e

  pub event_forbidden : r ≡ false → Step b (turn m v) (Err (refusal BookLayer 18 0)) (into b ms' b.memory b.used)
  event_forbidden left = contents.event_refused (go (made (state_at b.months m) v) refl changed) (into_same b ms' b.memory b.used (event_kept _ changed left) refl refl)
    where
      go : (o : Option State) → made (state_at b.months m) v ≡ o → ChangedTo (option_map (with_state (account_at b.months m)) o) b.months m r ms' → rules.TurnAnswer (InState b) m v (Err (refusal BookLayer 18 0))
      go None e c = rules.forbidden in_year refl e
      go (Some s) e c = not_both r c.0 left

pub event_nowhere : (b : Contents) (m : ℕ) (v : Event) → None ≡ month_in m → Step b (turn m v) (Err (refusal BookLayer 19 0)) b
event_nowhere b m v e = contents.event_refused (rules.no_month (no_month m e)) refl

-- withdrawals
pub no_row : (b : Contents) → Sound b → (k : ℕ) → (k - 1 < b.used → length b.memory ≤ k - 1) → (e : Kept) → Marked b k e → ⊥
no_row b sound k absent e marked =
    let low = marked.at.counted in
    let high = marked.at.used in
    let fits = sound.fits in
    let below : k - 1 < b.used = omega arith in
    omega (arith, absent below)

pub no_standing : (b : Contents) (k : ℕ) → ((e : Kept) → Marked b k e → ⊥) → Step b (withdraw k) (Err (refusal BookLayer 17 0)) b
no_standing b k none = contents.withdrawal_refused (rules.none_stands none) refl

module _ (b : Contents) (sound : Sound b) (k : ℕ) (row : JournalEntry) (at : Row b k row) (standing : row.stands ≡ true) (line : Line) (of_line : line_number line ≡ line_of (numbers_of row.entry.kind).0) (r : Bool) (ms' : Months) (changed : Changed b.months row.month.number (Withdraw line row.entry.grams) r ms') where
  marked : Marked b k (kept_of row.entry)
  marked = record { row = row; at = at; kept = refl; stands = standing }

  lies : InMonth b.year row.entry.day row.month.number
  lies = sound.dated k row at

  withdrawal_kept : (o : Option Account) → ChangedTo o b.months row.month.number r ms' → r ≡ false → ms' ≡ b.months
  withdrawal_kept None c left = c.1
  withdrawal_kept (Some a) c left = not_both r c.0 left

  pub withdrawal_unchanged : r ≡ false → ms' ≡ b.months
  withdrawal_unchanged left = withdrawal_kept _ changed left

  pub withdrawal_forbidden : r ≡ false → Step b (withdraw k) (Err (refusal BookLayer 18 0)) (into b ms' b.memory b.used)
  withdrawal_forbidden left = contents.withdrawal_refused (go (state_at b.months row.month.number) refl _ changed) (into_same b ms' b.memory b.used (withdrawal_unchanged left) refl refl)
    where
      go : (s : State) → state_at b.months row.month.number ≡ s → (a : Account) → ChangedTo (cond (withdraws s) (Some a) None) b.months row.month.number r ms' → rules.WithdrawAnswer b.year (InState b) (Marked b) k (Err (refusal BookLayer 18 0))
      go Open e a c = not_both r c.0 left
      go Held e a c = not_both r c.0 left
      go Closed e a c = rules.closed marked lies e

  module _ (rows' : List JournalEntry) (n' : ℕ) (took : r ≡ true) (stored : rows' ≡ set b.memory (k - 1) (withdrawn_row row)) (same : n' ≡ b.used) where
    withdrawal_left : Left k row b (into b ms' rows' n')
    withdrawal_left = record { at = at; line = line; of_line = of_line; year = refl; memory = stored; used = same; months = subst (λ (q : Bool). Changed b.months row.month.number (Withdraw line row.entry.grams) q ms') took changed }

    pub withdrawal_sound : Sound (into b ms' rows' n')
    withdrawal_sound = sound_left k row b (into b ms' rows' n') sound withdrawal_left standing

    pub withdrawal_taken : Step b (withdraw k) (Ok (an_entry k row.entry.grams)) (into b ms' rows' n')
    withdrawal_taken = contents.withdrawal_taken row (go (state_at b.months row.month.number) refl _ changed) withdrawal_left
      where
        go : (s : State) → state_at b.months row.month.number ≡ s → (a : Account) → ChangedTo (cond (withdraws s) (Some a) None) b.months row.month.number r ms' → rules.WithdrawAnswer b.year (InState b) (Marked b) k (Ok (k, kept_of row.entry))
        go Open e a c = rules.withdrawn marked lies e (λ z. let w : ◌≡◌ {A = ℕ} 0 1 = cc in omega arith)
        go Held e a c = rules.withdrawn marked lies e (λ z. let w : ◌≡◌ {A = ℕ} 0 1 = cc in omega arith)
        go Closed e a c = not_both r took c.0

-- offerings
answers_day : {A B C : Type 0} (first : Result A Refusal) (second : Result B Refusal) (third : B → Result C Refusal) (kept : B → Kept) (d : ℕ) (e : Kept) → ((f : B) → (kept f).day ≡ d) → Ok e ≡ then first (λ _. then second (λ f. then (third f) (λ _. Ok (kept f)))) → e.day ≡ d
answers_day (Err x) second third kept d e same is = let z : ◌≡◌ {A = ℕ} 0 1 = cc in absurd (omega arith)
answers_day (Ok a) (Err x) third kept d e same is = let z : ◌≡◌ {A = ℕ} 0 1 = cc in absurd (omega arith)
answers_day {C = C} (Ok a) (Ok f) third kept d e same is = last (third f) is
  where
    last : (o : Result C Refusal) → Ok e ≡ then o (λ _. Ok (kept f)) → e.day ≡ d
    last (Err x) is = let z : ◌≡◌ {A = ℕ} 0 1 = cc in absurd (omega arith)
    last (Ok y) is = let w : e ≡ kept f = cc in ap (λ (k : Kept). k.day) w ∙ same f

-- an entry keeps the day of its record
entry_day : (raw : RawRecord) (t : Table) (e : Kept) → Ok e ≡ entry_in raw t → e.day ≡ raw.day
unfolding entry_in
entry_day raw t e is = answers_day (cod_checked (quantities_of raw.readings)) (factor_in (asked raw) t) (methane_checked (quantities_of raw.readings)) _ raw.day e (λ f. refl) is

-- a frame records an entry of the book's year, whose day lies in month m
pub record Ours (b : Contents) (f : List ℕ) (t : Table) (entry : Entry) (m : ℕ) : Type 0 where
  pub is : offered f t ≡ Ok (b.year, kept_of entry)
  pub lies : InMonth b.year entry.day m

pub no_record : (b : Contents) (f : List ℕ) (t : Table) (x : Refusal) → Err x ≡ record_in f → Step b (offer f t) (Err x) b
no_record b f t x e = contents.offer_refused (rules.refused_below (then_err (record_in f) _ x e)) refl

-- a record is read
module _ (b : Contents) (f : List ℕ) (t : Table) (raw : RawRecord) (read : Ok raw ≡ record_in f) where
  pub no_entry : (x : Refusal) → Err x ≡ entry_in raw t → Step b (offer f t) (Err x) b
  no_entry x e = contents.offer_refused (rules.refused_below (then_ok (record_in f) _ raw read ∙ then_err (entry_in raw t) _ x e)) refl

  -- and its entry found; y is the record's year
  module _ (entry : Entry) (found : Ok (kept_of entry) ≡ entry_in raw t) (y : ℕ) (year : y ≡ raw.year) where
    is_offered : offered f t ≡ Ok (raw.year, kept_of entry)
    is_offered = then_ok (record_in f) _ raw read ∙ then_ok (entry_in raw t) _ (kept_of entry) found

    pub of_other_year : (y ≡ b.year → ⊥) → Step b (offer f t) (Err (refusal BookLayer 14 0)) b
    of_other_year other = contents.offer_refused (rules.other_year is_offered (λ same. other (year ∙ same))) refl

    pub of_this_year : (d m : ℕ) → d ≡ raw.day → y ≡ b.year → InMonth y d m → Ours b f t entry m
    of_this_year d m day this within =
        record {
          is = is_offered ∙ ap (λ (k : ℕ). Ok (k, kept_of entry)) (sym year ∙ this);
          lies = rw (entry_day raw t (kept_of entry) found, ← day, ← this) within;
        }

-- the frame records an entry of the book's year, in month m
module _ (b : Contents) (f : List ℕ) (t : Table) (entry : Entry) (m : ℕ) (ours : Ours b f t entry m) where
  pub in_no_open_month : (s : State) → s ≡ state_at b.months m → (s ≡ Open → ⊥) → Step b (offer f t) (Err (refusal BookLayer 15 0)) b
  in_no_open_month s is not = contents.offer_refused (rules.not_open ours.is ours.lies (sym is) not) refl

  pub in_full_journal : (s : State) → s ≡ state_at b.months m → s ≡ Open → usable b.memory ≤ b.used → (rows' : List JournalEntry) (n' : ℕ) → rows' ≡ b.memory → n' ≡ b.used → Step b (offer f t) (Err (refusal BookLayer 16 0)) (into b b.months rows' n')
  in_full_journal s is is_open at-end rows' n' same count = contents.offer_refused (rules.full ours.is ours.lies (sym is ∙ is_open) at-end) (into_same b b.months rows' n' refl same count)

  module _ (s : State) (state-is : s ≡ state_at b.months m) (is_open : s ≡ Open) (row : JournalEntry) (entry-is : row.entry ≡ entry) (month-is : row.month.number ≡ m) (stands-is : row.stands ≡ true) (fits : b.used < usable b.memory) (line : Line) (of_line : line_number line ≡ line_of (numbers_of entry.kind).0) (r : Bool) (ms' : Months) (changed : Changed b.months m (Book line entry.grams) r ms') (rows' : List JournalEntry) (n' : ℕ) (stored : rows' ≡ set b.memory b.used row) (count : n' ≡ b.used + 1) where
    is_booked : r ≡ true
    is_booked = go (state_at b.months m) (sym state-is ∙ is_open) _ changed
      where
        go : (s : State) → s ≡ Open → (a : Account) → ChangedTo (cond (books s) (Some a) None) b.months m r ms' → r ≡ true
        go Open e a c = c.0
        go Held e a c = let w : ◌≡◌ {A = ℕ} 0 1 = cc in absurd (omega arith)
        go Closed e a c = let w : ◌≡◌ {A = ℕ} 0 1 = cc in absurd (omega arith)

    offer_entered : Entered row b (into b ms' rows' n')
    offer_entered = record {
      line = line;
      of_line = rw entry-is of_line;
      lies = rw (entry-is, month-is) ours.lies;
      stands = stands-is;
      year = refl;
      memory = stored;
      used = count;
      months = rw (entry-is, month-is) (subst (λ (q : Bool). Changed b.months m (Book line entry.grams) q ms') is_booked changed);
    }

    pub offer_sound : Sound b → entry.grams ≤ most_grams → Sound (into b ms' rows' n')
    offer_sound sound small = sound_entered row b (into b ms' rows' n') sound offer_entered fits (rw entry-is small)

    pub offer_taken : (number : ℕ) → number ≡ n' → Step b (offer f t) (Ok (an_entry number row.entry.grams)) (into b ms' rows' n')
    offer_taken number given =
        let next : number ≡ b.used + 1 = given ∙ count in
        contents.offer_taken {k = number} row (rw (entry-is, next) (rules.entered ours.is ours.lies (sym state-is ∙ is_open) fits)) offer_entered
