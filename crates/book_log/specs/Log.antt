-- What offering the frames of a log to a book comes to.
use Rattle.std.specs.Prelude.{◌≡◌, ℕ, ◌+◌, Bool, cond, List, [], ◌∷◌, length}
use Rattle.frame_log.specs.Log.{Spells, cut_count}
use Rattle.emission.specs.Entries.{Table}
use Rattle.journal.specs.Calls.{Call, offer}
use Rattle.journal.specs.Words.{Taken}
use Rattle.journal.specs.Contents.{Contents, Follows}
use Rattle.book.specs.Views.{contents_of}
use Rattle.book_log.specs.declared.taker.Offering.{Offering}

-- the offerings of the frames in their order, put before the calls h, the newest first
abbrev pub offerings : Table → List (List ℕ) → List Call → List Call
offerings table [] h = h
offerings table (f ∷ fs) h = offerings table fs (offer f table ∷ h)

-- a book was offered the frames and took so many of them, whatever calls had made it what it was
pub record Offered (frames : List (List ℕ)) (table : Table) (before : Contents) (taken : ℕ) (after : Contents) : Type 0 where
  pub follows : (y n : ℕ) (h : List Call) → Follows y n h before → Follows y n (offerings table frames h) after
  pub takes : (y n k : ℕ) (h : List Call) → Follows y n h before → Taken y n h k → Taken y n (offerings table frames h) (k + taken)

-- the book at hand was offered a frame with the source at hand, and took it or not; both are those that were lent, and the source's table is what it was
pub record Answered {S : Type 0} (table : S → Table) (before : Offering S) (frame : List ℕ) (taken : Bool) (after : Offering S) : Type 0 where
  pub offered : Offered (frame ∷ []) (table before.source.now) (contents_of before.book.now) (cond taken 1 0) (contents_of after.book.now)
  pub same : table after.source.now ≡ table before.source.now
  pub memory : after.book.now.journal.rows.ghost_name ≡ before.book.now.journal.rows.ghost_name
  pub book : after.book.ghost_name ≡ before.book.ghost_name
  pub source : after.source.ghost_name ≡ before.source.ghost_name

-- a book was offered every frame that the bytes spell
pub record OfferedAll (bytes : List ℕ) (table : Table) (before : Contents) (taken refused : ℕ) (after : Contents) : Type 0 where
  pub frames : List (List ℕ)
  pub rest : List ℕ
  pub spells : Spells bytes frames rest
  pub offered : Offered frames table before taken after
  pub counted : taken + refused ≡ length frames + cut_count rest
