-- Sources by their places, and lists of calls one call at a time. Assumes nothing.
use Rattle.std.proofs.Common.{◌≡◌, ℕ, ◌+◌, ◌<◌, ◌≤◌, T, List, [], ◌∷◌, map, length, get_or, take, set, None, sym, refl, ap, ◌∙◌, subst, take_all}
use Rattle.std.proofs.lemmas.List.{map-set, set-get_or, get_or-map, get_or_past, length-map}
use Rattle.std.proofs.lemmas.List.Sums.{fold_more}
use Rattle.emission.specs.Entries.{Table}
use Rattle.journal.specs.Calls as calls
use Rattle.calendar.specs.Calendar.{year_lawful}
use Rattle.journal.specs.Contents.{Contents, New, After, start, then_call, Follows, usable}
use Rattle.journal.specs.Sound.{Sound}
use Rattle.journal.proofs.Runs.{extends}
use Rattle.journal.proofs.Following.{agrees}
use Rattle.year.specs.declared.call.Call.{Call}
use Rattle.year.specs.Law.{Law, Throughout, opened, and_then}
use Rattle.year.specs.Replayed.{call_of, calls_of, Called}
use Rattle.year.proofs.Main.{law}

opened_new : {y n : ℕ} {b : Contents} → Follows y n [] b → New y n b
opened_new {y = y} {n = n} f = go f.after f.new
  where
    go : {o b : Contents} → After o [] b → New y n o → New y n b
    go start w = w

after_of : {y n : ℕ} {h : List calls.Call} {b : Contents} → Throughout y n h b → (o : Contents) × New y n o × After o h b
after_of (opened {b = b} w l) = (b, w, start)
after_of (and_then p s a l) = let r = after_of p in (r.0, r.1, then_call r.2 s)

pub throughout_follows : {y n : ℕ} {h : List calls.Call} {b : Contents} → Throughout y n h b → Follows y n h b
throughout_follows p = let r = after_of p in record { opened = r.0; new = r.1; after = r.2 }

-- the law at the end of it
pub throughout_law : {y n : ℕ} {h : List calls.Call} {b : Contents} → Throughout y n h b → Law y n h b
throughout_law (opened w l) = l
throughout_law (and_then p s a l) = l

pub tables_same : {S : Type 0} (f : S → Table) (xs : List S) (i : ℕ) (x x' : S) → i < length xs → f x' ≡ f (get_or xs i x) → map f (set xs i x') ≡ map f xs
tables_same f xs i x x' h e =
    map-set f xs i x' ∙ ap (set (map f xs) i) (e ∙ sym (get_or-map f xs i x (λ q. None) h)) ∙ set-get_or (map f xs) i (λ q. None)

pub table_at : {S : Type 0} (f : S → Table) (xs : List S) (i : ℕ) (x : S) → i < length xs → get_or (map f xs) i (λ q. None) ≡ f (get_or xs i x)
table_at f xs i x h = get_or-map f xs i x (λ q. None) h

-- the law over the calls so far, and over one more
module _ (y n : ℕ) (ly : T (year_lawful y)) (ts : List Table) (cs : List Call) (i : ℕ) where
  pub calls_more : (d : Call) (ts' : List Table) (b b' : Contents) → Sound b' → i < length cs → ts' ≡ ts → Throughout y n (calls_of ts (take i cs)) b → Called (call_of ts' (get_or cs i d)) b b' → Throughout y n (calls_of ts (take (i + 1) cs)) b'
  calls_more d ts' b b' s h e w c =
      let f = throughout_follows w in
      let m = extends c.step y n (calls_of ts (take i cs)) f in
      subst (λ (l : List calls.Call). Throughout y n l b')
      (ap (λ (t : List Table). call_of t (get_or cs i d) ∷ calls_of ts (take i cs)) e ∙ sym (fold_more (λ l x. call_of ts x ∷ l) [] cs i d h))
      (and_then w c.step m.answers (law ly s m.follows))

  pub calls_all : (b : Contents) → length cs ≤ i → Throughout y n (calls_of ts (take i cs)) b → Throughout y n (calls_of ts cs) b
  calls_all b h w = subst (λ (xs : List Call). Throughout y n (calls_of ts xs) b) (take_all i cs h) w

pub table_past : {S : Type 0} (f : S → Table) (xs : List S) (i : ℕ) → length xs ≤ i → get_or (map f xs) i (λ q. None) ≡ (λ q. None)
table_past f xs i h = get_or_past (map f xs) i (λ q. None) (subst (λ (k : ℕ). k ≤ i) (sym (length-map xs f)) h)

-- a new year's own year and memory are those that it was opened with
pub new_own : {y n : ℕ} {b : Contents} → Follows y n [] b → New b.year (usable b.memory) b
new_own f = let w = opened_new f in record { year = refl; room = refl; months = w.months; used = w.used }

pub from_own : {y n : ℕ} {h : List calls.Call} {o b : Contents} → Follows y n [] o → Throughout o.year (usable o.memory) h b → Throughout y n h b
from_own {y = y} {n = n} {h = h} {o = o} {b = b} f w =
    let a = agrees f in
    subst (λ (k : ℕ). Throughout k n h b) a.year (subst (λ (k : ℕ). Throughout o.year k h b) a.room w)
