-- What handing the frames of a log to a taker keeps. Assumes nothing.
use Rattle.std.proofs.Common.{◌≡◌, ◌≢◌, ℕ, ◌+◌, ◌<◌, ◌≤◌, Bool, true, false, cond, List, [], ◌∷◌, ◌++◌, length, sym, refl, ap, ◌∙◌, arith}
use Rattle.std.proofs.lemmas.List.{append_assoc, append-nil, length-append}
use Rattle.std.proofs.lemmas.Fn.{FoldsTo-push}
use Rattle.std.proofs.ByRecursion.{All-push}
use Rattle.std.specs.List.{AllByRecursion, FoldsTo}
use Rattle.frame_log.specs.Log.{framed, spelled, Ended, cut_count, Handed, Tallied}

-- one frame more at the end of a list of frames
spelled_push : (fs : List (List ℕ)) (f : List ℕ) → spelled (fs ++ f ∷ []) ≡ spelled fs ++ framed f
spelled_push [] f = append-nil (framed f)
spelled_push (g ∷ fs) f = ap (λ v. framed g ++ v) (spelled_push fs f) ∙ sym (append_assoc (framed g) (spelled fs) (framed f))

-- the frames handed over so far, and what is left
pub record Along {F : Type 0} (g : F → List ℕ → Bool → F → Type 0) (bytes : List ℕ) (before : F) (taken refused : ℕ) (after : F) (rest : List ℕ) : Type 0 where
  pub frames : List (List ℕ)
  pub is : spelled frames ++ rest ≡ bytes
  pub short : AllByRecursion (λ f. length f < 65536) frames
  pub calls : FoldsTo {P = F × ℕ} (Handed g) (before, 0) frames (after, taken)
  pub counted : taken + refused ≡ length frames
  pub room : taken + refused + length rest ≤ length bytes

-- on the way, or at the end, where a frame is cut off
pub data Walk {F : Type 0} (g : F → List ℕ → Bool → F → Type 0) (bytes : List ℕ) (before : F) (taken refused : ℕ) (after : F) (rest : List ℕ) : Type 0 where
  going : Along g bytes before taken refused after rest → Walk g bytes before taken refused after rest
  cut : Tallied g bytes before taken refused after → rest ≡ [] → Walk g bytes before taken refused after rest

cut_some : (rest : List ℕ) → rest ≢ [] → cut_count rest ≡ 1
cut_some [] n = absurd (n refl)
cut_some (b ∷ bs) n = refl

pub along_none : {F : Type 0} {g : F → List ℕ → Bool → F → Type 0} {bytes : List ℕ} {f : F} → Along g bytes f 0 0 f bytes
along_none = record { frames = []; is = refl; short = tt; calls = refl; counted = refl; room = omega arith }

module _ {F : Type 0} {g : F → List ℕ → Bool → F → Type 0} {bytes : List ℕ} {before after : F} {taken refused : ℕ} {rest : List ℕ} (w : Along g bytes before taken refused after rest) where
  along_more : {frame more : List ℕ} {next : F} {taken' refused' : ℕ} (b : Bool) → framed frame ++ more ≡ rest → length frame < 65536 → g after frame b next
      → taken' ≡ taken + cond b 1 0 → refused' ≡ refused + cond b 0 1 → Along g bytes before taken' refused' next more
  along_more {frame = frame} {more = more} {next = next} {taken' = taken'} {refused' = refused'} b e s o p q = record {
    frames = w.frames ++ frame ∷ [];
    is = ap (λ v. v ++ more) (spelled_push w.frames frame) ∙ (append_assoc (spelled w.frames) (framed frame) more ∙ (ap (λ v. spelled w.frames ++ v) e ∙ w.is));
    short = All-push (λ f. length f < 65536) w.frames frame w.short s;
    calls = FoldsTo-push (Handed g) _ w.frames _ frame _ w.calls (b, o, p);
    counted = one b p q ∙ (ap (λ k. k + 1) w.counted ∙ sym (length-append w.frames (frame ∷ [])));
    room = omega (arith, w.room, one b p q, longer);
  }
    where
      one : (r : Bool) → taken' ≡ taken + cond r 1 0 → refused' ≡ refused + cond r 0 1 → taken' + refused' ≡ taken + refused + 1
      one true p q = omega arith
      one false p q = omega arith

      longer : length rest ≡ 2 + length frame + length more
      longer = sym (ap length e) ∙ simp length-append (omega arith)

  along_all : {refused' : ℕ} → Ended rest → refused' ≡ refused + cut_count rest → Tallied g bytes before taken refused' after
  along_all e r = record {
    frames = w.frames;
    rest = rest;
    spells = record { is = w.is; short = w.short; ended = e };
    calls = w.calls;
    counted = omega (arith, r, w.counted);
  }

  along_cut : {refused' : ℕ} {more : List ℕ} → (rest ≢ []) → Ended rest → more ≡ [] → refused' ≡ refused + 1 → Walk g bytes before taken refused' after more
  along_cut {refused' = refused'} n e m r = cut (along_all e (r ∙ ap (λ k. refused + k) (sym (cut_some rest n)))) m

module _ {F : Type 0} {g : F → List ℕ → Bool → F → Type 0} {bytes : List ℕ} {before after : F} {taken refused : ℕ} {rest : List ℕ} where
  pub walk_more : {frame more : List ℕ} {next : F} {taken' refused' : ℕ} → Walk g bytes before taken refused after rest → (b : Bool)
      → framed frame ++ more ≡ rest → length frame < 65536 → g after frame b next
      → taken' ≡ taken + cond b 1 0 → refused' ≡ refused + cond b 0 1 → Walk g bytes before taken' refused' next more
  walk_more (going w) b e s o p q = going (along_more w b e s o p q)
  walk_more (cut t z) b e s o p q = absurd (omega (arith, ap length (e ∙ z)))

  pub walk_cut : {refused' : ℕ} {more : List ℕ} → Walk g bytes before taken refused after rest → rest ≢ [] → Ended rest → more ≡ [] → refused' ≡ refused + 1
      → Walk g bytes before taken refused' after more
  walk_cut (going w) n e m r = along_cut w n e m r
  walk_cut (cut t z) n e m r = absurd (n z)
