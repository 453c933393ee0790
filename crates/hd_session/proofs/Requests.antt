-- Requests of a session one after another, and the images that their commits make last.
use Rattle.std.proofs.Common.{◌≡◌, ℕ, ◌+◌, List, [], ◌∷◌, ◌++◌, length, drop, IsTrue, false, Some, Result, ap, sym, ◌∙◌, subst, refl, arith, append_assoc, length-append}
use Rattle.std.specs.Prelude.{replicate}
use Rattle.std.proofs.lemmas.List.{append-nil, drop-append-le, length-drop, length-replicate, replicate_more}
use Rattle.hd_dbd.specs.declared.answer.Refused.{Refused}
use Rattle.hd_dbd.specs.Logs.{Outcome, Entry}
use Rattle.hd_calls.specs.Steps.{State}
use Rattle.hd_calls.specs.Runs.{last_state, image_at}
use Rattle.hd_stores.specs.Stores.{Commit, Committed, commits_of}
use Rattle.hd_update.specs.States.{Represents}
use Rattle.hd_session.specs.Opening.{SessionState}
use Rattle.hd_session.specs.declared.call_and_answer.Answer.{Answer}
use Rattle.hd_session.specs.Buffer.{Buffer}
use Rattle.hd_session.specs.Logged.{outcome_of}
use Rattle.hd_session.specs.Turns.{Turn, IsTurnAnswered, IsFlushed, AreMade, entry_of}
use Rattle.hd_session.specs.Foretelling.{IsOnlyRead}
use Rattle.hd_session.specs.Requests.{Request, ask, make, foretell, commit, calls_in, committed_by, Lasts, AreDone}
use Rattle.hd_session.proofs.Turns.{made_none, made_one, made_read, made_flushed, made_both, stands_after, entries_count, image_at_append}

-- ---- some requests, and then others

-- the calls among some requests and then among others
pub calls_append : (xs ys : List Request) → calls_in (xs ++ ys) ≡ calls_in xs ++ calls_in ys
calls_append [] ys = refl
calls_append (ask turn ∷ xs) ys = ap (λ (ts : List Turn). turn ∷ ts) (calls_append xs ys)
calls_append (make turn n ∷ xs) ys =
    ap (λ (ts : List Turn). replicate n turn ++ ts) (calls_append xs ys) ∙ sym (append_assoc (replicate n turn) (calls_in xs) (calls_in ys))
calls_append (foretell turn n ∷ xs) ys = calls_append xs ys
calls_append (commit ∷ xs) ys = calls_append xs ys

-- as many entries as there are calls have those of the calls that are made first
pub made_first : {I : Type 0} (turn : Turn) (n : ℕ) (xs : List Request) (es fs : List (Entry I)) → length es ≡ length (calls_in (make turn n ∷ xs))
    → (drop n (es ++ fs) ≡ drop n es ++ fs) × (length (drop n es) ≡ length (calls_in xs))
made_first turn n xs es fs same =
    let many : length es ≡ n + length (calls_in xs) =
    same ∙ length-append (replicate n turn) (calls_in xs) ∙ ap (λ (k : ℕ). k + length (calls_in xs)) (length-replicate n turn) in
    (drop-append-le n es fs (omega (arith, many)), omega (arith, length-drop n es, many))

-- the images that the commits found among some requests and then others
pub committed_append : {I : Type 0} (xs ys : List Request) (es fs : List (Entry I)) (middle last : I) → length es ≡ length (calls_in xs) → image_at fs last ≡ middle
    → committed_by (xs ++ ys) (es ++ fs) last ≡ committed_by xs es middle ++ committed_by ys fs last
committed_append [] ys [] fs middle last same is = refl
committed_append [] ys (e ∷ es) fs middle last same is = absurd (omega (arith, same))
committed_append (ask turn ∷ xs) ys [] fs middle last same is = absurd (omega (arith, same))
committed_append (ask turn ∷ xs) ys (e ∷ es) fs middle last same is = committed_append xs ys es fs middle last (omega (arith, same)) is
committed_append {I} (make turn n ∷ xs) ys es fs middle last same is =
    let first = made_first turn n xs es fs same in
    ap (λ (gs : List (Entry I)). committed_by (xs ++ ys) gs last) first.0 ∙ committed_append xs ys (drop n es) fs middle last first.1 is
committed_append (foretell turn n ∷ xs) ys es fs middle last same is = committed_append xs ys es fs middle last same is
committed_append {I} (commit ∷ xs) ys es fs middle last same is =
    ap (λ (i : I). i ∷ committed_by (xs ++ ys) (es ++ fs) last) (image_at_append es fs middle last is)
    ∙ ap (λ (images : List I). image_at es middle ∷ images) (committed_append xs ys es fs middle last same is)

-- some images last, and then others
pub lasts_both : (first then : List (List ℕ)) (a b c : Committed) → Lasts first a b → Lasts then b c → Lasts (first ++ then) a c
lasts_both [] then a b c f g = subst (λ (x : Committed). Lasts then x c) f g
lasts_both (image ∷ first) then a b c f g = (f.0, lasts_both first then (record { image = image; tried = image; since = f.0; before = commits_of a }) b c f.1 g)

-- some requests were carried out, and then others
pub done_both : (s m t : SessionState) (st : State) (xs ys : List Request) (es fs : List (Entry (List ℕ))) → AreDone s st xs es m
    → AreDone m (last_state s.database.types s.pcbs st es) ys fs t → AreDone s st (xs ++ ys) (es ++ fs) t
done_both s m t st xs ys es fs f g = record {
  made = subst (λ (ts : List Turn). AreMade s st ts (es ++ fs) t) (sym (calls_append xs ys)) (made_both s m t st (calls_in xs) (calls_in ys) es fs f.made g.made);
  lasts = subst (λ (images : List (List ℕ)). Lasts images s.volume.committed t.volume.committed)
      (sym (committed_append xs ys es fs m.volume.image t.volume.image (entries_count s m st (calls_in xs) es f.made) g.made.begins))
      (lasts_both (committed_by xs es m.volume.image) (committed_by ys fs t.volume.image) s.volume.committed m.volume.committed t.volume.committed f.lasts g.lasts);
}

-- ---- none, and a commit

-- nothing was asked for
pub done_none : (s : SessionState) (st : State) → s.broken ≡ false → Represents s.database s.volume s.kept st → AreDone s st [] [] s
done_none s st whole stands = record { made = made_none s st whole stands; lasts = refl }

-- A commit of a session was done: it flushed the session, and a crash leaves its image.
pub record IsCommitted (s t : SessionState) : Type 0 where
  pub flushed : IsFlushed s t
  pub lasts : (t.volume.committed.image ≡ t.volume.image) × (t.volume.committed.tried ≡ t.volume.image) × (t.volume.committed.before ≡ commits_of s.volume.committed)

-- so that image lasts
pub one_lasts : (old new : Committed) (image : List ℕ) → (new.image ≡ image) × (new.tried ≡ image) × (new.before ≡ commits_of old) → Lasts (image ∷ []) old new
one_lasts old new image done = (
  new.since,
  ap (λ (x : List ℕ). record { image = x; tried = new.tried; since = new.since; before = new.before }) done.0
      ∙ ap (λ (x : List ℕ). record { image = image; tried = x; since = new.since; before = new.before }) done.1
      ∙ ap (λ (xs : List Commit). record { image = image; tried = image; since = new.since; before = xs }) done.2,
)

-- and it makes no call
pub done_commit : (s t : SessionState) → s.broken ≡ false → (IsTrue s.volume.is_sound → IsCommitted s t) → (st : State) → IsTrue s.volume.is_sound → Represents s.database s.volume s.kept st
    → AreDone s st (commit ∷ []) [] t
done_commit s t whole done st sound stands =
    record { made = made_flushed s s t st [] [] (made_none s st whole stands) (done sound).flushed; lasts = one_lasts s.volume.committed t.volume.committed t.volume.image (done sound).lasts }

-- ---- what is foretold, and calls that are made again and again

-- what is foretold makes no call
pub done_foretell : (s t : SessionState) (turn : Turn) (n : ℕ) → s.broken ≡ false → IsOnlyRead s t → (st : State) → IsTrue s.volume.is_sound → Represents s.database s.volume s.kept st
    → AreDone s st (foretell turn n ∷ []) [] t
done_foretell s t turn n whole only st sound stands = record { made = made_read s t st whole only sound stands; lasts = only.committed }

-- a call is made no time
pub done_no_time : (s : SessionState) (st : State) (turn : Turn) → s.broken ≡ false → Represents s.database s.volume s.kept st → AreDone s st (make turn 0 ∷ []) [] s
done_no_time s st turn whole stands = record { made = made_none s st whole stands; lasts = refl }

once_more : {A : Type 0} (k : ℕ) (x : A) → (replicate k x ++ []) ++ x ∷ [] ≡ replicate (k + 1) x ++ []
once_more {A} k x = ap (λ (xs : List A). xs ++ x ∷ []) (append-nil (replicate k x)) ∙ replicate_more k x ∙ sym (append-nil (replicate (k + 1) x))

-- a call was made so often, and then once more
pub done_once_more : (s m t : SessionState) (st : State) (turn : Turn) (k : ℕ) (es : List (Entry (List ℕ))) (io : Buffer) (result : Result Answer Refused) (o : Outcome) → IsTrue s.volume.is_sound
    → AreDone s st (make turn k ∷ []) es m → IsTurnAnswered m turn result io t → outcome_of result io ≡ Some o → AreDone s st (make turn (k + 1) ∷ []) (es ++ entry_of m turn o ∷ []) t
done_once_more s m t st turn k es io result o sound done answered comes = record {
  made = subst (λ (ts : List Turn). AreMade s st ts (es ++ entry_of m turn o ∷ []) t) (once_more k turn)
      (made_both s m t st (replicate k turn ++ []) (turn ∷ []) es (entry_of m turn o ∷ []) done.made
      (made_one m t turn io (last_state s.database.types s.pcbs st es) result o (rw done.made.whole.sound sound) (stands_after s m st (replicate k turn ++ []) es done.made) answered comes));
  lasts = answered.call.committed ∙ done.lasts;
}
