-- Some requests, and then others.
use Rattle.std.proofs.Common.{◌≡◌, ℕ, ◌+◌, List, [], ◌∷◌, ◌++◌, length, take, drop, Option, ap, sym, ◌∙◌, subst, refl, arith, length-append}
use Rattle.std.specs.Prelude.{replicate}
use Rattle.std.specs.Io.KnownBytes.{Appends}
use Rattle.std.proofs.KnownBytes.{Appends-trans}
use Rattle.std.proofs.lemmas.List.{append_assoc, take-append-le, take-append-drop, length-replicate}
use Rattle.hd_dbd.specs.Types.{SegmentType, View}
use Rattle.hd_dbd.specs.Hierarchy.{Database}
use Rattle.hd_dbd.specs.Logs.{Entry}
use Rattle.hd_calls.specs.Steps.{State}
use Rattle.hd_calls.specs.Runs.{next_state, last_state}
use Rattle.hd_session.specs.Opening.{SessionState}
use Rattle.hd_session.specs.Foretelling.{foretold}
use Rattle.hd_session.proofs.Turns.{stands_after, entries_count, last_state_append}
use Rattle.hd_deck.specs.Runs.{memory_in}
use Rattle.hd_serve.specs.Frames.{frame_bytes, request_bytes}
use Rattle.hd_serve.specs.Answers.{done_bytes, in_room, told_bytes, TOLD_ROOM}
use Rattle.hd_session.specs.Requests.{Request, ask, make, foretell, commit, calls_in, AreDone, DoesAll, BreaksBehind, FailsIn}
use Rattle.hd_serve.specs.Requests.{framed, frames_of, outcome_bytes, answers_to}
use Rattle.hd_serve.specs.Serves.{AreServed, ServesAll}
use Rattle.hd_session.proofs.Requests.{made_first, done_both}
use Rattle.hd_deck.proofs.Turns.{memory_in_append}

-- the frames of some requests and then of others
pub frames_append : (xs ys : List Request) → frames_of (xs ++ ys) ≡ frames_of xs ++ frames_of ys
frames_append [] ys = refl
frames_append (x ∷ xs) ys =
    let first : List ℕ = frame_bytes (request_bytes (framed x)) in
    ap (λ (bytes : List ℕ). first ++ bytes) (frames_append xs ys) ∙ sym (append_assoc first (frames_of xs) (frames_of ys))

module _ {I : Type 0} (types : List SegmentType) (pcbs : List View) where
  -- the answers to some requests and then to others
  pub answers_append : (st : State) (xs ys : List Request) (es fs : List (Entry I)) → length es ≡ length (calls_in xs)
      → answers_to types pcbs st (xs ++ ys) (es ++ fs) ≡ answers_to types pcbs st xs es ++ answers_to types pcbs (last_state types pcbs st es) ys fs
  answers_append st [] ys [] fs same = refl
  answers_append st [] ys (e ∷ es) fs same = absurd (omega (arith, same))
  answers_append st (ask turn ∷ xs) ys [] fs same = absurd (omega (arith, same))
  answers_append st (ask turn ∷ xs) ys (e ∷ es) fs same =
      let first : List ℕ = frame_bytes (outcome_bytes e.outcome) in
      let then : State = next_state types pcbs st e in
      ap (λ (bytes : List ℕ). first ++ bytes) (answers_append then xs ys es fs (omega (arith, same)))
      ∙ sym (append_assoc first (answers_to types pcbs then xs es) (answers_to types pcbs (last_state types pcbs then es) ys fs))
  answers_append st (make turn n ∷ xs) ys es fs same =
      let first = made_first turn n xs es fs same in
      let many : length es ≡ n + length (calls_in xs) = same ∙ length-append (replicate n turn) (calls_in xs) ∙ ap (λ (k : ℕ). k + length (calls_in xs)) (length-replicate n turn) in
      let then : State = last_state types pcbs st (take n es) in
      ap (λ (gs : List (Entry I)). answers_to types pcbs (last_state types pcbs st gs) (xs ++ ys) (drop n (es ++ fs))) (take-append-le n es fs (omega (arith, many)))
      ∙ ap (λ (gs : List (Entry I)). answers_to types pcbs then (xs ++ ys) gs) first.0
      ∙ answers_append then xs ys (drop n es) fs first.1
      ∙ ap (λ (x : State). answers_to types pcbs then xs (drop n es) ++ answers_to types pcbs x ys fs)
      (sym (last_state_append types pcbs st (take n es) (drop n es)) ∙ ap (λ (gs : List (Entry I)). last_state types pcbs st gs) (take-append-drop n es))
  answers_append st (foretell turn n ∷ xs) ys es fs same =
      let first : List ℕ = frame_bytes (told_bytes (in_room TOLD_ROOM (foretold types pcbs st turn n))) in
      ap (λ (bytes : List ℕ). first ++ bytes) (answers_append st xs ys es fs same)
      ∙ sym (append_assoc first (answers_to types pcbs st xs es) (answers_to types pcbs (last_state types pcbs st es) ys fs))
  answers_append st (commit ∷ xs) ys es fs same =
      let first : List ℕ = frame_bytes done_bytes in
      ap (λ (bytes : List ℕ). first ++ bytes) (answers_append st xs ys es fs same)
      ∙ sym (append_assoc first (answers_to types pcbs st xs es) (answers_to types pcbs (last_state types pcbs st es) ys fs))

module _ (s m t : SessionState) (xs : List Request) (head : List ℕ) (a b : Option (List ℕ)) (j : ℕ) (f : ServesAll s xs head a b j m) where
  -- some requests were served, and then others
  pub served_both : (ys : List Request) (c : Option (List ℕ)) (k : ℕ) → ServesAll m ys [] b c k t → ServesAll s (xs ++ ys) head a c (j + k) t
  served_both ys c k g = λ st sound stands.
      let p : AreServed s st xs head a b j m = f st sound stands in
      let middle : State = last_state s.database.types s.pcbs st p.entries in
      let q : AreServed m middle ys [] b c k t = g middle (rw p.done.made.whole.sound sound) (stands_after s m st (calls_in xs) p.entries p.done.made) in
      let first : List ℕ = answers_to s.database.types s.pcbs st xs p.entries in
      let then : List ℕ = answers_to s.database.types s.pcbs middle ys q.entries in
      let own : answers_to m.database.types m.pcbs middle ys q.entries ≡ then =
      ap (λ (d : Database). answers_to d.types m.pcbs middle ys q.entries) p.done.made.whole.database
      ∙ ap (λ (ps : List View). answers_to s.database.types ps middle ys q.entries) p.done.made.whole.pcbs in
      record {
        entries = p.entries ++ q.entries;
        done = done_both s m t st xs ys p.entries q.entries p.done q.done;
        written = subst (λ (ts : List ℕ). Appends a c ts)
            (append_assoc head first then
            ∙ ap (λ (ts : List ℕ). head ++ ts)
            (sym (answers_append s.database.types s.pcbs st xs ys p.entries q.entries (entries_count s m st (calls_in xs) p.entries p.done.made))))
            (Appends-trans a b c (head ++ first) then p.written (subst (λ (ts : List ℕ). Appends b c ts) own q.written));
        memory = ap (λ (n : ℕ). n + k) p.memory ∙ ap (λ (n : ℕ). memory_in p.entries + n) q.memory ∙ sym (memory_in_append p.entries q.entries);
      }

  -- some requests were served, and then others carried out
  pub served_then_done : (ys : List Request) → DoesAll m ys t → DoesAll s (xs ++ ys) t
  served_then_done ys g = λ st sound stands.
      let p : AreServed s st xs head a b j m = f st sound stands in
      let middle : State = last_state s.database.types s.pcbs st p.entries in
      let q : (entries : List (Entry (List ℕ))) × AreDone m middle ys entries t = g middle (rw p.done.made.whole.sound sound) (stands_after s m st (calls_in xs) p.entries p.done.made) in
      (p.entries ++ q.0, done_both s m t st xs ys p.entries q.0 p.done q.1)

  -- some requests were served, and then an access failed
  pub served_then_broken : FailsIn m t → BreaksBehind s xs t
  served_then_broken fails = λ st sound stands.
      let p : AreServed s st xs head a b j m = f st sound stands in
      record { last = m; entries = p.entries; done = p.done; fails = fails }

-- bytes were written first, and then requests were served
pub served_behind : (s t : SessionState) (requests : List Request) (head : List ℕ) (a b c : Option (List ℕ)) (lacking : ℕ) → Appends a b head → ServesAll s requests [] b c lacking t
    → ServesAll s requests head a c lacking t
served_behind s t requests head a b c lacking first f = λ st sound stands.
    let p : AreServed s st requests [] b c lacking t = f st sound stands in
    record { entries = p.entries; done = p.done; written = Appends-trans a b c head (answers_to s.database.types s.pcbs st requests p.entries) first p.written; memory = p.memory }
