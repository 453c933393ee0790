-- One request of a session, as it is carried out, answered in a frame and counted.
use Rattle.std.proofs.Common.{◌≡◌, ℕ, ◌+◌, List, [], ◌∷◌, ◌++◌, drop, false, IsTrue, Option, Some, None, Result, Ok, Err, ap, sym, ◌∙◌, subst, refl}
use Rattle.std.specs.Prelude.{unwrap_or}
use Rattle.std.specs.Io.KnownBytes.{Appends}
use Rattle.std.proofs.KnownBytes.{Appends-nil}
use Rattle.std.proofs.lemmas.List.{append-nil}
use Rattle.hd_dbd.specs.declared.answer.Refused.{Refused}
use Rattle.hd_dbd.specs.declared.answer.Refused.TheVariants as refused
use Rattle.hd_dbd.specs.Logs.{Outcome, replied, area, full, memory}
use Rattle.hd_session.specs.declared.call_and_answer.Answer.{Answer}
use Rattle.hd_session.specs.Buffer.{Buffer}
use Rattle.hd_session.specs.Replies.{reply_of}
use Rattle.hd_session.specs.Opening.{SessionState}
use Rattle.hd_session.specs.Logged.{outcome_of}
use Rattle.hd_session.specs.Turns.{Turn, IsTurnAnswered, entry_of}
use Rattle.hd_session.proofs.Turns.{made_one}
use Rattle.hd_deck.specs.Runs.{memory_of, memory_in}
use Rattle.hd_serve.specs.Frames.{frame_bytes}
use Rattle.hd_serve.specs.Answers.{done_bytes, told_bytes, in_room, TOLD_ROOM}
use Rattle.hd_session.specs.Foretelling.{foretold, IsOnlyRead}
use Rattle.hd_session.specs.Requests.{Request, ask, make, foretell, commit, DoesAll}
use Rattle.hd_serve.specs.Requests.{outcome_bytes}
use Rattle.hd_serve.specs.Serves.{answered_bytes, AreServed, ServesAll, GathersTold, AreAllMade, MakesAll}
use Rattle.hd_deck.proofs.Turns.{memory_in_append}
use Rattle.hd_session.proofs.Requests.{IsCommitted, done_none, done_commit, done_foretell, done_no_time, done_once_more}

-- nothing was asked for
pub served_none : (s : SessionState) (a : Option (List ℕ)) → s.broken ≡ false → ServesAll s [] [] a a 0 s
served_none s a whole = λ st sound stands. record { entries = []; done = done_none s st whole stands; written = Appends-nil a; memory = refl }

pub done_nothing : (s : SessionState) → s.broken ≡ false → DoesAll s [] s
done_nothing s whole = λ st sound stands. ([], done_none s st whole stands)

-- requests that were served were carried out
pub done_of_served : (s t : SessionState) (requests : List Request) (head : List ℕ) (old new : Option (List ℕ)) (lacking : ℕ) → ServesAll s requests head old new lacking t → DoesAll s requests t
done_of_served s t requests head old new lacking serves =
    λ st sound stands. (let p : AreServed s st requests head old new lacking t = serves st sound stands in (p.entries, p.done))

-- ---- a call

module _ (s t : SessionState) (turn : Turn) (b : Buffer) (lacking : ℕ) (old new : Option (List ℕ)) where
  served_one : (result : Result Answer Refused) (o : Outcome) → outcome_of result b ≡ Some o → answered_bytes result b ≡ outcome_bytes o → memory_of result ≡ Some (memory_in (entry_of s turn o ∷ []))
      → IsTurnAnswered s turn result b t → memory_of result ≡ Some lacking → Appends old new (frame_bytes (answered_bytes result b)) → ServesAll s (ask turn ∷ []) [] old new lacking t
  served_one result o is text count answered few written = λ st sound stands. record {
    entries = entry_of s turn o ∷ [];
    done = record { made = made_one s t turn b st result o sound stands answered is; lasts = answered.call.committed };
    written = subst (λ (ts : List ℕ). Appends old new ts) (ap frame_bytes text ∙ sym (append-nil (frame_bytes (outcome_bytes o)))) written;
    memory = ap (λ (n : Option ℕ). unwrap_or n 0) (sym few ∙ count);
  }

  -- a call that came to no failed access is served
  pub serves_one : (result : Result Answer Refused) → IsTurnAnswered s turn result b t → memory_of result ≡ Some lacking → Appends old new (frame_bytes (answered_bytes result b))
      → ServesAll s (ask turn ∷ []) [] old new lacking t
  serves_one (Ok a) answered few written = served_one (Ok a) (replied (reply_of a b)) refl refl refl answered few written
  serves_one (Err refused.Memory) answered few written = served_one (Err refused.Memory) memory refl refl refl answered few written
  serves_one (Err refused.Full) answered few written = served_one (Err refused.Full) full refl refl refl answered few written
  serves_one (Err refused.Device) answered few written = cc
  serves_one (Err refused.Broken) answered few written = cc
  serves_one (Err refused.Area) answered few written = served_one (Err refused.Area) area refl refl refl answered few written

-- and it is carried out, whatever was written
pub made_before_write : (s t : SessionState) (turn : Turn) (b : Buffer) (lacking : ℕ) (result : Result Answer Refused) → IsTurnAnswered s turn result b t → memory_of result ≡ Some lacking
    → DoesAll s (ask turn ∷ []) t
made_before_write s t turn b lacking result answered few =
    done_of_served s t (ask turn ∷ []) [] None None lacking (serves_one s t turn b lacking None None result answered few tt)

-- ---- a commit

module _ (s t : SessionState) (whole : s.broken ≡ false) (done : IsTrue s.volume.is_sound → IsCommitted s t) where
  pub does_commit : DoesAll s (commit ∷ []) t
  does_commit = λ st sound stands. ([], done_commit s t whole done st sound stands)

  pub serves_commit : (old new : Option (List ℕ)) → Appends old new (frame_bytes done_bytes) → ServesAll s (commit ∷ []) [] old new 0 t
  serves_commit old new written = λ st sound stands. record {
    entries = [];
    done = done_commit s t whole done st sound stands;
    written = subst (λ (ts : List ℕ). Appends old new ts) (sym (append-nil (frame_bytes done_bytes))) written;
    memory = refl;
  }

-- ---- what is foretold

module _ (s t : SessionState) (turn : Turn) (n : ℕ) (whole : s.broken ≡ false) where
  pub does_foretell : IsOnlyRead s t → DoesAll s (foretell turn n ∷ []) t
  does_foretell only = λ st sound stands. ([], done_foretell s t turn n whole only st sound stands)

  -- the frame of what was gathered behind its head answers it
  pub serves_foretold : (line : List ℕ) (old new : Option (List ℕ)) → GathersTold s turn n (0 ∷ 0 ∷ 0 ∷ 0 ∷ 7 ∷ []) line t → Appends old new (frame_bytes (drop 4 line))
      → ServesAll s (foretell turn n ∷ []) [] old new 0 t
  serves_foretold line old new gathers written = λ st sound stands. record {
    entries = [];
    done = done_foretell s t turn n whole gathers.only st sound stands;
    written = subst (λ (ts : List ℕ). Appends old new ts)
        (ap (λ (bytes : List ℕ). frame_bytes (drop 4 bytes)) (gathers.told st sound stands)
        ∙ sym (append-nil (frame_bytes (told_bytes (in_room TOLD_ROOM (foretold s.database.types s.pcbs st turn n))))))
        written;
    memory = refl;
  }

-- ---- calls that are made and not answered

pub makes_no_time : (s : SessionState) (turn : Turn) → s.broken ≡ false → MakesAll s turn 0 0 s
makes_no_time s turn whole = λ st sound stands. record { entries = []; done = done_no_time s st turn whole stands; memory = refl }

module _ (s m t : SessionState) (turn : Turn) (b : Buffer) (k lacking more : ℕ) (makes : MakesAll s turn k lacking m) where
  made_once_more : (result : Result Answer Refused) (o : Outcome) → outcome_of result b ≡ Some o → memory_of result ≡ Some (memory_in (entry_of m turn o ∷ [])) → IsTurnAnswered m turn result b t
      → memory_of result ≡ Some more → MakesAll s turn (k + 1) (lacking + more) t
  made_once_more result o is count answered few = λ st sound stands.
      let p : AreAllMade s st turn k lacking m = makes st sound stands in
      let own : more ≡ memory_in (entry_of m turn o ∷ []) = ap (λ (x : Option ℕ). unwrap_or x 0) (sym few ∙ count) in
      record {
        entries = p.entries ++ entry_of m turn o ∷ [];
        done = done_once_more s m t st turn k p.entries b result o sound p.done answered is;
        memory = ap (λ (x : ℕ). x + more) p.memory ∙ ap (λ (x : ℕ). memory_in p.entries + x) own ∙ sym (memory_in_append p.entries (entry_of m turn o ∷ []));
      }

  -- a call that came to no failed access is made
  pub makes_once_more : (result : Result Answer Refused) → IsTurnAnswered m turn result b t → memory_of result ≡ Some more → MakesAll s turn (k + 1) (lacking + more) t
  makes_once_more (Ok a) answered few = made_once_more (Ok a) (replied (reply_of a b)) refl refl answered few
  makes_once_more (Err refused.Memory) answered few = made_once_more (Err refused.Memory) memory refl refl answered few
  makes_once_more (Err refused.Full) answered few = made_once_more (Err refused.Full) full refl refl answered few
  makes_once_more (Err refused.Device) answered few = cc
  makes_once_more (Err refused.Broken) answered few = cc
  makes_once_more (Err refused.Area) answered few = made_once_more (Err refused.Area) area refl refl answered few

-- all of them were served, and nothing was written
pub serves_made : (s t : SessionState) (turn : Turn) (n lacking : ℕ) (out : Option (List ℕ)) → MakesAll s turn n lacking t → ServesAll s (make turn n ∷ []) [] out out lacking t
serves_made s t turn n lacking out makes = λ st sound stands.
    let p : AreAllMade s st turn n lacking t = makes st sound stands in
    record { entries = p.entries; done = p.done; written = Appends-nil out; memory = p.memory }

pub does_made : (s t : SessionState) (turn : Turn) (n lacking : ℕ) → MakesAll s turn n lacking t → DoesAll s (make turn n ∷ []) t
does_made s t turn n lacking makes = λ st sound stands. (let p : AreAllMade s st turn n lacking t = makes st sound stands in (p.entries, p.done))
