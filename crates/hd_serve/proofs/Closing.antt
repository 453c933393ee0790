-- What is left when a session is closed after its requests.
use Rattle.std.proofs.Common.{◌≡◌, IsTrue, ℕ, List, Option, Some, None, Result, Ok, Err, false, sym, subst, inl}
use Rattle.std.specs.Prelude.{OnOk, IfOk, IfErr}
use Rattle.std.specs.Result.{is_err}
use Rattle.hd_stores.specs.Stores.{Committed, FailsCommit}
use Rattle.hd_session.specs.Opening.{SessionState}
use Rattle.hd_session.specs.Turns.{StaysWhole}
use Rattle.hd_serve.specs.declared.call.Limits.{Limits}
use Rattle.hd_serve.specs.declared.answered_calls.Count.{Count}
use Rattle.hd_serve.specs.declared.desk.Ending.{Ending}
use Rattle.hd_serve.specs.declared.desk.Stop.{Stop}
use Rattle.hd_serve.specs.declared.desk.Stop.TheVariants as stop
use Rattle.hd_session.specs.Requests.{Request, AreBroken, DoesAll, BreaksBehind}
use Rattle.hd_deck.specs.Commits.{Stored, DoesOut, BreaksOut}
use Rattle.hd_serve.specs.Serves.{AreServed, ServesAll, ServesOut, StopsAt, AreAsked, Ends, GoesWrong, GoesOn, IsServedToTheEnd, ServesUntil, IsServedOut, IsBrokenOut, LeavesAt}

-- what was asked for in front of an input is so whatever is behind it
whatever_behind : (limits : Limits) (input : Option (List ℕ)) (requests : List Request) (Behind : List ℕ → Type 0) → AreAsked limits input requests Behind → AreAsked limits input requests GoesOn
whatever_behind limits None requests Behind asked = record { right = asked.right; spelled = tt }
whatever_behind limits (Some bytes) requests Behind asked = record { right = asked.right; spelled = (asked.spelled.0, asked.spelled.1, tt) }

module _ (s t : SessionState) (left : Stored) (kept : left.committed ≡ t.volume.committed) where
  -- an access failed, before the session was closed
  breaks_out : (requests : List Request) → BreaksBehind s requests t → BreaksOut s requests left
  breaks_out requests breaks = λ st sound stands.
      let p : AreBroken s st requests t = breaks st sound stands in
      record {
        last = p.last;
        entries = p.entries;
        done = p.done;
        fails = subst (λ (c : Committed). FailsCommit p.last.volume.is_sound p.last.volume.image p.last.volume.committed c) (sym kept) p.fails;
      }

  -- or as it was closed
  fails_out : (requests : List Request) → DoesAll s requests t → BreaksOut s requests left
  fails_out requests does = λ st sound stands. (let p = does st sound stands in record { last = t; entries = p.0; done = p.1; fails = inl kept })

  served_then_fails : (requests : List Request) (head : List ℕ) (old new : Option (List ℕ)) (lacking : ℕ) → ServesAll s requests head old new lacking t → BreaksOut s requests left
  served_then_fails requests head old new lacking serves = λ st sound stands.
      let p : AreServed s st requests head old new lacking t = serves st sound stands in
      record { last = t; entries = p.entries; done = p.done; fails = inl kept }

  -- whatever the requests came to, the close of their session failed
  pub broken_at : (limits : Limits) (input : Option (List ℕ)) (head : List ℕ) (old new : Option (List ℕ)) (e : Stop) → ServesUntil limits s input head old new e t → IsBrokenOut limits s input left
  broken_at limits input head old new stop.Device p = record { requests = p.requests; asked = p.asked; breaks = breaks_out p.requests p.breaks }
  broken_at limits input head old new stop.Write p = record { requests = p.requests; asked = p.asked; breaks = fails_out p.requests p.does }
  broken_at limits input head old new (stop.Frame e) p = record {
    requests = p.requests;
    asked = whatever_behind limits input p.requests (GoesWrong limits e) p.asked;
    breaks = served_then_fails p.requests head old new p.lacking p.serves;
  }

  pub ended_broken : (limits : Limits) (input after : Option (List ℕ)) (head : List ℕ) (old new : Option (List ℕ)) (e : Ending) (calls lacking : ℕ)
      → IsServedToTheEnd limits s e input after head old new calls lacking t → IsBrokenOut limits s input left
  ended_broken limits input after head old new e calls lacking p = record {
    requests = p.requests;
    asked = whatever_behind limits input p.requests (Ends e after) p.asked;
    breaks = served_then_fails p.requests head old new lacking p.serves;
  }

  -- the same of a result
  pub any_broken : (limits : Limits) (input after : Option (List ℕ)) (head : List ℕ) (old new : Option (List ℕ)) (r : Result (Ending × Count) Stop)
      → IfOk r (λ n. IsServedToTheEnd limits s n.0 input after head old new n.1.calls n.1.memory t) → IfErr r (λ e. ServesUntil limits s input head old new e t) → IsBrokenOut limits s input left
  any_broken limits input after head old new (Ok n) serves until = ended_broken limits input after head old new n.0 n.1.calls n.1.memory serves
  any_broken limits input after head old new (Err e) serves until = broken_at limits input head old new e until

  module _ (closed : IsTrue t.volume.is_sound → left.bytes ≡ t.volume.image) (whole : StaysWhole s t) where
    serves_out : (requests : List Request) (head : List ℕ) (old new : Option (List ℕ)) (lacking : ℕ) → ServesAll s requests head old new lacking t → ServesOut s requests head old new lacking left
    serves_out requests head old new lacking serves =
        λ st sound stands. record { last = t; served = serves st sound stands; leaves = (sym (closed (rw whole.sound sound)), sym kept) }

    does_out : (requests : List Request) → DoesAll s requests t → DoesOut s requests left
    does_out requests does = λ st sound stands. (let p = does st sound stands in record { last = t; entries = p.0; done = p.1; leaves = (sym (closed (rw whole.sound sound)), sym kept) })

-- all requests were served
pub served_out : (limits : Limits) (s t : SessionState) (left : Stored) → left.committed ≡ t.volume.committed → (IsTrue t.volume.is_sound → left.bytes ≡ t.volume.image)
    → (e : Ending) (input after : Option (List ℕ)) (head : List ℕ) (old new : Option (List ℕ)) (calls lacking : ℕ)
    → StaysWhole s t → IsServedToTheEnd limits s e input after head old new calls lacking t → IsServedOut limits s e input after head old new calls lacking left
served_out limits s t left kept closed e input after head old new calls lacking whole p =
    record { requests = p.requests; asked = p.asked; count = p.count; serves = serves_out s t left kept closed whole p.requests head old new lacking p.serves }

-- requests were served until a stop
pub left_at : (limits : Limits) (s t : SessionState) (left : Stored) → left.committed ≡ t.volume.committed → (IsTrue t.volume.is_sound → left.bytes ≡ t.volume.image)
    → (input : Option (List ℕ)) (head : List ℕ) (old new : Option (List ℕ)) (e : Stop) → StopsAt s e t → ServesUntil limits s input head old new e t → LeavesAt limits s input head old new e left
left_at limits s t left kept closed input head old new stop.Device stops p = broken_at s t left kept limits input head old new stop.Device p
left_at limits s t left kept closed input head old new stop.Write whole p = record { requests = p.requests; asked = p.asked; does = does_out s t left kept closed whole p.requests p.does }
left_at limits s t left kept closed input head old new (stop.Frame e) whole p =
    record { requests = p.requests; asked = p.asked; lacking = p.lacking; serves = serves_out s t left kept closed whole p.requests head old new p.lacking p.serves }

-- a fact of Ok, where it is no Err
pub on_ok : {T E P : Type 0} (r : Result T E) → false ≡ is_err r → OnOk r P → P
on_ok (Ok x) is p = p
on_ok (Err e) is p = cc
