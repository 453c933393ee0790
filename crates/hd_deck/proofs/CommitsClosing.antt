-- What is left when a session is closed after its requests.
use Rattle.std.proofs.Common.{◌≡◌, IsTrue, ℕ, List, [], Option, Result, Ok, Err, sym, subst, inl}
use Rattle.std.specs.Prelude.{IfOk, IfErr}
use Rattle.std.proofs.lemmas.List.{append-nil}
use Rattle.hd_stores.specs.Stores.{Committed, FailsCommit}
use Rattle.hd_calls.specs.Steps.{State}
use Rattle.hd_session.specs.Opening.{SessionState}
use Rattle.hd_session.specs.Turns.{StaysWhole}
use Rattle.hd_session.specs.Requests.{Request, AreBroken}
use Rattle.hd_deck.specs.declared.plays.Count.{Count}
use Rattle.hd_deck.specs.declared.plays.Stop.{Stop}
use Rattle.hd_deck.specs.declared.plays.Stop.TheVariants as stop
use Rattle.hd_deck.specs.Runs.{StopsAt}
use Rattle.hd_deck.specs.Commits.{Stored, AreBrokenOut, AreDoneUntil, AreRequestsPlayed, AreLeftAt, AreBrokenOutInPart, PlaysRequests, DoesUntil, PlaysRequestsOut, LeavesUntil}

module _ (s t : SessionState) (left : Stored) (kept : left.committed ≡ t.volume.committed) where
  broken_out : (st : State) (requests : List Request) → AreBroken s st requests t → AreBrokenOut s st requests left
  broken_out st requests p = record {
    last = p.last;
    entries = p.entries;
    done = p.done;
    fails = subst (λ (c : Committed). FailsCommit p.last.volume.is_sound p.last.volume.image p.last.volume.committed c) (sym kept) p.fails;
  }

  -- the close failed, whatever the requests came to
  broken_at : (st : State) (requests : List Request) (e : Stop) → AreDoneUntil s st requests e t → AreBrokenOutInPart s st requests left
  broken_at st requests stop.Device p = record { first = p.first; rest = p.rest; parts = p.parts; broken = broken_out st p.first p.broken }
  broken_at st requests stop.Write p =
      record { first = p.first; rest = p.rest; parts = p.parts; broken = record { last = t; entries = p.entries; done = p.done; fails = inl kept } }

  pub closes_broken : (requests : List Request) (e : Stop) → DoesUntil s requests e t → LeavesUntil s requests stop.Device left
  closes_broken requests e until = λ st sound stands. broken_at st requests e (until st sound stands)

  pub ended_broken : (requests : List Request) (number : ℕ) (old new : Option (List ℕ)) (lacking : ℕ) → PlaysRequests s requests number old new lacking t → LeavesUntil s requests stop.Device left
  ended_broken requests number old new lacking plays = λ st sound stands.
      let p : AreRequestsPlayed s st requests number old new lacking t = plays st sound stands in
      record { first = requests; rest = []; parts = sym (append-nil requests); broken = record { last = t; entries = p.entries; done = p.done; fails = inl kept } }

  module _ (closed : IsTrue t.volume.is_sound → left.bytes ≡ t.volume.image) (whole : StaysWhole s t) where
    -- all requests were played
    pub requests_out : (requests : List Request) (old new : Option (List ℕ)) (lacking : ℕ) → PlaysRequests s requests 1 old new lacking t → PlaysRequestsOut s requests old new lacking left
    requests_out requests old new lacking plays =
        λ st sound stands. record { last = t; played = plays st sound stands; leaves = (sym (closed (rw whole.sound sound)), sym kept) }

    written_out : (requests : List Request) → DoesUntil s requests stop.Write t → LeavesUntil s requests stop.Write left
    written_out requests until = λ st sound stands.
        let p = until st sound stands in
        record { first = p.first; rest = p.rest; parts = p.parts; done = record { last = t; entries = p.entries; done = p.done; leaves = (sym (closed (rw whole.sound sound)), sym kept) } }

-- requests were carried out until a stop
pub leaves_until : (s t : SessionState) (left : Stored) → left.committed ≡ t.volume.committed → (IsTrue t.volume.is_sound → left.bytes ≡ t.volume.image) → (requests : List Request) (e : Stop)
    → StopsAt s e t → DoesUntil s requests e t → LeavesUntil s requests e left
leaves_until s t left kept closed requests stop.Device stops until = closes_broken s t left kept requests stop.Device until
leaves_until s t left kept closed requests stop.Write whole until = written_out s t left kept closed whole requests until

-- the close failed, whatever came before
pub any_broken : (s t : SessionState) (left : Stored) → left.committed ≡ t.volume.committed → (requests : List Request) (old new : Option (List ℕ)) (r : Result Count Stop)
    → IfOk r (λ n. PlaysRequests s requests 1 old new n.memory t) → IfErr r (λ e. DoesUntil s requests e t) → LeavesUntil s requests stop.Device left
any_broken s t left kept requests old new (Ok n) plays until = ended_broken s t left kept requests 1 old new n.memory plays
any_broken s t left kept requests old new (Err e) plays until = closes_broken s t left kept requests e until
