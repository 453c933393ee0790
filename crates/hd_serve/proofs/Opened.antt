-- Serving over the volume of a store's bytes.
use Rattle.std.proofs.Common.{IsTrue, ℕ, List, Bool, Option, inr, subst}
use Rattle.hd_dbd.specs.Types.{View}
use Rattle.hd_dbd.specs.Hierarchy.{Database}
use Rattle.hd_calls.specs.NoLostUpdate.{opened}
use Rattle.hd_links.specs.Steps.{rows_of}
use Rattle.hd_session.specs.Opening.{SessionState, session_at_start}
use Rattle.hd_serve.specs.declared.desk.Ending.{Ending}
use Rattle.hd_serve.specs.declared.desk.Stop.{Stop}
use Rattle.hd_serve.specs.declared.desk.Stop.TheVariants as stop
use Rattle.hd_session.specs.Requests.{Request}
use Rattle.hd_deck.specs.Commits.{Stored, IsOpenedOn}
use Rattle.hd_serve.specs.Serves.{limits_of, AreServedOut, ServesOut, IsServedOut, LeavesAt, IsAnswered, IsWholeService, IsServeFaultOf, fault_of}
use Rattle.hd_deck.proofs.Opened.{is_played}
use Rattle.hd_deck.proofs.CommitsOpened.{there, is_done, carried_out, failed_behind}

module _ (d : Database) (pcbs : List View) (store : Stored) (s : SessionState) (given : IsOpenedOn d pcbs store s) where
  -- those that were served were answered
  pub answered : (requests : List Request) (first : List ℕ) (old new : Option (List ℕ)) (lacking : ℕ) (left : Stored) → ServesOut s requests first old new lacking left
      → IsAnswered d pcbs store requests first old new lacking left
  unfolding is_done is_played
  answered requests first old new lacking left serves =
      let over = there d pcbs store s given in
      let p : AreServedOut (session_at_start d pcbs s.volume) (opened pcbs (rows_of over.ready.placed)) requests first old new lacking left =
      (subst (λ (r : SessionState). ServesOut r requests first old new lacking left) given.start serves) (opened pcbs (rows_of over.ready.placed)) given.sound over.represents in
      record { done = is_done d pcbs store s given requests p.served.entries p.last left p.served.done p.leaves; written = p.served.written; memory = p.served.memory }

module _ (d : Database) (pcbs : List View) (sound : Bool) (store : Stored) (s : SessionState) (given : IsTrue sound → IsOpenedOn d pcbs store s) (input : Option (List ℕ)) (first : List ℕ) (old new : Option (List ℕ)) (left : Stored) where
  -- serving to the end of the session
  pub whole_service : (e : Ending) (after : Option (List ℕ)) (calls lacking : ℕ) → IsServedOut (limits_of d pcbs) s e input after first old new calls lacking left
      → IsWholeService d pcbs sound store e input after first old new calls lacking left
  whole_service e after calls lacking p = record {
    requests = p.requests;
    asked = p.asked;
    count = p.count;
    answered = λ is. answered d pcbs store s (given is) p.requests first old new lacking left p.serves;
  }

  -- serving until a stop
  pub fault_at : (e : Stop) → LeavesAt (limits_of d pcbs) s input first old new e left → IsServeFaultOf d pcbs sound store input first old new left (fault_of e)
  fault_at stop.Device p = inr (record { requests = p.requests; asked = p.asked; done = λ is. failed_behind d pcbs store s (given is) p.requests left p.breaks })
  fault_at stop.Write p = record { requests = p.requests; asked = p.asked; done = λ is. carried_out d pcbs store s (given is) p.requests left p.does }
  fault_at (stop.Frame e) p = record {
    requests = p.requests;
    asked = p.asked;
    lacking = p.lacking;
    answered = λ is. answered d pcbs store s (given is) p.requests first old new p.lacking left p.serves;
  }
