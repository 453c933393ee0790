-- Calls with commits among them, in a session over the volume of a store's bytes.
use Rattle.std.proofs.Common.{◌≡◌, ◌≢◌, IsTrue, ℕ, List, [], Bool, true, false, Option, inl, inr, subst, refl}
use Rattle.hd_dbd.specs.Types.{View}
use Rattle.hd_dbd.specs.Hierarchy.{Database}
use Rattle.hd_dbd.specs.Logs.{Entry}
use Rattle.hd_calls.specs.NoLostUpdate.{opened}
use Rattle.hd_stores.specs.Stores.{Committed, FailsCommit}
use Rattle.hd_links.specs.Steps.{rows_of}
use Rattle.hd_session.specs.Opening.{SessionState, session_at_start, IsOpenedOver}
use Rattle.hd_session.specs.Requests.{Request, calls_in, committed_by, Lasts, AreDone}
use Rattle.hd_deck.specs.declared.plays.Stop.{Stop}
use Rattle.hd_deck.specs.declared.plays.Stop.TheVariants as stop
use Rattle.hd_deck.specs.declared.runs.RunFault.{RunFault}
use Rattle.hd_deck.specs.declared.runs.RunFault.TheVariants as run
use Rattle.hd_session.specs.Turns.{Turn}
use Rattle.hd_deck.specs.Runs.{fault_of, IsRunFaultOf}
use Rattle.hd_deck.specs.Commits.{Stored, Leaves, AreDoneOut, AreBrokenOut, AreRequestsPlayedOut, AreDoneOutInPart, AreBrokenOutInPart, DoesOut, BreaksOut, PlaysRequestsOut, LeavesUntil, IsOpenedOn, IsDone, IsDoneUntilFailure, IsRunDone, IsDoneUntilFault}
use Rattle.hd_deck.proofs.Opened.{is_played}

-- what a commit that failed leaves, over a sound store
fails_soundly : (sound : Bool) (contents : List ℕ) (old new : Committed) → FailsCommit sound contents old new → FailsCommit true contents old new
fails_soundly true contents old new h = h
fails_soundly false contents old new (inl same) = inl same
fails_soundly false contents old new (inr tried) = cc

module _ (d : Database) (pcbs : List View) (store : Stored) (s : SessionState) (given : IsOpenedOn d pcbs store s) where
  -- the session stands at its start
  pub there : IsOpenedOver d pcbs given.loaded (session_at_start d pcbs s.volume)
  there = subst (λ (r : SessionState). IsOpenedOver d pcbs given.loaded r) given.start given.over

  -- requests that were carried out in it came to a log, and to what a crash leaves
  unfoldable pub is_done : (requests : List Request) (entries : List (Entry (List ℕ))) (t : SessionState) (left : Stored)
      → AreDone (session_at_start d pcbs s.volume) (opened pcbs (rows_of there.ready.placed)) requests entries t → Leaves t left → IsDone d pcbs store requests left
  is_done requests entries t left done leaves = record {
    log = record { entries = entries; last = t.volume.image };
    played = is_played d pcbs store.bytes given.loaded given.image given.size given.sizes s.volume there.ready (calls_in requests) entries t left.bytes given.now done.made leaves.0;
    lasts = subst (λ (c : Committed). Lasts (committed_by requests entries t.volume.image) c left.committed) given.committed
        (subst (λ (c : Committed). Lasts (committed_by requests entries t.volume.image) s.volume.committed c) leaves.1 done.lasts);
  }

  -- so did those of which no more is known
  pub carried_out : (requests : List Request) (left : Stored) → DoesOut s requests left → IsDone d pcbs store requests left
  carried_out requests left does =
      let p : AreDoneOut (session_at_start d pcbs s.volume) (opened pcbs (rows_of there.ready.placed)) requests left =
      (subst (λ (r : SessionState). DoesOut r requests left) given.start does) (opened pcbs (rows_of there.ready.placed)) given.sound there.represents in
      is_done requests p.entries p.last left p.done p.leaves

  -- and so did those before a failed access
  until_failure : (requests : List Request) (left : Stored) → AreBrokenOut (session_at_start d pcbs s.volume) (opened pcbs (rows_of there.ready.placed)) requests left
      → IsDoneUntilFailure d pcbs store requests left
  until_failure requests left p =
      let last : Stored = record { bytes = p.last.volume.image; committed = p.last.volume.committed } in
      record {
        last = last;
        done = is_done requests p.entries p.last last p.done (refl, refl);
        fails = fails_soundly p.last.volume.is_sound p.last.volume.image p.last.volume.committed left.committed p.fails;
      }

  pub failed_behind : (requests : List Request) (left : Stored) → BreaksOut s requests left → IsDoneUntilFailure d pcbs store requests left
  failed_behind requests left breaks =
      until_failure requests left ((subst (λ (r : SessionState). BreaksOut r requests left) given.start breaks) (opened pcbs (rows_of there.ready.placed)) given.sound there.represents)

  -- those that were played make a run
  pub run_done : (requests : List Request) (old new : Option (List ℕ)) (lacking : ℕ) (left : Stored) → PlaysRequestsOut s requests old new lacking left
      → IsRunDone d pcbs store requests old new lacking left
  unfolding is_done
  run_done requests old new lacking left plays =
      let p : AreRequestsPlayedOut (session_at_start d pcbs s.volume) (opened pcbs (rows_of there.ready.placed)) requests old new lacking left =
      (subst (λ (r : SessionState). PlaysRequestsOut r requests old new lacking left) given.start plays) (opened pcbs (rows_of there.ready.placed)) given.sound there.represents in
      record { done = is_done requests p.played.entries p.last left p.played.done p.leaves; printed = p.played.printed; memory = p.played.memory }

  -- and what a stop leaves is what its fault says
  pub done_until : (requests : List Request) (left : Stored) (e : Stop) → LeavesUntil s requests e left → IsDoneUntilFault d pcbs store requests left (fault_of e)
  done_until requests left stop.Device leaves =
      let p : AreBrokenOutInPart (session_at_start d pcbs s.volume) (opened pcbs (rows_of there.ready.placed)) requests left =
      (subst (λ (r : SessionState). LeavesUntil r requests stop.Device left) given.start leaves) (opened pcbs (rows_of there.ready.placed)) given.sound there.represents in
      inr (record { first = p.first; rest = p.rest; parts = p.parts; done = until_failure p.first left p.broken })
  done_until requests left stop.Write leaves =
      let p : AreDoneOutInPart (session_at_start d pcbs s.volume) (opened pcbs (rows_of there.ready.placed)) requests left =
      (subst (λ (r : SessionState). LeavesUntil r requests stop.Write left) given.start leaves) (opened pcbs (rows_of there.ready.placed)) given.sound there.represents in
      record { first = p.first; rest = p.rest; parts = p.parts; done = is_done p.first p.done.entries p.done.last left p.done.done p.done.leaves }

-- what refused an opening
pub until_opening : (d : Database) (pcbs : List View) (store : Stored) (requests : List Request) (left : Stored) (fault : RunFault)
    → ((turns : List Turn) → IsRunFaultOf d pcbs store.bytes turns left.bytes fault) → fault ≢ run.Write → left.committed ≡ store.committed → IsDoneUntilFault d pcbs store requests left fault
until_opening d pcbs store requests left (run.Open fault) is first same = (same, (is []).0, (is []).1)
until_opening d pcbs store requests left run.Memory is first same = (same, is [])
until_opening d pcbs store requests left run.Device is first same = inl same
until_opening d pcbs store requests left run.Write is first same = absurd (first refl)
