use Rattle.std.proofs.Common.{IsTrue, ℕ, List, Option, sym, ◌∙◌, subst}
use Rattle.std.specs.Io.KnownBytes.{prepend_known}
use Rattle.hd_dbd.specs.Types.{View}
use Rattle.hd_dbd.specs.Hierarchy.{Database}
use Rattle.hd_volume.specs.Volumes.{VolumeState}
use Rattle.hd_session.specs.Opening.{SessionState}
use Rattle.hd_serve.proofs.Refused.{fault_of_bytes, left_by_opening}
use Rattle.hd_serve.specs.declared.call.Limits.{Limits}
use Rattle.hd_serve.specs.declared.service.ServeFault.{ServeFault}
use Rattle.hd_deck.specs.Commits.{Stored, IsOpenedOn}
use Rattle.hd_serve.specs.Serves.{IsServeFaultOf, IsServedOut, LeavesAt}
use Rattle.hd_serve.proofs.Opened.{whole_service, fault_at}
use Rattle.hd_serve.proofs.service.serve_session.Goals as goal

pub returns-in-Err-open-clause-fault : goal.returns-in-Err-open-clause-fault
returns-in-Err-open-clause-fault g c =
    let store = c.in-Ok.ensures.store in (
      c.into_store.ensures.committed ∙ c.in-Err-open.ensures.read.call.committed ∙ store.2,
      λ sound.
          let d : Database = c.args.dbd.now in
          let v : VolumeState = c.in-Ok.volume in
          let loaded = c.in-Ok.ensures.image sound in
          let whole : IsTrue v.is_sound = rw store.0 sound in (
            fault_of_bytes d c.args.psb.now.pcbs (g.S.BlockStore.contents c.args.store) v loaded.0 (store.3 ∙ c.requires.size) store.4 c.in-Err-open.fault (c.in-Err-open.ensures.fault whole),
            λ other. c.into_store.ensures.contents ∙ left_by_opening v c.in-Err-open.volume c.in-Err-open.fault c.in-Err-open.ensures.read whole (loaded.1 ∙ sym loaded.0) other ∙ loaded.0,
          ),
    )

pub returns-in-Ok-serve_and_close-clause-served : goal.returns-in-Ok-serve_and_close-clause-served
returns-in-Ok-serve_and_close-clause-served g c =
    let d : Database = c.args.dbd.now in
    let pcbs : List View = c.args.psb.now.pcbs in
    let v : VolumeState = c.in-Ok.volume in
    let s : SessionState = c.in-Ok-open.session in
    let store : Stored = record { bytes = g.S.BlockStore.contents c.args.store; committed = g.S.BlockStore.committed c.args.store } in
    let input : Option (List ℕ) = prepend_known c.args.desk.now.buffer (g.I.Read.remaining c.args.input.now) in
    let after : Option (List ℕ) = prepend_known c.serve_and_close.new.desk.buffer (g.I.Read.remaining c.serve_and_close.new.input) in
    let old : Option (List ℕ) = g.W.Write.contents c.args.out.now in
    let new : Option (List ℕ) = g.W.Write.contents c.serve_and_close.new.out in
    let end = c.in-Ok-serve_and_close.end in
    let left : Stored = record { bytes = g.S.BlockStore.contents c.in-Ok-serve_and_close.end.store; committed = g.S.BlockStore.committed c.in-Ok-serve_and_close.end.store } in
    let given : IsTrue (g.S.BlockStore.is_sound c.args.store) → IsOpenedOn d pcbs store s = λ sound. (
    let loaded = c.in-Ok.ensures.image sound in
    let kept = c.in-Ok.ensures.store in
    let read = c.in-Ok-open.ensures.read in
    let whole : IsTrue v.is_sound = rw kept.0 sound in
    let then : IsTrue s.volume.is_sound = rw read.call.sound whole in
    record {
      loaded = v;
      image = loaded.0;
      size = kept.3 ∙ c.requires.size;
      sizes = kept.4;
      start = c.in-Ok-open.ensures.start;
      sound = then;
      now = read.image then ∙ loaded.0;
      committed = read.call.committed ∙ kept.2;
      over = c.in-Ok-open.ensures.stands whole;
    }
    ) in
    whole_service d pcbs (g.S.BlockStore.is_sound c.args.store) store s given input c.args.first.now old new left end.ending after end.calls end.memory
    (subst (λ (limits : Limits). IsServedOut limits s end.ending input after c.args.first.now old new end.calls end.memory left) c.requires.limits c.in-Ok-serve_and_close.ensures.serves)

pub returns-in-Err-serve_and_close-clause-fault : goal.returns-in-Err-serve_and_close-clause-fault
returns-in-Err-serve_and_close-clause-fault g c =
    let d : Database = c.args.dbd.now in
    let pcbs : List View = c.args.psb.now.pcbs in
    let v : VolumeState = c.in-Ok.volume in
    let s : SessionState = c.in-Ok-open.session in
    let store : Stored = record { bytes = g.S.BlockStore.contents c.args.store; committed = g.S.BlockStore.committed c.args.store } in
    let input : Option (List ℕ) = prepend_known c.args.desk.now.buffer (g.I.Read.remaining c.args.input.now) in
    let old : Option (List ℕ) = g.W.Write.contents c.args.out.now in
    let new : Option (List ℕ) = g.W.Write.contents c.serve_and_close.new.out in
    let left : Stored = record { bytes = g.S.BlockStore.contents c.in-Err-serve_and_close.store; committed = g.S.BlockStore.committed c.in-Err-serve_and_close.store } in
    let given : IsTrue (g.S.BlockStore.is_sound c.args.store) → IsOpenedOn d pcbs store s = λ sound. (
    let loaded = c.in-Ok.ensures.image sound in
    let kept = c.in-Ok.ensures.store in
    let read = c.in-Ok-open.ensures.read in
    let whole : IsTrue v.is_sound = rw kept.0 sound in
    let then : IsTrue s.volume.is_sound = rw read.call.sound whole in
    record {
      loaded = v;
      image = loaded.0;
      size = kept.3 ∙ c.requires.size;
      sizes = kept.4;
      start = c.in-Ok-open.ensures.start;
      sound = then;
      now = read.image then ∙ loaded.0;
      committed = read.call.committed ∙ kept.2;
      over = c.in-Ok-open.ensures.stands whole;
    }
    ) in
    subst (λ (fault : ServeFault). IsServeFaultOf d pcbs (g.S.BlockStore.is_sound c.args.store) store input c.args.first.now old new left fault) (sym c.fault_of.ensures)
    (fault_at d pcbs (g.S.BlockStore.is_sound c.args.store) store s given input c.args.first.now old new left c.in-Err-serve_and_close.stop
    (subst (λ (limits : Limits). LeavesAt limits s input c.args.first.now old new c.in-Err-serve_and_close.stop left) c.requires.limits c.in-Err-serve_and_close.ensures.leaves))
