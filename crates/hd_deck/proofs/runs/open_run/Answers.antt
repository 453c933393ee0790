use Rattle.std.proofs.Common.{IsTrue, sym, ◌∙◌}
use Rattle.hd_dbd.specs.Hierarchy.{Database}
use Rattle.hd_volume.specs.Volumes.{VolumeState}
use Rattle.hd_session.specs.Opening.{SessionState}
use Rattle.hd_deck.proofs.Opened.{fault_of_bytes, left_by_opening}
use Rattle.hd_deck.proofs.runs.open_run.Goals as goal

pub returns-in-Err-open-clause-fault : goal.returns-in-Err-open-clause-fault
returns-in-Err-open-clause-fault g c = λ sound turns.
    let d : Database = c.args.dbd.now in
    let v : VolumeState = c.in-Ok-load_keeping.volume in
    let loaded = c.in-Ok-load_keeping.ensures.image sound in
    let store = c.in-Ok-load_keeping.ensures.store in
    let whole : IsTrue v.is_sound = rw store.0 sound in (
      fault_of_bytes d c.args.psb.now.pcbs (g.S.BlockStore.contents c.args.store) v loaded.0 (store.3 ∙ c.requires.size) store.4 c.in-Err-open.fault (c.in-Err-open.ensures.fault whole),
      λ other. c.into_store.ensures.contents ∙ left_by_opening v c.in-Err-open.volume c.in-Err-open.fault c.in-Err-open.ensures.read whole (loaded.1 ∙ sym loaded.0) other ∙ loaded.0,
    )

pub returns-in-Ok-open-clause-opened : goal.returns-in-Ok-open-clause-opened
returns-in-Ok-open-clause-opened g c = λ sound.
    let v : VolumeState = c.in-Ok-load_keeping.volume in
    let s : SessionState = c.in-Ok-open.session in
    let loaded = c.in-Ok-load_keeping.ensures.image sound in
    let store = c.in-Ok-load_keeping.ensures.store in
    let read = c.in-Ok-open.ensures.read in
    let whole : IsTrue v.is_sound = rw store.0 sound in
    let then : IsTrue s.volume.is_sound = rw read.call.sound whole in
    record {
      loaded = v;
      image = loaded.0;
      size = store.3 ∙ c.requires.size;
      sizes = store.4;
      start = c.in-Ok-open.ensures.start;
      sound = then;
      now = read.image then ∙ loaded.0;
      committed = read.call.committed ∙ store.2;
      over = c.in-Ok-open.ensures.stands whole;
    }
