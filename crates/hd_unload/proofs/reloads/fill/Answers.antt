use Rattle.std.proofs.Common.{◌++◌, IsTrue, length, refl, ap, ◌∙◌}
use Rattle.std.proofs.lemmas.Result.{IfErr-weaker, IfOk-weaker}
use Rattle.hd_dbd.specs.Hierarchy.{Database}
use Rattle.hd_dbd.proofs.StoredSizes.{block_size-bounds}
use Rattle.hd_volume.specs.Volumes.{VolumeState}
use Rattle.hd_unload.specs.Streams.{head_bytes}
use Rattle.hd_unload.proofs.Reading.{fault-sound}
use Rattle.hd_unload.proofs.Finishing.{first-there, reloaded, if-ok-both, given-device, new-leaves, new-from}
use Rattle.hd_unload.proofs.reloads.fill.Goals as goal

pub load_records-requires-clause-new : goal.load_records-requires-clause-new
load_records-requires-clause-new g c now =
    let d : Database = c.args.dbd.now in
    let rest = c.set_spacing.ensures.rest in
    let sound : IsTrue c.args.volume.is_sound = rw (ap (λ (x : VolumeState). x.is_sound) rest) at now in
    let new = c.requires.new sound in (new.0, new-from d.name d.block_size new.0 c.args.volume c.set_spacing.new.self rest (λ _. new.1) now)

pub has_left-requires-clause-header : goal.has_left-requires-clause-header
has_left-requires-clause-header g c now =
    let d : Database = c.args.dbd.now in
    let o = c.in-Ok.ensures in
    let rest = c.set_spacing.ensures.rest in
    let middle : IsTrue c.set_spacing.new.self.is_sound = rw (← o.call.sound) now in
    let sound : IsTrue c.args.volume.is_sound = rw (ap (λ (x : VolumeState). x.is_sound) rest) at middle in
    let new = c.requires.new sound in
    let all = o.rows (head_bytes d ++ c.args.records.now) refl new.0 (new-from d.name d.block_size new.0 c.args.volume c.set_spacing.new.self rest (λ _. new.1)) in
    first-there d new.0 all.rows c.load_records.new.volume (all.load now)

pub has_left-requires-clause-space : goal.has_left-requires-clause-space
has_left-requires-clause-space g c =
    let d : Database = c.args.dbd.now in
    let rest = c.set_spacing.ensures.rest in
    c.in-Ok.ensures.call.space d.frspc
    (new-leaves d.block_size c.set_spacing.new.self d.frspc (ap (λ (x : VolumeState). x.size) rest ∙ c.requires.sizes.0) (block_size-bounds d.block_size d.frspc d.types c.types.ensures.fit).0
    (λ now. (let sound : IsTrue c.args.volume.is_sound = rw (ap (λ (x : VolumeState). x.is_sound) rest) at now in
    ap (λ (x : VolumeState). length x.image) rest ∙ (c.requires.new sound).1.one)))

pub finish-requires : goal.finish-requires
finish-requires g c = record {
  header = λ now.
      let d : Database = c.args.dbd.now in
      let o = c.in-Ok.ensures in
      let rest = c.set_spacing.ensures.rest in
      let middle : IsTrue c.set_spacing.new.self.is_sound = rw (← o.call.sound) now in
      let sound : IsTrue c.args.volume.is_sound = rw (ap (λ (x : VolumeState). x.is_sound) rest) at middle in
      let new = c.requires.new sound in
      let all = o.rows (head_bytes d ++ c.args.records.now) refl new.0 (new-from d.name d.block_size new.0 c.args.volume c.set_spacing.new.self rest (λ _. new.1)) in
      first-there d new.0 all.rows c.load_records.new.volume (all.load now);
}

pub returns-else-not-has_left-clause-records : goal.returns-else-not-has_left-clause-records
returns-else-not-has_left-clause-records g c =
    let d : Database = c.args.dbd.now in
    let o = c.in-Ok.ensures in
    let rest = c.set_spacing.ensures.rest in
    IfOk-weaker c.finish.result _ _
    (λ r is stream at largest new.
    (let all = o.rows stream at largest (new-from d.name d.block_size largest c.args.volume c.set_spacing.new.self rest new) in (all.rows, all.stream_of, is ∙ all.counted)))
    c.finish.ensures.segments

pub returns-else-not-has_left-clause-reloaded : goal.returns-else-not-has_left-clause-reloaded
returns-else-not-has_left-clause-reloaded g c =
    let d : Database = c.args.dbd.now in
    let o = c.in-Ok.ensures in
    let rest = c.set_spacing.ensures.rest in
    if-ok-both c.finish.result c.finish.ensures.image c.finish.ensures.segments
    (λ r image segments sound stream is largest new.
    (let middle : IsTrue c.set_spacing.new.self.is_sound = rw (← ap (λ (x : VolumeState). x.is_sound) rest) at sound in
    let now : IsTrue c.load_records.new.volume.is_sound = rw o.call.sound middle in
    let stored = image now in
    reloaded d stream largest r.segments c.in-Ok.segments r.blocks c.load_records.new.volume _
    (o.rows stream is largest (new-from d.name d.block_size largest c.args.volume c.set_spacing.new.self rest new)) now
    (o.call.size ∙ ap (λ (x : VolumeState). x.size) rest ∙ c.requires.sizes.0) (o.call.sizes ∙ ap (λ (x : VolumeState). x.sizes) rest ∙ c.requires.sizes.1)
    (c.has_left.ensures c.if-not-has_left.false now) stored.0 stored.1 segments))

pub returns-else-not-has_left-clause-given : goal.returns-else-not-has_left-clause-given
returns-else-not-has_left-clause-given g c =
    let o = c.in-Ok.ensures in
    let rest = c.set_spacing.ensures.rest in
    IfErr-weaker c.finish.result _ _
    (λ e h. given-device c.args.volume c.load_records.new.volume _ _ _ _ e (o.call.counts ∙ ap (λ (x : VolumeState). x.failures) rest) (o.call.size ∙ ap (λ (x : VolumeState). x.size) rest) h.0 h.1 h.2 h.3) c.finish.ensures.given

pub returns-in-Err-clause-fault : goal.returns-in-Err-clause-fault
returns-in-Err-clause-fault g c stream is largest new =
    let d : Database = c.args.dbd.now in
    let rest = c.set_spacing.ensures.rest in
    fault-sound d stream largest c.set_spacing.new.self.is_sound c.args.volume.is_sound c.in-Err.fault (ap (λ (x : VolumeState). x.is_sound) rest)
    (c.in-Err.ensures.fault stream is largest (new-from d.name d.block_size largest c.args.volume c.set_spacing.new.self rest new))
