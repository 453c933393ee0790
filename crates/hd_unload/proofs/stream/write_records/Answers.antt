use Rattle.std.proofs.Common.{◌≡◌, ℕ, List, [], length, IsTrue, Ok, ap, sym, subst, ◌∙◌, arith}
use Rattle.std.specs.Io.KnownBytes.{Appends}
use Rattle.hd_volume.proofs.CallSteps.{read-ok, reads-join}
use Rattle.hd_links.specs.Links.{Links, segment_at}
use Rattle.hd_image.specs.Records.{links_of}
use Rattle.hd_forest.specs.Walks.{AreSegments, tip, next_on}
use Rattle.hd_forest.proofs.Reading.{after-read, sound-before, links-kept, links-before, volume-kept}
use Rattle.hd_unload.specs.Streams.{record_bytes}
use Rattle.hd_unload.proofs.Writing.{next-there, written-none, written-more, written-ended, written-few}
use Rattle.hd_unload.proofs.stream.write_records.Goals as goal

pub next_row-requires-clause-of : goal.next_row-requires-clause-of
next_row-requires-clause-of g c = λ sound. (c.requires.holds sound).1.2.volume

pub next_row-requires-clause-holds : goal.next_row-requires-clause-holds
next_row-requires-clause-holds g c = λ sound. (let held = c.requires.holds sound in (held.1.0, held.1.2.records))

pub next_row-requires-clause-there : goal.next_row-requires-clause-there
next_row-requires-clause-there g c = λ sound. subst (AreSegments (links_of c.args.dbd.now.types c.args.volume.now)) (sym c.new-path.ensures) tt

pub loop-count-init : goal.loop-count-init
loop-count-init g c =
    let d = c.args.dbd.now in
    let v = c.args.volume.now in
    let first = λ (sound : IsTrue v.is_sound). c.in-Ok.ensures.value sound ∙ ap (next_on d.types (links_of d.types v)) c.new-path.ensures in
    record {
      read = read-ok 0 c.in-Ok.ensures.read;
      there = λ sound. (let held = c.requires.holds sound in next-there d v [] c.next_row.new.path held.1.2.volume (held.1.0, held.1.2.records) tt (first sound));
      written = λ sound f h. written-none d v f c.next_row.new.path (g.W.Write.contents c.args.out.now) (first sound);
    }

pub write_and_go_on-requires-clause-of : goal.write_and_go_on-requires-clause-of
write_and_go_on-requires-clause-of g c = volume-kept c.args.dbd.now c.args.volume.now c.loop-count.volume c.loop-count.invariant.read (λ sound. (c.requires.holds sound).1.2.volume)

pub write_and_go_on-requires-clause-holds : goal.write_and_go_on-requires-clause-holds
write_and_go_on-requires-clause-holds g c = λ now.
    let read = c.loop-count.invariant.read in
    let sound = sound-before c.args.volume.now c.loop-count.volume read now in
    let held = c.requires.holds sound in
    (after-read c.args.dbd.now c.args.volume.now c.loop-count.volume read sound).forest (held.1.0, held.1.2.records)

pub write_and_go_on-requires-clause-there : goal.write_and_go_on-requires-clause-there
write_and_go_on-requires-clause-there g c =
    links-kept c.args.dbd.now (λ (m : Links). AreSegments m c.loop-count.path) c.args.volume.now c.loop-count.volume c.loop-count.invariant.read c.loop-count.invariant.there

pub write_and_go_on-requires-clause-some : goal.write_and_go_on-requires-clause-some
write_and_go_on-requires-clause-some g c = (let same : c.tip_of.result ≡ tip c.loop-count.path = c.tip_of.ensures in let ne = c.if-tip_of-eq0.false in omega arith)

pub returns-then-tip_of-eq0-clause-records : goal.returns-then-tip_of-eq0-clause-records
returns-then-tip_of-eq0-clause-records g c = λ sound f h.
    written-ended c.args.dbd.now c.args.volume.now f h c.loop-count.count c.loop-count.path _ _ (c.loop-count.invariant.written sound f h) (sym c.tip_of.ensures ∙ c.if-tip_of-eq0.true)

pub loop-count-preserved : goal.loop-count-preserved
loop-count-preserved g c =
    let d = c.args.dbd.now in
    let u = c.args.volume.now in
    let i = c.loop-count.invariant in
    let path : List ℕ = c.loop-count.path in
    let new : List ℕ = c.write_and_go_on.new.path in
    let e = c.in_ok-write_and_go_on.ensures in
    let next = λ (sound : IsTrue u.is_sound). links-before d (λ (m : Links). new ≡ next_on d.types m path) u c.loop-count.volume i.read sound e.next in
    record {
      read = read-ok 0 (reads-join (Ok tt) i.read e.read);
      there = λ sound. (let held = c.requires.holds sound in next-there d u path new held.1.2.volume (held.1.0, held.1.2.records) (i.there sound) (next sound));
      written = λ sound f h. written-more d u f h c.loop-count.count path _ _ (i.written sound f h) new _
          (let same : c.tip_of.result ≡ tip path = c.tip_of.ensures in let ne = c.if-tip_of-eq0.false in omega arith)
          (links-before d (λ (m : Links). Appends (g.W.Write.contents c.loop-count.out) (g.W.Write.contents c.write_and_go_on.new.out) (record_bytes (segment_at m (tip path)))) u c.loop-count.volume i.read sound e.record)
          (next sound);
    }

pub returns-clause-records : goal.returns-clause-records
returns-clause-records g c = λ sound f h.
    let few = written-few c.args.dbd.now c.args.volume.now f h c.loop-count.count c.loop-count.path _ _ (c.loop-count.invariant.written sound f h) in
    let image : c.length.result ≡ length c.args.volume.now.image = c.length.ensures sound in
    let over = c.loop-count-test.false in
    let least = c.min-most.ensures in
    let limit = c.from.ensures in
    absurd (omega arith)
