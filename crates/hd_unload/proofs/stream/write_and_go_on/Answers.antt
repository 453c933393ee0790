use Rattle.std.proofs.Common.{ap, sym, subst, ◌∙◌}
use Rattle.std.specs.Io.KnownBytes.{Appends}
use Rattle.hd_volume.proofs.CallSteps.{reads-join}
use Rattle.hd_links.specs.Links.{Links, IsSegment, segment_at}
use Rattle.hd_image.specs.Records.{links_of}
use Rattle.hd_forest.specs.Walks.{AreSegments, IsAhead, tip, next_on}
use Rattle.hd_forest.proofs.Reading.{after-read, sound-before, links-kept, volume-kept}
use Rattle.hd_unload.specs.Streams.{record_bytes}
use Rattle.hd_unload.proofs.Writing.{tip-there}
use Rattle.hd_unload.proofs.stream.write_and_go_on.Goals as goal

pub write_record-requires-clause-there : goal.write_record-requires-clause-there
write_record-requires-clause-there g c = λ sound.
    let m : Links = links_of c.args.dbd.now.types c.args.volume.now in
    subst (IsSegment m) (sym c.tip_of.ensures) (tip-there m c.args.path.now (c.requires.there sound) c.requires.some)

pub go_on-requires-clause-of : goal.go_on-requires-clause-of
go_on-requires-clause-of g c = volume-kept c.args.dbd.now c.args.volume.now c.write_record.new.volume c.in_ok-ahead.ensures.read c.requires.of

pub go_on-requires-clause-holds : goal.go_on-requires-clause-holds
go_on-requires-clause-holds g c = λ now.
    let read = c.in_ok-ahead.ensures.read in
    let sound = sound-before c.args.volume.now c.write_record.new.volume read now in
    (after-read c.args.dbd.now c.args.volume.now c.write_record.new.volume read sound).forest (c.requires.holds sound)

pub go_on-requires-clause-there : goal.go_on-requires-clause-there
go_on-requires-clause-there g c =
    links-kept c.args.dbd.now (λ (m : Links). AreSegments m c.args.path.now) c.args.volume.now c.write_record.new.volume c.in_ok-ahead.ensures.read c.requires.there

pub go_on-requires-clause-ahead : goal.go_on-requires-clause-ahead
go_on-requires-clause-ahead g c =
    let d = c.args.dbd.now in
    links-kept d (λ (m : Links). IsAhead d.types m (tip c.args.path.now) c.in_ok-ahead.ahead) c.args.volume.now c.write_record.new.volume c.in_ok-ahead.ensures.read
    (λ sound. subst (λ a. IsAhead d.types (links_of d.types c.args.volume.now) a c.in_ok-ahead.ahead) c.tip_of.ensures (c.in_ok-ahead.ensures.ahead sound))

pub returns-in-Ok-clause-read : goal.returns-in-Ok-clause-read
returns-in-Ok-clause-read g c = reads-join _ c.in_ok-ahead.ensures.read c.in-Ok.ensures.read

pub returns-in-Ok-clause-record : goal.returns-in-Ok-clause-record
returns-in-Ok-clause-record g c = λ sound.
    let m : Links = links_of c.args.dbd.now.types c.args.volume.now in
    subst (λ a. Appends (g.W.Write.contents c.args.out.now) (g.W.Write.contents c.write_record.new.out) (record_bytes (segment_at m a))) c.tip_of.ensures (c.in_ok-ahead.ensures.record sound)

pub returns-in-Ok-clause-next : goal.returns-in-Ok-clause-next
returns-in-Ok-clause-next g c = λ sound.
    let d = c.args.dbd.now in
    let same = after-read d c.args.volume.now c.write_record.new.volume c.in_ok-ahead.ensures.read sound in
    c.in-Ok.ensures.value same.sound ∙ ap (λ (k : Links). next_on d.types k c.args.path.now) same.links
