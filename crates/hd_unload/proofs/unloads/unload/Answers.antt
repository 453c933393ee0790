use Rattle.std.proofs.Common.{◌≡◌, IsTrue, Ok, Err, length, refl, sym, ap, ◌∙◌}
use Rattle.hd_dbd.specs.declared.answer.Refused.TheVariants.{Full}
use Rattle.hd_volume.proofs.CallSteps.{reads-join}
use Rattle.hd_dbd.specs.Forest.{sequence}
use Rattle.hd_links.specs.Placed.{forest_of}
use Rattle.hd_links.specs.Steps.{rows_of}
use Rattle.hd_forest.proofs.Reading.{sound-before}
use Rattle.hd_image.proofs.OneImage.{held-same}
use Rattle.hd_unload.proofs.unloads.unload.Goals as goal

pub write_stream-requires : goal.write_stream-requires
write_stream-requires g c = record {
  holds = λ now.
      let read = c.in-Ok.ensures.read in
      let p = c.in-Ok.ensures.passed (sound-before c.args.volume.now c.check.new.volume read now) in
      (rows_of p.placed, (p.placed, refl, held-same c.args.dbd.now c.args.volume.now c.check.new.volume (read.image now) read.call.size read.call.sizes p.placed p.holds));
}

pub returns-in-Ok-write_stream-clause-read : goal.returns-in-Ok-write_stream-clause-read
returns-in-Ok-write_stream-clause-read g c = reads-join (Ok c.in-Ok-write_stream.segments) c.in-Ok.ensures.read c.in-Ok-write_stream.ensures.read

pub returns-in-Ok-write_stream-clause-unloaded : goal.returns-in-Ok-write_stream-clause-unloaded
returns-in-Ok-write_stream-clause-unloaded g c = λ sound.
    let read = c.in-Ok.ensures.read in
    let now : IsTrue c.check.new.volume.is_sound = rw read.call.sound sound in
    let w = c.in-Ok-write_stream.ensures.written now in
    record {
      rows = w.rows;
      holds = (w.holds.0, w.holds.1, held-same c.args.dbd.now c.check.new.volume c.args.volume.now (sym (read.image now)) (sym read.call.size) (sym read.call.sizes) w.holds.0 w.holds.2);
      stream = w.stream;
      segments_are = w.segments_are;
    }

-- as many segments were written as the one forest has that the volume held
pub returns-in-Ok-2-clause-fault : goal.returns-in-Ok-2-clause-fault
returns-in-Ok-2-clause-fault g c = λ sound.
    let read = c.in-Ok.ensures.read in
    let now : IsTrue c.check.new.volume.is_sound = rw read.call.sound sound in
    let w = c.in-Ok-write_stream.ensures.written now in
    let p = c.in-Ok.ensures.passed sound in
    let held = held-same c.args.dbd.now c.check.new.volume c.args.volume.now (sym (read.image now)) (sym read.call.size) (sym read.call.sizes) w.holds.0 w.holds.2 in
    let one : forest_of w.holds.0 ≡ forest_of p.placed = p.one (forest_of w.holds.0) (w.holds.0, refl, held) in
    let rows : w.rows ≡ rows_of p.placed = sym w.holds.1 ∙ ap (λ f. sequence f) one in
    c.if-segments-passed.false (w.segments_are ∙ ap length rows ∙ sym p.segments)

pub returns-in-Ok-2-clause-read : goal.returns-in-Ok-2-clause-read
returns-in-Ok-2-clause-read g c =
    let last = c.in-Ok-write_stream.ensures.read in
    reads-join (Err Full) c.in-Ok.ensures.read (record {
      call = record { counts = last.call.counts; sound = last.call.sound; committed = last.call.committed; size = last.call.size; sizes = last.call.sizes; first = last.call.first; plain = last.call.plain; space = last.call.space };
      image = last.image;
      stands = last.stands;
      room = last.room;
    })

pub returns-in-Err-Write-clause-fault : goal.returns-in-Err-Write-clause-fault
returns-in-Err-Write-clause-fault g c = λ sound. (c.in-Ok.passed, c.in-Ok.ensures.passed sound)

pub returns-in-Err-Write-clause-read : goal.returns-in-Err-Write-clause-read
returns-in-Err-Write-clause-read g c =
    let last = rw c.in-Err-Write.field-0-is at c.in-Err-Write.ensures.read in
    reads-join (Err Full) c.in-Ok.ensures.read last
