use Rattle.hd_journal.proofs.Bytes.{image-all}
use Rattle.hd_journal.proofs.redoing.redo.Goals as goal

pub returns-in_ok-put_frames-in_default-clause-done : goal.returns-in_ok-put_frames-in_default-clause-done
returns-in_ok-put_frames-in_default-clause-done g c h =
    let s = g.D.Disk.state c.args.disk.now in
    image-all c.args.head s.log s.volume (g.D.Disk.state c.put_frames.new.disk).volume (c.in_ok-put_frames-in_default.ensures.long h) (c.in_ok-put_frames-in_default.ensures.done h)
