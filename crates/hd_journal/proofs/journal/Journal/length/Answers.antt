use Rattle.std.proofs.Common.{sym}
use Rattle.hd_journal.proofs.Bytes.{length-image}
use Rattle.hd_journal.proofs.journal.Journal.length.Goals as goal

pub returns : goal.returns
returns g c = let s = g.D.Disk.state c.args.self.now.disk in sym (length-image c.args.self.now.head s.log s.volume)
