use Rattle.std.proofs.Common.{inl, inr}
use Rattle.hd_journal.proofs.Held.{collecting-volume}
use Rattle.hd_journal.proofs.journal.Journal.settle.Goals as goal

pub returns-in-Collecting-clause-volume : goal.returns-in-Collecting-clause-volume
returns-in-Collecting-clause-volume g c h =
    let j = c.args.self.now in
    elim c.in-Collecting.is [
      | inl is ↦ collecting-volume j.stage j.last (g.D.Disk.state j.disk) is (c.requires.kept.holds c.if-self.false h)
      | inr is ↦ absurd (c.requires.kept.sure c.if-self.false is)
    ]
