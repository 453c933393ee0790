use Rattle.std.proofs.Common.{sym, ◌∙◌}
use Rattle.std.proofs.lemmas.Result.{on_ok_weaker}
use Rattle.hd_journal.proofs.Moments.{weakened}
use Rattle.hd_journal.proofs.Opens.{not-open}
use Rattle.hd_journal.proofs.Publishes.{opened-by, opened-recovers, idle-stands}
use Rattle.hd_journal.proofs.recovery.recover.Goals as goal

pub returns-in_default-shut-clause-leaves : goal.returns-in_default-shut-clause-leaves
returns-in_default-shut-clause-leaves g c h =
    let s = g.D.Disk.state c.args.disk.now in
    weakened (c.shut.ensures.leaves h) (idle-stands s.log s.volume ((rw c.in-Nothing.is at c.in-Ok.ensures.finds) h).0)

pub returns-in-Ok-shut-clause-leaves : goal.returns-in-Ok-shut-clause-leaves
returns-in-Ok-shut-clause-leaves g c h =
    let s = g.D.Disk.state c.args.disk.now in
    weakened (c.shut.ensures.leaves h) (idle-stands s.log s.volume ((rw c.in-Nothing.is at c.in-Ok.ensures.finds) h).0)

pub returns-in-Ok-shut-clause-image : goal.returns-in-Ok-shut-clause-image
returns-in-Ok-shut-clause-image g c h =
    let s = g.D.Disk.state c.args.disk.now in
    c.shut.ensures.volume h ∙ sym (not-open s.log s.volume ((rw c.in-Nothing.is at c.in-Ok.ensures.finds) h).0)

pub returns-else-head-number-clause-image : goal.returns-else-head-number-clause-image
returns-else-head-number-clause-image g c =
    on_ok_weaker c.redo_log.result
    (λ done h.
    let s = g.D.Disk.state c.args.disk.now in
    let counts = (rw c.in-Open.is at c.in-Ok.ensures.finds) h in
    done h ∙ sym (opened-recovers c.in-Open.head s (opened-by c.in-Open.head s counts.0 counts.1 (c.requires.still h))))
    c.redo_log.ensures.image

pub returns-else-head-number-clause-leaves : goal.returns-else-head-number-clause-leaves
returns-else-head-number-clause-leaves g c h =
    let s = g.D.Disk.state c.args.disk.now in
    let counts = (rw c.in-Open.is at c.in-Ok.ensures.finds) h in
    weakened (c.redo_log.ensures.leaves h) (λ l v p. p ∙ sym (opened-recovers c.in-Open.head s (opened-by c.in-Open.head s counts.0 counts.1 (c.requires.still h))))
