use Rattle.std.proofs.Common.{sym, ◌∙◌}
use Rattle.std.proofs.lemmas.Result.{on_ok_weaker}
use Rattle.hd_journal.proofs.Moments.{synced, followed}
use Rattle.hd_journal.proofs.recovery.steady.Goals as goal

pub returns-in_err-sync_log-clause-leaves : goal.returns-in_err-sync_log-clause-leaves
returns-in_err-sync_log-clause-leaves g c h = synced (c.sync_log.ensures.syncs h) (g.met.D.Disk.counts_now c.args.disk.now)

pub returns-clause-leaves : goal.returns-clause-leaves
returns-clause-leaves g c h =
    followed (λ _ _. ⊥) (synced (c.sync_log.ensures.syncs h) (g.met.D.Disk.counts_now c.args.disk.now)) (synced (c.sync_volume.ensures.syncs h) (g.met.D.Disk.counts_now c.sync_log.new.self))

pub returns-clause-still : goal.returns-clause-still
returns-clause-still g c =
    on_ok_weaker c.sync_volume.result
    (λ durable h.
    let s = c.sync_volume.ensures.syncs h in
    record {
      volume = durable h;
      log = λ l v may. c.in_ok-sync_log.ensures.durable h l v (s.crash l v may) ∙ sym s.log;
    })
    c.sync_volume.ensures.durable
