use Rattle.std.proofs.lemmas.Result.{on_ok_weaker}
use Rattle.hd_journal.proofs.Publishes.{slots-1, leaves-1, slots-2, leaves-2, slots-3, leaves-3, slots-4, leaves-4, slots-5, leaves-5, published-5}
use Rattle.hd_journal.proofs.committing.publish_first.Goals as goal

pub returns-in_err-append_gate-clause-slots : goal.returns-in_err-append_gate-clause-slots
returns-in_err-append_gate-clause-slots g c h =
    slots-1 c.args.head (g.D.Disk.state c.args.disk.now) (g.D.Disk.state c.append_gate.new.disk) (g.D.Disk.state c.append_gate.new.disk) (g.D.Disk.state c.append_gate.new.disk) (g.D.Disk.state c.append_gate.new.disk) (g.D.Disk.state c.append_gate.new.disk) c.args.zeros.now (c.requires.settled h) (c.requires.fits h)
    (c.append_gate.ensures.writes h)

pub returns-in_err-append_gate-clause-leaves : goal.returns-in_err-append_gate-clause-leaves
returns-in_err-append_gate-clause-leaves g c h =
    leaves-1 c.args.head (g.D.Disk.state c.args.disk.now) (g.D.Disk.state c.append_gate.new.disk) (g.D.Disk.state c.append_gate.new.disk) (g.D.Disk.state c.append_gate.new.disk) (g.D.Disk.state c.append_gate.new.disk) (g.D.Disk.state c.append_gate.new.disk) c.args.zeros.now (c.requires.settled h) (c.requires.fits h)
    (c.append_gate.ensures.writes h)

pub returns-in_err-write_log-clause-slots : goal.returns-in_err-write_log-clause-slots
returns-in_err-write_log-clause-slots g c h =
    slots-2 c.args.head (g.D.Disk.state c.args.disk.now) (g.D.Disk.state c.append_gate.new.disk) (g.D.Disk.state c.write_log.new.self) (g.D.Disk.state c.write_log.new.self) (g.D.Disk.state c.write_log.new.self) (g.D.Disk.state c.write_log.new.self) c.put_head.new.bytes (c.requires.settled h) (c.requires.fits h)
    (c.append_gate.ensures.writes h) (rw c.put_head.ensures.len at (c.write_log.ensures.writes h))

pub returns-in_err-write_log-clause-leaves : goal.returns-in_err-write_log-clause-leaves
returns-in_err-write_log-clause-leaves g c h =
    leaves-2 c.args.head (g.D.Disk.state c.args.disk.now) (g.D.Disk.state c.append_gate.new.disk) (g.D.Disk.state c.write_log.new.self) (g.D.Disk.state c.write_log.new.self) (g.D.Disk.state c.write_log.new.self) (g.D.Disk.state c.write_log.new.self) c.put_head.new.bytes (c.requires.settled h) (c.requires.fits h)
    (c.append_gate.ensures.writes h) (rw c.put_head.ensures.len at (c.write_log.ensures.writes h))

pub returns-in_err-sync_log-clause-slots : goal.returns-in_err-sync_log-clause-slots
returns-in_err-sync_log-clause-slots g c h =
    slots-3 c.args.head (g.D.Disk.state c.args.disk.now) (g.D.Disk.state c.append_gate.new.disk) (g.D.Disk.state c.write_log.new.self) (g.D.Disk.state c.sync_log.new.self) (g.D.Disk.state c.sync_log.new.self) (g.D.Disk.state c.sync_log.new.self) c.put_head.new.bytes (c.requires.settled h) (c.requires.fits h)
    (c.append_gate.ensures.writes h) (rw c.put_head.ensures.len at (c.write_log.ensures.writes h)) (c.sync_log.ensures.syncs h)

pub returns-in_err-sync_log-clause-leaves : goal.returns-in_err-sync_log-clause-leaves
returns-in_err-sync_log-clause-leaves g c h =
    leaves-3 c.args.head (g.D.Disk.state c.args.disk.now) (g.D.Disk.state c.append_gate.new.disk) (g.D.Disk.state c.write_log.new.self) (g.D.Disk.state c.sync_log.new.self) (g.D.Disk.state c.sync_log.new.self) (g.D.Disk.state c.sync_log.new.self) c.put_head.new.bytes (c.requires.settled h) (c.requires.fits h)
    (c.append_gate.ensures.writes h) (rw c.put_head.ensures.len at (c.write_log.ensures.writes h)) (c.sync_log.ensures.syncs h)

pub returns-in_err-write_log-2-clause-slots : goal.returns-in_err-write_log-2-clause-slots
returns-in_err-write_log-2-clause-slots g c h =
    slots-4 c.args.head (g.D.Disk.state c.args.disk.now) (g.D.Disk.state c.append_gate.new.disk) (g.D.Disk.state c.write_log.new.self) (g.D.Disk.state c.sync_log.new.self) (g.D.Disk.state c.write_log-2.new.self) (g.D.Disk.state c.write_log-2.new.self) c.put_head.new.bytes (c.requires.settled h) (c.requires.fits h)
    (c.append_gate.ensures.writes h) (rw c.put_head.ensures.len at (c.write_log.ensures.writes h)) (c.sync_log.ensures.syncs h) (c.in_ok-append_gate.ensures.gate h) (rw c.put_head.ensures.len at (c.in_ok-write_log.ensures.value h)) c.put_head.ensures.numbers (c.in_ok-sync_log.ensures.durable h) (c.write_log-2.ensures.writes h)

pub returns-in_err-write_log-2-clause-leaves : goal.returns-in_err-write_log-2-clause-leaves
returns-in_err-write_log-2-clause-leaves g c h =
    leaves-4 c.args.head (g.D.Disk.state c.args.disk.now) (g.D.Disk.state c.append_gate.new.disk) (g.D.Disk.state c.write_log.new.self) (g.D.Disk.state c.sync_log.new.self) (g.D.Disk.state c.write_log-2.new.self) (g.D.Disk.state c.write_log-2.new.self) c.put_head.new.bytes (c.requires.settled h) (c.requires.fits h)
    (c.append_gate.ensures.writes h) (rw c.put_head.ensures.len at (c.write_log.ensures.writes h)) (c.sync_log.ensures.syncs h) (c.in_ok-append_gate.ensures.gate h) (rw c.put_head.ensures.len at (c.in_ok-write_log.ensures.value h)) c.put_head.ensures.numbers (c.in_ok-sync_log.ensures.durable h) (c.write_log-2.ensures.writes h)

pub returns-clause-slots : goal.returns-clause-slots
returns-clause-slots g c h =
    slots-5 c.args.head (g.D.Disk.state c.args.disk.now) (g.D.Disk.state c.append_gate.new.disk) (g.D.Disk.state c.write_log.new.self) (g.D.Disk.state c.sync_log.new.self) (g.D.Disk.state c.write_log-2.new.self) (g.D.Disk.state c.sync_log-2.new.self) c.put_head.new.bytes (c.requires.settled h) (c.requires.fits h)
    (c.append_gate.ensures.writes h) (rw c.put_head.ensures.len at (c.write_log.ensures.writes h)) (c.sync_log.ensures.syncs h) (c.in_ok-append_gate.ensures.gate h) (rw c.put_head.ensures.len at (c.in_ok-write_log.ensures.value h)) c.put_head.ensures.numbers (c.in_ok-sync_log.ensures.durable h) (c.write_log-2.ensures.writes h) (c.sync_log-2.ensures.syncs h)

pub returns-clause-leaves : goal.returns-clause-leaves
returns-clause-leaves g c h =
    leaves-5 c.args.head (g.D.Disk.state c.args.disk.now) (g.D.Disk.state c.append_gate.new.disk) (g.D.Disk.state c.write_log.new.self) (g.D.Disk.state c.sync_log.new.self) (g.D.Disk.state c.write_log-2.new.self) (g.D.Disk.state c.sync_log-2.new.self) c.put_head.new.bytes (c.requires.settled h) (c.requires.fits h)
    (c.append_gate.ensures.writes h) (rw c.put_head.ensures.len at (c.write_log.ensures.writes h)) (c.sync_log.ensures.syncs h) (c.in_ok-append_gate.ensures.gate h) (rw c.put_head.ensures.len at (c.in_ok-write_log.ensures.value h)) c.put_head.ensures.numbers (c.in_ok-sync_log.ensures.durable h) (c.write_log-2.ensures.writes h) (c.sync_log-2.ensures.syncs h)

pub returns-clause-published : goal.returns-clause-published
returns-clause-published g c =
    on_ok_weaker c.sync_log-2.result
    (λ durable h.
    published-5 c.args.head (g.D.Disk.state c.args.disk.now) (g.D.Disk.state c.append_gate.new.disk) (g.D.Disk.state c.write_log.new.self) (g.D.Disk.state c.sync_log.new.self) (g.D.Disk.state c.write_log-2.new.self) (g.D.Disk.state c.sync_log-2.new.self) c.put_head.new.bytes (c.requires.settled h) (c.requires.fits h)
    (c.append_gate.ensures.writes h) (rw c.put_head.ensures.len at (c.write_log.ensures.writes h)) (c.sync_log.ensures.syncs h) (c.in_ok-append_gate.ensures.gate h) (rw c.put_head.ensures.len at (c.in_ok-write_log.ensures.value h)) c.put_head.ensures.numbers (c.in_ok-sync_log.ensures.durable h) (c.write_log-2.ensures.writes h) (c.sync_log-2.ensures.syncs h) (c.in_ok-write_log-2.ensures.value h) (durable h))
    c.sync_log-2.ensures.durable
