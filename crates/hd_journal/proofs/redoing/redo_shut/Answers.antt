use Rattle.std.proofs.lemmas.Result.{on_ok_weaker}
use Rattle.hd_journal.proofs.ShutLemmas.{after-shut, redoes-synced, after-synced, after-framed, redoes-whole, after-whole, redoes-last, after-last, done-last, sparing-shut, fits-shut, redoes-framed}
use Rattle.hd_journal.proofs.redoing.redo_shut.Goals as goal

pub returns-in_err-write_volume-clause-shut : goal.returns-in_err-write_volume-clause-shut
returns-in_err-write_volume-clause-shut g c h =
    after-shut c.args.head (g.D.Disk.state c.args.disk.now) (g.D.Disk.state c.write_volume.new.self) (g.D.Disk.state c.write_volume.new.self) (g.D.Disk.state c.write_volume.new.self) (g.D.Disk.state c.write_volume.new.self) (g.D.Disk.state c.write_volume.new.self) c.args.byte (c.requires.fits h) (c.requires.still h) (c.requires.first h) c.requires.len (c.write_volume.ensures.writes h)

pub returns-in_err-sync_volume-clause-redoes : goal.returns-in_err-sync_volume-clause-redoes
returns-in_err-sync_volume-clause-redoes g c h =
    redoes-synced c.args.head (g.D.Disk.state c.args.disk.now) (g.D.Disk.state c.write_volume.new.self) (g.D.Disk.state c.sync_volume.new.self) (g.D.Disk.state c.sync_volume.new.self) (g.D.Disk.state c.sync_volume.new.self) (g.D.Disk.state c.sync_volume.new.self) c.args.byte (c.requires.fits h) (c.requires.still h) (c.requires.first h) c.requires.len (c.write_volume.ensures.writes h) (c.sync_volume.ensures.syncs h)

pub returns-in_err-sync_volume-clause-shut : goal.returns-in_err-sync_volume-clause-shut
returns-in_err-sync_volume-clause-shut g c h =
    after-synced c.args.head (g.D.Disk.state c.args.disk.now) (g.D.Disk.state c.write_volume.new.self) (g.D.Disk.state c.sync_volume.new.self) (g.D.Disk.state c.sync_volume.new.self) (g.D.Disk.state c.sync_volume.new.self) (g.D.Disk.state c.sync_volume.new.self) c.args.byte (c.requires.fits h) (c.requires.still h) (c.requires.first h) c.requires.len (c.write_volume.ensures.writes h) (c.sync_volume.ensures.syncs h)

pub put_frames-requires-clause-fits : goal.put_frames-requires-clause-fits
put_frames-requires-clause-fits g c h =
    fits-shut c.args.head (g.D.Disk.state c.args.disk.now) (g.D.Disk.state c.write_volume.new.self) (g.D.Disk.state c.sync_volume.new.self) (g.D.Disk.state c.sync_volume.new.self) (g.D.Disk.state c.sync_volume.new.self) (g.D.Disk.state c.sync_volume.new.self) c.args.byte (c.requires.fits h) (c.requires.still h) (c.requires.first h) c.requires.len (c.write_volume.ensures.writes h) (c.sync_volume.ensures.syncs h) (c.in_ok-write_volume.ensures.value h) (c.in_ok-sync_volume.ensures.durable h) (g.met.D.Disk.seen_may_stay c.sync_volume.new.self)

pub put_frames-requires-clause-sparing : goal.put_frames-requires-clause-sparing
put_frames-requires-clause-sparing g c h =
    sparing-shut c.args.head (g.D.Disk.state c.args.disk.now) (g.D.Disk.state c.write_volume.new.self) (g.D.Disk.state c.sync_volume.new.self) (g.D.Disk.state c.sync_volume.new.self) (g.D.Disk.state c.sync_volume.new.self) (g.D.Disk.state c.sync_volume.new.self) c.args.byte (c.requires.fits h) (c.requires.still h) (c.requires.first h) c.requires.len (c.write_volume.ensures.writes h) (c.sync_volume.ensures.syncs h) (c.in_ok-write_volume.ensures.value h) (c.in_ok-sync_volume.ensures.durable h) (g.met.D.Disk.seen_may_stay c.sync_volume.new.self)

pub returns-in_err-put_frames-clause-redoes : goal.returns-in_err-put_frames-clause-redoes
returns-in_err-put_frames-clause-redoes g c h =
    redoes-framed c.args.head (g.D.Disk.state c.args.disk.now) (g.D.Disk.state c.write_volume.new.self) (g.D.Disk.state c.sync_volume.new.self) (g.D.Disk.state c.put_frames.new.disk) (g.D.Disk.state c.put_frames.new.disk) (g.D.Disk.state c.put_frames.new.disk) c.args.byte (c.requires.fits h) (c.requires.still h) (c.requires.first h) c.requires.len (c.write_volume.ensures.writes h) (c.sync_volume.ensures.syncs h) (c.in_ok-write_volume.ensures.value h) (c.in_ok-sync_volume.ensures.durable h) (g.met.D.Disk.seen_may_stay c.sync_volume.new.self) (c.put_frames.ensures.redoes h)

pub returns-in_err-put_frames-clause-shut : goal.returns-in_err-put_frames-clause-shut
returns-in_err-put_frames-clause-shut g c h =
    after-framed c.args.head (g.D.Disk.state c.args.disk.now) (g.D.Disk.state c.write_volume.new.self) (g.D.Disk.state c.sync_volume.new.self) (g.D.Disk.state c.put_frames.new.disk) (g.D.Disk.state c.put_frames.new.disk) (g.D.Disk.state c.put_frames.new.disk) c.args.byte (c.requires.fits h) (c.requires.still h) (c.requires.first h) c.requires.len (c.write_volume.ensures.writes h) (c.sync_volume.ensures.syncs h) (c.in_ok-write_volume.ensures.value h) (c.in_ok-sync_volume.ensures.durable h) (g.met.D.Disk.seen_may_stay c.sync_volume.new.self) (c.put_frames.ensures.redoes h)

pub returns-in_err-write_volume-2-clause-redoes : goal.returns-in_err-write_volume-2-clause-redoes
returns-in_err-write_volume-2-clause-redoes g c h =
    redoes-whole c.args.head (g.D.Disk.state c.args.disk.now) (g.D.Disk.state c.write_volume.new.self) (g.D.Disk.state c.sync_volume.new.self) (g.D.Disk.state c.put_frames.new.disk) (g.D.Disk.state c.write_volume-2.new.self) (g.D.Disk.state c.write_volume-2.new.self) c.args.byte (c.requires.fits h) (c.requires.still h) (c.requires.first h) c.requires.len (c.write_volume.ensures.writes h) (c.sync_volume.ensures.syncs h) (c.in_ok-write_volume.ensures.value h) (c.in_ok-sync_volume.ensures.durable h) (g.met.D.Disk.seen_may_stay c.sync_volume.new.self) (c.put_frames.ensures.redoes h) (c.in_ok-put_frames.ensures.still h) (c.in_ok-put_frames.ensures.long h) (c.in_ok-put_frames.ensures.done h) (c.write_volume-2.ensures.writes h)

pub returns-in_err-write_volume-2-clause-shut : goal.returns-in_err-write_volume-2-clause-shut
returns-in_err-write_volume-2-clause-shut g c h =
    after-whole c.args.head (g.D.Disk.state c.args.disk.now) (g.D.Disk.state c.write_volume.new.self) (g.D.Disk.state c.sync_volume.new.self) (g.D.Disk.state c.put_frames.new.disk) (g.D.Disk.state c.write_volume-2.new.self) (g.D.Disk.state c.write_volume-2.new.self) c.args.byte (c.requires.fits h) (c.requires.still h) (c.requires.first h) c.requires.len (c.write_volume.ensures.writes h) (c.sync_volume.ensures.syncs h) (c.in_ok-write_volume.ensures.value h) (c.in_ok-sync_volume.ensures.durable h) (g.met.D.Disk.seen_may_stay c.sync_volume.new.self) (c.put_frames.ensures.redoes h) (c.in_ok-put_frames.ensures.still h) (c.in_ok-put_frames.ensures.long h) (c.in_ok-put_frames.ensures.done h) (c.write_volume-2.ensures.writes h)

pub returns-clause-redoes : goal.returns-clause-redoes
returns-clause-redoes g c h =
    redoes-last c.args.head (g.D.Disk.state c.args.disk.now) (g.D.Disk.state c.write_volume.new.self) (g.D.Disk.state c.sync_volume.new.self) (g.D.Disk.state c.put_frames.new.disk) (g.D.Disk.state c.write_volume-2.new.self) (g.D.Disk.state c.sync_volume-2.new.self) c.args.byte (c.requires.fits h) (c.requires.still h) (c.requires.first h) c.requires.len (c.write_volume.ensures.writes h) (c.sync_volume.ensures.syncs h) (c.in_ok-write_volume.ensures.value h) (c.in_ok-sync_volume.ensures.durable h) (g.met.D.Disk.seen_may_stay c.sync_volume.new.self) (c.put_frames.ensures.redoes h) (c.in_ok-put_frames.ensures.still h) (c.in_ok-put_frames.ensures.long h) (c.in_ok-put_frames.ensures.done h) (c.write_volume-2.ensures.writes h) (c.sync_volume-2.ensures.syncs h)

pub returns-clause-shut : goal.returns-clause-shut
returns-clause-shut g c h =
    after-last c.args.head (g.D.Disk.state c.args.disk.now) (g.D.Disk.state c.write_volume.new.self) (g.D.Disk.state c.sync_volume.new.self) (g.D.Disk.state c.put_frames.new.disk) (g.D.Disk.state c.write_volume-2.new.self) (g.D.Disk.state c.sync_volume-2.new.self) c.args.byte (c.requires.fits h) (c.requires.still h) (c.requires.first h) c.requires.len (c.write_volume.ensures.writes h) (c.sync_volume.ensures.syncs h) (c.in_ok-write_volume.ensures.value h) (c.in_ok-sync_volume.ensures.durable h) (g.met.D.Disk.seen_may_stay c.sync_volume.new.self) (c.put_frames.ensures.redoes h) (c.in_ok-put_frames.ensures.still h) (c.in_ok-put_frames.ensures.long h) (c.in_ok-put_frames.ensures.done h) (c.write_volume-2.ensures.writes h) (c.sync_volume-2.ensures.syncs h)

pub returns-clause-done : goal.returns-clause-done
returns-clause-done g c =
    on_ok_weaker c.sync_volume-2.result (λ durable h. done-last c.args.head (g.D.Disk.state c.args.disk.now) (g.D.Disk.state c.write_volume.new.self) (g.D.Disk.state c.sync_volume.new.self) (g.D.Disk.state c.put_frames.new.disk) (g.D.Disk.state c.write_volume-2.new.self) (g.D.Disk.state c.sync_volume-2.new.self) c.args.byte (c.requires.fits h) (c.requires.still h) (c.requires.first h) c.requires.len (c.write_volume.ensures.writes h) (c.sync_volume.ensures.syncs h) (c.in_ok-write_volume.ensures.value h) (c.in_ok-sync_volume.ensures.durable h) (g.met.D.Disk.seen_may_stay c.sync_volume.new.self) (c.put_frames.ensures.redoes h) (c.in_ok-put_frames.ensures.still h) (c.in_ok-put_frames.ensures.long h) (c.in_ok-put_frames.ensures.done h) (c.write_volume-2.ensures.writes h) (c.sync_volume-2.ensures.syncs h) (c.in_ok-write_volume-2.ensures.value h)) c.sync_volume-2.ensures.durable
