use Rattle.std.proofs.Common.{inr, ℕ, List, slice_index, ap, ◌∙◌}
use Rattle.hd_journal.specs.Log.{image}
use Rattle.hd_journal.specs.States.{StandsFor, IsShutBetween}
use Rattle.hd_journal.proofs.Moments.{weakened, followed}
use Rattle.hd_journal.proofs.Publishes.{spared-stands, shut-stands, spared-same, shut-same}
use Rattle.hd_journal.proofs.committing.finish.Goals as goal

pub returns-in_err-redo-clause-leaves : goal.returns-in_err-redo-clause-leaves
returns-in_err-redo-clause-leaves g c h =
    let s = g.D.Disk.state c.args.disk.now in
    weakened (c.redo.ensures.redoes h).leaves (spared-stands c.args.head s (c.requires.open h))

pub returns-in_err-redo-clause-same : goal.returns-in_err-redo-clause-same
returns-in_err-redo-clause-same g c h =
    let b = g.D.Disk.state c.redo.new.disk in
    spared-same c.args.head (g.D.Disk.state c.args.disk.now) (c.requires.open h) b.log b.volume ((c.redo.ensures.redoes h).spares b.log b.volume (g.met.D.Disk.seen_may_stay c.redo.new.disk))

pub returns-clause-leaves : goal.returns-clause-leaves
returns-clause-leaves g c h =
    let s = g.D.Disk.state c.args.disk.now in
    let b = g.D.Disk.state c.redo.new.disk in
    followed (StandsFor (image c.args.head s.log s.volume))
    (weakened (c.redo.ensures.redoes h).leaves (spared-stands c.args.head s (c.requires.open h)))
    (weakened (c.shut.ensures.leaves h) (shut-stands c.args.head s (c.requires.open h) b.log b.volume (c.redo.ensures.redoes h).log (c.in_ok-redo.ensures.done h)))

pub returns-clause-same : goal.returns-clause-same
returns-clause-same g c h =
    let s = g.D.Disk.state c.args.disk.now in
    let b = g.D.Disk.state c.redo.new.disk in
    let e = g.D.Disk.state c.shut.new.disk in
    shut-same c.args.head s (c.requires.open h) b.log b.volume (c.redo.ensures.redoes h).log (c.in_ok-redo.ensures.done h) e.log e.volume (c.shut.ensures.outcomes h e.log e.volume (g.met.D.Disk.seen_may_stay c.shut.new.disk))

pub returns-clause-shut : goal.returns-clause-shut
returns-clause-shut g c h some i low own =
    let s = g.D.Disk.state c.args.disk.now in
    let b = g.D.Disk.state c.redo.new.disk in
    followed (IsShutBetween s.volume (image c.args.head s.log s.volume)) (c.redo.ensures.shut h some i low own)
    (weakened (c.shut.ensures.leaves h) (λ l v p. inr (inr (λ k behind. ap (λ (u : List ℕ). slice_index u k) (p.1 ∙ c.in_ok-redo.ensures.done h)))))
