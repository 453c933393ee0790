use Rattle.std.proofs.Common.{◌≡◌, List, ℕ, sym, ap, ◌∙◌, subst}
use Rattle.hd_journal.specs.Disk.{Leaves}
use Rattle.hd_journal.specs.declared.head.Head.{Head}
use Rattle.hd_journal.specs.Log.{image}
use Rattle.hd_journal.specs.States.{StandsForEither}
use Rattle.hd_journal.proofs.Slots.{fresh-image}
use Rattle.hd_journal.proofs.Held.{before-image}
use Rattle.hd_journal.proofs.publishing.publish.Goals as goal

pub returns-in-Collecting-clause-leaves : goal.returns-in-Collecting-clause-leaves
returns-in-Collecting-clause-leaves g c h =
    let s = g.D.Disk.state c.args.disk.now in
    let b = g.D.Disk.state c.publish_first.new.disk in
    let held = (rw c.in-Collecting.is at c.requires.holds) h in
    let whole : image c.args.last s.log s.volume ≡ s.volume = ap (λ (x : Head). image x s.log s.volume) held.1 ∙ fresh-image s c.args.last in
    subst (λ (v : List ℕ). Leaves (StandsForEither v (image c.args.head s.log s.volume)) s b) (sym whole) (c.publish_first.ensures.leaves h)

pub returns-in-Published-clause-leaves : goal.returns-in-Published-clause-leaves
returns-in-Published-clause-leaves g c h =
    let s = g.D.Disk.state c.args.disk.now in
    let b = g.D.Disk.state c.publish_next.new.disk in
    let held = (rw c.in-Published.is at c.requires.holds) h in
    subst (λ (v : List ℕ). Leaves (StandsForEither v (image c.args.head s.log s.volume)) s b) (sym (before-image c.args.last s held.0 held.1)) (c.publish_next.ensures.leaves h)
