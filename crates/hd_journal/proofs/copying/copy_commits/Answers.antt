use Rattle.std.proofs.Common.{ℕ, List, ap, ◌∙◌, subst}
use Rattle.hd_journal.specs.Disk.{Leaves}
use Rattle.hd_journal.specs.Log.{block_no, image}
use Rattle.hd_journal.specs.States.{IsShutBetween}
use Rattle.hd_journal.proofs.Moments.{followed, weakened, synced}
use Rattle.hd_journal.proofs.copying.copy_commits.Goals as goal

pub returns-clause-shut : goal.returns-clause-shut
returns-clause-shut g c h some i low own =
    let head = c.args.head in
    let a = g.D.Disk.state c.args.disk.now in
    let b = g.D.Disk.state c.sync_log.new.self in
    let e = g.D.Disk.state c.finish.new.disk in
    let s = c.sync_log.ensures.syncs h in
    let runs = c.finish.ensures.shut h some i low (ap (λ (l : List ℕ). block_no head.size l i) s.log ∙ own) in
    let rest = subst (λ (v : List ℕ). Leaves (IsShutBetween v (image head a.log v)) b e) s.volume (subst (λ (l : List ℕ). Leaves (IsShutBetween b.volume (image head l b.volume)) b e) s.log runs) in
    followed (IsShutBetween a.volume (image head a.log a.volume)) (weakened (synced s (g.met.D.Disk.counts_now c.args.disk.now)) (λ l v none. absurd none)) rest
