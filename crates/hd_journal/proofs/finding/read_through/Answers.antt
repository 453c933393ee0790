use Rattle.std.proofs.Common.{◌+◌, ◌-◌, ◌<◌, sym, ap, ◌∙◌, rules}
use Rattle.hd_journal.specs.Log.{through}
use Rattle.hd_journal.proofs.Commits.{through-stop, through-turn}
use Rattle.hd_journal.proofs.finding.read_through.Goals as goal

pub returns-in-None-clause-head : goal.returns-in-None-clause-head
returns-in-None-clause-head g c h =
    let log = (g.D.Disk.state c.args.disk.now).log in
    sym (c.loop.invariant.1 h ∙ through-stop (c.args.log_len - c.loop.counter) log c.loop.head (c.in_ok-next.ensures.none c.in-None.is h))

pub loop-preserved : goal.loop-preserved
loop-preserved g c =
    let found = (rw c.in-Some.is at c.in_ok-next.ensures.some) in (
      found.0 ∙ c.loop.invariant.0,
      λ h.
          let log = (g.D.Disk.state c.args.disk.now).log in
          let is = found.1 h in
          let low : c.loop.counter < c.args.log_len = search rules in
          c.loop.invariant.1 h ∙ through-turn c.args.log_len c.loop.counter log c.loop.head low is.0 ∙ ap (through (c.args.log_len - (c.loop.counter + 1)) log) (sym is.1),
    )
