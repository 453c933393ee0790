use Rattle.hd_commands.proofs.Commits.{crash_law}
use Rattle.hd_commands.proofs.law.law_crashes_leave_commits.Goals as goal

pub returns : goal.returns
returns g c = λ d. crash_law d (g.D.Disk.state c.args.disk.now)
