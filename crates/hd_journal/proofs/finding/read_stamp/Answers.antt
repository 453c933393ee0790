use Rattle.std.proofs.Common.{◌≤◌, length, ◌∙◌, rules}
use Rattle.hd_journal.proofs.Heads.{gate-read, mark-read, version-read}
use Rattle.hd_journal.proofs.FindLemmas.{stamped}
use Rattle.hd_journal.proofs.finding.read_stamp.Goals as goal

pub returns : goal.returns
returns g c h =
    let s = g.D.Disk.state c.args.disk.now in
    let m = c.requires h in
    let long : 11 ≤ length s.log = search rules in
    let is = c.in_ok-read_log.ensures.value h in
    let e = c.stamp_of.ensures in
    stamped c.stamp_of.result s.log s.volume _ _ _ long (gate-read s.log c.read_log.new.buf is long) (c.read_u64.ensures ∙ mark-read s.log c.read_log.new.buf is long)
    (c.read_u16.ensures ∙ version-read s.log c.read_log.new.buf is long) e.current e.foreign e.absent
