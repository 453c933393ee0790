use Rattle.std.proofs.Common.{◌≡◌, ◌≤◌, length, sym, ap, ◌∙◌, rules}
use Rattle.hd_journal.specs.declared.head.Head.{Head}
use Rattle.hd_journal.specs.Log.{first_head, through, head_of}
use Rattle.hd_journal.proofs.Heads.{head-read}
use Rattle.hd_journal.proofs.Commits.{head-is}
use Rattle.hd_journal.proofs.FindLemmas.{open-fits, not-foreign, size-closed}
use Rattle.hd_journal.proofs.finding.find_head.Goals as goal
use Rattle.hd_journal.proofs.finding.find_head.Goals.{then-first-lt-LEAST_SIZE-via-then-first-lt-LEAST_SIZE, then-first-lt-LEAST_SIZE-via-else-first-lt-LEAST_SIZE+then-first-gt32768}

pub returns-then-first-lt-LEAST_SIZE-clause-finds : goal.returns-then-first-lt-LEAST_SIZE-clause-finds
returns-then-first-lt-LEAST_SIZE-clause-finds g c h =
    let s = g.D.Disk.state c.args.disk.now in
    let m = c.requires.len h in
    let long : 51 ≤ length s.log = search rules in
    let r = c.read_head-first.ensures in
    let first = head-read s.log c.read_log.new.buf c.read_head-first.result (c.in_ok-read_log.ensures.value h) long r.size r.count r.base r.len r.device r.number in
    let size : c.read_head-first.result.size ≡ (first_head s.log).size = ap (λ (x : Head). x.size) first in (
      size-closed s.log s.volume (λ wide small.
          elim c.then-first-lt-LEAST_SIZE.branch [
            | then-first-lt-LEAST_SIZE-via-then-first-lt-LEAST_SIZE w ↦ search (rules, size, wide)
            | then-first-lt-LEAST_SIZE-via-else-first-lt-LEAST_SIZE+then-first-gt32768 w ↦ search (rules, size, small)
          ]),
      not-foreign s.log s.volume (c.requires.stamped h),
    )

pub returns-then-head_fits-clause-finds : goal.returns-then-head_fits-clause-finds
returns-then-head_fits-clause-finds g c h =
    let s = g.D.Disk.state c.args.disk.now in
    let m = c.requires.len h in
    let n = c.in_ok-volume_len.ensures.len h in
    let long : 51 ≤ length s.log = search rules in
    let r = c.read_head-first.ensures in
    let first = head-read s.log c.read_log.new.buf c.read_head-first.result (c.in_ok-read_log.ensures.value h) long r.size r.count r.base r.len r.device r.number in
    let same : c.in_ok-head.head ≡ head_of s.log =
    c.in_ok-head.ensures.head h ∙ ap (λ (k : _). through k s.log c.read_head-first.result) m ∙ ap (through (length s.log) s.log) first ∙ sym (head-is s.log) in
    (open-fits s.log s.volume c.in_ok-head.head _ _ (c.requires.stamped h) same m n ∙ sym c.head_fits.ensures ∙ c.if-head_fits.true, same)

pub returns-clause-finds : goal.returns-clause-finds
returns-clause-finds g c h =
    let s = g.D.Disk.state c.args.disk.now in
    let m = c.requires.len h in
    let n = c.in_ok-volume_len.ensures.len h in
    let long : 51 ≤ length s.log = search rules in
    let r = c.read_head-first.ensures in
    let first = head-read s.log c.read_log.new.buf c.read_head-first.result (c.in_ok-read_log.ensures.value h) long r.size r.count r.base r.len r.device r.number in
    let same : c.in_ok-head.head ≡ head_of s.log =
    c.in_ok-head.ensures.head h ∙ ap (λ (k : _). through k s.log c.read_head-first.result) m ∙ ap (through (length s.log) s.log) first ∙ sym (head-is s.log) in
    (open-fits s.log s.volume c.in_ok-head.head _ _ (c.requires.stamped h) same m n ∙ sym c.head_fits.ensures ∙ c.if-head_fits.false, not-foreign s.log s.volume (c.requires.stamped h))
