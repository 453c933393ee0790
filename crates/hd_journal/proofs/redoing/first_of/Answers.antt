use Rattle.std.proofs.Common.{◌≡◌, ◌+◌, ◌≤◌, ℕ, length, get_or, ap, ◌∙◌, arith, rules}
use Rattle.hd_bytes.specs.Ranges.{bytes_at}
use Rattle.hd_bytes.proofs.BlockLemmas.{byte-at}
use Rattle.hd_journal.specs.Log.{frame_at, block_no}
use Rattle.hd_journal.proofs.Steps.{frame-number, frame-there}
use Rattle.hd_journal.proofs.redoing.first_of.Goals as goal

pub returns-then-read_u32-ne0-clause-other : goal.returns-then-read_u32-ne0-clause-other
returns-then-read_u32-ne0-clause-other g c none h zeroth =
    let s = g.D.Disk.state c.args.disk.now in
    let place : ℕ = frame_at c.args.head.size c.args.i in
    let there = frame-there c.args.head s.log c.args.i c.requires.low (c.requires.frames h) in
    let is = c.in_ok-read_log.ensures.value h ∙ ap (λ (m : ℕ). bytes_at s.log m 5) c.frame_place.ensures in
    let number : c.read_u32.result ≡ block_no c.args.head.size s.log c.args.i = c.read_u32.ensures ∙ frame-number s.log c.read_log.new.buf place 5 (omega arith) (omega (arith, there, c.requires.some)) is in
    search (rules, number, zeroth)

pub returns-clause-own : goal.returns-clause-own
returns-clause-own g c h =
    let s = g.D.Disk.state c.args.disk.now in
    let place : ℕ = frame_at c.args.head.size c.args.i in
    let there = frame-there c.args.head s.log c.args.i c.requires.low (c.requires.frames h) in
    let is = c.in_ok-read_log.ensures.value h ∙ ap (λ (m : ℕ). bytes_at s.log m 5) c.frame_place.ensures in
    let fits : place + 5 ≤ length s.log = omega (arith, there, c.requires.some) in
    let number : c.read_u32.result ≡ block_no c.args.head.size s.log c.args.i = c.read_u32.ensures ∙ frame-number s.log c.read_log.new.buf place 5 (omega arith) fits is in
    (search (rules, number), ap (λ (xs : _). get_or xs 4 0) is ∙ byte-at s.log place 5 4 fits (omega arith))
