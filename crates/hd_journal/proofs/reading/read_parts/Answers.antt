use Rattle.std.proofs.Common.{◌≡◌, ◌+◌, ◌*◌, ◌≤◌, ◌/◌, ◌%◌, ℕ, min, length, arith, rules}
use Rattle.std.proofs.lemmas.Grind.{div_ceil_times}
use Rattle.hd_journal.specs.Log.{image}
use Rattle.hd_journal.proofs.Bytes.{length-image}
use Rattle.hd_journal.proofs.ReadLemmas.{all-read}
use Rattle.hd_journal.proofs.reading.read_parts.Goals as goal

pub returns-clause-value : goal.returns-clause-value
returns-clause-value g c h =
    let s = g.D.Disk.state c.args.disk.now in
    let head = c.args.head in
    let len : ℕ = length c.args.buf.now in
    let enough = (div_ceil_times len head.size c.requires.some).0 in
    let done : c.loop-i.i ≡ len / head.size + min 1 (len % head.size) = search rules in
    let all : len ≤ c.loop-i.i * head.size = rw done enough in
    let il = length-image head s.log s.volume in
    all-read (image head s.log s.volume) c.loop-i.buf (c.args.n * head.size) len (omega (arith, il, c.requires.there)) c.loop-i.invariant.len
    (λ j low. c.loop-i.invariant.read h j (omega (arith, all, low)) low)
