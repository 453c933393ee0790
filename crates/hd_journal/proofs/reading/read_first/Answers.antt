use Rattle.std.proofs.Common.{◌≡◌, ◌+◌, ◌*◌, ◌≤◌, ◌-◌, length, get_or, slice_index, ap, ◌∙◌, arith, rules}
use Rattle.hd_bytes.specs.Ranges.{bytes_at}
use Rattle.hd_bytes.proofs.BlockLemmas.{byte-at}
use Rattle.hd_journal.specs.Log.{image}
use Rattle.hd_journal.proofs.Bytes.{length-image}
use Rattle.hd_journal.proofs.ReadLemmas.{behind-number}
use Rattle.hd_journal.proofs.reading.read_first.Goals as goal

pub returns-clause-block : goal.returns-clause-block
returns-clause-block g c h j low =
    let s = g.D.Disk.state c.args.disk.now in
    let head = c.args.head in
    let whole = image head s.log s.volume in
    let il = length-image head s.log s.volume in
    let size : length c.args.frame.now - 4 ≡ head.size = omega (arith, c.requires.frame) in
    let fits : head.size ≤ head.len = search rules in
    let long : length c.read_bytes.new.buf ≡ length c.args.frame.now - 4 = search rules in
    let read : c.read_bytes.new.buf ≡ bytes_at whole (0 * head.size) head.size = c.in_ok-read_bytes.ensures.value h ∙ ap (bytes_at whole (0 * head.size)) (search rules) in
    c.write_u32.ensures.changes.above (4 + j) (omega arith)
    ∙ behind-number c.args.frame.now c.read_bytes.new.buf j long (omega (arith, size, low, c.requires.frame))
    ∙ ap (λ (xs : _). get_or xs j 0) read ∙ byte-at whole (0 * head.size) head.size j (omega (arith, il, fits)) low
    ∙ ap (slice_index whole) (let e : 0 * head.size + j ≡ j = omega arith in e)
