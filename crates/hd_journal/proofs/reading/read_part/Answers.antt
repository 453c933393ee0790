use Rattle.std.proofs.Common.{◌≡◌, ◌+◌, ◌-◌, ◌*◌, ◌<◌, ◌≤◌, ℕ, length, slice_index, min, ap, ◌∙◌, arith, rules}
use Rattle.hd_bytes.specs.Ranges.{bytes_at}
use Rattle.hd_journal.specs.Log.{frame_at, base_byte, image}
use Rattle.hd_journal.proofs.ReadLemmas.{front-read, part-byte}
use Rattle.hd_journal.proofs.reading.read_part.Goals as goal

pub returns-clause-part : goal.returns-clause-part
returns-clause-part g c h k from to low =
    let s = g.D.Disk.state c.args.disk.now in
    let head = c.args.head in
    let first : ℕ = c.args.i * head.size in
    let count : ℕ = c.min-count.result in
    let j : ℕ = k - first in
    let next : (c.args.i + 1) * head.size ≡ first + head.size = omega arith in
    let is_count : count ≡ min head.size (length c.args.buf.now - first) = search rules in
    let few : count ≤ head.size = omega (arith, is_count) in
    let fits : first + count ≤ length c.args.buf.now = omega (arith, is_count, c.requires.low) in
    let inner : j < count = omega (arith, is_count, next, from, to, low) in
    let block : ℕ = c.args.n + c.args.i in
    let at : block * head.size ≡ c.args.n * head.size + first = omega arith in
    let byte : block * head.size + j ≡ c.args.n * head.size + k = omega (arith, at, from) in
    let long : length c.read_front.new.buf ≡ count = search rules in
    let place = c.place_at-place.ensures in
    part-byte first count k c.args.buf.now c.read_front.new.buf fits long from (omega (arith, from, inner))
    ∙ front-read s head c.args.places.now (c.requires.framed h) block c.place_at-place.result c.read_front.new.buf count j place.there place.behind few inner
    (omega (arith, byte, low, c.requires.there)) (λ some. c.in_ok-read_front.ensures.frame some h ∙ ap (bytes_at s.log (frame_at head.size (c.place_at-place.result - 1) + 4)) (search rules))
    (λ none i u. c.in_ok-read_front.ensures.base none h i (search (rules, u)) ∙ ap (base_byte head.base s.volume) (search rules))
    ∙ ap (slice_index (image head s.log s.volume)) byte
