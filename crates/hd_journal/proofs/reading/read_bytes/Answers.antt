use Rattle.std.proofs.Common.{◌≡◌, ◌*◌, ℕ, length, refl, ap, ◌∙◌, rules}
use Rattle.std.proofs.lemmas.Result.{on_ok_weaker}
use Rattle.hd_bytes.specs.Ranges.{bytes_at}
use Rattle.hd_journal.proofs.ReadLemmas.{plain-read}
use Rattle.hd_journal.proofs.reading.read_bytes.Goals as goal

pub returns-then-have_none-clause-value : goal.returns-then-have_none-clause-value
returns-then-have_none-clause-value g c =
    on_ok_weaker c.read_volume.result
    (λ value h.
    let s = g.D.Disk.state c.args.disk.now in
    let head = c.args.head in
    let at : c.from.result * c.from-2.result ≡ c.args.n * head.size = rw (c.from.ensures, c.from-2.ensures) refl in
    plain-read s head c.args.places.now (c.requires.framed h) c.args.n (length c.args.buf.now) c.read_volume.new.buf (search rules) (λ m first last low. c.have_none.ensures c.if-have_none.true m first (search (rules, last)) low)
    (value h ∙ ap (λ (p : ℕ). bytes_at s.volume p (length c.args.buf.now)) at))
    c.read_volume.ensures.value
