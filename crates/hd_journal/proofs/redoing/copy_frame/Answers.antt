use Rattle.std.proofs.Common.{rules, ◌≡◌, ◌+◌, ◌*◌, ℕ, length, slice_index, refl, sym, ap, ◌∙◌, arith}
use Rattle.std.proofs.lemmas.Result.{on_ok_weaker}
use Rattle.hd_bytes.specs.Ranges.{bytes_at}
use Rattle.hd_journal.specs.Log.{frame_at, block_no, no_block, skipped, written_from}
use Rattle.hd_journal.proofs.Steps.{frame-number, frame-block, frame-there, copy-redoes, copy-frames, gate-frames}
use Rattle.hd_journal.proofs.redoing.copy_frame.Goals as goal

pub returns-then-number-clause-copied : goal.returns-then-number-clause-copied
returns-then-number-clause-copied g c h first frames =
    let s = g.D.Disk.state c.args.disk.now in
    let head = c.args.head in
    let place : ℕ = frame_at head.size c.args.i in
    let at : c.frame_place.result ≡ place = c.frame_place.ensures in
    let there = frame-there head s.log c.args.i c.requires.low (c.requires.frames h) in
    let is = c.in_ok-read_log.ensures.value h ∙ ap (λ (m : ℕ). bytes_at s.log m (length c.args.frame.now)) at ∙ ap (bytes_at s.log place) c.requires.frame in
    let number : c.read_u32-number.result ≡ block_no head.size s.log c.args.i = c.read_u32-number.ensures ∙ frame-number s.log c.read_log.new.buf place (head.size + 4) (omega arith) there is in
    let none : c.read_u32-number.result ≡ no_block = search rules in
    gate-frames head (written_from c.args.is_shut) s.log first s.volume c.args.i c.requires.some (c.requires.few h) (sym number ∙ none) frames

pub returns-clause-redoes : goal.returns-clause-redoes
returns-clause-redoes g c h first sparing =
    let s = g.D.Disk.state c.args.disk.now in
    let head = c.args.head in
    let place : ℕ = frame_at head.size c.args.i in
    let at : c.frame_place.result ≡ place = c.frame_place.ensures in
    let there = frame-there head s.log c.args.i c.requires.low (c.requires.frames h) in
    let is = c.in_ok-read_log.ensures.value h ∙ ap (λ (m : ℕ). bytes_at s.log m (length c.args.frame.now)) at ∙ ap (bytes_at s.log place) c.requires.frame in
    let number : c.read_u32-number.result ≡ block_no head.size s.log c.args.i = c.read_u32-number.ensures ∙ frame-number s.log c.read_log.new.buf place (head.size + 4) (omega arith) there is in
    let skip : c.skip_of-skip.result ≡ skipped c.args.is_shut (block_no head.size s.log c.args.i) = c.skip_of-skip.ensures ∙ ap (skipped c.args.is_shut) number in
    let to : c.from.result * c.from-2.result + c.skip_of-skip.result ≡ block_no head.size s.log c.args.i * head.size + skipped c.args.is_shut (block_no head.size s.log c.args.i) = rw (c.from.ensures, c.from-2.ensures, number, skip) refl in
    copy-redoes head c.args.is_shut first c.args.i _ _ c.requires.some c.requires.low sparing (c.write_volume.ensures.writes h) to (search (rules, skip))

pub returns-clause-copied : goal.returns-clause-copied
returns-clause-copied g c =
    on_ok_weaker c.write_volume.result
    (λ wrote h first frames.
    let s = g.D.Disk.state c.args.disk.now in
    let head = c.args.head in
    let place : ℕ = frame_at head.size c.args.i in
    let at : c.frame_place.result ≡ place = c.frame_place.ensures in
    let there = frame-there head s.log c.args.i c.requires.low (c.requires.frames h) in
    let is = c.in_ok-read_log.ensures.value h ∙ ap (λ (m : ℕ). bytes_at s.log m (length c.args.frame.now)) at ∙ ap (bytes_at s.log place) c.requires.frame in
    let number : c.read_u32-number.result ≡ block_no head.size s.log c.args.i = c.read_u32-number.ensures ∙ frame-number s.log c.read_log.new.buf place (head.size + 4) (omega arith) there is in
    let skip : c.skip_of-skip.result ≡ skipped c.args.is_shut (block_no head.size s.log c.args.i) = c.skip_of-skip.ensures ∙ ap (skipped c.args.is_shut) number in
    let to : c.from.result * c.from-2.result + c.skip_of-skip.result ≡ block_no head.size s.log c.args.i * head.size + skipped c.args.is_shut (block_no head.size s.log c.args.i) = rw (c.from.ensures, c.from-2.ensures, number, skip) refl in
    copy-frames head c.args.is_shut first c.args.i _ _ _ c.requires.some c.requires.low (c.write_volume.ensures.writes h) to (search (rules, skip))
    (wrote h) (search rules)
    (λ k low. frame-block s.log c.read_log.new.buf place head.size c.skip_of-skip.result k there is (search (rules, low)) ∙ ap (λ (m : ℕ). slice_index s.log (place + 4 + (m + k))) skip) frames)
    c.write_volume.ensures.value
