use Rattle.std.proofs.Common.{ℕ, IsTrue, List}
use Rattle.hd_bytes.specs.Ranges.{with_bytes}
use Rattle.hd_volume.specs.Volumes.{block_at}
use Rattle.hd_index.specs.Edits.{HasNewBytes}
use Rattle.hd_index.proofs.CallLemmas.{on-ok-map}
use Rattle.hd_index.proofs.EntryEdits.{join-bytes, link-edit}
use Rattle.hd_index.proofs.block_division.keep_lower.Goals as goal

pub returns-clause-kept : goal.returns-clause-kept
returns-clause-kept g c =
    let u = c.args.volume.now in
    let v = c.write_part.new.volume in
    let w = c.write_part-2.new.volume in
    let n : ℕ = c.args.n in
    let two : List ℕ = c.two_bytes.result in
    let four : List ℕ = c.four_bytes.result in
    on-ok-map c.write_part-2.result
    (λ (last : IsTrue v.is_sound → HasNewBytes v n (with_bytes (block_at v n) 4 two) w) (sound : IsTrue u.is_sound).
    let s1 : IsTrue v.is_sound = rw c.in_ok-write_part.ensures.call.sound sound in
    link-edit c.args.key_length u w n c.args.half c.args.count two four c.args.m (c.requires.block sound) (c.requires.count sound) c.requires.half c.requires.fits c.two_bytes.ensures.len c.two_bytes.ensures.value
    c.four_bytes.ensures.len c.four_bytes.ensures.value (join-bytes n 4 (with_bytes (block_at u n) 8 four) two (c.in_ok-write_part.ensures.written sound) (last s1)))
    c.write_part-2.ensures.written
