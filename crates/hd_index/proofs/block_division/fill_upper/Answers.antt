use Rattle.std.proofs.Common.{◌≡◌, ◌+◌, ◌-◌, ◌*◌, ℕ, IsTrue, List, subst, arith}
use Rattle.hd_bytes.specs.Ranges.{bytes_at, with_bytes}
use Rattle.hd_volume.specs.Volumes.{block_at}
use Rattle.hd_index.specs.Edits.{HasNewBytes}
use Rattle.hd_index.specs.EditedBlocks.{level_of}
use Rattle.hd_index.proofs.CallLemmas.{on-ok-map}
use Rattle.hd_index.proofs.EntryEdits.{join-bytes, fill-edit, bytes-of-none}
use Rattle.hd_index.proofs.block_division.fill_upper.Goals as goal

pub returns-clause-filled : goal.returns-clause-filled
returns-clause-filled g c =
    let u = c.args.volume.now in
    let v = c.copy_down.new.volume in
    let x = c.write_part.new.volume in
    let w = c.write_part-2.new.volume in
    let k : ℕ = c.args.key_length in
    let n : ℕ = c.args.n in
    let m : ℕ = c.args.m in
    let h : ℕ = c.args.half in
    let l : ℕ = (c.args.count - h) * (k + 4) in
    let b : List ℕ = block_at u m in
    let s : List ℕ = block_at u n in
    let place : c.entry_place.result ≡ 12 + h * (k + 4) = c.entry_place.ensures in
    let two : List ℕ = c.two_bytes.result in
    let four : List ℕ = c.four_bytes.result in
    on-ok-map c.write_part-2.result
    (λ (last : IsTrue x.is_sound → HasNewBytes x m (with_bytes (block_at x m) 8 four) w) (sound : IsTrue u.is_sound).
    let s1 : IsTrue v.is_sound = rw c.in_ok-copy_down.ensures.call.sound sound in
    let s2 : IsTrue x.is_sound = rw c.in_ok-write_part.ensures.call.sound s1 in
    let M : ℕ → Type 0 = λ p. HasNewBytes u m (with_bytes b 12 (bytes_at s p l)) v in
    let copied : M (12 + h * (k + 4)) = subst M place (c.in_ok-copy_down.ensures.copied sound) in
    let both = join-bytes m 4 (with_bytes b 12 (bytes_at s (12 + h * (k + 4)) l)) two copied (c.in_ok-write_part.ensures.written s1) in
    let all = join-bytes m 8 (with_bytes (with_bytes b 12 (bytes_at s (12 + h * (k + 4)) l)) 4 two) four both (last s2) in
    let empty = c.requires.empty sound in
    let least = c.requires.least in
    fill-edit k u w n m h c.args.count two four c.args.next 0 (c.requires.block sound) (c.requires.count sound) c.requires.half c.requires.fits empty.is.is.there
    (bytes-of-none k (level_of (block_at u m)) u m 0 empty (omega arith)) c.two_bytes.ensures.len c.two_bytes.ensures.value c.four_bytes.ensures.len c.four_bytes.ensures.value all)
    c.write_part-2.ensures.written
