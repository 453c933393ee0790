use Rattle.std.proofs.Common.{◌≡◌, ◌+◌, ◌-◌, ◌*◌, ℕ, IsTrue, List, subst, ap, ◌∙◌, arith}
use Rattle.hd_index.proofs.CallLemmas.{on-ok-map}
use Rattle.hd_bytes.specs.Ranges.{bytes_at, with_bytes}
use Rattle.hd_volume.specs.Volumes.{block_at}
use Rattle.hd_index.specs.Edits.{HasNewBytes}
use Rattle.hd_index_blocks.proofs.EntryLemmas.{three-parts}
use Rattle.hd_index.proofs.EntryEdits.{taken-bytes, join-bytes, take-edit}
use Rattle.hd_index.proofs.edit.remove_entry.Goals as goal

pub copy_down-requires-clause-to_within : goal.copy_down-requires-clause-to_within
copy_down-requires-clause-to_within g c =
    let k : ℕ = c.args.key_length in
    let i : ℕ = c.args.index in
    let n : ℕ = c.args.count in
    let total : n * (k + 4) ≡ i * (k + 4) + (k + 4) + (n - (i + 1)) * (k + 4) = ap (λ (x : ℕ). x * (k + 4)) (let l = c.requires.index in let e : n ≡ i + (n - (i + 1)) + 1 = omega arith in e) ∙ three-parts i (n - (i + 1)) k in
    let f = c.requires.fits in
    let p = c.entry_place-place.ensures in
    omega arith

pub returns-clause-taken : goal.returns-clause-taken
returns-clause-taken g c =
    let u = c.args.volume.now in
    let v = c.copy_down.new.volume in
    let w = c.write_part.new.volume in
    let k : ℕ = c.args.key_length in
    let i : ℕ = c.args.index in
    let n : ℕ = c.args.n in
    let b : List ℕ = block_at u n in
    let place : c.entry_place-place.result ≡ 12 + i * (k + 4) = c.entry_place-place.ensures in
    let two : List ℕ = c.two_bytes.result in
    on-ok-map c.write_part.result
    (λ (last : IsTrue v.is_sound → HasNewBytes v n (with_bytes (block_at v n) 4 two) w) (sound : IsTrue u.is_sound).
    let s1 : IsTrue v.is_sound = rw c.in_ok-copy_down.ensures.call.sound sound in
    let M : ℕ → Type 0 = λ p. HasNewBytes u n (with_bytes b p (bytes_at b (p + (k + 4)) ((c.args.count - (i + 1)) * (k + 4)))) v in
    let moved : M (12 + i * (k + 4)) = subst M place (c.in_ok-copy_down.ensures.copied sound) in
    take-edit k u w n i c.args.count two (c.requires.block sound) (c.requires.count sound) c.requires.index c.requires.fits c.two_bytes.ensures.len c.two_bytes.ensures.value
    (taken-bytes k u w n i c.args.count two (join-bytes n 4 (with_bytes b (12 + i * (k + 4)) (bytes_at b (12 + i * (k + 4) + (k + 4)) ((c.args.count - (i + 1)) * (k + 4)))) two moved (last s1))))
    c.write_part.ensures.written
