use Rattle.std.proofs.Common.{◌≡◌, ◌+◌, ◌-◌, ◌*◌, ℕ, IsTrue, List, take, length, subst, ap, ◌∙◌, arith}
use Rattle.hd_index.proofs.CallLemmas.{on-ok-map}
use Rattle.std.proofs.lemmas.List.{length-take-le, take-take}
use Rattle.hd_bytes.specs.Ranges.{bytes_at, with_bytes}
use Rattle.hd_volume.specs.Volumes.{block_at}
use Rattle.hd_index.specs.Edits.{HasNewBytes}
use Rattle.hd_index_blocks.proofs.EntryLemmas.{IsEntryBytes, three-parts, number-front}
use Rattle.hd_index.proofs.EntryEdits.{added-bytes, join-bytes, add-edit}
use Rattle.hd_index.proofs.edit.add_entry.Goals as goal

pub move_up-requires-clause-within : goal.move_up-requires-clause-within
move_up-requires-clause-within g c =
    let k : ℕ = length c.args.key.now in
    let i : ℕ = c.args.index in
    let n : ℕ = c.args.count in
    let total : (n + 1) * (k + 4) ≡ i * (k + 4) + (k + 4) + (n - i) * (k + 4) = ap (λ (x : ℕ). (x + 1) * (k + 4)) (let l = c.requires.index in let e : n ≡ i + (n - i) = omega arith in e) ∙ three-parts i (n - i) k in
    let f = c.requires.fits in
    let p = c.entry_place-place.ensures in
    omega arith

pub returns-clause-added : goal.returns-clause-added
returns-clause-added g c =
    let u = c.args.volume.now in
    let v = c.move_up.new.volume in
    let x = c.write_part.new.volume in
    let w = c.write_part-2.new.volume in
    let k : ℕ = length c.args.key.now in
    let i : ℕ = c.args.index in
    let n : ℕ = c.args.n in
    let b : List ℕ = block_at u n in
    let place : c.entry_place-place.result ≡ 12 + i * (k + 4) = c.entry_place-place.ensures in
    let entry : List ℕ = c.put_entry.new.entry in
    let xs : List ℕ = take (k + 4) entry in
    let two : List ℕ = c.two_bytes.result in
    let short = c.requires.short in
    let le : length entry ≡ 259 = c.put_entry.ensures.len in
    let lx : length xs ≡ k + 4 = length-take-le (k + 4) entry (omega arith) in
    let bytes : IsEntryBytes k xs (record { key = c.args.key.now; address = c.args.address }) =
    record { len = lx; key = take-take k (k + 4) entry (omega arith) ∙ c.put_entry.ensures.key; address = number-front 4 k (k + 4) entry (omega arith) (omega arith) ∙ c.put_entry.ensures.address } in
    on-ok-map c.write_part-2.result
    (λ (last : IsTrue x.is_sound → HasNewBytes x n (with_bytes (block_at x n) 4 two) w) (sound : IsTrue u.is_sound).
    let s1 : IsTrue v.is_sound = rw c.in_ok-move_up.ensures.call.sound sound in
    let s2 : IsTrue x.is_sound = rw c.in_ok-write_part.ensures.call.sound s1 in
    let M : ℕ → Type 0 = λ p. HasNewBytes u n (with_bytes b (p + (k + 4)) (bytes_at b p ((c.args.count - i) * (k + 4)))) v in
    let W : ℕ → Type 0 = λ p. HasNewBytes v n (with_bytes (block_at v n) p xs) x in
    let moved : M (12 + i * (k + 4)) = subst M place (c.in_ok-move_up.ensures.moved sound) in
    let written : W (12 + i * (k + 4)) = subst W place (c.in_ok-write_part.ensures.written s1) in
    let both = join-bytes n (12 + i * (k + 4)) (with_bytes b (12 + i * (k + 4) + (k + 4)) (bytes_at b (12 + i * (k + 4)) ((c.args.count - i) * (k + 4)))) xs moved written in
    add-edit k u w n i c.args.count xs two (record { key = c.args.key.now; address = c.args.address }) (c.requires.block sound) (c.requires.count sound) c.requires.index c.requires.room c.requires.fits bytes c.two_bytes.ensures.len c.two_bytes.ensures.value
    (added-bytes k u w n i c.args.count xs two (join-bytes n 4 (with_bytes (with_bytes b (12 + i * (k + 4) + (k + 4)) (bytes_at b (12 + i * (k + 4)) ((c.args.count - i) * (k + 4)))) (12 + i * (k + 4)) xs) two both (last s2))))
    c.write_part-2.ensures.written
