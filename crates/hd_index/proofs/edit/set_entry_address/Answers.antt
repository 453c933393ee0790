use Rattle.std.proofs.Common.{◌≡◌, ◌+◌, ◌*◌, ℕ, IsTrue, List, subst}
use Rattle.hd_bytes.specs.Ranges.{with_bytes}
use Rattle.hd_volume.specs.Volumes.{block_at}
use Rattle.hd_index.specs.Edits.{HasNewBytes}
use Rattle.hd_index.proofs.CallLemmas.{on-ok-map}
use Rattle.hd_index.proofs.EntryEdits.{address-edit}
use Rattle.hd_index.proofs.edit.set_entry_address.Goals as goal

pub returns-clause-changed : goal.returns-clause-changed
returns-clause-changed g c =
    let u = c.args.volume.now in
    let w = c.write_part.new.volume in
    let k : ℕ = c.args.key_length in
    let n : ℕ = c.args.n in
    let four : List ℕ = c.four_bytes.result in
    let place : c.entry_place.result ≡ 12 + c.args.index * (k + 4) = c.entry_place.ensures in
    on-ok-map c.write_part.result
    (λ (last : IsTrue u.is_sound → HasNewBytes u n (with_bytes (block_at u n) (c.entry_place.result + k) four) w) (sound : IsTrue u.is_sound).
    let W : ℕ → Type 0 = λ p. HasNewBytes u n (with_bytes (block_at u n) (p + k) four) w in
    address-edit k u w n c.args.index c.args.count four c.args.address (c.requires.block sound) (c.requires.count sound) c.requires.index c.requires.fits c.four_bytes.ensures.len c.four_bytes.ensures.value
    (subst W place (last sound)))
    c.write_part.ensures.written
