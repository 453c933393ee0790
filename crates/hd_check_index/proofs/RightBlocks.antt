-- An index block whose form is right.
use Rattle.std.proofs.Common.{◌≡◌, inl, inr, ℕ, ◌+◌, ◌-◌, ◌<◌, ◌≤◌, length, Some, sym, subst, arith}
use Rattle.std.proofs.lemmas.Bool.{cases_lt}
use Rattle.std.proofs.lemmas.Nat.{div_below}
use Rattle.hd_bytes.specs.Numbers.{number_at}
use Rattle.hd_bytes.specs.Blocks.{HasBlock}
use Rattle.hd_bytes.proofs.BlockLemmas.{length-block}
use Rattle.hd_volume.specs.Volumes.{VolumeState, block_at}
use Rattle.hd_volume.specs.Indexes.{entry_room}
use Rattle.hd_index_blocks.specs.Fields.{CountFits}
use Rattle.hd_index_blocks.specs.IndexSets.{level_in}
use Rattle.hd_index_blocks.specs.Faultless.{AreFormsRight}
use Rattle.hd_index_blocks.proofs.Volumes.{level-kind}

-- What is read of an index block whose form is right.
pub record IsReadRight (k : ℕ) (v : VolumeState) (n : ℕ) : Type 0 where
  pub there : HasBlock v.size v.image n
  pub long : 12 ≤ length (block_at v n)
  pub fits : CountFits k (block_at v n)
  pub some : 0 < number_at 2 (block_at v n) 4

-- a block that has room for an entry has its first bytes
room-least : (k s : ℕ) → 0 < entry_room k s → 12 ≤ s
room-least k s some = elim (cases_lt s 12) [
  | inl short ↦ (let none = div_below (s - 12) (k + 4) 1 (omega arith) (omega arith) in absurd (omega arith))
  | inr long ↦ long
]

pub read-right : (k : ℕ) (v : VolumeState) (n l : ℕ) → AreFormsRight k v → level_in v n ≡ Some l → IsReadRight k v n
read-right k v n l f is =
    let form = f.blocks n l is in
    let there = (level-kind v n l is).0.there in
    let len : length (block_at v n) ≡ v.size = length-block v.size n v.image there in
    let some = form.some in
    let count = form.count in
    let room : 12 ≤ v.size = room-least k v.size (omega arith) in
    let C : ℕ → Type 0 = λ s. number_at 2 (block_at v n) 4 ≤ entry_room k s in
    record { there = there; long = omega arith; fits = subst C (sym len) count; some = some }
