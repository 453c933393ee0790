-- What a phase finds: the block of the least address at which a line of the fault table stands.
use Rattle.std.specs.Prelude.{◌≡◌, ℕ, ◌*◌, ◌≤◌, IsTrue, Option, Result, IfOk, IfNone, IfSome}
use Rattle.hd_dbd.specs.declared.answer.Refused.{Refused}
use Rattle.hd_volume.specs.Headers.{header_of}
use Rattle.hd_volume.specs.Volumes.{VolumeState}
use Rattle.hd_volume.specs.Indexes.{entry_room}
use Rattle.hd_index_blocks.specs.LevelFaults.{StandsNowhere}

-- The line stands at block n, with what else it names, and at no block before it.
pub record IsFirst (v : VolumeState) (stands : ℕ → ℕ → Type 0) (n other : ℕ) : Type 0 where
  pub here : stands (n * v.size) other
  pub least : (address o : ℕ) → stands address o → n * v.size ≤ address

-- What was found of a line that names nothing else: no block, and then it stands nowhere, or the first at which it stands.
abbrev pub IsFoundAt : VolumeState → (ℕ → ℕ → Type 0) → Option ℕ → Type 0
IsFoundAt v stands found = IfNone found (StandsNowhere stands) × IfSome found (λ n. IsFirst v stands n 0)

-- the fact holds of what a phase finds that is not refused, in a volume whose store is sound
abbrev pub WhereFound : {A : Type 0} → VolumeState → Result A Refused → (A → Type 0) → Type 0
WhereFound v result fact = IfOk result (λ found. IsTrue v.is_sound → fact found)

-- the fact holds if this is the header's height, and so many entries find room in a block
abbrev pub IfSized : ℕ → VolumeState → ℕ → ℕ → Type 0 → Type 0
IfSized key_length v height room fact = height ≡ (header_of v.image).height → room ≡ entry_room key_length v.size → fact
