-- What a fuse over a store is, and what an access makes of it.
use Rattle.std.specs.Prelude.{◌≡◌, ℕ, ◌+◌, ◌-◌, ◌*◌, ◌≤◌, ◌^◌, Bool, true, false, not, ◌&&◌, ◌||◌, ◌==◌, cond, min, Result, Err, IsTrue, List, length}
use Rattle.hd_dbd.specs.declared.answer.Refused.{Refused}
use Rattle.hd_dbd.specs.declared.answer.Refused.TheVariants.{Device}
use Rattle.hd_stores.specs.Stores.{CountsDevice, StaysSound}
use Rattle.hd_bytes.specs.Blocks.{HasBlock, block_of, with_block}
use Rattle.hd_bytes.specs.Ranges.{bytes_at}

-- the store below, the accesses still to pass, whether one has failed, and the accesses so far
pub record Fused (S : Type 0) : Type 0 where
  pub inner : S
  pub passes : ℕ
  pub is_blown : Bool
  pub accesses : ℕ

module _ {S : Type 0} where
  -- the next access fails
  abbrev pub fails_next : Fused S → Bool
  fails_next fuse = fuse.passes == 0 && not fuse.is_blown

  -- how many accesses the fuse has failed itself
  abbrev pub failed : Fused S → ℕ
  failed fuse = cond fuse.is_blown 1 0

  -- the fuse after an access that left this store below
  abbrev pub after_access : Fused S → S → Fused S
  after_access fuse inner = record {
    inner = inner;
    passes = fuse.passes - 1;
    is_blown = fuse.is_blown || fuse.passes == 0;
    accesses = min (fuse.accesses + 1) (2 ^ 64 - 1);
  }

-- An access at a fuse over a store with these meanings: the one that is due to fail fails with no effect below; every other
-- answers Device exactly where the store below counted a failure, and leaves it sound where it did not.
pub record Burns {S : Type 0} (failures : S → ℕ) (is_sound : S → Bool) (old : Fused S) (result : Result Unit Refused) (new : Fused S) : Type 0 where
  pub fuse : new ≡ after_access old new.inner
  pub fails : fails_next old ≡ true → result ≡ Err Device
  pub spares : fails_next old ≡ true → new.inner ≡ old.inner
  pub counts : fails_next old ≡ false → CountsDevice result (failures old.inner) (failures new.inner)
  pub sound : fails_next old ≡ false → StaysSound result (is_sound old.inner) (is_sound new.inner)

-- a sound store's block n was read
abbrev pub ReadsBlock : Bool → ℕ → List ℕ → ℕ → List ℕ → Type 0
ReadsBlock is_sound size contents n bytes = IsTrue is_sound → HasBlock size contents n → bytes ≡ block_of size contents n

-- blocks of a sound store from block n on, so many bytes, were read
abbrev pub ReadsRun : Bool → ℕ → List ℕ → ℕ → ℕ → List ℕ → Type 0
ReadsRun is_sound size contents n len bytes = IsTrue is_sound → n * size + len ≤ length contents → bytes ≡ bytes_at contents (n * size) len

-- bytes were written as a sound store's block n
abbrev pub WritesBlock : Bool → ℕ → List ℕ → ℕ → List ℕ → List ℕ → Type 0
WritesBlock is_sound size old n bytes new = IsTrue is_sound → HasBlock size old n → new ≡ with_block size old n bytes
