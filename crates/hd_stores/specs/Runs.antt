-- Blocks of a store that were read at once.
use Rattle.std.specs.Prelude.{◌≡◌, ℕ, ◌+◌, ◌*◌, ◌<◌, ◌≤◌, Bool, IsTrue, List, vec_len}
use Rattle.hd_bytes.specs.Ranges.{bytes_at}
use Rattle.hd_bytes.specs.Blocks.{block_of, HasBlock}
use Rattle.hd_stores.specs.declared.run.Run.{Run}

-- The blocks of a run stand in the store, one after the other from its first on.
pub record IsReadRun (size : ℕ) (stored : List ℕ) (run : Run) : Type 0 where
  pub there : (k : ℕ) → k < run.count → HasBlock size stored (run.first + k)
  pub same : (k : ℕ) → k < run.count → bytes_at run.bytes.items (k * size) size ≡ block_of size stored (run.first + k)

-- What a store that reads ahead keeps: there is room for the blocks of its run, and as long as it is sound they are its own.
pub record IsReadAhead (size : ℕ) (stored : List ℕ) (is_sound : Bool) (run : Run) : Type 0 where
  pub fits : run.count * size ≤ vec_len run.bytes
  pub is_run : IsTrue is_sound → IsReadRun size stored run
