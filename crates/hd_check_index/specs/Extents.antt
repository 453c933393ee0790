-- The least and the greatest key of some entries.
use Rattle.std.specs.Prelude.{◌≡◌, ℕ, ◌<◌, List, [], not, take}
use Rattle.hd_volume.specs.Entries.{Entry}
use Rattle.hd_volume.specs.Indexes.{key_less}
use Rattle.hd_index_blocks.specs.LevelFaults.{is_up_to, is_below_all}
use Rattle.hd_check_index.specs.declared.extents.Extent.{Extent}

-- These are the least and the greatest key of some entries: a key is at least all of theirs just where it is not below the greatest, and below
-- all of theirs just where it is below the least.
pub record IsExtent (key_length : ℕ) (extent : Extent) (es : List Entry) : Type 0 where
  pub greatest : (key : List ℕ) → is_up_to key es ≡ not (key_less key (take key_length extent.greatest))
  pub least : (key : List ℕ) → is_below_all key es ≡ key_less key (take key_length extent.least)

-- the fact holds of the entries that were gathered so far: none where their count is 0, and else entries of this extent
abbrev pub OfGathered : ℕ → ℕ → Extent → (List Entry → Type 0) → Type 0
OfGathered key_length count extent fact = (es : List Entry) → (count ≡ 0 → es ≡ []) → (0 < count → IsExtent key_length extent es) → fact es

-- the fact holds of all entries whose least and greatest key are these
abbrev pub OfKeysBetween : ℕ → List ℕ → List ℕ → (List Entry → Type 0) → Type 0
OfKeysBetween key_length least greatest fact =
    (es : List Entry) (extent : Extent) → take key_length extent.least ≡ least → take key_length extent.greatest ≡ greatest → IsExtent key_length extent es
    → fact es
