-- The sample of the documents in volumes of version 2, worked: six blocks of 128 bytes, of which block 3 is the top, over a sequence set of
-- blocks 4 and 5 with an entry each; and the four blocks of the documents' own image, of which block 3 is the whole index.
use Rattle.std.specs.Prelude.{◌≡◌, ℕ, ◌-◌, true, List, [], ◌∷◌, ◌++◌, replicate, length, codes, Some}
use Rattle.hd_dbd.specs.declared.facts.SegmentSize.TheVariants.{Fixed}
use Rattle.hd_stores.specs.Stores.{uncommitted}
use Rattle.hd_volume.specs.Volumes.{VolumeState}
use Rattle.hd_volume.specs.Spacing.{no_spacing}
use Rattle.hd_volume.specs.Entries.{Entry}
use Rattle.hd_index_blocks.specs.Maps.{address_from}
use Rattle.hd_index_blocks.specs.Ways.{leaf_of}
use Rattle.hd_index_blocks.specs.IndexSets.{index_blocks, index_entries, HasIndexSet}
use Rattle.hd_index_blocks.specs.Needs.{set_blocks_needed}

-- these bytes, and zeros up to a length
abbrev pub padded : ℕ → List ℕ → List ℕ
padded n bytes = bytes ++ replicate (n - length bytes) 0

-- version 2, so many blocks of 128 bytes and at most 16, the name, the first and the last root, top 3, and a height
abbrev pub sample_header : ℕ → ℕ → List ℕ
sample_header count height =
    codes "HDVOLUME" ++ (0 ∷ 2 ∷ 0 ∷ 128 ∷ 0 ∷ 0 ∷ 0 ∷ count ∷ 0 ∷ 0 ∷ 0 ∷ 16 ∷ [])
    ++ codes "EDU     " ++ (0 ∷ 0 ∷ 0 ∷ 136 ∷ 0 ∷ 0 ∷ 1 ∷ 24 ∷ 0 ∷ 0 ∷ 0 ∷ 3 ∷ 0 ∷ 0 ∷ 0 ∷ height ∷ [])

-- the course 101 at 136, its class 01 at 176, students at 200 and 216, and the class 02 at 232
abbrev pub sample_classes : List ℕ
sample_classes =
    padded 8 (0 ∷ 0 ∷ 1 ∷ [])
    ++ padded 40
    ((1 ∷ 0 ∷ 0 ∷ 0 ∷ 1 ∷ 24 ∷ 0 ∷ 0 ∷ 0 ∷ 0 ∷ 0 ∷ 0 ∷ 0 ∷ 176 ∷ 0 ∷ 0 ∷ 0 ∷ 232 ∷ 0 ∷ 0 ∷ 1 ∷ 8 ∷ 0 ∷ 0 ∷ 1 ∷ 8 ∷ []) ++ codes "101ALGEB")
    ++ padded 24 ((2 ∷ 0 ∷ 0 ∷ 0 ∷ 0 ∷ 232 ∷ 0 ∷ 0 ∷ 0 ∷ 0 ∷ 0 ∷ 0 ∷ 0 ∷ 200 ∷ []) ++ codes "01AB")
    ++ padded 16 ((3 ∷ 0 ∷ 0 ∷ 0 ∷ 0 ∷ 216 ∷ []) ++ codes "ADAM01") ++ padded 16 ((3 ∷ 0 ∷ 0 ∷ 0 ∷ 0 ∷ 0 ∷ []) ++ codes "EVE 02")
    ++ padded 24 ((2 ∷ 0 ∷ 0 ∷ 0 ∷ 0 ∷ 0 ∷ 0 ∷ 0 ∷ 0 ∷ 176 ∷ 0 ∷ 0 ∷ 0 ∷ 0 ∷ []) ++ codes "02CD")

-- a book at 264, the course 205 at 280, and a free element
abbrev pub sample_books : List ℕ
sample_books =
    padded 8 (0 ∷ 64 ∷ 1 ∷ []) ++ padded 16 ((4 ∷ 0 ∷ 0 ∷ 0 ∷ 0 ∷ 0 ∷ 0 ∷ 0 ∷ 0 ∷ 0 ∷ []) ++ codes "EULER")
    ++ padded 40 (padded 26 (1 ∷ 0 ∷ 0 ∷ 0 ∷ 0 ∷ 0 ∷ 0 ∷ 0 ∷ 0 ∷ 136 ∷ []) ++ codes "205LOGIC") ++ padded 64 (0 ∷ 0 ∷ 0 ∷ 64 ∷ [])

-- an index block: its level, how many entries it has, the next block, and the entries
abbrev pub index_block : ℕ → ℕ → ℕ → List ℕ → List ℕ
index_block level count next entries = padded 128 ((0 ∷ 0 ∷ 2 ∷ level ∷ 0 ∷ count ∷ 0 ∷ 0 ∷ 0 ∷ 0 ∷ 0 ∷ next ∷ []) ++ entries)

abbrev pub sample_image : List ℕ
sample_image =
    padded 128 (sample_header 6 2) ++ sample_classes ++ sample_books
    ++ index_block 1 2 0 (codes "150" ++ (0 ∷ 0 ∷ 0 ∷ 4 ∷ []) ++ codes "205" ++ (0 ∷ 0 ∷ 0 ∷ 5 ∷ []))
    ++ index_block 0 1 5 (codes "101" ++ (0 ∷ 0 ∷ 0 ∷ 136 ∷ [])) ++ index_block 0 1 0 (codes "205" ++ (0 ∷ 0 ∷ 1 ∷ 24 ∷ []))

-- the volume of an image of the sample
abbrev pub volume_of : List ℕ → VolumeState
volume_of image = record { image = image; stored = image; is_sound = true; failures = 0; room = 0; committed = uncommitted; size = 128; sizes = Fixed 0 ∷ Fixed 40 ∷ Fixed 24 ∷ Fixed 16 ∷ Fixed 16 ∷ []; spacing = no_spacing }

abbrev pub sample_volume : VolumeState
sample_volume = volume_of sample_image

-- an entry of it
abbrev pub at_key : List ℕ → ℕ → Entry
at_key key address = record { key = key; address = address }

-- It has an index set, whose entries are those of the two courses. The key 120 leads to block 4, though the least key from it on stands in
-- block 5; a new key needs no block.
abbrev pub SampleHasIndexSet : Type 0
SampleHasIndexSet =
    HasIndexSet 3 sample_volume × (index_entries 3 sample_volume ≡ at_key (codes "101") 136 ∷ at_key (codes "205") 280 ∷ [])
    × (leaf_of (index_blocks 3 sample_volume) (codes "120") 1 3 ≡ 4) × (address_from (codes "120") (index_entries 3 sample_volume) ≡ Some 280)
    × (set_blocks_needed 3 sample_volume (codes "120") ≡ 0)

-- four blocks, of which the last counts so many entries and names this block behind it
abbrev pub one_level_volume : ℕ → ℕ → VolumeState
one_level_volume count next =
    volume_of
    (padded 128 (sample_header 4 1) ++ sample_classes ++ sample_books
    ++ index_block 0 count next (codes "101" ++ (0 ∷ 0 ∷ 0 ∷ 136 ∷ []) ++ codes "205" ++ (0 ∷ 0 ∷ 1 ∷ 24 ∷ [])))

-- With its two entries it has an index set; with none, or with itself behind it, it has not.
abbrev pub OneLevelHasIndexSet : Type 0
OneLevelHasIndexSet =
    HasIndexSet 3 (one_level_volume 2 0) × (index_entries 3 (one_level_volume 2 0) ≡ index_entries 3 sample_volume) × (HasIndexSet 3 (one_level_volume 0 0) → ⊥)
    × (HasIndexSet 3 (one_level_volume 2 3) → ⊥)
