-- A volume as a finite map from addresses to segments.
use Rattle.std.specs.Prelude.{ℕ, ◌/◌, ◌%◌, ◌==◌, cond, List, [], ◌∷◌, Option, Some, None, option_map}
use Rattle.hd_bytes.specs.Ranges.{bytes_at}
use Rattle.hd_block.specs.Walk.{parts_in}
use Rattle.hd_block.specs.declared.parts.Part.{Part}
use Rattle.hd_block.specs.declared.parts.Part.TheVariants.{Free, Used}
use Rattle.hd_volume.specs.Volumes.{VolumeState, block_at, kind_of}
use Rattle.hd_dbd.specs.declared.facts.SegmentSize.{SegmentSize}

-- the length of the segment at a place, if one of the parts of a block is there
abbrev pub used_at : List Part → ℕ → Option ℕ
used_at [] place = None
used_at (Free p n ∷ parts) place = used_at parts place
used_at (Used p n ∷ parts) place = cond (p == place) (Some n) (used_at parts place)

-- the segment at a place of a block
abbrev pub segment_in : List SegmentSize → List ℕ → ℕ → Option (List ℕ)
segment_in sizes block place = option_map (λ n. bytes_at block place n) (used_at (parts_in sizes block) place)

-- the segment at an address, in a data block behind block 0: its prefix, its bytes and its padding
abbrev pub find : VolumeState → ℕ → Option (List ℕ)
find v a =
    cond (a / v.size == 0) None
    (cond (kind_of (block_at v (a / v.size)) == 1) (segment_in v.sizes (block_at v (a / v.size)) (a % v.size)) None)
