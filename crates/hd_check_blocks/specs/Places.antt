-- Where the segments of a volume stand, as they are found block by block.
use Rattle.std.specs.Prelude.{◌≡◌, ◌⊎◌, ℕ, zero, suc, ◌+◌, ◌*◌, ◌-◌, ◌≤◌, List, [], ◌∷◌, ◌++◌, ◌==◌, cond, slice_index, slice_index_or}
use Rattle.hd_block.specs.Walk.{parts_in}
use Rattle.hd_block.specs.declared.parts.Part.{Part}
use Rattle.hd_block.specs.declared.parts.Part.TheVariants.{Free, Used}
use Rattle.hd_volume.specs.Headers.{header_of}
use Rattle.hd_volume.specs.Volumes.{VolumeState, block_at, kind_of}
use Rattle.hd_dbd.specs.Types.{SegmentType}
use Rattle.hd_links.specs.Links.{IsSegment}
use Rattle.hd_image.specs.Records.{links_of}
use Rattle.hd_check_blocks.specs.declared.places.Place.{Place}

-- the segments among the parts of a block that begins at an address
abbrev pub places_in : List ℕ → ℕ → List Part → List Place
places_in block first [] = []
places_in block first (Free p n ∷ parts) = places_in block first parts
places_in block first (Used p n ∷ parts) = record { address = first + p; code = slice_index block p } ∷ places_in block first parts

-- the segments of block n
abbrev pub places_at : VolumeState → ℕ → List Place
places_at v n = cond (kind_of (block_at v n) == 1) (places_in (block_at v n) (n * v.size) (parts_in v.sizes (block_at v n))) []

-- the segments of so many blocks behind block 0
abbrev pub places_behind : VolumeState → ℕ → List Place
places_behind v zero = []
places_behind v (suc n) = places_behind v n ++ places_at v (n + 1)

-- all segments of a volume, by address
abbrev pub places_of : VolumeState → List Place
places_of v = places_behind v ((header_of v.image).count - 1)

-- the place of a number
abbrev pub place_at : List Place → ℕ → Place
place_at places i = slice_index_or places i (record { address = 0; code = 0 })

-- the place is one of these
abbrev pub IsPlaceOf : Place → List Place → Type 0
IsPlaceOf p [] = ⊥
IsPlaceOf p (q ∷ qs) = (p ≡ q) ⊎ IsPlaceOf p qs

-- all these places are at or behind an address
abbrev pub AreFrom : ℕ → List Place → Type 0
AreFrom a [] = Unit {0}
AreFrom a (p ∷ ps) = (a ≤ p.address) × AreFrom a ps

-- each place is behind the one before
abbrev pub PlacesAscend : List Place → Type 0
PlacesAscend [] = Unit {0}
PlacesAscend (p ∷ ps) = AreFrom (p.address + 1) ps × PlacesAscend ps

-- These are the places of a volume's segments: they ascend, each is that of a segment with its code, and each segment has one.
pub record ArePlaces (types : List SegmentType) (v : VolumeState) (ps : List Place) : Type 0 where
  pub ascend : PlacesAscend ps
  pub there : (p : Place) → IsPlaceOf p ps → IsSegment (links_of types v) p.address × ((links_of types v).code p.address ≡ p.code)
  pub all : (a : ℕ) → IsSegment (links_of types v) a → IsPlaceOf (record { address = a; code = (links_of types v).code a }) ps
