-- Where the stored segments of a type have their twin pointers and the key.
use Rattle.std.specs.Prelude.{ℕ, ◌+◌, ◌-◌, List, Option, option_map, option_and_then}
use Rattle.hd_dbd.specs.declared.hierarchy.Key.{Key}
use Rattle.hd_dbd.specs.Types.{SegmentType}
use Rattle.hd_dbd.specs.Hierarchy.{type_of}
use Rattle.hd_dbd.specs.Prefixes.{prefix_length}
use Rattle.hd_prefix.specs.declared.pointer.Pointer.TheVariants.{TwinForward, TwinBackward}
use Rattle.hd_prefix.specs.Pointers.{place_of}
use Rattle.hd_forest.specs.declared.twins.TwinPlaces.{TwinPlaces}

-- where the segments of a type with this key have twin backward, if they keep it, and the key, and with twin forward at this place
abbrev pub places_of : List SegmentType → ℕ → Key → ℕ → TwinPlaces
places_of types c k place = record { forward = place; backward = place_of types c TwinBackward; key = prefix_length types c + (k.start - 1); length = k.length }

-- where the segments of a type that has a key have twin forward, twin backward, where it is kept, and the key, and the key's length
abbrev pub twin_places : List SegmentType → ℕ → Option TwinPlaces
twin_places types c =
    option_and_then (λ t. option_and_then (λ k. option_map (λ place. places_of types c k place) (place_of types c TwinForward)) t.key) (type_of types c)
