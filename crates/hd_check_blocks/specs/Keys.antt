-- Where the stored segments of a type have their key.
use Rattle.std.specs.Prelude.{ℕ, ◌+◌, ◌-◌, List, cond, is_some, Option, Some, None, option_and_then}
use Rattle.std.specs.Option.{option_map_or}
use Rattle.hd_dbd.specs.Types.{SegmentType}
use Rattle.hd_dbd.specs.Hierarchy.{type_of}
use Rattle.hd_dbd.specs.Prefixes.{prefix_length}
use Rattle.hd_check_blocks.specs.declared.keys.KeyPlace.{KeyPlace}

-- where the segments of a type have their key, behind a prefix of a length; it has no bytes where there is none
abbrev pub key_behind : ℕ → SegmentType → KeyPlace
key_behind prefix t = option_map_or (λ k. record { start = prefix + (k.start - 1); length = k.length }) t.key (record { start = prefix; length = 0 })

-- where the segments of the type of a code have their key, unless they vary in length
abbrev pub key_place : List SegmentType → ℕ → Option KeyPlace
key_place types c = option_and_then (λ t. cond (is_some t.least) None (Some (key_behind (prefix_length types c) t))) (type_of types c)
