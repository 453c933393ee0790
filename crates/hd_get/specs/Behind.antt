-- A get without arguments that goes on to the row just behind those passed.
use Rattle.std.specs.Prelude.{ℕ, List, Bool, true, false, ◌&&◌, nat_lt, is_some}
use Rattle.hd_dbd.specs.Types.{SegmentType}
use Rattle.hd_dbd.specs.Hierarchy.{level_of}
use Rattle.hd_calls.specs.declared.call.GetKind.{GetKind}
use Rattle.hd_calls.specs.declared.call.GetKind.TheVariants.{Unique, Next, NextInParent}
use Rattle.hd_position.specs.Kept.{Kept, row_on}

-- a get of a kind without arguments begins at the row just behind those passed, where that is of a type: GNP where it is below the parentage row, GU never
abbrev pub begins_behind : List SegmentType → GetKind → Kept → ℕ → Bool
begins_behind types Unique k code = false
begins_behind types Next k code = true
begins_behind types NextInParent k code = is_some (row_on k.path k.parent) && nat_lt k.parent (level_of types code)
