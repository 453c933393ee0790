-- The first fault of a database: B10, then B1 and B2, and then, of its first type that breaks a rule, the rule of the
-- least number.
use Rattle.std.specs.Prelude.{◌≡◌, ℕ, ◌+◌, List, [], ◌∷◌, length, not, ◌&&◌, nat_lt, nat_le, cond, Option, Some, None, is_none}
use Rattle.std.specs.Option.{option_or}
use Rattle.hd_dbd.specs.declared.database.DbdFault.{DbdFault}
use Rattle.hd_dbd.specs.declared.database.DbdFault.TheVariants.{B1, B2, B3, B4, B5, B6, B7, B8, B9, B10}
use Rattle.hd_dbd.specs.declared.hierarchy.FreeSpace.{FreeSpace}
use Rattle.hd_dbd.specs.Types.{SegmentType}
use Rattle.hd_dbd.specs.DatabaseRules.{block_size_fits, free_space_fits, level_fits, parent_fits, parts_fit, root_key_fits, names_fit, sizes_fit, key_length_fits, well_formed}

-- the first of the rules B3 to B9 that the type of a code breaks, with the code
abbrev pub type_fault : ℕ → List SegmentType → ℕ → SegmentType → Option DbdFault
type_fault block_size types c t =
    cond (not (level_fits types c t)) (Some (B3 c)) (cond (not (parent_fits c t)) (Some (B4 c))
    (cond (not (parts_fit t)) (Some (B5 c)) (cond (not (root_key_fits c t)) (Some (B6 c))
    (cond (not (names_fit types c t)) (Some (B7 c)) (cond (not (sizes_fit block_size types c t)) (Some (B8 c))
    (cond (not (key_length_fits t)) (Some (B9 c)) None))))))

-- the same of the first that breaks one, of the last types of a list, the first of which has code c
abbrev pub types_fault_from : ℕ → List SegmentType → ℕ → List SegmentType → Option DbdFault
types_fault_from block_size types c [] = None
types_fault_from block_size types c (t ∷ ts) = option_or (type_fault block_size types c t) (types_fault_from block_size types (c + 1) ts)

-- B10, B1 and B2: a fault of the block size or FRSPC, or of the number of types
abbrev pub size_fault : ℕ → FreeSpace → List SegmentType → Option DbdFault
size_fault block_size frspc types =
    cond (not (block_size_fits block_size && free_space_fits frspc)) (Some B10)
    (cond (not (nat_lt 0 (length types))) (Some B1) (cond (not (nat_le (length types) 255)) (Some B2) None))

-- why this is no database
abbrev pub database_fault : ℕ → FreeSpace → List SegmentType → Option DbdFault
database_fault block_size frspc types = option_or (size_fault block_size frspc types) (types_fault_from block_size types 1 types)

-- A database is well formed just where no fault stands.
abbrev pub DatabasesHaveNoFault : Type 0
DatabasesHaveNoFault =
    (block_size : ℕ) (frspc : FreeSpace) (types : List SegmentType)
    → is_none (database_fault block_size frspc types) ≡ well_formed block_size frspc types
