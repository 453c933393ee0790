-- No key of a well-formed database is longer than 255 bytes.
use Rattle.std.proofs.Common.{◌≡◌, ℕ, ◌-◌, ◌≤◌, List, [], length, take, drop, true, arith, Option, Some, None, refl}
use Rattle.std.specs.Prelude.{IsTrue, nat_le}
use Rattle.std.specs.Option.{option_map_or}
use Rattle.std.proofs.lemmas.Bool.{and_parts, leb-true}
use Rattle.std.proofs.lemmas.List.{length-take}
use Rattle.hd_dbd.specs.declared.hierarchy.FreeSpace.{FreeSpace}
use Rattle.hd_dbd.specs.declared.hierarchy.Key.{Key}
use Rattle.hd_dbd.specs.Types.{SegmentType}
use Rattle.hd_dbd.specs.Segment.{Segment}
use Rattle.hd_dbd.specs.Hierarchy.{key_in, type_of}
use Rattle.hd_dbd.specs.DatabaseRules.{well_formed, key_length_fits}
use Rattle.hd_dbd.specs.Rows.{key_of}
use Rattle.hd_dbd.proofs.Fitting.{type_of-fits, types_fit}

key_short : (key : Option Key) (bytes : List ℕ) → option_map_or (λ k. nat_le k.length 255) key true ≡ true → length (option_map_or (λ k. take k.length (drop (k.start - 1) bytes)) key []) ≤ 255
key_short None bytes fits = omega arith
key_short (Some k) bytes fits = omega (arith, leb-true k.length 255 fits, length-take k.length (drop (k.start - 1) bytes))

-- a type whose key's length fits has short keys
pub key_in_short : (t : SegmentType) (bytes : List ℕ) → key_length_fits t ≡ true → length (key_in t bytes) ≤ 255
key_in_short t bytes fits = key_short t.key bytes fits

-- the type of a code has short keys
pub key_in_short_at : (size : ℕ) (frspc : FreeSpace) (types : List SegmentType) (c : ℕ) (t : SegmentType) (bytes : List ℕ) → IsTrue (well_formed size frspc types) → type_of types c ≡ Some t → length (key_in t bytes) ≤ 255
key_in_short_at size frspc types c t bytes well is = key_in_short t bytes (and_parts _ _ (type_of-fits size types c t (types_fit size frspc types well) is)).1

key_of_short_by : (size : ℕ) (frspc : FreeSpace) (types : List SegmentType) (r : Segment) (o : Option SegmentType) → IsTrue (well_formed size frspc types) → type_of types r.code ≡ o → length (option_map_or (λ t. key_in t r.bytes) o []) ≤ 255
key_of_short_by size frspc types r None well is = omega arith
key_of_short_by size frspc types r (Some t) well is = key_in_short_at size frspc types r.code t r.bytes well is

-- no row's key is longer than 255 bytes
pub key_of_short : (size : ℕ) (frspc : FreeSpace) (types : List SegmentType) (r : Segment) → IsTrue (well_formed size frspc types) → length (key_of types r) ≤ 255
key_of_short size frspc types r well = key_of_short_by size frspc types r (type_of types r.code) well refl
