-- The table of the bytes that segments take in a block.
use Rattle.std.proofs.Common.{◌≡◌, inl, inr, ℕ, zero, suc, ◌+◌, ◌-◌, ◌%◌, ◌<◌, ◌≤◌, List, length, true, refl, sym, ap, ◌∙◌, arith, Option, Some, None, IsTrue, nat_le, ◌&&◌}
use Rattle.std.specs.Prelude.{slice_get, slice_index_or}
use Rattle.std.specs.Option.{option_map_or}
use Rattle.std.proofs.lemmas.Option.{get_or_from_slice_get, slice_get_cases}
use Rattle.std.proofs.lemmas.List.{get_or_past}
use Rattle.std.proofs.lemmas.Bool.{and_parts, leb-true, eqb-true, cases_lt}
use Rattle.hd_dbd.specs.declared.hierarchy.FreeSpace.{FreeSpace}
use Rattle.hd_dbd.specs.Types.{SegmentType}
use Rattle.hd_dbd.specs.Hierarchy.{type_of}
use Rattle.hd_dbd.specs.Prefixes.{prefix_length, rounded_up, stored_size}
use Rattle.hd_dbd.specs.Facts.{table_from, size_of_type, segment_size, stored_sizes}
use Rattle.hd_dbd.specs.declared.facts.SegmentSize.TheVariants.{Fixed}
use Rattle.hd_dbd.specs.DatabaseRules.{well_formed}
use Rattle.hd_dbd.proofs.Levels.{type_of-later}
use Rattle.hd_dbd.proofs.Tables.{length-table_from, slice_get-table_from}
use Rattle.hd_dbd.proofs.Fitting.{type_of-fits, size_part, size_fits, types_fit}

none-past : (types : List SegmentType) (c : ℕ) → length types < c → segment_size types c ≡ Fixed 0
none-past types c past =
    let at : type_of types c ≡ slice_get types (c - 1) = type_of-later types c (λ z. omega arith) in
    elim (slice_get_cases types (c - 1)).1 [
      | inl found ↦ absurd (omega (arith, found.1))
      | inr none ↦ ap (λ (o : Option SegmentType). option_map_or (λ t. size_of_type types c t) o (Fixed 0)) (at ∙ none.1)
    ]

-- the table has each type's, and 0 where there is no type
pub stored_sizes-at : (types : List SegmentType) (c : ℕ) → slice_index_or (stored_sizes types) c (Fixed 0) ≡ segment_size types c
stored_sizes-at types zero = refl
stored_sizes-at types (suc i) =
    elim (cases_lt i (length types)) [
      | inl l ↦
          get_or_from_slice_get (table_from (segment_size types) 1 (length types)) i (segment_size types (1 + i)) (Fixed 0) (slice_get-table_from (segment_size types) 1 (length types) i l)
          ∙ ap (segment_size types) (let e : 1 + i ≡ suc i = omega arith in e)
      | inr l ↦
          get_or_past (table_from (segment_size types) 1 (length types)) i (Fixed 0) (omega (arith, length-table_from (segment_size types) 1 (length types)))
          ∙ sym (none-past types (suc i) (omega arith))
    ]

size-of : (types : List SegmentType) (c n : ℕ) (o : Option SegmentType) → type_of types c ≡ o → ((t : SegmentType) → o ≡ Some t → stored_size types c + 8 ≤ n) → 8 ≤ n → stored_size types c + 8 ≤ n
size-of types c n None is some least =
    let none : stored_size types c ≡ 0 = ap (λ (o : Option SegmentType). option_map_or (λ t. rounded_up (prefix_length types c + t.length)) o 0) is in
    omega arith
size-of types c n (Some t) is some least = some t refl

-- the least block of a database has 128 bytes, and the largest 32,768
pub block_size-bounds : (block_size : ℕ) (frspc : FreeSpace) (types : List SegmentType) → IsTrue (well_formed block_size frspc types) → (128 ≤ block_size) × (block_size ≤ 32768)
block_size-bounds block_size frspc types fit =
    let bounds : (nat_le 128 block_size && nat_le block_size 32768) ≡ true = (and_parts _ _ (size_fits block_size frspc types fit)).0 in
    let both = and_parts (nat_le 128 block_size) (nat_le block_size 32768) bounds in
    (leb-true 128 block_size both.0, leb-true block_size 32768 both.1)

-- and it is a multiple of 8
pub block_size-whole : (block_size : ℕ) (frspc : FreeSpace) (types : List SegmentType) → IsTrue (well_formed block_size frspc types) → block_size % 8 ≡ 0
block_size-whole block_size frspc types fit = eqb-true (block_size % 8) 0 (and_parts _ _ (size_fits block_size frspc types fit)).1

-- each stored segment fits into a block behind its first 8 bytes
pub stored_size-fits : (block_size : ℕ) (frspc : FreeSpace) (types : List SegmentType) (c : ℕ) → IsTrue (well_formed block_size frspc types) → stored_size types c + 8 ≤ block_size
stored_size-fits block_size frspc types c fit =
    let bounds = block_size-bounds block_size frspc types fit in
    size-of types c block_size (type_of types c) refl (λ t is. size_part block_size types c t (type_of-fits block_size types c t (types_fit block_size frspc types fit) is)) (omega arith)

whole-of : (types : List SegmentType) (c : ℕ) (o : Option SegmentType) → option_map_or (λ (t : SegmentType). rounded_up (prefix_length types c + t.length)) o 0 % 8 ≡ 0
whole-of types c None = refl
whole-of types c (Some t) = omega arith

-- and takes a multiple of 8 bytes
pub stored_size-whole : (types : List SegmentType) (c : ℕ) → stored_size types c % 8 ≡ 0
stored_size-whole types c = whole-of types c (type_of types c)
