-- A stored segment that has a row takes as many bytes as the row.
use Rattle.std.proofs.Common.{◌≡◌, ℕ, ◌+◌, ◌<◌, ◌≤◌, List, length, take, drop, slice_index, true, refl, sym, ap, subst, ◌∙◌, Option, Some, IsTrue, arith}
use Rattle.std.specs.Option.{option_map_or}
use Rattle.std.proofs.lemmas.List.{length-take, get_or-take}
use Rattle.hd_dbd.specs.declared.hierarchy.FreeSpace.{FreeSpace}
use Rattle.hd_dbd.specs.Types.{SegmentType}
use Rattle.hd_dbd.specs.Hierarchy.{type_of}
use Rattle.hd_dbd.specs.Facts.{stored_sizes}
use Rattle.hd_dbd.specs.Lengths.{own_length, least_length, length_in}
use Rattle.hd_dbd.specs.Prefixes.{prefix_length, size_with}
use Rattle.hd_dbd.specs.Rows.{row_fits}
use Rattle.hd_dbd.specs.DatabaseRules.{well_formed}
use Rattle.hd_dbd.proofs.TypeLengths.{row-type, row-begins, length-least, length-most, type-lengths}
use Rattle.hd_block.specs.Sizes.{size_at}
use Rattle.hd_block.proofs.SizeLemmas.{size-own}
use Rattle.hd_prefix.specs.Fields.{length_of, bytes_of}

-- what is taken from the front of some bytes begins them
begins-taken : (xs ys : List ℕ) (n k : ℕ) → take n ys ≡ xs → k < length xs → slice_index ys k ≡ slice_index xs k
begins-taken xs ys n k is low =
    let few : length xs ≤ n = (let l : length (take n ys) ≡ length xs = ap (λ (l : List ℕ). length l) is in omega (arith, l, length-take n ys)) in
    sym (get_or-take n ys k 0 (omega (arith, few, low))) ∙ ap (λ (l : List ℕ). slice_index l k) is

-- a segment whose own bytes are a row has as many as the row
pub row-own : (block_size : ℕ) (frspc : FreeSpace) (types : List SegmentType) (c : ℕ) (row s : List ℕ) → IsTrue (well_formed block_size frspc types)
    → row_fits types (record { code = c; bytes = row }) ≡ true → bytes_of types c s ≡ row → length_of types c s ≡ length row
row-own block_size frspc types c row s formed fits is =
    row-begins block_size frspc types c row (drop (prefix_length types c) s) formed fits (λ k low. begins-taken row (drop (prefix_length types c) s) (length_of types c s) k is low)

-- and takes as many bytes as the row does
pub row-takes : (block_size : ℕ) (frspc : FreeSpace) (types : List SegmentType) (c : ℕ) (row s : List ℕ) → IsTrue (well_formed block_size frspc types)
    → row_fits types (record { code = c; bytes = row }) ≡ true → slice_index s 0 ≡ c → bytes_of types c s ≡ row → size_at (stored_sizes types) s 0 ≡ size_with types c (length row)
row-takes block_size frspc types c row s formed fits code is =
    let own = row-type types (record { code = c; bytes = row }) fits in
    let typed : type_of types (slice_index s 0) ≡ Some own.type = ap (type_of types) code ∙ own.is in
    let has = type-lengths block_size frspc types c own.type formed own.is in
    let many : own_length own.type (drop (prefix_length types (slice_index s 0)) s) ≡ length row =
    ap (λ (k : ℕ). own_length own.type (drop (prefix_length types k) s)) code
    ∙ ap (λ (o : Option SegmentType). option_map_or (λ t. own_length t (drop (prefix_length types c) s)) o 0) (sym own.is)
    ∙ row-own block_size frspc types c row s formed fits is in
    size-own types s own.type typed has.said (omega (arith, many, length-least own.type row own.fits)) (omega (arith, many, length-most own.type row own.fits))
    ∙ ap (size_with types (slice_index s 0)) many ∙ ap (λ (k : ℕ). size_with types k (length row)) code
