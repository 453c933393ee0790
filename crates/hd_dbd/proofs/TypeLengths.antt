-- How many bytes a row of the database has.
use Rattle.std.proofs.Common.{◌≡◌, ℕ, ◌+◌, ◌*◌, ◌<◌, ◌≤◌, List, length, take, slice_index, true, false, ◌&&◌, nat_le, arith, Option, Some, None, refl, ap, sym, ◌∙◌, IsTrue}
use Rattle.std.specs.Option.{option_map_or}
use Rattle.std.proofs.lemmas.Bool.{and_parts, and_from, leb-true, le-leb, ltb-true, eqb-true, eq-eqb}
use Rattle.std.proofs.lemmas.List.{length-take-le, get_or-take}
use Rattle.hd_dbd.specs.declared.hierarchy.FreeSpace.{FreeSpace}
use Rattle.hd_dbd.specs.declared.hierarchy.Key.{Key}
use Rattle.hd_dbd.specs.Types.{SegmentType}
use Rattle.hd_dbd.specs.Segment.{Segment}
use Rattle.hd_dbd.specs.Hierarchy.{type_of}
use Rattle.hd_dbd.specs.Lengths.{least_length, said_length, own_length, length_in, length_fits}
use Rattle.hd_dbd.specs.Prefixes.{twin_part, child_parts, prefix_length, size_with, stored_size}
use Rattle.hd_dbd.specs.Rows.{row_fits}
use Rattle.hd_dbd.specs.DatabaseRules.{part_fits, parts_fit, type_fits, well_formed}
use Rattle.hd_dbd.proofs.Fitting.{type_of-fits, size_bound, size_fits, types_fit}

-- what a length that fits is: no less and no more than the type has, and what its first bytes say
pub length-least : (t : SegmentType) (bytes : List ℕ) → length_fits t bytes ≡ true → least_length t ≤ length bytes
length-least t bytes fits = leb-true (least_length t) (length bytes) (and_parts _ _ (and_parts _ _ fits).0).0

pub length-most : (t : SegmentType) (bytes : List ℕ) → length_fits t bytes ≡ true → length bytes ≤ t.length
length-most t bytes fits = leb-true (length bytes) t.length (and_parts _ _ (and_parts _ _ fits).0).1

pub length-own : (t : SegmentType) (bytes : List ℕ) → length_fits t bytes ≡ true → length bytes ≡ own_length t bytes
length-own t bytes fits = eqb-true (length bytes) (own_length t bytes) (and_parts _ _ fits).1

-- and bytes of which these are so have such a length
pub lengths-fit : (t : SegmentType) (bytes : List ℕ) → least_length t ≤ length bytes → length bytes ≤ t.length → length bytes ≡ own_length t bytes → length_fits t bytes ≡ true
lengths-fit t bytes least most own = and_from _ _ (and_from _ _ (le-leb _ _ least) (le-leb _ _ most)) (eq-eqb _ _ own)

-- The type of a row, and that the row's length fits it.
pub record HasType (types : List SegmentType) (r : Segment) : Type 0 where
  pub type : SegmentType
  pub is : type_of types r.code ≡ Some type
  pub fits : length_fits type r.bytes ≡ true

type-by : (types : List SegmentType) (r : Segment) (o : Option SegmentType) → type_of types r.code ≡ o → option_map_or (λ t. length_fits t r.bytes) o false ≡ true → HasType types r
type-by types r None is fits = cc
type-by types r (Some t) is fits = record { type = t; is = is; fits = fits }

-- a row that fits has one
pub row-type : (types : List SegmentType) (r : Segment) → row_fits types r ≡ true → HasType types r
row-type types r fits = type-by types r (type_of types r.code) refl fits

-- and a row that has one fits
pub type-row : (types : List SegmentType) (r : Segment) (t : SegmentType) → type_of types r.code ≡ Some t → length_fits t r.bytes ≡ true → row_fits types r ≡ true
type-row types r t is fits = ap (λ (o : Option SegmentType). option_map_or (λ u. length_fits u r.bytes) o false) is ∙ fits

-- a row has as many bytes as a segment of its type that begins with them
pub row-length : (types : List SegmentType) (r : Segment) → row_fits types r ≡ true → length r.bytes ≡ length_in types r.code r.bytes
row-length types r fits =
    let own = row-type types r fits in
    length-own own.type r.bytes own.fits ∙ ap (λ (o : Option SegmentType). option_map_or (λ t. own_length t r.bytes) o 0) (sym own.is)

-- and takes no more bytes in a block than the longest of its type
pub row-size : (types : List SegmentType) (r : Segment) → row_fits types r ≡ true → size_with types r.code (length r.bytes) ≤ stored_size types r.code
row-size types r fits =
    let own = row-type types r fits in
    let most = length-most own.type r.bytes own.fits in
    let is : stored_size types r.code ≡ size_with types r.code own.type.length = ap (λ (o : Option SegmentType). option_map_or (λ t. size_with types r.code t.length) o 0) own.is in
    omega arith

-- What the rules say of the lengths of a type: it has a byte, its least length is no longer than its length, and where its segments vary it
-- has two; and its key lies inside the least.
pub record HasLengths (t : SegmentType) : Type 0 where
  pub some : 1 ≤ t.length
  pub most : least_length t ≤ t.length
  pub said : (least : ℕ) → t.least ≡ Some least → 2 ≤ least
  pub key : (k : Key) → t.key ≡ Some k → (1 ≤ k.length) × (1 ≤ k.start) × (k.start + k.length ≤ least_length t + 1)

least-two : (t : SegmentType) (o : Option ℕ) → t.least ≡ o → option_map_or (λ least. nat_le 2 least && nat_le least t.length) o true ≡ true
    → (least_length t ≤ t.length) × ((least : ℕ) → t.least ≡ Some least → 2 ≤ least)
least-two t None is fits =
    let whole : least_length t ≡ t.length = ap (λ (o : Option ℕ). option_map_or (λ least. least) o t.length) is in
    (omega arith, λ least some. cc)
least-two t (Some l) is fits =
    let own : least_length t ≡ l = ap (λ (o : Option ℕ). option_map_or (λ least. least) o t.length) is in
    let both = and_parts (nat_le 2 l) (nat_le l t.length) fits in
    let two : 2 ≤ l = leb-true 2 l both.0 in
    let most : l ≤ t.length = leb-true l t.length both.1 in
    (omega arith, λ least some. (let same : l ≡ least = cc in omega arith))

key-inside : (t : SegmentType) (o : Option Key) → t.key ≡ o → option_map_or (λ k. part_fits (least_length t) k.start k.length) o true ≡ true
    → (k : Key) → t.key ≡ Some k → (1 ≤ k.length) × (1 ≤ k.start) × (k.start + k.length ≤ least_length t + 1)
key-inside t None is fits = λ k some. cc
key-inside t (Some q) is fits = λ k some.
    let same : q ≡ k = cc in
    let all : part_fits (least_length t) k.start k.length ≡ true = ap (λ (j : Key). part_fits (least_length t) j.start j.length) (sym same) ∙ fits in
    let both = and_parts _ _ (and_parts _ _ all).0 in
    (ltb-true 0 k.length both.0, ltb-true 0 k.start both.1, leb-true (k.start + k.length) (least_length t + 1) (and_parts _ _ all).1)

parts-say : (t : SegmentType) → parts_fit t ≡ true → HasLengths t
parts-say t fits =
    let to_key = and_parts _ _ (and_parts _ _ fits).0 in
    let to_least = and_parts _ _ to_key.0 in
    let least = least-two t t.least refl to_least.1 in
    record { some = ltb-true 0 t.length to_least.0; most = least.0; said = least.1; key = key-inside t t.key refl to_key.1 }

pub parts-part : (block_size : ℕ) (types : List SegmentType) (c : ℕ) (t : SegmentType) → type_fits block_size types c t ≡ true → parts_fit t ≡ true
parts-part block_size types c t fit = (and_parts _ _ (and_parts _ _ (and_parts _ _ (and_parts _ _ (and_parts _ _ fit).0).0).0).0).1

-- so of each type of a well-formed database
pub type-lengths : (block_size : ℕ) (frspc : FreeSpace) (types : List SegmentType) (c : ℕ) (t : SegmentType) → IsTrue (well_formed block_size frspc types) → type_of types c ≡ Some t → HasLengths t
type-lengths block_size frspc types c t formed is = parts-say t (parts-part block_size types c t (type_of-fits block_size types c t (types_fit block_size frspc types formed) is))

-- and the longest of its segments takes no more than a block
pub type-room : (block_size : ℕ) (frspc : FreeSpace) (types : List SegmentType) (c : ℕ) (t : SegmentType) → IsTrue (well_formed block_size frspc types) → type_of types c ≡ Some t
    → prefix_length types c + t.length ≤ 65535
type-room block_size frspc types c t formed is =
    let bound : stored_size types c ≤ 65535 = size_bound block_size types c (types_fit block_size frspc types formed) (size_fits block_size frspc types formed) in
    let whole : stored_size types c ≡ size_with types c t.length = ap (λ (o : Option SegmentType). option_map_or (λ u. size_with types c u.length) o 0) is in
    omega arith

begins-by : (t : SegmentType) (bytes behind : List ℕ) (o : Option ℕ) → t.least ≡ o → ((least : ℕ) → o ≡ Some least → 2 ≤ length bytes)
    → ((k : ℕ) → k < length bytes → slice_index behind k ≡ slice_index bytes k) → own_length t behind ≡ own_length t bytes
begins-by t bytes behind None is two same =
    ap (λ (o : Option ℕ). option_map_or (λ _. said_length behind) o t.length) is ∙ sym (ap (λ (o : Option ℕ). option_map_or (λ _. said_length bytes) o t.length) is)
begins-by t bytes behind (Some least) is two same =
    let enough : 2 ≤ length bytes = two least refl in
    let high : slice_index behind 0 ≡ slice_index bytes 0 = same 0 (omega arith) in
    let low : slice_index behind 1 ≡ slice_index bytes 1 = same 1 (omega arith) in
    ap (λ (o : Option ℕ). option_map_or (λ _. said_length behind) o t.length) is
    ∙ ap (λ (n : ℕ). n * 256 + slice_index behind 1) high ∙ ap (λ (n : ℕ). slice_index bytes 0 * 256 + n) low
    ∙ sym (ap (λ (o : Option ℕ). option_map_or (λ _. said_length bytes) o t.length) is)

-- what begins with the bytes of a segment has the length of these
pub own-begins : (t : SegmentType) (bytes behind : List ℕ) → HasLengths t → length_fits t bytes ≡ true → ((k : ℕ) → k < length bytes → slice_index behind k ≡ slice_index bytes k)
    → own_length t behind ≡ length bytes
own-begins t bytes behind has fits same =
    let least = length-least t bytes fits in
    let two : (n : ℕ) → t.least ≡ Some n → 2 ≤ length bytes = λ n is.
    let own : least_length t ≡ n = ap (λ (o : Option ℕ). option_map_or (λ l. l) o t.length) is in
    omega (arith, has.said n is, least, own) in
    begins-by t bytes behind t.least refl two same ∙ sym (length-own t bytes fits)

-- so of a row
pub row-begins : (block_size : ℕ) (frspc : FreeSpace) (types : List SegmentType) (c : ℕ) (bytes behind : List ℕ) → IsTrue (well_formed block_size frspc types)
    → row_fits types (record { code = c; bytes = bytes }) ≡ true → ((k : ℕ) → k < length bytes → slice_index behind k ≡ slice_index bytes k)
    → length_in types c behind ≡ length bytes
row-begins block_size frspc types c bytes behind formed fits same =
    let own = row-type types (record { code = c; bytes = bytes }) fits in
    ap (λ (o : Option SegmentType). option_map_or (λ t. own_length t behind) o 0) own.is
    ∙ own-begins own.type bytes behind (type-lengths block_size frspc types c own.type formed own.is) own.fits same

prefix-by : (types : List SegmentType) (c : ℕ) (o : Option SegmentType) → type_of types c ≡ o → ((t : SegmentType) → o ≡ Some t → prefix_length types c + t.length ≤ 65535)
    → prefix_length types c ≤ 65535
prefix-by types c None is low =
    let none : prefix_length types c ≡ 0 = ap (λ (o : Option SegmentType). option_map_or (λ t. twin_part c t + child_parts c types) o 0) is in
    omega arith
prefix-by types c (Some t) is low = (let room = low t refl in omega (arith, room))

-- no prefix is longer than a number of two bytes says
pub prefix-low : (block_size : ℕ) (frspc : FreeSpace) (types : List SegmentType) (c : ℕ) → IsTrue (well_formed block_size frspc types) → prefix_length types c ≤ 65535
prefix-low block_size frspc types c formed = prefix-by types c (type_of types c) refl (λ t is. type-room block_size frspc types c t formed is)

-- as many bytes as those at the front say are a segment of the type, where it may have so many and they are there
pub front-fits : (t : SegmentType) (behind : List ℕ) → HasLengths t → least_length t ≤ own_length t behind → own_length t behind ≤ t.length → own_length t behind ≤ length behind
    → length_fits t (take (own_length t behind) behind) ≡ true
front-fits t behind has least most there =
    let own : ℕ = own_length t behind in
    let len : length (take own behind) ≡ own = length-take-le own behind there in
    let two : (n : ℕ) → t.least ≡ Some n → 2 ≤ length (take own behind) = λ n is.
    let same : least_length t ≡ n = ap (λ (o : Option ℕ). option_map_or (λ l. l) o t.length) is in
    omega (arith, has.said n is, least, same, len) in
    let begins : own ≡ own_length t (take own behind) =
    begins-by t (take own behind) behind t.least refl two (λ k low. sym (get_or-take own behind k 0 (omega (arith, low, len)))) in
    lengths-fit t (take own behind) (omega (arith, least, len)) (omega (arith, most, len)) (len ∙ begins)
