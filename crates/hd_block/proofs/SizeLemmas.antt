-- A segment's size depends on its own bytes alone.
use Rattle.std.proofs.Common.{◌≡◌, ℕ, suc, drop, Option, Some, None, inl, inr, ◌*◌, ◌+◌, ◌%◌, ◌<◌, ◌≤◌, IsTrue, Bool, true, false, ◌&&◌, nat_le, cond, List, slice_index, refl, sym, ap, ◌∙◌, arith}
use Rattle.std.specs.Prelude.{slice_index_or}
use Rattle.std.specs.Option.{option_map_or}
use Rattle.std.proofs.lemmas.Bool.{and_parts, and_from, leb-true, le-leb, cond-true, cases_lt}
use Rattle.std.proofs.lemmas.List.{get_or-drop}
use Rattle.hd_bytes.specs.Numbers.{number_at}
use Rattle.hd_bytes.specs.Ranges.{AgreeOn}
use Rattle.hd_bytes.proofs.NumberLemmas.{number-moved}
use Rattle.hd_dbd.specs.Types.{SegmentType}
use Rattle.hd_dbd.specs.Hierarchy.{type_of}
use Rattle.hd_dbd.specs.Lengths.{least_length, said_length, own_length}
use Rattle.hd_dbd.specs.Prefixes.{prefix_length, rounded_up, size_with, stored_size}
use Rattle.hd_dbd.specs.Facts.{size_of_type, stored_sizes}
use Rattle.hd_dbd.proofs.StoredSizes.{stored_sizes-at, stored_size-whole, stored_size-fits, block_size-bounds}
use Rattle.hd_dbd.specs.DatabaseRules.{well_formed}
use Rattle.hd_dbd.specs.declared.hierarchy.FreeSpace.{FreeSpace}
use Rattle.hd_dbd.specs.declared.facts.SegmentSize.{SegmentSize}
use Rattle.hd_dbd.specs.declared.facts.SegmentSize.TheVariants.{Fixed, Varying}
use Rattle.hd_block.specs.Sizes.{size_said, size_by, size_at}

said-case : (prefix least most said n : ℕ) (t : Bool) → (nat_le 2 said && nat_le least said && nat_le said most) ≡ t → cond t (rounded_up (prefix + said)) 0 ≡ n → 8 ≤ n
    → (2 ≤ said) × (prefix + said ≤ n)
said-case prefix least most said n true e is some =
    let two = leb-true 2 said (and_parts (nat_le 2 said) (nat_le least said) (and_parts (nat_le 2 said && nat_le least said) (nat_le said most) e).0).0 in (two, omega arith)
said-case prefix least most said n false e is some = absurd (omega arith)

-- the bytes that a segment says it has, and its prefix before them, lie within it
pub said-within : (prefix least most said n : ℕ) → size_said prefix least most said ≡ n → 8 ≤ n → (2 ≤ said) × (prefix + said ≤ n)
said-within prefix least most said n is some = said-case prefix least most said n (nat_le 2 said && nat_le least said && nat_le said most) refl is some

size-by-moved : (s : SegmentSize) (b b' : List ℕ) (p q n : ℕ) → ((k : ℕ) → k < n → slice_index b' (q + k) ≡ slice_index b (p + k)) → 8 ≤ n → size_by s b p ≡ n → size_by s b' q ≡ n
size-by-moved (Fixed m) b b' p q n same some is = is
size-by-moved (Varying prefix least most) b b' p q n same some is =
    let within = said-within prefix least most (number_at 2 b (p + prefix)) n is some in
    let said : number_at 2 b' (q + prefix) ≡ number_at 2 b (p + prefix) =
    number-moved 2 (p + prefix) (q + prefix) b b' (λ j l.
    let to : q + prefix + j ≡ q + (prefix + j) = omega arith in
    let from : p + (prefix + j) ≡ p + prefix + j = omega arith in
    ap (slice_index b') to ∙ same (prefix + j) (omega (arith, within.0, within.1)) ∙ ap (slice_index b) from)
    in
    ap (size_said prefix least most) said ∙ is

-- A segment whose bytes stand at another place takes as many there.
pub size-moved : (sizes : List SegmentSize) (b b' : List ℕ) (p q n : ℕ) → ((k : ℕ) → k < n → slice_index b' (q + k) ≡ slice_index b (p + k)) → 8 ≤ n → size_at sizes b p ≡ n → size_at sizes b' q ≡ n
size-moved sizes b b' p q n same some is =
    let ends : q + 0 ≡ q = omega arith in
    let starts : p + 0 ≡ p = omega arith in
    let code : slice_index b' q ≡ slice_index b p = ap (slice_index b') (sym ends) ∙ same 0 (omega (arith, some)) ∙ ap (slice_index b) starts in
    ap (λ (c : ℕ). size_by (slice_index_or sizes c (Fixed 0)) b' q) code ∙ size-by-moved (slice_index_or sizes (slice_index b p) (Fixed 0)) b b' p q n same some is

-- A segment whose bytes stay takes as many as before.
pub size-kept : (sizes : List SegmentSize) (b b' : List ℕ) (p n : ℕ) → AgreeOn p n b' b → 8 ≤ n → size_at sizes b p ≡ n → size_at sizes b' p ≡ n
size-kept sizes b b' p n same some is = size-moved sizes b b' p p n (λ k l. same (p + k) (omega arith) (omega (arith, l))) some is

-- ---- the sizes of a database's segments

-- the number in the two bytes at a place is the one that what stands there begins with
said-number : (bytes : List ℕ) (place : ℕ) → number_at 2 bytes place ≡ said_length (drop place bytes)
unfolding number_at
said-number bytes place =
    let first : place + 0 ≡ place = omega arith in
    let next : place + 1 ≡ suc place = omega arith in
    let high : slice_index (drop place bytes) 0 ≡ slice_index bytes place = get_or-drop place bytes 0 0 ∙ ap (slice_index bytes) first in
    let low : slice_index (drop place bytes) 1 ≡ slice_index bytes (suc place) = get_or-drop place bytes 1 0 ∙ ap (slice_index bytes) next in
    omega (arith, high, low)

-- A segment of a database takes its prefix and its own bytes: as many as its type has, or as those behind the prefix say, if the type may have
-- so many.
pub record HasSize (types : List SegmentType) (bytes : List ℕ) (place n : ℕ) : Type 0 where
  pub type : SegmentType
  pub is : type_of types (slice_index bytes place) ≡ Some type
  pub least : least_length type ≤ own_length type (drop (place + prefix_length types (slice_index bytes place)) bytes)
  pub most : own_length type (drop (place + prefix_length types (slice_index bytes place)) bytes) ≤ type.length
  pub size : n ≡ size_with types (slice_index bytes place) (own_length type (drop (place + prefix_length types (slice_index bytes place)) bytes))

said-range : (prefix least most said n : ℕ) (t : Bool) → (nat_le 2 said && nat_le least said && nat_le said most) ≡ t → cond t (rounded_up (prefix + said)) 0 ≡ n → 8 ≤ n
    → (least ≤ said) × (said ≤ most) × (n ≡ rounded_up (prefix + said))
said-range prefix least most said n true e is some =
    let both = and_parts (nat_le 2 said && nat_le least said) (nat_le said most) e in
    (leb-true least said (and_parts (nat_le 2 said) (nat_le least said) both.0).1, leb-true said most both.1, sym is)
said-range prefix least most said n false e is some = absurd (omega arith)

size-of-type : (types : List SegmentType) (bytes : List ℕ) (place n c : ℕ) (t : SegmentType) (o : Option ℕ) → slice_index bytes place ≡ c → type_of types c ≡ Some t → t.least ≡ o → 8 ≤ n
    → size_by (option_map_or (λ least. Varying (prefix_length types c) least t.length) o (Fixed (stored_size types c))) bytes place ≡ n
    → HasSize types bytes place n
size-of-type types bytes place n c t None code typed is some size =
    let own : own_length t (drop (place + prefix_length types (slice_index bytes place)) bytes) ≡ t.length =
    ap (λ (o : Option ℕ). option_map_or (λ _. said_length (drop (place + prefix_length types (slice_index bytes place)) bytes)) o t.length) is in
    let least : least_length t ≡ t.length = ap (λ (o : Option ℕ). option_map_or (λ l. l) o t.length) is in
    record {
      type = t;
      is = ap (type_of types) code ∙ typed;
      least = omega (arith, own, least);
      most = omega (arith, own);
      size =
          sym size ∙ ap (λ (o : Option SegmentType). option_map_or (λ u. size_with types c u.length) o 0) typed
          ∙ ap (λ (d : ℕ). size_with types d t.length) (sym code) ∙ ap (size_with types (slice_index bytes place)) (sym own);
    }
size-of-type types bytes place n c t (Some l) code typed is some size =
    let behind : List ℕ = drop (place + prefix_length types (slice_index bytes place)) bytes in
    let said : number_at 2 bytes (place + prefix_length types c) ≡ said_length behind =
    said-number bytes (place + prefix_length types c) ∙ ap (λ (d : ℕ). said_length (drop (place + prefix_length types d) bytes)) (sym code) in
    let own : own_length t behind ≡ said_length behind = ap (λ (o : Option ℕ). option_map_or (λ _. said_length behind) o t.length) is in
    let least : least_length t ≡ l = ap (λ (o : Option ℕ). option_map_or (λ k. k) o t.length) is in
    let range = said-range (prefix_length types c) l t.length (number_at 2 bytes (place + prefix_length types c)) n _ refl size some in
    record {
      type = t;
      is = ap (type_of types) code ∙ typed;
      least = omega (arith, own, least, said, range.0);
      most = omega (arith, own, said, range.1);
      size =
          range.2 ∙ ap (size_with types c) (said ∙ sym own)
          ∙ ap (λ (d : ℕ). size_with types d (own_length t behind)) (sym code);
    }

size-of-code : (types : List SegmentType) (bytes : List ℕ) (place n : ℕ) (o : Option SegmentType) → type_of types (slice_index bytes place) ≡ o → 8 ≤ n
    → size_by (option_map_or (λ t. size_of_type types (slice_index bytes place) t) o (Fixed 0)) bytes place ≡ n → HasSize types bytes place n
size-of-code types bytes place n None is some size = absurd (omega arith)
size-of-code types bytes place n (Some t) is some size = size-of-type types bytes place n (slice_index bytes place) t t.least refl is refl some size

-- so does each that is one
pub own-size : (types : List SegmentType) (bytes : List ℕ) (place n : ℕ) → 8 ≤ n → size_at (stored_sizes types) bytes place ≡ n → HasSize types bytes place n
own-size types bytes place n some size =
    size-of-code types bytes place n (type_of types (slice_index bytes place)) refl some
    (ap (λ (s : SegmentSize). size_by s bytes place) (sym (stored_sizes-at types (slice_index bytes place))) ∙ size)

said-whole : (prefix least most said : ℕ) (t : Bool) → cond t (rounded_up (prefix + said)) 0 % 8 ≡ 0
said-whole prefix least most said true = omega arith
said-whole prefix least most said false = refl

whole-type : (types : List SegmentType) (bytes : List ℕ) (place c : ℕ) (t : SegmentType) (o : Option ℕ)
    → size_by (option_map_or (λ least. Varying (prefix_length types c) least t.length) o (Fixed (stored_size types c))) bytes place % 8 ≡ 0
whole-type types bytes place c t None = stored_size-whole types c
whole-type types bytes place c t (Some l) =
    said-whole (prefix_length types c) l t.length (number_at 2 bytes (place + prefix_length types c))
    (nat_le 2 (number_at 2 bytes (place + prefix_length types c)) && nat_le l (number_at 2 bytes (place + prefix_length types c)) && nat_le (number_at 2 bytes (place + prefix_length types c)) t.length)

whole-of : (types : List SegmentType) (bytes : List ℕ) (place c : ℕ) (o : Option SegmentType) → size_by (option_map_or (λ t. size_of_type types c t) o (Fixed 0)) bytes place % 8 ≡ 0
whole-of types bytes place c None = refl
whole-of types bytes place c (Some t) = whole-type types bytes place c t t.least

-- whatever a segment takes is a multiple of 8
pub sizes-whole : (types : List SegmentType) (bytes : List ℕ) (place : ℕ) → size_at (stored_sizes types) bytes place % 8 ≡ 0
sizes-whole types bytes place =
    ap (λ (s : SegmentSize). size_by s bytes place % 8) (stored_sizes-at types (slice_index bytes place)) ∙ whole-of types bytes place (slice_index bytes place) (type_of types (slice_index bytes place))

-- and fits into a block behind its first 8 bytes
pub sizes-fit : (block_size : ℕ) (frspc : FreeSpace) (types : List SegmentType) (bytes : List ℕ) (place : ℕ) → IsTrue (well_formed block_size frspc types)
    → size_at (stored_sizes types) bytes place + 8 ≤ block_size
sizes-fit block_size frspc types bytes place fit = elim (cases_lt (size_at (stored_sizes types) bytes place) 8) [
  | inl few ↦ (let bounds = block_size-bounds block_size frspc types fit in omega (arith, bounds.0))
  | inr some ↦
      (let has = own-size types bytes place (size_at (stored_sizes types) bytes place) some refl in
      let c : ℕ = slice_index bytes place in
      let greatest : stored_size types c ≡ size_with types c has.type.length = ap (λ (o : Option SegmentType). option_map_or (λ t. size_with types c t.length) o 0) has.is in
      let fits = stored_size-fits block_size frspc types c fit in
      omega (arith, has.size, has.most, greatest, fits))
]

-- two that have one code, and one number behind the prefix of that code's segments, take as many
size-said-same : (types : List SegmentType) (s t : List ℕ) (c : ℕ) (u : SegmentType) (o : Option ℕ) → ((k : ℕ) → k < 2 → slice_index (drop (prefix_length types c) t) k ≡ slice_index (drop (prefix_length types c) s) k)
    → size_by (option_map_or (λ least. Varying (prefix_length types c) least u.length) o (Fixed (stored_size types c))) t 0
    ≡ size_by (option_map_or (λ least. Varying (prefix_length types c) least u.length) o (Fixed (stored_size types c))) s 0
size-said-same types s t c u None said = refl
size-said-same types s t c u (Some l) said =
    let start : 0 + prefix_length types c ≡ prefix_length types c = omega arith in
    let high : slice_index (drop (prefix_length types c) t) 0 ≡ slice_index (drop (prefix_length types c) s) 0 = said 0 (omega arith) in
    let low : slice_index (drop (prefix_length types c) t) 1 ≡ slice_index (drop (prefix_length types c) s) 1 = said 1 (omega arith) in
    ap (size_said (prefix_length types c) l u.length)
    (ap (number_at 2 t) start ∙ said-number t (prefix_length types c) ∙ ap (λ (n : ℕ). n * 256 + slice_index (drop (prefix_length types c) t) 1) high
    ∙ ap (λ (n : ℕ). slice_index (drop (prefix_length types c) s) 0 * 256 + n) low ∙ sym (ap (number_at 2 s) start ∙ said-number s (prefix_length types c)))

size-code-same : (types : List SegmentType) (s t : List ℕ) (c : ℕ) (o : Option SegmentType) → ((k : ℕ) → k < 2 → slice_index (drop (prefix_length types c) t) k ≡ slice_index (drop (prefix_length types c) s) k)
    → size_by (option_map_or (λ u. size_of_type types c u) o (Fixed 0)) t 0 ≡ size_by (option_map_or (λ u. size_of_type types c u) o (Fixed 0)) s 0
size-code-same types s t c None said = refl
size-code-same types s t c (Some u) said = size-said-same types s t c u u.least said

pub size-by-said : (types : List SegmentType) (s t : List ℕ) → slice_index t 0 ≡ slice_index s 0
    → ((k : ℕ) → k < 2 → slice_index (drop (prefix_length types (slice_index s 0)) t) k ≡ slice_index (drop (prefix_length types (slice_index s 0)) s) k)
    → size_at (stored_sizes types) t 0 ≡ size_at (stored_sizes types) s 0
size-by-said types s t code said =
    ap (λ (c : ℕ). size_by (slice_index_or (stored_sizes types) c (Fixed 0)) t 0) code
    ∙ ap (λ (z : SegmentSize). size_by z t 0) (stored_sizes-at types (slice_index s 0))
    ∙ size-code-same types s t (slice_index s 0) (type_of types (slice_index s 0)) said
    ∙ sym (ap (λ (z : SegmentSize). size_by z s 0) (stored_sizes-at types (slice_index s 0)))

said-size : (prefix least most said n : ℕ) → 2 ≤ said → least ≤ said → said ≤ most → n ≡ rounded_up (prefix + said) → size_said prefix least most said ≡ n
said-size prefix least most said n two low high is =
    cond-true (nat_le 2 said && nat_le least said && nat_le said most) (rounded_up (prefix + said)) 0
    (and_from _ _ (and_from _ _ (le-leb 2 said two) (le-leb least said low)) (le-leb said most high)) ∙ sym is

size-from-type : (types : List SegmentType) (s : List ℕ) (c : ℕ) (t : SegmentType) (o : Option ℕ) → type_of types c ≡ Some t → t.least ≡ o → ((n : ℕ) → o ≡ Some n → 2 ≤ n)
    → least_length t ≤ own_length t (drop (prefix_length types c) s) → own_length t (drop (prefix_length types c) s) ≤ t.length
    → size_by (option_map_or (λ least. Varying (prefix_length types c) least t.length) o (Fixed (stored_size types c))) s 0 ≡ size_with types c (own_length t (drop (prefix_length types c) s))
size-from-type types s c t None typed is two low high =
    ap (λ (o : Option SegmentType). option_map_or (λ u. size_with types c u.length) o 0) typed
    ∙ ap (size_with types c) (sym (ap (λ (o : Option ℕ). option_map_or (λ _. said_length (drop (prefix_length types c) s)) o t.length) is))
size-from-type types s c t (Some l) typed is two low high =
    let start : 0 + prefix_length types c ≡ prefix_length types c = omega arith in
    let own : own_length t (drop (prefix_length types c) s) ≡ said_length (drop (prefix_length types c) s) =
    ap (λ (o : Option ℕ). option_map_or (λ _. said_length (drop (prefix_length types c) s)) o t.length) is in
    let said : number_at 2 s (0 + prefix_length types c) ≡ own_length t (drop (prefix_length types c) s) = ap (number_at 2 s) start ∙ said-number s (prefix_length types c) ∙ sym own in
    let least : least_length t ≡ l = ap (λ (o : Option ℕ). option_map_or (λ k. k) o t.length) is in
    let enough : 2 ≤ l = two l refl in
    said-size (prefix_length types c) l t.length (number_at 2 s (0 + prefix_length types c)) (size_with types c (own_length t (drop (prefix_length types c) s)))
    (omega (arith, said, least, low, enough)) (omega (arith, said, least, low)) (omega (arith, said, high)) (ap (size_with types c) (sym said))

-- a segment whose type may have as many bytes as those behind its prefix say takes these and its prefix
pub size-own : (types : List SegmentType) (s : List ℕ) (t : SegmentType) → type_of types (slice_index s 0) ≡ Some t → ((n : ℕ) → t.least ≡ Some n → 2 ≤ n)
    → least_length t ≤ own_length t (drop (prefix_length types (slice_index s 0)) s) → own_length t (drop (prefix_length types (slice_index s 0)) s) ≤ t.length
    → size_at (stored_sizes types) s 0 ≡ size_with types (slice_index s 0) (own_length t (drop (prefix_length types (slice_index s 0)) s))
size-own types s t typed two low high =
    ap (λ (z : SegmentSize). size_by z s 0) (stored_sizes-at types (slice_index s 0))
    ∙ ap (λ (o : Option SegmentType). size_by (option_map_or (λ u. size_of_type types (slice_index s 0) u) o (Fixed 0)) s 0) typed
    ∙ size-from-type types s (slice_index s 0) t t.least typed refl two low high
