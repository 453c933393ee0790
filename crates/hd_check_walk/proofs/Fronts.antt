-- The fronts of keys, which tell their order where they differ.
use Rattle.std.proofs.Common.{◌≡◌, ℕ, zero, suc, ◌<◌, ◌≤◌, List, [], ◌∷◌, ◌++◌, length, take, drop, Bool, true, false, cond, Option, Some, None, refl, sym, ap, ◌∙◌, arith, get_or, w64}
use Rattle.std.specs.Int.{from_be_bytes, to_be_bytes}
use Rattle.std.specs.Prelude.{replicate, ◌==◌, nat_lt}
use Rattle.std.specs.Option.{option_map_or}
use Rattle.std.specs.Ordering.{nat_cmp, is_lt, is_le, ordering_then}
use Rattle.std.specs.Cmp.Lexicographic.{slice_cmp}
use Rattle.std.specs.declared.cmp.Ordering.{Ordering}
use Rattle.std.specs.declared.cmp.Ordering.TheVariants.{Less, Equal, Greater}
use Rattle.std.proofs.lemmas.Bool.{le-ltb, false≢true}
use Rattle.std.proofs.lemmas.List.{take_all}
use Rattle.std.proofs.lemmas.Nat.{be_bytes_8}
use Rattle.hd_dbd.specs.declared.hierarchy.Key.{Key}
use Rattle.hd_dbd.specs.Types.{SegmentType}
use Rattle.hd_dbd.specs.KeyNumbers.{with_zeros, IsNumberOf}
use Rattle.hd_dbd.specs.Segment.{Segment}
use Rattle.hd_dbd.specs.Hierarchy.{Database, type_of}
use Rattle.hd_dbd.specs.Rows.{key_of, twins_in_order}
use Rattle.hd_volume.specs.Volumes.{VolumeState}
use Rattle.hd_links.specs.Links.{segment_at}
use Rattle.hd_links.proofs.Types.{row_type}
use Rattle.hd_image.specs.Records.{links_of, IsVolumeOf}
use Rattle.hd_image.proofs.Found.{segment-found, row-found}
use Rattle.hd_check_pointers.specs.Keys.{is_keyed}
use Rattle.hd_check_pointers.proofs.KeyOrder.{twins-by, unkeyed}
use Rattle.hd_check_walk.specs.declared.twins.Twin.{Twin}
use Rattle.hd_check_walk.specs.Reading.{key_front}
use Rattle.hd_check_walk.specs.Twins.{HaveFronts, IsKeyBehind}

-- so many bytes of a list, zeros behind a shorter one
abbrev padded : ℕ → List ℕ → List ℕ
padded zero xs = []
padded (suc n) [] = 0 ∷ padded n []
padded (suc n) (x ∷ xs) = x ∷ padded n xs

-- they are the first of those of the list with as many zeros behind it
padded-is : (n k : ℕ) (xs : List ℕ) → n ≤ k → padded n xs ≡ take n (xs ++ replicate k 0)
padded-is zero k xs less = refl
padded-is (suc n) zero xs less = absurd (omega arith)
padded-is (suc n) (suc k) [] less = ap (λ (ys : List ℕ). 0 ∷ ys) (padded-is n k [] (omega arith))
padded-is (suc n) (suc k) (x ∷ xs) less = ap (λ (ys : List ℕ). x ∷ ys) (padded-is n (suc k) xs (omega arith))

-- zeros are copied where there is nothing
zeros-padded : (n : ℕ) → replicate n 0 ≡ padded n []
zeros-padded zero = refl
zeros-padded (suc n) = ap (λ (ys : List ℕ). 0 ∷ ys) (zeros-padded n)

-- a list that is copied over zeros, as far as it or they go
copied-padded : (n k : ℕ) (xs : List ℕ) → k ≤ n → k ≤ length xs → (k < n → length xs ≤ k) → take k xs ++ drop k (replicate n 0) ≡ padded n xs
copied-padded zero zero xs low within all = refl
copied-padded zero (suc k) xs low within all = absurd (omega arith)
copied-padded (suc n) zero [] low within all = zeros-padded (suc n)
copied-padded (suc n) zero (x ∷ xs) low within all = absurd (let none = all (omega arith) in omega arith)
copied-padded (suc n) (suc k) [] low within all = absurd (omega arith)
copied-padded (suc n) (suc k) (x ∷ xs) low within all =
    ap (λ (ys : List ℕ). x ∷ ys) (copied-padded n k xs (omega arith) (omega arith) (λ l. let more = all (omega arith) in omega arith))

-- a key that is copied over eight zeros makes its front
pub copied-front : (k : ℕ) (key : List ℕ) → k ≤ 8 → k ≤ length key → (k < 8 → length key ≤ k) → take k key ++ drop k (replicate 8 0) ≡ key_front key
copied-front k key low within all = copied-padded 8 k key low within all ∙ padded-is 8 8 key (omega arith)

-- so many bytes, zeros behind, are as many
padded-long : (n : ℕ) (xs : List ℕ) → length (padded n xs) ≡ n
padded-long zero xs = refl
padded-long (suc n) [] = ap suc (padded-long n [])
padded-long (suc n) (x ∷ xs) = ap suc (padded-long n xs)

-- and bytes where those are
padded-small : (n : ℕ) (xs : List ℕ) → ((i : ℕ) → get_or xs i 0 < 256) → (i : ℕ) → get_or (padded n xs) i 0 < 256
padded-small zero xs small i = omega arith
padded-small (suc n) [] small zero = omega arith
padded-small (suc n) [] small (suc i) = padded-small n [] small i
padded-small (suc n) (x ∷ xs) small zero = small 0
padded-small (suc n) (x ∷ xs) small (suc i) = padded-small n xs (λ j. small (suc j)) i

-- the bytes of a key's number are its front
pub number-front : (key : List ℕ) (number : ℕ) → length key ≤ 8 → ((i : ℕ) → get_or key i 0 < 256) → IsNumberOf (length key) key number → to_be_bytes w64 number ≡ key_front key
number-front key number short small of =
    let long : length (padded 8 key) ≡ 8 = padded-long 8 key in
    let zeros : with_zeros key ≡ padded 8 key = ap (λ (xs : List ℕ). xs ++ drop (length key) (replicate 8 0)) (sym (take_all (length key) key (omega arith)))
    ∙ copied-padded 8 (length key) key short (omega arith) (λ l. omega arith) in
    let whole : take 8 (with_zeros key) ≡ padded 8 key = ap (take 8) zeros ∙ take_all 8 (padded 8 key) (omega arith) in
    be_bytes_8 (padded 8 key) number long (padded-small 8 key small) (of.is ∙ ap (from_be_bytes w64) whole) ∙ padded-is 8 8 key (omega arith)

-- where the first elements do not decide, the rest does
then-less : (o a b : Ordering) → (a ≡ Less → b ≡ Less) → ordering_then o a ≡ Less → ordering_then o b ≡ Less
then-less Less a b more h = refl
then-less Equal a b more h = more h
then-less Greater a b more h = cc

-- no number is below 0
not-below : (below same : Bool) (a : Ordering) → below ≡ false → ordering_then (cond below Less (cond same Equal Greater)) a ≡ Less → a ≡ Less
not-below true same a not h = absurd (false≢true (sym not))
not-below false true a not h = h
not-below false false a not h = cc

-- what is below nothing is below all
below-none : (xs : List ℕ) (o : Ordering) → slice_cmp nat_cmp xs [] ≡ Less → o ≡ Less
below-none [] o h = cc
below-none (x ∷ xs) o h = cc

-- lists are in order where so many bytes of them are
less-padded : (n : ℕ) (xs ys : List ℕ) → slice_cmp nat_cmp (padded n xs) (padded n ys) ≡ Less → slice_cmp nat_cmp xs ys ≡ Less
less-padded zero xs ys h = cc
less-padded (suc n) [] [] h = less-padded n [] [] h
less-padded (suc n) [] (y ∷ ys) h = refl
less-padded (suc n) (x ∷ xs) [] h =
    below-none xs Greater (less-padded n xs [] (not-below (nat_lt x 0) (x == 0) (slice_cmp nat_cmp (padded n xs) (padded n [])) (le-ltb x 0 (omega arith)) h))
less-padded (suc n) (x ∷ xs) (y ∷ ys) h = then-less (nat_cmp x y) _ _ (less-padded n xs ys) h

-- keys are in order where their fronts are
front-less : (p r : List ℕ) → slice_cmp nat_cmp (key_front p) (key_front r) ≡ Less → slice_cmp nat_cmp p r ≡ Less
front-less p r h =
    less-padded 8 p r (ap (λ (xs : List ℕ). slice_cmp nat_cmp xs (padded 8 r)) (padded-is 8 8 p (omega arith)) ∙ ap (slice_cmp nat_cmp (key_front p)) (padded-is 8 8 r (omega arith)) ∙ h)

-- what is below may stand before, whether keys are unique or not
less-before : (unique : Bool) (o : Ordering) → o ≡ Less → cond unique (is_lt o) (is_le o) ≡ true
less-before true o h = ap is_lt h
less-before false o h = ap is_le h

-- a key that is below another may stand before it, or there is none
key-before : (key : Option Key) (o : Ordering) → o ≡ Less → option_map_or (λ k. cond k.unique (is_lt o) (is_le o)) key true ≡ true
key-before None o h = refl
key-before (Some k) o h = less-before k.unique o h

-- twins are in order where the fronts of their keys are
pub fronts-tell : (types : List SegmentType) (p r : Segment) (t : SegmentType) (one other : List ℕ) → type_of types r.code ≡ Some t → p.code ≡ r.code
    → one ≡ key_front (key_of types p) → other ≡ key_front (key_of types r) → slice_cmp nat_cmp one other ≡ Less → twins_in_order types p r ≡ true
fronts-tell types p r t one other is same own after less =
    let o : Ordering = slice_cmp nat_cmp (key_of types p) (key_of types r) in
    let below : o ≡ Less = front-less (key_of types p) (key_of types r)
    (ap (λ (xs : List ℕ). slice_cmp nat_cmp xs (key_front (key_of types r))) (sym own) ∙ ap (slice_cmp nat_cmp one) (sym after) ∙ less) in
    sym (twins-by types p r r.code same refl)
    ∙ ap (λ (u : Option SegmentType). option_map_or (λ t. option_map_or (λ k. cond k.unique (is_lt o) (is_le o)) t.key true) u false) is
    ∙ key-before t.key o below

module _ (d : Database) (v : VolumeState) (code : ℕ) (before twin : Twin) (of : IsVolumeOf d v) (are : HaveFronts d.types (links_of d.types v) code before twin) where
  -- the second twin has a type
  typed : (t : SegmentType) × (type_of d.types ((links_of d.types v).code twin.address) ≡ Some t)
  typed = row_type d.types (segment_at (links_of d.types v) twin.address) (row-found d v twin.address (segment-found d v twin.address of.fit of are.1.here) of.fit)

  -- the key of the second may come behind that of the first where the fronts are less
  pub fronts-told : slice_cmp nat_cmp before.front twin.front ≡ Less → IsKeyBehind d.types (links_of d.types v) before.address twin.address
  fronts-told less =
      fronts-tell d.types (segment_at (links_of d.types v) before.address) (segment_at (links_of d.types v) twin.address) typed.0 before.front twin.front typed.1
      (are.0.typed ∙ sym are.1.typed) are.0.front_is are.1.front_is less

  -- and where the type has no key
  pub unkeyed-told : is_keyed d.types code ≡ false → IsKeyBehind d.types (links_of d.types v) before.address twin.address
  unkeyed-told none =
      unkeyed d.types (segment_at (links_of d.types v) before.address) (segment_at (links_of d.types v) twin.address) typed.0 typed.1 (ap (is_keyed d.types) are.1.typed ∙ none)
