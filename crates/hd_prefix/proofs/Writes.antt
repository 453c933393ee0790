-- A field of a segment is written, and the others stay.
use Rattle.std.proofs.Common.{◌≡◌, ℕ, suc, ◌+◌, ◌*◌, ◌^◌, slice_index, ◌<◌, ◌≤◌, ◌≢◌, ◌⊎◌, List, length, take, drop, ◌-◌, arith, ap, sym, ◌∙◌, refl, subst, Option, Some, None, inl, inr}
use Rattle.std.specs.Prelude.{IfSome, OnSome, MatchOption}
use Rattle.std.specs.Option.{option_map_or}
use Rattle.std.proofs.lemmas.List.{ext_get_or, length-drop, get_or-drop}
use Rattle.hd_bytes.specs.Ranges.{bytes_at, with_bytes, ChangesOnly}
use Rattle.hd_bytes.specs.Numbers.{number_at}
use Rattle.hd_bytes.proofs.NumberLemmas.{number-below, number-above, changes-with, length-with}
use Rattle.hd_bytes.proofs.BlockLemmas.{byte-at, bytes-with}
use Rattle.hd_dbd.specs.Types.{SegmentType}
use Rattle.hd_dbd.specs.Lengths.{length_in}
use Rattle.hd_dbd.specs.Prefixes.{prefix_length}
use Rattle.hd_prefix.specs.declared.pointer.Pointer.{Pointer}
use Rattle.hd_prefix.specs.Pointers.{place_of, IsApart}
use Rattle.hd_prefix.specs.Fields.{pointer_of, bytes_of, IsPointerSet}

-- the address in a pointer that is kept
pub pointer_at : (types : List SegmentType) (c : ℕ) (pointer : Pointer) (x : ℕ) (segment : List ℕ) → place_of types c pointer ≡ Some x
    → pointer_of types c pointer segment ≡ number_at 4 segment x
pointer_at types c pointer x segment is = ap (λ (o : Option ℕ). option_map_or (λ place. number_at 4 segment place) o 0) is

-- a pointer that a change of other bytes does not touch
pub number_beside : (x n y : ℕ) (old new : List ℕ) → ChangesOnly x n old new → (x + n ≤ y) ⊎ (y + 4 ≤ x) → number_at 4 new y ≡ number_at 4 old y
number_beside x n y old new changes (inl below) = number-above 4 y changes below
number_beside x n y old new changes (inr above) = number-below 4 y changes above

other_by : (x : ℕ) (old new : List ℕ) (o : Option ℕ) → ChangesOnly x 4 old new → IfSome o (λ y. IsApart x y)
    → option_map_or (λ place. number_at 4 new place) o 0 ≡ option_map_or (λ place. number_at 4 old place) o 0
other_by x old new None changes apart = refl
other_by x old new (Some y) changes apart = number_beside x 4 y old new changes apart

-- what stands behind a change stays
behind_kept : (p x n : ℕ) (old new : List ℕ) → x + n ≤ p → ChangesOnly x n old new → drop p new ≡ drop p old
behind_kept p x n old new inside changes =
    ext_get_or 0 (drop p new) (drop p old) (length-drop p new ∙ ap (λ (l : ℕ). l - p) changes.len ∙ sym (length-drop p old))
    (λ k low. get_or-drop p new k 0 ∙ changes.above (p + k) (omega (arith, inside)) ∙ sym (get_or-drop p old k 0))

-- the segment's own bytes stay where nothing behind the prefix changes
bytes_kept : (types : List SegmentType) (c x n : ℕ) (old new : List ℕ) → x + n ≤ prefix_length types c → ChangesOnly x n old new
    → bytes_of types c new ≡ bytes_of types c old
bytes_kept types c x n old new inside changes =
    ap (λ (behind : List ℕ). take (length_in types c behind) behind) (behind_kept (prefix_length types c) x n old new inside changes)

-- a change of the four bytes of a pointer is a write of that pointer alone
pub pointer_set : (types : List SegmentType) (c : ℕ) (pointer : Pointer) (x address : ℕ) (old new : List ℕ) → place_of types c pointer ≡ Some x
    → (2 ≤ x) × (x + 4 ≤ prefix_length types c) → ((other : Pointer) → other ≢ pointer → IfSome (place_of types c other) (λ y. IsApart x y))
    → ChangesOnly x 4 old new → number_at 4 new x ≡ address → IsPointerSet types c pointer address old new
pointer_set types c pointer x address old new is inside apart changes reads =
    let low = inside.0 in
    record {
      len = changes.len;
      is = pointer_at types c pointer x new is ∙ reads;
      others = λ other ne. other_by x old new (place_of types c other) changes (apart other ne);
      code = changes.below 0 (omega arith);
      delete_byte = changes.below 1 (omega arith);
      bytes = bytes_kept types c x 4 old new inside.1 changes;
    }

-- the number in bytes that were put at a place
number_put : (x : ℕ) (bytes old : List ℕ) → x + length bytes ≤ length old → length bytes ≡ 4 → number_at 4 (with_bytes old x bytes) x ≡ number_at 4 bytes 0
unfolding number_at
number_put x bytes old room four =
    let all : List ℕ = with_bytes old x bytes in
    let there : bytes_at all x (length bytes) ≡ bytes = bytes-with old bytes x room in
    let len : length all ≡ length old = length-with old bytes x room in
    let byte : (j : ℕ) → j < 4 → slice_index all (x + j) ≡ slice_index bytes j = λ (j : ℕ) (low : j < 4).
    sym (byte-at all x (length bytes) j (omega arith) (omega arith)) ∙ ap (λ (b : List ℕ). slice_index b j) there in
    same _ _ _ _ _ _ _ _ (ap (slice_index all) (zero_more x) ∙ byte 0 (omega arith)) (ap (slice_index all) (one_more x) ∙ byte 1 (omega arith)) (ap (slice_index all) (two_more x) ∙ byte 2 (omega arith)) (ap (slice_index all) (three_more x) ∙ byte 3 (omega arith))
  where
    zero_more : (n : ℕ) → n ≡ n + 0
    zero_more n = omega arith

    one_more : (n : ℕ) → suc n ≡ n + 1
    one_more n = omega arith

    two_more : (n : ℕ) → suc (suc n) ≡ n + 2
    two_more n = omega arith

    three_more : (n : ℕ) → suc (suc (suc n)) ≡ n + 3
    three_more n = omega arith

    same : (a b d e f g h i : ℕ) → a ≡ f → b ≡ g → d ≡ h → e ≡ i
        → a * 256 ^ 3 + (b * 256 ^ 2 + (d * 256 ^ 1 + (e * 256 ^ 0 + 0))) ≡ f * 256 ^ 3 + (g * 256 ^ 2 + (h * 256 ^ 1 + (i * 256 ^ 0 + 0)))
    same a b d e f g h i p q r s = cc

-- what a clause says of the value in an `Option` whose value is known
pub match_some : {A : Type 0} (o : Option A) (x : A) (P : Type 0) (Q : A → Type 0) → o ≡ Some x → Q x → MatchOption o P Q
match_some o x P Q is holds = subst (λ z. MatchOption z P Q) (sym is) holds

-- the same, of four bytes that are put at the place
pub pointer_with : (types : List SegmentType) (c : ℕ) (pointer : Pointer) (x : ℕ) (bytes old : List ℕ) → place_of types c pointer ≡ Some x
    → (2 ≤ x) × (x + 4 ≤ prefix_length types c) → ((other : Pointer) → other ≢ pointer → IfSome (place_of types c other) (λ y. IsApart x y))
    → prefix_length types c ≤ length old → length bytes ≡ 4 → IsPointerSet types c pointer (number_at 4 bytes 0) old (with_bytes old x bytes)
pointer_with types c pointer x bytes old is inside apart long four =
    let room : x + length bytes ≤ length old = sums _ _ _ _ inside.1 long four in
    let changes : ChangesOnly x 4 old (with_bytes old x bytes) = subst (λ (n : ℕ). ChangesOnly x n old (with_bytes old x bytes)) four (changes-with old bytes x room) in
    pointer_set types c pointer x (number_at 4 bytes 0) old (with_bytes old x bytes) is inside apart changes (number_put x bytes old room four)
  where
    sums : (x p l b : ℕ) → x + 4 ≤ p → p ≤ l → b ≡ 4 → x + b ≤ l
    sums x p l b e f g = omega arith

pub on_some : {A : Type 0} (o : Option A) (x : A) (P : Type 0) → o ≡ Some x → P → OnSome o P
on_some o x P is holds = subst (λ z. OnSome z P) (sym is) holds
