-- The first of a row and its later twins whose key is not below a key.
use Rattle.std.proofs.Common.{◌≡◌, ℕ, zero, suc, ◌+◌, ◌-◌, ◌<◌, ◌≤◌, List, length, Bool, true, false, Option, Some, None, refl, sym, ap, ap₂, subst, ◌∙◌, arith}
use Rattle.std.specs.Prelude.{◌&&◌, ◌||◌, ◌==◌, not}
use Rattle.std.specs.Option.{option_map_or}
use Rattle.std.proofs.lemmas.Bool.{and_from, eq-eqb, ne_eqb, or_right}
use Rattle.hd_dbd.specs.Types.{SegmentType}
use Rattle.hd_dbd.specs.Paths.{row_at, is_twin}
use Rattle.hd_dbd.specs.Searches.{first_from}
use Rattle.hd_dbd.specs.Forest.{Forest}
use Rattle.hd_links.specs.Links.{Links, segment_at}
use Rattle.hd_links.specs.Placed.{Placed}
use Rattle.hd_links.specs.Steps.{rows_of, address_at}
use Rattle.hd_forest.specs.Twins.{twin_after, is_key_below, AreTwinsBelow, IsTwinFrom}
use Rattle.hd_calls.proofs.Searches.{least_some, least_no, skipped}
use Rattle.hd_calls.specs.SearchTwins.{next_twin}
use Rattle.hd_get.specs.Asking.{is_from, address_from}
use Rattle.hd_get.proofs.Grounds.{Grounds}
use Rattle.hd_get.proofs.LastTwins.{same_twins}
use Rattle.hd_get.proofs.Turns.{none_from, here_from}

module _ (types : List SegmentType) (m : Links) (f : Forest Placed) (G : Grounds types m f) (key : List ℕ) (i r : ℕ) (ends : 0 < r → is_key_below types key (segment_at m r) ≡ false) where
  -- a later row that is no twin is not looked for
  no_twin : (j : ℕ) → i < j → is_twin types (rows_of f) i j ≡ false → is_from types (rows_of f) key i j ≡ false
  no_twin j behind none =
      ap₂ (λ x y. (x || y) && not (is_key_below types key (row_at (rows_of f) j))) (ne_eqb i j (λ (e : i ≡ j). absurd (omega arith))) none

  -- nor is one whose key is below
  is_below : (k : ℕ) → is_key_below types key (row_at (rows_of f) k) ≡ true → is_from types (rows_of f) key i k ≡ false
  is_below k below = ap (λ x. (i == k || is_twin types (rows_of f) i k) && not x) below ∙ and_no (i == k || is_twin types (rows_of f) i k)
    where
      and_no : (b : Bool) → (b && false) ≡ false
      and_no true = refl
      and_no false = refl

  -- so many twins from row k on have keys below the key, and the next is the one that is looked for
  walks : (n k : ℕ) → k < length (rows_of f) → i ≤ k → (i == k || is_twin types (rows_of f) i k) ≡ true → ((j : ℕ) → is_twin types (rows_of f) k j ≡ is_twin types (rows_of f) i j)
      → AreTwinsBelow types m key n (address_at f k) → twin_after m n (address_at f k) ≡ r
      → r ≡ option_map_or (λ j. address_at f j) (first_from (is_from types (rows_of f) key i) k (length (rows_of f))) 0
  walks zero k l low own twins below is =
      let there : 0 < address_at f k = (G.addressed.there k l).some in
      let not_below : is_key_below types key (row_at (rows_of f) k) ≡ false
      = ap (is_key_below types key) (sym (G.addressed.same k l) ∙ ap (segment_at m) is) ∙ ends (subst (λ x. 0 < x) is there) in
      sym is
      ∙ sym (ap (λ (o : Option ℕ). option_map_or (λ j. address_at f j) o 0)
      (here_from (is_from types (rows_of f) key i) k k (length (rows_of f)) (omega arith) l (λ j a b. absurd (omega arith)) (and_from _ _ own (ap not not_below))))
  walks (suc n) k l low own twins below is = by_next (next_twin types (rows_of f) k) refl (λ t tl tow town ttwins tbelow tis. walks n t tl tow town ttwins tbelow tis)
    where
      self : is_key_below types key (row_at (rows_of f) k) ≡ true
      self = ap (is_key_below types key) (sym (G.addressed.same k l)) ∙ below.1

      passes : (t : ℕ) → k < t → ((j : ℕ) → k < j → j < t → is_twin types (rows_of f) k j ≡ false)
          → first_from (is_from types (rows_of f) key i) k (length (rows_of f)) ≡ first_from (is_from types (rows_of f) key i) t (length (rows_of f))
      passes t behind none =
          skipped (is_from types (rows_of f) key i) k (k + 1) (length (rows_of f)) (omega arith) (λ j a b. is_below j (subst (λ x. is_key_below types key (row_at (rows_of f) x) ≡ true) (let z : k ≡ j = omega arith in z) self))
          ∙ skipped (is_from types (rows_of f) key i) (k + 1) t (length (rows_of f)) (omega arith) (λ j a b. no_twin j (omega arith) (sym (twins j) ∙ none j (omega arith) b))

      -- no twin is left
      no_more : (n : ℕ) → m.forward (address_at f k) ≡ 0 → AreTwinsBelow types m key n (m.forward (address_at f k)) → twin_after m n (m.forward (address_at f k)) ≡ r → r ≡ 0
      no_more zero none more is = sym is ∙ none
      no_more (suc n) none more is = absurd (let some : 0 < m.forward (address_at f k) = more.0.some in omega arith)

      by_next : (o : Option ℕ) → next_twin types (rows_of f) k ≡ o
          → ((t : ℕ) → t < length (rows_of f) → i ≤ t → (i == t || is_twin types (rows_of f) i t) ≡ true → ((j : ℕ) → is_twin types (rows_of f) t j ≡ is_twin types (rows_of f) i j)
          → AreTwinsBelow types m key n (address_at f t) → twin_after m n (address_at f t) ≡ r
          → r ≡ option_map_or (λ j. address_at f j) (first_from (is_from types (rows_of f) key i) t (length (rows_of f))) 0)
          → r ≡ option_map_or (λ j. address_at f j) (first_from (is_from types (rows_of f) key i) k (length (rows_of f))) 0
      by_next None e more =
          (let none : m.forward (address_at f k) ≡ 0 = (G.steps k l).twin ∙ ap (λ (o : Option ℕ). option_map_or (λ x. address_at f x) o 0) e in
          no_more n none below.2 is
          ∙ sym (ap (λ (o : Option ℕ). option_map_or (λ j. address_at f j) o 0)
          (skipped (is_from types (rows_of f) key i) k (k + 1) (length (rows_of f)) (omega arith) (λ j a b. is_below j (subst (λ x. is_key_below types key (row_at (rows_of f) x) ≡ true) (let z : k ≡ j = omega arith in z) self))
          ∙ none_from (is_from types (rows_of f) key i) (k + 1) (length (rows_of f))
          (λ j a b. no_twin j (omega arith) (sym (twins j) ∙ least_no (λ x. is_twin types (rows_of f) k x) (length (rows_of f) - (k + 1)) (k + 1) e j a (omega arith))))))
      by_next (Some t) e more =
          (let L = least_some (λ x. is_twin types (rows_of f) k x) (length (rows_of f) - (k + 1)) (k + 1) t e in
          let a : k + 1 ≤ t = L.0 in
          let b : t < k + 1 + (length (rows_of f) - (k + 1)) = L.1 in
          let twin : is_twin types (rows_of f) i t ≡ true = sym (twins t) ∙ L.2 in
          let forward : m.forward (address_at f k) ≡ address_at f t = (G.steps k l).twin ∙ ap (λ (o : Option ℕ). option_map_or (λ x. address_at f x) o 0) e in
          more t (omega arith) (omega arith) (or_right (i == t) (is_twin types (rows_of f) i t) twin) (λ j. same_twins types (rows_of f) i t j twin)
          (subst (AreTwinsBelow types m key n) forward below.2) (ap (twin_after m n) (sym forward) ∙ is)
          ∙ sym (ap (λ (o : Option ℕ). option_map_or (λ j. address_at f j) o 0) (passes t (omega arith) (λ j c d. L.3 j (omega arith) d))))

-- what comes of the twins from a row on is the address that is looked for
pub from_row : (types : List SegmentType) (m : Links) (f : Forest Placed) → Grounds types m f → (key : List ℕ) (i r : ℕ) → i < length (rows_of f) → IsTwinFrom types m key (address_at f i) r
    → r ≡ address_from types f key i
from_row types m f G key i r within T =
    walks types m f G key i r T.ends T.after i within (omega arith) (or_own (i == i) (is_twin types (rows_of f) i i) (eq-eqb i i refl)) (λ j. refl) T.below T.is
  where
    or_own : (a b : Bool) → a ≡ true → (a || b) ≡ true
    or_own a b e = ap (λ x. x || b) e
