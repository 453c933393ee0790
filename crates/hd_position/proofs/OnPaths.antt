-- In a span just those rows stand that have its row's address on their path.
use Rattle.std.proofs.Common.{◌≡◌, ℕ, zero, suc, ◌+◌, ◌<◌, ◌≤◌, List, [], ◌∷◌, length, Bool, true, false, ap, sym, ◌∙◌, arith, inl, inr, refl, Option, Some, None, ◌&&◌}
use Rattle.std.specs.Prelude.{◌==◌, nat_le, nat_lt, slice_get, option_map, is_some}
use Rattle.std.specs.List.{list_any}
use Rattle.std.specs.Option.{option_eq}
use Rattle.std.proofs.lemmas.Bool.{cases_Bool, eq-eqb, ne_eqb, or_left, or_right, false≢true, leb-true, ltb-true, and_parts}
use Rattle.std.proofs.lemmas.List.{length-append, length-map}
use Rattle.hd_dbd.specs.declared.hierarchy.FreeSpace.{FreeSpace}
use Rattle.hd_dbd.specs.Types.{SegmentType}
use Rattle.hd_dbd.specs.Segment.{Segment}
use Rattle.hd_dbd.specs.Paths.{level_at, path_above, path_of, end_of}
use Rattle.hd_dbd.specs.Forest.{Forest}
use Rattle.hd_links.specs.Links.{Links}
use Rattle.hd_links.specs.Placed.{Placed}
use Rattle.hd_links.specs.Steps.{rows_of, address_at, path_at, RowsHaveAddresses}
use Rattle.hd_links.proofs.Numbers.{rows_addressed}
use Rattle.hd_calls.proofs.Spans.{IsEnd, end_is}
use Rattle.hd_calls.proofs.PathSpans.{spans_below}
use Rattle.hd_position.specs.Kept.{row_on}
use Rattle.hd_position.specs.Laws.{IsHeld, SpansAreOnPaths}
use Rattle.hd_position.proofs.Lists.{got_behind}
use Rattle.hd_position.proofs.Splices.{AllBelow, above_below, below_end, below_more}
use Rattle.hd_position.proofs.Rising.{row_on_map}
use Rattle.hd_position.proofs.Falling.{span_path, get_below}
use Rattle.hd_position.proofs.Before.{path_levels}

-- what is got from a list is in it
got_is_in : (x : ℕ) (xs : List ℕ) (l : ℕ) → slice_get xs l ≡ Some x → list_any (λ j. j == x) xs ≡ true
got_is_in x [] l e = absurd (false≢true (ap is_some e))
got_is_in x (y ∷ ys) zero e = or_left (y == x) (list_any (λ j. j == x) ys) (eq-eqb y x (some_is y e))
  where
    some_is : (y : ℕ) → Some y ≡ Some x → y ≡ x
    some_is y q = cc
got_is_in x (y ∷ ys) (suc l) e = or_right (y == x) (list_any (λ j. j == x) ys) (got_is_in x ys l e)

row_is_in : (x : ℕ) (xs : List ℕ) (l : ℕ) → row_on xs l ≡ Some x → list_any (λ j. j == x) xs ≡ true
row_is_in x xs zero e = absurd (false≢true (ap is_some e))
row_is_in x xs (suc l) e = got_is_in x xs l e

module _ (block_size : ℕ) (frspc : FreeSpace) (types : List SegmentType) (bound : ℕ) (m : Links) (f : Forest Placed) (i q : ℕ)
    (D : IsHeld block_size frspc types bound m f) (within : i < length (rows_of f)) (other : q < length (rows_of f)) where
  abbrev R : List Segment
  R = rows_of f

  abbrev L : ℕ
  L = level_at types (rows_of f) q

  abbrev is_there : Bool
  is_there = option_eq (λ a b. a == b) (row_on (path_at types f i) L) (Some (address_at f q))

  addressed : RowsHaveAddresses m f
  addressed = rows_addressed types m f D.holds

  own : length (path_above types R L q) + 1 ≡ L
  own = sym (length-append (path_above types R L q) (q ∷ [])) ∙ sym (length-map (path_of types R q) (λ j. address_at f j)) ∙ (path_levels block_size frspc types bound m f q D other).0

  -- in the span
  inside_on : q ≤ i → i < end_of types R q → row_on (path_of types R i) L ≡ Some q
  inside_on low high =
      let E : IsEnd types R q (end_of types R q) = end_is types R q other in
      let P = span_path types R q (end_of types R q) (λ x u v. E.deeper x (omega arith) v) i low high in
      let size : length (path_above types R L q) + 1 ≡ L = own in
      let next : L ≡ suc (length (path_above types R L q)) = omega arith in
      ap (λ (l : ℕ). row_on (path_of types R i) l) next
      ∙ ap (λ (xs : List ℕ). slice_get xs (length (path_above types R L q))) P.1
      ∙ got_behind (path_above types R L q) P.0 q

  there : row_on (path_of types R i) L ≡ Some q → is_there ≡ true
  there on =
      ap (λ (o : Option ℕ). option_eq (λ a b. a == b) o (Some (address_at f q))) (row_on_map (λ j. address_at f j) (path_of types R i) L ∙ ap (option_map (λ j. address_at f j)) on)
      ∙ eq-eqb (address_at f q) (address_at f q) refl

  -- outside
  few : AllBelow (suc i) (path_of types R i)
  few = below_end (suc i) i (path_above types R (level_at types R i) i) (below_more i (suc i) (path_above types R (level_at types R i) i) (omega arith) (above_below types R (level_at types R i) i)) (omega arith)

  row_below : (l x : ℕ) → row_on (path_of types R i) l ≡ Some x → x < suc i
  row_below zero x e = absurd (false≢true (ap is_some e))
  row_below (suc l) x e = get_below (suc i) (path_of types R i) l x few e

  outside : (nat_le q i && nat_lt i (end_of types R q)) ≡ false → (o : Option ℕ) → row_on (path_of types R i) L ≡ o → is_there ≡ false
  outside out None on =
      ap (λ (o : Option ℕ). option_eq (λ a b. a == b) o (Some (address_at f q))) (row_on_map (λ j. address_at f j) (path_of types R i) L ∙ ap (option_map (λ j. address_at f j)) on)
  outside out (Some x) on =
      ap (λ (o : Option ℕ). option_eq (λ a b. a == b) o (Some (address_at f q))) (row_on_map (λ j. address_at f j) (path_of types R i) L ∙ ap (option_map (λ j. address_at f j)) on)
      ∙ ne_eqb (address_at f x) (address_at f q) (λ same.
      (let less : x < suc i = row_below L x on in
      let one : x ≡ q = addressed.once x q (omega arith) other same in
      let is : (nat_le q i && nat_lt i (end_of types R q)) ≡ true = sym (spans_below types R q i within) ∙ ap (λ y. list_any (λ j. j == y) (path_of types R i)) (sym one) ∙ row_is_in x (path_of types R i) L on in
      absurd (false≢true (sym out ∙ is))))

  pub span_on_path : is_there ≡ (nat_le q i && nat_lt i (end_of types R q))
  span_on_path = elim (cases_Bool (nat_le q i && nat_lt i (end_of types R q))) [
    | inl yes_ ↦ (let both = and_parts (nat_le q i) (nat_lt i (end_of types R q)) yes_ in there (inside_on (leb-true q i both.0) (ltb-true i (end_of types R q) both.1)) ∙ sym yes_)
    | inr no_ ↦ outside no_ (row_on (path_of types R i) L) refl ∙ sym no_
  ]

pub on_paths : SpansAreOnPaths
on_paths block_size frspc types bound m f i q D within other = span_on_path block_size frspc types bound m f i q D within other
