-- The rows of a type below a parent, by numbers and by pointers.
use Rattle.std.proofs.Common.{◌≡◌, ℕ, zero, suc, ◌+◌, ◌-◌, ◌<◌, ◌≤◌, List, [], length, Bool, true, Option, Some, None, refl, sym, ap, ap₂, subst, ◌∙◌, arith, inl, inr}
use Rattle.std.specs.Prelude.{◌==◌}
use Rattle.std.specs.Option.{option_map_or}
use Rattle.std.proofs.lemmas.Bool.{and_parts, and_from, eqb-true, eq-eqb, false≢true}
use Rattle.hd_dbd.specs.Types.{SegmentType}
use Rattle.hd_dbd.specs.Segment.{Segment}
use Rattle.hd_dbd.specs.Paths.{row_at, parent_row, is_twin}
use Rattle.hd_dbd.specs.Searches.{first_from}
use Rattle.hd_dbd.specs.Forest.{Forest}
use Rattle.hd_dbd.proofs.Names.{option_eq-Decides}
use Rattle.hd_calls.proofs.Searches.{least_some, least_no}
use Rattle.hd_links.specs.Links.{Links, is_child_type, child_types}
use Rattle.hd_links.specs.Placed.{Placed}
use Rattle.hd_links.specs.Pointers.{IsTwinAfter, PointersAreTyped}
use Rattle.hd_links.specs.Steps.{rows_of, address_at, is_child_row, next_row, first_some, child_among, RowsHaveAddresses, StepsAreRows}
use Rattle.hd_links.proofs.Build.{zero_or}
use Rattle.hd_links.proofs.Ways.{some_zero, some_own}
use Rattle.hd_get.proofs.Spans.{parent_span}

-- Row j is of a type, and directly below a parent or a root.
pub record IsTwinRow (types : List SegmentType) (rows : List Segment) (parent : Option ℕ) (code j : ℕ) : Type 0 where
  pub within : j < length rows
  pub above : parent_row types rows j ≡ parent
  pub typed : (row_at rows j).code ≡ code

module _ (types : List SegmentType) (f : Forest Placed) (parent : Option ℕ) (code : ℕ) where
  -- At the address p stands the first of these rows from a number on; where it is 0 there is none.
  pub record IsFirstFrom (begin p : ℕ) : Type 0 where
    pub none : p ≡ 0 → (j : ℕ) → begin ≤ j → IsTwinRow types (rows_of f) parent code j → ⊥
    pub some : 0 < p → (j : ℕ) × (begin ≤ j) × IsTwinRow types (rows_of f) parent code j × (address_at f j ≡ p)
        × ((i : ℕ) → begin ≤ i → i < j → IsTwinRow types (rows_of f) parent code i → ⊥)

  -- what a search finds that just these rows pass
  found_from : (test : ℕ → Bool) → ((j : ℕ) → j < length (rows_of f) → test j ≡ true → IsTwinRow types (rows_of f) parent code j)
      → ((j : ℕ) → IsTwinRow types (rows_of f) parent code j → test j ≡ true) → ((j : ℕ) → j < length (rows_of f) → 0 < address_at f j)
      → (begin p : ℕ) → p ≡ option_map_or (λ j. address_at f j) (first_from test begin (length (rows_of f))) 0 → IsFirstFrom begin p
  found_from test is has there begin p at = by (first_from test begin (length (rows_of f))) refl
    where
      by : (o : Option ℕ) → first_from test begin (length (rows_of f)) ≡ o → IsFirstFrom begin p
      by None e = record {
        none = λ z j low twin. (let w : j < length (rows_of f) = twin.within in
            false≢true (sym (least_no test (length (rows_of f) - begin) begin e j low (omega arith)) ∙ has j twin));
        some = λ s. absurd (let z : p ≡ 0 = at ∙ ap (λ (o : Option ℕ). option_map_or (λ j. address_at f j) o 0) e in omega arith);
      }
      by (Some k) e =
          let L = least_some test (length (rows_of f) - begin) begin k e in
          let low : begin ≤ k = L.0 in
          let high : k < begin + (length (rows_of f) - begin) = L.1 in
          let w : k < length (rows_of f) = omega arith in
          let here : p ≡ address_at f k = at ∙ ap (λ (o : Option ℕ). option_map_or (λ j. address_at f j) o 0) e in
          record {
            none = λ z. absurd (let s : 0 < address_at f k = there k w in omega arith);
            some = λ s. (k, low, is k w L.2, sym here, λ i a b twin. false≢true (sym (L.3 i a b) ∙ has i twin));
          }

  module _ (m : Links) (A : RowsHaveAddresses m f) (steps : (i : ℕ) → i < length (rows_of f) → StepsAreRows types m f i) where
    -- the next twin of such a row is the first from the number behind it
    pub next_from : (k : ℕ) → IsTwinRow types (rows_of f) parent code k → IsFirstFrom (k + 1) (m.forward (address_at f k))
    next_from k K =
        found_from (λ j. is_twin types (rows_of f) k j) is has (λ j w. (A.there j w).some) (k + 1) (m.forward (address_at f k)) (steps k K.within).twin
      where
        is : (j : ℕ) → j < length (rows_of f) → is_twin types (rows_of f) k j ≡ true → IsTwinRow types (rows_of f) parent code j
        is j w e =
            (let P = and_parts ((row_at (rows_of f) k).code == (row_at (rows_of f) j).code) _ e in
            let above : parent_row types (rows_of f) k ≡ parent_row types (rows_of f) j = (option_eq-Decides _ _).0 P.1 in
            let same : (row_at (rows_of f) k).code ≡ (row_at (rows_of f) j).code = eqb-true _ _ P.0 in
            record { within = w; above = sym above ∙ K.above; typed = sym same ∙ K.typed })

        has : (j : ℕ) → IsTwinRow types (rows_of f) parent code j → is_twin types (rows_of f) k j ≡ true
        has j J =
            and_from _ _ (eq-eqb (row_at (rows_of f) k).code (row_at (rows_of f) j).code (K.typed ∙ sym J.typed))
            ((option_eq-Decides (parent_row types (rows_of f) k) (parent_row types (rows_of f) j)).1 (K.above ∙ sym J.above))

    -- what is in the chain from the first of these rows is one of them
    pub chain_row : (n begin p y : ℕ) → IsFirstFrom begin p → IsTwinAfter m n p y
        → (k : ℕ) × (begin ≤ k) × IsTwinRow types (rows_of f) parent code k × (address_at f k ≡ y)
    chain_row zero begin p y F T = (let S = F.some T.0 in (S.0, S.1, S.2, S.3 ∙ T.1))
    chain_row (suc n) begin p y F T =
        let S = F.some T.0 in
        let R = chain_row n (S.0 + 1) (m.forward p) y (subst (λ x. IsFirstFrom (S.0 + 1) (m.forward x)) S.3 (next_from S.0 S.2)) T.1 in
        let low : begin ≤ S.0 = S.1 in
        let on : S.0 + 1 ≤ R.0 = R.1 in
        (R.0, omega arith, R.2, R.3)

    -- the first child of a type below a row is the first of these rows
    pub first_below : (q : ℕ) → parent ≡ Some q → q < length (rows_of f) → is_child_type types (row_at (rows_of f) q).code code ≡ true
        → IsFirstFrom 0 (m.first_child (address_at f q) code)
    first_below q own l typed = record {
      none = λ z j low J. F.none z j (below j J) J;
      some = λ s. (let S = F.some s in (S.0, omega arith, S.2, S.3, λ i low high I. S.4 i (below i I) high I));
    }
      where
        below : (j : ℕ) → IsTwinRow types (rows_of f) parent code j → q + 1 ≤ j
        below j J = (let w : q < j = (parent_span types (rows_of f) j q J.within (J.above ∙ own)).0 in omega arith)

        is : (j : ℕ) → j < length (rows_of f) → is_child_row types (rows_of f) q code j ≡ true → IsTwinRow types (rows_of f) parent code j
        is j w e =
            (let P = and_parts _ ((row_at (rows_of f) j).code == code) e in
            let above : parent_row types (rows_of f) j ≡ Some q = (option_eq-Decides _ _).0 P.0 in
            record { within = w; above = above ∙ sym own; typed = eqb-true _ _ P.1 })

        has : (j : ℕ) → IsTwinRow types (rows_of f) parent code j → is_child_row types (rows_of f) q code j ≡ true
        has j J =
            and_from _ _ ((option_eq-Decides (parent_row types (rows_of f) j) (Some q)).1 (J.above ∙ own)) (eq-eqb (row_at (rows_of f) j).code code J.typed)

        F : IsFirstFrom (q + 1) (m.first_child (address_at f q) code)
        F = found_from (λ j. is_child_row types (rows_of f) q code j) is has (λ j w. (A.there j w).some) (q + 1) (m.first_child (address_at f q) code) ((steps q l).first_child code typed)

    -- the first root is the first row
    pub first_root : parent ≡ None → code ≡ 1 → m.here 0 ≡ true → m.code 0 ≡ 0 → PointersAreTyped types m → next_row types m [] ≡ address_at f 0
        → IsFirstFrom 0 (m.first_child 0 code)
    first_root own one here header typed first = record {
      none = λ z j low J. (let w : j < length (rows_of f) = J.within in let s : 0 < address_at f 0 = (A.there 0 (omega arith)).some in let e : address_at f 0 ≡ 0 = sym at ∙ z in omega arith);
      some = λ s.
          (let T = typed.first 0 code here (ap₂ (λ c t. is_child_type types c t) header one) s in
          let R = A.each (m.first_child 0 code) (record { some = s; here = T.0 }) in
          let w : R.0 < length (rows_of f) = R.1 in
          let l : 0 < length (rows_of f) = omega arith in
          let root : (row_at (rows_of f) 0).code ≡ code = sym (ap (λ (r : Segment). r.code) (A.same 0 l)) ∙ ap m.code (sym at) ∙ T.1 in
          (0, omega arith, record { within = l; above = sym own; typed = root }, sym at, λ i low high I. omega arith));
    }
      where
        twice : (x : ℕ) → first_some (first_some x 0) 0 ≡ x
        twice x = elim (zero_or x) [
          | inl z ↦ ap (λ y. first_some y 0) (some_zero x 0 z) ∙ sym z
          | inr s ↦ ap (λ y. first_some y 0) (some_own x 0 s) ∙ some_own x 0 s
        ]

        by_pointers : next_row types m [] ≡ m.first_child 0 1
        by_pointers = ap (λ c. first_some (child_among m 0 (child_types types c)) 0) header ∙ twice (m.first_child 0 1)

        at : m.first_child 0 code ≡ address_at f 0
        at = ap (m.first_child 0) one ∙ sym by_pointers ∙ first
