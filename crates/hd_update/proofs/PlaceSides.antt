-- What the side of a new row beside a twin says of the rows.
use Rattle.std.proofs.Common.{◌≡◌, ℕ, ◌+◌, ◌-◌, ◌<◌, ◌≤◌, List, length, Bool, true, false, Option, Some, None, refl, sym, ap, ap₂, subst, ◌∙◌, arith, inl, inr}
use Rattle.std.specs.Prelude.{IfSome, ◌&&◌, ◌||◌, ◌==◌, not, nat_lt, is_some}
use Rattle.std.specs.Ordering.{nat_cmp, is_eq, is_gt}
use Rattle.std.specs.declared.cmp.Ordering.{Ordering}
use Rattle.std.specs.declared.cmp.Ordering.TheVariants.{Less, Equal, Greater}
use Rattle.std.specs.Cmp.Lexicographic.{slice_cmp}
use Rattle.std.proofs.lemmas.Bool.{and_parts, and_from, cases_Bool, cases_lt, eq-eqb, eqb-true, le-ltb, false≢true}
use Rattle.hd_dbd.specs.declared.hierarchy.Rule.{Rule}
use Rattle.hd_dbd.specs.declared.hierarchy.Rule.TheVariants.{First, Last}
use Rattle.hd_dbd.specs.Types.{SegmentType}
use Rattle.hd_dbd.specs.Segment.{Segment}
use Rattle.hd_dbd.specs.Hierarchy.{Database}
use Rattle.hd_dbd.specs.Rows.{row_fits, key_of}
use Rattle.hd_dbd.specs.Loads.{has_unique_key}
use Rattle.hd_dbd.specs.Paths.{row_at}
use Rattle.hd_dbd.specs.Searches.{first_from}
use Rattle.hd_dbd.specs.Forest.{Forest}
use Rattle.hd_dbd.proofs.Names.{option_eq-Decides}
use Rattle.hd_calls.specs.Satisfies.{is_child}
use Rattle.hd_calls.specs.Places.{is_equal_twin, equal_after, comes_after, is_key_taken}
use Rattle.hd_calls.proofs.Searches.{least_none, least_passed}
use Rattle.hd_volume.specs.Volumes.{VolumeState}
use Rattle.hd_links.specs.Links.{segment_at}
use Rattle.hd_links.specs.Placed.{Placed}
use Rattle.hd_links.specs.Steps.{rows_of, address_at}
use Rattle.hd_links.proofs.Build.{zero_or}
use Rattle.hd_image.specs.Records.{links_of}
use Rattle.hd_image.specs.Holding.{HoldsPlaced}
use Rattle.hd_update.specs.declared.places.Side.TheVariants.{Before, Behind, Taken}
use Rattle.hd_update.specs.Places.{IsTypeBelow, IsPlaceFound, side_of, side_at, IsGap, IsGapFound}
use Rattle.hd_update.proofs.TwinRows.{IsTwinRow, IsFirstFrom}
use Rattle.hd_update.proofs.TwinGaps.{parent_address, ground, IsRowGap, gap_rows, chained_row}
use Rattle.hd_update.proofs.PlaceAmong.{later_comes, after_from, placed}

-- ---- one twin

module _ (types : List SegmentType) (rows : List Segment) (parent standing : Option ℕ) (rule : Rule) (row : Segment) where
  -- how the key of a row stands to that of the new one
  abbrev pub order_with : ℕ → Ordering
  order_with j = slice_cmp nat_cmp (key_of types (row_at rows j)) (key_of types row)

  formula : (c l e g q a : Bool) → c ≡ true → l ≡ false → e ≡ true → (c && (l || e && (g || (c && e && q) && a))) ≡ (g || q && a)
  formula false l e g q a r s t = cc
  formula true true e g q a r s t = cc
  formula true false false g q a r s t = cc
  formula true false true g q a r s t = refl

  -- whether a twin must come after it
  pub comes_is : (j : ℕ) → IsTwinRow types rows parent row.code j
      → comes_after types rows parent standing rule row j ≡ (is_gt (order_with j) || is_eq (order_with j) && equal_after types rows parent standing rule row j)
  comes_is j J =
      let same : (row_at rows j).code ≡ row.code = J.typed in
      formula (is_child types rows parent j) (nat_lt row.code (row_at rows j).code) ((row_at rows j).code == row.code) (is_gt (order_with j)) (is_eq (order_with j))
      (equal_after types rows parent standing rule row j) ((option_eq-Decides _ _).1 J.above) (le-ltb row.code (row_at rows j).code (omega arith)) (eq-eqb (row_at rows j).code row.code same)

  both : (c e q : Bool) → c ≡ true → e ≡ true → (c && e && q) ≡ q
  both false e q r s = cc
  both true false q r s = cc
  both true true q r s = refl

  -- and whether it has its key
  pub equal_is : (j : ℕ) → IsTwinRow types rows parent row.code j → is_equal_twin types rows parent row j ≡ is_eq (order_with j)
  equal_is j J =
      both (is_child types rows parent j) ((row_at rows j).code == row.code) (is_eq (order_with j)) ((option_eq-Decides _ _).1 J.above) (eq-eqb (row_at rows j).code row.code J.typed)

  eq_is : (o : Ordering) → is_eq o ≡ true → o ≡ Equal
  eq_is Less h = cc
  eq_is Equal h = refl
  eq_is Greater h = cc

  -- an equal twin is a twin
  pub equal_twin : (j : ℕ) → j < length rows → is_equal_twin types rows parent row j ≡ true → IsTwinRow types rows parent row.code j × (order_with j ≡ Equal)
  equal_twin j within is =
      let P = and_parts (is_child types rows parent j && (row_at rows j).code == row.code) (is_eq (order_with j)) is in
      let Q = and_parts (is_child types rows parent j) ((row_at rows j).code == row.code) P.0 in
      (record { within = within; above = (option_eq-Decides _ _).0 Q.0; typed = eqb-true (row_at rows j).code row.code Q.1 }, eq_is (order_with j) P.1)

-- ---- its side

behind_side : (unique last after : Bool) (o : Ordering) → side_of unique last o ≡ Behind → (unique ≡ false → is_eq o ≡ true → after ≡ not last) → (is_gt o || is_eq o && after) ≡ false
behind_side unique last after Less s agree = refl
behind_side unique last after Greater s agree = cc
behind_side true last after Equal s agree = cc
behind_side false true after Equal s agree = agree refl refl
behind_side false false after Equal s agree = cc

before_side : (unique last after : Bool) (o : Ordering) → side_of unique last o ≡ Before → (unique ≡ false → is_eq o ≡ true → after ≡ not last) → (is_gt o || is_eq o && after) ≡ true
before_side unique last after Less s agree = cc
before_side unique last after Greater s agree = refl
before_side true last after Equal s agree = cc
before_side false true after Equal s agree = cc
before_side false false after Equal s agree = agree refl refl

unique_behind : (unique last : Bool) (o : Ordering) → unique ≡ true → side_of unique last o ≡ Behind → o ≡ Less
unique_behind unique last Less u s = refl
unique_behind unique last Greater u s = cc
unique_behind true last Equal u s = cc
unique_behind false last Equal u s = cc

unique_before : (unique last : Bool) (o : Ordering) → unique ≡ true → side_of unique last o ≡ Before → o ≡ Greater
unique_before unique last Less u s = cc
unique_before unique last Greater u s = refl
unique_before true last Equal u s = cc
unique_before false last Equal u s = cc

taken_side : (unique last : Bool) (o : Ordering) → side_of unique last o ≡ Taken → (unique ≡ true) × (o ≡ Equal)
taken_side unique last Less s = cc
taken_side unique last Greater s = cc
taken_side true last Equal s = (refl, refl)
taken_side false true Equal s = cc
taken_side false false Equal s = cc

-- ---- between two twins

module _ (d : Database) (v : VolumeState) (f : Forest Placed) (H : HoldsPlaced d v f) (parent : Option ℕ) (row : Segment) (there : IfSome parent (λ q. q < length (rows_of f)))
    (below : IsTypeBelow d.types (rows_of f) parent row.code) (last : Bool) where
  -- the side beside a twin's address is by the twin's key
  side_is : (j a : ℕ) → IsTwinRow d.types (rows_of f) parent row.code j → address_at f j ≡ a
      → side_at d.types (links_of d.types v) last row a ≡ side_of (has_unique_key d.types row.code) last (order_with d.types (rows_of f) parent None First row j)
  side_is j a J at =
      ap (λ (s : Segment). side_of (has_unique_key d.types row.code) last (slice_cmp nat_cmp (key_of d.types s) (key_of d.types row)))
      (ap (segment_at (links_of d.types v)) (sym at) ∙ (ground d v f H).addressed.same j J.within)

  -- an address of a twin is not 0
  some_at : (j a : ℕ) → IsTwinRow d.types (rows_of f) parent row.code j → address_at f j ≡ a → 0 < a
  some_at j a J at = subst (λ x. 0 < x) at ((ground d v f H).addressed.there j J.within).some

  module _ (y z : ℕ) (G : IsGap d.types (links_of d.types v) ((links_of d.types v).first_child (parent_address f parent) row.code) last row y z) where
    gap : IsRowGap d v f H parent there row.code below y z
    gap = gap_rows d v f H parent there row.code below y z G.chain

    -- where keys are unique the twin before has a lesser key, and the twin behind a greater one
    lesser : has_unique_key d.types row.code ≡ true → (k : ℕ) → IsTwinRow d.types (rows_of f) parent row.code k → address_at f k ≡ y
        → order_with d.types (rows_of f) parent None First row k ≡ Less
    lesser unique k K at = unique_behind (has_unique_key d.types row.code) last _ unique (sym (side_is k y K at) ∙ G.behind (some_at k y K at))

    greater : has_unique_key d.types row.code ≡ true → (k : ℕ) → IsTwinRow d.types (rows_of f) parent row.code k → address_at f k ≡ z
        → order_with d.types (rows_of f) parent None First row k ≡ Greater
    greater unique k K at = unique_before (has_unique_key d.types row.code) last _ unique (sym (side_is k z K at) ∙ G.before (some_at k z K at))

    -- so no twin has the row's
    no_equal : has_unique_key d.types row.code ≡ true → (j : ℕ) → j < length (rows_of f) → is_equal_twin d.types (rows_of f) parent row j ≡ true → ⊥
    no_equal unique j within is = elim (zero_or y) [
      | inl none ↦ past 0 (gap.first none) (omega arith)
      | inr some ↦
          (let K = gap.next some in
          let less = lesser unique K.0 K.1 K.2 in
          elim (cases_lt j K.0) [
            | inl early ↦ false≢true
                (sym (comes_is d.types (rows_of f) parent None First row K.0 K.1 ∙ ap (λ (o : Ordering). is_gt o || is_eq o && true) less)
                ∙ later_comes d v f H parent None First row j K.0 early K.1 comes_first)
            | inr back ↦ elim (cases_lt K.0 j) [
              | inl behind ↦ past (K.0 + 1) K.3 (omega arith)
              | inr same ↦
                  (let e : j ≡ K.0 = omega arith in
                  let wrong : Equal ≡ Less = sym E.1 ∙ ap (order_with d.types (rows_of f) parent None First row) e ∙ less in cc)
            ]
          ])
    ]
      where
        E : IsTwinRow d.types (rows_of f) parent row.code j × (order_with d.types (rows_of f) parent None First row j ≡ Equal)
        E = equal_twin d.types (rows_of f) parent None First row j within is

        comes_first : comes_after d.types (rows_of f) parent None First row j ≡ true
        comes_first = comes_is d.types (rows_of f) parent None First row j E.0 ∙ ap (λ (o : Ordering). is_gt o || is_eq o && true) E.1

        past : (begin : ℕ) → IsFirstFrom d.types f parent row.code begin z → begin ≤ j → ⊥
        past begin F low =
            false≢true
            (sym (comes_is d.types (rows_of f) parent None Last row j E.0 ∙ ap (λ (o : Ordering). is_gt o || is_eq o && false) E.1)
            ∙ after_from d v f H parent None Last row begin z F
            (λ k K at. comes_is d.types (rows_of f) parent None Last row k K ∙ ap (λ (o : Ordering). is_gt o || is_eq o && false) (greater unique k K at)) j low E.0)

    free : is_key_taken d.types (rows_of f) parent row ≡ false
    free = elim (cases_Bool (has_unique_key d.types row.code)) [
      | inl unique ↦
          ap₂ (λ (b : Bool) (o : Option ℕ). b && is_some o) unique
          (least_none (is_equal_twin d.types (rows_of f) parent row) (length (rows_of f) - 0) 0 (λ j low high. fails j (omega arith) (no_equal unique j (omega arith))))
      | inr many ↦ ap (λ b. b && is_some (first_from (is_equal_twin d.types (rows_of f) parent row) 0 (length (rows_of f)))) many
    ]
      where
        fails : (j : ℕ) → j < length (rows_of f) → (is_equal_twin d.types (rows_of f) parent row j ≡ true → ⊥) → is_equal_twin d.types (rows_of f) parent row j ≡ false
        fails j within none = elim (cases_Bool (is_equal_twin d.types (rows_of f) parent row j)) [ inl is ↦ absurd (none is) | inr no_ ↦ no_ ]

  -- The equal twins of a new row must come after it just where it does not go last.
  abbrev pub Agrees : Option ℕ → Rule → Type 0
  Agrees standing rule =
      (j : ℕ) → is_equal_twin d.types (rows_of f) parent row j ≡ true → has_unique_key d.types row.code ≡ false
      → equal_after d.types (rows_of f) parent standing rule row j ≡ not last

  -- what is found by the chain of twins is the place
  pub found_place : (standing : Option ℕ) (rule : Rule) → row_fits d.types row ≡ true → Agrees standing rule → (r : Option ℕ)
      → IsGapFound d.types (links_of d.types v) ((links_of d.types v).first_child (parent_address f parent) row.code) last row r
      → IsPlaceFound d v f parent standing rule row (parent_address f parent) r
  found_place standing rule fits agree None T =
      let K = chained_row d v f H parent there row.code below T.0 T.1 in
      let S = taken_side (has_unique_key d.types row.code) last _ (sym (side_is K.0 T.0 K.1 K.2) ∙ T.2) in
      let w : K.0 < length (rows_of f) = K.1.within in
      and_from (has_unique_key d.types row.code) _ S.0
      (least_passed (is_equal_twin d.types (rows_of f) parent row) (length (rows_of f) - 0) 0 K.0 (omega arith) (omega arith)
      (equal_is d.types (rows_of f) parent None First row K.0 K.1 ∙ ap is_eq S.1))
  found_place standing rule fits agree (Some y) T =
      let G = T.1 in
      placed d v f H parent standing rule row fits there below y T.0 G.chain
      (λ k K at.
      comes_is d.types (rows_of f) parent standing rule row k K
      ∙ behind_side (has_unique_key d.types row.code) last _ _ (sym (side_is k y K at) ∙ G.behind (some_at k y K at))
      (λ many equal. agree k (equal_is d.types (rows_of f) parent standing rule row k K ∙ equal) many))
      (λ k K at.
      comes_is d.types (rows_of f) parent standing rule row k K
      ∙ before_side (has_unique_key d.types row.code) last _ _ (sym (side_is k T.0 K at) ∙ G.before (some_at k T.0 K at))
      (λ many equal. agree k (equal_is d.types (rows_of f) parent standing rule row k K ∙ equal) many))
      (free y T.0 G)
