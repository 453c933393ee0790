-- A row that goes in between two twins, of which the later must come after it and the earlier need not, goes in at the insertion point.
use Rattle.std.proofs.Common.{◌≡◌, ℕ, zero, suc, ◌+◌, ◌-◌, ◌<◌, ◌≤◌, List, length, Bool, true, false, Option, Some, None, refl, sym, ap, subst, ◌∙◌, arith, inl, inr}
use Rattle.std.specs.Prelude.{IfSome, ◌&&◌, ◌==◌, nat_lt, nat_le, unwrap_or}
use Rattle.std.specs.Option.{option_map_or}
use Rattle.std.proofs.lemmas.Bool.{and_from, cases_eq, cases_lt, cond-false, cond-true, lt-ltb, ltb-true, le-leb, ne_eqb, or_left}
use Rattle.hd_dbd.specs.declared.hierarchy.Rule.{Rule}
use Rattle.hd_dbd.specs.Types.{SegmentType}
use Rattle.hd_dbd.specs.Segment.{Segment}
use Rattle.hd_dbd.specs.Hierarchy.{Database}
use Rattle.hd_dbd.specs.Rows.{row_fits, twins_in_order}
use Rattle.hd_dbd.specs.Laws.{IsInSequence}
use Rattle.hd_dbd.specs.Paths.{row_at, parent_row, end_of}
use Rattle.hd_dbd.specs.Searches.{first_from, least_within}
use Rattle.hd_dbd.specs.Forest.{Forest}
use Rattle.hd_dbd.proofs.InSequence.{in_sequence}
use Rattle.hd_dbd.proofs.LevelLaw.{Leveled, leveled}
use Rattle.hd_dbd.proofs.Names.{option_eq-Decides}
use Rattle.hd_calls.specs.Satisfies.{is_child}
use Rattle.hd_calls.specs.Places.{comes_after, is_key_taken}
use Rattle.hd_calls.specs.Laws.{IsBetweenTwins, first_of_type}
use Rattle.hd_calls.proofs.InsertionPoint.{between_twins}
use Rattle.hd_calls.proofs.PlaceOrder.{later_after}
use Rattle.hd_volume.specs.Volumes.{VolumeState}
use Rattle.hd_links.specs.Links.{segment_at}
use Rattle.hd_links.specs.Placed.{Placed}
use Rattle.hd_links.specs.Changes.{twin_behind}
use Rattle.hd_links.specs.Pointers.{IsInChain}
use Rattle.hd_links.specs.Numbers.{LeafGoesInAt, place_below}
use Rattle.hd_links.specs.Steps.{rows_of, address_at}
use Rattle.hd_links.proofs.Build.{zero_or}
use Rattle.hd_links.proofs.Types.{code_some}
use Rattle.hd_links.proofs.ValidRows.{held_valid}
use Rattle.hd_image.specs.Records.{links_of}
use Rattle.hd_image.specs.Holding.{HoldsPlaced}
use Rattle.hd_forest.specs.Twins.{IsBehind}
use Rattle.hd_forest.specs.Updates.{MayLink}
use Rattle.hd_update.specs.Places.{IsTypeBelow, IsPlaceOf}
use Rattle.hd_update.proofs.TwinRows.{IsTwinRow, IsFirstFrom}
use Rattle.hd_update.proofs.TwinGaps.{parent_address, ground, parent_of_type, IsRowGap, gap_rows, behind_is}

begins : (test : ℕ → Bool) (n : ℕ) → 0 < n → test 0 ≡ true → least_within test n 0 ≡ Some 0
begins test zero some passes = absurd (omega arith)
begins test (suc n) some passes = cond-true (test 0) (Some 0) (least_within test n 1) passes

-- the first root of the database's rows is the first row, or there is none
roots_begin : (types : List SegmentType) (rows : List Segment) (code : ℕ) → IsInSequence types rows → code ≡ 1 → first_of_type types rows None code ≡ 0
roots_begin types rows code ordered one = elim (zero_or (length rows)) [
  | inl none ↦ ap (λ n. unwrap_or (least_within (λ j. is_child types rows None j && nat_le code (row_at rows j).code) (n - 0) 0) n) none
  | inr some ↦
      (let here : 0 < (row_at rows 0).code = code_some types (row_at rows 0) (ordered.fit 0 some) in
      let passes : (is_child types rows None 0 && nat_le code (row_at rows 0).code) ≡ true = le-leb code (row_at rows 0).code (omega arith) in
      let whole : length rows - 0 ≡ length rows = omega arith in
      ap (λ n. unwrap_or (least_within (λ j. is_child types rows None j && nat_le code (row_at rows j).code) n 0) (length rows)) whole
      ∙ ap (λ (o : Option ℕ). unwrap_or o (length rows)) (begins (λ j. is_child types rows None j && nat_le code (row_at rows j).code) (length rows) some passes))
]

-- the number of an answer, or another
same_answer : (o : Option ℕ) (e : ℕ) → option_map_or (λ (j : ℕ). j) o e ≡ unwrap_or o e
same_answer None e = refl
same_answer (Some j) e = refl

-- a leaf goes in as the first of its type where the type begins
place_is_first : (types : List SegmentType) (rows : List Segment) (q code : ℕ) → place_below types rows q code ≡ first_of_type types rows (Some q) code
place_is_first types rows q code =
    same_answer (first_from (λ j. is_child types rows (Some q) j && nat_le code (row_at rows j).code) (q + 1) (end_of types rows q)) (end_of types rows q)

module _ (d : Database) (v : VolumeState) (f : Forest Placed) (H : HoldsPlaced d v f) where
  levels : Leveled d.types
  levels = leveled d.block_size d.frspc d.types H.volume.fit

  pub held_sequence : IsInSequence d.types (rows_of f)
  held_sequence = in_sequence d.types levels (rows_of f) (held_valid d.types (links_of d.types v) f levels H.records)

  module _ (parent standing : Option ℕ) (rule : Rule) (row : Segment) where
    -- what stands behind a row that must come after the new one must too
    pub later_comes : (j k : ℕ) → j < k → IsTwinRow d.types (rows_of f) parent row.code k → comes_after d.types (rows_of f) parent standing rule row j ≡ true
        → comes_after d.types (rows_of f) parent standing rule row k ≡ true
    later_comes j k less K after_ = later_after d.types levels (rows_of f) held_sequence parent standing rule row j k less K.within K.above after_

    -- all twins from one on that must come after the new row must
    pub after_from : (begin z : ℕ) → IsFirstFrom d.types f parent row.code begin z
        → ((k : ℕ) → IsTwinRow d.types (rows_of f) parent row.code k → address_at f k ≡ z → comes_after d.types (rows_of f) parent standing rule row k ≡ true)
        → (j : ℕ) → begin ≤ j → IsTwinRow d.types (rows_of f) parent row.code j → comes_after d.types (rows_of f) parent standing rule row j ≡ true
    after_from begin z F upper j low J = elim (zero_or z) [
      | inl none ↦ absurd (F.none none j low J)
      | inr some ↦
          (let S = F.some some in
          elim (cases_lt S.0 j) [
            | inl less ↦ later_comes S.0 j less J (upper S.0 S.2 S.3)
            | inr back ↦ elim (cases_lt j S.0) [
              | inl early ↦ absurd (S.4 j low early J)
              | inr same ↦
                  (let e : S.0 ≡ j = omega arith in
                  subst (λ k. comes_after d.types (rows_of f) parent standing rule row k ≡ true) e (upper S.0 S.2 S.3))
            ]
          ])
    ]

    module _ (fits : row_fits d.types row ≡ true) (there : IfSome parent (λ q. q < length (rows_of f))) (below : IsTypeBelow d.types (rows_of f) parent row.code)
        (y z : ℕ) (chain : IsBehind (links_of d.types v) ((links_of d.types v).first_child (parent_address f parent) row.code) y z)
        (lower : (k : ℕ) → IsTwinRow d.types (rows_of f) parent row.code k → address_at f k ≡ y → comes_after d.types (rows_of f) parent standing rule row k ≡ false)
        (upper : (k : ℕ) → IsTwinRow d.types (rows_of f) parent row.code k → address_at f k ≡ z → comes_after d.types (rows_of f) parent standing rule row k ≡ true)
        (free : is_key_taken d.types (rows_of f) parent row ≡ false) where
      B : IsBetweenTwins d.types (rows_of f) parent standing rule row
      B = between_twins d.block_size d.frspc d.types (rows_of f) parent standing rule row H.volume.fit (held_valid d.types (links_of d.types v) f levels H.records) fits there free

      gap : IsRowGap d v f H parent there row.code below y z
      gap = gap_rows d v f H parent there row.code below y z chain

      -- the twin behind
      at_z : 0 < z → (k : ℕ) × IsTwinRow d.types (rows_of f) parent row.code k × (address_at f k ≡ z)
      at_z some = elim (zero_or y) [
        | inl none ↦ (let S = (gap.first none).some some in (S.0, S.2, S.3))
        | inr back ↦ (let S = (gap.next back).3.some some in (S.0, S.2, S.3))
      ]

      in_chain : 0 < y → IsInChain (links_of d.types v) ((links_of d.types v).first_child (parent_address f parent) row.code) y
      in_chain some = elim chain [ inl e ↦ absurd (let none = e.0 in omega arith) | inr b ↦ b.1 ]

      -- it may be linked there
      may : MayLink d.types (links_of d.types v) (parent_address f parent) y row
      may a free_at =
          let P = parent_of_type d v f H parent row.code there below in record {
            parent = P.here;
            typed = P.typed;
            fits = fits;
            free = free_at;
            twin = in_chain;
            before = λ some.
                (let K = gap.next some in
                ap (λ (r : Segment). twins_in_order d.types r row) (ap (segment_at (links_of d.types v)) (sym K.2) ∙ (ground d v f H).addressed.same K.0 K.1.within)
                ∙ B.twins_before K.0 (K.1.within, K.1.above) K.1.typed (lower K.0 K.1 K.2));
            behind = λ some.
                (let e : twin_behind (links_of d.types v) (parent_address f parent) row.code y ≡ z = behind_is (links_of d.types v) (parent_address f parent) row.code y z chain in
                let Z = at_z (subst (λ x. 0 < x) e some) in
                ap (twins_in_order d.types row) (ap (segment_at (links_of d.types v)) (e ∙ sym Z.2) ∙ (ground d v f H).addressed.same Z.0 Z.1.within)
                ∙ B.twins_behind Z.0 (Z.1.within, Z.1.above) Z.1.typed (upper Z.0 Z.1 Z.2));
          }

      -- rows of the parent behind the twin before must come after the new row
      rest_after : (k : ℕ) → IsTwinRow d.types (rows_of f) parent row.code k → IsFirstFrom d.types f parent row.code (k + 1) z
          → (j : ℕ) → k < j → j < length (rows_of f) → parent_row d.types (rows_of f) j ≡ parent → comes_after d.types (rows_of f) parent standing rule row j ≡ true
      rest_after k K F j less within above = elim (cases_eq (row_at (rows_of f) j).code row.code) [
        | inl same ↦ after_from (k + 1) z F upper j (omega arith) (record { within = within; above = above; typed = same })
        | inr other ↦
            (let differ : (row_at (rows_of f) k).code ≡ (row_at (rows_of f) j).code → ⊥ = λ e. other (sym e ∙ K.typed) in
            let siblings = held_sequence.siblings k j less within ((option_eq-Decides _ _).1 (K.above ∙ sym above)) in
            let more : (row_at (rows_of f) k).code < (row_at (rows_of f) j).code
            = ltb-true _ _ (sym (cond-false ((row_at (rows_of f) k).code == (row_at (rows_of f) j).code) (twins_in_order d.types (row_at (rows_of f) k) (row_at (rows_of f) j))
            (nat_lt (row_at (rows_of f) k).code (row_at (rows_of f) j).code) (ne_eqb (row_at (rows_of f) k).code (row_at (rows_of f) j).code differ)) ∙ siblings) in
            let own : (row_at (rows_of f) k).code ≡ row.code = K.typed in
            and_from (is_child d.types (rows_of f) parent j) _ ((option_eq-Decides _ _).1 above)
            (or_left (nat_lt row.code (row_at (rows_of f) j).code) _ (lt-ltb row.code (row_at (rows_of f) j).code (omega arith))))
      ]

      -- the first of its type goes in where its type begins
      at_first : (a n : ℕ) → y ≡ 0 → LeafGoesInAt d.types f (parent_address f parent) y (record { address = a; segment = row }) n → n ≡ first_of_type d.types (rows_of f) parent row.code
      at_first a n none L = by parent refl there below
        where
          by : (o : Option ℕ) → parent ≡ o → IfSome o (λ q. q < length (rows_of f)) → IsTypeBelow d.types (rows_of f) o row.code → n ≡ first_of_type d.types (rows_of f) parent row.code
          by None is there below =
              L.first_root none (ap (parent_address f) is)
              ∙ sym (ap (λ (o : Option ℕ). first_of_type d.types (rows_of f) o row.code) is ∙ roots_begin d.types (rows_of f) row.code held_sequence below)
          by (Some q) is there below =
              L.first_below q there none (sym (ap (parent_address f) is))
              ∙ place_is_first d.types (rows_of f) q row.code
              ∙ sym (ap (λ (o : Option ℕ). first_of_type d.types (rows_of f) o row.code) is)

      -- so that is its place
      pub placed : IsPlaceOf d v f parent standing rule row (parent_address f parent) y
      placed = record {
        free = free;
        may = may;
        at = λ a n L. elim (zero_or y) [
          | inl none ↦ at_first a n none L
              ∙ sym (B.first (λ j of same. after_from 0 z (gap.first none) upper j (omega arith) (record { within = of.0; above = of.1; typed = same })))
          | inr some ↦
              (let K = gap.next some in
              L.behind K.0 K.1.within some K.2
              ∙ sym (B.behind K.0 (K.1.within, K.1.above) (lower K.0 K.1 K.2) (λ j less of. rest_after K.0 K.1 K.3 j less of.0 of.1)))
        ];
      }
