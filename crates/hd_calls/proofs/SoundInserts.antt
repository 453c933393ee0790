-- What an ISRT leaves: rows in hierarchic sequence, and its position in range.
use Rattle.std.proofs.Common.{◌≡◌, ℕ, zero, suc, ◌+◌, ◌-◌, ◌<◌, ◌≤◌, List, [], ◌∷◌, ◌++◌, length, map, take, drop, true, false, Bool, cond, arith, ap, sym, ◌∙◌, subst, Option, Some, None, refl, inl, inr, ◌⊎◌}
use Rattle.std.specs.Prelude.{◌==◌, ◌&&◌, nat_lt, option_map, IfSome, unwrap_or}
use Rattle.std.specs.Option.{option_map_or, option_or}
use Rattle.std.specs.List.{list_all, AllByRecursion}
use Rattle.std.proofs.lemmas.Bool.{and_parts, and_from, or_cases, or_left, cases_eq, cases_lt, cond-true, cond-false, eqb-true, eq-eqb, ne_eqb, lt-ltb}
use Rattle.std.proofs.lemmas.List.{take_all, drop_all, get_or_append_left, append-nil}
use Rattle.hd_dbd.specs.declared.hierarchy.Rule.{Rule}
use Rattle.hd_dbd.specs.Types.{SegmentType}
use Rattle.hd_dbd.specs.Segment.{Segment}
use Rattle.hd_dbd.specs.Hierarchy.{type_of, parent_of}
use Rattle.hd_dbd.specs.Rows.{level, row_fits, siblings_in_order, twins_in_order, valid_from}
use Rattle.hd_dbd.specs.Paths.{no_row, row_at, level_at, end_of, path_of}
use Rattle.hd_dbd.specs.Searches.{first_from}
use Rattle.hd_dbd.specs.Positions.{Position}
use Rattle.hd_dbd.specs.Laws.{IsInSequence}
use Rattle.hd_dbd.specs.Loads.{last_path, load_fault, status_of_load}
use Rattle.hd_dbd.specs.Views.{Setting}
use Rattle.hd_dbd.specs.declared.answer.LoadFault.{LoadFault}
use Rattle.hd_dbd.specs.declared.answer.Status.TheVariants.{GE, II, V1}
use Rattle.hd_dbd.proofs.LevelLaw.{Leveled, depth_below, typed}
use Rattle.hd_dbd.proofs.InSequence.{in_sequence, sequence_valid}
use Rattle.hd_dbd.proofs.Loading.{loaded_valid}
use Rattle.hd_dbd.proofs.Names.{option_eq-Decides}
use Rattle.hd_calls.specs.declared.call.Function.TheVariants.{Insert}
use Rattle.hd_calls.specs.declared.call.Commands.{Commands}
use Rattle.hd_calls.specs.Access.{loads}
use Rattle.hd_calls.specs.Ssas.{Head, Ssa, first_inserted_of, first_inserted_head, first_inserted, steps_down, target_code}
use Rattle.hd_calls.specs.Satisfies.{on_path_at, is_child, is_named, meets_on_path}
use Rattle.hd_calls.specs.Places.{is_plain, first_named, insert_parent, is_key_taken, comes_after, end_below, insertion_point}
use Rattle.hd_calls.specs.Moves.{inserted, put_in, position_after}
use Rattle.hd_calls.specs.Steps.{bare_answer, new_row, divide, new_rows, parent_of_new, insert_at, rule_asked, insert_below, insert_rows, load_step, insert_or_load, inserted_codes, insert_step}
use Rattle.hd_calls.specs.Laws.{IsOf, begin_below, IsInRange}
use Rattle.hd_calls.proofs.Areas.{AreParts, are_parts, by_division}
use Rattle.hd_calls.proofs.Searches.{least_some, least_no}
use Rattle.hd_calls.proofs.Moving.{length-put_in}
use Rattle.hd_calls.proofs.Spans.{IsEnd, end_is}
use Rattle.hd_calls.proofs.PlaceOrder.{later_after, twin_before, twin_behind}
use Rattle.hd_calls.proofs.InsertionPoint.{of_parent, no_equal_twin}
use Rattle.hd_calls.proofs.Splicing.{IsSpliced}
use Rattle.hd_calls.proofs.Inserting.{MayGoIn, spliced, inserted_in_sequence}
use Rattle.hd_calls.proofs.Resolving.{Resolved, IsResolvedCall}
use Rattle.hd_calls.proofs.SoundGets.{on_is, found_passes, target_more}
use Rattle.hd_calls.proofs.SoundUpdates.{IsFine, fine_in_range, IsSoundEffect, bare_sound}

-- ---- the types that go in

-- each type stands, and is a child of the one before it
abbrev pub ChainCodes : List SegmentType → Option ℕ → List ℕ → Type 0
ChainCodes types above [] = Unit {0}
ChainCodes types above (c ∷ cs) = IfSome above (λ p. parent_of types c ≡ Some p) × ((t : SegmentType) × (type_of types c ≡ Some t)) × ChainCodes types (Some c) cs

abbrev pub AllTyped : List SegmentType → List Ssa → Type 0
AllTyped types as_ = AllByRecursion (λ a. (t : SegmentType) × (type_of types a.code ≡ Some t)) as_

pub resolved_typed : (types : List SegmentType) (above : Option ℕ) (hs : List Head) (as_ : List Ssa) → Resolved types above hs as_ → AllTyped types as_
resolved_typed types above [] [] is = tt
resolved_typed types above [] (a ∷ as_) is = absurd is
resolved_typed types above (h ∷ hs) [] is = tt
resolved_typed types above (h ∷ hs) (a ∷ as_) is = (is.1, resolved_typed types (Some a.code) hs as_ is.3)

pub same_commands : (types : List SegmentType) (above : Option ℕ) (hs : List Head) (as_ : List Ssa) → Resolved types above hs as_ → map (λ h. h.commands) hs ≡ map (λ a. a.commands) as_
same_commands types above [] [] is = refl
same_commands types above [] (a ∷ as_) is = absurd is
same_commands types above (h ∷ hs) [] is = absurd is
same_commands types above (h ∷ hs) (a ∷ as_) is =
    ap (λ (c : Commands). c ∷ map (λ h. h.commands) hs) (sym is.0) ∙ ap (λ (cs : List Commands). a.commands ∷ cs) (same_commands types (Some a.code) hs as_ is.3)

chain_from : (types : List SegmentType) (above : Option ℕ) (as_ : List Ssa) → AllTyped types as_ → steps_down types above (map (λ a. a.code) as_) ≡ true → ChainCodes types above (map (λ a. a.code) as_)
chain_from types above [] all is = tt
chain_from types above (a ∷ as_) all is =
    let both = and_parts (option_map_or (λ p. option_map_or (λ q. q == p) (parent_of types a.code) false) above true) (steps_down types (Some a.code) (map (λ b. b.code) as_)) is in
    (by_above above both.0, all.0, chain_from types (Some a.code) as_ all.1 both.1)
  where
    by_parent : (p : ℕ) (o : Option ℕ) → option_map_or (λ q. q == p) o false ≡ true → o ≡ Some p
    by_parent p None is = cc
    by_parent p (Some q) is = (let same : q ≡ p = eqb-true q p is in ap (λ (n : ℕ). Some n) same)

    by_above : (o : Option ℕ) → option_map_or (λ p. option_map_or (λ q. q == p) (parent_of types a.code) false) o true ≡ true → IfSome o (λ p. parent_of types a.code ≡ Some p)
    by_above None is = tt
    by_above (Some p) is = by_parent p (parent_of types a.code) is

-- the type of the last of the arguments above
abbrev pub above_code : ℕ → List Ssa → Option ℕ
above_code zero as_ = None
above_code (suc n) as_ = Some (target_code (take (suc n) as_))

pub chain_drop : (types : List SegmentType) (n : ℕ) (as_ : List Ssa) → AllTyped types as_ → steps_down types None (drop (n - 1) (map (λ a. a.code) as_)) ≡ true
    → ChainCodes types (above_code n as_) (map (λ a. a.code) (drop n as_))
chain_drop types zero as_ all is = chain_from types None as_ all is
chain_drop types (suc zero) [] all is = tt
chain_drop types (suc zero) (a ∷ as_) all is = (chain_from types None (a ∷ as_) all is).2
chain_drop types (suc (suc n)) [] all is = tt
chain_drop types (suc (suc n)) (a ∷ []) all is = tt
chain_drop types (suc (suc n)) (a ∷ (b ∷ as_)) all is =
    let front : suc (suc n) - 1 ≡ suc n = omega arith in
    let back : n ≡ suc n - 1 = omega arith in
    let rest : ChainCodes types (above_code (suc n) (b ∷ as_)) (map (λ a. a.code) (drop (suc n) (b ∷ as_))) =
    chain_drop types (suc n) (b ∷ as_) all.1
    (ap (λ (k : ℕ). steps_down types None (drop k (map (λ a. a.code) (b ∷ as_)))) (sym back)
    ∙ ap (λ (k : ℕ). steps_down types None (drop k (map (λ a. a.code) (a ∷ (b ∷ as_))))) (sym front) ∙ is) in
    subst (λ (c : ℕ). ChainCodes types (Some c) (map (λ a. a.code) (drop (suc n) (b ∷ as_)))) (sym (target_more a b (take n as_))) rest

-- ---- the rows that go in

abbrev pub ChainRows : List SegmentType → Option ℕ → List Segment → Type 0
ChainRows types above [] = Unit {0}
ChainRows types above (r ∷ rs) = IfSome above (λ p. parent_of types r.code ≡ Some p) × (row_fits types r ≡ true) × ChainRows types (Some r.code) rs

pub chain_rows : (types : List SegmentType) (above : Option ℕ) (cs : List ℕ) (parts : List (List ℕ)) → ChainCodes types above cs → AreParts types (map (λ c. new_row c) cs) parts
    → ChainRows types above (new_rows cs parts)
chain_rows types above [] parts chain are = tt
chain_rows types above (c ∷ cs) [] chain are = absurd are
chain_rows types above (c ∷ cs) (bytes ∷ parts) chain are = (chain.0, are.0, chain_rows types (Some c) cs parts chain.2 are.1)

pub chain_fit : (types : List SegmentType) (above : Option ℕ) (rs : List Segment) (i : ℕ) → ChainRows types above rs → i < length rs → row_fits types (row_at rs i) ≡ true
chain_fit types above [] i chain within = absurd (omega arith)
chain_fit types above (r ∷ rs) zero chain within = chain.1
chain_fit types above (r ∷ rs) (suc i) chain within = chain_fit types (Some r.code) rs i chain.2 (omega arith)

pub chain_next : (types : List SegmentType) (above : Option ℕ) (rs : List Segment) (i : ℕ) → ChainRows types above rs → suc i < length rs → parent_of types (row_at rs (suc i)).code ≡ Some (row_at rs i).code
chain_next types above [] i chain within = absurd (omega arith)
chain_next types above (r ∷ []) i chain within = absurd (omega arith)
chain_next types above (r ∷ (q ∷ rs)) zero chain within = chain.2.0
chain_next types above (r ∷ (q ∷ rs)) (suc i) chain within = chain_next types (Some r.code) (q ∷ rs) i chain.2 (omega arith)

-- ---- the place

-- Where the insertion point lies: those rows of the parent that must come after the new one are those from it on.
pub record IsPlace (types : List SegmentType) (rows : List Segment) (parent standing : Option ℕ) (rule : Rule) (new : Segment) (n : ℕ) : Type 0 where
  pub from : begin_below parent ≤ n
  pub to : n ≤ end_below types rows parent
  pub low : n < length rows → level_at types rows n ≤ level types new
  pub front : (j : ℕ) → j < n → IsOf types rows parent j → comes_after types rows parent standing rule new j ≡ false
  pub back : (j : ℕ) → n ≤ j → IsOf types rows parent j → comes_after types rows parent standing rule new j ≡ true

module _ (types : List SegmentType) (leveled : Leveled types) (rows : List Segment) (ordered : IsInSequence types rows) (parent standing : Option ℕ) (rule : Rule) (new : Segment)
    (there : IfSome parent (λ q. q < length rows)) (first : parent_of types new.code ≡ option_map (λ q. (row_at rows q).code) parent) (fits : row_fits types new ≡ true) where
  abbrev after_ : ℕ → Bool
  after_ j = comes_after types rows parent standing rule new j

  -- the new row is on the level of the parent's rows
  level_new : level types new ≡ depth_below types (option_map (λ q. (row_at rows q).code) parent) + 1
  level_new = leveled.law new fits ∙ ap (λ (o : Option ℕ). depth_below types o + 1) first

  level_of_one : (j : ℕ) → IsOf types rows parent j → level_at types rows j ≡ level types new
  level_of_one j of =
      leveled.law (row_at rows j) (ordered.fit j of.0)
      ∙ ap (λ (o : Option ℕ). depth_below types o + 1) (sym (ordered.parents j of.0) ∙ ap (λ (o : Option ℕ). option_map (λ i. (row_at rows i).code) o) of.1)
      ∙ sym level_new

  bounds : (j : ℕ) → IsOf types rows parent j → (begin_below parent ≤ j) × (j < end_below types rows parent)
  bounds j of = by_parent parent refl
    where
      by_parent : (o : Option ℕ) → parent ≡ o → (begin_below o ≤ j) × (j < end_below types rows o)
      by_parent None is = (omega arith, of.0)
      by_parent (Some q) is = (let inside = of_parent types rows q j of.0 (of.1 ∙ is) in (omega (arith, inside.0), inside.1))

  -- the end of what depends on the parent
  at_end : (o : Option ℕ) → parent ≡ o → IfSome o (λ q. q < length rows) → (begin_below o ≤ end_below types rows o) × (end_below types rows o < length rows → level_at types rows (end_below types rows o) ≤ level types new)
  at_end None is inside = (omega arith, λ less. absurd (omega arith))
  at_end (Some q) is inside =
      let span : IsEnd types rows q (end_of types rows q) = end_is types rows q inside in
      let up_ : level types new ≡ level_at types rows q + 1 = level_new ∙ ap (λ (o : Option ℕ). depth_below types (option_map (λ q. (row_at rows q).code) o) + 1) is in
      (omega (arith, span.behind), λ less. by_next span.next less up_)
    where
      by_next : (end_of types rows q ≡ length rows) ⊎ (level_at types rows (end_of types rows q) ≤ level_at types rows q) → end_of types rows q < length rows
          → level types new ≡ level_at types rows q + 1 → level_at types rows (end_of types rows q) ≤ level types new
      by_next (inl all) less up_ = absurd (omega (arith, all))
      by_next (inr low) less up_ = omega (arith, low)

  pub place_between : IsPlace types rows parent standing rule new (insertion_point types rows parent standing rule new)
  place_between = by_found (first_from after_ 0 (length rows)) refl
    where
      by_found : (o : Option ℕ) → first_from after_ 0 (length rows) ≡ o → IsPlace types rows parent standing rule new (unwrap_or o (end_below types rows parent))
      by_found None is = record {
        from = (at_end parent refl there).0;
        to = omega arith;
        low = (at_end parent refl there).1;
        front = λ j less of. least_no after_ (length rows - 0) 0 is j (omega arith) (omega (arith, of.0));
        back = λ j more of. absurd (omega (arith, more, (bounds j of).1));
      }
      by_found (Some k) is =
          let found = least_some after_ (length rows - 0) 0 k is in
          let within : k < length rows = omega (arith, found.1) in
          let of : IsOf types rows parent k = (within, (option_eq-Decides _ _).0 (and_parts (is_child types rows parent k) _ found.2).0) in
          let inside = bounds k of in
          record {
            from = inside.0;
            to = omega (arith, inside.1);
            low = λ _. omega (arith, level_of_one k of);
            front = λ j less of. found.3 j (omega arith) less;
            back = λ j more of_j. elim (cases_lt k j) [
              | inl behind ↦ later_after types leveled rows ordered parent standing rule new k j behind of_j.0 of_j.1 found.2
              | inr at ↦ (let same : j ≡ k = omega (arith, more, at) in ap after_ same ∙ found.2)
            ];
          }

  -- a row that need not come after may stand before, and one that must may stand behind
  pub before_new : (j : ℕ) → is_key_taken types rows parent new ≡ false → IsOf types rows parent j → after_ j ≡ false → siblings_in_order types (row_at rows j) new ≡ true
  before_new j free of none =
      let t = typed types new fits in
      elim (cases_eq (row_at rows j).code new.code) [
        | inl same ↦ cond-true ((row_at rows j).code == new.code) (twins_in_order types (row_at rows j) new) (nat_lt (row_at rows j).code new.code) (eq-eqb (row_at rows j).code new.code same)
            ∙ twin_before types leveled rows ordered parent standing rule new j t.0 t.1 of.1 same (λ unique. no_equal_twin types rows parent new free unique j of.0) none
        | inr other ↦ cond-false ((row_at rows j).code == new.code) (twins_in_order types (row_at rows j) new) (nat_lt (row_at rows j).code new.code) (ne_eqb (row_at rows j).code new.code other)
            ∙ elim (cases_lt (row_at rows j).code new.code) [
              | inl less ↦ lt-ltb (row_at rows j).code new.code less
              | inr more ↦ elim (cases_lt new.code (row_at rows j).code) [
                | inl above ↦ (let wrong : after_ j ≡ true = and_from (is_child types rows parent j) _ ((option_eq-Decides _ _).1 of.1)
                    (or_left (nat_lt new.code (row_at rows j).code) _ (lt-ltb new.code (row_at rows j).code above)) in cc)
                | inr even ↦ absurd (other (omega (arith, more, even)))
              ]
            ]
      ]

  pub behind_new : (j : ℕ) → is_key_taken types rows parent new ≡ false → IsOf types rows parent j → after_ j ≡ true → siblings_in_order types new (row_at rows j) ≡ true
  behind_new j free of is =
      let t = typed types new fits in
      elim (cases_eq new.code (row_at rows j).code) [
        | inl same ↦ cond-true (new.code == (row_at rows j).code) (twins_in_order types new (row_at rows j)) (nat_lt new.code (row_at rows j).code) (eq-eqb new.code (row_at rows j).code same)
            ∙ twin_behind types rows parent standing rule new j t.0 t.1 (sym same) (λ unique. no_equal_twin types rows parent new free unique j of.0) is
        | inr other ↦ cond-false (new.code == (row_at rows j).code) (twins_in_order types new (row_at rows j)) (nat_lt new.code (row_at rows j).code) (ne_eqb new.code (row_at rows j).code other)
            ∙ elim (or_cases (nat_lt new.code (row_at rows j).code) _ (and_parts (is_child types rows parent j) _ is).1) [
              | inl less ↦ less
              | inr twin ↦ absurd (other (sym (eqb-true (row_at rows j).code new.code (and_parts ((row_at rows j).code == new.code) _ twin).0)))
            ]
      ]

-- ---- an insertion

insert_at_sound : (s : Setting) (rows : List Segment) (p : Position) (new : List Segment) (n : ℕ) → 0 < length new → n ≤ length rows → IsFine s.types rows (inserted n new) → IsInRange s.types rows p
    → IsSoundEffect s.types rows (insert_at s rows p new n)
insert_at_sound s rows p new n some room fine fits =
    let after : List Segment = put_in n new rows in
    let low : n + length new - 1 < length after = omega (arith, length-put_in n new rows) in
    let moved : IsInRange s.types after (position_after s.types rows (inserted n new) p) = fine_in_range s.types rows (inserted n new) p fine fits in (
      fine,
      record {
        passed = omega arith;
        standing = low;
        parent = parent_fits after (position_after s.types rows (inserted n new) p).parent (n + length new - 1) moved.parent low;
        held = tt;
      },
    )
  where
    parent_fits : (after : List Segment) (o : Option ℕ) (i : ℕ) → IfSome o (λ q. q < length after) → i < length after → IfSome (parent_of_new s.types after o i) (λ q. q < length after)
    parent_fits after None i there low = low
    parent_fits after (Some q) i there low = by_inside (nat_lt q i && nat_lt i (end_of s.types after q))
      where
        by_inside : (b : Bool) → IfSome (cond b (Some q) (Some i)) (λ q. q < length after)
        by_inside true = there
        by_inside false = low

module _ (s : Setting) (leveled : Leveled s.types) (rows : List Segment) (ordered : IsInSequence s.types rows) (p : Position) (fits : IsInRange s.types rows p) where
  below_sound : (ssas : List Ssa) (above : Option ℕ) (first : Segment) (rest : List Segment) (parent : Option ℕ) → ChainRows s.types above (first ∷ rest) → IfSome parent (λ q. q < length rows)
      → parent_of s.types first.code ≡ option_map (λ q. (row_at rows q).code) parent → IsSoundEffect s.types rows (insert_below s rows p ssas (first ∷ rest) first parent)
  below_sound ssas above first rest parent chain there below = by_taken (is_key_taken s.types rows parent first) refl
    where
      by_taken : (b : Bool) → is_key_taken s.types rows parent first ≡ b
          → IsSoundEffect s.types rows (cond b (bare_answer p II) (insert_at s rows p (first ∷ rest) (insertion_point s.types rows parent p.standing (rule_asked s.types ssas first.code) first)))
      by_taken true taken = bare_sound s.types rows p II fits
      by_taken false free =
          let n : ℕ = insertion_point s.types rows parent p.standing (rule_asked s.types ssas first.code) first in
          let place : IsPlace s.types rows parent p.standing (rule_asked s.types ssas first.code) first n =
          place_between s.types leveled rows ordered parent p.standing (rule_asked s.types ssas first.code) first there below chain.1 in
          let may : MayGoIn s.types rows parent n (first ∷ rest) = record {
            some = omega arith;
            fit = λ i within. chain_fit s.types above (first ∷ rest) i chain within;
            chain = λ i within. (let more : i + 1 ≡ suc i = omega arith in
                ap (λ (k : ℕ). parent_of s.types (row_at (first ∷ rest) k).code) more ∙ chain_next s.types above (first ∷ rest) i chain (omega arith));
            first = below;
            there = there;
            from = place.from;
            to = place.to;
            low = place.low;
            before = λ j less of. before_new s.types leveled rows ordered parent p.standing (rule_asked s.types ssas first.code) first there below chain.1 j free of (place.front j less of);
            behind = λ j more of. behind_new s.types leveled rows ordered parent p.standing (rule_asked s.types ssas first.code) first there below chain.1 j free of (place.back j more of);
          } in
          let put : IsSpliced s.types rows (put_in n (first ∷ rest) rows) n (length (first ∷ rest)) = spliced s.types leveled rows ordered parent n (first ∷ rest) may in
          insert_at_sound s rows p (first ∷ rest) n (omega arith) put.room (put, inserted_in_sequence s.types leveled rows ordered parent n (first ∷ rest) may) fits

  -- the parent that an ISRT finds is one of the parent's type
  pub parent_found : (above : List Ssa) (code q : ℕ) → (0 < length above → target_code above ≡ code) → insert_parent s.types rows p.standing above code ≡ Some q → (q < length rows) × ((row_at rows q).code ≡ code)
  parent_found above code q target is = by_plain (list_all is_plain above) is
    where
      on : on_path_at s.types rows code p.standing ≡ Some q → (q < length rows) × ((row_at rows q).code ≡ code)
      on is = by_standing p.standing fits.standing is
        where
          by_standing : (o : Option ℕ) → IfSome o (λ i. i < length rows) → on_path_at s.types rows code o ≡ Some q → (q < length rows) × ((row_at rows q).code ≡ code)
          by_standing None within is = cc
          by_standing (Some i) within is =
              let there = on_is s.types rows code i q within is in
              (omega (arith, there.from, within), eqb-true (row_at rows q).code code (found_passes (λ k. (row_at rows k).code == code) (path_of s.types rows i) q is))

      named : first_named s.types rows above ≡ Some q → (q < length rows) × ((row_at rows q).code ≡ code)
      named is = by_some (length above == 0) refl is
        where
          by_some : (b : Bool) → (length above == 0) ≡ b → cond b None (first_from (is_named s.types rows above) 0 (length rows)) ≡ Some q → (q < length rows) × ((row_at rows q).code ≡ code)
          by_some true none is = cc
          by_some false some is =
              let found = least_some (is_named s.types rows above) (length rows - 0) 0 q is in
              let code_is : (row_at rows q).code ≡ target_code above =
              eqb-true (row_at rows q).code (target_code above) (and_parts ((row_at rows q).code == target_code above) (list_all (λ a. meets_on_path s.types rows q a) above) found.2).0 in
              (omega (arith, found.1), code_is ∙ target (more above some))
            where
              more : (xs : List Ssa) → (length xs == 0) ≡ false → 0 < length xs
              more [] is = cc
              more (x ∷ xs) is = omega arith

      by_option : (o : Option ℕ) → on_path_at s.types rows code p.standing ≡ o → option_or o (first_named s.types rows above) ≡ Some q → (q < length rows) × ((row_at rows q).code ≡ code)
      by_option None o_is is = named is
      by_option (Some i) o_is is = on (o_is ∙ is)

      by_plain : (b : Bool) → cond b (option_or (on_path_at s.types rows code p.standing) (first_named s.types rows above)) (first_named s.types rows above) ≡ Some q → (q < length rows) × ((row_at rows q).code ≡ code)
      by_plain true is = by_option (on_path_at s.types rows code p.standing) refl is
      by_plain false is = named is

  rows_sound : (ssas : List Ssa) (first : Segment) (rest : List Segment) → ChainRows s.types (above_code (first_inserted ssas) ssas) (first ∷ rest) → IsSoundEffect s.types rows (insert_rows s rows p ssas (first ∷ rest) first)
  rows_sound ssas first rest chain = by_parent (parent_of s.types first.code) refl
    where
      by_parent : (o : Option ℕ) → parent_of s.types first.code ≡ o
          → IsSoundEffect s.types rows (option_map_or (λ code. option_map_or (λ q. insert_below s rows p ssas (first ∷ rest) first (Some q)) (insert_parent s.types rows p.standing (take (first_inserted ssas) ssas) code) (bare_answer p GE))
          o (insert_below s rows p ssas (first ∷ rest) first None))
      by_parent None is = below_sound ssas (above_code (first_inserted ssas) ssas) first rest None chain tt is
      by_parent (Some code) is = by_row (insert_parent s.types rows p.standing (take (first_inserted ssas) ssas) code) refl
        where
          target : (n : ℕ) → IfSome (above_code n ssas) (λ c. parent_of s.types first.code ≡ Some c) → 0 < length (take n ssas) → target_code (take n ssas) ≡ code
          target zero above some = absurd (omega arith)
          target (suc n) above some = (let same : Some (target_code (take (suc n) ssas)) ≡ Some code = sym above ∙ is in cc)

          by_row : (o : Option ℕ) → insert_parent s.types rows p.standing (take (first_inserted ssas) ssas) code ≡ o
              → IsSoundEffect s.types rows (option_map_or (λ q. insert_below s rows p ssas (first ∷ rest) first (Some q)) o (bare_answer p GE))
          by_row None o_is = bare_sound s.types rows p GE fits
          by_row (Some q) o_is =
              let found = parent_found (take (first_inserted ssas) ssas) code q (target (first_inserted ssas) chain.0) o_is in
              below_sound ssas (above_code (first_inserted ssas) ssas) first rest (Some q) chain found.0 (is ∙ ap (λ (c : ℕ). Some c) (sym found.1))

  -- a load puts its row behind all
  load_sound : (r : Segment) → row_fits s.types r ≡ true → IsSoundEffect s.types rows (load_step s rows p r)
  load_sound r fit = by_fault (load_fault s.types (last_path s.types rows) r) refl
    where
      behind_all : put_in (length rows) (r ∷ []) rows ≡ rows ++ r ∷ []
      behind_all =
          ap (λ (xs : List Segment). xs ++ (r ∷ []) ++ drop (length rows) rows) (take_all (length rows) rows (omega arith))
          ∙ ap (λ (ys : List Segment). rows ++ (r ∷ []) ++ ys) (drop_all (length rows) rows (omega arith))
          ∙ append-nil (rows ++ r ∷ [])

      by_fault : (o : Option LoadFault) → load_fault s.types (last_path s.types rows) r ≡ o
          → IsSoundEffect s.types rows (option_map_or (λ fault. bare_answer p (status_of_load fault)) o (insert_at s rows p (r ∷ []) (length rows)))
      by_fault (Some fault) is = bare_sound s.types rows p (status_of_load fault) fits
      by_fault None is =
          let valid : valid_from s.types [] (rows ++ r ∷ []) ≡ true = (loaded_valid s.types leveled rows r (sequence_valid s.types leveled rows ordered) fit).0 is in
          let after : IsInSequence s.types (put_in (length rows) (r ∷ []) rows) =
          subst (λ (xs : List Segment). IsInSequence s.types xs) (sym behind_all) (in_sequence s.types leveled (rows ++ r ∷ []) valid) in
          let put : IsSpliced s.types rows (put_in (length rows) (r ∷ []) rows) (length rows) 1 = record {
            whole = length-put_in (length rows) (r ∷ []) rows;
            room = omega arith;
            front = λ k low. ap (λ (xs : List Segment). row_at xs k) behind_all ∙ get_or_append_left rows (r ∷ []) no_row k low;
            back = λ k high less. absurd (omega arith);
            deep = λ k from to less. absurd (omega arith);
          } in
          insert_at_sound s rows p (r ∷ []) (length rows) (omega arith) (omega arith) (put, after) fits

  pub insert_sound : (ssas : List Ssa) (area : List ℕ) → IsResolvedCall s Insert ssas → IsSoundEffect s.types rows (insert_step s rows p ssas area)
  insert_sound ssas area call =
      by_division (IsSoundEffect s.types rows) p (divide s.types (map (λ c. new_row c) (inserted_codes ssas)) area) (λ parts. insert_or_load s rows p ssas (new_rows (inserted_codes ssas) parts))
      (bare_sound s.types rows p V1 fits) tt
      (λ parts is. by_rows (new_rows (inserted_codes ssas) parts)
      (chain_rows s.types (above_code (first_inserted ssas) ssas) (inserted_codes ssas) parts codes (are_parts s.types (map (λ c. new_row c) (inserted_codes ssas)) area parts is)))
    where
      same_place : first_inserted_head call.heads ≡ first_inserted ssas
      same_place = ap (λ (cs : List Commands). first_inserted_of cs) (same_commands s.types None call.heads ssas call.resolved)

      codes : ChainCodes s.types (above_code (first_inserted ssas) ssas) (inserted_codes ssas)
      codes = chain_drop s.types (first_inserted ssas) ssas (resolved_typed s.types None call.heads ssas call.resolved)
          (ap (λ (n : ℕ). steps_down s.types None (drop (n - 1) (map (λ a. a.code) ssas))) (sym same_place) ∙ call.suit)

      by_rows : (new : List Segment) → ChainRows s.types (above_code (first_inserted ssas) ssas) new → IsSoundEffect s.types rows (insert_or_load s rows p ssas new)
      by_rows [] chain = tt
      by_rows (r ∷ rs) chain = by_load (loads s.pcb)
        where
          by_load : (b : Bool) → IsSoundEffect s.types rows (cond b (load_step s rows p r) (insert_rows s rows p ssas (r ∷ rs) r))
          by_load true = load_sound r chain.1
          by_load false = rows_sound ssas r rs chain
