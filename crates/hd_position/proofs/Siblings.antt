-- What stands just before a row below its parent, and the row before it.
use Rattle.std.proofs.Common.{◌≡◌, ℕ, zero, suc, ◌+◌, ◌-◌, ◌<◌, ◌≤◌, List, [], ◌∷◌, ◌++◌, length, take, true, arith, ap, sym, ◌∙◌, subst, refl, inl, inr, Option, Some, None}
use Rattle.std.specs.Prelude.{◌==◌}
use Rattle.std.proofs.lemmas.Bool.{cond-false, ne_eqb, false≢true}
use Rattle.std.proofs.lemmas.List.{append_assoc, append-nil, length-append}
use Rattle.hd_dbd.specs.declared.hierarchy.FreeSpace.{FreeSpace}
use Rattle.hd_dbd.specs.Types.{SegmentType}
use Rattle.hd_dbd.specs.Forest.{Forest}
use Rattle.hd_links.specs.Links.{Links, IsSegment, IsLinkGraph, child_types, is_child_type}
use Rattle.hd_links.specs.Placed.{Placed}
use Rattle.hd_links.specs.Pointers.{IsInChain, AreLinked}
use Rattle.hd_links.specs.Changes.{CanUnlink}
use Rattle.hd_links.specs.Steps.{rows_of, address_at, LeadsDown, tip_from, behind_span, first_some, child_among, later_than}
use Rattle.hd_links.proofs.Types.{Ordered, above_in, in_cases, types_ascend, types_some}
use Rattle.hd_links.proofs.Ways.{some_zero, some_own}
use Rattle.hd_links.proofs.Sound.{are_linked}
use Rattle.hd_links.proofs.Types.{ordered}
use Rattle.hd_forest.specs.Walks.{tip, parent_on}
use Rattle.hd_forest.specs.Rows.{IsOnRow}
use Rattle.hd_forest.specs.Twins.{IsBehind}
use Rattle.hd_forest.specs.Children.{last_named}
use Rattle.hd_forest.proofs.Tips.{twins-there}
use Rattle.hd_position.specs.Kept.{path_before}
use Rattle.hd_position.specs.Laws.{IsHeld}
use Rattle.hd_position.specs.Backs.{EndsBelow, beside, from_on, IsLastChild, IsLastOrNone, IsSiblingBefore, IsExtended}
use Rattle.hd_position.proofs.Leaves.{Grounds, grounds}
use Rattle.hd_position.proofs.Before.{row_before, path_levels, leads_segment}
use Rattle.hd_position.proofs.Ends.{last_before}
use Rattle.hd_forest.proofs.Climbs.{parted}
use Rattle.hd_position.proofs.Backing.{IsLastNamed, last_is, from_none, from_child, leads_beside, leads_up, tip_end}

module _ (types : List SegmentType) (bound : ℕ) (m : Links) (G : IsLinkGraph types bound m) (L : AreLinked types m) where
  -- ---- the last child of a row

  abbrev all : ℕ → List ℕ
  all h = child_types types (m.code h)

  named : (h : ℕ) (end : Option ℕ) → IsLastNamed m h end 0 (child_types types (m.code h)) (last_named m h end 0 (child_types types (m.code h)))
  named h end = last_is m h end 0 (child_types types (m.code h)) (types_ascend types (m.code h)) (types_some types (m.code h))

  -- there is none
  pub last_none : (h : ℕ) (end : Option ℕ) (t : ℕ) → t ≡ last_named m h end 0 (child_types types (m.code h)) → t ≡ 0 → IsLastOrNone types m h end 0
  last_none h end t is zero_t = elim (named h end) [
    | inl none ↦ inl (refl, none.1)
    | inr some ↦ absurd (let l : 0 < last_named m h end 0 (all h) = above_in 0 (last_named m h end 0 (child_types types (m.code h))) (child_types types (m.code h)) (types_some types (m.code h)) some.0 in omega arith)
  ]

  -- it is of a child type
  pub last_typed : (h : ℕ) (end : Option ℕ) (t : ℕ) → t ≡ last_named m h end 0 (child_types types (m.code h)) → (t ≡ 0 → ⊥) → is_child_type types (m.code h) t ≡ true
  last_typed h end t is some_t = elim (named h end) [
    | inl none ↦ absurd (some_t (is ∙ none.0))
    | inr some ↦ subst (λ x. is_child_type types (m.code h) x ≡ true) (sym is) some.0
  ]

  pub last_found : (h : ℕ) (end : Option ℕ) (t r : ℕ) → m.here h ≡ true → t ≡ last_named m h end 0 (child_types types (m.code h)) → (t ≡ 0 → ⊥) → IsBehind m (m.first_child h t) r 0 → IsLastOrNone types m h end r
  last_found h end t r here is some_t B = elim (named h end) [
    | inl none ↦ absurd (some_t (is ∙ none.0))
    | inr some ↦ elim B [
      | inl bare ↦ absurd (let l : 0 < m.first_child h t = subst (λ x. 0 < m.first_child h x) (sym is) some.1 in let z : m.first_child h t ≡ 0 = bare.1 in omega arith)
      | inr last ↦
          (let l : 0 < m.first_child h t = subst (λ x. 0 < m.first_child h x) (sym is) some.1 in
          let typed : is_child_type types (m.code h) t ≡ true = last_typed h end t is some_t in
          let T = L.typed.first h t here typed l in
          let code : m.code r ≡ t = (twins-there types m L.typed t last.1.0 (m.first_child h t) r (record { some = l; here = T.0 }) T.1 last.1.1).1 in
          inr (record {
            some = last.0;
            typed = subst (λ x. is_child_type types (m.code h) x ≡ true) (sym code) typed;
            chain = subst (λ x. IsInChain m (m.first_child h x) r) (sym code) last.1;
            last = last.2;
            rest = ap (λ x. child_among m h (later_than x (child_types types (m.code h)))) (code ∙ is) ∙ some.2;
          }))
    ]
  ]

  -- ---- what stands before a row

  module _ (path : List ℕ) (some_path : 0 < length path) (down : LeadsDown types m 0 path) where
    abbrev P : List ℕ
    P = take (length path - 1) path

    parts : LeadsDown types m 0 (take (length path - 1) path ++ tip path ∷ [])
    parts = subst (LeadsDown types m 0) (parted 0 path some_path) down

    pub front : LeadsDown types m 0 (take (length path - 1) path)
    front = leads_up types m 0 (take (length path - 1) path) (tip path ∷ []) parts

    -- a twin
    pub twin_before : (y : ℕ) → CanUnlink types m (parent_on path) y (tip path) → (y ≡ 0 → ⊥) → IsSiblingBefore types m path y
    twin_before y U some_y =
        let h : ℕ = parent_on path in
        let a : ℕ = tip path in
        let some : 0 < y = positive y some_y in
        let c = U.twin some in
        let first : 0 < m.first_child h (m.code a) = chain_some c.0 (m.first_child h (m.code a)) y c.1 in
        let T = L.typed.first h (m.code a) U.parent U.typed first in
        let code : m.code y ≡ m.code a = (twins-there types m L.typed (m.code a) c.0 (m.first_child h (m.code a)) y (record { some = first; here = T.0 }) T.1 c.1).1 in
        let next : m.forward y ≡ a = sym (cond-false (y == 0) (m.first_child h (m.code a)) (m.forward y) (ne_eqb y 0 some_y)) ∙ U.here in
        inr (
          some,
          leads_beside types m 0 (take (length path - 1) path) (tip path) y parts (subst (λ x. is_child_type types (m.code h) x ≡ true) (sym code) U.typed) (subst (λ x. IsInChain m (m.first_child h x) y) (sym code) c),
          ap (λ x. first_some x (child_among m h (later_than (m.code y) (child_types types (m.code h))))) next ∙ some_own (tip path) (child_among m h (later_than (m.code y) (child_types types (m.code h)))) U.some,
        )
      where
        positive : (y : ℕ) → (y ≡ 0 → ⊥) → 0 < y
        positive zero n = absurd (n refl)
        positive (suc y) n = omega arith

        chain_some : (n p a : ℕ) → Rattle.hd_links.specs.Pointers.IsTwinAfter m n p a → 0 < p
        chain_some zero p a w = w.0
        chain_some (suc n) p a w = w.0

    -- a child of an earlier type, or the parent
    pub child_before : CanUnlink types m (parent_on path) 0 (tip path) → (r : ℕ) → IsLastOrNone types m (parent_on path) (Some (m.code (tip path))) r → IsSiblingBefore types m path r
    child_before U r last =
        let h : ℕ = parent_on path in
        let a : ℕ = tip path in
        let first : m.first_child h (m.code a) ≡ a = U.here in
        let rest : child_among m h (from_on (Some (m.code a)) (child_types types (m.code h))) ≡ a
        = from_child m h (m.code a) (child_types types (m.code h)) (types_ascend types (m.code h)) U.typed (subst (λ x. 0 < x) (sym first) U.some) ∙ first in
        elim last [
          | inl none ↦ inl (none.0, ap (λ x. first_some x (behind_span types m (take (length path - 1) path))) (none.1 ∙ rest) ∙ some_own (tip path) (behind_span types m (take (length path - 1) path)) U.some)
          | inr C ↦ inr (
            C.some,
            leads_beside types m 0 (take (length path - 1) path) (tip path) r parts C.typed C.chain,
            some_zero (m.forward r) (child_among m h (later_than (m.code r) (child_types types (m.code h)))) C.last ∙ C.rest ∙ rest,
          )
        ]

    -- before the first root stands none
    pub first_root : CanUnlink types m (parent_on path) 0 (tip path) → parent_on path ≡ 0 → IsSiblingBefore types m path 0
    first_root U top =
        let roots : child_types types (m.code (parent_on path)) ≡ 1 ∷ [] = ap (λ h. child_types types (m.code h)) top ∙ ap (child_types types) G.header_code in
        let code : 1 ≡ m.code (tip path) = elim (in_cases 1 (m.code (tip path)) [] (ap (λ (ts : List ℕ). Rattle.hd_links.proofs.Types.is_in ts (m.code (tip path))) (sym roots) ∙ U.typed)) [ inl e ↦ e | inr e ↦ absurd (false≢true e) ] in
        child_before U 0 (inl (refl, ap (child_among m (parent_on path)) (roots ∙ sym (ap (from_on (Some (m.code (tip path)))) roots ∙ ap (λ c. from_on (Some c) (1 ∷ [])) (sym code)))))

-- ---- down to the last row

-- a path with one more
leads_more : (types : List SegmentType) (m : Links) (h : ℕ) (path : List ℕ) (c : ℕ) → LeadsDown types m h path → is_child_type types (m.code (tip_from h path)) (m.code c) ≡ true
    → IsInChain m (m.first_child (tip_from h path) (m.code c)) c → LeadsDown types m h (path ++ c ∷ [])
leads_more types m h [] c down typed chain = (typed, chain, tt)
leads_more types m h (x ∷ path) c down typed chain = (down.0, down.1, leads_more types m x path c down.2 typed chain)

-- How far the way down has come: what leads to the end from there leads to it from the beginning.
pub record IsOnTheWay (types : List SegmentType) (m : Links) (old new : List ℕ) (count : ℕ) : Type 0 where
  pub more : List ℕ
  pub is : new ≡ old ++ more
  pub ends : (r : List ℕ) → EndsBelow types m (tip new) r → EndsBelow types m (tip old) (more ++ r)
  pub down : LeadsDown types m 0 new
  pub long : length new ≡ length old + count

module _ (block_size : ℕ) (frspc : FreeSpace) (types : List SegmentType) (bound : ℕ) (m : Links) (f : Forest Placed) (D : IsHeld block_size frspc types bound m f) where
  ground : Grounds types m f
  ground = grounds block_size frspc types bound m f D.formed D.graph D.holds

  linked : AreLinked types m
  linked = are_linked types (ordered block_size frspc types D.formed) bound m D.graph f D.holds

  -- the last row of a path that leads down is a segment
  pub tip_there : (path : List ℕ) → 0 < length path → LeadsDown types m 0 path → IsSegment m (tip path)
  tip_there [] some down = absurd (omega arith)
  tip_there (a ∷ path) some down = leads_segment types m linked.typed 0 a path D.graph.header down

  -- a path that leads down has 15 rows at most
  pub few_levels : (path : List ℕ) → 0 < length path → LeadsDown types m 0 path → length path ≤ 15
  few_levels path some down =
      let E = ground.addressed.each (tip path) (tip_there path some down) in
      let is = (ground.steps E.0 E.1).only path down (sym E.2) in
      let P = path_levels block_size frspc types bound m f E.0 D E.1 in
      let long : length path ≡ Rattle.hd_dbd.specs.Paths.level_at types (rows_of f) E.0 = ap (λ (xs : List ℕ). length xs) is ∙ P.0 in
      let most : Rattle.hd_dbd.specs.Paths.level_at types (rows_of f) E.0 ≤ 15 = P.1 in
      omega arith

  module _ (old path : List ℕ) (count : ℕ) (some : 0 < length old) (W : IsOnTheWay types m old path count) where
    pub on_way_some : 0 < length path
    on_way_some = (let l : length path ≡ length old + count = W.long in omega arith)

    pub arrives : IsLastOrNone types m (tip path) None 0 → IsExtended types m old path
    arrives last = elim last [
      | inl none ↦ (W.more, W.is, subst (EndsBelow types m (tip old)) (append-nil W.more) (W.ends [] (none.1 ∙ ap (child_among m (tip path)) (from_none (child_types types (m.code (tip path)))))))
      | inr C ↦ absurd (let l : 0 < 0 = C.some in omega arith)
    ]

    module _ (child : ℕ) (some_child : child ≡ 0 → ⊥) (last : IsLastOrNone types m (tip path) None child) where
      found : IsLastChild types m (tip path) None child
      found = elim last [ inl none ↦ absurd (some_child none.0) | inr C ↦ C ]

      lower : LeadsDown types m 0 (path ++ child ∷ [])
      lower = leads_more types m 0 path child W.down found.typed found.chain

      pub room : length path < 15
      room =
          let one : length (path ++ child ∷ []) ≡ length path + 1 = length-append path (child ∷ []) in
          let most : length (path ++ child ∷ []) ≤ 15 = few_levels (path ++ child ∷ []) (omega arith) lower in
          omega arith

      pub goes_on : IsOnTheWay types m old (path ++ child ∷ []) (count + 1)
      goes_on = record {
        more = W.more ++ child ∷ [];
        is = ap (λ (xs : List ℕ). xs ++ child ∷ []) W.is ∙ append_assoc old W.more (child ∷ []);
        ends = λ r E.
            subst (EndsBelow types m (tip old)) (sym (append_assoc W.more (child ∷ []) r))
            (W.ends (child ∷ r) (
              found.typed,
              found.chain,
              found.last,
              found.rest ∙ ap (child_among m (tip path)) (from_none (child_types types (m.code (tip path)))),
              subst (λ x. EndsBelow types m x r) (tip_end 0 path child) E,
            ));
        down = lower;
        long = (let one : length (path ++ child ∷ []) ≡ length path + 1 = length-append path (child ∷ []) in let l : length path ≡ length old + count = W.long in omega arith);
      }

  pub starts : (old : List ℕ) → LeadsDown types m 0 old → IsOnTheWay types m old old 0
  starts old down = record { more = []; is = sym (append-nil old); ends = λ r E. E; down = down; long = omega arith }

  -- ---- the row before

  module _ (path : List ℕ) (i : ℕ) (on : IsOnRow types m f path i) where
    tip_is : tip path ≡ address_at f i
    tip_is = ap (tip_from 0) on.is ∙ (ground.steps i on.within).tip

    pub down_there : LeadsDown types m 0 path
    down_there = subst (LeadsDown types m 0) (sym on.is) (ground.steps i on.within).path

    pub some_there : 0 < length path
    some_there = by path refl
      where
        by : (p : List ℕ) → path ≡ p → 0 < length path
        by [] e = absurd (let z : 0 ≡ address_at f i = sym (ap (tip_from 0) e) ∙ tip_is in let s : 0 < address_at f i = (ground.addressed.there i on.within).some in omega arith)
        by (a ∷ p) e = subst (λ (xs : List ℕ). 0 < length xs) (sym e) (omega arith)

    pub parent_before : IsSiblingBefore types m path 0 → take (length path - 1) path ≡ path_before types f i
    parent_before S = elim S [
      | inl none ↦ row_before block_size frspc types bound m f i (take (length path - 1) path) D on.within (front types bound m D.graph linked path some_there down_there) (none.1 ∙ tip_is)
      | inr some ↦ absurd (let l : 0 < 0 = some.0 in omega arith)
    ]

    pub last_below : (s : ℕ) (new : List ℕ) → (s ≡ 0 → ⊥) → IsSiblingBefore types m path s → IsExtended types m (take (length path - 1) path ++ s ∷ []) new → new ≡ path_before types f i
    last_below s new some_s S X = elim S [
      | inl none ↦ absurd (some_s none.0)
      | inr some ↦
          (let P : List ℕ = take (length path - 1) path in
          let E : EndsBelow types m s X.0 = subst (λ x. EndsBelow types m x X.0) (tip_end 0 P s) X.2 in
          let positive : 0 < beside types m (tip_from 0 P) s = subst (λ x. 0 < x) (sym (some.2 ∙ tip_is)) (ground.addressed.there i on.within).some in
          let B = last_before types m P s X.0 some.1 E positive in
          let is : new ≡ P ++ s ∷ X.0 = X.1 ∙ append_assoc P (s ∷ []) X.0 in
          is ∙ row_before block_size frspc types bound m f i (P ++ s ∷ X.0) D on.within B.0 (B.1 ∙ some.2 ∙ tip_is))
    ]

    -- where a row stands before it below the parent, the path to that leads down
    pub sibling_down : (s : ℕ) → (s ≡ 0 → ⊥) → IsSiblingBefore types m path s → LeadsDown types m 0 (take (length path - 1) path ++ s ∷ [])
    sibling_down s some_s S = elim S [ inl none ↦ absurd (some_s none.0) | inr some ↦ some.1 ]
