-- What unlinking a span does.
use Rattle.std.proofs.Common.{◌≡◌, ℕ, ◌+◌, ◌<◌, ◌≤◌, List, true, arith, ap, sym, ◌∙◌, refl, subst, None, inl, inr}
use Rattle.std.specs.Prelude.{◌==◌, ◌||◌, ◌&&◌, nat_lt}
use Rattle.std.proofs.lemmas.Bool.{cases_eq, eq-eqb, ne_eqb, cond-true, cond-false, lt-ltb, ltb-true, or_right}
use Rattle.hd_dbd.specs.Types.{SegmentType}
use Rattle.hd_dbd.specs.Rows.{row_fits}
use Rattle.hd_dbd.specs.Forest.{Forest, empty, node}
use Rattle.hd_links.specs.Links.{Links, IsSegment, IsLinkGraph, segment_at, is_child_type, is_last_kept}
use Rattle.hd_dbd.specs.Prefixes.{is_backward_kept}
use Rattle.hd_links.specs.Placed.{Placed, count, first_of, last_of, nowhere, with_node, with_nodes, NodesLie, NamesChildren, Lies, Holds}
use Rattle.hd_links.specs.Pointers.{IsTwinAfter, Precedes, AreLinked}
use Rattle.hd_links.specs.Changes.{AgreeAt, Agree, unlinked, take_out, with_children, without_span, CanUnlink}
use Rattle.hd_links.proofs.Types.{Ordered}
use Rattle.hd_links.proofs.Forms.{first_behind_none, Formed, fits}
use Rattle.hd_links.proofs.Build.{zero_or, last_same}
use Rattle.hd_links.proofs.Counts.{is_at, count_zero, node_there, not_own}
use Rattle.hd_links.proofs.Sound.{are_linked}
use Rattle.hd_links.proofs.Joins.{stands_right, placed_right, join, AllPlaced, all_placed, pick, pick_zero, pick_some, count_join, first_join, last_join, last_none, last_some, last_one, one_counts, first_counts, first_one, IsOne, NotBelow, one_not_below, none_below, not_below_left}
use Rattle.hd_links.proofs.Touch.{all_three, not_second, not_third, Keeps, Touch, behind, before}
use Rattle.hd_links.proofs.Lift.{Spot, spot, at_most_once, changed_lies, changed_formed, changed_count}
use Rattle.hd_links.proofs.Places.{chain_one, one_there, first_named, twin_named}
use Rattle.hd_links.proofs.Gaps.{next_one, last_forward, OutPlace, out_place, formed_out}

module _ (types : List SegmentType) (O : Ordered types) (bound : ℕ) (m m2 : Links) (G : IsLinkGraph types bound m) (f : Forest Placed) (H : Holds types m f) (h y a : ℕ)
    (C : CanUnlink types m h y a) (A : Agree types (unlinked m h y a (without_span h a f)) m2) where
  L : AreLinked types m
  L = are_linked types O bound m G f H

  K : Forest Placed
  K = (spot types O bound m G f H h C.parent).0

  S : Spot types m h f K
  unfolding K
  S = (spot types O bound m G f H h C.parent).1

  once_K : (b : ℕ) → count b K ≤ 1
  once_K b = (let i : count b K ≤ count b f = S.part b in let o : count b f ≤ 1 = at_most_once types m f H b in omega arith)

  -- ---- a and the twin before it

  y_one : 0 < y → IsOne (m.code a) y K
  y_one some = (let c = C.twin some in chain_one types m (m.code a) y nowhere K S.stand c.0 (subst (λ x. IsTwinAfter m c.0 x y) (S.named.first (m.code a) C.typed) c.1))

  y_there : 0 < y → IsSegment m y × (m.code y ≡ m.code a)
  y_there some = one_there types m (m.code a) y nowhere K S.stand (y_one some)

  first_is : y ≡ 0 → m.first_child h (m.code a) ≡ a
  first_is e = first_named types m h y a C e

  forward_is : 0 < y → m.forward y ≡ a
  forward_is some = twin_named types m h y a C some

  a_one : IsOne (m.code a) a K
  a_one = elim (zero_or y) [
    | inl e ↦
        (let is : first_of K (m.code a) ≡ a = sym (S.named.first (m.code a) C.typed) ∙ first_is e in
        subst (λ x. IsOne (m.code a) x K) is (first_one K (m.code a) (subst (λ x. 0 < x) (sym is) C.some)))
    | inr some ↦ subst (λ x. IsOne (m.code a) x K) (forward_is some)
        (next_one types m (m.code a) y nowhere K S.stand (y_one some) (subst (λ x. 0 < x) (sym (forward_is some)) C.some))
  ]

  a_there : IsSegment m a
  a_there = (one_there types m (m.code a) a nowhere K S.stand a_one).0

  place : OutPlace (m.code a) a K
  place = out_place (m.code a) a K a_one (once_K a)

  stand_K : NodesLie types m nowhere (join place.front (node place.row place.gone place.rest))
  stand_K = subst (NodesLie types m nowhere) place.is S.stand

  front_placed : AllPlaced place.front
  front_placed = all_placed types m nowhere place.front (node place.row place.gone place.rest) stand_K

  stand_right : NodesLie types m (with_nodes nowhere place.front) (node place.row place.gone place.rest)
  stand_right = stands_right types m nowhere place.front (node place.row place.gone place.rest) stand_K

  row_first : first_of (node place.row place.gone place.rest) (m.code a) ≡ a
  row_first = cond-true (place.row.segment.code == m.code a) place.row.address (first_of place.rest (m.code a)) (eq-eqb place.row.segment.code (m.code a) place.code) ∙ place.address

  z_is : first_of place.rest (m.code a) ≡ m.forward a
  z_is = ap (first_of place.rest) (sym place.code) ∙ sym stand_right.0.forward ∙ ap m.forward place.address

  -- the header or a segment is no twin of a
  no_parent : (l : ℕ) → m.code l ≡ m.code a → h ≡ l → ⊥
  no_parent l e q = not_own types O (m.code h) (m.code a) C.typed (sym e ∙ ap m.code (sym q))

  parent_first : m.first_child h (m.code a) ≡ a → Precedes types m h a
  parent_first e = inr (m.code a, record { holder = C.parent; typed = C.typed; names = e })

  some_front : 0 < y → 0 < first_of place.front (m.code a)
  some_front some = elim (zero_or (first_of place.front (m.code a))) [
    | inl z ↦
        (let is : m.first_child h (m.code a) ≡ a
        = S.named.first (m.code a) C.typed ∙ ap (λ (x : Forest Placed). first_of x (m.code a)) place.is
        ∙ first_join place.front (node place.row place.gone place.rest) (m.code a) front_placed
        ∙ pick_zero (first_of place.front (m.code a)) (first_of (node place.row place.gone place.rest) (m.code a)) z ∙ row_first in
        let Y = y_there some in
        absurd (no_parent y Y.1 (L.single.one a h y a_there (parent_first is) (inl (record { holder = Y.0; names = forward_is some })))))
    | inr q ↦ q
  ]

  last_y : 0 < first_of place.front (m.code a) → y ≡ with_nodes nowhere place.front (m.code a)
  last_y some =
      let l : ℕ = with_nodes nowhere place.front (m.code a) in
      let names : m.forward l ≡ a = last_forward types m (m.code a) nowhere place.front (node place.row place.gone place.rest) stand_K some ∙ row_first in
      let one : IsOne (m.code a) l K = subst (IsOne (m.code a) l) (sym place.is) (one_left (m.code a) l place.front (node place.row place.gone place.rest) (last_one nowhere place.front (m.code a) some front_placed)) in
      let T = one_there types m (m.code a) l nowhere K S.stand one in
      let before_a : Precedes types m l a = inl (record { holder = T.0; names = names }) in
      elim (zero_or y) [
        | inl e ↦ absurd (no_parent l T.1 (L.single.one a h l a_there (parent_first (first_is e)) before_a))
        | inr q ↦ L.single.one a y l a_there (inl (record { holder = (y_there q).0; names = forward_is q })) before_a
      ]
    where
      one_left : (t x : ℕ) (p q : Forest Placed) → IsOne t x p → IsOne t x (join p q)
      one_left t x empty q o = absurd o
      one_left t x (node r k n) q (inl e) = inl e
      one_left t x (node r k n) q (inr o) = inr (one_left t x n q o)

  none_front : y ≡ 0 → first_of place.front (m.code a) ≡ 0
  none_front e = elim (zero_or (first_of place.front (m.code a))) [
    | inl z ↦ z
    | inr q ↦ absurd
        (let o : IsOne (m.code a) (with_nodes nowhere place.front (m.code a)) place.front = last_one nowhere place.front (m.code a) q front_placed in
        let c : 0 < count (with_nodes nowhere place.front (m.code a)) place.front = one_counts (m.code a) (with_nodes nowhere place.front (m.code a)) place.front o in
        let c0 : 0 < count 0 place.front = subst (λ x. 0 < count x place.front) (sym (last_y q) ∙ e) c in
        let k : count 0 K ≡ 0 = count_zero types m nowhere K S.stand in
        let j : count 0 K ≡ count 0 place.front + count 0 (node place.row place.gone place.rest) = ap (count 0) place.is ∙ count_join 0 place.front (node place.row place.gone place.rest) in
        omega arith)
  ]

  table_y : with_nodes nowhere place.front (m.code a) ≡ y
  table_y = elim (zero_or y) [
    | inl e ↦ last_none nowhere place.front (m.code a) front_placed (none_front e) ∙ sym e
    | inr q ↦ sym (last_y (some_front q))
  ]

  -- ---- what is left

  span : ℕ → ℕ
  span b = is_at a b + count b place.gone

  count_K : (b : ℕ) → count b K ≡ count b place.front + (span b + count b place.rest)
  unfolding span
  count_K b =
      let j : count b K ≡ count b place.front + count b (node place.row place.gone place.rest) = ap (count b) place.is ∙ count_join b place.front (node place.row place.gone place.rest) in
      let o : is_at place.row.address b ≡ is_at a b = ap (λ x. is_at x b) place.address in
      omega arith

  left : Forest Placed
  left = without_span h a f

  count_left : (b : ℕ) → count b left + span b ≡ count b f
  unfolding left
  count_left b =
      let c : count b (with_children h (take_out a) f) + count b K ≡ count b f + count b (take_out a K) = changed_count types O bound m G f H h (take_out a) K S b in
      let i : count b (take_out a K) ≡ count b place.front + count b place.rest = ap (count b) place.out ∙ count_join b place.front place.rest in
      let j : count b K ≡ count b place.front + (span b + count b place.rest) = count_K b in
      omega arith

  -- it stays
  Stays : ℕ → Type 0
  Stays b = IsSegment m b × (span b ≡ 0)

  stays : (b : ℕ) → IsSegment m b → span b ≡ 0 → Stays b
  unfolding Stays
  stays b s e = (s, e)

  is_segment : (b : ℕ) → Stays b → IsSegment m b
  unfolding Stays
  is_segment b s = s.0

  no_span : (b : ℕ) → Stays b → span b ≡ 0
  unfolding Stays
  no_span b s = s.1

  left_here : (b : ℕ) → Stays b → (unlinked m h y a (without_span h a f)).here b ≡ true
  unfolding left
  left_here b s =
      let i : count b f ≡ 1 = H.once b (is_segment b s) in
      let j : span b ≡ 0 = no_span b s in
      let c : count b left + span b ≡ count b f = count_left b in
      let l : 0 < count b (without_span h a f) = omega arith in
      or_right (b == 0) (nat_lt 0 (count b (without_span h a f))) (lt-ltb 0 (count b (without_span h a f)) l)

  left_seg : (b : ℕ) → Stays b → IsSegment (unlinked m h y a (without_span h a f)) b
  left_seg b s = record { some = (is_segment b s).some; here = left_here b s }

  header_left : (unlinked m h y a (without_span h a f)).here 0 ≡ true
  header_left = refl

  -- what is left is what stays
  there_stays : (b : ℕ) → IsSegment m2 b → Stays b
  unfolding left
  there_stays b s =
      let here : (unlinked m h y a (without_span h a f)).here b ≡ true = sym (A b).here ∙ s.here in
      let l : 0 < count b (without_span h a f)
      = ltb-true 0 (count b (without_span h a f)) (sym (ap (λ c. c || nat_lt 0 (count b (without_span h a f))) (ne_eqb b 0 (λ (e : b ≡ 0). let p : 0 < b = s.some in omega arith))) ∙ here) in
      let c : count b left + span b ≡ count b f = count_left b in
      let o : count b f ≤ 1 = at_most_once types m f H b in
      stays b (node_there types m b nowhere f H.lies.nodes (omega arith)) (omega arith)

  -- ---- what the records say afterwards

  keeps : (b : ℕ) → Stays b → Keeps m m2 b
  keeps b s = record {
    here = (A b).here ∙ left_here b s ∙ sym (is_segment b s).here;
    code = (A b).code (left_here b s);
    bytes = (A b).bytes (left_seg b s);
    delete_byte = (A b).delete_byte (left_seg b s);
  }

  ahead : (b : ℕ) → Stays b → (b ≡ y → ⊥) → m2.forward b ≡ m.forward b
  ahead b s ny = (A b).forward (left_seg b s) ∙ cond-false (b == y) (m.forward a) (m.forward b) (ne_eqb b y ny)

  back : (b : ℕ) → Stays b → (b ≡ m.forward a → ⊥) → is_backward_kept types (m.code b) ≡ true → m2.backward b ≡ m.backward b
  back b s nz kept = (A b).backward (left_seg b s) kept ∙ cond-false (b == m.forward a) y (m.backward b) (ne_eqb b (m.forward a) nz)

  first_same : (b u : ℕ) → (unlinked m h y a (without_span h a f)).here b ≡ true → (b ≡ h → ⊥) → is_child_type types (m.code b) u ≡ true → m2.first_child b u ≡ m.first_child b u
  first_same b u here nh q =
      (A b).first_child u here q
      ∙ cond-false (b == h && u == m.code a && y == 0) (m.forward a) (m.first_child b u) (ap (λ c. c && u == m.code a && y == 0) (ne_eqb b h nh))

  last_same_at : (b u : ℕ) → (unlinked m h y a (without_span h a f)).here b ≡ true → (b ≡ h → ⊥) → is_child_type types (m.code b) u ≡ true → is_last_kept types u ≡ true → m2.last_child b u ≡ m.last_child b u
  last_same_at b u here nh q kept =
      (A b).last_child u here q kept
      ∙ cond-false (b == h && u == m.code a && m.forward a == 0) y (m.last_child b u) (ap (λ c. c && u == m.code a && m.forward a == 0) (ne_eqb b h nh))

  in_front : (b : ℕ) → 0 < count b place.front → Stays b
  in_front b l =
      let j : count b K ≡ count b place.front + (span b + count b place.rest) = count_K b in
      let o : count b K ≤ 1 = once_K b in
      stays b (node_there types m b nowhere K S.stand (omega arith)) (omega arith)

  in_rest : (b : ℕ) → 0 < count b place.rest → Stays b
  in_rest b l =
      let j : count b K ≡ count b place.front + (span b + count b place.rest) = count_K b in
      let o : count b K ≤ 1 = once_K b in
      stays b (node_there types m b nowhere K S.stand (omega arith)) (omega arith)

  y_front : 0 < y → 0 < count y place.front
  y_front some = subst (λ x. 0 < count x place.front) table_y
      (one_counts (m.code a) (with_nodes nowhere place.front (m.code a)) place.front (last_one nowhere place.front (m.code a) (some_front some) front_placed))

  z_rest : 0 < m.forward a → 0 < count (m.forward a) place.rest
  z_rest some = subst (λ x. 0 < count x place.rest) z_is (first_counts place.rest (m.code a) (subst (λ x. 0 < x) (sym z_is) some))

  touch : Touch types m m2 Stays h y (m.forward a) (m.forward a) y
  touch = record {
    keeps = keeps;
    children = λ b s nh. record { first = λ u q. first_same b u (left_here b s) nh q; last = λ u q kept. last_same_at b u (left_here b s) nh q kept };
    forward = ahead;
    forward_y = λ some. (A y).forward (left_seg y (in_front y (y_front some))) ∙ cond-true (y == y) (m.forward a) (m.forward y) (eq-eqb y y refl);
    backward = back;
    backward_z = λ some kept. (A (m.forward a)).backward (left_seg (m.forward a) (in_rest (m.forward a) (z_rest some))) kept
        ∙ cond-true (m.forward a == m.forward a) y (m.backward (m.forward a)) (eq-eqb (m.forward a) (m.forward a) refl);
  }

  y_rest : count y place.rest ≡ 0
  y_rest = elim (zero_or y) [
    | inl e ↦
        (let k : count y K ≡ count 0 K = ap (λ x. count x K) e in
        let z0 : count 0 K ≡ 0 = count_zero types m nowhere K S.stand in
        let c : count y K ≡ count y place.front + (span y + count y place.rest) = count_K y in omega arith)
    | inr q ↦
        (let c : count y K ≡ count y place.front + (span y + count y place.rest) = count_K y in
        let o : count y K ≤ 1 = once_K y in
        let i : 0 < count y place.front = y_front q in omega arith)
  ]

  rest_stands : NodesLie types m2 (with_nodes nowhere place.front) place.rest
  rest_stands =
      behind types m m2 Stays h (m.code a) y (m.forward a) (m.forward a) y touch
      (with_node (with_nodes nowhere place.front) place.row) (with_nodes nowhere place.front) place.rest stand_right.2
      in_rest
      (λ b. (let c : count b K ≡ count b place.front + (span b + count b place.rest) = count_K b in let o : count b K ≤ 1 = once_K b in omega arith))
      (let c : count h K ≡ count h place.front + (span h + count h place.rest) = count_K h in let o : count h K ≡ 0 = S.own in omega arith)
      y_rest z_is table_y
      (λ u ne. cond-false (place.row.segment.code == u) place.row.address (with_nodes nowhere place.front u) (ne_eqb place.row.segment.code u (λ e. ne (sym place.code ∙ e))))

  y_not_below : NotBelow y place.front
  y_not_below = not_below_left y place.front (node place.row place.gone place.rest) (subst (NotBelow y) place.is (elim (zero_or y) [
    | inl e ↦ none_below y K (ap (λ x. count x K) e ∙ count_zero types m nowhere K S.stand)
    | inr q ↦ one_not_below (m.code a) y K (y_one q) (once_K y)
  ]))

  row_other : (u : ℕ) → (m.code a ≡ u → ⊥) → first_of (node place.row place.gone place.rest) u ≡ first_of place.rest u
  row_other u ne = cond-false (place.row.segment.code == u) place.row.address (first_of place.rest u) (ne_eqb place.row.segment.code u (λ e. ne (sym place.code ∙ e)))

  list_stands : NodesLie types m2 nowhere (join place.front place.rest)
  list_stands =
      before types m m2 Stays h (m.code a) y (m.forward a) (m.forward a) y touch
      nowhere place.front (node place.row place.gone place.rest) place.rest stand_K
      in_front
      (λ b. subst (λ (x : Forest Placed). count b x ≤ 1) place.is (once_K b))
      (subst (λ (x : Forest Placed). count h x ≡ 0) place.is S.own)
      (λ some. (let i : 0 < count (m.forward a) place.rest = z_rest some in omega arith))
      y_not_below last_y (λ q. (y_there q).1)
      z_is row_other rest_stands

  -- ---- what the parent names

  K_first : (u : ℕ) → first_of K u ≡ pick (first_of place.front u) (first_of (node place.row place.gone place.rest) u)
  K_first u = ap (λ (x : Forest Placed). first_of x u) place.is ∙ first_join place.front (node place.row place.gone place.rest) u front_placed

  K_last : (u : ℕ) → last_of K u ≡ with_nodes (with_node (with_nodes nowhere place.front) place.row) place.rest u
  K_last u = ap (λ (x : Forest Placed). last_of x u) place.is ∙ last_join nowhere place.front (node place.row place.gone place.rest) u

  list_first : (u : ℕ) → first_of (join place.front place.rest) u ≡ pick (first_of place.front u) (first_of place.rest u)
  list_first u = first_join place.front place.rest u front_placed

  list_last : (u : ℕ) → last_of (join place.front place.rest) u ≡ with_nodes (with_nodes nowhere place.front) place.rest u
  list_last u = last_join nowhere place.front place.rest u

  parent_left : (unlinked m h y a (without_span h a f)).here h ≡ true
  parent_left = elim (zero_or h) [
    | inl e ↦ ap (λ x. (unlinked m h y a (without_span h a f)).here x) e ∙ header_left
    | inr some ↦ left_here h (stays h (record { some = some; here = C.parent })
        (let c : count h K ≡ count h place.front + (span h + count h place.rest) = count_K h in let o : count h K ≡ 0 = S.own in omega arith))
  ]

  names_first : (u : ℕ) → is_child_type types (m.code h) u ≡ true → m2.first_child h u ≡ first_of (join place.front place.rest) u
  names_first u q =
      (A h).first_child u parent_left q
      ∙ elim (cases_eq u (m.code a)) [
        | inl e ↦ elim (zero_or y) [
          | inl o ↦ cond-true (h == h && u == m.code a && y == 0) (m.forward a) (m.first_child h u)
              (all_three (h == h) (u == m.code a) (y == 0) (eq-eqb h h refl) (eq-eqb u (m.code a) e) (eq-eqb y 0 o))
              ∙ sym z_is ∙ ap (first_of place.rest) (sym e)
              ∙ sym (pick_zero (first_of place.front u) (first_of place.rest u) (ap (first_of place.front) e ∙ none_front o)) ∙ sym (list_first u)
          | inr some ↦
              (let fr : 0 < first_of place.front u = subst (λ x. 0 < first_of place.front x) (sym e) (some_front some) in
              cond-false (h == h && u == m.code a && y == 0) (m.forward a) (m.first_child h u)
              (not_third (h == h) (u == m.code a) (y == 0) (ne_eqb y 0 (λ (i : y ≡ 0). omega arith)))
              ∙ S.named.first u q ∙ K_first u ∙ pick_some (first_of place.front u) (first_of (node place.row place.gone place.rest) u) fr
              ∙ sym (pick_some (first_of place.front u) (first_of place.rest u) fr) ∙ sym (list_first u))
        ]
        | inr ne ↦ cond-false (h == h && u == m.code a && y == 0) (m.forward a) (m.first_child h u)
            (not_second (h == h) (u == m.code a) (y == 0) (ne_eqb u (m.code a) ne))
            ∙ S.named.first u q ∙ K_first u ∙ ap (pick (first_of place.front u)) (row_other u (λ i. ne (sym i))) ∙ sym (list_first u)
      ]

  names_last : (u : ℕ) → is_child_type types (m.code h) u ≡ true → is_last_kept types u ≡ true → m2.last_child h u ≡ last_of (join place.front place.rest) u
  names_last u q kept =
      (A h).last_child u parent_left q kept
      ∙ elim (cases_eq u (m.code a)) [
        | inl e ↦
            (let rest_is : first_of place.rest u ≡ m.forward a = ap (first_of place.rest) e ∙ z_is in
            let placed : AllPlaced place.rest = placed_right types m (with_node (with_nodes nowhere place.front) place.row) place.rest stand_right.2 in
            elim (zero_or (m.forward a)) [
              | inl o ↦ cond-true (h == h && u == m.code a && m.forward a == 0) y (m.last_child h u)
                  (all_three (h == h) (u == m.code a) (m.forward a == 0) (eq-eqb h h refl) (eq-eqb u (m.code a) e) (eq-eqb (m.forward a) 0 o))
                  ∙ sym table_y ∙ ap (with_nodes nowhere place.front) (sym e)
                  ∙ sym (last_none (with_nodes nowhere place.front) place.rest u placed (rest_is ∙ o)) ∙ sym (list_last u)
              | inr some ↦ cond-false (h == h && u == m.code a && m.forward a == 0) y (m.last_child h u)
                  (not_third (h == h) (u == m.code a) (m.forward a == 0) (ne_eqb (m.forward a) 0 (λ (i : m.forward a ≡ 0). omega arith)))
                  ∙ S.named.last u q kept ∙ K_last u
                  ∙ last_some (with_node (with_nodes nowhere place.front) place.row) (with_nodes nowhere place.front) place.rest u (subst (λ x. 0 < x) (sym rest_is) some)
                  ∙ sym (list_last u)
            ])
        | inr ne ↦ cond-false (h == h && u == m.code a && m.forward a == 0) y (m.last_child h u)
            (not_second (h == h) (u == m.code a) (m.forward a == 0) (ne_eqb u (m.code a) ne))
            ∙ S.named.last u q kept ∙ K_last u
            ∙ last_same (with_node (with_nodes nowhere place.front) place.row) (with_nodes nowhere place.front) u place.rest
            (cond-false (place.row.segment.code == u) place.row.address (with_nodes nowhere place.front u) (ne_eqb place.row.segment.code u (λ e. ne (sym e ∙ place.code))))
            ∙ sym (list_last u)
      ]

  -- ---- all other records

  in_span_K : (b : ℕ) → count b K ≡ 0 → span b ≡ 0
  in_span_K b none = (let c : count b K ≡ count b place.front + (span b + count b place.rest) = count_K b in omega arith)

  others : (b : ℕ) → m.here b ≡ true → (b ≡ h → ⊥) → count b K ≡ 0 → AgreeAt types m m2 b
  others b here nh none =
      let stay : IsSegment m b → Stays b = (λ s. stays b s (in_span_K b none)) in
      let lh : (unlinked m h y a (without_span h a f)).here b ≡ true = elim (zero_or b) [
        | inl e ↦ ap (λ x. (unlinked m h y a (without_span h a f)).here x) e ∙ header_left
        | inr some ↦ left_here b (stay (record { some = some; here = here }))
      ] in
      let ny : IsSegment m b → b ≡ y → ⊥ = (λ s e.
      (let i : 0 < count y K = one_counts (m.code a) y K (y_one (subst (λ x. 0 < x) e s.some)) in let j : count b K ≡ count y K = ap (λ x. count x K) e in omega arith)) in
      let nz : IsSegment m b → b ≡ m.forward a → ⊥ = (λ s e.
      (let i : 0 < count (m.forward a) place.rest = z_rest (subst (λ x. 0 < x) e s.some) in
      let c : count (m.forward a) K ≡ count (m.forward a) place.front + (span (m.forward a) + count (m.forward a) place.rest) = count_K (m.forward a) in
      let j : count b K ≡ count (m.forward a) K = ap (λ x. count x K) e in omega arith)) in
      record {
        here = (A b).here ∙ lh ∙ sym here;
        code = λ q. (A b).code lh;
        bytes = λ s. (keeps b (stay s)).bytes;
        delete_byte = λ s. (keeps b (stay s)).delete_byte;
        forward = λ s. ahead b (stay s) (ny s);
        backward = λ s kept. back b (stay s) (nz s) kept;
        first_child = λ u q child. first_same b u lh nh child;
        last_child = λ u q child kept. last_same_at b u lh nh child kept;
      }

  parent_kept : 0 < h → Keeps m m2 h × (m2.forward h ≡ m.forward h) × (is_backward_kept types (m.code h) ≡ true → m2.backward h ≡ m.backward h)
  parent_kept some =
      let s : Stays h = stays h (record { some = some; here = C.parent }) (in_span_K h S.own) in (
        keeps h s,
        ahead h s (λ e. no_parent y (y_there (subst (λ x. 0 < x) e some)).1 e),
        λ kept. back h s (λ e.
            no_parent (m.forward a) (L.typed.forward a a_there (subst (λ x. 0 < x) e some)).1 e) kept,
      )

  -- ---- all together

  graph : IsLinkGraph types bound m2
  graph = record {
    header = (A 0).here ∙ header_left;
    header_code = (A 0).code header_left ∙ G.header_code;
    fits = λ b s.
        (let old : Stays b = there_stays b s in
        let k : Keeps m m2 b = keeps b old in
        let same : segment_at m2 b ≡ segment_at m b = (λ i. record { code = k.code i; bytes = k.bytes i }) in
        ap (row_fits types) same ∙ G.fits b (is_segment b old));
    below = λ b s. G.below b (is_segment b (there_stays b s));
  }

  pub span_gone : IsLinkGraph types bound m2 × Holds types m2 (without_span h a f)
  unfolding left
  span_gone =
      let stands_K : NodesLie types m2 nowhere (take_out a K) = subst (NodesLie types m2 nowhere) (sym place.out) list_stands in
      let named_K : NamesChildren types m2 (m.code h) h (take_out a K) = subst (NamesChildren types m2 (m.code h) h) (sym place.out) (record { first = names_first; last = names_last }) in
      let good : Formed types (m.code h) (take_out a K) = formed_out types (m.code h) a K S.formed in
      let lies : Lies types m2 (without_span h a f) = changed_lies types O bound m G f H m2 h (take_out a) K S others parent_kept stands_K named_K good in
      let form : Formed types 0 (without_span h a f) = changed_formed types O bound m G f H m2 h (take_out a) K S others parent_kept stands_K named_K good in (
        graph,
        record {
          lies = lies;
          fits = fits types O bound m2 graph 0 nowhere None (without_span h a f) lies.nodes form (first_behind_none types (without_span h a f));
          once = λ b s.
              (let old : Stays b = there_stays b s in
              let i : count b f ≡ 1 = H.once b (is_segment b old) in
              let j : span b ≡ 0 = no_span b old in
              let c : count b left + span b ≡ count b f = count_left b in omega arith);
        },
      )
