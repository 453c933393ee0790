-- What linking a leaf does.
use Rattle.std.proofs.Common.{◌≡◌, ℕ, ◌+◌, ◌<◌, ◌≤◌, List, true, arith, ap, sym, ◌∙◌, refl, subst, cond, None, inl, inr}
use Rattle.std.specs.Prelude.{◌==◌, ◌||◌, ◌&&◌}
use Rattle.std.proofs.lemmas.Bool.{cases_eq, eq-eqb, ne_eqb, cond-true, cond-false, false≢true}
use Rattle.hd_dbd.specs.Types.{SegmentType}
use Rattle.hd_dbd.specs.Rows.{row_fits, twins_in_order}
use Rattle.hd_dbd.specs.Forest.{Forest, empty, node}
use Rattle.hd_links.specs.Links.{Links, IsSegment, IsLinkGraph, segment_at, is_child_type, is_last_kept}
use Rattle.hd_dbd.specs.Prefixes.{is_backward_kept}
use Rattle.hd_links.specs.Placed.{Placed, count, first_of, last_of, nowhere, with_node, with_nodes, NodesLie, NodeLies, NamesChildren, Lies, Holds}
use Rattle.hd_links.specs.Pointers.{IsTwinAfter, AreLinked}
use Rattle.hd_links.specs.Changes.{AgreeAt, Agree, twin_behind, linked, put_first, put_behind, with_children, with_leaf, CanLink}
use Rattle.hd_links.proofs.Types.{Ordered}
use Rattle.hd_links.proofs.Forms.{first_behind_none, Formed, segment_is, fits}
use Rattle.hd_links.proofs.Build.{zero_or, last_same}
use Rattle.hd_links.proofs.Counts.{is_at, one_at, none_at, count_zero, node_there, absent, not_own}
use Rattle.hd_links.proofs.Sound.{are_linked}
use Rattle.hd_links.proofs.Joins.{stands_right, placed_right, join, AllPlaced, all_placed, pick, pick_zero, pick_some, count_join, first_join, last_join, last_none, last_some, last_one, one_counts, first_counts, IsOne, NotBelow, one_not_below, none_below, not_below_left}
use Rattle.hd_links.proofs.Touch.{all_three, not_second, not_third, Keeps, Touch, behind, before}
use Rattle.hd_links.proofs.Lift.{Spot, spot, at_most_once, changed_lies, changed_formed, changed_count}
use Rattle.hd_links.proofs.Places.{chain_one, one_there, FirstPlace, first_place, TwinPlace, twin_place, Place, formed_first, formed_behind}

module _ (types : List SegmentType) (O : Ordered types) (bound : ℕ) (m m2 : Links) (G : IsLinkGraph types bound m) (f : Forest Placed) (H : Holds types m f) (h y : ℕ) (p : Placed)
    (C : CanLink types m h y p) (small : p.address < bound) (A : Agree types (linked m h y p) m2) where
  L : AreLinked types m
  L = are_linked types O bound m G f H

  K : Forest Placed
  K = (spot types O bound m G f H h C.parent).0

  S : Spot types m h f K
  unfolding K
  S = (spot types O bound m G f H h C.parent).1

  g : Forest Placed → Forest Placed
  g = cond (y == 0) (put_first p) (put_behind y p)

  once_K : (a : ℕ) → count a K ≤ 1
  once_K a = (let i : count a K ≤ count a f = S.part a in let o : count a f ≤ 1 = at_most_once types m f H a in omega arith)

  -- ---- y and the twin behind it

  y_one : 0 < y → IsOne p.segment.code y K
  y_one some = (let c = C.twin some in chain_one types m p.segment.code y nowhere K S.stand c.0 (subst (λ x. IsTwinAfter m c.0 x y) (S.named.first p.segment.code C.typed) c.1))

  y_there : 0 < y → IsSegment m y × (m.code y ≡ p.segment.code)
  y_there some = one_there types m p.segment.code y nowhere K S.stand (y_one some)

  place : Place m h p.segment.code y p g K
  unfolding g
  place = elim (zero_or y) [
    | inl e ↦
        (let P : FirstPlace p.segment.code p K = first_place p K in
        let front : AllPlaced P.front = all_placed types m nowhere P.front P.rest (subst (NodesLie types m nowhere) P.is S.stand) in
        record {
          front = P.front;
          rest = P.rest;
          is = P.is;
          new = ap (λ (c : Forest Placed → Forest Placed). c K) (cond-true (y == 0) (put_first p) (put_behind y p) (eq-eqb y 0 e)) ∙ P.new;
          last = last_none nowhere P.front p.segment.code front P.none ∙ sym e;
          none = λ q. P.none;
          behind = sym (pick_zero (first_of P.front p.segment.code) (first_of P.rest p.segment.code) P.none) ∙ sym (first_join P.front P.rest p.segment.code front)
              ∙ ap (λ (x : Forest Placed). first_of x p.segment.code) (sym P.is) ∙ sym (S.named.first p.segment.code C.typed)
              ∙ sym (cond-true (y == 0) (m.first_child h p.segment.code) (m.forward y) (eq-eqb y 0 e));
        })
    | inr some ↦
        (let P : TwinPlace m p.segment.code y nowhere p K = twin_place types m p.segment.code y nowhere p K S.stand (y_there some).1 (y_one some) in
        let ne : y ≡ 0 → ⊥ = (λ (e : y ≡ 0). omega arith) in
        record {
          front = P.front;
          rest = P.rest;
          is = P.is;
          new = ap (λ (c : Forest Placed → Forest Placed). c K) (cond-false (y == 0) (put_first p) (put_behind y p) (ne_eqb y 0 ne)) ∙ P.new;
          last = P.last;
          none = λ q. absurd (ne q);
          behind = P.behind ∙ sym (cond-false (y == 0) (m.first_child h p.segment.code) (m.forward y) (ne_eqb y 0 ne));
        })
  ]

  stand_K : NodesLie types m nowhere (join place.front place.rest)
  stand_K = subst (NodesLie types m nowhere) place.is S.stand

  front_placed : AllPlaced place.front
  front_placed = all_placed types m nowhere place.front place.rest stand_K

  some_front : 0 < y → 0 < first_of place.front p.segment.code
  some_front some = elim (zero_or (first_of place.front p.segment.code)) [
    | inl z ↦ absurd (let e : with_nodes nowhere place.front p.segment.code ≡ 0 = last_none nowhere place.front p.segment.code front_placed z in
        let q : with_nodes nowhere place.front p.segment.code ≡ y = place.last in omega arith)
    | inr q ↦ q
  ]

  z : ℕ
  z = twin_behind m h p.segment.code y

  z_there : 0 < z → IsSegment m z × (m.code z ≡ p.segment.code)
  unfolding z
  z_there some = elim (zero_or y) [
    | inl e ↦
        (let is : twin_behind m h p.segment.code y ≡ m.first_child h p.segment.code = cond-true (y == 0) (m.first_child h p.segment.code) (m.forward y) (eq-eqb y 0 e) in
        let T = L.typed.first h p.segment.code C.parent C.typed (subst (λ x. 0 < x) is some) in
        (record { some = some; here = ap m.here is ∙ T.0 }, ap m.code is ∙ T.1))
    | inr q ↦
        (let is : twin_behind m h p.segment.code y ≡ m.forward y = cond-false (y == 0) (m.first_child h p.segment.code) (m.forward y) (ne_eqb y 0 (λ (e : y ≡ 0). omega arith)) in
        let Y = y_there q in
        let T = L.typed.forward y Y.0 (subst (λ x. 0 < x) is some) in
        (record { some = some; here = ap m.here is ∙ T.0 }, ap m.code is ∙ T.1 ∙ Y.1))
  ]

  z_rest : 0 < z → 0 < count z place.rest
  unfolding z
  z_rest some =
      subst (λ x. 0 < count x place.rest) place.behind (first_counts place.rest p.segment.code (subst (λ x. 0 < x) (sym place.behind) some))

  count_K : (a : ℕ) → count a K ≡ count a place.front + count a place.rest
  count_K a = ap (count a) place.is ∙ count_join a place.front place.rest

  y_front : 0 < y → 0 < count y place.front
  y_front some = subst (λ x. 0 < count x place.front) place.last
      (one_counts p.segment.code (with_nodes nowhere place.front p.segment.code) place.front (last_one nowhere place.front p.segment.code (some_front some) front_placed))

  -- ---- what the records say afterwards

  not_new : (a : ℕ) → m.here a ≡ true → a ≡ p.address → ⊥
  not_new a here e = false≢true (sym C.free ∙ ap m.here (sym e) ∙ here)

  new_some : 0 < p.address
  new_some = elim (zero_or p.address) [ inl e ↦ absurd (not_new 0 G.header (sym e)) | inr q ↦ q ]

  lhere : (a : ℕ) → (a ≡ p.address → ⊥) → (linked m h y p).here a ≡ m.here a
  lhere a ne = ap (λ c. c || m.here a) (ne_eqb a p.address ne)

  lcode : (a : ℕ) → (a ≡ p.address → ⊥) → (linked m h y p).code a ≡ m.code a
  lcode a ne = cond-false (a == p.address) p.segment.code (m.code a) (ne_eqb a p.address ne)

  ahere : (a : ℕ) → m.here a ≡ true → (linked m h y p).here a ≡ true
  ahere a here = lhere a (not_new a here) ∙ here

  seg : (a : ℕ) → IsSegment m a → IsSegment (linked m h y p) a
  seg a s = record { some = s.some; here = ahere a s.here }

  keeps : (a : ℕ) → IsSegment m a → Keeps m m2 a
  keeps a s =
      let ne = not_new a s.here in
      record {
        here = (A a).here ∙ lhere a ne;
        code = (A a).code (ahere a s.here) ∙ lcode a ne;
        bytes = (A a).bytes (seg a s) ∙ cond-false (a == p.address) p.segment.bytes (m.bytes a) (ne_eqb a p.address ne);
        delete_byte = (A a).delete_byte (seg a s) ∙ cond-false (a == p.address) 0 (m.delete_byte a) (ne_eqb a p.address ne);
      }

  kept_same : (a : ℕ) → (a ≡ p.address → ⊥) → is_backward_kept types (m.code a) ≡ true → is_backward_kept types ((linked m h y p).code a) ≡ true
  kept_same a ne q = ap (is_backward_kept types) (lcode a ne) ∙ q

  child_same : (a u : ℕ) → (a ≡ p.address → ⊥) → is_child_type types (m.code a) u ≡ true → is_child_type types ((linked m h y p).code a) u ≡ true
  child_same a u ne q = ap (λ x. is_child_type types x u) (lcode a ne) ∙ q

  ahead : (a : ℕ) → IsSegment m a → (a ≡ y → ⊥) → m2.forward a ≡ m.forward a
  ahead a s ny =
      let ne = not_new a s.here in
      (A a).forward (seg a s)
      ∙ cond-false (a == p.address) (twin_behind m h p.segment.code y) (cond (a == y) p.address (m.forward a)) (ne_eqb a p.address ne)
      ∙ cond-false (a == y) p.address (m.forward a) (ne_eqb a y ny)

  back : (a : ℕ) → IsSegment m a → (a ≡ z → ⊥) → is_backward_kept types (m.code a) ≡ true → m2.backward a ≡ m.backward a
  unfolding z
  back a s nz kept =
      let ne = not_new a s.here in
      (A a).backward (seg a s) (kept_same a ne kept)
      ∙ cond-false (a == p.address) y (cond (a == twin_behind m h p.segment.code y) p.address (m.backward a)) (ne_eqb a p.address ne)
      ∙ cond-false (a == twin_behind m h p.segment.code y) p.address (m.backward a) (ne_eqb a (twin_behind m h p.segment.code y) nz)

  first_same : (a u : ℕ) → m.here a ≡ true → (a ≡ h → ⊥) → is_child_type types (m.code a) u ≡ true → m2.first_child a u ≡ m.first_child a u
  first_same a u here nh q =
      let ne = not_new a here in
      (A a).first_child u (ahere a here) (child_same a u ne q)
      ∙ cond-false (a == p.address) 0 (cond (a == h && u == p.segment.code && y == 0) p.address (m.first_child a u)) (ne_eqb a p.address ne)
      ∙ cond-false (a == h && u == p.segment.code && y == 0) p.address (m.first_child a u) (ap (λ c. c && u == p.segment.code && y == 0) (ne_eqb a h nh))

  last_same_at : (a u : ℕ) → m.here a ≡ true → (a ≡ h → ⊥) → is_child_type types (m.code a) u ≡ true → is_last_kept types u ≡ true → m2.last_child a u ≡ m.last_child a u
  last_same_at a u here nh q kept =
      let ne = not_new a here in
      (A a).last_child u (ahere a here) (child_same a u ne q) kept
      ∙ cond-false (a == p.address) 0 (cond (a == h && u == p.segment.code && twin_behind m h p.segment.code y == 0) p.address (m.last_child a u)) (ne_eqb a p.address ne)
      ∙ cond-false (a == h && u == p.segment.code && twin_behind m h p.segment.code y == 0) p.address (m.last_child a u)
      (ap (λ c. c && u == p.segment.code && twin_behind m h p.segment.code y == 0) (ne_eqb a h nh))

  touch : Touch types m m2 (IsSegment m) h y z p.address p.address
  unfolding z
  touch = record {
    keeps = keeps;
    children = λ a s nh. record { first = λ u q. first_same a u s.here nh q; last = λ u q kept. last_same_at a u s.here nh q kept };
    forward = ahead;
    forward_y = λ some.
        (let s = (y_there some).0 in
        let ne = not_new y s.here in
        (A y).forward (seg y s)
        ∙ cond-false (y == p.address) (twin_behind m h p.segment.code y) (cond (y == y) p.address (m.forward y)) (ne_eqb y p.address ne)
        ∙ cond-true (y == y) p.address (m.forward y) (eq-eqb y y refl));
    backward = back;
    backward_z = λ some kept.
        (let s = (z_there some).0 in
        let ne = not_new (twin_behind m h p.segment.code y) s.here in
        (A (twin_behind m h p.segment.code y)).backward (seg (twin_behind m h p.segment.code y) s) (kept_same (twin_behind m h p.segment.code y) ne kept)
        ∙ cond-false (twin_behind m h p.segment.code y == p.address) y
        (cond (twin_behind m h p.segment.code y == twin_behind m h p.segment.code y) p.address (m.backward (twin_behind m h p.segment.code y))) (ne_eqb (twin_behind m h p.segment.code y) p.address ne)
        ∙ cond-true (twin_behind m h p.segment.code y == twin_behind m h p.segment.code y) p.address (m.backward (twin_behind m h p.segment.code y))
        (eq-eqb (twin_behind m h p.segment.code y) (twin_behind m h p.segment.code y) refl));
  }

  new_here : (linked m h y p).here p.address ≡ true
  new_here = ap (λ c. c || m.here p.address) (eq-eqb p.address p.address refl)

  own_eq : (p.address == p.address) ≡ true
  own_eq = eq-eqb p.address p.address refl

  new_seg : IsSegment (linked m h y p) p.address
  new_seg = record { some = new_some; here = new_here }

  new_code : (linked m h y p).code p.address ≡ p.segment.code
  new_code = cond-true (p.address == p.address) p.segment.code (m.code p.address) own_eq

  new_stands : NodeLies types m2 (with_nodes nowhere place.front) p empty place.rest
  new_stands = record {
    there = record { some = new_some; here = (A p.address).here ∙ new_here };
    code = (A p.address).code new_here ∙ new_code;
    bytes = (A p.address).bytes new_seg ∙ cond-true (p.address == p.address) p.segment.bytes (m.bytes p.address) own_eq;
    delete_byte = (A p.address).delete_byte new_seg ∙ cond-true (p.address == p.address) 0 (m.delete_byte p.address) own_eq;
    forward = (A p.address).forward new_seg
        ∙ cond-true (p.address == p.address) (twin_behind m h p.segment.code y) (cond (p.address == y) p.address (m.forward p.address)) own_eq
        ∙ sym place.behind;
    backward = λ q. (A p.address).backward new_seg (ap (is_backward_kept types) new_code ∙ q)
        ∙ cond-true (p.address == p.address) y (cond (p.address == twin_behind m h p.segment.code y) p.address (m.backward p.address)) own_eq
        ∙ sym place.last;
    children = record {
      first = λ u q. (A p.address).first_child u new_here (ap (λ x. is_child_type types x u) new_code ∙ q)
          ∙ cond-true (p.address == p.address) 0 (cond (p.address == h && u == p.segment.code && y == 0) p.address (m.first_child p.address u)) own_eq;
      last = λ u q kept. (A p.address).last_child u new_here (ap (λ x. is_child_type types x u) new_code ∙ q) kept
          ∙ cond-true (p.address == p.address) 0 (cond (p.address == h && u == p.segment.code && twin_behind m h p.segment.code y == 0) p.address (m.last_child p.address u)) own_eq;
    };
  }

  each : (a : ℕ) → 0 < count a K → IsSegment m a
  each a q = node_there types m a nowhere K S.stand q

  y_rest : count y place.rest ≡ 0
  y_rest = elim (zero_or y) [
    | inl e ↦
        (let k : count y K ≡ count 0 K = ap (λ x. count x K) e in
        let z0 : count 0 K ≡ 0 = count_zero types m nowhere K S.stand in
        let c : count y K ≡ count y place.front + count y place.rest = count_K y in omega arith)
    | inr q ↦
        (let c : count y K ≡ count y place.front + count y place.rest = count_K y in
        let o : count y K ≤ 1 = once_K y in
        let i : 0 < count y place.front = y_front q in omega arith)
  ]

  rest_stands : NodesLie types m2 (with_node (with_nodes nowhere place.front) p) place.rest
  unfolding z
  rest_stands =
      behind types m m2 (IsSegment m) h p.segment.code y (twin_behind m h p.segment.code y) p.address p.address touch
      (with_nodes nowhere place.front) (with_node (with_nodes nowhere place.front) p) place.rest (stands_right types m nowhere place.front place.rest stand_K)
      (λ a q. each a (let c : count a K ≡ count a place.front + count a place.rest = count_K a in omega arith))
      (λ a. (let c : count a K ≡ count a place.front + count a place.rest = count_K a in let o : count a K ≤ 1 = once_K a in omega arith))
      (let c : count h K ≡ count h place.front + count h place.rest = count_K h in let o : count h K ≡ 0 = S.own in omega arith)
      y_rest place.behind
      (cond-true (p.segment.code == p.segment.code) p.address (with_nodes nowhere place.front p.segment.code) (eq-eqb p.segment.code p.segment.code refl))
      (λ u ne. sym (cond-false (p.segment.code == u) p.address (with_nodes nowhere place.front u) (ne_eqb p.segment.code u ne)))

  y_not_below : NotBelow y place.front
  y_not_below = not_below_left y place.front place.rest (subst (NotBelow y) place.is (elim (zero_or y) [
    | inl e ↦ none_below y K (ap (λ x. count x K) e ∙ count_zero types m nowhere K S.stand)
    | inr q ↦ one_not_below p.segment.code y K (y_one q) (once_K y)
  ]))

  new_list : Forest Placed
  new_list = join place.front (node p empty place.rest)

  list_stands : NodesLie types m2 nowhere new_list
  unfolding z new_list
  list_stands =
      before types m m2 (IsSegment m) h p.segment.code y (twin_behind m h p.segment.code y) p.address p.address touch
      nowhere place.front place.rest (node p empty place.rest) stand_K
      (λ a q. each a (let c : count a K ≡ count a place.front + count a place.rest = count_K a in omega arith))
      (λ a. subst (λ (x : Forest Placed). count a x ≤ 1) place.is (once_K a))
      (subst (λ (x : Forest Placed). count h x ≡ 0) place.is S.own)
      z_rest y_not_below (λ q. sym place.last) (λ q. (y_there q).1)
      (cond-true (p.segment.code == p.segment.code) p.address (first_of place.rest p.segment.code) (eq-eqb p.segment.code p.segment.code refl))
      (λ u ne. sym (cond-false (p.segment.code == u) p.address (first_of place.rest u) (ne_eqb p.segment.code u ne)))
      (new_stands, tt, rest_stands)

  g_is : g K ≡ new_list
  unfolding new_list
  g_is = place.new

  -- ---- what the parent names

  h_old : h ≡ p.address → ⊥
  h_old e = not_new h C.parent e

  K_first : (u : ℕ) → first_of K u ≡ pick (first_of place.front u) (first_of place.rest u)
  K_first u = ap (λ (x : Forest Placed). first_of x u) place.is ∙ first_join place.front place.rest u front_placed

  K_last : (u : ℕ) → last_of K u ≡ with_nodes (with_nodes nowhere place.front) place.rest u
  K_last u = ap (λ (x : Forest Placed). last_of x u) place.is ∙ last_join nowhere place.front place.rest u

  list_first : (u : ℕ) → first_of new_list u ≡ pick (first_of place.front u) (first_of (node p empty place.rest) u)
  unfolding new_list
  list_first u = first_join place.front (node p empty place.rest) u front_placed

  list_last : (u : ℕ) → last_of new_list u ≡ with_nodes (with_node (with_nodes nowhere place.front) p) place.rest u
  unfolding new_list
  list_last u = last_join nowhere place.front (node p empty place.rest) u

  names_first : (u : ℕ) → is_child_type types (m.code h) u ≡ true → m2.first_child h u ≡ first_of new_list u
  names_first u q =
      (A h).first_child u (ahere h C.parent) (child_same h u h_old q)
      ∙ cond-false (h == p.address) 0 (cond (h == h && u == p.segment.code && y == 0) p.address (m.first_child h u)) (ne_eqb h p.address h_old)
      ∙ elim (cases_eq u p.segment.code) [
        | inl e ↦ elim (zero_or y) [
          | inl o ↦ cond-true (h == h && u == p.segment.code && y == 0) p.address (m.first_child h u)
              (all_three (h == h) (u == p.segment.code) (y == 0) (eq-eqb h h refl) (eq-eqb u p.segment.code e) (eq-eqb y 0 o))
              ∙ sym (cond-true (p.segment.code == u) p.address (first_of place.rest u) (eq-eqb p.segment.code u (sym e)))
              ∙ sym (pick_zero (first_of place.front u) (first_of (node p empty place.rest) u) (ap (first_of place.front) e ∙ place.none o))
              ∙ sym (list_first u)
          | inr some ↦
              (let fr : 0 < first_of place.front u = subst (λ x. 0 < first_of place.front x) (sym e) (some_front some) in
              cond-false (h == h && u == p.segment.code && y == 0) p.address (m.first_child h u)
              (not_third (h == h) (u == p.segment.code) (y == 0) (ne_eqb y 0 (λ (i : y ≡ 0). omega arith)))
              ∙ S.named.first u q ∙ K_first u ∙ pick_some (first_of place.front u) (first_of place.rest u) fr
              ∙ sym (pick_some (first_of place.front u) (first_of (node p empty place.rest) u) fr) ∙ sym (list_first u))
        ]
        | inr ne ↦ cond-false (h == h && u == p.segment.code && y == 0) p.address (m.first_child h u)
            (not_second (h == h) (u == p.segment.code) (y == 0) (ne_eqb u p.segment.code ne))
            ∙ S.named.first u q ∙ K_first u
            ∙ ap (pick (first_of place.front u)) (sym (cond-false (p.segment.code == u) p.address (first_of place.rest u) (ne_eqb p.segment.code u (λ i. ne (sym i)))))
            ∙ sym (list_first u)
      ]

  names_last : (u : ℕ) → is_child_type types (m.code h) u ≡ true → is_last_kept types u ≡ true → m2.last_child h u ≡ last_of new_list u
  names_last u q kept =
      (A h).last_child u (ahere h C.parent) (child_same h u h_old q) kept
      ∙ cond-false (h == p.address) 0 (cond (h == h && u == p.segment.code && twin_behind m h p.segment.code y == 0) p.address (m.last_child h u)) (ne_eqb h p.address h_old)
      ∙ elim (cases_eq u p.segment.code) [
        | inl e ↦
            (let own : with_node (with_nodes nowhere place.front) p u ≡ p.address
            = cond-true (p.segment.code == u) p.address (with_nodes nowhere place.front u) (eq-eqb p.segment.code u (sym e)) in
            let rest_is : first_of place.rest u ≡ twin_behind m h p.segment.code y = ap (first_of place.rest) e ∙ place.behind in
            elim (zero_or (twin_behind m h p.segment.code y)) [
              | inl o ↦ cond-true (h == h && u == p.segment.code && twin_behind m h p.segment.code y == 0) p.address (m.last_child h u)
                  (all_three (h == h) (u == p.segment.code) (twin_behind m h p.segment.code y == 0) (eq-eqb h h refl) (eq-eqb u p.segment.code e) (eq-eqb (twin_behind m h p.segment.code y) 0 o))
                  ∙ sym own ∙ sym (last_none (with_node (with_nodes nowhere place.front) p) place.rest u (placed_right types m (with_nodes nowhere place.front) place.rest (stands_right types m nowhere place.front place.rest stand_K)) (rest_is ∙ o)) ∙ sym (list_last u)
              | inr some ↦ cond-false (h == h && u == p.segment.code && twin_behind m h p.segment.code y == 0) p.address (m.last_child h u)
                  (not_third (h == h) (u == p.segment.code) (twin_behind m h p.segment.code y == 0)
                  (ne_eqb (twin_behind m h p.segment.code y) 0 (λ (i : twin_behind m h p.segment.code y ≡ 0). omega arith)))
                  ∙ S.named.last u q kept ∙ K_last u
                  ∙ last_some (with_nodes nowhere place.front) (with_node (with_nodes nowhere place.front) p) place.rest u (subst (λ x. 0 < x) (sym rest_is) some)
                  ∙ sym (list_last u)
            ])
        | inr ne ↦ cond-false (h == h && u == p.segment.code && twin_behind m h p.segment.code y == 0) p.address (m.last_child h u)
            (not_second (h == h) (u == p.segment.code) (twin_behind m h p.segment.code y == 0) (ne_eqb u p.segment.code ne))
            ∙ S.named.last u q kept ∙ K_last u
            ∙ last_same (with_nodes nowhere place.front) (with_node (with_nodes nowhere place.front) p) u place.rest
            (sym (cond-false (p.segment.code == u) p.address (with_nodes nowhere place.front u) (ne_eqb p.segment.code u (λ i. ne (sym i)))))
            ∙ sym (list_last u)
      ]

  good : Formed types (m.code h) (g K)
  unfolding g
  good = elim (zero_or y) [
    | inl e ↦
        (let is : twin_behind m h p.segment.code y ≡ first_of K p.segment.code
        = cond-true (y == 0) (m.first_child h p.segment.code) (m.forward y) (eq-eqb y 0 e) ∙ S.named.first p.segment.code C.typed in
        subst (λ (c : Forest Placed → Forest Placed). Formed types (m.code h) (c K)) (sym (cond-true (y == 0) (put_first p) (put_behind y p) (eq-eqb y 0 e)))
        (formed_first types m (m.code h) nowhere p K S.stand S.formed C.typed
        (subst (λ x. 0 < x → twins_in_order types p.segment (segment_at m x) ≡ true) is C.behind)))
    | inr some ↦
        (let ne : y ≡ 0 → ⊥ = (λ (e : y ≡ 0). omega arith) in
        let is : twin_behind m h p.segment.code y ≡ m.forward y = cond-false (y == 0) (m.first_child h p.segment.code) (m.forward y) (ne_eqb y 0 ne) in
        subst (λ (c : Forest Placed → Forest Placed). Formed types (m.code h) (c K)) (sym (cond-false (y == 0) (put_first p) (put_behind y p) (ne_eqb y 0 ne)))
        (formed_behind types m (m.code h) y nowhere p K S.stand S.formed C.typed (y_there some).1 (C.before some)
        (subst (λ x. 0 < x → twins_in_order types p.segment (segment_at m x) ≡ true) is C.behind)))
  ]

  -- ---- all other records

  y_in : 0 < y → 0 < count y K
  y_in some = one_counts p.segment.code y K (y_one some)

  z_in : 0 < z → 0 < count z K
  z_in some = (let c : count z K ≡ count z place.front + count z place.rest = count_K z in let i : 0 < count z place.rest = z_rest some in omega arith)

  others : (a : ℕ) → m.here a ≡ true → (a ≡ h → ⊥) → count a K ≡ 0 → AgreeAt types m m2 a
  others a here nh none =
      let ne = not_new a here in
      let ny : IsSegment m a → a ≡ y → ⊥ = (λ s e. (let q : 0 < count y K = y_in (subst (λ x. 0 < x) e s.some) in let i : count a K ≡ count y K = ap (λ x. count x K) e in omega arith)) in
      let nz : IsSegment m a → a ≡ z → ⊥ = (λ s e. (let q : 0 < count z K = z_in (subst (λ x. 0 < x) e s.some) in let i : count a K ≡ count z K = ap (λ x. count x K) e in omega arith)) in
      record {
        here = (A a).here ∙ lhere a ne;
        code = λ q. (A a).code (ahere a here) ∙ lcode a ne;
        bytes = λ s. (keeps a s).bytes;
        delete_byte = λ s. (keeps a s).delete_byte;
        forward = λ s. ahead a s (ny s);
        backward = λ s kept. back a s (nz s) kept;
        first_child = λ u q child. first_same a u here nh child;
        last_child = λ u q child kept. last_same_at a u here nh child kept;
      }

  parent_kept : 0 < h → Keeps m m2 h × (m2.forward h ≡ m.forward h) × (is_backward_kept types (m.code h) ≡ true → m2.backward h ≡ m.backward h)
  parent_kept some =
      let s : IsSegment m h = record { some = some; here = C.parent } in
      let apart : m.code h ≡ p.segment.code → ⊥ = (λ e. not_own types O (m.code h) p.segment.code C.typed (sym e)) in (
        keeps h s,
        ahead h s (λ e. apart (ap m.code e ∙ (y_there (subst (λ x. 0 < x) e some)).1)),
        λ kept. back h s (λ e. apart (ap m.code e ∙ (z_there (subst (λ x. 0 < x) e some)).1)) kept,
      )

  -- ---- all together

  leaf_is : with_leaf h y p f ≡ with_children h g f
  unfolding g
  leaf_is = refl

  graph : IsLinkGraph types bound m2
  graph = record {
    header = (A 0).here ∙ ahere 0 G.header;
    header_code = (A 0).code (ahere 0 G.header) ∙ lcode 0 (not_new 0 G.header) ∙ G.header_code;
    fits = λ a s. elim (cases_eq a p.address) [
      | inl e ↦ ap (row_fits types) (ap (segment_at m2) e ∙ segment_is types m2 (with_nodes nowhere place.front) p empty place.rest new_stands) ∙ C.fits
      | inr ne ↦ (let old : IsSegment m a = record { some = s.some; here = sym (lhere a ne) ∙ sym (A a).here ∙ s.here } in
          let k : Keeps m m2 a = keeps a old in
          let same : segment_at m2 a ≡ segment_at m a = (λ i. record { code = k.code i; bytes = k.bytes i }) in
          ap (row_fits types) same ∙ G.fits a old)
    ];
    below = λ a s. elim (cases_eq a p.address) [
      | inl e ↦ subst (λ x. x < bound) (sym e) small
      | inr ne ↦ G.below a (record { some = s.some; here = sym (lhere a ne) ∙ sym (A a).here ∙ s.here })
    ];
  }

  new_count : (a : ℕ) → count a (with_leaf h y p f) ≡ is_at p.address a + count a f
  new_count a =
      let c : count a (with_children h g f) + count a K ≡ count a f + count a (g K)
      = changed_count types O bound m G f H h g K S a in
      let i : count a (g K) ≡ count a place.front + count a (node p empty place.rest) = ap (count a) place.new ∙ count_join a place.front (node p empty place.rest) in
      let j : count a K ≡ count a place.front + count a place.rest = count_K a in
      ap (count a) leaf_is ∙ omega arith

  pub leaf_held : IsLinkGraph types bound m2 × Holds types m2 (with_leaf h y p f)
  leaf_held =
      let stands_K : NodesLie types m2 nowhere (g K) = subst (NodesLie types m2 nowhere) (sym g_is) list_stands in
      let named_K : NamesChildren types m2 (m.code h) h (g K) = subst (NamesChildren types m2 (m.code h) h) (sym g_is) (record { first = names_first; last = names_last }) in
      let lies : Lies types m2 (with_leaf h y p f) = subst (Lies types m2) (sym leaf_is) (changed_lies types O bound m G f H m2 h g K S others parent_kept stands_K named_K good) in
      let form : Formed types 0 (with_leaf h y p f) = subst (Formed types 0) (sym leaf_is) (changed_formed types O bound m G f H m2 h g K S others parent_kept stands_K named_K good) in (
        graph,
        record {
          lies = lies;
          fits = fits types O bound m2 graph 0 nowhere None (with_leaf h y p f) lies.nodes form (first_behind_none types (with_leaf h y p f));
          once = λ a s. elim (cases_eq a p.address) [
            | inl e ↦
                (let n : count a (with_leaf h y p f) ≡ is_at p.address a + count a f = new_count a in
                let o : is_at p.address a ≡ 1 = one_at p.address a (sym e) in
                let q : count a f ≡ 0 = absent types m a nowhere f H.lies.nodes (ap m.here e ∙ C.free) in omega arith)
            | inr ne ↦
                (let n : count a (with_leaf h y p f) ≡ is_at p.address a + count a f = new_count a in
                let o : is_at p.address a ≡ 0 = none_at p.address a (λ i. ne (sym i)) in
                let q : count a f ≡ 1 = H.once a (record { some = s.some; here = sym (lhere a ne) ∙ sym (A a).here ∙ s.here }) in omega arith)
          ];
        },
      )
