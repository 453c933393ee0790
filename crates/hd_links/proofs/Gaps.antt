-- What a node leaves among the nodes of one parent.
use Rattle.std.proofs.Common.{◌≡◌, ℕ, ◌<◌, ◌≤◌, List, true, arith, ap, sym, ◌∙◌, refl, subst, Some, inl, inr}
use Rattle.std.specs.Prelude.{◌==◌}
use Rattle.std.proofs.lemmas.Bool.{cases_eq, eq-eqb, ne_eqb, cond-true, cond-false}
use Rattle.hd_dbd.specs.Types.{SegmentType}
use Rattle.hd_dbd.specs.Rows.{siblings_in_order}
use Rattle.hd_dbd.specs.Forest.{Forest, empty, node}
use Rattle.hd_dbd.proofs.Twins.{siblings_trans}
use Rattle.hd_links.specs.Links.{Links}
use Rattle.hd_links.specs.Placed.{Placed, count, first_of, with_node, with_nodes, NodesLie}
use Rattle.hd_links.specs.Changes.{take_out}
use Rattle.hd_links.proofs.Forms.{Formed, is_behind}
use Rattle.hd_links.proofs.Build.{zero_or}
use Rattle.hd_links.proofs.Counts.{is_at, one_at}
use Rattle.hd_links.proofs.Joins.{join, AllPlaced, all_placed, pick_zero, first_join, last_none, one_counts, first_one, IsOne}

-- the twin behind one of the nodes is one of them
pub next_one : (types : List SegmentType) (m : Links) (t y : ℕ) (b : ℕ → ℕ) (K : Forest Placed) → NodesLie types m b K → IsOne t y K → 0 < m.forward y → IsOne t (m.forward y) K
next_one types m t y b empty s o some = absurd o
next_one types m t y b (node r k n) s (inl e) some =
    let is : m.forward y ≡ first_of n t = ap m.forward (sym e.0) ∙ s.0.forward ∙ ap (first_of n) e.1 in
    inr (subst (λ x. IsOne t x n) (sym is) (first_one n t (subst (λ x. 0 < x) is some)))
next_one types m t y b (node r k n) s (inr o) some = inr (next_one types m t y (with_node b r) n s.2 o some)

-- the last of the front names the first behind
pub last_forward : (types : List SegmentType) (m : Links) (t : ℕ) (b : ℕ → ℕ) (front rest : Forest Placed) → NodesLie types m b (join front rest) → 0 < first_of front t
    → m.forward (with_nodes b front t) ≡ first_of rest t
last_forward types m t b empty rest s some = absurd (omega arith)
last_forward types m t b (node r k n) rest s some = elim (zero_or (first_of n t)) [
  | inr q ↦ last_forward types m t (with_node b r) n rest s.2 q
  | inl z ↦
      (let placed : AllPlaced n = all_placed types m (with_node b r) n rest s.2 in
      elim (cases_eq r.segment.code t) [
        | inl e ↦ ap m.forward (last_none (with_node b r) n t placed z ∙ cond-true _ _ _ (eq-eqb r.segment.code t e))
            ∙ s.0.forward ∙ ap (first_of (join n rest)) e ∙ first_join n rest t placed ∙ pick_zero (first_of n t) (first_of rest t) z
        | inr ne ↦ absurd (let q : first_of (node r k n) t ≡ first_of n t = cond-false _ _ _ (ne_eqb r.segment.code t ne) in omega arith)
      ])
]

-- where the node stands that is taken out
pub record OutPlace (t a : ℕ) (K : Forest Placed) : Type 0 where
  pub front : Forest Placed
  pub row : Placed
  pub gone : Forest Placed
  pub rest : Forest Placed
  pub is : K ≡ join front (node row gone rest)
  pub out : take_out a K ≡ join front rest
  pub address : row.address ≡ a
  pub code : row.segment.code ≡ t

-- behind another node
out_on : (t a : ℕ) (r : Placed) (k n : Forest Placed) → (r.address ≡ a → ⊥) → OutPlace t a n → OutPlace t a (node r k n)
out_on t a r k n ne P = record {
  front = node r k P.front;
  row = P.row;
  gone = P.gone;
  rest = P.rest;
  is = ap (λ (x : Forest Placed). node r k x) P.is;
  out = cond-false (r.address == a) n (node r k (take_out a n)) (ne_eqb r.address a ne) ∙ ap (λ (x : Forest Placed). node r k x) P.out;
  address = P.address;
  code = P.code;
}

pub out_place : (t a : ℕ) (K : Forest Placed) → IsOne t a K → count a K ≤ 1 → OutPlace t a K
out_place t a empty o once = absurd o
out_place t a (node r k n) o once = elim (cases_eq r.address a) [
  | inl e ↦ record {
    front = empty;
    row = r;
    gone = k;
    rest = n;
    is = refl;
    out = cond-true (r.address == a) n (node r k (take_out a n)) (eq-eqb r.address a e);
    address = e;
    code = elim o [
      | inl q ↦ q.1
      | inr q ↦ absurd (let i : 0 < count a n = one_counts t a n q in let j : is_at r.address a ≡ 1 = one_at r.address a e in omega arith)
    ];
  }
  | inr ne ↦
      out_on t a r k n ne (out_place t a n (elim o [ inl q ↦ absurd (ne q.0) | inr q ↦ q ]) (omega arith))
]

-- the nodes that are left are in order
pub formed_out : (types : List SegmentType) (c a : ℕ) (K : Forest Placed) → Formed types c K → Formed types c (take_out a K)
formed_out types c a empty F = tt
formed_out types c a (node r k n) F = elim (cases_eq r.address a) [
  | inl e ↦ subst (Formed types c) (sym (cond-true (r.address == a) n (node r k (take_out a n)) (eq-eqb r.address a e))) F.3
  | inr ne ↦ subst (Formed types c) (sym (cond-false (r.address == a) n (node r k (take_out a n)) (ne_eqb r.address a ne)))
      (F.0, head n F.1 F.3, F.2, formed_out types c a n F.3)
]
  where
    second : (s : Placed) (n : Forest Placed) → siblings_in_order types r.segment s.segment ≡ true → is_behind types (Some s.segment) n ≡ true → is_behind types (Some r.segment) n ≡ true
    second s empty e f = refl
    second s (node u k2 n2) e f = siblings_trans types r.segment s.segment u.segment e f

    head : (n : Forest Placed) → is_behind types (Some r.segment) n ≡ true → Formed types c n → is_behind types (Some r.segment) (take_out a n) ≡ true
    head empty e G = refl
    head (node s k2 n2) e G = elim (cases_eq s.address a) [
      | inl q ↦ ap (is_behind types (Some r.segment)) (cond-true (s.address == a) n2 (node s k2 (take_out a n2)) (eq-eqb s.address a q)) ∙ second s n2 e G.1
      | inr q ↦ ap (is_behind types (Some r.segment)) (cond-false (s.address == a) n2 (node s k2 (take_out a n2)) (ne_eqb s.address a q)) ∙ e
    ]
