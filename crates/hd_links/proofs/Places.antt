-- Where a leaf goes among the nodes of one parent.
use Rattle.std.proofs.Common.{◌≡◌, ℕ, zero, suc, ◌<◌, ◌≤◌, List, true, arith, ap, sym, ◌∙◌, refl, subst, Some, inl, inr}
use Rattle.std.specs.Prelude.{◌==◌, nat_lt}
use Rattle.std.proofs.lemmas.Bool.{cases_eq, cases_order, cases_Bool, eq-eqb, ne_eqb, cond-true, cond-false, ltb-true, ltb-false}
use Rattle.hd_dbd.specs.Types.{SegmentType}
use Rattle.hd_dbd.specs.Rows.{twins_in_order}
use Rattle.hd_dbd.specs.Forest.{Forest, empty, node}
use Rattle.hd_links.specs.Links.{Links, IsSegment, segment_at, is_child_type}
use Rattle.hd_links.specs.Placed.{Placed, first_of, nowhere, with_node, with_nodes, NodesLie}
use Rattle.hd_links.specs.Pointers.{IsTwinAfter}
use Rattle.hd_links.specs.Changes.{twin_behind, put_first, put_behind, CanUnlink}
use Rattle.hd_links.proofs.Forms.{Formed, is_behind, follows_code, code_follows, key_follows, segment_is}
use Rattle.hd_links.proofs.Joins.{join, IsOne}

-- ---- chains are twins among the nodes

pub chain_one : (types : List SegmentType) (m : Links) (t y : ℕ) (b : ℕ → ℕ) (K : Forest Placed) → NodesLie types m b K → (n : ℕ) → IsTwinAfter m n (first_of K t) y → IsOne t y K
chain_one types m t y b empty s zero w = absurd (let p : 0 < 0 = w.0 in omega arith)
chain_one types m t y b empty s (suc i) w = absurd (let p : 0 < 0 = w.0 in omega arith)
chain_one types m t y b (node r k n) s zero w = elim (cases_eq r.segment.code t) [
  | inl e ↦ inl (sym (cond-true _ _ _ (eq-eqb r.segment.code t e)) ∙ w.1, e)
  | inr ne ↦ (let z : first_of (node r k n) t ≡ first_of n t = cond-false _ _ _ (ne_eqb r.segment.code t ne) in
      inr (chain_one types m t y (with_node b r) n s.2 zero (subst (λ x. IsTwinAfter m 0 x y) z w)))
]
chain_one types m t y b (node r k n) s (suc i) w = elim (cases_eq r.segment.code t) [
  | inl e ↦ (let z : m.forward (first_of (node r k n) t) ≡ first_of n t = ap m.forward (cond-true _ _ _ (eq-eqb r.segment.code t e)) ∙ s.0.forward ∙ ap (first_of n) e in
      inr (chain_one types m t y (with_node b r) n s.2 i (subst (λ x. IsTwinAfter m i x y) z w.1)))
  | inr ne ↦ (let z : first_of (node r k n) t ≡ first_of n t = cond-false _ _ _ (ne_eqb r.segment.code t ne) in
      inr (chain_one types m t y (with_node b r) n s.2 (suc i) (subst (λ x. IsTwinAfter m (suc i) x y) z w)))
]

pub one_there : (types : List SegmentType) (m : Links) (t y : ℕ) (b : ℕ → ℕ) (K : Forest Placed) → NodesLie types m b K → IsOne t y K → IsSegment m y × (m.code y ≡ t)
one_there types m t y b empty s o = absurd o
one_there types m t y b (node r k n) s (inl e) = (subst (IsSegment m) e.0 s.0.there, ap m.code (sym e.0) ∙ s.0.code ∙ e.1)
one_there types m t y b (node r k n) s (inr o) = one_there types m t y (with_node b r) n s.2 o

-- the parent, or the twin before, names the segment whose span may be unlinked
pub first_named : (types : List SegmentType) (m : Links) (h y a : ℕ) → CanUnlink types m h y a → y ≡ 0 → m.first_child h (m.code a) ≡ a
first_named types m h y a C e = sym (cond-true (y == 0) (m.first_child h (m.code a)) (m.forward y) (eq-eqb y 0 e)) ∙ C.here

pub twin_named : (types : List SegmentType) (m : Links) (h y a : ℕ) → CanUnlink types m h y a → 0 < y → m.forward y ≡ a
twin_named types m h y a C some = sym (cond-false (y == 0) (m.first_child h (m.code a)) (m.forward y) (ne_eqb y 0 (λ (e : y ≡ 0). omega arith))) ∙ C.here

-- ---- the place of a new first one

pub record FirstPlace (t : ℕ) (p : Placed) (K : Forest Placed) : Type 0 where
  pub front : Forest Placed
  pub rest : Forest Placed
  pub is : K ≡ join front rest
  pub new : put_first p K ≡ join front (node p empty rest)
  pub none : first_of front t ≡ 0

pub first_place : (p : Placed) (K : Forest Placed) → FirstPlace p.segment.code p K
first_place p empty = record { front = empty; rest = empty; is = refl; new = refl; none = refl }
first_place p (node r k n) = elim (cases_Bool (nat_lt r.segment.code p.segment.code)) [
  | inl q ↦
      (let P : FirstPlace p.segment.code p n = first_place p n in
      let l : r.segment.code < p.segment.code = ltb-true _ _ q in
      record {
        front = node r k P.front;
        rest = P.rest;
        is = ap (λ (x : Forest Placed). node r k x) P.is;
        new = cond-true (nat_lt r.segment.code p.segment.code) (node r k (put_first p n)) (node p empty (node r k n)) q ∙ ap (λ (x : Forest Placed). node r k x) P.new;
        none = cond-false _ _ _ (ne_eqb r.segment.code p.segment.code (λ (e : r.segment.code ≡ p.segment.code). omega arith)) ∙ P.none;
      })
  | inr q ↦ record {
    front = empty;
    rest = node r k n;
    is = refl;
    new = cond-false (nat_lt r.segment.code p.segment.code) (node r k (put_first p n)) (node p empty (node r k n)) q;
    none = refl;
  }
]

-- the place behind a twin
pub record TwinPlace (m : Links) (t y : ℕ) (b : ℕ → ℕ) (p : Placed) (K : Forest Placed) : Type 0 where
  pub front : Forest Placed
  pub rest : Forest Placed
  pub is : K ≡ join front rest
  pub new : put_behind y p K ≡ join front (node p empty rest)
  pub last : with_nodes b front t ≡ y
  pub some : 0 < first_of front t
  pub behind : first_of rest t ≡ m.forward y

pub twin_place : (types : List SegmentType) (m : Links) (t y : ℕ) (b : ℕ → ℕ) (p : Placed) (K : Forest Placed) → NodesLie types m b K → m.code y ≡ t → IsOne t y K → TwinPlace m t y b p K
twin_place types m t y b p empty s c o = absurd o
twin_place types m t y b p (node r k n) s c o = elim (cases_eq r.address y) [
  | inl e ↦
      (let code : r.segment.code ≡ t = sym s.0.code ∙ ap m.code e ∙ c in
      record {
        front = node r k empty;
        rest = n;
        is = refl;
        new = cond-true (r.address == y) (node r k (node p empty n)) (node r k (put_behind y p n)) (eq-eqb r.address y e);
        last = cond-true _ _ _ (eq-eqb r.segment.code t code) ∙ e;
        some = subst (λ x. 0 < x) (sym (cond-true _ _ _ (eq-eqb r.segment.code t code))) s.0.there.some;
        behind = ap (first_of n) (sym code) ∙ sym s.0.forward ∙ ap m.forward e;
      })
  | inr ne ↦
      (let P : TwinPlace m t y (with_node b r) p n = twin_place types m t y (with_node b r) p n s.2 c (elim o [ inl e ↦ absurd (ne e.0) | inr q ↦ q ]) in
      record {
        front = node r k P.front;
        rest = P.rest;
        is = ap (λ (x : Forest Placed). node r k x) P.is;
        new = cond-false (r.address == y) (node r k (node p empty n)) (node r k (put_behind y p n)) (ne_eqb r.address y ne) ∙ ap (λ (x : Forest Placed). node r k x) P.new;
        last = P.last;
        some = elim (cases_eq r.segment.code t) [
          | inl e ↦ subst (λ x. 0 < x) (sym (cond-true _ _ _ (eq-eqb r.segment.code t e))) s.0.there.some
          | inr q ↦ subst (λ x. 0 < x) (sym (cond-false _ _ _ (ne_eqb r.segment.code t q))) P.some
        ];
        behind = P.behind;
      })
]

-- the place of the leaf, either way
pub record Place (m : Links) (h t y : ℕ) (p : Placed) (g : Forest Placed → Forest Placed) (K : Forest Placed) : Type 0 where
  pub front : Forest Placed
  pub rest : Forest Placed
  pub is : K ≡ join front rest
  pub new : g K ≡ join front (node p empty rest)
  pub last : with_nodes nowhere front t ≡ y
  pub none : y ≡ 0 → first_of front t ≡ 0
  pub behind : first_of rest t ≡ twin_behind m h t y

-- ---- it is in order there

pub formed_first : (types : List SegmentType) (m : Links) (c : ℕ) (b : ℕ → ℕ) (p : Placed) (K : Forest Placed) → NodesLie types m b K → Formed types c K → is_child_type types c p.segment.code ≡ true
    → (0 < first_of K p.segment.code → twins_in_order types p.segment (segment_at m (first_of K p.segment.code)) ≡ true) → Formed types c (put_first p K)
formed_first types m c b p empty s F q T = (q, refl, tt, tt)
formed_first types m c b p (node r k n) s F q T = elim (cases_Bool (nat_lt r.segment.code p.segment.code)) [
  | inl w ↦
      (let l : r.segment.code < p.segment.code = ltb-true _ _ w in
      let z : first_of (node r k n) p.segment.code ≡ first_of n p.segment.code
      = cond-false _ _ _ (ne_eqb r.segment.code p.segment.code (λ (e : r.segment.code ≡ p.segment.code). omega arith)) in
      subst (Formed types c) (sym (cond-true (nat_lt r.segment.code p.segment.code) (node r k (put_first p n)) (node p empty (node r k n)) w)) (
        F.0,
        head n F.1 l,
        F.2,
        formed_first types m c (with_node b r) p n s.2 F.3 q (subst (λ x. 0 < x → twins_in_order types p.segment (segment_at m x) ≡ true) z T),
      ))
  | inr w ↦ subst (Formed types c) (sym (cond-false (nat_lt r.segment.code p.segment.code) (node r k (put_first p n)) (node p empty (node r k n)) w)) (
    q,
    elim (cases_eq p.segment.code r.segment.code) [
      | inl e ↦
          (let own : first_of (node r k n) p.segment.code ≡ r.address = cond-true _ _ _ (eq-eqb r.segment.code p.segment.code (sym e)) in
          key_follows types p.segment r.segment
          (ap (twins_in_order types p.segment) (sym (ap (segment_at m) own ∙ segment_is types m b r k n s.0)) ∙ T (subst (λ x. 0 < x) (sym own) s.0.there.some)) e)
      | inr ne ↦ (let ge : p.segment.code ≤ r.segment.code = ltb-false _ _ w in
          code_follows types p.segment r.segment (elim (cases_order p.segment.code r.segment.code) [ inl e ↦ absurd (ne e) | inr v ↦ elim v [ inl u ↦ u | inr u ↦ absurd (omega arith) ] ]))
    ],
    tt,
    F,
  )
]
  where
    head : (n : Forest Placed) → is_behind types (Some r.segment) n ≡ true → r.segment.code < p.segment.code → is_behind types (Some r.segment) (put_first p n) ≡ true
    head empty e l = code_follows types r.segment p.segment l
    head (node s2 k2 n2) e l = elim (cases_Bool (nat_lt s2.segment.code p.segment.code)) [
      | inl w ↦ ap (is_behind types (Some r.segment)) (cond-true (nat_lt s2.segment.code p.segment.code) (node s2 k2 (put_first p n2)) (node p empty (node s2 k2 n2)) w) ∙ e
      | inr w ↦ ap (is_behind types (Some r.segment)) (cond-false (nat_lt s2.segment.code p.segment.code) (node s2 k2 (put_first p n2)) (node p empty (node s2 k2 n2)) w)
          ∙ code_follows types r.segment p.segment l
    ]

pub formed_behind : (types : List SegmentType) (m : Links) (c y : ℕ) (b : ℕ → ℕ) (p : Placed) (K : Forest Placed) → NodesLie types m b K → Formed types c K → is_child_type types c p.segment.code ≡ true
    → m.code y ≡ p.segment.code → twins_in_order types (segment_at m y) p.segment ≡ true
    → (0 < m.forward y → twins_in_order types p.segment (segment_at m (m.forward y)) ≡ true) → Formed types c (put_behind y p K)
formed_behind types m c y b p empty s F q cy earlier later = tt
formed_behind types m c y b p (node r k n) s F q cy earlier later = elim (cases_eq r.address y) [
  | inl e ↦
      (let code : r.segment.code ≡ p.segment.code = sym s.0.code ∙ ap m.code e ∙ cy in
      let own : segment_at m y ≡ r.segment = ap (segment_at m) (sym e) ∙ segment_is types m b r k n s.0 in
      let fw : m.forward y ≡ first_of n p.segment.code = ap m.forward (sym e) ∙ s.0.forward ∙ ap (first_of n) code in
      subst (Formed types c) (sym (cond-true (r.address == y) (node r k (node p empty n)) (node r k (put_behind y p n)) (eq-eqb r.address y e))) (
        F.0,
        key_follows types r.segment p.segment (ap (λ x. twins_in_order types x p.segment) (sym own) ∙ earlier) code,
        F.2,
        (q, head n s.2 F.1 code (subst (λ x. 0 < x → twins_in_order types p.segment (segment_at m x) ≡ true) fw later), tt, F.3),
      ))
  | inr ne ↦ subst (Formed types c) (sym (cond-false (r.address == y) (node r k (node p empty n)) (node r k (put_behind y p n)) (ne_eqb r.address y ne)))
      (F.0, same n ∙ F.1, F.2, formed_behind types m c y (with_node b r) p n s.2 F.3 q cy earlier later)
]
  where
    head : (n : Forest Placed) → NodesLie types m (with_node b r) n → is_behind types (Some r.segment) n ≡ true → r.segment.code ≡ p.segment.code
        → (0 < first_of n p.segment.code → twins_in_order types p.segment (segment_at m (first_of n p.segment.code)) ≡ true) → is_behind types (Some p.segment) n ≡ true
    head empty s2 e code T = refl
    head (node u k2 n2) s2 e code T =
        let le : r.segment.code ≤ u.segment.code = follows_code types r u k2 n2 e in
        elim (cases_eq p.segment.code u.segment.code) [
          | inl w ↦
              (let own : first_of (node u k2 n2) p.segment.code ≡ u.address = cond-true _ _ _ (eq-eqb u.segment.code p.segment.code (sym w)) in
              key_follows types p.segment u.segment
              (ap (twins_in_order types p.segment) (sym (ap (segment_at m) own ∙ segment_is types m (with_node b r) u k2 n2 s2.0)) ∙ T (subst (λ x. 0 < x) (sym own) s2.0.there.some)) w)
          | inr w ↦ code_follows types p.segment u.segment
              (elim (cases_order p.segment.code u.segment.code) [ inl v ↦ absurd (w v) | inr v ↦ elim v [ inl z ↦ z | inr z ↦ absurd (omega arith) ] ])
        ]

    same : (n : Forest Placed) → is_behind types (Some r.segment) (put_behind y p n) ≡ is_behind types (Some r.segment) n
    same empty = refl
    same (node u k2 n2) = elim (cases_eq u.address y) [
      | inl e ↦ ap (is_behind types (Some r.segment)) (cond-true (u.address == y) (node u k2 (node p empty n2)) (node u k2 (put_behind y p n2)) (eq-eqb u.address y e))
      | inr e ↦ ap (is_behind types (Some r.segment)) (cond-false (u.address == y) (node u k2 (node p empty n2)) (node u k2 (put_behind y p n2)) (ne_eqb u.address y e))
    ]
