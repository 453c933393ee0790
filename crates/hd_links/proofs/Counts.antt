-- Counting nodes: each place of an address is named by just one pointer.
use Rattle.std.proofs.Common.{◌≡◌, ℕ, zero, suc, ◌+◌, ◌<◌, ◌≤◌, List, true, false, arith, ap, sym, ◌∙◌, refl, subst, cond, inl, inr}
use Rattle.std.specs.Prelude.{◌==◌}
use Rattle.std.proofs.lemmas.Bool.{cases_eq, cases_Bool, eq-eqb, ne_eqb, cond-true, cond-false, false≢true}
use Rattle.hd_dbd.specs.Types.{SegmentType}
use Rattle.hd_dbd.specs.Forest.{Forest, empty, node}
use Rattle.hd_links.specs.Links.{Links, IsSegment, IsLinkGraph, segment_at, is_child_type}
use Rattle.hd_links.specs.Placed.{Placed, count, first_of, nowhere, with_node, NodesLie, NamesChildren, Lies}
use Rattle.hd_links.specs.Pointers.{IsParentOfFirst, Precedes, IsReached, PointersAreTyped, PredecessorsAreOne}
use Rattle.hd_links.proofs.Types.{Ordered, code_some}
use Rattle.hd_links.proofs.Forms.{Formed, none_of}
use Rattle.hd_links.proofs.Build.{zero_or}

-- 1 where the two are one address
abbrev pub is_at : ℕ → ℕ → ℕ
is_at x a = cond (x == a) 1 0

pub one_at : (x a : ℕ) → x ≡ a → is_at x a ≡ 1
one_at x a e = cond-true _ _ _ (eq-eqb x a e)

pub none_at : (x a : ℕ) → (x ≡ a → ⊥) → is_at x a ≡ 0
none_at x a e = cond-false _ _ _ (ne_eqb x a e)

-- the pointer of h that may name a
abbrev pub slot : List SegmentType → Links → ℕ → ℕ → ℕ
slot types m h a = cond (m.code a == m.code h) (m.forward h) (cond (is_child_type types (m.code h) (m.code a)) (m.first_child h (m.code a)) 0)

-- a function of the address, added up over the nodes
abbrev pub total : (ℕ → ℕ) → Forest Placed → ℕ
total e empty = 0
total e (node r k n) = e r.address + (total e k + total e n)

-- no type is its own child type
pub not_own : (types : List SegmentType) → Ordered types → (c t : ℕ) → is_child_type types c t ≡ true → t ≡ c → ⊥
not_own types O c t h e = (let l : c < t = O.later c t h in omega arith)

-- ---- pointers and predecessors

slot_next : (types : List SegmentType) (m : Links) (h a : ℕ) → m.code a ≡ m.code h → slot types m h a ≡ m.forward h
slot_next types m h a e = cond-true (m.code a == m.code h) (m.forward h) (cond (is_child_type types (m.code h) (m.code a)) (m.first_child h (m.code a)) 0) (eq-eqb _ _ e)

slot_first : (types : List SegmentType) (m : Links) (h a : ℕ) → (m.code a ≡ m.code h → ⊥) → is_child_type types (m.code h) (m.code a) ≡ true → slot types m h a ≡ m.first_child h (m.code a)
slot_first types m h a ne q =
    cond-false (m.code a == m.code h) (m.forward h) (cond (is_child_type types (m.code h) (m.code a)) (m.first_child h (m.code a)) 0) (ne_eqb _ _ ne)
    ∙ cond-true (is_child_type types (m.code h) (m.code a)) (m.first_child h (m.code a)) 0 q

slot_none : (types : List SegmentType) (m : Links) (h a : ℕ) → (m.code a ≡ m.code h → ⊥) → is_child_type types (m.code h) (m.code a) ≡ false → slot types m h a ≡ 0
slot_none types m h a ne q =
    cond-false (m.code a == m.code h) (m.forward h) (cond (is_child_type types (m.code h) (m.code a)) (m.first_child h (m.code a)) 0) (ne_eqb _ _ ne)
    ∙ cond-false (is_child_type types (m.code h) (m.code a)) (m.first_child h (m.code a)) 0 q

module _ (types : List SegmentType) (O : Ordered types) (bound : ℕ) (m : Links) (G : IsLinkGraph types bound m) where
  -- a segment has another code than the header
  pub segment_code : (a : ℕ) → IsSegment m a → 0 < m.code a
  segment_code a s = code_some types (segment_at m a) (G.fits a s)

  -- a predecessor names what it precedes
  pub names : (typed : PointersAreTyped types m) (h a : ℕ) → IsSegment m a → Precedes types m h a → slot types m h a ≡ a
  names typed h a s (inl T) =
      let some : 0 < m.forward h = subst (λ x. 0 < x) (sym T.names) s.some in
      slot_next types m h a (ap m.code (sym T.names) ∙ (typed.forward h T.holder some).1) ∙ T.names
  names typed h a s (inr P) =
      let F : IsParentOfFirst types m h P.0 a = P.1 in
      let some : 0 < m.first_child h P.0 = subst (λ x. 0 < x) (sym F.names) s.some in
      let c : m.code a ≡ P.0 = ap m.code (sym F.names) ∙ (typed.first h P.0 F.holder F.typed some).1 in
      slot_first types m h a (λ e. not_own types O (m.code h) P.0 F.typed (sym c ∙ e)) (subst (λ x. is_child_type types (m.code h) x ≡ true) (sym c) F.typed)
      ∙ ap (m.first_child h) c ∙ F.names

  -- and what names a segment precedes it
  pub precedes : (h a : ℕ) → IsSegment m a → m.here h ≡ true → slot types m h a ≡ a → Precedes types m h a
  precedes h a s here e = elim (cases_eq (m.code a) (m.code h)) [
    | inl q ↦ elim (zero_or h) [
      | inl z ↦ absurd (let l : 0 < m.code a = segment_code a s in let c : m.code h ≡ 0 = ap m.code z ∙ G.header_code in omega arith)
      | inr p ↦ inl (record { holder = record { some = p; here = here }; names = sym (slot_next types m h a q) ∙ e })
    ]
    | inr ne ↦ elim (cases_Bool (is_child_type types (m.code h) (m.code a))) [
      | inl q ↦ inr (m.code a, record { holder = here; typed = q; names = sym (slot_first types m h a ne q) ∙ e })
      | inr q ↦ absurd (let z : a ≡ 0 = sym e ∙ slot_none types m h a ne q in let p : 0 < a = s.some in omega arith)
    ]
  ]

  -- the header names the first root of a's type
  roots_slot : (f : Forest Placed) → NamesChildren types m 0 0 f → Formed types 0 f → (a : ℕ) → IsSegment m a → first_of f (m.code a) ≡ slot types m 0 a
  roots_slot f N h a s =
      let l : 0 < m.code a = segment_code a s in
      let ne : m.code a ≡ m.code 0 → ⊥ = (λ e. (let z : m.code a ≡ 0 = e ∙ G.header_code in omega arith)) in
      elim (cases_Bool (is_child_type types 0 (m.code a))) [
        | inl q ↦ sym (N.first (m.code a) q) ∙ sym (slot_first types m 0 a ne (ap (λ x. is_child_type types x (m.code a)) G.header_code ∙ q))
        | inr q ↦ none_of types 0 (m.code a) f h (λ w. false≢true (sym q ∙ w))
            ∙ sym (slot_none types m 0 a ne (ap (λ x. is_child_type types x (m.code a)) G.header_code ∙ q))
      ]

  -- each place of an address is the head of a chain, or a pointer of some node names it
  pub count_eq : (a : ℕ) → IsSegment m a → (c : ℕ) (b : ℕ → ℕ) (f : Forest Placed) → NodesLie types m b f → Formed types c f
      → count a f ≡ is_at (first_of f (m.code a)) a + total (λ x. is_at (slot types m x a) a) f
  count_eq a s c b empty l h = (let p : 0 < a = s.some in let e : is_at 0 a ≡ 0 = none_at 0 a (λ (e : 0 ≡ a). omega arith) in omega arith)
  count_eq a s c b (node r k n) l h =
      let p : 0 < a = s.some in
      let ik : count a k ≡ is_at (first_of k (m.code a)) a + total (λ x. is_at (slot types m x a) a) k
      = count_eq a s r.segment.code nowhere k l.1 h.2 in
      let in2 : count a n ≡ is_at (first_of n (m.code a)) a + total (λ x. is_at (slot types m x a) a) n
      = count_eq a s c (with_node b r) n l.2 h.3 in
      elim (cases_eq r.segment.code (m.code a)) [
        | inl e ↦
            (let hd : is_at (first_of (node r k n) (m.code a)) a ≡ is_at r.address a
            = ap (λ x. is_at x a) (cond-true _ _ _ (eq-eqb r.segment.code (m.code a) e)) in
            let sl : is_at (slot types m r.address a) a ≡ is_at (first_of n (m.code a)) a
            = ap (λ x. is_at x a) (slot_next types m r.address a (sym e ∙ sym l.0.code) ∙ l.0.forward ∙ ap (first_of n) e) in
            let kz : is_at (first_of k (m.code a)) a ≡ 0
            = ap (λ x. is_at x a) (none_of types r.segment.code (m.code a) k h.2 (λ q. not_own types O r.segment.code (m.code a) q (sym e))) ∙ none_at 0 a (λ (z : 0 ≡ a). omega arith) in
            omega arith)
        | inr ne ↦
            (let hd : is_at (first_of (node r k n) (m.code a)) a ≡ is_at (first_of n (m.code a)) a
            = ap (λ x. is_at x a) (cond-false _ _ _ (ne_eqb r.segment.code (m.code a) ne)) in
            let apart : m.code a ≡ m.code r.address → ⊥ = (λ z. ne (sym l.0.code ∙ sym z)) in
            let sl : is_at (slot types m r.address a) a ≡ is_at (first_of k (m.code a)) a
            = ap (λ x. is_at x a) (elim (cases_Bool (is_child_type types r.segment.code (m.code a))) [
              | inl q ↦ slot_first types m r.address a apart (ap (λ x. is_child_type types x (m.code a)) l.0.code ∙ q) ∙ l.0.children.first (m.code a) q
              | inr q ↦ slot_none types m r.address a apart (ap (λ x. is_child_type types x (m.code a)) l.0.code ∙ q)
                  ∙ sym (none_of types r.segment.code (m.code a) k h.2 (λ w. false≢true (sym q ∙ w)))
            ]) in
            let rz : is_at r.address a ≡ 0 = none_at r.address a (λ z. ne (sym l.0.code ∙ ap m.code z)) in
            omega arith)
      ]

  -- the same with the header
  pub count_all : (f : Forest Placed) → Lies types m f → Formed types 0 f → (a : ℕ) → IsSegment m a
      → count a f ≡ is_at (slot types m 0 a) a + total (λ x. is_at (slot types m x a) a) f
  count_all f l h a s =
      (let c : count a f ≡ is_at (first_of f (m.code a)) a + total (λ x. is_at (slot types m x a) a) f = count_eq a s 0 nowhere f l.nodes h in
      let e : is_at (first_of f (m.code a)) a ≡ is_at (slot types m 0 a) a = ap (λ x. is_at x a) (roots_slot f l.roots h a s) in omega arith)

pub total_same : (types : List SegmentType) (m : Links) (e e2 : ℕ → ℕ) (b : ℕ → ℕ) (f : Forest Placed) → NodesLie types m b f → ((x : ℕ) → IsSegment m x → e x ≡ e2 x) → total e f ≡ total e2 f
total_same types m e e2 b empty l h = refl
total_same types m e e2 b (node r k n) l h =
    (let x : e r.address ≡ e2 r.address = h r.address l.0.there in
    let y : total e k ≡ total e2 k = total_same types m e e2 nowhere k l.1 h in
    let z : total e n ≡ total e2 n = total_same types m e e2 (with_node b r) n l.2 h in omega arith)

pub total_least : (types : List SegmentType) (m : Links) (e e2 : ℕ → ℕ) (b : ℕ → ℕ) (f : Forest Placed) → NodesLie types m b f → ((x : ℕ) → IsSegment m x → e x ≤ e2 x) → total e f ≤ total e2 f
total_least types m e e2 b empty l h = omega arith
total_least types m e e2 b (node r k n) l h =
    (let x : e r.address ≤ e2 r.address = h r.address l.0.there in
    let y : total e k ≤ total e2 k = total_least types m e e2 nowhere k l.1 h in
    let z : total e n ≤ total e2 n = total_least types m e e2 (with_node b r) n l.2 h in omega arith)

pub total_zero : (f : Forest Placed) → total (λ x. 0) f ≡ 0
total_zero empty = refl
total_zero (node r k n) = (let x : total (λ x. 0) k ≡ 0 = total_zero k in let y : total (λ x. 0) n ≡ 0 = total_zero n in omega arith)

pub total_two : (g h : ℕ) (f : Forest Placed) → total (λ x. is_at x g + is_at x h) f ≡ count g f + count h f
total_two g h empty = refl
total_two g h (node r k n) =
    (let x : total (λ x. is_at x g + is_at x h) k ≡ count g k + count h k = total_two g h k in
    let y : total (λ x. is_at x g + is_at x h) n ≡ count g n + count h n = total_two g h n in omega arith)

pub count_total : (a : ℕ) (f : Forest Placed) → count a f ≡ total (λ x. is_at x a) f
count_total a empty = refl
count_total a (node r k n) = (let x : count a k ≡ total (λ x. is_at x a) k = count_total a k in let y : count a n ≡ total (λ x. is_at x a) n = count_total a n in omega arith)

-- the header is no node
pub count_zero : (types : List SegmentType) (m : Links) (b : ℕ → ℕ) (f : Forest Placed) → NodesLie types m b f → count 0 f ≡ 0
count_zero types m b empty l = refl
count_zero types m b (node r k n) l =
    (let p : 0 < r.address = l.0.there.some in
    let z : is_at r.address 0 ≡ 0 = none_at r.address 0 (λ (e : r.address ≡ 0). omega arith) in
    let x : count 0 k ≡ 0 = count_zero types m nowhere k l.1 in
    let y : count 0 n ≡ 0 = count_zero types m (with_node b r) n l.2 in omega arith)

-- where no record is, no node is
pub absent : (types : List SegmentType) (m : Links) (a : ℕ) (b : ℕ → ℕ) (f : Forest Placed) → NodesLie types m b f → m.here a ≡ false → count a f ≡ 0
absent types m a b empty l h = refl
absent types m a b (node r k n) l h =
    (let w : is_at r.address a ≡ 0 = none_at r.address a (λ z. false≢true (sym h ∙ sym (ap m.here z) ∙ l.0.there.here)) in
    let x : count a k ≡ 0 = absent types m a nowhere k l.1 h in
    let y : count a n ≡ 0 = absent types m a (with_node b r) n l.2 h in omega arith)

-- a node is a segment
pub node_there : (types : List SegmentType) (m : Links) (a : ℕ) (b : ℕ → ℕ) (f : Forest Placed) → NodesLie types m b f → 0 < count a f → IsSegment m a
node_there types m a b f l p = record {
  some = elim (zero_or a) [
    | inl e ↦ absurd (let z : count 0 f ≡ 0 = count_zero types m b f l in let q : count a f ≡ count 0 f = ap (λ x. count x f) e in omega arith)
    | inr q ↦ q
  ];
  here = elim (cases_Bool (m.here a)) [
    | inl q ↦ q
    | inr q ↦ absurd (let z : count a f ≡ 0 = absent types m a b f l q in omega arith)
  ];
}

-- what is reached stands once
pub once : (types : List SegmentType) (O : Ordered types) (bound : ℕ) (m : Links) (G : IsLinkGraph types bound m) (typed : PointersAreTyped types m) (single : PredecessorsAreOne types m)
    (f : Forest Placed) → Lies types m f → Formed types 0 f → (n a : ℕ) → IsSegment m a → IsReached types m n a → count a f ≡ 1
once types O bound m G typed single f l h zero a s w = absurd (let p : 0 < a = s.some in omega arith)
once types O bound m G typed single f l h (suc zero) a s w =
    let c : count a f ≡ is_at (slot types m 0 a) a + total (λ x. is_at (slot types m x a) a) f = count_all types O bound m G f l h a s in
    let P : Precedes types m 0 a = subst (λ x. Precedes types m x a) w.1.1 w.1.2 in
    let hd : is_at (slot types m 0 a) a ≡ 1 = one_at _ _ (names types O bound m G typed 0 a s P) in
    let tl : total (λ x. is_at (slot types m x a) a) f ≡ 0
    = total_same types m (λ x. is_at (slot types m x a) a) (λ x. 0) nowhere f l.nodes
    (λ x sx. none_at _ _ (λ z. (let e : x ≡ 0 = single.one a x 0 s (precedes types O bound m G x a s sx.here z) P in let p : 0 < x = sx.some in omega arith))) ∙ total_zero f in
    omega arith
once types O bound m G typed single f l h (suc (suc n)) a s w =
    let g : ℕ = w.1.0 in
    let sg : IsSegment m g = w.1.1.0 in
    let c : count a f ≡ is_at (slot types m 0 a) a + total (λ x. is_at (slot types m x a) a) f = count_all types O bound m G f l h a s in
    let hd : is_at (slot types m 0 a) a ≡ 0
    = none_at _ _ (λ z. (let e : 0 ≡ g = single.one a 0 g s (precedes types O bound m G 0 a s G.header z) w.1.2 in let p : 0 < g = sg.some in omega arith)) in
    let tl : total (λ x. is_at (slot types m x a) a) f ≡ count g f
    = total_same types m (λ x. is_at (slot types m x a) a) (λ x. is_at x g) nowhere f l.nodes
    (λ x sx. elim (cases_eq x g) [
      | inl q ↦ one_at _ _ (ap (λ y. slot types m y a) q ∙ names types O bound m G typed g a s w.1.2) ∙ sym (one_at _ _ q)
      | inr q ↦ none_at _ _ (λ z. q (single.one a x g s (precedes types O bound m G x a s sx.here z) w.1.2)) ∙ sym (none_at _ _ q)
    ])
    ∙ sym (count_total g f) in
    let i : count g f ≡ 1 = once types O bound m G typed single f l h (suc n) g sg w.1.1 in
    omega arith
