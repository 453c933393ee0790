-- The nodes below one record are changed, and nothing else is.
use Rattle.std.proofs.Common.{◌≡◌, ℕ, ◌+◌, ◌<◌, ◌≤◌, List, true, arith, ap, ap₂, sym, ◌∙◌, refl, subst, cond, Option, Some, None, inl, inr}
use Rattle.std.specs.Prelude.{◌==◌, ◌⊎◌}
use Rattle.std.proofs.lemmas.Bool.{cases_eq, eq-eqb, ne_eqb, cond-true, cond-false}
use Rattle.hd_dbd.specs.Types.{SegmentType}
use Rattle.hd_dbd.specs.Segment.{Segment}
use Rattle.hd_dbd.specs.Forest.{Forest, empty, node}
use Rattle.hd_links.specs.Links.{Links, IsLinkGraph, is_child_type}
use Rattle.hd_dbd.specs.Prefixes.{is_backward_kept}
use Rattle.hd_links.specs.Placed.{Placed, count, first_of, nowhere, with_node, with_nodes, NodesLie, NamesChildren, Lies, Holds}
use Rattle.hd_links.specs.Changes.{AgreeAt, change_below, with_children}
use Rattle.hd_links.proofs.Types.{Ordered}
use Rattle.hd_links.proofs.Forms.{Formed, is_behind, formed}
use Rattle.hd_links.proofs.Build.{zero_or}
use Rattle.hd_links.proofs.Counts.{is_at, one_at, none_at, count_zero, node_there}
use Rattle.hd_links.proofs.Touch.{Keeps, move, frame}

-- these stand below h
abbrev pub ChildrenOf : ℕ → Forest Placed → Forest Placed → Type 0
ChildrenOf h empty K = ⊥
ChildrenOf h (node r k n) K = ((r.address ≡ h) × (k ≡ K)) ⊎ (ChildrenOf h k K ⊎ ChildrenOf h n K)

pub children_count : (h : ℕ) (f K : Forest Placed) → ChildrenOf h f K → 0 < count h f
children_count h empty K c = absurd c
children_count h (node r k n) K (inl e) = (let o : is_at r.address h ≡ 1 = one_at r.address h e.0 in omega arith)
children_count h (node r k n) K (inr (inl e)) = (let i : 0 < count h k = children_count h k K e in omega arith)
children_count h (node r k n) K (inr (inr e)) = (let i : 0 < count h n = children_count h n K e in omega arith)

-- they are nodes of the forest, and h is none of them
pub children_least : (h : ℕ) (f K : Forest Placed) → ChildrenOf h f K → (a : ℕ) → count a K + is_at h a ≤ count a f
children_least h empty K c a = absurd c
children_least h (node r k n) K (inl e) a =
    (let z : count a k ≡ count a K = ap (count a) e.1 in let o : is_at r.address a ≡ is_at h a = ap (λ x. is_at x a) e.0 in omega arith)
children_least h (node r k n) K (inr (inl e)) a = (let i : count a K + is_at h a ≤ count a k = children_least h k K e a in omega arith)
children_least h (node r k n) K (inr (inr e)) a = (let i : count a K + is_at h a ≤ count a n = children_least h n K e a in omega arith)

-- what is known of them
pub record Found (types : List SegmentType) (m : Links) (h : ℕ) (f : Forest Placed) : Type 0 where
  pub below : Forest Placed
  pub is : ChildrenOf h f below
  pub stand : NodesLie types m nowhere below
  pub formed : Formed types (m.code h) below
  pub named : NamesChildren types m (m.code h) h below

pub find_children : (types : List SegmentType) (m : Links) (h c : ℕ) (b : ℕ → ℕ) (f : Forest Placed) → NodesLie types m b f → Formed types c f → 0 < count h f → Found types m h f
find_children types m h c b empty l F p = absurd (omega arith)
find_children types m h c b (node r k n) l F p = elim (cases_eq r.address h) [
  | inl e ↦
      (let code : r.segment.code ≡ m.code h = sym l.0.code ∙ ap m.code e in
      record {
        below = k;
        is = inl (e, refl);
        stand = l.1;
        formed = subst (λ x. Formed types x k) code F.2;
        named = subst (λ x. NamesChildren types m x h k) code (subst (λ x. NamesChildren types m r.segment.code x k) e l.0.children);
      })
  | inr ne ↦ (let z : is_at r.address h ≡ 0 = none_at r.address h ne in
      elim (zero_or (count h k)) [
        | inr q ↦ (let D : Found types m h k = find_children types m h r.segment.code nowhere k l.1 F.2 q in
            record { below = D.below; is = inr (inl D.is); stand = D.stand; formed = D.formed; named = D.named })
        | inl q ↦ (let D : Found types m h n = find_children types m h c (with_node b r) n l.2 F.3 (omega arith) in
            record { below = D.below; is = inr (inr D.is); stand = D.stand; formed = D.formed; named = D.named })
      ])
]

module _ (h : ℕ) (g : Forest Placed → Forest Placed) where
  pub opened : (r : Placed) (k n : Forest Placed) → (r.address ≡ h → ⊥) → change_below h g (node r k n) ≡ node r (change_below h g k) (change_below h g n)
  opened r k n ne = cond-false (r.address == h) (node r (g k) n) (node r (change_below h g k) (change_below h g n)) (ne_eqb r.address h ne)

  pub at_own : (r : Placed) (k n : Forest Placed) → r.address ≡ h → change_below h g (node r k n) ≡ node r (g k) n
  at_own r k n e = cond-true (r.address == h) (node r (g k) n) (node r (change_below h g k) (change_below h g n)) (eq-eqb r.address h e)

  pub below_none : (f : Forest Placed) → count h f ≡ 0 → change_below h g f ≡ f
  below_none empty e = refl
  below_none (node r k n) e =
      opened r k n (λ q. (let o : is_at r.address h ≡ 1 = one_at r.address h q in omega arith))
      ∙ ap₂ (λ (x y : Forest Placed). node r x y) (below_none k (omega arith)) (below_none n (omega arith))

  pub below_first : (f : Forest Placed) (t : ℕ) → first_of (change_below h g f) t ≡ first_of f t
  below_first empty t = refl
  below_first (node r k n) t = elim (cases_eq r.address h) [
    | inl e ↦ ap (λ (x : Forest Placed). first_of x t) (at_own r k n e)
    | inr ne ↦ ap (λ (x : Forest Placed). first_of x t) (opened r k n ne) ∙ ap (cond (r.segment.code == t) r.address) (below_first n t)
  ]

  pub below_last : (b : ℕ → ℕ) (f : Forest Placed) (t : ℕ) → with_nodes b (change_below h g f) t ≡ with_nodes b f t
  below_last b empty t = refl
  below_last b (node r k n) t = elim (cases_eq r.address h) [
    | inl e ↦ ap (λ (x : Forest Placed). with_nodes b x t) (at_own r k n e)
    | inr ne ↦ ap (λ (x : Forest Placed). with_nodes b x t) (opened r k n ne) ∙ below_last (with_node b r) n t
  ]

  below_behind : (types : List SegmentType) (before : Option Segment) (f : Forest Placed) → is_behind types before (change_below h g f) ≡ is_behind types before f
  below_behind types before empty = refl
  below_behind types before (node r k n) = elim (cases_eq r.address h) [
    | inl e ↦ ap (is_behind types before) (at_own r k n e)
    | inr ne ↦ ap (is_behind types before) (opened r k n ne)
  ]

  pub below_formed : (types : List SegmentType) (m : Links) (K : Forest Placed) (c : ℕ) (b : ℕ → ℕ) (f : Forest Placed) → NodesLie types m b f → Formed types c f → count h f ≤ 1
      → (0 < count h f → ChildrenOf h f K) → Formed types (m.code h) (g K) → Formed types c (change_below h g f)
  below_formed types m K c b empty l F o C G = tt
  below_formed types m K c b (node r k n) l F o C G = elim (cases_eq r.address h) [
    | inl e ↦
        (let i : is_at r.address h ≡ 1 = one_at r.address h e in
        let is_k : k ≡ K = elim (C (omega arith)) [
          | inl w ↦ w.1
          | inr w ↦ elim w [
            | inl v ↦ absurd (let j : 0 < count h k = children_count h k K v in omega arith)
            | inr v ↦ absurd (let j : 0 < count h n = children_count h n K v in omega arith)
          ]
        ] in
        let code : m.code h ≡ r.segment.code = ap m.code (sym e) ∙ l.0.code in
        subst (Formed types c) (sym (at_own r k n e)) (
          F.0,
          F.1,
          subst (λ (x : Forest Placed). Formed types r.segment.code (g x)) (sym is_k) (subst (λ x. Formed types x (g K)) code G),
          F.3,
        ))
    | inr ne ↦
        (let z : is_at r.address h ≡ 0 = none_at r.address h ne in
        subst (Formed types c) (sym (opened r k n ne)) (
          F.0,
          below_behind types (Some r.segment) n ∙ F.1,
          below_formed types m K r.segment.code nowhere k l.1 F.2 (omega arith) (λ p. elim (C (omega arith)) [
            | inl w ↦ absurd (ne w.0)
            | inr w ↦ elim w [ inl v ↦ v | inr v ↦ absurd (let j : 0 < count h n = children_count h n K v in omega arith) ]
          ]) G,
          below_formed types m K c (with_node b r) n l.2 F.3 (omega arith) (λ p. elim (C (omega arith)) [
            | inl w ↦ absurd (ne w.0)
            | inr w ↦ elim w [ inl v ↦ absurd (let j : 0 < count h k = children_count h k K v in omega arith) | inr v ↦ v ]
          ]) G,
        ))
  ]

  pub below_count : (K : Forest Placed) (f : Forest Placed) → count h f ≤ 1 → ChildrenOf h f K → (a : ℕ) → count a (change_below h g f) + count a K ≡ count a f + count a (g K)
  below_count K empty o C a = absurd C
  below_count K (node r k n) o C a = elim (cases_eq r.address h) [
    | inl e ↦
        (let i : is_at r.address h ≡ 1 = one_at r.address h e in
        let is_k : k ≡ K = elim C [
          | inl w ↦ w.1
          | inr w ↦ elim w [
            | inl v ↦ absurd (let j : 0 < count h k = children_count h k K v in omega arith)
            | inr v ↦ absurd (let j : 0 < count h n = children_count h n K v in omega arith)
          ]
        ] in
        let x : count a (change_below h g (node r k n)) ≡ is_at r.address a + (count a (g k) + count a n) = ap (count a) (at_own r k n e) in
        let y : count a k ≡ count a K = ap (count a) is_k in
        let z : count a (g k) ≡ count a (g K) = ap (λ (x : Forest Placed). count a (g x)) is_k in
        omega arith)
    | inr ne ↦
        (let z : is_at r.address h ≡ 0 = none_at r.address h ne in
        let x : count a (change_below h g (node r k n)) ≡ is_at r.address a + (count a (change_below h g k) + count a (change_below h g n)) = ap (count a) (opened r k n ne) in
        elim C [
          | inl w ↦ absurd (ne w.0)
          | inr w ↦ elim w [
            | inl v ↦ (let j : 0 < count h k = children_count h k K v in
                let i : count a (change_below h g k) + count a K ≡ count a k + count a (g K) = below_count K k (omega arith) v a in
                let s : count a (change_below h g n) ≡ count a n = ap (count a) (below_none n (omega arith)) in omega arith)
            | inr v ↦ (let j : 0 < count h n = children_count h n K v in
                let i : count a (change_below h g n) + count a K ≡ count a n + count a (g K) = below_count K n (omega arith) v a in
                let s : count a (change_below h g k) ≡ count a k = ap (count a) (below_none k (omega arith)) in omega arith)
          ]
        ])
  ]

  module _ (types : List SegmentType) (m m2 : Links) (K : Forest Placed) (own : Keeps m m2 h) (own_forward : m2.forward h ≡ m.forward h)
      (own_backward : is_backward_kept types (m.code h) ≡ true → m2.backward h ≡ m.backward h)
      (stand : NodesLie types m2 nowhere (g K)) (names : NamesChildren types m2 (m.code h) h (g K)) where
    pub below_stand : (b : ℕ → ℕ) (f : Forest Placed) → NodesLie types m b f → ((a : ℕ) → count a f ≤ 1) → (0 < count h f → ChildrenOf h f K)
        → ((a : ℕ) → 0 < count a f → (a ≡ h → ⊥) → (0 < count h f → count a K ≡ 0) → AgreeAt types m m2 a)
        → NodesLie types m2 b (change_below h g f)
    below_stand b empty l once C same = tt
    below_stand b (node r k n) l once C same =
        let oh : count h (node r k n) ≤ 1 = once h in
        elim (cases_eq r.address h) [
          | inl e ↦
              (let i : is_at r.address h ≡ 1 = one_at r.address h e in
              let is_k : k ≡ K = elim (C (omega arith)) [
                | inl w ↦ w.1
                | inr w ↦ elim w [
                  | inl v ↦ absurd (let j : 0 < count h k = children_count h k K v in omega arith)
                  | inr v ↦ absurd (let j : 0 < count h n = children_count h n K v in omega arith)
                ]
              ] in
              let code : m.code h ≡ r.segment.code = ap m.code (sym e) ∙ l.0.code in
              subst (NodesLie types m2 b) (sym (at_own r k n e)) (
                move types m m2 b b r k (g k) n n l.0 (subst (Keeps m m2) (sym e) own)
                    (subst (λ (x : Forest Placed). NamesChildren types m2 r.segment.code r.address (g x)) (sym is_k)
                    (subst (λ x. NamesChildren types m2 r.segment.code x (g K)) (sym e) (subst (λ x. NamesChildren types m2 x h (g K)) code names)))
                    (ap m2.forward e ∙ own_forward ∙ ap m.forward (sym e) ∙ l.0.forward)
                    (λ q. ap m2.backward e ∙ own_backward (ap (λ x. is_backward_kept types x) code ∙ q) ∙ ap m.backward (sym e) ∙ l.0.backward q),
                subst (λ (x : Forest Placed). NodesLie types m2 nowhere (g x)) (sym is_k) stand,
                frame types m m2 (with_node b r) n l.2
                    (λ a p. same a (omega arith)
                    (λ w. (let z : count a n ≡ count h n = ap (λ x. count x n) w in omega arith))
                    (λ w. (let z : count a k ≡ count a K = ap (count a) is_k in let oa : count a (node r k n) ≤ 1 = once a in omega arith))),
              ))
          | inr ne ↦
              (let o : is_at r.address h ≡ 0 = none_at r.address h ne in
              let self : is_at r.address r.address ≡ 1 = one_at r.address r.address refl in
              let or : count r.address (node r k n) ≤ 1 = once r.address in
              let A : AgreeAt types m m2 r.address = same r.address (omega arith) ne
              (λ w. elim (C w) [
                | inl v ↦ absurd (ne v.0)
                | inr v ↦ elim v [
                  | inl u ↦ (let i : count r.address K + is_at h r.address ≤ count r.address k = children_least h k K u r.address in omega arith)
                  | inr u ↦ (let i : count r.address K + is_at h r.address ≤ count r.address n = children_least h n K u r.address in omega arith)
                ]
              ]) in
              let here : m.here r.address ≡ true = l.0.there.here in
              subst (NodesLie types m2 b) (sym (opened r k n ne)) (
                move types m m2 b b r k (change_below h g k) n (change_below h g n) l.0
                    (record { here = A.here; code = A.code here; bytes = A.bytes l.0.there; delete_byte = A.delete_byte l.0.there })
                    (record {
                      first = λ t q. A.first_child t here (ap (λ x. is_child_type types x t) l.0.code ∙ q) ∙ l.0.children.first t q ∙ sym (below_first k t);
                      last = λ t q kept. A.last_child t here (ap (λ x. is_child_type types x t) l.0.code ∙ q) kept ∙ l.0.children.last t q kept ∙ sym (below_last nowhere k t);
                    })
                    (A.forward l.0.there ∙ l.0.forward ∙ sym (below_first n r.segment.code))
                    (λ q. A.backward l.0.there (ap (λ x. is_backward_kept types x) l.0.code ∙ q) ∙ l.0.backward q),
                below_stand nowhere k l.1 (λ a. (let oa : count a (node r k n) ≤ 1 = once a in omega arith))
                    (λ p. elim (C (omega arith)) [
                      | inl w ↦ absurd (ne w.0)
                      | inr w ↦ elim w [ inl v ↦ v | inr v ↦ absurd (let j : 0 < count h n = children_count h n K v in omega arith) ]
                    ])
                    (λ a p nh w. same a (omega arith) nh
                    (λ c. elim (C c) [
                      | inl v ↦ absurd (ne v.0)
                      | inr v ↦ elim v [
                        | inl u ↦ w (children_count h k K u)
                        | inr u ↦ (let i : count a K + is_at h a ≤ count a n = children_least h n K u a in let oa : count a (node r k n) ≤ 1 = once a in omega arith)
                      ]
                    ])),
                below_stand (with_node b r) n l.2 (λ a. (let oa : count a (node r k n) ≤ 1 = once a in omega arith))
                    (λ p. elim (C (omega arith)) [
                      | inl w ↦ absurd (ne w.0)
                      | inr w ↦ elim w [ inl v ↦ absurd (let j : 0 < count h k = children_count h k K v in omega arith) | inr v ↦ v ]
                    ])
                    (λ a p nh w. same a (omega arith) nh
                    (λ c. elim (C c) [
                      | inl v ↦ absurd (ne v.0)
                      | inr v ↦ elim v [
                        | inl u ↦ (let i : count a K + is_at h a ≤ count a k = children_least h k K u a in let oa : count a (node r k n) ≤ 1 = once a in omega arith)
                        | inr u ↦ w (children_count h n K u)
                      ]
                    ])),
              ))
        ]

-- no address stands twice
pub at_most_once : (types : List SegmentType) (m : Links) (f : Forest Placed) → Holds types m f → (a : ℕ) → count a f ≤ 1
at_most_once types m f H a = elim (zero_or (count a f)) [
  | inl z ↦ omega arith
  | inr p ↦ (let e : count a f ≡ 1 = H.once a (node_there types m a nowhere f H.lies.nodes p) in omega arith)
]

-- the nodes below a record, the header or a segment
pub record Spot (types : List SegmentType) (m : Links) (h : ℕ) (f K : Forest Placed) : Type 0 where
  pub is : ((h ≡ 0) × (f ≡ K)) ⊎ ((0 < h) × ChildrenOf h f K)
  pub stand : NodesLie types m nowhere K
  pub formed : Formed types (m.code h) K
  pub named : NamesChildren types m (m.code h) h K
  pub part : (a : ℕ) → count a K ≤ count a f
  pub own : count h K ≡ 0

module _ (types : List SegmentType) (O : Ordered types) (bound : ℕ) (m : Links) (G : IsLinkGraph types bound m) (f : Forest Placed) (H : Holds types m f) where
  whole_formed : Formed types 0 f
  whole_formed = formed types O 0 None f H.fits

  pub spot : (h : ℕ) → m.here h ≡ true → (K : Forest Placed) × Spot types m h f K
  spot h here = elim (zero_or h) [
    | inl z ↦ (
      f,
      record {
        is = inl (z, refl);
        stand = H.lies.nodes;
        formed = subst (λ x. Formed types x f) (sym (ap m.code z ∙ G.header_code)) whole_formed;
        named = subst (λ x. NamesChildren types m (m.code x) x f) (sym z) (subst (λ x. NamesChildren types m x 0 f) (sym G.header_code) H.lies.roots);
        part = λ a. omega arith;
        own = ap (λ x. count x f) z ∙ count_zero types m nowhere f H.lies.nodes;
      },
    )
    | inr p ↦
        (let D : Found types m h f = find_children types m h 0 nowhere f H.lies.nodes whole_formed (let e : count h f ≡ 1 = H.once h (record { some = p; here = here }) in omega arith) in (
          D.below,
          record {
            is = inr (p, D.is);
            stand = D.stand;
            formed = D.formed;
            named = D.named;
            part = λ a. (let i : count a D.below + is_at h a ≤ count a f = children_least h f D.below D.is a in omega arith);
            own = (let i : count h D.below + is_at h h ≤ count h f = children_least h f D.below D.is h in
                let o : is_at h h ≡ 1 = one_at h h refl in
                let u : count h f ≤ 1 = at_most_once types m f H h in omega arith);
          },
        ))
  ]

  pub changed_count : (h : ℕ) (g : Forest Placed → Forest Placed) (K : Forest Placed) → Spot types m h f K → (a : ℕ) → count a (with_children h g f) + count a K ≡ count a f + count a (g K)
  changed_count h g K S a = elim S.is [
    | inl e ↦
        (let x : count a (with_children h g f) ≡ count a (g K) = ap (count a) (cond-true (h == 0) (g f) (change_below h g f) (eq-eqb h 0 e.0) ∙ ap g e.1) in
        let y : count a f ≡ count a K = ap (count a) e.1 in omega arith)
    | inr e ↦ ap (λ (x : Forest Placed). count a x + count a K)
        (cond-false (h == 0) (g f) (change_below h g f) (ne_eqb h 0 (λ (q : h ≡ 0). (let p : 0 < h = e.0 in omega arith))))
        ∙ below_count h g K f (at_most_once types m f H h) e.1 a
  ]

  module _ (m2 : Links) (h : ℕ) (g : Forest Placed → Forest Placed) (K : Forest Placed) (S : Spot types m h f K)
      (same : (a : ℕ) → m.here a ≡ true → (a ≡ h → ⊥) → count a K ≡ 0 → AgreeAt types m m2 a)
      (own : 0 < h → Keeps m m2 h × (m2.forward h ≡ m.forward h) × (is_backward_kept types (m.code h) ≡ true → m2.backward h ≡ m.backward h))
      (stand : NodesLie types m2 nowhere (g K)) (names : NamesChildren types m2 (m.code h) h (g K)) (good : Formed types (m.code h) (g K)) where
    at_header : h ≡ 0 → with_children h g f ≡ g f
    at_header z = cond-true (h == 0) (g f) (change_below h g f) (eq-eqb h 0 z)

    at_segment : 0 < h → with_children h g f ≡ change_below h g f
    at_segment p = cond-false (h == 0) (g f) (change_below h g f) (ne_eqb h 0 (λ (e : h ≡ 0). omega arith))

    pub changed_lies : Lies types m2 (with_children h g f)
    changed_lies = elim S.is [
      | inl e ↦ subst (Lies types m2) (sym (at_header e.0 ∙ ap g e.1)) (record {
        roots = subst (λ x. NamesChildren types m2 x 0 (g K)) (ap m.code e.0 ∙ G.header_code) (subst (λ x. NamesChildren types m2 (m.code h) x (g K)) e.0 names);
        nodes = stand;
      })
      | inr e ↦
          (let top : AgreeAt types m m2 0 = same 0 G.header (λ (q : 0 ≡ h). (let p : 0 < h = e.0 in omega arith)) (count_zero types m nowhere K S.stand) in
          subst (Lies types m2) (sym (at_segment e.0)) (record {
            roots = record {
              first = λ t q. top.first_child t G.header (ap (λ x. is_child_type types x t) G.header_code ∙ q) ∙ H.lies.roots.first t q ∙ sym (below_first h g f t);
              last = λ t q kept. top.last_child t G.header (ap (λ x. is_child_type types x t) G.header_code ∙ q) kept ∙ H.lies.roots.last t q kept ∙ sym (below_last h g nowhere f t);
            };
            nodes = below_stand h g types m m2 K (own e.0).0 (own e.0).1 (own e.0).2 stand names nowhere f H.lies.nodes (at_most_once types m f H) (λ p. e.1)
                (λ a p nh w. same a (node_there types m a nowhere f H.lies.nodes p).here nh (w (children_count h f K e.1)));
          }))
    ]

    pub changed_formed : Formed types 0 (with_children h g f)
    changed_formed = elim S.is [
      | inl e ↦ subst (Formed types 0) (sym (at_header e.0 ∙ ap g e.1)) (subst (λ x. Formed types x (g K)) (ap m.code e.0 ∙ G.header_code) good)
      | inr e ↦ subst (Formed types 0) (sym (at_segment e.0))
          (below_formed h g types m K 0 nowhere f H.lies.nodes whole_formed (at_most_once types m f H h) (λ p. e.1) good)
    ]
