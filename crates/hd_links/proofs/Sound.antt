-- Where a placed forest is held the records are linked.
use Rattle.std.proofs.Common.{◌≡◌, ℕ, zero, suc, ◌+◌, ◌<◌, ◌≤◌, List, true, arith, ap, sym, ◌∙◌, refl, subst, Some, None, inl, inr}
use Rattle.std.specs.Prelude.{◌==◌}
use Rattle.std.proofs.lemmas.Bool.{cases_eq, cases_order, eq-eqb, ne_eqb, cond-true, cond-false}
use Rattle.hd_dbd.specs.Types.{SegmentType}
use Rattle.hd_dbd.specs.Segment.{Segment}
use Rattle.hd_dbd.specs.Rows.{twins_in_order}
use Rattle.hd_dbd.specs.Forest.{Forest, empty, node}
use Rattle.hd_links.specs.Links.{Links, IsSegment, IsLinkGraph, segment_at, is_child_type}
use Rattle.hd_dbd.specs.Prefixes.{is_backward_kept}
use Rattle.hd_links.specs.Placed.{Placed, count, first_of, last_of, nowhere, with_node, with_nodes, NodesLie, NodeLies, NamesChildren, Holds}
use Rattle.hd_links.specs.Pointers.{PointsTo, PointersAreTyped, IsTwinBefore, Precedes, TwinsLinkBack, IsReached, AreLinked}
use Rattle.hd_links.proofs.Types.{Ordered}
use Rattle.hd_links.proofs.Forms.{Formed, is_behind, low, formed, follows_code, follows_key, segment_is}
use Rattle.hd_links.proofs.Build.{zero_or, EndsAfter, chain_from}
use Rattle.hd_links.proofs.Counts.{is_at, one_at, none_at, slot, total, names, count_all, total_least, total_two, count_zero}

-- each address in the table is that of a segment of the type
abbrev pub TableFits : Links → (ℕ → ℕ) → Type 0
TableFits m table = (t : ℕ) → PointsTo m t (table t)

nowhere_fits : (m : Links) → TableFits m nowhere
nowhere_fits m t p = absurd (omega arith)

then_fits : (types : List SegmentType) (m : Links) (table : ℕ → ℕ) (r : Placed) (k n : Forest Placed) → TableFits m table → NodeLies types m table r k n → TableFits m (with_node table r)
then_fits types m table r k n T s t = elim (cases_eq r.segment.code t) [
  | inl e ↦ subst (PointsTo m t) (sym (cond-true (r.segment.code == t) r.address (table t) (eq-eqb r.segment.code t e))) (λ p. (s.there.here, s.code ∙ e))
  | inr ne ↦ subst (PointsTo m t) (sym (cond-false (r.segment.code == t) r.address (table t) (ne_eqb r.segment.code t ne))) (T t)
]

-- the node at an address
pub record At (types : List SegmentType) (m : Links) (a : ℕ) : Type 0 where
  pub table : ℕ → ℕ
  pub parent : ℕ
  pub row : Placed
  pub below : Forest Placed
  pub after : Forest Placed
  pub is : row.address ≡ a
  pub stands : NodesLie types m table (node row below after)
  pub formed : Formed types parent (node row below after)
  pub fits : TableFits m table

pub find : (types : List SegmentType) (m : Links) (a : ℕ) (b : ℕ → ℕ) (c : ℕ) (f : Forest Placed) → NodesLie types m b f → Formed types c f → TableFits m b → 0 < count a f → At types m a
find types m a b c empty l h T p = absurd (omega arith)
find types m a b c (node r k n) l h T p =
    elim (cases_eq r.address a) [
      | inl e ↦ record { table = b; parent = c; row = r; below = k; after = n; is = e; stands = l; formed = h; fits = T }
      | inr ne ↦ (let z : is_at r.address a ≡ 0 = none_at r.address a ne in
          elim (zero_or (count a k)) [
            | inr q ↦ find types m a nowhere r.segment.code k l.1 h.2 (nowhere_fits m) q
            | inl q ↦ find types m a (with_node b r) c n l.2 h.3 (then_fits types m b r k n T l.0) (omega arith)
          ])
    ]

-- the first sibling of a type
pub record First (types : List SegmentType) (m : Links) (c : ℕ) (b : ℕ → ℕ) (t p : ℕ) : Type 0 where
  pub typed : is_child_type types c t ≡ true
  pub there : IsSegment m p
  pub code : m.code p ≡ t
  pub backward : is_backward_kept types t ≡ true → m.backward p ≡ b t

pub first_is : (types : List SegmentType) (m : Links) (c : ℕ) (b : ℕ → ℕ) (f : Forest Placed) (t : ℕ) → NodesLie types m b f → Formed types c f → 0 < first_of f t → First types m c b t (first_of f t)
first_is types m c b empty t l h p = absurd (omega arith)
first_is types m c b (node r k n) t l h p =
    elim (cases_eq r.segment.code t) [
      | inl e ↦ subst (First types m c b t) (sym (cond-true _ _ _ (eq-eqb r.segment.code t e)))
          (record {
            typed = subst (λ x. is_child_type types c x ≡ true) e h.0;
            there = l.0.there;
            code = l.0.code ∙ e;
            backward = λ q. l.0.backward (subst (λ x. is_backward_kept types x ≡ true) (sym e) q) ∙ ap b e;
          })
      | inr ne ↦
          (let e : first_of (node r k n) t ≡ first_of n t = cond-false _ _ _ (ne_eqb r.segment.code t ne) in
          let F : First types m c (with_node b r) t (first_of n t) = first_is types m c (with_node b r) n t l.2 h.3 (subst (λ x. 0 < x) e p) in
          subst (First types m c b t) (sym e)
          (record { typed = F.typed; there = F.there; code = F.code; backward = λ q. F.backward q ∙ cond-false _ _ _ (ne_eqb r.segment.code t ne) }))
    ]

-- the last of no siblings
last_none : (types : List SegmentType) (m : Links) (b : ℕ → ℕ) (f : Forest Placed) (t : ℕ) → NodesLie types m b f → first_of f t ≡ 0 → with_nodes b f t ≡ b t
last_none types m b empty t l e = refl
last_none types m b (node r k n) t l e =
    elim (cases_eq r.segment.code t) [
      | inl q ↦ absurd (let z : first_of (node r k n) t ≡ r.address = cond-true _ _ _ (eq-eqb r.segment.code t q) in let p : 0 < r.address = l.0.there.some in omega arith)
      | inr ne ↦ last_none types m (with_node b r) n t l.2 (sym (cond-false _ _ _ (ne_eqb r.segment.code t ne)) ∙ e) ∙ cond-false _ _ _ (ne_eqb r.segment.code t ne)
    ]

ends : (types : List SegmentType) (m : Links) (b : ℕ → ℕ) (f : Forest Placed) (t : ℕ) → NodesLie types m b f → 0 < first_of f t → (k : ℕ) × EndsAfter m k (first_of f t) (with_nodes b f t)
ends types m b empty t l p = absurd (omega arith)
ends types m b (node r k n) t l p =
    elim (cases_eq r.segment.code t) [
      | inl q ↦
          (let own : first_of (node r k n) t ≡ r.address = cond-true _ _ _ (eq-eqb r.segment.code t q) in
          let nx : m.forward r.address ≡ first_of n t = l.0.forward ∙ ap (first_of n) q in
          elim (zero_or (first_of n t)) [
            | inl z ↦ (
              0,
              subst (λ x. EndsAfter m 0 x (with_nodes b (node r k n) t)) (sym own) (
                l.0.there.some,
                sym (cond-true _ _ _ (eq-eqb r.segment.code t q)) ∙ sym (last_none types m (with_node b r) n t l.2 z),
                nx ∙ z,
              ),
            )
            | inr z ↦
                (let i : (k : ℕ) × EndsAfter m k (first_of n t) (with_nodes (with_node b r) n t) = ends types m (with_node b r) n t l.2 z in (
                  suc i.0,
                  subst (λ x. EndsAfter m (suc i.0) x (with_nodes b (node r k n) t)) (sym own) (
                    l.0.there.some,
                    subst (λ x. EndsAfter m i.0 x (with_nodes b (node r k n) t)) (sym nx) i.1,
                  ),
                ))
          ])
      | inr ne ↦
          (let e : first_of (node r k n) t ≡ first_of n t = cond-false _ _ _ (ne_eqb r.segment.code t ne) in
          subst (λ x. (j : ℕ) × EndsAfter m j x (with_nodes b (node r k n) t)) (sym e)
          (ends types m (with_node b r) n t l.2 (subst (λ x. 0 < x) e p)))
    ]

last_typed : (types : List SegmentType) (m : Links) (b : ℕ → ℕ) (f : Forest Placed) (t : ℕ) → NodesLie types m b f → TableFits m b → PointsTo m t (with_nodes b f t)
last_typed types m b empty t l T = T t
last_typed types m b (node r k n) t l T = last_typed types m (with_node b r) n t l.2 (then_fits types m b r k n T l.0)

-- what is reached: all below and behind the first ones that are
reach : (types : List SegmentType) (m : Links) (c : ℕ) (b : ℕ → ℕ) (f : Forest Placed) → NodesLie types m b f → Formed types c f
    → ((t : ℕ) → 0 < first_of f t → (n : ℕ) × IsReached types m n (first_of f t))
    → (a : ℕ) → 0 < count a f → (n : ℕ) × IsReached types m n a
reach types m c b empty l h w a p = absurd (omega arith)
reach types m c b (node r k n) l h w a p =
    let own : first_of (node r k n) r.segment.code ≡ r.address = cond-true _ _ _ (eq-eqb r.segment.code r.segment.code refl) in
    let top : (i : ℕ) × IsReached types m i r.address
    = subst (λ x. (i : ℕ) × IsReached types m i x) own (w r.segment.code (subst (λ x. 0 < x) (sym own) l.0.there.some)) in
    elim (cases_eq r.address a) [
      | inl e ↦ subst (λ x. (i : ℕ) × IsReached types m i x) e top
      | inr ne ↦ (let z : is_at r.address a ≡ 0 = none_at r.address a ne in
          elim (zero_or (count a k)) [
            | inr q ↦ reach types m r.segment.code nowhere k l.1 h.2
                (λ t s.
                let F : First types m r.segment.code nowhere t (first_of k t) = first_is types m r.segment.code nowhere k t l.1 h.2 s in (
                  suc top.0,
                  (
                    F.there,
                    (
                      r.address,
                      top.1,
                      inr (
                        t,
                        record {
                          holder = l.0.there.here;
                          typed = subst (λ x. is_child_type types x t ≡ true) (sym l.0.code) F.typed;
                          names = l.0.children.first t F.typed;
                        },
                      ),
                    ),
                  ),
                ))
                a q
            | inl q ↦ reach types m c (with_node b r) n l.2 h.3
                (λ t s. elim (cases_eq r.segment.code t) [
                  | inl e ↦
                      (let F : First types m c (with_node b r) t (first_of n t) = first_is types m c (with_node b r) n t l.2 h.3 s in (
                        suc top.0,
                        (F.there, (r.address, top.1, inl (record { holder = l.0.there; names = l.0.forward ∙ ap (first_of n) e }))),
                      ))
                  | inr e ↦
                      (let z2 : first_of (node r k n) t ≡ first_of n t = cond-false _ _ _ (ne_eqb r.segment.code t e) in
                      subst (λ x. (i : ℕ) × IsReached types m i x) z2 (w t (subst (λ x. 0 < x) (sym z2) s)))
                ])
                a (omega arith)
          ])
    ]

-- keys of twins
key_of : (types : List SegmentType) (m : Links) (c : ℕ) (b : ℕ → ℕ) (r : Segment) (n : Forest Placed) → NodesLie types m b n → Formed types c n → is_behind types (Some r) n ≡ true
    → 0 < first_of n r.code → twins_in_order types r (segment_at m (first_of n r.code)) ≡ true
key_of types m c b r empty l h f p = absurd (omega arith)
key_of types m c b r (node s k n) l h f p =
    elim (cases_eq r.code s.segment.code) [
      | inl e ↦
          (let x : first_of (node s k n) r.code ≡ s.address = cond-true _ _ _ (eq-eqb s.segment.code r.code (sym e)) in
          ap (twins_in_order types r) (ap (segment_at m) x ∙ segment_is types m b s k n l.0) ∙ follows_key types r s.segment f e)
      | inr ne ↦ absurd
          (let le : r.code ≤ s.segment.code = follows_code types (record { address = 0; segment = r }) s k n f in
          let z : first_of (node s k n) r.code ≡ 0 = low types c s k n r.code h (elim (cases_order r.code s.segment.code) [ inl q ↦ absurd (ne q) | inr w ↦ elim w [ inl q ↦ q | inr q ↦ absurd (omega arith) ] ]) in omega arith)
    ]

module _ (types : List SegmentType) (O : Ordered types) (bound : ℕ) (m : Links) (G : IsLinkGraph types bound m) (f : Forest Placed) (H : Holds types m f) where
  is_formed : Formed types 0 f
  is_formed = formed types O 0 None f H.fits

  at : (a : ℕ) → IsSegment m a → At types m a
  at a s = find types m a nowhere 0 f H.lies.nodes is_formed (nowhere_fits m) (let e : count a f ≡ 1 = H.once a s in omega arith)

  -- the twin behind a segment
  behind : (h : ℕ) (s : IsSegment m h) → 0 < m.forward h → First types m (at h s).parent (with_node (at h s).table (at h s).row) (at h s).row.segment.code (m.forward h)
  behind h s p =
      let A : At types m h = at h s in
      let e : first_of A.after A.row.segment.code ≡ m.forward h = sym A.stands.0.forward ∙ ap m.forward A.is in
      subst (First types m A.parent (with_node A.table A.row) A.row.segment.code) e
      (first_is types m A.parent (with_node A.table A.row) A.after A.row.segment.code A.stands.2 A.formed.3 (subst (λ x. 0 < x) (sym e) p))

  own_code : (h : ℕ) (s : IsSegment m h) → (at h s).row.segment.code ≡ m.code h
  own_code h s = sym (at h s).stands.0.code ∙ ap m.code (at h s).is

  -- what a record has below it
  pub record Children (h : ℕ) : Type 0 where
    pub below : Forest Placed
    pub stand : NodesLie types m nowhere below
    pub formed : Formed types (m.code h) below
    pub named : NamesChildren types m (m.code h) h below

  children : (h : ℕ) → m.here h ≡ true → Children h
  children h here = elim (zero_or h) [
    | inl z ↦ record {
      below = f;
      stand = H.lies.nodes;
      formed = subst (λ x. Formed types x f) (sym (ap m.code z ∙ G.header_code)) is_formed;
      named = subst (λ x. NamesChildren types m (m.code x) x f) (sym z) (subst (λ x. NamesChildren types m x 0 f) (sym G.header_code) H.lies.roots);
    }
    | inr p ↦ (let s : IsSegment m h = record { some = p; here = here } in
        let A : At types m h = at h s in
        record {
          below = A.below;
          stand = A.stands.1;
          formed = subst (λ x. Formed types x A.below) (own_code h s) A.formed.2;
          named = subst (λ x. NamesChildren types m x h A.below) (own_code h s) (subst (λ x. NamesChildren types m A.row.segment.code x A.below) A.is A.stands.0.children);
        })
  ]

  first_child : (h t : ℕ) → m.here h ≡ true → is_child_type types (m.code h) t ≡ true → 0 < m.first_child h t → First types m (m.code h) nowhere t (m.first_child h t)
  first_child h t here q p =
      let C : Children h = children h here in
      let e : first_of C.below t ≡ m.first_child h t = sym (C.named.first t q) in
      subst (First types m (m.code h) nowhere t) e (first_is types m (m.code h) nowhere C.below t C.stand C.formed (subst (λ x. 0 < x) (sym e) p))

  typed : PointersAreTyped types m
  typed = record {
    delete_byte = λ a s. sym (ap m.delete_byte (at a s).is) ∙ (at a s).stands.0.delete_byte;
    forward = λ a s p. ((behind a s p).there.here, (behind a s p).code ∙ own_code a s);
    backward = λ a s kept.
        (let A : At types m a = at a s in
        let e : m.backward a ≡ A.table A.row.segment.code = sym (ap m.backward A.is) ∙ A.stands.0.backward (subst (λ x. is_backward_kept types x ≡ true) (sym (own_code a s)) kept) in
        subst (PointsTo m (m.code a)) (sym e) (subst (λ x. PointsTo m x (A.table A.row.segment.code)) (own_code a s) (A.fits A.row.segment.code)));
    first = λ a t here q p. ((first_child a t here q p).there.here, (first_child a t here q p).code);
    last = λ a t here q kept.
        (let C : Children a = children a here in
        subst (PointsTo m t) (sym (C.named.last t q kept)) (last_typed types m nowhere C.below t C.stand (nowhere_fits m)));
  }

  is_reached : (a : ℕ) → IsSegment m a → (n : ℕ) × IsReached types m n a
  is_reached a s = reach types m 0 nowhere f H.lies.nodes is_formed
      (λ t p.
      let F : First types m 0 nowhere t (first_of f t) = first_is types m 0 nowhere f t H.lies.nodes is_formed p in
      (1, (F.there, (0, refl, inr (t, record { holder = G.header; typed = subst (λ x. is_child_type types x t ≡ true) (sym G.header_code) F.typed; names = H.lies.roots.first t F.typed })))))
      a (let e : count a f ≡ 1 = H.once a s in omega arith)

  some : (a : ℕ) → IsSegment m a → (h : ℕ) × Precedes types m h a
  some a s = last_step (is_reached a s).0 (is_reached a s).1
    where
      last_step : (n : ℕ) → IsReached types m n a → (h : ℕ) × Precedes types m h a
      last_step zero w = absurd (let p : 0 < a = s.some in omega arith)
      last_step (suc n) w = (w.1.0, w.1.2)

  -- the header and the nodes, each counted once
  whole : (ℕ → ℕ) → ℕ
  whole e = e 0 + total e f

  whole_one : (h : ℕ) → m.here h ≡ true → is_at 0 h + count h f ≡ 1
  whole_one h here = elim (zero_or h) [
    | inl z ↦ (let o : is_at 0 h ≡ 1 = one_at 0 h (sym z) in
        let c : count h f ≡ 0 = ap (λ x. count x f) z ∙ count_zero types m nowhere f H.lies.nodes in omega arith)
    | inr p ↦ (let o : is_at 0 h ≡ 0 = none_at 0 h (λ (e : 0 ≡ h). omega arith) in
        let c : count h f ≡ 1 = H.once h (record { some = p; here = here }) in omega arith)
  ]

  holder : (h a : ℕ) → Precedes types m h a → m.here h ≡ true
  holder h a (inl T) = T.holder.here
  holder h a (inr P) = P.1.holder

  one : (a g h : ℕ) → IsSegment m a → Precedes types m g a → Precedes types m h a → g ≡ h
  one a g h s P Q = elim (cases_eq g h) [
    | inl e ↦ e
    | inr ne ↦ absurd
        (let c : count a f ≡ is_at (slot types m 0 a) a + total (λ x. is_at (slot types m x a) a) f = count_all types O bound m G f H.lies is_formed a s in
        let ca : count a f ≡ 1 = H.once a s in
        let cg : is_at 0 g + count g f ≡ 1 = whole_one g (holder g a P) in
        let ch : is_at 0 h + count h f ≡ 1 = whole_one h (holder h a Q) in
        let t2 : total (λ x. is_at x g + is_at x h) f ≡ count g f + count h f = total_two g h f in
        let each : (x : ℕ) → is_at x g + is_at x h ≤ is_at (slot types m x a) a = (λ x.
        elim (cases_eq x g) [
          | inl e ↦ (let i : is_at x g ≡ 1 = one_at x g e in let j : is_at x h ≡ 0 = none_at x h (λ y. ne (sym e ∙ y)) in
              let k : is_at (slot types m x a) a ≡ 1 = one_at _ _ (ap (λ y. slot types m y a) e ∙ names types O bound m G typed g a s P) in omega arith)
          | inr n1 ↦ (let i : is_at x g ≡ 0 = none_at x g n1 in
              elim (cases_eq x h) [
                | inl e ↦ (let j : is_at x h ≡ 1 = one_at x h e in
                    let k : is_at (slot types m x a) a ≡ 1 = one_at _ _ (ap (λ y. slot types m y a) e ∙ names types O bound m G typed h a s Q) in omega arith)
                | inr n2 ↦ (let j : is_at x h ≡ 0 = none_at x h n2 in omega arith)
              ])
        ]) in
        let le : total (λ x. is_at x g + is_at x h) f ≤ total (λ x. is_at (slot types m x a) a) f
        = total_least types m (λ x. is_at x g + is_at x h) (λ x. is_at (slot types m x a) a) nowhere f H.lies.nodes (λ x sx. each x) in
        let z : is_at 0 g + is_at 0 h ≤ is_at (slot types m 0 a) a = each 0 in
        omega arith)
  ]

  back : TwinsLinkBack types m
  back = record {
    twins = λ a h s kept T.
        (let p : 0 < m.forward h = subst (λ x. 0 < x) (sym T.names) s.some in
        let A : At types m h = at h T.holder in
        let F : First types m A.parent (with_node A.table A.row) A.row.segment.code (m.forward h) = behind h T.holder p in
        let c : m.code a ≡ A.row.segment.code = sym (ap m.code T.names) ∙ F.code in
        sym (ap m.backward T.names) ∙ F.backward (subst (λ x. is_backward_kept types x ≡ true) c kept)
        ∙ cond-true _ _ _ (eq-eqb A.row.segment.code A.row.segment.code refl) ∙ A.is);
    firsts = λ a h t s kept P.
        (let p : 0 < m.first_child h t = subst (λ x. 0 < x) (sym P.names) s.some in
        let F : First types m (m.code h) nowhere t (m.first_child h t) = first_child h t P.holder P.typed p in
        let c : m.code a ≡ t = sym (ap m.code P.names) ∙ F.code in
        sym (ap m.backward P.names) ∙ F.backward (subst (λ x. is_backward_kept types x ≡ true) c kept));
    lasts = λ h t here q kept p.
        (let C : Children h = children h here in
        let e : first_of C.below t ≡ m.first_child h t = sym (C.named.first t q) in
        let e2 : last_of C.below t ≡ m.last_child h t = sym (C.named.last t q kept) in
        let E : (n : ℕ) × EndsAfter m n (m.first_child h t) (m.last_child h t) = subst (λ x. (n : ℕ) × EndsAfter m n (m.first_child h t) x) e2
        (subst (λ x. (n : ℕ) × EndsAfter m n x (last_of C.below t)) e
        (ends types m nowhere C.below t C.stand (subst (λ x. 0 < x) (sym e) p))) in
        let F = chain_from m E.0 (m.first_child h t) (m.last_child h t) E.1 in ((E.0, F.0), F.1));
    no_lasts = λ h t here q kept z.
        (let C : Children h = children h here in
        C.named.last t q kept ∙ last_none types m nowhere C.below t C.stand (sym (C.named.first t q) ∙ z));
  }

  keys : (a h : ℕ) → IsSegment m a → IsTwinBefore m h a → twins_in_order types (segment_at m h) (segment_at m a) ≡ true
  keys a h s T =
      let A : At types m h = at h T.holder in
      let e : first_of A.after A.row.segment.code ≡ a = sym A.stands.0.forward ∙ ap m.forward A.is ∙ T.names in
      let own : A.row.segment ≡ segment_at m h = sym (segment_is types m A.table A.row A.below A.after A.stands.0) ∙ ap (segment_at m) A.is in
      subst (λ x. twins_in_order types x (segment_at m a) ≡ true) own
      (subst (λ x. twins_in_order types A.row.segment (segment_at m x) ≡ true) e
      (key_of types m A.parent (with_node A.table A.row) A.row.segment A.after A.stands.2 A.formed.3 A.formed.1 (subst (λ x. 0 < x) (sym e) s.some)))

  pub are_linked : AreLinked types m
  are_linked = record { typed = typed; single = record { some = some; one = one }; back = back; keys = keys; reached = is_reached }
