-- The forest that linked records stand for: the chains of twins, each with the chains below its segments.
use Rattle.std.proofs.Common.{◌≡◌, ℕ, zero, suc, ◌+◌, ◌<◌, List, [], ◌∷◌, true, arith, ap, sym, ◌∙◌, refl, subst, cond, Some, inl, inr}
use Rattle.std.specs.Prelude.{◌==◌, ◌⊎◌}
use Rattle.std.proofs.lemmas.Bool.{cases_eq, cases_order, cases_Bool, eq-eqb, ne_eqb, cond-true, cond-false, false≢true}
use Rattle.hd_dbd.specs.Types.{SegmentType}
use Rattle.hd_dbd.specs.Rows.{twins_in_order}
use Rattle.hd_dbd.specs.Forest.{Forest, empty, node}
use Rattle.hd_links.specs.Links.{Links, IsSegment, IsLinkGraph, segment_at, child_types, is_child_type}
use Rattle.hd_dbd.specs.Prefixes.{is_backward_kept}
use Rattle.hd_links.specs.Placed.{Placed, first_of, nowhere, with_node, with_nodes, NodesLie, NamesChildren}
use Rattle.hd_links.specs.Pointers.{IsTwinAfter, IsReached, AreLinked}
use Rattle.hd_links.proofs.Types.{Ordered, AllAbove, Ascending, is_in, in_cases, in_head, in_tail}
use Rattle.hd_links.proofs.Forms.{Formed, is_behind, code_follows, key_follows}

pub zero_or : (n : ℕ) → (n ≡ 0) ⊎ (0 < n)
zero_or zero = inl refl
zero_or (suc n) = inr (omega arith)

-- the chain of twins from p ends with the segment l, after so many twins
abbrev pub EndsAfter : Links → ℕ → ℕ → ℕ → Type 0
EndsAfter m zero p l = (0 < p) × (p ≡ l) × (m.forward p ≡ 0)
EndsAfter m (suc n) p l = (0 < p) × EndsAfter m n (m.forward p) l

pub ends_from : (m : Links) (n p l : ℕ) → IsTwinAfter m n p l → m.forward l ≡ 0 → EndsAfter m n p l
ends_from m zero p l h e = (h.0, h.1, ap m.forward h.1 ∙ e)
ends_from m (suc n) p l h e = (h.0, ends_from m n (m.forward p) l h.1 e)

pub chain_from : (m : Links) (n p l : ℕ) → EndsAfter m n p l → IsTwinAfter m n p l × (m.forward l ≡ 0)
chain_from m zero p l h = ((h.0, h.1), ap m.forward (sym h.1) ∙ h.2)
chain_from m (suc n) p l h = (let i = chain_from m n (m.forward p) l h.1 in ((h.0, i.0), i.1))

-- the forest of the chains of these types, the first in front
abbrev pub chains : (ℕ → Forest Placed → Forest Placed) → List ℕ → Forest Placed
chains chain [] = empty
chains chain (t ∷ ts) = chain t (chains chain ts)

-- the chain of twins from p and all below it, in front of the later siblings
abbrev pub build : List SegmentType → Links → ℕ → ℕ → Forest Placed → Forest Placed
build types m zero p rest = rest
build types m (suc f) zero rest = rest
build types m (suc f) (suc p) rest =
    node (record { address = suc p; segment = segment_at m (suc p) })
    (chains (λ t below. build types m f (m.first_child (suc p) t) below) (child_types types (m.code (suc p))))
    (build types m f (m.forward (suc p)) rest)

-- each sibling's type is after t
abbrev pub Above : ℕ → Forest Placed → Type 0
Above t empty = Unit {0}
Above t (node r k n) = (t < r.segment.code) × Above t n

-- ---- siblings after t

pub first_above : (t : ℕ) (f : Forest Placed) → Above t f → first_of f t ≡ 0
first_above t empty h = refl
first_above t (node r k n) h = cond-false _ _ _ (ne_eqb r.segment.code t (λ (e : r.segment.code ≡ t). let l : t < r.segment.code = h.0 in omega arith)) ∙ first_above t n h.1

pub last_above : (b : ℕ → ℕ) (t : ℕ) (f : Forest Placed) → Above t f → with_nodes b f t ≡ b t
last_above b t empty h = refl
last_above b t (node r k n) h = last_above (with_node b r) t n h.1 ∙ cond-false _ _ _ (ne_eqb r.segment.code t (λ (e : r.segment.code ≡ t). let l : t < r.segment.code = h.0 in omega arith))

pub then_same : (b b2 : ℕ → ℕ) (r : Placed) (u : ℕ) → b u ≡ b2 u → with_node b r u ≡ with_node b2 r u
then_same b b2 r u e = ap (cond (r.segment.code == u) r.address) e

pub last_same : (b b2 : ℕ → ℕ) (u : ℕ) (f : Forest Placed) → b u ≡ b2 u → with_nodes b f u ≡ with_nodes b2 f u
last_same b b2 u empty e = e
last_same b b2 u (node r k n) e = last_same (with_node b r) (with_node b2 r) u n (then_same b b2 r u e)

stand_same : (types : List SegmentType) (m : Links) (b b2 : ℕ → ℕ) (t : ℕ) (f : Forest Placed) → Above t f → ((u : ℕ) → t < u → b u ≡ b2 u) → NodesLie types m b f → NodesLie types m b2 f
stand_same types m b b2 t empty h e l = tt
stand_same types m b b2 t (node r k n) h e l = (
  record { there = l.0.there; code = l.0.code; bytes = l.0.bytes; delete_byte = l.0.delete_byte; forward = l.0.forward; backward = λ q. l.0.backward q ∙ e r.segment.code h.0; children = l.0.children },
  l.1,
  stand_same types m (with_node b r) (with_node b2 r) t n h.1 (λ u q. then_same b b2 r u (e u q)) l.2,
)

module _ (types : List SegmentType) (m : Links) (L : AreLinked types m) (O : Ordered types) where
  -- the walks to one place have one length
  pub reached_once : (n k a : ℕ) → IsReached types m n a → IsReached types m k a → n ≡ k
  reached_once zero zero a v w = refl
  reached_once zero (suc k) a v w = absurd (let p : 0 < a = w.0.some in omega arith)
  reached_once (suc n) zero a v w = absurd (let p : 0 < a = v.0.some in omega arith)
  reached_once (suc n) (suc k) a v w =
      let e : v.1.0 ≡ w.1.0 = L.single.one a v.1.0 w.1.0 v.0 v.1.2 w.1.2 in
      ap suc (reached_once n k w.1.0 (subst (IsReached types m n) e v.1.1) w.1.1)

  -- the walks to the segments below a bound are bounded
  pub bounded : (b : ℕ) → (c : ℕ) × ((a n : ℕ) → IsSegment m a → a < b → IsReached types m n a → n < c)
  bounded zero = (0, λ a n s l w. absurd (omega arith))
  bounded (suc b) =
      let rest : (c : ℕ) × ((a n : ℕ) → IsSegment m a → a < b → IsReached types m n a → n < c) = bounded b in
      elim (cases_Bool (m.here b)) [
        | inl here ↦ elim (zero_or b) [
          | inl z ↦ (rest.0, λ a n s l w. absurd (let p : 0 < a = s.some in omega arith))
          | inr p ↦ (let own : (n : ℕ) × IsReached types m n b = L.reached b (record { some = p; here = here }) in (
            suc (own.0 + rest.0),
            λ a n s l w. elim (cases_eq a b) [
              | inl e ↦ (let k : n ≡ own.0 = reached_once n own.0 b (subst (IsReached types m n) e w) own.1 in omega arith)
              | inr ne ↦ (let k : n < rest.0 = rest.1 a n s (other a ne l) w in omega arith)
            ],
          ))
        ]
        | inr gone ↦ (
          rest.0,
          λ a n s l w. elim (cases_eq a b) [
            | inl e ↦ absurd (false≢true (sym gone ∙ ap m.here (sym e) ∙ s.here))
            | inr ne ↦ rest.1 a n s (other a ne l) w
          ],
        )
      ]
    where
      other : (a : ℕ) → (a ≡ b → ⊥) → a < suc b → a < b
      other a ne l = elim (cases_order a b) [
        | inl e ↦ absurd (ne e)
        | inr w ↦ elim w [ inl q ↦ q | inr q ↦ absurd (omega arith) ]
      ]

  -- the head of a chain at depth n, and fuel for what is below
  pub record Fit (n f p t : ℕ) : Type 0 where
    pub walk : 0 < p → IsReached types m n p
    pub there : 0 < p → IsSegment m p
    pub code : 0 < p → m.code p ≡ t
    pub enough : (a k : ℕ) → IsReached types m k a → k < n + f

  fit_zero : (n p t : ℕ) → Fit n zero p t → p ≡ 0
  fit_zero n p t F = elim (zero_or p) [
    | inl e ↦ e
    | inr q ↦ absurd (let k : n < n + 0 = F.enough p n (F.walk q) in omega arith)
  ]

  fit_next : (n f p t : ℕ) → Fit n (suc f) (suc p) t → Fit (suc n) f (m.forward (suc p)) t
  fit_next n f p t F =
      let own : IsSegment m (suc p) = F.there (omega arith) in
      let seg : 0 < m.forward (suc p) → IsSegment m (m.forward (suc p)) = (λ q. record { some = q; here = (L.typed.forward (suc p) own q).0 }) in
      record {
        walk = λ q. (seg q, (suc p, F.walk (omega arith), inl (record { holder = own; names = refl })));
        there = seg;
        code = λ q. (L.typed.forward (suc p) own q).1 ∙ F.code (omega arith);
        enough = λ a k w. (let l : k < n + suc f = F.enough a k w in omega arith);
      }

  pub fit_first : (n f h u : ℕ) → m.here h ≡ true → IsReached types m n h → is_child_type types (m.code h) u ≡ true
      → ((a k : ℕ) → IsReached types m k a → k < n + suc f) → Fit (suc n) f (m.first_child h u) u
  fit_first n f h u own walked child enough =
      let seg : 0 < m.first_child h u → IsSegment m (m.first_child h u) = (λ q. record { some = q; here = (L.typed.first h u own child q).0 }) in
      record {
        walk = λ q. (seg q, (h, walked, inr (u, record { holder = own; typed = child; names = refl })));
        there = seg;
        code = λ q. (L.typed.first h u own child q).1;
        enough = λ a k w. (let l : k < n + suc f = enough a k w in omega arith);
      }

  -- what a chain leaves of the siblings after it
  b_above : (u n f p t : ℕ) (rest : Forest Placed) → Fit n f p t → u < t → Above u rest → Above u (build types m f p rest)
  b_above u n zero p t rest F l h = h
  b_above u n (suc f) zero t rest F l h = h
  b_above u n (suc f) (suc p) t rest F l h = (
    (let c : m.code (suc p) ≡ t = F.code (omega arith) in omega arith),
    b_above u (suc n) f (m.forward (suc p)) t rest (fit_next n f p t F) l h,
  )

  pub b_first : (n f p t : ℕ) (rest : Forest Placed) → Fit n f p t → Above t rest → first_of (build types m f p rest) t ≡ p
  b_first n zero p t rest F h = first_above t rest h ∙ sym (fit_zero n p t F)
  b_first n (suc f) zero t rest F h = first_above t rest h
  b_first n (suc f) (suc p) t rest F h = cond-true _ _ _ (eq-eqb _ _ (F.code (omega arith)))

  b_first_other : (u n f p t : ℕ) (rest : Forest Placed) → Fit n f p t → (t ≡ u → ⊥) → first_of (build types m f p rest) u ≡ first_of rest u
  b_first_other u n zero p t rest F h = refl
  b_first_other u n (suc f) zero t rest F h = refl
  b_first_other u n (suc f) (suc p) t rest F h =
      cond-false _ _ _ (ne_eqb _ _ (λ (e : m.code (suc p) ≡ u). h (sym (F.code (omega arith)) ∙ e))) ∙ b_first_other u (suc n) f (m.forward (suc p)) t rest (fit_next n f p t F) h

  b_last_other : (b : ℕ → ℕ) (u n f p t : ℕ) (rest : Forest Placed) → Fit n f p t → (t ≡ u → ⊥) → with_nodes b (build types m f p rest) u ≡ with_nodes b rest u
  b_last_other b u n zero p t rest F h = refl
  b_last_other b u n (suc f) zero t rest F h = refl
  b_last_other b u n (suc f) (suc p) t rest F h =
      b_last_other (with_node b (record { address = suc p; segment = segment_at m (suc p) })) u (suc n) f (m.forward (suc p)) t rest (fit_next n f p t F) h
      ∙ last_same _ b u rest (cond-false _ _ _ (ne_eqb _ _ (λ (e : m.code (suc p) ≡ u). h (sym (F.code (omega arith)) ∙ e))))

  b_last_none : (b : ℕ → ℕ) (t f p : ℕ) (rest : Forest Placed) → p ≡ 0 → Above t rest → with_nodes b (build types m f p rest) t ≡ b t
  b_last_none b t zero p rest e h = last_above b t rest h
  b_last_none b t (suc f) zero rest e h = last_above b t rest h
  b_last_none b t (suc f) (suc p) rest e h = absurd (omega arith)

  b_last : (b : ℕ → ℕ) (n f p t k l : ℕ) (rest : Forest Placed) → Fit n f p t → Above t rest → EndsAfter m k p l → with_nodes b (build types m f p rest) t ≡ l
  b_last b n zero p t zero l rest F h E = absurd (let e : p ≡ 0 = fit_zero n p t F in let q : 0 < p = E.0 in omega arith)
  b_last b n zero p t (suc k) l rest F h E = absurd (let e : p ≡ 0 = fit_zero n p t F in let q : 0 < p = E.0 in omega arith)
  b_last b n (suc f) zero t zero l rest F h E = absurd (let q : 0 < 0 = E.0 in omega arith)
  b_last b n (suc f) zero t (suc k) l rest F h E = absurd (let q : 0 < 0 = E.0 in omega arith)
  b_last b n (suc f) (suc p) t zero l rest F h E =
      b_last_none (with_node b (record { address = suc p; segment = segment_at m (suc p) })) t f (m.forward (suc p)) rest E.2 h
      ∙ cond-true _ _ _ (eq-eqb _ _ (F.code (omega arith))) ∙ E.1
  b_last b n (suc f) (suc p) t (suc k) l rest F h E =
      b_last (with_node b (record { address = suc p; segment = segment_at m (suc p) })) (suc n) f (m.forward (suc p)) t k l rest (fit_next n f p t F) h E.1

  -- the chains below one record
  module _ (n f p : ℕ) (all : List ℕ) (FF : (t : ℕ) → is_in all t ≡ true → Fit n f (m.first_child p t) t) where
    k_above : (u : ℕ) (ts : List ℕ) → ((t : ℕ) → is_in ts t ≡ true → is_in all t ≡ true) → AllAbove u ts
        → Above u (chains (λ t below. build types m f (m.first_child p t) below) ts)
    k_above u [] w a = tt
    k_above u (t ∷ ts) w a =
        b_above u n f (m.first_child p t) t (chains (λ t below. build types m f (m.first_child p t) below) ts) (FF t (w t (in_head t t ts refl))) a.0
        (k_above u ts (λ v q. w v (in_tail t v ts q)) a.1)

    pub k_first : (ts : List ℕ) → ((t : ℕ) → is_in ts t ≡ true → is_in all t ≡ true) → Ascending ts → (t : ℕ) → is_in ts t ≡ true
        → first_of (chains (λ t below. build types m f (m.first_child p t) below) ts) t ≡ m.first_child p t
    k_first [] w a t h = absurd (false≢true h)
    k_first (v ∷ ts) w a t h =
        let rest : Forest Placed = chains (λ t below. build types m f (m.first_child p t) below) ts in
        let w2 : (u : ℕ) → is_in ts u ≡ true → is_in all u ≡ true = (λ u q. w u (in_tail v u ts q)) in
        let fit : Fit n f (m.first_child p v) v = FF v (w v (in_head v v ts refl)) in
        elim (cases_eq v t) [
          | inl e ↦ subst (λ x. first_of (build types m f (m.first_child p v) rest) x ≡ m.first_child p x) e
              (b_first n f (m.first_child p v) v rest fit (k_above v ts w2 a.0))
          | inr ne ↦ b_first_other t n f (m.first_child p v) v rest fit ne
              ∙ k_first ts w2 a.1 t (elim (in_cases v t ts h) [ inl e ↦ absurd (ne e) | inr s ↦ s ])
        ]

    pub k_last : (b : ℕ → ℕ) (l : ℕ) (ts : List ℕ) → ((t : ℕ) → is_in ts t ≡ true → is_in all t ≡ true) → Ascending ts → (t : ℕ) → is_in ts t ≡ true
        → (m.first_child p t ≡ 0 → l ≡ b t) → (0 < m.first_child p t → (k : ℕ) × EndsAfter m k (m.first_child p t) l)
        → with_nodes b (chains (λ t below. build types m f (m.first_child p t) below) ts) t ≡ l
    k_last b l [] w a t h z e = absurd (false≢true h)
    k_last b l (v ∷ ts) w a t h z e =
        let rest : Forest Placed = chains (λ t below. build types m f (m.first_child p t) below) ts in
        let w2 : (u : ℕ) → is_in ts u ≡ true → is_in all u ≡ true = (λ u q. w u (in_tail v u ts q)) in
        let fit : Fit n f (m.first_child p v) v = FF v (w v (in_head v v ts refl)) in
        elim (cases_eq v t) [
          | inl q ↦ subst (λ x. (m.first_child p x ≡ 0 → l ≡ b x) → (0 < m.first_child p x → (k : ℕ) × EndsAfter m k (m.first_child p x) l) → with_nodes b (build types m f (m.first_child p v) rest) x ≡ l) q
              (λ z2 e2. elim (zero_or (m.first_child p v)) [
                | inl o ↦ b_last_none b v f (m.first_child p v) rest o (k_above v ts w2 a.0) ∙ sym (z2 o)
                | inr o ↦ b_last b n f (m.first_child p v) v (e2 o).0 l rest fit (k_above v ts w2 a.0) (e2 o).1
              ]) z e
          | inr ne ↦ b_last_other b t n f (m.first_child p v) v rest fit ne
              ∙ k_last b l ts w2 a.1 t (elim (in_cases v t ts h) [ inl e2 ↦ absurd (ne e2) | inr s ↦ s ]) z e
        ]

    pub k_stand : ((t : ℕ) (rest : Forest Placed) → is_in all t ≡ true → Above t rest → NodesLie types m nowhere rest → NodesLie types m nowhere (build types m f (m.first_child p t) rest))
        → (ts : List ℕ) → ((t : ℕ) → is_in ts t ≡ true → is_in all t ≡ true) → Ascending ts
        → NodesLie types m nowhere (chains (λ t below. build types m f (m.first_child p t) below) ts)
    k_stand ih [] w a = tt
    k_stand ih (t ∷ ts) w a =
        let w2 : (u : ℕ) → is_in ts u ≡ true → is_in all u ≡ true = (λ u q. w u (in_tail t u ts q)) in
        ih t (chains (λ t below. build types m f (m.first_child p t) below) ts) (w t (in_head t t ts refl)) (k_above t ts w2 a.0) (k_stand ih ts w2 a.1)

    pub k_formed : (c : ℕ) → ((t : ℕ) (rest : Forest Placed) → is_in all t ≡ true → Above t rest → Formed types c rest → Formed types c (build types m f (m.first_child p t) rest))
        → (ts : List ℕ) → ((t : ℕ) → is_in ts t ≡ true → is_in all t ≡ true) → Ascending ts
        → Formed types c (chains (λ t below. build types m f (m.first_child p t) below) ts)
    k_formed c ih [] w a = tt
    k_formed c ih (t ∷ ts) w a =
        let w2 : (u : ℕ) → is_in ts u ≡ true → is_in all u ≡ true = (λ u q. w u (in_tail t u ts q)) in
        ih t (chains (λ t below. build types m f (m.first_child p t) below) ts) (w t (in_head t t ts refl)) (k_above t ts w2 a.0) (k_formed c ih ts w2 a.1)

  -- the chains below a record are what it names
  pub names_children : (n f h : ℕ) → m.here h ≡ true → ((t : ℕ) → is_in (child_types types (m.code h)) t ≡ true → Fit n f (m.first_child h t) t)
      → NamesChildren types m (m.code h) h (chains (λ t below. build types m f (m.first_child h t) below) (child_types types (m.code h)))
  names_children n f h here FF =
      let ts : List ℕ = child_types types (m.code h) in
      let asc : Ascending ts = O.ascending (m.code h) in
      record {
        first = λ t q. sym (k_first n f h ts FF ts (λ u s. s) asc t q);
        last = λ t q kept. sym (k_last n f h ts FF nowhere (m.last_child h t) ts (λ u s. s) asc t q (L.back.no_lasts h t here q kept)
            (λ some. (let E = L.back.lasts h t here q kept some in (E.0.0, ends_from m E.0.0 (m.first_child h t) (m.last_child h t) E.0.1 E.1))));
      }

  pub b_stand : (b : ℕ → ℕ) (n f p t : ℕ) (rest : Forest Placed) → Fit n f p t → Above t rest → (0 < p → is_backward_kept types t ≡ true → m.backward p ≡ b t)
      → NodesLie types m b rest → NodesLie types m b (build types m f p rest)
  b_stand b n zero p t rest F h e l = l
  b_stand b n (suc f) zero t rest F h e l = l
  b_stand b n (suc f) (suc p) t rest F h e l =
      let own : IsSegment m (suc p) = F.there (omega arith) in
      let c : m.code (suc p) ≡ t = F.code (omega arith) in
      let ts : List ℕ = child_types types (m.code (suc p)) in
      let FF : (u : ℕ) → is_in ts u ≡ true → Fit (suc n) f (m.first_child (suc p) u) u = (λ u q. fit_first n f (suc p) u own.here (F.walk (omega arith)) q F.enough) in
      let FN : Fit (suc n) f (m.forward (suc p)) t = fit_next n f p t F in
      let here : Placed = record { address = suc p; segment = segment_at m (suc p) } in (
        record {
          there = own;
          code = refl;
          bytes = refl;
          delete_byte = L.typed.delete_byte (suc p) own;
          forward = sym (b_first (suc n) f (m.forward (suc p)) t rest FN h) ∙ ap (first_of (build types m f (m.forward (suc p)) rest)) (sym c);
          backward = λ q. e (omega arith) (subst (λ x. is_backward_kept types x ≡ true) c q) ∙ ap b (sym c);
          children = names_children (suc n) f (suc p) own.here FF;
        },
        k_stand (suc n) f (suc p) ts FF
            (λ u below w a2 l2. b_stand nowhere (suc n) f (m.first_child (suc p) u) u below (FF u w) a2
            (λ q kept. L.back.firsts (m.first_child (suc p) u) (suc p) u ((FF u w).there q) (subst (λ x. is_backward_kept types x ≡ true) (sym ((FF u w).code q)) kept)
            (record { holder = own.here; typed = w; names = refl })) l2)
            ts (λ u s. s) (O.ascending (m.code (suc p))),
        b_stand (with_node b here) (suc n) f (m.forward (suc p)) t rest FN h
            (λ q kept. L.back.twins (m.forward (suc p)) (suc p) (FN.there q) (subst (λ x. is_backward_kept types x ≡ true) (sym (FN.code q)) kept) (record { holder = own; names = refl })
            ∙ sym (cond-true _ _ _ (eq-eqb _ _ c)))
            (stand_same types m b (with_node b here) t rest h (λ u q. sym (cond-false _ _ _ (ne_eqb _ _ (λ (w : m.code (suc p) ≡ u). omega arith)))) l),
      )

  follow_above : (r : Placed) (t : ℕ) (f : Forest Placed) → r.segment.code ≡ t → Above t f → is_behind types (Some r.segment) f ≡ true
  follow_above r t empty e h = refl
  follow_above r t (node s k n) e h = code_follows types r.segment s.segment (let q : t < s.segment.code = h.0 in omega arith)

  b_follow : (r : Placed) (n f q t : ℕ) (rest : Forest Placed) → Fit n f q t → r.segment.code ≡ t → Above t rest
      → (0 < q → twins_in_order types r.segment (segment_at m q) ≡ true) → is_behind types (Some r.segment) (build types m f q rest) ≡ true
  b_follow r n zero q t rest F c h e = follow_above r t rest c h
  b_follow r n (suc f) zero t rest F c h e = follow_above r t rest c h
  b_follow r n (suc f) (suc q) t rest F c h e = key_follows types r.segment (segment_at m (suc q)) (e (omega arith)) (c ∙ sym (F.code (omega arith)))

  pub b_formed : (d : ℕ) (n f p t : ℕ) (rest : Forest Placed) → Fit n f p t → is_child_type types d t ≡ true → Above t rest
      → Formed types d rest → Formed types d (build types m f p rest)
  b_formed d n zero p t rest F w h l = l
  b_formed d n (suc f) zero t rest F w h l = l
  b_formed d n (suc f) (suc p) t rest F w h l =
      let own : IsSegment m (suc p) = F.there (omega arith) in
      let c : m.code (suc p) ≡ t = F.code (omega arith) in
      let ts : List ℕ = child_types types (m.code (suc p)) in
      let FF : (u : ℕ) → is_in ts u ≡ true → Fit (suc n) f (m.first_child (suc p) u) u = (λ u q. fit_first n f (suc p) u own.here (F.walk (omega arith)) q F.enough) in
      let FN : Fit (suc n) f (m.forward (suc p)) t = fit_next n f p t F in (
        subst (λ x. is_child_type types d x ≡ true) (sym c) w,
        b_follow (record { address = suc p; segment = segment_at m (suc p) }) (suc n) f (m.forward (suc p)) t rest FN c h
            (λ q. L.keys (m.forward (suc p)) (suc p) (FN.there q) (record { holder = own; names = refl })),
        k_formed (suc n) f (suc p) ts FF (m.code (suc p))
            (λ u below w2 a2 l2. b_formed (m.code (suc p)) (suc n) f (m.first_child (suc p) u) u below (FF u w2) w2 a2 l2)
            ts (λ u s. s) (O.ascending (m.code (suc p))),
        b_formed d (suc n) f (m.forward (suc p)) t rest FN w h l,
      )

  -- the whole: the chains of roots
  module _ (bound : ℕ) (G : IsLinkGraph types bound m) where
    pub fuel : ℕ
    fuel = (bounded bound).0

    header_child : (t : ℕ) → is_in (child_types types 0) t ≡ true → is_child_type types (m.code 0) t ≡ true
    header_child t q = subst (λ x. is_child_type types x t ≡ true) (sym G.header_code) q

    short : (a k : ℕ) → IsReached types m k a → k < 0 + suc fuel
    unfolding fuel
    short a zero w = omega arith
    short a (suc k) w = (let l : suc k < fuel = (bounded bound).1 a (suc k) w.0 (G.below a w.0) w in omega arith)

    fits : (t : ℕ) → is_in (child_types types (m.code 0)) t ≡ true → Fit 1 fuel (m.first_child 0 t) t
    fits t q = fit_first 0 fuel 0 t G.header refl q short

    -- the forest that the records stand for
    pub built : Forest Placed
    built = chains (λ t below. build types m fuel (m.first_child 0 t) below) (child_types types (m.code 0))

    pub built_roots : NamesChildren types m (m.code 0) 0 built
    unfolding built
    built_roots = names_children 1 fuel 0 G.header fits

    pub built_stand : NodesLie types m nowhere built
    unfolding built
    built_stand = k_stand 1 fuel 0 (child_types types (m.code 0)) fits
        (λ t below w a l. b_stand nowhere 1 fuel (m.first_child 0 t) t below (fits t w) a
        (λ q kept. L.back.firsts (m.first_child 0 t) 0 t ((fits t w).there q) (subst (λ x. is_backward_kept types x ≡ true) (sym ((fits t w).code q)) kept)
        (record { holder = G.header; typed = w; names = refl })) l)
        (child_types types (m.code 0)) (λ u s. s) (O.ascending (m.code 0))

    pub built_formed : Formed types (m.code 0) built
    unfolding built
    built_formed = k_formed 1 fuel 0 (child_types types (m.code 0)) fits (m.code 0)
        (λ t below w a l. b_formed (m.code 0) 1 fuel (m.first_child 0 t) t below (fits t w) w a l)
        (child_types types (m.code 0)) (λ u s. s) (O.ascending (m.code 0))
