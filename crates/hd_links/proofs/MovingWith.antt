-- What moving a segment with other bytes does: each pointer that named it is among those that name it at the new address, and no other is.
use Rattle.std.proofs.Common.{◌≡◌, ℕ, zero, suc, ◌<◌, List, true, false, ◌&&◌, arith, ap, sym, ◌∙◌, refl, subst, cond, inl, inr}
use Rattle.std.specs.Prelude.{◌==◌}
use Rattle.std.proofs.lemmas.Bool.{cases_eq, cases_Bool, eq-eqb, ne_eqb, eqb-true, cond-true, cond-false, and_parts, false≢true}
use Rattle.hd_dbd.specs.Types.{SegmentType}
use Rattle.hd_dbd.specs.Forest.{Forest}
use Rattle.hd_dbd.specs.Prefixes.{is_backward_kept}
use Rattle.hd_links.specs.Links.{Links, IsSegment, IsLinkGraph, is_child_type, is_last_kept}
use Rattle.hd_links.specs.Placed.{Placed, Holds}
use Rattle.hd_links.specs.Pointers.{PointsTo, IsTwinAfter, IsInChain, Precedes, AreLinked}
use Rattle.hd_links.specs.Changes.{Agree, replaced, with_bytes, CanUnlink, CanReplace}
use Rattle.hd_links.specs.Moves.{moved_to, moved_from, moved, moved_with, with_address, CanMove}
use Rattle.hd_links.proofs.Types.{Ordered}
use Rattle.hd_links.proofs.Build.{zero_or}
use Rattle.hd_links.proofs.Counts.{not_own}
use Rattle.hd_links.proofs.Sound.{are_linked}
use Rattle.hd_links.proofs.Touch.{all_three}
use Rattle.hd_links.proofs.Places.{first_named, twin_named}
use Rattle.hd_links.proofs.Ways.{chain_more}
use Rattle.hd_links.proofs.Faulty.{faulty}
use Rattle.hd_links.proofs.Ends.{one_end}
use Rattle.hd_links.proofs.Replacing.{bytes_held}
use Rattle.hd_links.proofs.Moving.{agrees, to_own, to_other, from_own, from_other, not_free, stayed, here_from, segment_from, graph, held}

-- ---- chains

-- the twin before the last of so many
twin_before : (m : Links) (n p a : ℕ) → IsTwinAfter m (suc n) p a → (w : ℕ) × IsTwinAfter m n p w × (m.forward w ≡ a)
twin_before m zero p a c = (p, (c.0, refl), c.1.1)
twin_before m (suc n) p a c = (let B = twin_before m n (m.forward p) a c.1 in (B.0, (c.0, B.1), B.2))

module _ (types : List SegmentType) (O : Ordered types) (m : Links) (L : AreLinked types m) where
  -- the segments of a chain are of its type
  chain_there : (n p t a : ℕ) → PointsTo m t p → IsTwinAfter m n p a → IsSegment m a × (m.code a ≡ t)
  chain_there zero p t a typed c = subst (λ x. IsSegment m x × (m.code x ≡ t)) c.1 (record { some = c.0; here = (typed c.0).0 }, (typed c.0).1)
  chain_there (suc n) p t a typed c =
      let own = typed c.0 in
      chain_there n (m.forward p) t a (subst (λ x. PointsTo m x (m.forward p)) own.1 (L.typed.forward p (record { some = c.0; here = own.0 }))) c.1

  -- a segment is in the chain of one parent only
  one_parent : (g h t : ℕ) → m.here g ≡ true → is_child_type types (m.code g) t ≡ true → m.here h ≡ true → is_child_type types (m.code h) t ≡ true
      → (n k a : ℕ) → IsTwinAfter m n (m.first_child g t) a → IsTwinAfter m k (m.first_child h t) a → g ≡ h
  one_parent g h t here_g child_g here_h child_h = along
    where
      there : (k a : ℕ) → IsTwinAfter m k (m.first_child h t) a → IsSegment m a
      there k a w = (chain_there k (m.first_child h t) t a (L.typed.first h t here_h child_h) w).0

      along : (n k a : ℕ) → IsTwinAfter m n (m.first_child g t) a → IsTwinAfter m k (m.first_child h t) a → g ≡ h
      along zero zero a v w =
          L.single.one a g h (there zero a w) (inr (t, record { holder = here_g; typed = child_g; names = v.1 })) (inr (t, record { holder = here_h; typed = child_h; names = w.1 }))
      along zero (suc k) a v w = absurd
          (let B = twin_before m k (m.first_child h t) a w in
          let T = chain_there k (m.first_child h t) t B.0 (L.typed.first h t here_h child_h) B.1 in
          let same : g ≡ B.0 = L.single.one a g B.0 (there (suc k) a w) (inr (t, record { holder = here_g; typed = child_g; names = v.1 })) (inl (record { holder = T.0; names = B.2 })) in
          not_own types O (m.code g) t child_g (sym T.1 ∙ ap m.code (sym same)))
      along (suc n) zero a v w = absurd
          (let B = twin_before m n (m.first_child g t) a v in
          let T = chain_there n (m.first_child g t) t B.0 (L.typed.first g t here_g child_g) B.1 in
          let same : h ≡ B.0 = L.single.one a h B.0 (there zero a w) (inr (t, record { holder = here_h; typed = child_h; names = w.1 })) (inl (record { holder = T.0; names = B.2 })) in
          not_own types O (m.code h) t child_h (sym T.1 ∙ ap m.code (sym same)))
      along (suc n) (suc k) a v w =
          let B = twin_before m n (m.first_child g t) a v in
          let D = twin_before m k (m.first_child h t) a w in
          let T = chain_there n (m.first_child g t) t B.0 (L.typed.first g t here_g child_g) B.1 in
          let U = chain_there k (m.first_child h t) t D.0 (L.typed.first h t here_h child_h) D.1 in
          let same : B.0 ≡ D.0 = L.single.one a B.0 D.0 (there (suc k) a w) (inl (record { holder = T.0; names = B.2 })) (inl (record { holder = U.0; names = D.2 })) in
          along n k D.0 (subst (IsTwinAfter m n (m.first_child g t)) same B.1) D.1

module _ (types : List SegmentType) (O : Ordered types) (bound : ℕ) (m : Links) (G : IsLinkGraph types bound m) (f : Forest Placed) (H : Holds types m f) (h y a b : ℕ)
    (C : CanUnlink types m h y a) (V : CanMove m a b) where
  L : AreLinked types m
  L = are_linked types O bound m G f H

  -- ---- what names a

  -- a parent names no segment of its own type
  pub no_parent : (l : ℕ) → m.code l ≡ m.code a → h ≡ l → ⊥
  no_parent l e q = not_own types O (m.code h) (m.code a) C.typed (sym e ∙ ap m.code (sym q))

  -- a is not its own twin
  pub no_ring : m.forward a ≡ a → ⊥
  no_ring e = (faulty types O bound m G).ring a 0 V.there (subst (λ x. 0 < x) (sym e) C.some, e) f H

  parent_before : y ≡ 0 → Precedes types m h a
  parent_before e = inr (m.code a, record { holder = C.parent; typed = C.typed; names = first_named types m h y a C e })

  y_there : 0 < y → IsSegment m y × (m.code y ≡ m.code a)
  y_there some = (let c = C.twin some in chain_there types O m L c.0 (m.first_child h (m.code a)) (m.code a) y (L.typed.first h (m.code a) C.parent C.typed) c.1)

  twin_before_a : 0 < y → Precedes types m y a
  twin_before_a some = inl (record { holder = (y_there some).0; names = twin_named types m h y a C some })

  a_chain : IsInChain m (m.first_child h (m.code a)) a
  a_chain = elim (zero_or y) [
    | inl e ↦ (0, (subst (λ x. 0 < x) (sym (first_named types m h y a C e)) C.some, first_named types m h y a C e))
    | inr some ↦
        (let c = C.twin some in
        let names : m.forward y ≡ a = twin_named types m h y a C some in (
          suc c.0,
          subst (IsTwinAfter m (suc c.0) (m.first_child h (m.code a))) names
              (chain_more m c.0 (m.first_child h (m.code a)) y c.1 (subst (λ x. 0 < x) (sym names) C.some)),
        ))
  ]

  -- by twin forward y alone names it
  forward_names : (z : ℕ) → IsSegment m z → m.forward z ≡ a → (z ≡ y) × (0 < y)
  forward_names z s e =
      let twin : Precedes types m z a = inl (record { holder = s; names = e }) in
      let code : m.code z ≡ m.code a = sym (L.typed.forward z s (subst (λ x. 0 < x) (sym e) C.some)).1 ∙ ap m.code e in
      elim (zero_or y) [
        | inl q ↦ absurd (no_parent z code (L.single.one a h z V.there (parent_before q) twin))
        | inr some ↦ (L.single.one a z y V.there twin (twin_before_a some), some)
      ]

  -- by twin backward the twin behind
  backward_names : (z : ℕ) → IsSegment m z → is_backward_kept types (m.code z) ≡ true → m.backward z ≡ a → m.forward a ≡ z
  backward_names z s kept e =
      let P = L.single.some z s in
      elim P.1 [
        | inl T ↦ ap m.forward (sym e ∙ L.back.twins z P.0 s kept T) ∙ T.names
        | inr F ↦ absurd (let none : a ≡ 0 = sym e ∙ L.back.firsts z P.0 F.0 s kept F.1 in let some : 0 < a = C.some in omega arith)
      ]

  -- by first child the parent, where a is the first
  first_names : (z t : ℕ) → m.here z ≡ true → is_child_type types (m.code z) t ≡ true → m.first_child z t ≡ a → (z ≡ h) × (t ≡ m.code a) × (y ≡ 0)
  first_names z t here child e =
      let code : m.code a ≡ t = ap m.code (sym e) ∙ (L.typed.first z t here child (subst (λ x. 0 < x) (sym e) C.some)).1 in
      let parent : Precedes types m z a = inr (t, record { holder = here; typed = child; names = e }) in
      elim (zero_or y) [
        | inl q ↦ (L.single.one a z h V.there parent (parent_before q), sym code, q)
        | inr some ↦ absurd
            (let same : z ≡ y = L.single.one a z y V.there parent (twin_before_a some) in
            not_own types O (m.code z) t child (sym code ∙ sym (y_there some).1 ∙ ap m.code (sym same)))
      ]

  -- by last child the parent, where a is the last
  last_names : (z t : ℕ) → m.here z ≡ true → is_child_type types (m.code z) t ≡ true → is_last_kept types t ≡ true → m.last_child z t ≡ a → (z ≡ h) × (t ≡ m.code a) × (m.forward a ≡ 0)
  last_names z t here child kept e = elim (zero_or (m.first_child z t)) [
    | inl q ↦ absurd (let none : a ≡ 0 = sym e ∙ L.back.no_lasts z t here child kept q in let some : 0 < a = C.some in omega arith)
    | inr some ↦
        (let E = L.back.lasts z t here child kept some in
        let chain : IsTwinAfter m E.0.0 (m.first_child z t) a = subst (IsTwinAfter m E.0.0 (m.first_child z t)) e E.0.1 in
        let code : m.code a ≡ t = (chain_there types O m L E.0.0 (m.first_child z t) t a (L.typed.first z t here child) chain).1 in (
          one_parent types O m L z h t here child C.parent (ap (is_child_type types (m.code h)) (sym code) ∙ C.typed) E.0.0 a_chain.0 a chain
              (subst (λ x. IsTwinAfter m a_chain.0 (m.first_child h x) a) code a_chain.1),
          sym code,
          ap m.forward (sym e) ∙ E.1,
        ))
  ]

  last_is : is_last_kept types (m.code a) ≡ true → m.forward a ≡ 0 → m.last_child h (m.code a) ≡ a
  last_is kept e =
      let E = L.back.lasts h (m.code a) C.parent C.typed kept (begins a_chain.0 (m.first_child h (m.code a)) a_chain.1) in
      one_end m a_chain.0 E.0.0 (m.first_child h (m.code a)) a (m.last_child h (m.code a)) a_chain.1 e E.0.1 E.1
    where
      begins : (n p : ℕ) → IsTwinAfter m n p a → 0 < p
      begins zero p w = w.0
      begins (suc n) p w = w.0

  -- ---- the four pointers afterwards

  forward_same : (x : ℕ) → IsSegment (moved m a b) x → cond (x == y) b (m.forward (moved_from a b x)) ≡ moved_to a b (m.forward (moved_from a b x))
  forward_same x s = elim (cases_eq x y) [
    | inl e ↦
        (let some : 0 < y = subst (λ z. 0 < z) e s.some in
        let from : moved_from a b x ≡ y = from_other a b x (λ q. not_free a b m V y (y_there some).0.here (sym e ∙ q)) ∙ e in
        cond-true (x == y) b (m.forward (moved_from a b x)) (eq-eqb x y e)
        ∙ sym (to_own a b (m.forward (moved_from a b x)) (ap m.forward from ∙ twin_named types m h y a C some)))
    | inr ne ↦ cond-false (x == y) b (m.forward (moved_from a b x)) (ne_eqb x y ne)
        ∙ sym (to_other a b (m.forward (moved_from a b x)) (λ e.
        let N = forward_names (moved_from a b x) (segment_from a b m V x s) e in
        elim (cases_eq x b) [
          | inl q ↦ (let own : a ≡ y = sym (from_own a b x q) ∙ N.0 in no_ring (ap m.forward own ∙ twin_named types m h y a C N.1))
          | inr q ↦ ne (sym (from_other a b x q) ∙ N.0)
        ]))
  ]

  backward_same : (x : ℕ) → IsSegment (moved m a b) x → is_backward_kept types (m.code (moved_from a b x)) ≡ true
      → cond (x == m.forward a) b (m.backward (moved_from a b x)) ≡ moved_to a b (m.backward (moved_from a b x))
  backward_same x s kept = elim (cases_eq x (m.forward a)) [
    | inl e ↦
        (let next = L.typed.forward a V.there (subst (λ z. 0 < z) e s.some) in
        let from : moved_from a b x ≡ x = from_other a b x (λ q. not_free a b m V (m.forward a) next.0 (sym e ∙ q)) in
        let names : m.backward (moved_from a b x) ≡ a = L.back.twins (moved_from a b x) a (segment_from a b m V x s) kept (record { holder = V.there; names = sym e ∙ sym from }) in
        cond-true (x == m.forward a) b (m.backward (moved_from a b x)) (eq-eqb x (m.forward a) e) ∙ sym (to_own a b (m.backward (moved_from a b x)) names))
    | inr ne ↦ cond-false (x == m.forward a) b (m.backward (moved_from a b x)) (ne_eqb x (m.forward a) ne)
        ∙ sym (to_other a b (m.backward (moved_from a b x)) (λ e.
        let next : m.forward a ≡ moved_from a b x = backward_names (moved_from a b x) (segment_from a b m V x s) kept e in
        elim (cases_eq x b) [
          | inl q ↦ no_ring (next ∙ from_own a b x q)
          | inr q ↦ ne (sym (from_other a b x q) ∙ sym next)
        ]))
  ]

  -- first and last child: a pointer z of x, to a child of type t, that is a where x is the parent, t the type of a and c 0, and only there
  child_same : (x t z c : ℕ) → (moved m a b).here x ≡ true → is_child_type types (m.code (moved_from a b x)) t ≡ true
      → (moved_from a b x ≡ h → t ≡ m.code a → c ≡ 0 → z ≡ a)
      → (z ≡ a → (moved_from a b x ≡ h) × (t ≡ m.code a) × (c ≡ 0))
      → cond (x == h && t == m.code a && c == 0) b z ≡ moved_to a b z
  child_same x t z c here child own only = elim (cases_Bool (x == h && t == m.code a && c == 0)) [
    | inl e ↦
        (let parts = and_parts (x == h && t == m.code a) (c == 0) e in
        let front = and_parts (x == h) (t == m.code a) parts.0 in
        let at : x ≡ h = eqb-true x h front.0 in
        let from : moved_from a b x ≡ h = from_other a b x (λ q. not_free a b m V h C.parent (sym at ∙ q)) ∙ at in
        cond-true (x == h && t == m.code a && c == 0) b z e ∙ sym (to_own a b z (own from (eqb-true t (m.code a) front.1) (eqb-true c 0 parts.1))))
    | inr e ↦ cond-false (x == h && t == m.code a && c == 0) b z e
        ∙ sym (to_other a b z (λ q.
        let N = only q in
        elim (cases_eq x b) [
          | inl w ↦ not_own types O (m.code (moved_from a b x)) t child (N.1 ∙ ap m.code (sym (from_own a b x w)))
          | inr w ↦ false≢true (sym e ∙ all_three (x == h) (t == m.code a) (c == 0) (eq-eqb x h (sym (from_other a b x w) ∙ N.0)) (eq-eqb t (m.code a) N.1) (eq-eqb c 0 N.2))
        ]))
  ]

  first_same : (x t : ℕ) → (moved m a b).here x ≡ true → is_child_type types (m.code (moved_from a b x)) t ≡ true
      → cond (x == h && t == m.code a && y == 0) b (m.first_child (moved_from a b x) t) ≡ moved_to a b (m.first_child (moved_from a b x) t)
  first_same x t here child = child_same x t (m.first_child (moved_from a b x) t) y here child
      (λ from code none. ap (λ g. m.first_child g t) from ∙ ap (m.first_child h) code ∙ first_named types m h y a C none)
      (first_names (moved_from a b x) t (here_from a b m V x here) child)

  last_same : (x t : ℕ) → (moved m a b).here x ≡ true → is_child_type types (m.code (moved_from a b x)) t ≡ true → is_last_kept types t ≡ true
      → cond (x == h && t == m.code a && m.forward a == 0) b (m.last_child (moved_from a b x) t) ≡ moved_to a b (m.last_child (moved_from a b x) t)
  last_same x t here child kept = child_same x t (m.last_child (moved_from a b x) t) (m.forward a) here child
      (λ from code none. ap (λ g. m.last_child g t) from ∙ ap (m.last_child h) code ∙ last_is (ap (is_last_kept types) (sym code) ∙ kept) none)
      (last_names (moved_from a b x) t (here_from a b m V x here) child kept)

  -- ---- the records, and what they hold

  module _ (bytes : List ℕ) (R : CanReplace types m a bytes) (m2 : Links) (A : Agree types (moved_with m h y a b bytes) m2) where
    bytes_same : (x : ℕ) → IsSegment (moved m a b) x → cond (x == b) bytes (m.bytes x) ≡ (replaced m a bytes).bytes (moved_from a b x)
    bytes_same x s = elim (cases_eq x b) [
      | inl e ↦ cond-true (x == b) bytes (m.bytes x) (eq-eqb x b e) ∙ sym (cond-true (moved_from a b x == a) bytes (m.bytes (moved_from a b x)) (eq-eqb (moved_from a b x) a (from_own a b x e)))
      | inr ne ↦ cond-false (x == b) bytes (m.bytes x) (ne_eqb x b ne)
          ∙ sym (cond-false (x == a) bytes (m.bytes x) (ne_eqb x a (stayed a b m V x s.here ne).1))
          ∙ ap (replaced m a bytes).bytes (sym (from_other a b x ne))
    ]

    -- they say what they do after the bytes were replaced and the segment moved then
    both_changes : Agree types (moved (replaced m a bytes) a b) m2
    both_changes x = record {
      here = (A x).here;
      code = (A x).code;
      bytes = λ s. (A x).bytes (record { some = s.some; here = s.here }) ∙ bytes_same x (record { some = s.some; here = s.here });
      delete_byte = λ s. (A x).delete_byte (record { some = s.some; here = s.here });
      forward = λ s. (A x).forward (record { some = s.some; here = s.here }) ∙ forward_same x (record { some = s.some; here = s.here });
      backward = λ s kept. (A x).backward (record { some = s.some; here = s.here }) kept ∙ backward_same x (record { some = s.some; here = s.here }) kept;
      first_child = λ t here child. (A x).first_child t here child ∙ first_same x t here child;
      last_child = λ t here child kept. (A x).last_child t here child kept ∙ last_same x t here child kept;
    }

    pub moved_held : b < bound → IsLinkGraph types bound m2 × Holds types m2 (with_address a b (with_bytes a bytes f))
    moved_held small =
        let with = bytes_held a bytes types m (replaced m a bytes) R (agrees types (replaced m a bytes)) O bound G f H in
        let can : CanMove (replaced m a bytes) a b = record { there = record { some = V.there.some; here = V.there.here }; some = V.some; free = V.free } in (
          graph a b (replaced m a bytes) can types m2 both_changes bound with.0 small,
          held a b (replaced m a bytes) can types m2 both_changes bound with.0 (with_bytes a bytes f) with.1,
        )
