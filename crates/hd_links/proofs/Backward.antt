-- The twin before a segment, by twin backward, and the last of a chain, by last child.
use Rattle.std.proofs.Common.{◌≡◌, ℕ, zero, suc, ◌<◌, List, true, arith, ap, sym, ◌∙◌, refl, subst, inl, inr}
use Rattle.std.specs.Prelude.{◌==◌, ◌⊎◌}
use Rattle.std.proofs.lemmas.Bool.{eq-eqb, ne_eqb, cond-true, cond-false}
use Rattle.hd_dbd.specs.Types.{SegmentType}
use Rattle.hd_links.specs.Links.{Links, IsSegment, is_child_type, is_last_kept}
use Rattle.hd_dbd.specs.Prefixes.{is_backward_kept}
use Rattle.hd_links.specs.Pointers.{IsTwinAfter, IsInChain, AreLinked}
use Rattle.hd_links.specs.Changes.{twin_behind, CanUnlink}
use Rattle.hd_links.proofs.Build.{zero_or}
use Rattle.hd_links.proofs.Types.{Ordered}

module _ (types : List SegmentType) (O : Ordered types) (m : Links) (L : AreLinked types m) (h t : ℕ) (here : m.here h ≡ true) (typed : is_child_type types (m.code h) t ≡ true) where
  -- the twin before in the chain
  record Before (a : ℕ) : Type 0 where
    twin : ℕ
    there : IsSegment m twin
    code : m.code twin ≡ t
    chain : IsInChain m (m.first_child h t) twin
    names : m.forward twin ≡ a

  start : (p : ℕ) → 0 < p → m.first_child h t ≡ p → (IsSegment m p) × (m.code p ≡ t)
  start p some e =
      let T = L.typed.first h t here typed (subst (λ x. 0 < x) (sym e) some) in
      (record { some = some; here = ap m.here (sym e) ∙ T.0 }, ap m.code (sym e) ∙ T.1)

  -- along the chain, from a twin that is so many after the first
  along : (n p a : ℕ) → IsSegment m p → m.code p ≡ t → IsInChain m (m.first_child h t) p → IsTwinAfter m (suc n) p a → Before a
  along zero p a s c chain w = record { twin = p; there = s; code = c; chain = chain; names = w.1.1 }
  along (suc n) p a s c chain w =
      let some : 0 < m.forward p = w.1.0 in
      let T = L.typed.forward p s some in
      along n (m.forward p) a (record { some = some; here = T.0 }) (T.1 ∙ c) (suc chain.0, more chain.0 (m.first_child h t) chain.1 some) w.1
    where
      more : (k q : ℕ) → IsTwinAfter m k q p → 0 < m.forward p → IsTwinAfter m (suc k) q (m.forward p)
      more zero q w some = (w.0, (subst (λ x. 0 < m.forward x) (sym w.1) some, ap m.forward w.1))
      more (suc k) q w some = (w.0, more k (m.forward q) w.1 some)

  -- it is the first, or has one before it
  before : (a : ℕ) → IsInChain m (m.first_child h t) a → (m.first_child h t ≡ a) ⊎ Before a
  before a c = by_count c.0 c.1
    where
      by_count : (n : ℕ) → IsTwinAfter m n (m.first_child h t) a → (m.first_child h t ≡ a) ⊎ Before a
      by_count zero w = inl w.1
      by_count (suc n) w =
          let S = start (m.first_child h t) w.0 refl in
          inr (along n (m.first_child h t) a S.0 S.1 (0, (w.0, refl)) w)

  pub found : (a : ℕ) → m.code a ≡ t → IsInChain m (m.first_child h t) a → is_backward_kept types t ≡ true → CanUnlink types m h (m.backward a) a
  found a code c kept = elim (before a c) [
    | inl e ↦
        (let S = start a (some_of c.0 (m.first_child h t) c.1) e in
        let zero_back : m.backward a ≡ 0 = L.back.firsts a h t S.0 (ap (is_backward_kept types) code ∙ kept) (record { holder = here; typed = typed; names = e }) in
        record {
          parent = here;
          typed = ap (is_child_type types (m.code h)) code ∙ typed;
          some = S.0.some;
          twin = λ p. absurd (omega arith);
          here = cond-true (m.backward a == 0) (m.first_child h (m.code a)) (m.forward (m.backward a)) (eq-eqb (m.backward a) 0 zero_back) ∙ ap (m.first_child h) code ∙ e;
        })
    | inr B ↦
        (let some : 0 < a = some_of c.0 (m.first_child h t) c.1 in
        let T = L.typed.forward B.twin B.there (subst (λ x. 0 < x) (sym B.names) some) in
        let there : IsSegment m a = record { some = some; here = ap m.here (sym B.names) ∙ T.0 } in
        let is : m.backward a ≡ B.twin = L.back.twins a B.twin there (ap (is_backward_kept types) code ∙ kept) (record { holder = B.there; names = B.names }) in
        let back_some : 0 < m.backward a = subst (λ x. 0 < x) (sym is) B.there.some in
        record {
          parent = here;
          typed = ap (is_child_type types (m.code h)) code ∙ typed;
          some = some;
          twin = λ p. subst (λ x. IsInChain m (m.first_child h x) (m.backward a)) (sym code) (subst (IsInChain m (m.first_child h t)) (sym is) B.chain);
          here = cond-false (m.backward a == 0) (m.first_child h (m.code a)) (m.forward (m.backward a)) (ne_eqb (m.backward a) 0 (λ (e : m.backward a ≡ 0). omega arith)) ∙ ap m.forward is ∙ B.names;
        })
  ]
    where
      some_of : (n p : ℕ) → IsTwinAfter m n p a → 0 < a
      some_of zero p w = subst (λ x. 0 < x) w.1 w.0
      some_of (suc n) p w = some_of n (m.forward p) w.1

-- the last of the twins, by last child
pub last_found : (types : List SegmentType) (m : Links) → AreLinked types m → (h t : ℕ) → m.here h ≡ true → is_child_type types (m.code h) t ≡ true → is_last_kept types t ≡ true
    → (0 < m.last_child h t → IsInChain m (m.first_child h t) (m.last_child h t)) × (twin_behind m h t (m.last_child h t) ≡ 0)
last_found types m L h t here typed kept = elim (zero_or (m.first_child h t)) [
  | inl z ↦
      (let none : m.last_child h t ≡ 0 = L.back.no_lasts h t here typed kept z in
      (λ p. absurd (omega arith), cond-true (m.last_child h t == 0) (m.first_child h t) (m.forward (m.last_child h t)) (eq-eqb (m.last_child h t) 0 none) ∙ z))
  | inr p ↦
      (let E = L.back.lasts h t here typed kept p in
      let some : 0 < m.last_child h t = ends E.0.0 (m.first_child h t) E.0.1 in
      (λ q. E.0, cond-false (m.last_child h t == 0) (m.first_child h t) (m.forward (m.last_child h t)) (ne_eqb (m.last_child h t) 0 (λ (e : m.last_child h t ≡ 0). omega arith)) ∙ E.1))
]
  where
    ends : (n p : ℕ) → IsTwinAfter m n p (m.last_child h t) → 0 < m.last_child h t
    ends zero p w = subst (λ x. 0 < x) w.1 w.0
    ends (suc n) p w = ends n (m.forward p) w.1
