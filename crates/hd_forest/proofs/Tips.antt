-- Where the last row of a path stands.
use Rattle.std.proofs.Common.{◌≡◌, ℕ, zero, suc, ◌-◌, ◌<◌, ◌≤◌, List, [], ◌∷◌, length, take, true, sym, ap, subst, ◌∙◌, arith, inl, inr}
use Rattle.std.specs.Prelude.{◌==◌}
use Rattle.std.proofs.lemmas.Bool.{eq-eqb, ne_eqb, cond-true, cond-false}
use Rattle.hd_dbd.specs.Types.{SegmentType}
use Rattle.hd_links.specs.Links.{Links, IsSegment, IsLinkGraph, is_child_type, is_last_kept}
use Rattle.hd_links.specs.Pointers.{IsTwinAfter, IsInChain, PointersAreTyped, AreLinked}
use Rattle.hd_links.specs.Steps.{tip_from, LeadsDown}
use Rattle.hd_links.specs.Changes.{CanUnlink}
use Rattle.hd_links.proofs.Types.{Ordered}
use Rattle.hd_links.proofs.Build.{zero_or}
use Rattle.hd_links.proofs.Ends.{chain_ends}
use Rattle.hd_forest.specs.Twins.{AreTwins, twin_after, IsTwinWithin, IsBehind}
use Rattle.hd_forest.proofs.Chains.{twin-some, after-is}

-- the twins of a typed segment are segments of its type
pub twins-there : (types : List SegmentType) (m : Links) → PointersAreTyped types m → (t n p a : ℕ) → IsSegment m p → m.code p ≡ t → IsTwinAfter m n p a → IsSegment m a × (m.code a ≡ t)
twins-there types m typed t zero p a s c w = (subst (IsSegment m) w.1 s, ap m.code (sym w.1) ∙ c)
twins-there types m typed t (suc n) p a s c w =
    let some : 0 < m.forward p = twin-some m n (m.forward p) a w.1 in
    let T = typed.forward p s some in
    twins-there types m typed t n (m.forward p) a (record { some = some; here = T.0 }) (T.1 ∙ c) w.1

-- and all on the way are segments
are-twins : (types : List SegmentType) (m : Links) → PointersAreTyped types m → (n p a : ℕ) → IsSegment m p → IsTwinAfter m n p a → AreTwins m n p
are-twins types m typed zero p a s w = tt
are-twins types m typed (suc n) p a s w =
    let some : 0 < m.forward p = twin-some m n (m.forward p) a w.1 in
    (s, are-twins types m typed n (m.forward p) a (record { some = some; here = (typed.forward p s some).0 }) w.1)

-- the chain from a segment comes to 0 one step behind its last twin
behind-last : (types : List SegmentType) (m : Links) → PointersAreTyped types m → (n p l : ℕ) → IsSegment m p → IsTwinAfter m n p l → m.forward l ≡ 0 → (twin_after m (suc n) p ≡ 0) × AreTwins m (suc n) p
behind-last types m typed zero p l s w e = (ap m.forward w.1 ∙ e, (s, tt))
behind-last types m typed (suc n) p l s w e =
    let some : 0 < m.forward p = twin-some m n (m.forward p) l w.1 in
    let rest = behind-last types m typed n (m.forward p) l (record { some = some; here = (typed.forward p s some).0 }) w.1 e in
    (rest.0, (s, rest.1))

-- none comes behind the end of a chain
pub before-end : (m : Links) (n k p l a : ℕ) → IsTwinAfter m n p l → m.forward l ≡ 0 → IsTwinAfter m k p a → k ≤ n
before-end m n zero p l a v e w = omega arith
before-end m zero (suc k) p l a v e w =
    let none : m.forward p ≡ 0 = ap m.forward v.1 ∙ e in
    let some : 0 < m.forward p = twin-some m k (m.forward p) a w.1 in absurd (omega arith)
before-end m (suc n) (suc k) p l a v e w = (let le : k ≤ n = before-end m n k (m.forward p) l a v.1 e w.1 in omega arith)

-- The row at a is one of the twins below h.
pub record IsBelow (types : List SegmentType) (m : Links) (h a : ℕ) : Type 0 where
  pub parent : m.here h ≡ true
  pub there : IsSegment m a
  pub typed : is_child_type types (m.code h) (m.code a) ≡ true
  pub chain : IsInChain m (m.first_child h (m.code a)) a

-- the address before the last on a path from h down
abbrev pub above_tip : ℕ → List ℕ → ℕ
above_tip h path = tip_from h (take (length path - 1) path)

-- a row in the chain of a child type stands below its parent
pub below-chain : (types : List SegmentType) (m : Links) → PointersAreTyped types m → (h a : ℕ) → m.here h ≡ true → is_child_type types (m.code h) (m.code a) ≡ true
    → IsInChain m (m.first_child h (m.code a)) a → IsBelow types m h a
below-chain types m typed h a here child chain =
    let some : 0 < m.first_child h (m.code a) = twin-some m chain.0 (m.first_child h (m.code a)) a chain.1 in
    let T = typed.first h (m.code a) here child some in
    record {
      parent = here;
      there = (twins-there types m typed (m.code a) chain.0 (m.first_child h (m.code a)) a (record { some = some; here = T.0 }) T.1 chain.1).0;
      typed = child;
      chain = chain;
    }

-- the last row of a path that leads down stands below the one before it
pub tip-below : (types : List SegmentType) (m : Links) → PointersAreTyped types m → (h : ℕ) (path : List ℕ) → m.here h ≡ true → 0 < length path → LeadsDown types m h path
    → IsBelow types m (above_tip h path) (tip_from h path)
tip-below types m typed h [] here some down = absurd (omega arith)
tip-below types m typed h (a ∷ []) here some down = below-chain types m typed h a here down.0 down.1
tip-below types m typed h (a ∷ (b ∷ path)) here some down =
    let own = below-chain types m typed h a here down.0 down.1 in
    let e : length (a ∷ (b ∷ path)) - 1 ≡ suc (length (b ∷ path) - 1) = omega arith in
    subst (λ n. IsBelow types m (tip_from h (take n (a ∷ (b ∷ path)))) (tip_from a (b ∷ path))) (sym e)
    (tip-below types m typed a (b ∷ path) own.there.here (omega arith) down.2)

module _ (types : List SegmentType) (O : Ordered types) (bound : ℕ) (m : Links) (G : IsLinkGraph types bound m) (L : AreLinked types m) (h a : ℕ) (B : IsBelow types m h a) where
  -- the chain has a first twin
  some : 0 < m.first_child h (m.code a)
  some = twin-some m B.chain.0 (m.first_child h (m.code a)) a B.chain.1

  -- it is within as many twins from the first as there are addresses
  pub within : IsTwinWithin m bound (m.first_child h (m.code a)) a
  within =
      let T = L.typed.first h (m.code a) B.parent B.typed some in
      let E = chain_ends types O bound m G L.typed L.single h (m.code a) B.parent B.typed some in
      let le : B.chain.0 ≤ E.0 = before-end m E.0 B.chain.0 (m.first_child h (m.code a)) E.1 a E.3 E.4 B.chain.1 in
      let low : E.0 < bound = E.2 in
      record {
        after = B.chain.0;
        few = omega arith;
        is = after-is m B.chain.0 (m.first_child h (m.code a)) a B.chain.1;
        twins = are-twins types m L.typed B.chain.0 (m.first_child h (m.code a)) a (record { some = some; here = T.0 }) B.chain.1;
      }

  -- behind the twin that was found, or as the first, it can be unlinked
  pub unlinks : (y : ℕ) → IsBehind m (m.first_child h (m.code a)) y a → CanUnlink types m h y a
  unlinks y (inl e) = record {
    parent = B.parent;
    typed = B.typed;
    some = B.there.some;
    twin = λ p. absurd (let z : y ≡ 0 = e.0 in omega arith);
    here = cond-true (y == 0) (m.first_child h (m.code a)) (m.forward y) (eq-eqb y 0 e.0) ∙ e.1;
  }
  unlinks y (inr b) = record {
    parent = B.parent;
    typed = B.typed;
    some = B.there.some;
    twin = λ p. b.1;
    here = cond-false (y == 0) (m.first_child h (m.code a)) (m.forward y) (ne_eqb y 0 (λ (e : y ≡ 0). (let p : 0 < y = b.0 in omega arith))) ∙ b.2;
  }

-- ---- the last twin

-- what is in a chain has an address
in-chain-some : (m : Links) (n p a : ℕ) → IsTwinAfter m n p a → 0 < a
in-chain-some m zero p a w = subst (λ x. 0 < x) w.1 w.0
in-chain-some m (suc n) p a w = in-chain-some m n (m.forward p) a w.1

module _ (types : List SegmentType) (O : Ordered types) (bound : ℕ) (m : Links) (G : IsLinkGraph types bound m) (L : AreLinked types m) (h t : ℕ) (here : m.here h ≡ true) (typed : is_child_type types (m.code h) t ≡ true) where
  -- the end of the chain is within as many steps from the first twin as there are addresses
  pub end-within : IsTwinWithin m bound (m.first_child h t) 0
  end-within = elim (zero_or (m.first_child h t)) [
    | inl none ↦ record { after = 0; few = omega arith; is = none; twins = tt }
    | inr some ↦
        (let E = chain_ends types O bound m G L.typed L.single h t here typed some in
        let B = behind-last types m L.typed E.0 (m.first_child h t) E.1 (record { some = some; here = (L.typed.first h t here typed some).0 }) E.3 E.4 in
        let low : E.0 < bound = E.2 in
        record { after = suc E.0; few = omega arith; is = B.0; twins = B.1 })
  ]

  -- last child, where it is kept, is the last of the chain
  pub last-kept : is_last_kept types t ≡ true → IsBehind m (m.first_child h t) (m.last_child h t) 0
  last-kept kept = elim (zero_or (m.first_child h t)) [
    | inl none ↦ inl (L.back.no_lasts h t here typed kept none, none)
    | inr some ↦
        (let E = L.back.lasts h t here typed kept some in
        inr (in-chain-some m E.0.0 (m.first_child h t) (m.last_child h t) E.0.1, E.0, E.1))
  ]
