-- Chains of twins, their owners, and what is reached, where pointers are typed and each segment has one predecessor.
use Rattle.std.proofs.Common.{◌≡◌, inl, inr, ℕ, zero, suc, ◌<◌, List, true, refl, sym, ap, subst, ◌∙◌, arith}
use Rattle.hd_dbd.specs.Types.{SegmentType}
use Rattle.hd_links.specs.Links.{Links, IsSegment, is_child_type}
use Rattle.hd_links.specs.Pointers.{PointersAreTyped, PredecessorsAreOne, IsTwinBefore, IsParentOfFirst, Precedes, IsTwinAfter, IsReached}
use Rattle.hd_check_pointers.specs.Tables.{IsOwner}

-- a chain begins at an address
pub chain-some : (m : Links) (n p a : ℕ) → IsTwinAfter m n p a → 0 < p
chain-some m zero p a h = h.0
chain-some m (suc n) p a h = h.0

-- behind its first twin it is a chain
pub chain-rest : (m : Links) (n p a : ℕ) → IsTwinAfter m (suc n) p a → IsTwinAfter m n (m.forward p) a
chain-rest m n p a h = h.1

-- it comes to the next twin
pub chain-on : (m : Links) (n p a : ℕ) → IsTwinAfter m n p a → 0 < m.forward a → IsTwinAfter m (suc n) p (m.forward a)
chain-on m zero p a h some = (h.0, (subst (λ (x : ℕ). 0 < m.forward x) (sym h.1) some, ap m.forward h.1))
chain-on m (suc n) p a h some = (h.0, chain-on m n (m.forward p) a (chain-rest m n p a h) some)

-- The twin before the one to which a chain comes.
pub record Before (m : Links) (n p a : ℕ) : Type 0 where
  pub twin : ℕ
  pub chain : IsTwinAfter m n p twin
  pub names : m.forward twin ≡ a

-- a chain of more than one twin comes to the one before
pub chain-before : (m : Links) (n p a : ℕ) → IsTwinAfter m (suc n) p a → Before m n p a
chain-before m zero p a h = record { twin = p; chain = (chain-some m 1 p a h, refl); names = (chain-rest m 0 p a h).1 }
chain-before m (suc n) p a h = (let r = chain-before m n (m.forward p) a (chain-rest m (suc n) p a h) in record { twin = r.twin; chain = (chain-some m (suc (suc n)) p a h, r.chain); names = r.names })

-- a predecessor is there
pub holder-here : (types : List SegmentType) (m : Links) (h a : ℕ) → Precedes types m h a → m.here h ≡ true
holder-here types m h a (inl b) = b.holder.here
holder-here types m h a (inr p) = p.1.holder

module _ (types : List SegmentType) (m : Links) (T : PointersAreTyped types m) where
  -- the next twin is a segment of the type
  pub next-there : (a : ℕ) → IsSegment m a → 0 < m.forward a → IsSegment m (m.forward a) × (m.code (m.forward a) ≡ m.code a)
  next-there a s some = (let p = T.forward a s some in (record { some = some; here = p.0 }, p.1))

  -- a chain from a segment comes to segments of its type
  pub chain-there : (n p a t : ℕ) → IsSegment m p → m.code p ≡ t → IsTwinAfter m n p a → IsSegment m a × (m.code a ≡ t)
  chain-there zero p a t s c h = (subst (IsSegment m) h.1 s, ap m.code (sym h.1) ∙ c)
  chain-there (suc n) p a t s c h =
      let r = chain-rest m n p a h in
      let next = next-there p s (chain-some m n (m.forward p) a r) in
      chain-there n (m.forward p) a t next.0 (next.1 ∙ c) r

  -- the first child of a record is a segment of the type
  pub first-there : (h t : ℕ) → m.here h ≡ true → is_child_type types (m.code h) t ≡ true → 0 < m.first_child h t → IsSegment m (m.first_child h t) × (m.code (m.first_child h t) ≡ t)
  first-there h t here child some = (let p = T.first h t here child some in (record { some = some; here = p.0 }, p.1))

  -- and so are all twins behind it
  pub child-there : (h t n a : ℕ) → m.here h ≡ true → is_child_type types (m.code h) t ≡ true → IsTwinAfter m n (m.first_child h t) a → IsSegment m a × (m.code a ≡ t)
  child-there h t n a here child chain =
      let f = first-there h t here child (chain-some m n (m.first_child h t) a chain) in
      chain-there n (m.first_child h t) a t f.0 f.1 chain

  -- a segment with an owner
  pub owned-there : (h a : ℕ) (o : IsOwner types m h a) → IsSegment m a × (m.code a ≡ o.type_code)
  owned-there h a o = child-there h o.type_code o.chain.0 a o.holder o.typed o.chain.1

  -- a parent owns its first child
  pub owner-first : (h t a : ℕ) → 0 < a → IsParentOfFirst types m h t a → IsOwner types m h a
  owner-first h t a some p = record { holder = p.holder; type_code = t; typed = p.typed; chain = (0, (subst (λ (x : ℕ). 0 < x) (sym p.names) some, p.names)) }

  -- the owner of a segment owns the next twin
  pub owner-next : (h a : ℕ) → IsOwner types m h a → 0 < m.forward a → IsOwner types m h (m.forward a)
  owner-next h a o some = record {
    holder = o.holder;
    type_code = o.type_code;
    typed = o.typed;
    chain = (suc o.chain.0, chain-on m o.chain.0 (m.first_child h o.type_code) a o.chain.1 some);
  }

  -- twins of a segment that is reached are reached
  chain-reached : (n p a k : ℕ) → IsSegment m p → IsReached types m k p → IsTwinAfter m n p a → (j : ℕ) × IsReached types m j a
  chain-reached zero p a k s r h = (k, subst (IsReached types m k) h.1 r)
  chain-reached (suc n) p a k s r h =
      let rest = chain-rest m n p a h in
      let next = next-there p s (chain-some m n (m.forward p) a rest) in
      chain-reached n (m.forward p) a (suc k) next.0 (next.0, (p, r, inl (record { holder = s; names = refl }))) rest

  -- what has an owner that is reached is reached
  pub owned-reached : (h a k : ℕ) → IsOwner types m h a → IsReached types m k h → (j : ℕ) × IsReached types m j a
  owned-reached h a k o r =
      let f = first-there h o.type_code o.holder o.typed (chain-some m o.chain.0 (m.first_child h o.type_code) a o.chain.1) in
      chain-reached o.chain.0 (m.first_child h o.type_code) a (suc k) f.0
      (f.0, (h, r, inr (o.type_code, record { holder = o.holder; typed = o.typed; names = refl }))) o.chain.1

  -- what is reached has an owner
  pub reached-owned : (k a : ℕ) → IsSegment m a → IsReached types m k a → (h : ℕ) × IsOwner types m h a
  reached-owned zero a s r = absurd (let some = s.some in omega arith)
  reached-owned (suc k) a s r = elim r.1.2 [
    | inl twin ↦ (let up = reached-owned k r.1.0 twin.holder r.1.1 in (up.0, subst (IsOwner types m up.0) twin.names (owner-next up.0 r.1.0 up.1 (let e = twin.names in let some = s.some in omega arith))))
    | inr first ↦ (r.1.0, owner-first r.1.0 first.0 a s.some first.1)
  ]

  module _ (S : PredecessorsAreOne types m) where
    -- the record of a chain's first child is reached where a twin in the chain is
    chain-up : (n h t a k : ℕ) → m.here h ≡ true → is_child_type types (m.code h) t ≡ true → IsTwinAfter m n (m.first_child h t) a → IsReached types m k a → (j : ℕ) × IsReached types m j h
    chain-up n h t a zero here child chain r = absurd (let some = (child-there h t n a here child chain).0.some in omega arith)
    chain-up zero h t a (suc k) here child chain r =
        let same : r.1.0 ≡ h = S.one a r.1.0 h r.0 r.1.2 (inr (t, record { holder = here; typed = child; names = chain.1 })) in
        (k, subst (IsReached types m k) same r.1.1)
    chain-up (suc n) h t a (suc k) here child chain r =
        let b = chain-before m n (m.first_child h t) a chain in
        let twin = child-there h t n b.twin here child b.chain in
        let same : r.1.0 ≡ b.twin = S.one a r.1.0 b.twin r.0 r.1.2 (inl (record { holder = twin.0; names = b.names })) in
        chain-up n h t b.twin k here child b.chain (subst (IsReached types m k) same r.1.1)

    -- the owner of what is reached is reached
    pub owner-reached : (h a k : ℕ) → IsOwner types m h a → IsReached types m k a → (j : ℕ) × IsReached types m j h
    owner-reached h a k o r = chain-up o.chain.0 h o.type_code a k o.holder o.typed o.chain.1 r

    module _ (later : (c t : ℕ) → is_child_type types c t ≡ true → c < t) where
      -- the first of a chain has no twin before it
      no-twin : (h t a q : ℕ) → IsSegment m a → IsParentOfFirst types m h t a → IsTwinBefore m q a → ⊥
      no-twin h t a q s p b =
          let same : h ≡ q = S.one a h q s (inr (t, p)) (inl b) in
          let own : m.code a ≡ t = ap m.code (sym p.names) ∙ (first-there h t p.holder p.typed (let e = p.names in let some = s.some in omega arith)).1 in
          let twin : m.code a ≡ m.code q = ap m.code (sym b.names) ∙ (next-there q b.holder (let e = b.names in let some = s.some in omega arith)).1 in
          let less : m.code h < t = later (m.code h) t p.typed in
          let code : m.code h ≡ m.code q = ap m.code same in
          absurd (omega arith)

      -- two chains from first children that come to one segment are one record's
      chains-one : (k l g h t u a : ℕ) → m.here g ≡ true → is_child_type types (m.code g) t ≡ true → IsTwinAfter m k (m.first_child g t) a
          → m.here h ≡ true → is_child_type types (m.code h) u ≡ true → IsTwinAfter m l (m.first_child h u) a → g ≡ h
      chains-one zero zero g h t u a gh gc x hh hc y =
          S.one a g h (child-there g t zero a gh gc x).0 (inr (t, record { holder = gh; typed = gc; names = x.1 })) (inr (u, record { holder = hh; typed = hc; names = y.1 }))
      chains-one zero (suc l) g h t u a gh gc x hh hc y =
          let b = chain-before m l (m.first_child h u) a y in
          absurd (no-twin g t a b.twin (child-there g t zero a gh gc x).0 (record { holder = gh; typed = gc; names = x.1 }) (record { holder = (child-there h u l b.twin hh hc b.chain).0; names = b.names }))
      chains-one (suc k) zero g h t u a gh gc x hh hc y =
          let b = chain-before m k (m.first_child g t) a x in
          absurd (no-twin h u a b.twin (child-there h u zero a hh hc y).0 (record { holder = hh; typed = hc; names = y.1 }) (record { holder = (child-there g t k b.twin gh gc b.chain).0; names = b.names }))
      chains-one (suc k) (suc l) g h t u a gh gc x hh hc y =
          let b = chain-before m k (m.first_child g t) a x in
          let d = chain-before m l (m.first_child h u) a y in
          let same : d.twin ≡ b.twin = S.one a d.twin b.twin (child-there g t (suc k) a gh gc x).0
          (inl (record { holder = (child-there h u l d.twin hh hc d.chain).0; names = d.names })) (inl (record { holder = (child-there g t k b.twin gh gc b.chain).0; names = b.names })) in
          chains-one k l g h t u b.twin gh gc b.chain hh hc (subst (IsTwinAfter m l (m.first_child h u)) same d.chain)

      -- a segment has one owner
      pub owner-one : (g h a : ℕ) → IsOwner types m g a → IsOwner types m h a → g ≡ h
      owner-one g h a o p = chains-one o.chain.0 p.chain.0 g h o.type_code p.type_code a o.holder o.typed o.chain.1 p.holder p.typed p.chain.1

      -- a predecessor of the segment's own type is the twin before it
      pub twin-by : (h a : ℕ) → IsSegment m a → Precedes types m h a → m.code h ≡ m.code a → IsTwinBefore m h a
      twin-by h a s (inl b) e = b
      twin-by h a s (inr p) e =
          let own : m.code a ≡ p.0 = ap m.code (sym p.1.names) ∙ (first-there h p.0 p.1.holder p.1.typed (let n = p.1.names in let some = s.some in omega arith)).1 in
          let less : m.code h < p.0 = later (m.code h) p.0 p.1.typed in
          absurd (omega arith)

      -- a segment that a first child pointer names has no twin before it
      pub first-alone : (h t a q : ℕ) → IsSegment m a → IsParentOfFirst types m h t a → IsTwinBefore m q a → ⊥
      first-alone h t a q s p b = no-twin h t a q s p b
