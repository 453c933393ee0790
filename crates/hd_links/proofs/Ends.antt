-- Each chain of twins from a first child ends.
use Rattle.std.proofs.Common.{◌≡◌, ℕ, zero, suc, ◌+◌, ◌<◌, ◌≤◌, List, true, arith, ap, sym, ◌∙◌, refl, subst, cond, inl, inr}
use Rattle.std.specs.Prelude.{◌==◌}
use Rattle.std.proofs.lemmas.Bool.{cases_eq, cases_order, eq-eqb, ne_eqb, cond-true, cond-false}
use Rattle.hd_dbd.specs.Types.{SegmentType}
use Rattle.hd_links.specs.Links.{Links, IsSegment, IsLinkGraph, is_child_type}
use Rattle.hd_links.specs.Pointers.{PointersAreTyped, PredecessorsAreOne, IsTwinAfter, IsInChain}
use Rattle.hd_links.proofs.Types.{Ordered}
use Rattle.hd_links.proofs.Build.{zero_or}
use Rattle.hd_links.proofs.Counts.{not_own}

-- more different numbers than there are below a bound do not fit
pub pigeon : (n k : ℕ) (f : ℕ → ℕ) → ((i : ℕ) → i < k → f i < n) → ((i j : ℕ) → i < k → j < k → f i ≡ f j → i ≡ j) → k ≤ n
pigeon n zero f small one = omega arith
pigeon zero (suc k) f small one = absurd (let q : f 0 < 0 = small 0 (omega arith) in omega arith)
pigeon (suc n) (suc k) f small one = (let i : k ≤ n = pigeon n k g g_small g_one in omega arith)
  where
    g : ℕ → ℕ
    g i = cond (f i == n) (f k) (f i)

    g_at : (i : ℕ) → f i ≡ n → g i ≡ f k
    g_at i e = cond-true _ _ _ (eq-eqb (f i) n e)

    g_not : (i : ℕ) → (f i ≡ n → ⊥) → g i ≡ f i
    g_not i e = cond-false _ _ _ (ne_eqb (f i) n e)

    g_small : (i : ℕ) → i < k → g i < n
    g_small i l = elim (cases_eq (f i) n) [
      | inl e ↦ (let q : g i ≡ f k = g_at i e in let s : f k < suc n = small k (omega arith) in
          elim (cases_eq (f k) n) [
            | inl w ↦ absurd (let z : i ≡ k = one i k (omega arith) (omega arith) (e ∙ sym w) in omega arith)
            | inr w ↦ elim (cases_order (f k) n) [ inl v ↦ absurd (w v) | inr v ↦ elim v [ inl u ↦ omega arith | inr u ↦ omega arith ] ]
          ])
      | inr ne ↦ (let q : g i ≡ f i = g_not i ne in let s : f i < suc n = small i (omega arith) in
          elim (cases_order (f i) n) [ inl v ↦ absurd (ne v) | inr v ↦ elim v [ inl u ↦ omega arith | inr u ↦ omega arith ] ])
    ]

    g_one : (i j : ℕ) → i < k → j < k → g i ≡ g j → i ≡ j
    g_one i j li lj e = elim (cases_eq (f i) n) [
      | inl ei ↦ elim (cases_eq (f j) n) [
        | inl ej ↦ one i j (omega arith) (omega arith) (ei ∙ sym ej)
        | inr ej ↦ absurd (let z : k ≡ j = one k j (omega arith) (omega arith) (sym (g_at i ei) ∙ e ∙ g_not j ej) in omega arith)
      ]
      | inr ei ↦ elim (cases_eq (f j) n) [
        | inl ej ↦ absurd (let z : i ≡ k = one i k (omega arith) (omega arith) (sym (g_not i ei) ∙ e ∙ g_at j ej) in omega arith)
        | inr ej ↦ one i j (omega arith) (omega arith) (sym (g_not i ei) ∙ e ∙ g_not j ej)
      ]
    ]

-- the segment after so many twins
abbrev along : Links → ℕ → ℕ → ℕ
along m p zero = p
along m p (suc n) = m.forward (along m p n)

along_front : (m : Links) (p j : ℕ) → along m (m.forward p) j ≡ m.forward (along m p j)
along_front m p zero = refl
along_front m p (suc j) = ap m.forward (along_front m p j)

twin_at : (m : Links) (p j : ℕ) → ((i : ℕ) → i ≤ j → 0 < along m p i) → IsTwinAfter m j p (along m p j)
twin_at m p zero h = (h 0 (omega arith), refl)
twin_at m p (suc j) h = (
  h 0 (omega arith),
  subst (IsTwinAfter m j (m.forward p)) (along_front m p j)
      (twin_at m (m.forward p) j (λ i l. subst (λ x. 0 < x) (sym (along_front m p i)) (h (suc i) (omega arith)))),
)

-- a chain has one end
pub one_end : (m : Links) (n k p l a : ℕ) → IsTwinAfter m n p l → m.forward l ≡ 0 → IsTwinAfter m k p a → m.forward a ≡ 0 → a ≡ l
one_end m zero zero p l a v e w f = sym w.1 ∙ v.1
one_end m zero (suc k) p l a v e w f = absurd (goes k w.1 (ap m.forward v.1 ∙ e))
  where
    goes : (k : ℕ) → IsTwinAfter m k (m.forward p) a → m.forward p ≡ 0 → ⊥
    goes zero w z = (let some : 0 < m.forward p = w.0 in omega arith)
    goes (suc k) w z = (let some : 0 < m.forward p = w.0 in omega arith)
one_end m (suc n) zero p l a v e w f = absurd (goes n v.1 (ap m.forward w.1 ∙ f))
  where
    goes : (n : ℕ) → IsTwinAfter m n (m.forward p) l → m.forward p ≡ 0 → ⊥
    goes zero v z = (let some : 0 < m.forward p = v.0 in omega arith)
    goes (suc n) v z = (let some : 0 < m.forward p = v.0 in omega arith)
one_end m (suc n) (suc k) p l a v e w f = one_end m n k (m.forward p) l a v.1 e w.1 f

module _ (types : List SegmentType) (O : Ordered types) (bound : ℕ) (m : Links) (G : IsLinkGraph types bound m) (typed : PointersAreTyped types m) (single : PredecessorsAreOne types m)
    (h t : ℕ) (here : m.here h ≡ true) (child : is_child_type types (m.code h) t ≡ true) (some : 0 < m.first_child h t) where
  first_there : IsSegment m (m.first_child h t)
  first_there = record { some = some; here = (typed.first h t here child some).0 }

  -- no twin is before the first
  none_before : (g : ℕ) → IsSegment m g → m.forward g ≡ m.first_child h t → ⊥
  none_before g s e =
      let same : g ≡ h = single.one (m.first_child h t) g h first_there (inl (record { holder = s; names = e })) (inr (t, record { holder = here; typed = child; names = refl })) in
      let first_code : m.code (m.first_child h t) ≡ t = (typed.first h t here child some).1 in
      let twin_code : m.code (m.forward g) ≡ m.code g = (typed.forward g s (subst (λ x. 0 < x) (sym e) some)).1 in
      not_own types O (m.code h) t child (sym first_code ∙ ap m.code (sym e) ∙ twin_code ∙ ap m.code same)

  apart : (i j : ℕ) → i < j → ((x : ℕ) → x ≤ j → IsSegment m (along m (m.first_child h t) x)) → along m (m.first_child h t) i ≡ along m (m.first_child h t) j → ⊥
  apart zero zero l s e = omega arith
  apart zero (suc j) l s e = none_before (along m (m.first_child h t) j) (s j (omega arith)) (sym e)
  apart (suc i) zero l s e = omega arith
  apart (suc i) (suc j) l s e =
      apart i j (omega arith) (λ x q. s x (omega arith))
      (single.one (along m (m.first_child h t) (suc i)) (along m (m.first_child h t) i) (along m (m.first_child h t) j) (s (suc i) (omega arith))
      (inl (record { holder = s i (omega arith); names = refl })) (inl (record { holder = s j (omega arith); names = sym e })))

  go : (fuel j : ℕ) → j + fuel ≡ bound → ((x : ℕ) → x ≤ j → IsSegment m (along m (m.first_child h t) x))
      → (n : ℕ) × (l : ℕ) × (n < bound) × IsTwinAfter m n (m.first_child h t) l × (m.forward l ≡ 0)
  go zero j e s = absurd
      (let q : suc bound ≤ bound = pigeon bound (suc bound) (along m (m.first_child h t)) (λ i l. G.below (along m (m.first_child h t) i) (s i (omega arith)))
      (λ i k li lk w. elim (cases_order i k) [
        | inl v ↦ v
        | inr v ↦ elim v [
          | inl u ↦ absurd (apart i k u (λ x y. s x (omega arith)) w)
          | inr u ↦ absurd (apart k i u (λ x y. s x (omega arith)) (sym w))
        ]
      ]) in omega arith)
  go (suc fuel) j e s = elim (zero_or (m.forward (along m (m.first_child h t) j))) [
    | inl z ↦ (j, along m (m.first_child h t) j, omega arith, twin_at m (m.first_child h t) j (λ i l. (s i l).some), z)
    | inr l ↦ go fuel (suc j) (omega arith) (λ x q. elim (cases_eq x (suc j)) [
      | inl w ↦ subst (λ y. IsSegment m (along m (m.first_child h t) y)) (sym w) (record { some = l; here = (typed.forward (along m (m.first_child h t) j) (s j (omega arith)) l).0 })
      | inr w ↦ s x (omega arith)
    ])
  ]

  -- the chain ends within as many twins as there are addresses
  end_found : (n : ℕ) × (l : ℕ) × (n < bound) × IsTwinAfter m n (m.first_child h t) l × (m.forward l ≡ 0)
  end_found = go bound 0 (omega arith) (λ x q. (let e : x ≡ 0 = omega arith in subst (λ y. IsSegment m (along m (m.first_child h t) y)) (sym e) first_there))

  -- with one segment
  pub chain_ends : (n : ℕ) × (l : ℕ) × (n < bound) × IsTwinAfter m n (m.first_child h t) l × (m.forward l ≡ 0) × ((a : ℕ) → IsInChain m (m.first_child h t) a → m.forward a ≡ 0 → a ≡ l)
  chain_ends = (let E = end_found in (E.0, E.1, E.2, E.3, E.4, λ a c e. one_end m E.0 c.0 (m.first_child h t) E.1 a E.3 E.4 c.1 e))
