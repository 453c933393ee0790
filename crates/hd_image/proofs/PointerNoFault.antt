-- Records that are linked have no fault of pointers, phase by phase.
use Rattle.std.proofs.Common.{◌≡◌, inl, inr, ℕ, List, [], ◌∷◌, ◌++◌, Bool, true, false, Option, Some, None, refl, sym, ap, subst, ◌∙◌, arith, ne_eqb}
use Rattle.std.specs.Prelude.{◌==◌, find, option_map}
use Rattle.std.proofs.lemmas.Bool.{cases_eq, cases_Bool, eq-eqb, cond-true, cond-false, false≢true}
use Rattle.hd_dbd.specs.Types.{SegmentType}
use Rattle.hd_dbd.specs.Prefixes.{is_backward_kept}
use Rattle.hd_links.specs.Links.{Links, IsSegment, child_types, is_child_type, is_last_kept}
use Rattle.hd_links.specs.Pointers.{PointsTo, PointersAreTyped, PredecessorsAreOne, TwinsLinkBack, KeysAscend, IsReached}
use Rattle.hd_links.proofs.Types.{is_in, in_head, in_tail}
use Rattle.hd_image.specs.PointerFaults.{Named, child_pointers, twin_pointers, pointers_of, names_none, names_another, IsDeleted, PointsNowhere, PointsToAnother, HasTwoPredecessors, HasNoPredecessor, IsWrongBackward, HasWrongLast, IsOutOfOrder, IsNotReached}

-- each of these pointers is 0 or names a segment of its type
abbrev pub AllPoint : Links → List Named → Type 0
AllPoint m [] = Unit {0}
AllPoint m (p ∷ ps) = PointsTo m p.type_code p.address × AllPoint m ps

-- the pointers of two lists
all-both : (m : Links) (ps qs : List Named) → AllPoint m ps → AllPoint m qs → AllPoint m (ps ++ qs)
all-both m [] qs h k = k
all-both m (p ∷ ps) qs h k = (h.0, all-both m ps qs h.1 k)

-- such a pointer does not name nothing
names-some : (m : Links) (p : Named) → PointsTo m p.type_code p.address → names_none m p ≡ false
names-some m p h = elim (cases_eq p.address 0) [
  | inl e ↦ rw (eq-eqb p.address 0 e) refl
  | inr ne ↦ (let there : m.here p.address ≡ true = (h (omega arith)).0 in rw (ne_eqb p.address 0 ne, there) refl)
]

-- nor a segment of another type
names-own : (m : Links) (p : Named) → PointsTo m p.type_code p.address → names_another m p ≡ false
names-own m p h = elim (cases_eq p.address 0) [
  | inl e ↦ rw (eq-eqb p.address 0 e) refl
  | inr ne ↦ (let both = h (omega arith) in rw (ne_eqb p.address 0 ne, both.0, eq-eqb (m.code p.address) p.type_code both.1) refl)
]

-- among them no pointer passes a test that none of them passes
find-none : (m : Links) (test : Named → Bool) (ps : List Named) → ((p : Named) → PointsTo m p.type_code p.address → test p ≡ false) → AllPoint m ps → find test ps ≡ None
find-none m test [] h a = refl
find-none m test (p ∷ ps) h a = rw (h p a.0) (find-none m test ps h a.1)

-- nothing was found, so nothing is named
not-found : (o : Option Named) (x : ℕ) → o ≡ None → option_map (λ p. p.address) o ≡ Some x → ⊥
not-found o x none some = (let e : None ≡ Some x = ap (λ q. option_map (λ (p : Named). p.address) q) (sym none) ∙ some in cc)

module _ (types : List SegmentType) (m : Links) (header : m.code 0 ≡ 0) (typed : PointersAreTyped types m) where
  -- the pointers to children are right
  children-point : (h : ℕ) (ts : List ℕ) → m.here h ≡ true → ((t : ℕ) → is_in ts t ≡ true → is_child_type types (m.code h) t ≡ true) → AllPoint m (child_pointers types m h ts)
  children-point h [] there own = tt
  children-point h (t ∷ ts) there own =
      let child : is_child_type types (m.code h) t ≡ true = own t (in_head t t ts refl) in
      let rest = children-point h ts there (λ u i. own u (in_tail t u ts i)) in (
        typed.first h t there child,
        elim (cases_Bool (is_last_kept types t)) [
          | inl kept ↦ subst (AllPoint m) (sym (cond-true (is_last_kept types t) _ _ kept)) (typed.last h t there child kept, rest)
          | inr not_kept ↦ subst (AllPoint m) (sym (cond-false (is_last_kept types t) _ _ not_kept)) rest
        ],
      )

  -- the pointers to twins are right
  twins-point : (a : ℕ) → IsSegment m a → AllPoint m (twin_pointers types m a)
  twins-point a s = (
    typed.forward a s,
    elim (cases_Bool (is_backward_kept types (m.code a))) [
      | inl kept ↦ subst (AllPoint m) (sym (cond-true (is_backward_kept types (m.code a)) _ _ kept)) (typed.backward a s kept, tt)
      | inr not_kept ↦ subst (AllPoint m) (sym (cond-false (is_backward_kept types (m.code a)) _ _ not_kept)) tt
    ],
  )

  -- all pointers of a record are right
  all-point : (h : ℕ) → m.here h ≡ true → AllPoint m (pointers_of types m h)
  all-point h there = elim (cases_eq h 0) [
    | inl e ↦ subst (AllPoint m) (sym (cond-true (h == 0) _ _ (eq-eqb h 0 e)))
        (children-point h (1 ∷ []) there
        (λ t i. (let head : m.code h ≡ 0 = ap m.code e ∙ header in subst (λ (c : ℕ). is_child_type types c t ≡ true) (sym head) i)))
    | inr ne ↦ subst (AllPoint m) (sym (cond-false (h == 0) _ _ (ne_eqb h 0 ne)))
        (all-both m (twin_pointers types m h) (child_pointers types m h (child_types types (m.code h))) (twins-point h (record { some = omega arith; here = there })) (children-point h (child_types types (m.code h)) there (λ t i. i)))
  ]

  -- no delete byte is set
  pub none-deleted : (a x : ℕ) → IsDeleted m a x → ⊥
  none-deleted a x h = (let z = typed.delete_byte a h.0 in let some = h.1 in absurd (omega arith))

  -- no pointer names no segment
  pub none-nowhere : (h x : ℕ) → PointsNowhere types m h x → ⊥
  none-nowhere h x f = not-found _ x (find-none m (λ p. names_none m p) (pointers_of types m h) (names-some m) (all-point h f.0)) f.1

  -- no pointer names a segment of another type
  pub none-another : (h x : ℕ) → PointsToAnother types m h x → ⊥
  none-another h x f = not-found _ x (find-none m (λ p. names_another m p) (pointers_of types m h) (names-own m) (all-point h f.0)) f.1

module _ (types : List SegmentType) (m : Links) (single : PredecessorsAreOne types m) where
  -- no segment has two predecessors
  pub none-twice : (a x : ℕ) → HasTwoPredecessors types m a x → ⊥
  none-twice a x h = (let e : h.0 ≡ x = single.one a h.0 x h.1 h.2 h.3 in let less = h.4 in absurd (omega arith))

  -- each segment has one
  pub none-without : (a x : ℕ) → HasNoPredecessor types m a x → ⊥
  none-without a x h = (let p = single.some a h.0 in h.1 p.0 p.1)

module _ (types : List SegmentType) (m : Links) (back : TwinsLinkBack types m) where
  -- no twin backward is wrong
  pub none-backward : (a x : ℕ) → IsWrongBackward types m a x → ⊥
  none-backward a x h = elim h.3 [
    | inl b ↦ b.2 (back.twins a b.0 h.0 h.1 b.1)
    | inr b ↦ b.3 (back.firsts a b.0 b.1 h.0 h.1 b.2)
  ]

  -- no last child is wrong
  pub none-last : (a x : ℕ) → HasWrongLast types m a x → ⊥
  none-last a x h = elim h.4 [
    | inl b ↦ b.1 (back.no_lasts a h.0 h.1 h.2 h.3 b.0)
    | inr b ↦ (let l = back.lasts a h.0 h.1 h.2 h.3 (let ne = b.0 in omega arith) in b.1 l.0 l.1)
  ]

-- no key is out of order
pub none-order : (types : List SegmentType) (m : Links) → KeysAscend types m → (a x : ℕ) → IsOutOfOrder types m a x → ⊥
none-order types m keys a x h = false≢true (sym h.2 ∙ keys a x h.0 h.1)

-- each segment is reached
pub none-unreached : (types : List SegmentType) (m : Links) → ((a : ℕ) → IsSegment m a → (n : ℕ) × IsReached types m n a) → (a x : ℕ) → IsNotReached types m a x → ⊥
none-unreached types m reached a x h = (let r = reached a h.0 in h.1 r.0 r.1)
