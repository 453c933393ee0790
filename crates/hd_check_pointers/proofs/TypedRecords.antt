-- The third phase: records whose pointers are typed, and the first that is wrong.
use Rattle.std.proofs.Common.{◌≡◌, ◌≢◌, ◌⊎◌, inl, inr, ℕ, ◌<◌, List, [], ◌∷◌, ◌++◌, Bool, true, false, cond, Some, refl, sym, ap, subst, ◌∙◌, arith, ne_eqb}
use Rattle.std.specs.Prelude.{◌==◌, find, option_map}
use Rattle.std.proofs.lemmas.Bool.{cases_Bool, cases_eq, eq-eqb, cond-true, cond-false, false≢true}
use Rattle.hd_dbd.specs.Types.{SegmentType}
use Rattle.hd_dbd.specs.Hierarchy.{Database}
use Rattle.hd_dbd.specs.Prefixes.{is_backward_kept}
use Rattle.hd_volume.specs.Volumes.{VolumeState}
use Rattle.hd_links.specs.Links.{Links, child_types, is_last_kept}
use Rattle.hd_links.specs.Pointers.{PointsTo, PointersAreTyped}
use Rattle.hd_links.specs.Steps.{first_some}
use Rattle.hd_links.proofs.Types.{is_in, in_cases}
use Rattle.hd_image.specs.Records.{links_of}
use Rattle.hd_image.specs.PointerFaults.{Named, child_pointers, twin_pointers, pointers_of, names_none, names_another}
use Rattle.hd_image.specs.Standing.{Stands, phase_of, number_of, ComesBefore}
use Rattle.hd_image.specs.declared.line.Line.{Line}
use Rattle.hd_image.specs.declared.line.Line.TheVariants.{NoVolume, NoVersion, AnotherDatabase, WrongChain, WrongPlace, NoKind, Deleted, NamesNothing, NamesAnother, TwoPredecessors, NoPredecessor, WrongBackward, WrongLast, OutOfOrder, NotReached, WrongTop, WrongForm, NamedTwice, UnreachedBlock, WrongNext, EntryOutOfOrder, WrongEntry, NoEntry}
use Rattle.hd_check_blocks.specs.declared.fault.Fault.{Fault}
use Rattle.hd_check_blocks.specs.Phases.{IsLeastOf}
use Rattle.hd_check_pointers.specs.Judging.{first_wrong, wrong_among, IsRecordRight, IsWrongRecord}

-- ---- the first pointer that a test is true of

-- what a test of wrong pointers is true of is not 0
abbrev pub SkipsZero : (Named → Bool) → Type 0
SkipsZero test = (p : Named) → test p ≡ true → p.address ≢ 0

-- a pointer of 0 does not name nothing
pub none-skips : (m : Links) → SkipsZero (λ p. names_none m p)
none-skips m p h = λ z. false≢true (sym (let e : names_none m p ≡ false = rw (eq-eqb p.address 0 z) refl in e) ∙ h)

-- nor another type
pub another-skips : (m : Links) → SkipsZero (λ p. names_another m p)
another-skips m p h = λ z. false≢true (sym (let e : names_another m p ≡ false = rw (eq-eqb p.address 0 z) refl in e) ∙ h)

-- what is found first is the first wrong one
pub found-first : (test : Named → Bool) (ps : List Named) (x : ℕ) → SkipsZero test → option_map (λ p. p.address) (find test ps) ≡ Some x → (first_wrong test ps ≡ x) × (x ≢ 0)
found-first test [] x skips h = cc
found-first test (p ∷ ps) x skips h = elim (cases_Bool (test p)) [
  | inl is ↦
      (let here : p.address ≡ x = (let e : Some p.address ≡ Some x = rw is at h in cc) in
      let some : p.address ≢ 0 = skips p is in
      ((let e : first_wrong test (p ∷ ps) ≡ p.address = rw (is, ne_eqb p.address 0 some) refl in e) ∙ here, λ z. some (here ∙ z)))
  | inr isnt ↦
      (let rest = found-first test ps x skips (rw isnt at h) in
      ((let e : first_wrong test (p ∷ ps) ≡ first_wrong test ps = rw isnt refl in e) ∙ rest.0, rest.1))
]

-- and the first wrong one is found
pub first-found : (test : Named → Bool) (ps : List Named) → SkipsZero test → first_wrong test ps ≢ 0 → option_map (λ p. p.address) (find test ps) ≡ Some (first_wrong test ps)
first-found test [] skips some = absurd (some refl)
first-found test (p ∷ ps) skips some = elim (cases_Bool (test p)) [
  | inl is ↦ (let n : p.address ≢ 0 = skips p is in rw (is, ne_eqb p.address 0 n) refl)
  | inr isnt ↦
      (let same : first_wrong test (p ∷ ps) ≡ first_wrong test ps = rw isnt refl in
      (let e : option_map (λ q. q.address) (find test (p ∷ ps)) ≡ option_map (λ q. q.address) (find test ps) = rw isnt refl in e)
      ∙ first-found test ps skips (λ z. some (same ∙ z)) ∙ ap (λ (x : ℕ). Some x) (sym same))
]

-- ---- the positive side

-- the pointer is one of these
abbrev pub IsNamedIn : Named → List Named → Type 0
IsNamedIn p [] = ⊥
IsNamedIn p (q ∷ qs) = (p ≡ q) ⊎ IsNamedIn p qs

-- the first that is not 0 is 0 where both are
some-zero : (x y : ℕ) → first_some x y ≡ 0 → (x ≡ 0) × (y ≡ 0)
some-zero x y h = elim (cases_eq x 0) [
  | inl e ↦ (e, rw (eq-eqb x 0 e) at h)
  | inr ne ↦ absurd (ne (rw (ne_eqb x 0 ne) at h))
]

-- where no pointer is wrong, none of them is
none-wrong : (test : Named → Bool) (ps : List Named) (p : Named) → SkipsZero test → first_wrong test ps ≡ 0 → IsNamedIn p ps → test p ≡ false
none-wrong test [] p skips h i = absurd i
none-wrong test (q ∷ qs) p skips h (inl e) = elim (cases_Bool (test q)) [
  | inl is ↦ absurd (skips q is (let both = some-zero (cond (test q) q.address 0) (first_wrong test qs) h in (let x : q.address ≡ 0 = rw is at both.0 in x)))
  | inr isnt ↦ ap test e ∙ isnt
]
none-wrong test (q ∷ qs) p skips h (inr i) = none-wrong test qs p skips (some-zero (cond (test q) q.address 0) (first_wrong test qs) h).1 i

-- each pointer of a right record is of its type
points : (types : List SegmentType) (m : Links) (h : ℕ) (p : Named) → IsRecordRight types m h → IsNamedIn p (pointers_of types m h) → PointsTo m p.type_code p.address
points types m h p r i some =
    let none = none-wrong (λ q. names_none m q) (pointers_of types m h) p (none-skips m) (ap (λ w. w.nowhere) r.pointers) i in
    let another = none-wrong (λ q. names_another m q) (pointers_of types m h) p (another-skips m) (ap (λ w. w.another) r.pointers) i in
    let here : m.here p.address ≡ true = elim (cases_Bool (m.here p.address)) [
      | inl there ↦ there
      | inr absent ↦ absurd (false≢true (sym none ∙ (let e : names_none m p ≡ true = rw (ne_eqb p.address 0 (λ z. omega arith), absent) refl in e)))
    ] in (
      here,
      elim (cases_eq (m.code p.address) p.type_code) [
        | inl e ↦ e
        | inr ne ↦ absurd (false≢true (sym another ∙ (let e : names_another m p ≡ true = rw (ne_eqb p.address 0 (λ z. omega arith), here, ne_eqb (m.code p.address) p.type_code ne) refl in e)))
      ],
    )

-- what is in the second list is in both
in-back : (p : Named) (ps qs : List Named) → IsNamedIn p qs → IsNamedIn p (ps ++ qs)
in-back p [] qs i = i
in-back p (x ∷ ps) qs i = inr (in-back p ps qs i)

-- and so is what is in the first
in-front : (p : Named) (ps qs : List Named) → IsNamedIn p ps → IsNamedIn p (ps ++ qs)
in-front p [] qs i = absurd i
in-front p (x ∷ ps) qs (inl e) = inl e
in-front p (x ∷ ps) qs (inr i) = inr (in-front p ps qs i)

-- the first child of a child type is among the pointers
first-in : (types : List SegmentType) (m : Links) (h t : ℕ) (ts : List ℕ) → is_in ts t ≡ true → IsNamedIn (record { address = m.first_child h t; type_code = t }) (child_pointers types m h ts)
first-in types m h t [] i = absurd (false≢true i)
first-in types m h t (u ∷ us) i = elim (in_cases u t us i) [
  | inl e ↦ inl (ap (λ (x : ℕ). record { address = m.first_child h x; type_code = x }) (sym e))
  | inr later ↦ inr (elim (cases_Bool (is_last_kept types u)) [
    | inl kept ↦ subst (IsNamedIn _) (sym (cond-true (is_last_kept types u) (record { address = m.last_child h u; type_code = u } ∷ child_pointers types m h us) (child_pointers types m h us) kept)) (inr (first-in types m h t us later))
    | inr not_kept ↦ subst (IsNamedIn _) (sym (cond-false (is_last_kept types u) (record { address = m.last_child h u; type_code = u } ∷ child_pointers types m h us) (child_pointers types m h us) not_kept)) (first-in types m h t us later)
  ])
]

-- and so is the last child, where it is kept
last-in : (types : List SegmentType) (m : Links) (h t : ℕ) (ts : List ℕ) → is_in ts t ≡ true → is_last_kept types t ≡ true → IsNamedIn (record { address = m.last_child h t; type_code = t }) (child_pointers types m h ts)
last-in types m h t [] i k = absurd (false≢true i)
last-in types m h t (u ∷ us) i k = elim (in_cases u t us i) [
  | inl e ↦ inr (subst (IsNamedIn _) (sym (cond-true (is_last_kept types u) (record { address = m.last_child h u; type_code = u } ∷ child_pointers types m h us) (child_pointers types m h us) (ap (is_last_kept types) e ∙ k)))
      (inl (ap (λ (x : ℕ). record { address = m.last_child h x; type_code = x }) (sym e))))
  | inr later ↦ inr (elim (cases_Bool (is_last_kept types u)) [
    | inl kept ↦ subst (IsNamedIn _) (sym (cond-true (is_last_kept types u) (record { address = m.last_child h u; type_code = u } ∷ child_pointers types m h us) (child_pointers types m h us) kept)) (inr (last-in types m h t us later k))
    | inr not_kept ↦ subst (IsNamedIn _) (sym (cond-false (is_last_kept types u) (record { address = m.last_child h u; type_code = u } ∷ child_pointers types m h us) (child_pointers types m h us) not_kept)) (last-in types m h t us later k)
  ])
]

module _ (types : List SegmentType) (m : Links) (zero-code : m.code 0 ≡ 0) (right : (h : ℕ) → m.here h ≡ true → IsRecordRight types m h) where
  -- a record's pointers to children are among its pointers
  children-in : (h : ℕ) (p : Named) → IsNamedIn p (child_pointers types m h (child_types types (m.code h))) → IsNamedIn p (pointers_of types m h)
  children-in h p i = elim (cases_eq h 0) [
    | inl e ↦
        (let root : child_types types (m.code h) ≡ 1 ∷ [] = ap (λ (x : ℕ). child_types types (m.code x)) e ∙ ap (child_types types) zero-code in
        subst (IsNamedIn p) (sym (cond-true (h == 0) (child_pointers types m h (1 ∷ [])) (twin_pointers types m h ++ child_pointers types m h (child_types types (m.code h))) (eq-eqb h 0 e)))
        (subst (λ (ts : List ℕ). IsNamedIn p (child_pointers types m h ts)) root i))
    | inr ne ↦ subst (IsNamedIn p) (sym (cond-false (h == 0) (child_pointers types m h (1 ∷ [])) (twin_pointers types m h ++ child_pointers types m h (child_types types (m.code h))) (ne_eqb h 0 ne)))
        (in-back p (twin_pointers types m h) (child_pointers types m h (child_types types (m.code h))) i)
  ]

  -- a segment's pointers to twins are among its pointers
  twins-in : (a : ℕ) (p : Named) → 0 < a → IsNamedIn p (twin_pointers types m a) → IsNamedIn p (pointers_of types m a)
  twins-in a p some i = subst (IsNamedIn p) (sym (cond-false (a == 0) (child_pointers types m a (1 ∷ [])) (twin_pointers types m a ++ child_pointers types m a (child_types types (m.code a))) (ne_eqb a 0 (λ z. omega arith))))
      (in-front p (twin_pointers types m a) (child_pointers types m a (child_types types (m.code a))) i)

  -- records that are right are typed
  pub typed : PointersAreTyped types m
  typed = record {
    delete_byte = λ a s. (right a s.here).delete_byte (λ z. (let some = s.some in omega arith));
    forward = λ a s. points types m a (record { address = m.forward a; type_code = m.code a }) (right a s.here) (twins-in a _ s.some (inl refl));
    backward = λ a s kept. points types m a (record { address = m.backward a; type_code = m.code a }) (right a s.here)
        (twins-in a _ s.some (inr (subst (IsNamedIn _) (sym (cond-true (is_backward_kept types (m.code a)) (record { address = m.backward a; type_code = m.code a } ∷ []) [] kept)) (inl refl))));
    first = λ a t there child. points types m a (record { address = m.first_child a t; type_code = t }) (right a there) (children-in a _ (first-in types m a t (child_types types (m.code a)) child));
    last = λ a t there child kept. points types m a (record { address = m.last_child a t; type_code = t }) (right a there) (children-in a _ (last-in types m a t (child_types types (m.code a)) child kept));
  }

-- ---- the negative side

-- a line of the third phase
pub third-lines : (P : Line → Type 0) → P Deleted → P NamesNothing → P NamesAnother → (k : Line) → phase_of k ≡ 3 → P k
third-lines P a b c NoVolume h = absurd (omega arith)
third-lines P a b c NoVersion h = absurd (omega arith)
third-lines P a b c AnotherDatabase h = absurd (omega arith)
third-lines P a b c WrongChain h = absurd (omega arith)
third-lines P a b c WrongPlace h = absurd (omega arith)
third-lines P a b c NoKind h = absurd (omega arith)
third-lines P a b c Deleted h = a
third-lines P a b c NamesNothing h = b
third-lines P a b c NamesAnother h = c
third-lines P a b c TwoPredecessors h = absurd (omega arith)
third-lines P a b c NoPredecessor h = absurd (omega arith)
third-lines P a b c WrongBackward h = absurd (omega arith)
third-lines P a b c WrongLast h = absurd (omega arith)
third-lines P a b c OutOfOrder h = absurd (omega arith)
third-lines P a b c NotReached h = absurd (omega arith)
third-lines P a b c WrongTop h = absurd (omega arith)
third-lines P a b c WrongForm h = absurd (omega arith)
third-lines P a b c NamedTwice h = absurd (omega arith)
third-lines P a b c UnreachedBlock h = absurd (omega arith)
third-lines P a b c WrongNext h = absurd (omega arith)
third-lines P a b c EntryOutOfOrder h = absurd (omega arith)
third-lines P a b c WrongEntry h = absurd (omega arith)
third-lines P a b c NoEntry h = absurd (omega arith)

-- What a line of the third phase says of a record: it is there, and its delete byte is set, or a pointer of it is wrong.
abbrev pub IsWrongAs : List SegmentType → Links → Line → ℕ → Type 0
IsWrongAs types m k a =
    ((number_of k a ≡ 6) × (a ≢ 0) × (m.delete_byte a ≢ 0))
    ⊎ (((number_of k a ≡ 7) × ((wrong_among m (pointers_of types m a)).nowhere ≢ 0))
    ⊎ ((number_of k a ≡ 8) × ((wrong_among m (pointers_of types m a)).another ≢ 0)))

-- what stands in the third phase says that a record is wrong
wrong-as : (d : Database) (v : VolumeState) (k : Line) (a o : ℕ) → phase_of k ≡ 3 → Stands d v k a o → ((links_of d.types v).here a ≡ true) × IsWrongAs d.types (links_of d.types v) k a
wrong-as d v k a o three = third-lines (λ x. Stands d v x a o → ((links_of d.types v).here a ≡ true) × IsWrongAs d.types (links_of d.types v) x a)
    (λ s. (s.0.here, inl (refl, λ z. (let some = s.0.some in omega arith), λ z. (let some = s.1 in omega arith))))
    (λ s. (s.0, inr (inl (refl, λ z. (let f = found-first (λ p. names_none (links_of d.types v) p) (pointers_of d.types (links_of d.types v) a) o (none-skips (links_of d.types v)) s.1 in f.1 (sym f.0 ∙ z))))))
    (λ s. (s.0, inr (inr (refl, λ z. (let f = found-first (λ p. names_another (links_of d.types v) p) (pointers_of d.types (links_of d.types v) a) o (another-skips (links_of d.types v)) s.1 in f.1 (sym f.0 ∙ z))))))
    k three

-- a right record is not wrong
right-not-wrong : (types : List SegmentType) (m : Links) (k : Line) (a : ℕ) → IsRecordRight types m a → IsWrongAs types m k a → ⊥
right-not-wrong types m k a r (inl w) = w.2 (r.delete_byte w.1)
right-not-wrong types m k a r (inr (inl w)) = w.1 (ap (λ x. x.nowhere) r.pointers)
right-not-wrong types m k a r (inr (inr w)) = w.1 (ap (λ x. x.another) r.pointers)

-- what comes before a fault at h stands before h, or at h with a lesser number
pub before-it : (k l : Line) (a h : ℕ) → phase_of k ≡ phase_of l → ComesBefore k a l h → (a < h) ⊎ ((a ≡ h) × (number_of k a < number_of l h))
before-it k l a h same (inl p) = absurd (omega arith)
before-it k l a h same (inr (p, inl less)) = inl less
before-it k l a h same (inr (p, inr both)) = inr both

module _ (d : Database) (v : VolumeState) (h : ℕ) (there : (links_of d.types v).here h ≡ true) (earlier : (a : ℕ) → a < h → (links_of d.types v).here a ≡ true → IsRecordRight d.types (links_of d.types v) a) where
  -- nothing of the phase comes before a fault at h if nothing of a lesser number is wrong there
  nothing-before : (l : Line) → phase_of l ≡ 3 → ((k : Line) → number_of k h < number_of l h → IsWrongAs d.types (links_of d.types v) k h → ⊥)
      → (k : Line) (a o : ℕ) → phase_of k ≡ 3 → Stands d v k a o → ComesBefore k a l h → ⊥
  nothing-before l three none k a o is stands before =
      let w = wrong-as d v k a o is stands in
      elim (before-it k l a h (is ∙ sym three) before) [
        | inl less ↦ right-not-wrong d.types (links_of d.types v) k a (earlier a less w.0) w.1
        | inr both ↦ none k (let n = both.1 in let e : number_of k a ≡ number_of k h = ap (number_of k) both.0 in omega arith) (subst (IsWrongAs d.types (links_of d.types v) k) both.0 w.1)
      ]

  -- what is wrong with the first wrong record is the least fault
  pub wrong-least : (f : Fault) → IsWrongRecord d.types (links_of d.types v) h f → IsLeastOf d v 3 f
  wrong-least f (inl w) =
      subst (IsLeastOf d v 3) (sym w.0) (record {
        of = refl;
        stands = (record { some = (let some = w.1 in omega arith); here = there }, (let some = w.2 in omega arith), refl);
        least = nothing-before Deleted refl (λ k less x. elim x [ inl y ↦ (let n = y.0 in omega arith) | inr (inl y) ↦ (let n = y.0 in omega arith) | inr (inr y) ↦ (let n = y.0 in omega arith) ]);
      })
  wrong-least f (inr (inl w)) =
      subst (IsLeastOf d v 3) (sym w.0) (record {
        of = refl;
        stands = (there, first-found (λ p. names_none (links_of d.types v) p) (pointers_of d.types (links_of d.types v) h) (none-skips (links_of d.types v)) w.2);
        least = nothing-before NamesNothing refl (λ k less x. elim x [ inl y ↦ y.2 (w.1 y.1) | inr (inl y) ↦ (let n = y.0 in omega arith) | inr (inr y) ↦ (let n = y.0 in omega arith) ]);
      })
  wrong-least f (inr (inr w)) =
      subst (IsLeastOf d v 3) (sym w.0) (record {
        of = refl;
        stands = (there, first-found (λ p. names_another (links_of d.types v) p) (pointers_of d.types (links_of d.types v) h) (another-skips (links_of d.types v)) w.3);
        least = nothing-before NamesAnother refl (λ k less x. elim x [ inl y ↦ y.2 (w.1 y.1) | inr (inl y) ↦ y.1 w.2 | inr (inr y) ↦ (let n = y.0 in omega arith) ]);
      })
