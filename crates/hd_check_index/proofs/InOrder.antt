-- Faults that are found in any order, and put in their own.
use Rattle.std.proofs.Common.{◌≡◌, ◌⊎◌, inl, inr, ℕ, zero, suc, ◌+◌, ◌<◌, ◌≤◌, List, [], ◌∷◌, ◌++◌, length, Bool, true, false, Option, Some, None, slice_index_or, drop, refl, sym, ap, subst, ◌∙◌, arith}
use Rattle.std.specs.Prelude.{◌==◌, ◌&&◌}
use Rattle.std.specs.List.{Contains}
use Rattle.std.specs.List.Sorted.{IsPermutation}
use Rattle.std.proofs.lemmas.Bool.{cases_Bool, cases_eq, eqb-true, eq-eqb}
use Rattle.std.proofs.lemmas.List.{append_assoc, append-nil, drop_all}
use Rattle.std.proofs.lemmas.List.Sorted.{Contains-permutation, IsPermutation-sym}
use Rattle.hd_dbd.specs.Hierarchy.{Database}
use Rattle.hd_volume.specs.Volumes.{VolumeState}
use Rattle.hd_image.specs.Standing.{Stands, phase_of, number_of, ComesBefore}
use Rattle.hd_image.specs.declared.line.Line.{Line}
use Rattle.hd_image.specs.declared.line.Line.TheVariants.{WrongNext, EntryOutOfOrder}
use Rattle.hd_check_blocks.specs.declared.fault.Fault.{Fault}
use Rattle.hd_check_blocks.specs.Listing.{IsListed, AllStand, ComesBeforeAll, FaultsAscend, AreStanding, faults_of}
use Rattle.hd_check_index.specs.Listed.{IsNotBehind, AreInOrder, repeats, unless_repeated, each_once, AreFound}

-- ---- the lines of the eleventh phase

pub eleventh-lines : (P : Line → Type 0) → P WrongNext → P EntryOutOfOrder → (k : Line) → phase_of k ≡ 11 → P k
eleventh-lines P a b WrongNext h = a
eleventh-lines P a b EntryOutOfOrder h = b
eleventh-lines P a b k h = absurd (omega arith)

-- a line's number at an address tells it
one-line : (k l : Line) (a b : ℕ) → phase_of k ≡ 11 → phase_of l ≡ 11 → number_of k a ≡ number_of l b → k ≡ l
one-line k l a b is of = eleventh-lines (λ x. number_of x a ≡ number_of l b → x ≡ l)
    (eleventh-lines (λ y. 15 ≡ number_of y b → WrongNext ≡ y) (λ e. refl) (λ e. absurd (omega arith)) l of)
    (eleventh-lines (λ y. 16 ≡ number_of y b → EntryOutOfOrder ≡ y) (λ e. absurd (omega arith)) (λ e. refl) l of) k is

-- ---- two lists

-- what is in the first is in both together
pub listed-front : (l : Line) (a : ℕ) (fs gs : List Fault) → IsListed l a fs → IsListed l a (fs ++ gs)
listed-front l a [] gs i = absurd i
listed-front l a (f ∷ fs) gs (inl e) = inl e
listed-front l a (f ∷ fs) gs (inr i) = inr (listed-front l a fs gs i)

-- and so is what is in the second
pub listed-back : (l : Line) (a : ℕ) (fs gs : List Fault) → IsListed l a gs → IsListed l a (fs ++ gs)
listed-back l a [] gs i = i
listed-back l a (f ∷ fs) gs i = inr (listed-back l a fs gs i)

-- both stand
pub stand-both : (d : Database) (v : VolumeState) (phase : ℕ) (fs gs : List Fault) → AllStand d v phase fs → AllStand d v phase gs → AllStand d v phase (fs ++ gs)
stand-both d v phase [] gs s t = t
stand-both d v phase (f ∷ fs) gs s t = (s.0, s.1, stand-both d v phase fs gs s.2 t)

-- ---- faults side by side

-- each is not behind the next
abbrev IsUp : Fault → List Fault → Type 0
IsUp f [] = Unit {0}
IsUp f (g ∷ gs) = IsNotBehind f g × IsUp g gs

up-of : (f : Fault) (fs : List Fault) → AreInOrder (f ∷ fs) → IsUp f fs
up-of f [] h = tt
up-of f (g ∷ gs) h = (
  h 0 f (omega arith),
  up-of g gs (λ i d l. subst (λ (j : ℕ). IsNotBehind (slice_index_or (g ∷ gs) i d) (slice_index_or (f ∷ g ∷ gs) j d)) (let e : suc i + 1 ≡ suc (i + 1) = omega arith in e) (h (suc i) d (omega arith))),
)

-- of one address and number
abbrev IsOneWith : Fault → Fault → Type 0
IsOneWith f g = (f.address ≡ g.address) × (number_of f.line f.address ≡ number_of g.line g.address)

repeated : (f g : Fault) → repeats (Some f) g ≡ true → IsOneWith f g
repeated f g is = elim (cases_Bool (f.address == g.address)) [
  | inl same ↦ (eqb-true _ _ same, eqb-true _ _ (sym (ap (λ (b : Bool). b && (number_of f.line f.address == number_of g.line g.address)) same) ∙ is))
  | inr other ↦ (let no : false ≡ true = sym (ap (λ (b : Bool). b && (number_of f.line f.address == number_of g.line g.address)) other) ∙ is in cc)
]

repeats-one : (f g : Fault) → IsOneWith f g → repeats (Some f) g ≡ true
repeats-one f g one = ap (λ (b : Bool). b && (number_of f.line f.address == number_of g.line g.address)) (eq-eqb _ _ one.0) ∙ eq-eqb _ _ one.1

module _ (d : Database) (v : VolumeState) where
  -- where it is no repetition the one before comes before it
  before-next : (f g : Fault) → phase_of f.line ≡ 11 → phase_of g.line ≡ 11 → IsNotBehind f g → repeats (Some f) g ≡ false → ComesBefore f.line f.address g.line g.address
  before-next f g is of up other = inr (
    is ∙ sym of,
    elim up [
      | inl less ↦ inl less
      | inr e ↦ elim (cases_eq (number_of f.line f.address) (number_of g.line g.address)) [
        | inl same ↦ (let no : false ≡ true = sym other ∙ repeats-one f g (e.0, same) in cc)
        | inr ne ↦ inr (e.0, (let l = e.1 in omega arith))
      ]
    ],
  )

  -- what comes before one comes before those behind it
  further : (f g x : Fault) → ComesBefore f.line f.address g.line g.address → ComesBefore g.line g.address x.line x.address → ComesBefore f.line f.address x.line x.address
  further f g x (inl p) (inl q) = inl (omega arith)
  further f g x (inl p) (inr q) = (let e = q.0 in inl (omega arith))
  further f g x (inr p) (inl q) = (let e = p.0 in inl (omega arith))
  further f g x (inr (e, inl p)) (inr (i, inl q)) = inr (e ∙ i, inl (omega arith))
  further f g x (inr (e, inl p)) (inr (i, inr q)) = (let s = q.0 in inr (e ∙ i, inl (omega arith)))
  further f g x (inr (e, inr p)) (inr (i, inl q)) = (let s = p.0 in inr (e ∙ i, inl (omega arith)))
  further f g x (inr (e, inr p)) (inr (i, inr q)) = (let m = p.1 in let n = q.1 in inr (e ∙ i, inr (p.0 ∙ q.0, omega arith)))

  all-further : (f g : Fault) (xs : List Fault) → ComesBefore f.line f.address g.line g.address → ComesBeforeAll g xs → ComesBeforeAll f xs
  all-further f g [] h b = tt
  all-further f g (x ∷ xs) h b = (further f g x h b.0, all-further f g xs h b.1)

  -- and so does a fault of the same line and address
  all-same : (f g : Fault) (xs : List Fault) → f.line ≡ g.line → f.address ≡ g.address → ComesBeforeAll g xs → ComesBeforeAll f xs
  all-same f g [] e i b = tt
  all-same f g (x ∷ xs) e i b =
      (subst (λ (l : Line). ComesBefore l f.address x.line x.address) (sym e) (subst (λ (a : ℕ). ComesBefore g.line a x.line x.address) (sym i) b.0), all-same f g xs e i b.1)

  -- ---- each once

  -- What is left behind a fault of those in order comes behind it, stands, and is all of them.
  record IsOnce (f : Fault) (fs : List Fault) : Type 0 where
    before : ComesBeforeAll f (each_once (Some f) fs)
    ascend : FaultsAscend (each_once (Some f) fs)
    stand : AllStand d v 11 (each_once (Some f) fs)
    kept : (l : Line) (a : ℕ) → IsListed l a fs → ((f.line ≡ l) × (f.address ≡ a)) ⊎ IsListed l a (each_once (Some f) fs)

  once : (f : Fault) (fs : List Fault) → phase_of f.line ≡ 11 → IsUp f fs → AllStand d v 11 fs → IsOnce f fs
  once f [] of up s = record { before = tt; ascend = tt; stand = tt; kept = λ l a i. absurd i }
  once f (g ∷ gs) of up s = elim (cases_Bool (repeats (Some f) g)) [
    | inl is ↦
        (let one = repeated f g is in
        let line : f.line ≡ g.line = one-line f.line g.line f.address g.address of s.0 one.1 in
        let r = once g gs s.0 up.1 s.2 in
        let e : each_once (Some f) (g ∷ gs) ≡ each_once (Some g) gs = rw is refl in
        record {
          before = subst (ComesBeforeAll f) (sym e) (all-same f g (each_once (Some g) gs) line one.0 r.before);
          ascend = subst FaultsAscend (sym e) r.ascend;
          stand = subst (AllStand d v 11) (sym e) r.stand;
          kept = λ l a i. elim i [
            | inl own ↦ inl (line ∙ own.0, one.0 ∙ own.1)
            | inr far ↦ elim (r.kept l a far) [ inl own ↦ inl (line ∙ own.0, one.0 ∙ own.1) | inr j ↦ inr (subst (IsListed l a) (sym e) j) ]
          ];
        })
    | inr is ↦
        (let next = before-next f g of s.0 up.0 is in
        let r = once g gs s.0 up.1 s.2 in
        let e : each_once (Some f) (g ∷ gs) ≡ g ∷ each_once (Some g) gs = rw is refl in
        record {
          before = subst (ComesBeforeAll f) (sym e) (next, all-further f g (each_once (Some g) gs) next r.before);
          ascend = subst FaultsAscend (sym e) (r.before, r.ascend);
          stand = subst (AllStand d v 11) (sym e) (s.0, s.1, r.stand);
          kept = λ l a i. elim i [
            | inl own ↦ inr (subst (IsListed l a) (sym e) (inl own))
            | inr far ↦ inr (subst (IsListed l a) (sym e) (r.kept l a far))
          ];
        })
  ]

  -- faults in order, each once
  all-once : (fs : List Fault) → AreInOrder fs → AreFound d v 11 fs → AreStanding d v 11 (each_once None fs)
  all-once [] up h = record { stand = h.stand; all = h.all; ascend = tt }
  all-once (f ∷ fs) up h =
      let r = once f fs h.stand.0 (up-of f fs up) h.stand.2 in
      record {
        stand = (h.stand.0, h.stand.1, r.stand);
        all = λ l a o of s. elim (h.all l a o of s) [ inl own ↦ inl own | inr i ↦ r.kept l a i ];
        ascend = (r.before, r.ascend);
      }

  -- ---- in another order

  contains-listed : (l : Line) (a : ℕ) (fs : List Fault) → IsListed l a fs → (f : Fault) × Contains fs f × (f.line ≡ l) × (f.address ≡ a)
  contains-listed l a [] i = absurd i
  contains-listed l a (f ∷ fs) (inl own) = (f, (0, omega arith, refl), own.0, own.1)
  contains-listed l a (f ∷ fs) (inr i) = (let r = contains-listed l a fs i in let less = r.1.1 in (r.0, (suc r.1.0, omega arith, r.1.2), r.2, r.3))

  listed-contains : (fs : List Fault) (f : Fault) (i : ℕ) → i < length fs → slice_index_or fs i f ≡ f → IsListed f.line f.address fs
  listed-contains [] f i less e = absurd (omega arith)
  listed-contains (g ∷ fs) f zero less e = inl (ap (λ (x : Fault). x.line) e, ap (λ (x : Fault). x.address) e)
  listed-contains (g ∷ fs) f (suc i) less e = inr (listed-contains fs f i (omega arith) e)

  listed-moved : (l : Line) (a : ℕ) (xs ys : List Fault) → IsPermutation xs ys → IsListed l a xs → IsListed l a ys
  listed-moved l a xs ys p i =
      let r = contains-listed l a xs i in
      let c = Contains-permutation xs ys r.0 p r.1 in
      subst (λ (x : Line). IsListed x a ys) r.2 (subst (λ (x : ℕ). IsListed r.0.line x ys) r.3 (listed-contains ys r.0 c.0 c.1 c.2))

  -- each of some faults stands
  at-stands : (fs : List Fault) (f : Fault) (i : ℕ) → AllStand d v 11 fs → i < length fs → slice_index_or fs i f ≡ f → (phase_of f.line ≡ 11) × Stands d v f.line f.address f.other
  at-stands [] f i s less e = absurd (omega arith)
  at-stands (g ∷ fs) f zero s less e = subst (λ (x : Fault). (phase_of x.line ≡ 11) × Stands d v x.line x.address x.other) e (s.0, s.1)
  at-stands (g ∷ fs) f (suc i) s less e = at-stands fs f i s.2 (omega arith) e

  all-stand : (fs : List Fault) → ((f : Fault) → Contains fs f → (phase_of f.line ≡ 11) × Stands d v f.line f.address f.other) → AllStand d v 11 fs
  all-stand [] h = tt
  all-stand (f ∷ fs) h = ((h f (0, omega arith, refl)).0, (h f (0, omega arith, refl)).1, all-stand fs (λ g c. h g (suc c.0, (let l = c.1 in omega arith), c.2)))

  found-moved : (xs ys : List Fault) → IsPermutation xs ys → AreFound d v 11 xs → AreFound d v 11 ys
  found-moved xs ys p h = record {
    stand = all-stand ys (λ f c. (let r = Contains-permutation ys xs f (IsPermutation-sym xs ys p) c in at-stands xs f r.0 h.stand r.1 r.2));
    all = λ l a o of s. listed-moved l a xs ys p (h.all l a o of s);
  }

  -- what is found is put in order, each once
  pub put-in-order : (found sorted faults : List Fault) → IsPermutation found sorted → AreInOrder sorted → faults ≡ each_once None sorted → AreFound d v 11 found → AreStanding d v 11 faults
  put-in-order found sorted faults p up is h = subst (AreStanding d v 11) (sym is) (all-once sorted up (found-moved found sorted p h))

-- ---- one fault after another

-- a fault more is kept, or repeats the one before it
pub once-more : (fs : List Fault) (i : ℕ) (before : Option Fault) (old new : List Fault) (f : Fault) (found : Option Fault) → drop i fs ≡ f ∷ drop (i + 1) fs → found ≡ unless_repeated before f → new ≡ old ++ faults_of found
    → old ++ each_once before (drop i fs) ≡ each_once None fs → new ++ each_once (Some f) (drop (i + 1) fs) ≡ each_once None fs
once-more fs i before old new f found rest is more h =
    let tail : List Fault = each_once (Some f) (drop (i + 1) fs) in
    ap (λ (l : List Fault). l ++ tail) (more ∙ ap (λ (o : Option Fault). old ++ faults_of o) is)
    ∙ append_assoc old (faults_of (unless_repeated before f)) tail
    ∙ ap (λ (l : List Fault). old ++ each_once before l) (sym rest) ∙ h

-- behind the last there is none
pub once-end : (fs : List Fault) (i : ℕ) (before : Option Fault) (faults : List Fault) → length fs ≤ i → faults ++ each_once before (drop i fs) ≡ each_once None fs → faults ≡ each_once None fs
once-end fs i before faults end h = sym (append-nil faults) ∙ ap (λ (l : List Fault). faults ++ each_once before l) (sym (drop_all i fs end)) ∙ h
