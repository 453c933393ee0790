-- The fifth phase: records whose twin backward and last children are right, and the first that is wrong.
use Rattle.std.proofs.Common.{◌≡◌, ◌⊎◌, inl, inr, ℕ, ◌<◌, List, length, true, Option, Some, None, IfNone, refl, sym, ap, subst, ◌∙◌, arith, ne_eqb}
use Rattle.std.specs.Prelude.{◌==◌}
use Rattle.std.proofs.lemmas.Bool.{cases_eq, cond-false}
use Rattle.hd_dbd.specs.Hierarchy.{Database}
use Rattle.hd_dbd.specs.Types.{SegmentType}
use Rattle.hd_volume.specs.Headers.{header_of}
use Rattle.hd_volume.specs.Volumes.{VolumeState}
use Rattle.hd_links.specs.Links.{Links, is_child_type}
use Rattle.hd_links.specs.Pointers.{TwinsLinkBack}
use Rattle.hd_image.specs.Records.{links_of}
use Rattle.hd_image.specs.PointerFaults.{IsWrongBackward, HasWrongLast, IsWrongLast}
use Rattle.hd_image.specs.Standing.{Stands, phase_of, number_of, ComesBefore}
use Rattle.hd_image.specs.declared.line.Line.{Line}
use Rattle.hd_image.specs.declared.line.Line.TheVariants.{WrongBackward, WrongLast}
use Rattle.hd_image.proofs.Roots.{header-code, header-child}
use Rattle.hd_check_blocks.specs.declared.places.Place.{Place}
use Rattle.hd_check_blocks.specs.declared.fault.Fault.{Fault}
use Rattle.hd_check_blocks.specs.Phases.{IsLeastOf}
use Rattle.hd_check_pointers.specs.Tables.{place_at}
use Rattle.hd_check_pointers.specs.Matched.{IsMatched}
use Rattle.hd_check_pointers.specs.Twins.{HasChildren, IsBackwardRight, IsLastRight, AreTwinsRight, AreTwinsWrong}
use Rattle.hd_check_pointers.proofs.PlaceNumbers.{stands, number-at, number-below}
use Rattle.hd_check_pointers.proofs.LastChildren.{right-not-wrong}

-- what holds of none holds where there is not some
pub not-some : {A : Type 0} {P : Type 0} (o : Option A) → ((x : A) → o ≡ Some x → ⊥) → IfNone o P → P
not-some None h p = p
not-some (Some x) h p = absurd (h x refl)

-- ---- one record

-- a segment whose twin backward is wrong
pub wrong-first : (types : List SegmentType) (m : Links) (a x : ℕ) (f : Fault) → f ≡ record { line = WrongBackward; address = a; other = x } → x ≡ m.backward a → IsWrongBackward types m a x → AreTwinsWrong types m a f
wrong-first types m a x f is own wrong =
    inl (is ∙ ap (λ (y : ℕ). record { line = WrongBackward; address = a; other = y }) own, subst (IsWrongBackward types m a) own wrong)

-- the number of a segment's wrong last child
last-number : (a : ℕ) → (a ≡ 0 → ⊥) → number_of WrongLast a ≡ 12
last-number a some = cond-false (a == 0) 20 12 (ne_eqb a 0 some)

-- a segment one of whose last children is wrong
pub wrong-then : (types : List SegmentType) (m : Links) (a x : ℕ) (f : Fault) → f ≡ record { line = WrongLast; address = a; other = x } → IsBackwardRight types m a → HasWrongLast types m a x
    → AreTwinsWrong types m a f
wrong-then types m a x f is right wrong = inr (x, is, λ s. right, wrong)

-- ---- the header

module _ (d : Database) (v : VolumeState) where
  -- first and last root are the header's children
  pub header-has : (first last : ℕ) → first ≡ (header_of v.image).first_root → last ≡ (header_of v.image).last_root → HasChildren d.types (links_of d.types v) 0 1 first last
  header-has first last f l = record {
    here = refl;
    child = ap (λ (c : ℕ). is_child_type d.types c 1) (header-code d.types v);
    kept = refl;
    first_is = f;
    last_is = l;
  }

  -- the header is right where its last root is
  pub header-right : IsLastRight (links_of d.types v) 0 1 → AreTwinsRight d.types (links_of d.types v) 0
  header-right right = record {
    backward = λ s. absurd (let some = s.some in omega arith);
    lasts = λ t child kept. subst (IsLastRight (links_of d.types v) 0) (sym (header-child d.types v t child)) right;
  }

  -- and wrong where it is wrong
  pub header-wrong : (x : ℕ) (f : Fault) → f ≡ record { line = WrongLast; address = 0; other = x } → x ≡ (header_of v.image).last_root → IsWrongLast (links_of d.types v) 0 1 → AreTwinsWrong d.types (links_of d.types v) 0 f
  header-wrong x f is last wrong = inr (
    x,
    is,
    λ s. absurd (let some = s.some in omega arith),
    (
      1,
      refl,
      ap (λ (c : ℕ). is_child_type d.types c 1) (header-code d.types v),
      refl,
      wrong,
      last,
      λ u less child kept w. absurd (let own = header-child d.types v u child in omega arith),
    ),
  )

-- ---- all records

module _ (d : Database) (v : VolumeState) where
  -- twins link back where each record is right
  pub link-back : ((a : ℕ) → (links_of d.types v).here a ≡ true → AreTwinsRight d.types (links_of d.types v) a) → TwinsLinkBack d.types (links_of d.types v)
  link-back right = record {
    twins = λ a h s kept b. ((right a s.here).backward s).twin h kept b;
    firsts = λ a h t s kept p. ((right a s.here).backward s).first h t kept p;
    lasts = λ h t here child kept some. ((right h here).lasts t child kept).some some;
    no_lasts = λ h t here child kept none. ((right h here).lasts t child kept).none none;
  }

  -- a record that is right has no wrong twin backward
  right-backward : (a o : ℕ) → AreTwinsRight d.types (links_of d.types v) a → IsWrongBackward d.types (links_of d.types v) a o → ⊥
  right-backward a o r w = elim w.3 [
    | inl b ↦ b.2 ((r.backward w.0).twin b.0 w.1 b.1)
    | inr b ↦ b.3 ((r.backward w.0).first b.0 b.1 w.1 b.2)
  ]

  -- and no wrong last child
  right-last : (a o : ℕ) → AreTwinsRight d.types (links_of d.types v) a → HasWrongLast d.types (links_of d.types v) a o → ⊥
  right-last a o r w = right-not-wrong (links_of d.types v) a w.0 (r.lasts w.0 w.2 w.3) w.4

  -- a line of the phase
  pub fifth-lines : (P : Line → Type 0) → P WrongBackward → P WrongLast → (k : Line) → phase_of k ≡ 5 → P k
  fifth-lines P a b WrongBackward h = a
  fifth-lines P a b WrongLast h = b
  fifth-lines P a b k h = absurd (omega arith)

  -- what stands in the phase stands at no record that is right
  pub right-none : (k : Line) (a o : ℕ) → phase_of k ≡ 5 → AreTwinsRight d.types (links_of d.types v) a → Stands d v k a o → ⊥
  right-none k a o five r = fifth-lines (λ x. Stands d v x a o → ⊥) (right-backward a o r) (right-last a o r) k five

  -- and at a record that is there
  pub there : (k : Line) (a o : ℕ) → phase_of k ≡ 5 → Stands d v k a o → (links_of d.types v).here a ≡ true
  there k a o five = fifth-lines (λ x. Stands d v x a o → (links_of d.types v).here a ≡ true) (λ w. w.0.here) (λ w. w.1) k five

  -- what comes before a fault at h stands before h, or at h with a lesser number
  before-it : (k l : Line) (a h : ℕ) → phase_of k ≡ phase_of l → ComesBefore k a l h → (a < h) ⊎ ((a ≡ h) × (number_of k a < number_of l h))
  before-it k l a h same (inl p) = absurd (omega arith)
  before-it k l a h same (inr (p, inl less)) = inl less
  before-it k l a h same (inr (p, inr both)) = inr both

  module _ (h : ℕ) (earlier : (a : ℕ) → a < h → (links_of d.types v).here a ≡ true → AreTwinsRight d.types (links_of d.types v) a) where
    -- nothing of the phase comes before a fault at h if nothing of a lesser number is wrong there
    nothing-before : (l : Line) → phase_of l ≡ 5 → ((k : Line) (o : ℕ) → phase_of k ≡ 5 → number_of k h < number_of l h → Stands d v k h o → ⊥)
        → (k : Line) (a o : ℕ) → phase_of k ≡ 5 → Stands d v k a o → ComesBefore k a l h → ⊥
    nothing-before l five none k a o is stands before = elim (before-it k l a h (is ∙ sym five) before) [
      | inl less ↦ right-none k a o is (earlier a less (there k a o is stands)) stands
      | inr both ↦ none k o is (let n = both.1 in let e : number_of k a ≡ number_of k h = ap (number_of k) both.0 in omega arith) (subst (λ (x : ℕ). Stands d v k x o) both.0 stands)
    ]

    -- what is wrong with the first wrong record is the least fault
    pub wrong-least : (f : Fault) → AreTwinsWrong d.types (links_of d.types v) h f → IsLeastOf d v 5 f
    wrong-least f (inl w) =
        subst (IsLeastOf d v 5) (sym w.0) (record {
          of = refl;
          stands = w.1;
          least = nothing-before WrongBackward refl (λ k o five less. fifth-lines (λ x. number_of x h < 11 → Stands d v x h o → ⊥)
              (λ lower s. absurd (omega arith)) (λ lower s. absurd (let n = last-number h (λ z. (let some = w.1.0.some in omega arith)) in omega arith)) k five less);
        })
    wrong-least f (inr w) =
        subst (IsLeastOf d v 5) (sym w.1) (record {
          of = refl;
          stands = w.3;
          least = nothing-before WrongLast refl (λ k o five less. fifth-lines (λ x. number_of x h < number_of WrongLast h → Stands d v x h o → ⊥)
              (λ lower s. right-backward-own o (w.2 s.0) s) (λ lower s. absurd (omega arith)) k five less);
        })
      where
        right-backward-own : (o : ℕ) → IsBackwardRight d.types (links_of d.types v) h → IsWrongBackward d.types (links_of d.types v) h o → ⊥
        right-backward-own o r s = elim s.3 [
          | inl b ↦ b.2 (r.twin b.0 s.1 b.1)
          | inr b ↦ b.3 (r.first b.0 b.1 s.1 b.2)
        ]

  module _ (ps : List Place) (M : IsMatched d v ps) (roots : AreTwinsRight d.types (links_of d.types v) 0) where
    -- the records before a place are right where those of the places before it are
    pub before-right : (i : ℕ) → i < length ps → ((j : ℕ) → j < i → AreTwinsRight d.types (links_of d.types v) (place_at ps j).address)
        → (a : ℕ) → a < (place_at ps i).address → (links_of d.types v).here a ≡ true → AreTwinsRight d.types (links_of d.types v) a
    before-right i within right a less here = elim (cases_eq a 0) [
      | inl e ↦ subst (AreTwinsRight d.types (links_of d.types v)) (sym e) roots
      | inr ne ↦ (let n = number-below d v ps M i a within (record { some = omega arith; here = here }) less in subst (AreTwinsRight d.types (links_of d.types v)) n.3 (right n.0 n.1))
    ]

    -- all are where those of all places are
    pub all-right : ((j : ℕ) → j < length ps → AreTwinsRight d.types (links_of d.types v) (place_at ps j).address) → (a : ℕ) → (links_of d.types v).here a ≡ true → AreTwinsRight d.types (links_of d.types v) a
    all-right right a here = elim (cases_eq a 0) [
      | inl e ↦ subst (AreTwinsRight d.types (links_of d.types v)) (sym e) roots
      | inr ne ↦ (let n = number-at d v ps M a (record { some = omega arith; here = here }) in subst (AreTwinsRight d.types (links_of d.types v)) n.2 (right n.0 n.1))
    ]
