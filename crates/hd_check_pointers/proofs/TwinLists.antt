-- All that is wrong with the twins, segment by segment.
use Rattle.std.proofs.Common.{◌≡◌, ◌≢◌, ◌⊎◌, inl, inr, ℕ, ◌<◌, List, [], ◌∷◌, ◌++◌, length, Bool, true, false, Ok, Err, Option, Some, None, IfNone, IfSome, refl, sym, ap, subst, ◌∙◌, arith, ne_eqb}
use Rattle.std.specs.Prelude.{◌==◌}
use Rattle.std.proofs.lemmas.Bool.{cases_Bool, cases_eq, eq-eqb, cond-true, cond-false, false≢true}
use Rattle.hd_dbd.specs.Hierarchy.{Database}
use Rattle.hd_dbd.specs.Types.{SegmentType}
use Rattle.hd_dbd.specs.declared.answer.Refused.TheVariants.{Memory}
use Rattle.hd_volume.specs.Calls.{IsCall, IsRead}
use Rattle.hd_volume.specs.Volumes.{VolumeState}
use Rattle.hd_volume.proofs.PutLemmas.{if-some-map, if-none-map}
use Rattle.hd_links.specs.Links.{Links, IsSegment}
use Rattle.hd_image.specs.Records.{links_of}
use Rattle.hd_image.specs.PointerFaults.{IsWrongBackward, HasWrongLast}
use Rattle.hd_image.specs.Standing.{Stands, phase_of, number_of}
use Rattle.hd_image.specs.declared.line.Line.{Line}
use Rattle.hd_image.specs.declared.line.Line.TheVariants.{OutOfOrder, NotReached, WrongBackward, WrongLast}
use Rattle.hd_check_blocks.specs.declared.fault.Fault.{Fault}
use Rattle.hd_check_blocks.specs.declared.places.Place.{Place}
use Rattle.hd_check_blocks.specs.Listing.{faults_of}
use Rattle.hd_check_blocks.proofs.Listing.{AreStandingAmong, joined, said-by, none-among, told, only-told, is-told}
use Rattle.hd_check_pointers.specs.Tables.{place_at}
use Rattle.hd_check_pointers.specs.Matched.{IsMatched}
use Rattle.hd_check_pointers.specs.Keys.{IsKeyRight, IsKeyWrong, IsLastKey}
use Rattle.hd_check_pointers.specs.declared.last_key.LastKey.{LastKey}
use Rattle.hd_check_pointers.specs.Twins.{IsBackwardRight, AreLastsRight, AreTwinsRight, AreTwinsWrong}
use Rattle.hd_check_pointers.specs.Listed.{TellsReached, fault_with, unreached}
use Rattle.hd_check_pointers.proofs.PlaceNumbers.{stands}
use Rattle.hd_check_pointers.proofs.LastChildren.{right-not-wrong}
use Rattle.hd_check_pointers.proofs.TwinFaults.{right-none, fifth-lines}

-- what a read says holds where memory is refused behind it
pub read-memory : {A B : Type 0} {u v : VolumeState} {x : A} → IsRead {T = A} u (Ok x) v → IsRead {T = B} u (Err Memory) v
read-memory h = record {
  call = record { counts = h.call.counts; sound = h.call.sound; committed = h.call.committed; size = h.call.size; sizes = h.call.sizes; first = h.call.first; plain = h.call.plain; space = h.call.space };
  image = h.image;
  stands = h.stands;
  room = h.room;
}

-- ---- keys

-- the line of the sixth phase
sixth-line : (k : Line) → phase_of k ≡ 6 → k ≡ OutOfOrder
sixth-line OutOfOrder h = refl
sixth-line k h = absurd (omega arith)

-- what is found of the key of a segment is all that stands of the sixth phase there
pub key-standing : (d : Database) (v : VolumeState) (a holder : ℕ) (found : Option Fault) → IfNone found (IsKeyRight d.types (links_of d.types v) a)
    → IfSome found (λ f. IsKeyWrong d.types (links_of d.types v) a holder f) → AreStandingAmong d v 6 (λ k b. b ≡ a) (faults_of found)
key-standing d v a holder found none some = only-told d v 6 OutOfOrder a found refl sixth-line
    (if-none-map found (λ right o s. false≢true (sym s.2 ∙ right o s.1)) none)
    (if-some-map found (λ f w. is-told d v OutOfOrder a holder f w.0 w.1) some)

-- what stands of it stands at a segment
pub sixth-segment : (d : Database) (v : VolumeState) (k : Line) (a o : ℕ) → phase_of k ≡ 6 → Stands d v k a o → IsSegment (links_of d.types v) a
sixth-segment d v k a o of s = (let w = subst (λ (x : Line). Stands d v x a o) (sixth-line k of) s in w.0)

-- what was read last is still known, or forgotten where a fault was found
pub last-kept : (types : List SegmentType) (m : Links) (found : Option Fault) (old new : LastKey) → IfNone found (IsLastKey types m old) → IfNone found (new ≡ old) → IfSome found (λ f. new.address ≡ 0) → IsLastKey types m new
last-kept types m None old new known same none = subst (IsLastKey types m) (sym same) known
last-kept types m (Some f) old new known same none = λ some. absurd (some none)

-- ---- what is reached

-- the line of the seventh phase
seventh-line : (k : Line) → phase_of k ≡ 7 → k ≡ NotReached
seventh-line NotReached h = refl
seventh-line k h = absurd (omega arith)

-- what is told of a segment is all that stands of the seventh phase there
pub reached-standing : (d : Database) (v : VolumeState) (ps : List Place) (M : IsMatched d v ps) (n : ℕ) (answer : Bool) → n < length ps → TellsReached d v ps n answer
    → AreStandingAmong d v 7 (λ k a. a ≡ (place_at ps n).address) (faults_of (unreached (place_at ps n).address answer))
reached-standing d v ps M n true within tells = only-told d v 7 NotReached (place_at ps n).address None refl seventh-line (λ o s. (let r = tells.right refl in s.1 r.0 r.1)) tt
reached-standing d v ps M n false within tells =
    only-told d v 7 NotReached (place_at ps n).address (Some (record { line = NotReached; address = (place_at ps n).address; other = 0 })) refl seventh-line tt (refl, refl, (stands d v ps M n within, tells.wrong refl, refl))

-- what stands of it stands at a segment
pub seventh-segment : (d : Database) (v : VolumeState) (k : Line) (a o : ℕ) → phase_of k ≡ 7 → Stands d v k a o → IsSegment (links_of d.types v) a
seventh-segment d v k a o of s = (let w = subst (λ (x : Line). Stands d v x a o) (seventh-line k of) s in w.0)

-- ---- twin backward and last child

-- what is wrong with a record, if it is given what that names
with-told : (d : Database) (v : VolumeState) (line : Line) (a : ℕ) (given : Option ℕ) → IfNone given ((o : ℕ) → Stands d v line a o → ⊥) → IfSome given (λ x. Stands d v line a x) → phase_of line ≡ 5
    → AreStandingAmong d v 5 (λ k b. (k ≡ line) × (b ≡ a)) (faults_of (fault_with line a given))
with-told d v line a None none some of = told d v 5 line a None of none tt
with-told d v line a (Some x) none some of = told d v 5 line a (Some (record { line = line; address = a; other = x })) of tt (refl, refl, some)

-- a right twin backward is not wrong
backward-not-wrong : (types : List SegmentType) (m : Links) (a o : ℕ) → IsBackwardRight types m a → IsWrongBackward types m a o → ⊥
backward-not-wrong types m a o r w = elim w.3 [
  | inl b ↦ b.2 (r.twin b.0 w.1 b.1)
  | inr b ↦ b.3 (r.first b.0 b.1 w.1 b.2)
]

-- twin backward comes before last child
last-above : (a : ℕ) → 11 < number_of WrongLast a
last-above a = elim (cases_eq a 0) [
  | inl e ↦ (let n : number_of WrongLast a ≡ 20 = cond-true (a == 0) 20 12 (eq-eqb a 0 e) in omega arith)
  | inr ne ↦ (let n : number_of WrongLast a ≡ 12 = cond-false (a == 0) 20 12 (ne_eqb a 0 ne) in omega arith)
]

module _ (d : Database) (v : VolumeState) where
  -- what is told of a record is all that stands of the fifth phase there
  pub twins-standing : (h : ℕ) (backward last : Option ℕ) → IfNone backward (IsBackwardRight d.types (links_of d.types v) h) → IfSome backward (λ x. IsWrongBackward d.types (links_of d.types v) h x)
      → IfNone last (AreLastsRight d.types (links_of d.types v) h) → IfSome last (λ x. HasWrongLast d.types (links_of d.types v) h x)
      → AreStandingAmong d v 5 (λ k a. a ≡ h) (faults_of (fault_with WrongBackward h backward) ++ faults_of (fault_with WrongLast h last))
  twins-standing h backward last right wrong rights wrongs =
      said-by d v 5 (λ k a. ((k ≡ WrongBackward) × (a ≡ h)) ⊎ ((k ≡ WrongLast) × (a ≡ h))) (λ k a. a ≡ h) (faults_of (fault_with WrongBackward h backward) ++ faults_of (fault_with WrongLast h last))
      (λ k a p. elim p [ inl e ↦ e.1 | inr e ↦ e.1 ])
      (λ k a o of s at. fifth-lines d v (λ x. ((x ≡ WrongBackward) × (a ≡ h)) ⊎ ((x ≡ WrongLast) × (a ≡ h))) (inl (refl, at)) (inr (refl, at)) k of)
      (joined d v 5 (λ k a. (k ≡ WrongBackward) × (a ≡ h)) (λ k a. (k ≡ WrongLast) × (a ≡ h)) (faults_of (fault_with WrongBackward h backward)) (faults_of (fault_with WrongLast h last))
      (λ k a l b p e q g. inr (
        e.1 ∙ sym g.1,
        (let first : number_of k a ≡ 11 = ap (λ (x : Line). number_of x a) e.0 in
            let second : number_of l b ≡ number_of WrongLast b = ap (λ (x : Line). number_of x b) g.0 in
            let above = last-above b in
            omega arith),
      ))
      (with-told d v WrongBackward h backward (if-none-map backward (λ r o s. backward-not-wrong d.types (links_of d.types v) h o r s) right) wrong refl)
      (with-told d v WrongLast h last (if-none-map last (λ r o s. right-not-wrong (links_of d.types v) h s.0 (r s.0 s.2 s.3) s.4) rights) wrongs refl))

  -- and what is found of the header
  pub header-standing : (found : Option Fault) → IfNone found (AreTwinsRight d.types (links_of d.types v) 0) → IfSome found (λ f. AreTwinsWrong d.types (links_of d.types v) 0 f)
      → AreStandingAmong d v 5 (λ k a. a ≡ 0) (faults_of found)
  header-standing None right wrong = none-among d v 5 (λ k a. a ≡ 0) (λ k a o of s at. right-none d v k a o of (subst (AreTwinsRight d.types (links_of d.types v)) (sym at) right) s)
  header-standing (Some f) right (inl w) = absurd (let some = w.1.0.some in omega arith)
  header-standing (Some f) right (inr w) = said-by d v 5 (λ k a. (k ≡ WrongLast) × (a ≡ 0)) (λ k a. a ≡ 0) (f ∷ []) (λ k a e. e.1)
      (λ k a o of s at. fifth-lines d v (λ x. Stands d v x a o → (x ≡ WrongLast) × (a ≡ 0)) (λ b. absurd (let some = b.0.some in omega arith)) (λ l. (refl, at)) k of s)
      (told d v 5 WrongLast 0 (Some f) refl tt (is-told d v WrongLast 0 w.0 f w.1 w.3))
