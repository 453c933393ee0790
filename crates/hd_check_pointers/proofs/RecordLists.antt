-- All that is wrong with a record, by number.
use Rattle.std.proofs.Common.{◌≡◌, ◌≢◌, ◌⊎◌, inl, inr, ℕ, ◌<◌, List, [], ◌∷◌, ◌++◌, true, cond, refl, sym, ap, subst, ◌∙◌, arith, ne_eqb}
use Rattle.std.specs.Prelude.{◌==◌}
use Rattle.std.proofs.lemmas.Bool.{cases_eq, eq-eqb, cond-true, cond-false}
use Rattle.std.proofs.lemmas.List.{append_assoc}
use Rattle.hd_dbd.specs.Hierarchy.{Database}
use Rattle.hd_dbd.specs.Types.{SegmentType}
use Rattle.hd_volume.specs.Volumes.{VolumeState}
use Rattle.hd_links.specs.Links.{Links, IsSegment}
use Rattle.hd_image.specs.Records.{links_of}
use Rattle.hd_image.specs.PointerFaults.{pointers_of, names_none, names_another}
use Rattle.hd_image.specs.Standing.{Stands, phase_of, number_of}
use Rattle.hd_image.specs.declared.line.Line.{Line}
use Rattle.hd_image.specs.declared.line.Line.TheVariants.{Deleted, NamesAnother, NamesNothing}
use Rattle.hd_check_blocks.specs.declared.fault.Fault.{Fault}
use Rattle.hd_check_blocks.specs.declared.places.Place.{Place}
use Rattle.hd_check_blocks.specs.Listing.{faults_of, fault_if}
use Rattle.hd_check_blocks.proofs.Listing.{AreStandingAmong, IsSeen, joined, said-by, none-among, told-if}
use Rattle.hd_check_pointers.specs.declared.record_pointers.Wrong.{Wrong}
use Rattle.hd_check_pointers.specs.Judging.{wrong_among}
use Rattle.hd_check_pointers.specs.Listed.{pointer_faults, record_faults}
use Rattle.hd_check_pointers.proofs.TypedRecords.{none-skips, another-skips, found-first, first-found, third-lines}

-- the faults of a segment, where its delete byte and its pointers are listed one behind another
pub segment-listed : (types : List SegmentType) (m : Links) (a delete : ℕ) (w : Wrong) (old middle new : List Fault) → a ≢ 0 → delete ≡ m.delete_byte a → w ≡ wrong_among m (pointers_of types m a)
    → middle ≡ old ++ faults_of (fault_if Deleted a delete) → new ≡ middle ++ pointer_faults a w → new ≡ old ++ record_faults types m a
segment-listed types m a delete w old middle new some own judged first rest =
    let byte : delete ≡ cond (a == 0) 0 (m.delete_byte a) = own ∙ sym (cond-false (a == 0) 0 (m.delete_byte a) (ne_eqb a 0 some)) in
    rest ∙ ap (λ (l : List Fault). l ++ pointer_faults a w) first ∙ append_assoc old (faults_of (fault_if Deleted a delete)) (pointer_faults a w)
    ∙ ap (λ (x : ℕ). old ++ (faults_of (fault_if Deleted a x) ++ pointer_faults a w)) byte
    ∙ ap (λ (x : Wrong). old ++ (faults_of (fault_if Deleted a (cond (a == 0) 0 (m.delete_byte a))) ++ pointer_faults a x)) judged

module _ (d : Database) (v : VolumeState) (h : ℕ) (there : (links_of d.types v).here h ≡ true) where
  -- the delete byte of a segment
  delete-told : AreStandingAmong d v 3 (λ k a. (k ≡ Deleted) × (a ≡ h)) (faults_of (fault_if Deleted h (cond (h == 0) 0 ((links_of d.types v).delete_byte h))))
  delete-told = told-if d v 3 Deleted h (cond (h == 0) 0 ((links_of d.types v).delete_byte h)) refl
      (λ o s z. (let some = s.0.some in let set = s.1 in
      let own : cond (h == 0) 0 ((links_of d.types v).delete_byte h) ≡ (links_of d.types v).delete_byte h = cond-false (h == 0) 0 ((links_of d.types v).delete_byte h) (ne_eqb h 0 (λ e. omega arith)) in
      omega arith))
      (λ set. elim (cases_eq h 0) [
        | inl e ↦ absurd (set (cond-true (h == 0) 0 ((links_of d.types v).delete_byte h) (eq-eqb h 0 e)))
        | inr ne ↦
            (let own : cond (h == 0) 0 ((links_of d.types v).delete_byte h) ≡ (links_of d.types v).delete_byte h = cond-false (h == 0) 0 ((links_of d.types v).delete_byte h) (ne_eqb h 0 ne) in
            let segment : IsSegment (links_of d.types v) h = record { some = omega arith; here = there } in
            (segment, omega arith, own))
      ])

  -- a pointer of it names nothing
  nowhere-told : AreStandingAmong d v 3 (λ k a. (k ≡ NamesNothing) × (a ≡ h)) (faults_of (fault_if NamesNothing h (wrong_among (links_of d.types v) (pointers_of d.types (links_of d.types v) h)).nowhere))
  nowhere-told = told-if d v 3 NamesNothing h (wrong_among (links_of d.types v) (pointers_of d.types (links_of d.types v) h)).nowhere refl
      (λ o s z. (let f = found-first (λ p. names_none (links_of d.types v) p) (pointers_of d.types (links_of d.types v) h) o (none-skips (links_of d.types v)) s.1 in f.1 (sym f.0 ∙ z)))
      (λ some. (there, first-found (λ p. names_none (links_of d.types v) p) (pointers_of d.types (links_of d.types v) h) (none-skips (links_of d.types v)) some))

  -- a pointer of it names a segment of another type
  another-told : AreStandingAmong d v 3 (λ k a. (k ≡ NamesAnother) × (a ≡ h)) (faults_of (fault_if NamesAnother h (wrong_among (links_of d.types v) (pointers_of d.types (links_of d.types v) h)).another))
  another-told = told-if d v 3 NamesAnother h (wrong_among (links_of d.types v) (pointers_of d.types (links_of d.types v) h)).another refl
      (λ o s z. (let f = found-first (λ p. names_another (links_of d.types v) p) (pointers_of d.types (links_of d.types v) h) o (another-skips (links_of d.types v)) s.1 in f.1 (sym f.0 ∙ z)))
      (λ some. (there, first-found (λ p. names_another (links_of d.types v) p) (pointers_of d.types (links_of d.types v) h) (another-skips (links_of d.types v)) some))

  -- all that stands of the third phase at a record
  pub record-standing : AreStandingAmong d v 3 (λ k a. a ≡ h) (record_faults d.types (links_of d.types v) h)
  record-standing = said-by d v 3 (λ k a. ((k ≡ Deleted) × (a ≡ h)) ⊎ (((k ≡ NamesNothing) × (a ≡ h)) ⊎ ((k ≡ NamesAnother) × (a ≡ h)))) (λ k a. a ≡ h) (record_faults d.types (links_of d.types v) h)
      (λ k a p. elim p [ inl e ↦ e.1 | inr q ↦ elim q [ inl e ↦ e.1 | inr e ↦ e.1 ] ])
      (λ k a o of s at. third-lines (λ x. ((x ≡ Deleted) × (a ≡ h)) ⊎ (((x ≡ NamesNothing) × (a ≡ h)) ⊎ ((x ≡ NamesAnother) × (a ≡ h)))) (inl (refl, at)) (inr (inl (refl, at))) (inr (inr (refl, at))) k of)
      (joined d v 3 (λ k a. (k ≡ Deleted) × (a ≡ h)) (λ k a. ((k ≡ NamesNothing) × (a ≡ h)) ⊎ ((k ≡ NamesAnother) × (a ≡ h))) _ _
      (λ k a l b p e q f. elim f [
        | inl g ↦ inr (e.1 ∙ sym g.1, lesser k a l b (ap (λ (x : Line). number_of x a) e.0) (ap (λ (x : Line). number_of x b) g.0) (omega arith))
        | inr g ↦ inr (e.1 ∙ sym g.1, lesser k a l b (ap (λ (x : Line). number_of x a) e.0) (ap (λ (x : Line). number_of x b) g.0) (omega arith))
      ])
      delete-told
      (joined d v 3 (λ k a. (k ≡ NamesNothing) × (a ≡ h)) (λ k a. (k ≡ NamesAnother) × (a ≡ h)) _ _
      (λ k a l b p e q g. inr (e.1 ∙ sym g.1, lesser k a l b (ap (λ (x : Line). number_of x a) e.0) (ap (λ (x : Line). number_of x b) g.0) (omega arith)))
      nowhere-told another-told))
    where
      lesser : (k : Line) (a : ℕ) (l : Line) (b : ℕ) {m n : ℕ} → number_of k a ≡ m → number_of l b ≡ n → m < n → number_of k a < number_of l b
      lesser k a l b e f less = omega arith

-- what is listed of the header is listed before the first place
pub header-seen : (d : Database) (v : VolumeState) (p : ℕ) (ps : List Place) (fs : List Fault) → AreStandingAmong d v p (λ k a. a ≡ 0) fs → AreStandingAmong d v p (λ k a. IsSeen ps 0 a) fs
header-seen d v p ps fs h = said-by d v p (λ k a. a ≡ 0) (λ k a. IsSeen ps 0 a) fs (λ k a e. inl e) (λ k a o of s q. elim q [ inl e ↦ e | inr i ↦ absurd (let l = i.1 in omega arith) ]) h

-- what stands of the third phase stands at a record
pub third-here : (d : Database) (v : VolumeState) (k : Line) (a o : ℕ) → phase_of k ≡ 3 → Stands d v k a o → (links_of d.types v).here a ≡ true
third-here d v k a o of s = third-lines (λ x. Stands d v x a o → (links_of d.types v).here a ≡ true) (λ w. w.0.here) (λ w. w.0) (λ w. w.0) k of s

-- a phase of segments has nothing at the header
pub none-seen : (d : Database) (v : VolumeState) (p : ℕ) (ps : List Place) → ((k : Line) (a o : ℕ) → phase_of k ≡ p → Stands d v k a o → IsSegment (links_of d.types v) a) → AreStandingAmong d v p (λ k a. IsSeen ps 0 a) []
none-seen d v p ps segment = header-seen d v p ps [] (none-among d v p (λ k a. a ≡ 0) (λ k a o of s e. (let some = (segment k a o of s).some in omega arith)))
