-- What is reached from the header, from owner to owner.
use Rattle.std.proofs.Common.{◌≡◌, ◌≢◌, inl, inr, ℕ, ◌<◌, List, length, slice_index, true, refl, sym, subst, ◌∙◌, arith}
use Rattle.std.proofs.lemmas.Bool.{cases_eq}
use Rattle.hd_dbd.specs.Hierarchy.{Database}
use Rattle.hd_volume.specs.Volumes.{VolumeState}
use Rattle.hd_links.specs.Links.{IsSegment}
use Rattle.hd_links.specs.Pointers.{IsReached}
use Rattle.hd_image.specs.Records.{links_of}
use Rattle.hd_image.specs.Standing.{Stands, phase_of, ComesBefore}
use Rattle.hd_image.specs.declared.line.Line.{Line}
use Rattle.hd_image.specs.declared.line.Line.TheVariants.{NotReached}
use Rattle.hd_check_blocks.specs.declared.places.Place.{Place}
use Rattle.hd_check_blocks.specs.Phases.{IsLeastOf}
use Rattle.hd_check_blocks.specs.Places.{IsPlaceOf}
use Rattle.hd_check_pointers.specs.Tables.{place_at, nobody, IsOwner, AreOwners}
use Rattle.hd_check_pointers.specs.Matched.{IsMatched}
use Rattle.hd_check_pointers.proofs.TwinChains.{owned-there, owned-reached, reached-owned, owner-reached}
use Rattle.hd_check_pointers.proofs.PlaceNumbers.{types-later, stands, number-at, number-below, not-nobody}

module _ (d : Database) (v : VolumeState) (ps : List Place) (M : IsMatched d v ps) where
  -- the segment is reached
  abbrev pub IsFound : ℕ → Type 0
  IsFound a = (k : ℕ) × IsReached d.types (links_of d.types v) k a

  module _ (xs : List ℕ) (O : AreOwners d.types (links_of d.types v) ps xs) where
    -- what the header owns is reached
    pub root-found : (i : ℕ) → i < length ps → slice_index xs i ≡ 0 → IsFound (place_at ps i).address
    root-found i l e =
        let o : IsOwner d.types (links_of d.types v) 0 (place_at ps i).address =
        subst (λ (x : ℕ). IsOwner d.types (links_of d.types v) x (place_at ps i).address) e (O.owner i l (λ z. absurd (omega arith))) in
        owned-reached d.types (links_of d.types v) M.typed 0 (place_at ps i).address 0 o refl

    -- what nobody owns is not
    pub lost : (i w : ℕ) → i < length ps → slice_index xs i ≡ w → w ≢ 0 → ((code : ℕ) → IsPlaceOf (record { address = w; code = code }) ps → ⊥)
        → (k : ℕ) → IsReached d.types (links_of d.types v) k (place_at ps i).address → ⊥
    lost i w l e some none k r = elim (cases_eq (slice_index xs i) nobody) [
      | inl nobody-is ↦ (let o = reached-owned d.types (links_of d.types v) M.typed k (place_at ps i).address (stands d v ps M i l) r in O.no_owner i l nobody-is o.0 o.1)
      | inr known ↦
          (let here = subst (λ (x : ℕ). (links_of d.types v).here x ≡ true) e (O.owner i l known).holder in
          none ((links_of d.types v).code w) (M.stand.all w (record { some = omega arith; here = here })))
    ]

    -- a segment with the owner of one that is reached is reached
    pub reached-beside : (i j : ℕ) → i < length ps → j < length ps → slice_index xs i ≡ slice_index xs j → IsFound (place_at ps j).address → IsFound (place_at ps i).address
    reached-beside i j l jl e found = elim (cases_eq (slice_index xs j) nobody) [
      | inl nobody-is ↦
          (let o = reached-owned d.types (links_of d.types v) M.typed found.0 (place_at ps j).address (stands d v ps M j jl) found.1 in
          absurd (O.no_owner j jl nobody-is o.0 o.1))
      | inr known ↦
          (let up = owner-reached d.types (links_of d.types v) M.typed M.single (slice_index xs j) (place_at ps j).address found.0 (O.owner j jl known) found.1 in
          let own = subst (λ (x : ℕ). IsOwner d.types (links_of d.types v) x (place_at ps i).address) e (O.owner i l (λ z. known (sym e ∙ z))) in
          owned-reached d.types (links_of d.types v) M.typed (slice_index xs j) (place_at ps i).address up.0 own up.1)
    ]

    module _ (i j w : ℕ) (l : i < length ps) (e : slice_index xs i ≡ w) (jl : j < length ps) (at : (place_at ps j).address ≡ w) where
      -- the segment at the owner's address is the owner
      own : IsOwner d.types (links_of d.types v) (place_at ps j).address (place_at ps i).address
      own = subst (λ (x : ℕ). IsOwner d.types (links_of d.types v) x (place_at ps i).address) (e ∙ sym at)
          (O.owner i l (λ z. not-nobody d v ps M (place_at ps j).address (stands d v ps M j jl).here (at ∙ sym e ∙ z)))

      -- where the owner is reached it is reached
      pub step-up : IsFound (place_at ps j).address → IsFound (place_at ps i).address
      unfolding own
      step-up r = owned-reached d.types (links_of d.types v) M.typed (place_at ps j).address (place_at ps i).address r.0 own r.1

      -- where it is reached the owner is
      pub step-down : IsFound (place_at ps i).address → IsFound (place_at ps j).address
      step-down r = owner-reached d.types (links_of d.types v) M.typed M.single (place_at ps j).address (place_at ps i).address r.0 own r.1

      -- the owner has a lesser code
      pub step-less : (links_of d.types v).code (place_at ps j).address < (links_of d.types v).code (place_at ps i).address
      step-less =
          let there = (owned-there d.types (links_of d.types v) M.typed (place_at ps j).address (place_at ps i).address own).1 in
          let later = types-later d v ps M ((links_of d.types v).code (place_at ps j).address) own.type_code own.typed in
          omega arith

  -- ---- the first that is not reached

  -- the line of the phase
  only-line : (P : Line → Type 0) → P NotReached → (k : Line) → phase_of k ≡ 7 → P k
  only-line P a NotReached h = a
  only-line P a k h = absurd (omega arith)

  -- the segment of a number is the first that is not reached
  pub not-reached-least : (i : ℕ) → i < length ps → ((k : ℕ) → IsReached d.types (links_of d.types v) k (place_at ps i).address → ⊥)
      → ((j : ℕ) → j < i → IsFound (place_at ps j).address) → IsLeastOf d v 7 (record { line = NotReached; address = (place_at ps i).address; other = 0 })
  not-reached-least i l none before = record {
    of = refl;
    stands = (stands d v ps M i l, none, refl);
    least = λ k a o seven. only-line (λ x. Stands d v x a o → ComesBefore x a NotReached (place_at ps i).address → ⊥) (earlier a o) k seven;
  }
    where
      earlier : (a o : ℕ) → Stands d v NotReached a o → ComesBefore NotReached a NotReached (place_at ps i).address → ⊥
      earlier a o s (inl phase) = absurd (omega arith)
      earlier a o s (inr (same, inl less)) = (let n = number-below d v ps M i a l s.0 less in let r = before n.0 n.1 in s.1 r.0 (subst (IsReached d.types (links_of d.types v) r.0) n.3 r.1))
      earlier a o s (inr (same, inr both)) = (let number = both.1 in absurd (omega arith))

  -- all are reached where those of all places are
  pub all-found : ((j : ℕ) → j < length ps → IsFound (place_at ps j).address) → (a : ℕ) → IsSegment (links_of d.types v) a → IsFound a
  all-found found a s = (let n = number-at d v ps M a s in subst IsFound n.2 (found n.0 n.1))
