-- Twin backward and last child, by the owners of chains.
use Rattle.std.proofs.Common.{◌≡◌, ◌≢◌, inl, inr, ℕ, ◌<◌, List, length, slice_index, true, false, refl, sym, ap, subst, ◌∙◌, arith}
use Rattle.std.proofs.lemmas.Bool.{cases_eq, false≢true}
use Rattle.hd_dbd.specs.Hierarchy.{Database}
use Rattle.hd_dbd.specs.Prefixes.{is_backward_kept}
use Rattle.hd_volume.specs.Volumes.{VolumeState}
use Rattle.hd_links.specs.Links.{is_child_type, is_last_kept}
use Rattle.hd_links.specs.Pointers.{Precedes, IsInChain}
use Rattle.hd_image.specs.Records.{links_of}
use Rattle.hd_image.specs.PointerFaults.{IsWrongBackward, IsWrongLast}
use Rattle.hd_check_blocks.specs.declared.places.Place.{Place}
use Rattle.hd_check_blocks.specs.Places.{IsPlaceOf}
use Rattle.hd_prefix.specs.declared.pointer.Pointer.TheVariants.{FirstChild, LastChild}
use Rattle.hd_prefix.specs.Fields.{code_of, pointer_of}
use Rattle.hd_check_pointers.proofs.ChildPointers.{first-read, last-read}
use Rattle.hd_check_blocks.specs.Lending.{IsLent}
use Rattle.hd_check_pointers.specs.Tables.{place_at, nobody, IsOwner, AreForwards, AreOwners}
use Rattle.hd_check_pointers.specs.Matched.{IsMatched}
use Rattle.hd_check_pointers.specs.Twins.{IsTwinOrNone, HasChildren, IsBackwardRight, IsLastRight}
use Rattle.hd_check_pointers.proofs.TwinChains.{child-there, owned-there, owner-one, first-alone}
use Rattle.hd_check_pointers.proofs.PlaceNumbers.{types-later, stands, coded, is-twin, is-first, not-nobody}

module _ (d : Database) (v : VolumeState) (ps : List Place) (M : IsMatched d v ps) where
  -- the code of a place is that of the segment that is lent
  pub lent-code : (i : ℕ) (segment : List ℕ) → i < length ps → IsLent d.types v (place_at ps i).address segment → (place_at ps i).code ≡ code_of segment
  lent-code i segment l here = sym (coded d v ps M i l) ∙ ap code_of here.stored

  -- ---- twin backward

  -- a predecessor of the segment's type is the twin before it
  pub twin-is : (i h : ℕ) → i < length ps → Precedes d.types (links_of d.types v) h (place_at ps i).address → IsPlaceOf (record { address = h; code = (place_at ps i).code }) ps
      → IsTwinOrNone d.types (links_of d.types v) h (place_at ps i).address h
  twin-is i h l prec is = inl (is-twin d v ps M i h l prec is, refl)

  -- another is a parent
  pub none-is : (i h : ℕ) → i < length ps → Precedes d.types (links_of d.types v) h (place_at ps i).address → (IsPlaceOf (record { address = h; code = (place_at ps i).code }) ps → ⊥)
      → IsTwinOrNone d.types (links_of d.types v) h (place_at ps i).address 0
  none-is i h l prec isnt = (let p = is-first d v ps M i h l prec isnt in inr (p.0, p.1, refl))

  -- twin backward that is not kept is not wrong
  pub backward-unkept-right : (i : ℕ) → i < length ps → is_backward_kept d.types (place_at ps i).code ≡ false → IsBackwardRight d.types (links_of d.types v) (place_at ps i).address
  backward-unkept-right i l none =
      let own : is_backward_kept d.types ((links_of d.types v).code (place_at ps i).address) ≡ false = ap (is_backward_kept d.types) (coded d v ps M i l) ∙ none in
      record {
        twin = λ h kept b. absurd (false≢true (sym own ∙ kept));
        first = λ h t kept p. absurd (false≢true (sym own ∙ kept));
      }

  -- twin backward that is the twin before is right
  pub backward-right : (i h x : ℕ) → i < length ps → IsTwinOrNone d.types (links_of d.types v) h (place_at ps i).address x → (links_of d.types v).backward (place_at ps i).address ≡ x
      → IsBackwardRight d.types (links_of d.types v) (place_at ps i).address
  backward-right i h x l (inl b) e = record {
    twin = λ q kept c. e ∙ b.1 ∙ M.single.one (place_at ps i).address h q (stands d v ps M i l) (inl b.0) (inl c);
    first = λ q t kept p. absurd (first-alone d.types (links_of d.types v) M.typed M.single (types-later d v ps M) q t (place_at ps i).address h (stands d v ps M i l) p b.0);
  }
  backward-right i h x l (inr p) e = record {
    twin = λ q kept c. absurd (first-alone d.types (links_of d.types v) M.typed M.single (types-later d v ps M) h p.0 (place_at ps i).address q (stands d v ps M i l) p.1 c);
    first = λ q t kept c. e ∙ p.2;
  }

  -- another is wrong
  pub backward-wrong : (i h x y : ℕ) → i < length ps → is_backward_kept d.types (place_at ps i).code ≡ true → IsTwinOrNone d.types (links_of d.types v) h (place_at ps i).address x
      → y ≡ (links_of d.types v).backward (place_at ps i).address → y ≢ x → IsWrongBackward d.types (links_of d.types v) (place_at ps i).address y
  backward-wrong i h x y l kept (inl b) e ne =
      (stands d v ps M i l, ap (is_backward_kept d.types) (coded d v ps M i l) ∙ kept, e, inl (h, b.0, λ z. ne (e ∙ z ∙ sym b.1)))
  backward-wrong i h x y l kept (inr p) e ne =
      (stands d v ps M i l, ap (is_backward_kept d.types) (coded d v ps M i l) ∙ kept, e, inr (h, p.0, p.1, λ z. ne (e ∙ z ∙ sym p.2)))

  -- ---- last child

  -- first and last child that are read of a segment are those of its record
  pub has-children : (i t first last : ℕ) (segment : List ℕ) → i < length ps → IsLent d.types v (place_at ps i).address segment → is_child_type d.types (place_at ps i).code t ≡ true
      → is_last_kept d.types t ≡ true → first ≡ pointer_of d.types (place_at ps i).code (FirstChild t) segment → last ≡ pointer_of d.types (place_at ps i).code (LastChild t) segment
      → HasChildren d.types (links_of d.types v) (place_at ps i).address t first last
  has-children i t first last segment l here child kept f e = record {
    here = (stands d v ps M i l).here;
    child = ap (λ (c : ℕ). is_child_type d.types c t) (coded d v ps M i l) ∙ child;
    kept = kept;
    first_is = first-read d.types v (place_at ps i).address t (place_at ps i).code segment first here.some here.stored (lent-code i segment l here) f;
    last_is = last-read d.types v (place_at ps i).address t (place_at ps i).code segment last here.some here.stored (lent-code i segment l here) e;
  }

  module _ (xs fs : List ℕ) (O : AreOwners d.types (links_of d.types v) ps xs) (F : AreForwards (links_of d.types v) ps fs)
      (h t first last : ℕ) (c : HasChildren d.types (links_of d.types v) h t first last) where
    -- neither is there
    pub both-none : first ≡ 0 → last ≡ 0 → IsLastRight (links_of d.types v) h t
    both-none f l = record { some = λ some. absurd (let e = c.first_is in omega arith); none = λ z. sym c.last_is ∙ l }

    -- the last one alone is there
    pub first-none : first ≡ 0 → last ≢ 0 → IsWrongLast (links_of d.types v) h t
    first-none f l = inl (sym c.first_is ∙ f, λ z. l (c.last_is ∙ z))

    -- the last one names no place
    pub last-nowhere : first ≢ 0 → ((code : ℕ) → IsPlaceOf (record { address = last; code = code }) ps → ⊥) → IsWrongLast (links_of d.types v) h t
    last-nowhere f none = inr (
      λ z. f (c.first_is ∙ z),
      λ chain.
          (let s = (child-there d.types (links_of d.types v) M.typed h t chain.0 ((links_of d.types v).last_child h t) c.here c.child chain.1).0 in
          absurd (none ((links_of d.types v).code ((links_of d.types v).last_child h t))
          (subst (λ (x : ℕ). IsPlaceOf (record { address = x; code = (links_of d.types v).code ((links_of d.types v).last_child h t) }) ps) (sym c.last_is) (M.stand.all ((links_of d.types v).last_child h t) s)))),
    )

    module _ (n : ℕ) (l : n < length ps) (at : (place_at ps n).address ≡ last) where
      -- the last one has a twin behind it
      pub last-goes-on : first ≢ 0 → slice_index fs n ≢ 0 → IsWrongLast (links_of d.types v) h t
      last-goes-on f on = inr (λ z. f (c.first_is ∙ z), λ chain z. on (F.names n l ∙ ap (links_of d.types v).forward (at ∙ c.last_is) ∙ z))

      -- the last one has another parent
      pub last-elsewhere : first ≢ 0 → slice_index xs n ≢ h → IsWrongLast (links_of d.types v) h t
      last-elsewhere f other = inr (
        λ z. f (c.first_is ∙ z),
        λ chain.
            (let o : IsOwner d.types (links_of d.types v) h (place_at ps n).address =
            subst (IsOwner d.types (links_of d.types v) h) (sym (at ∙ c.last_is)) (record { holder = c.here; type_code = t; typed = c.child; chain = chain }) in
            elim (cases_eq (slice_index xs n) nobody) [
              | inl none ↦ absurd (O.no_owner n l none h o)
              | inr known ↦ absurd (other (owner-one d.types (links_of d.types v) M.typed M.single (types-later d v ps M) (slice_index xs n) h (place_at ps n).address (O.owner n l known) o))
            ]),
      )

      -- the last one ends the chain
      pub last-ends : first ≢ 0 → slice_index fs n ≡ 0 → slice_index xs n ≡ h → IsLastRight (links_of d.types v) h t
      last-ends f end own = record {
        some = λ there.
            (let o : IsOwner d.types (links_of d.types v) h ((links_of d.types v).last_child h t) =
            subst (IsOwner d.types (links_of d.types v) h) (at ∙ c.last_is)
            (subst (λ (x : ℕ). IsOwner d.types (links_of d.types v) x (place_at ps n).address) own (O.owner n l (λ z. not-nobody d v ps M h c.here (sym own ∙ z)))) in
            let code = (owned-there d.types (links_of d.types v) M.typed h ((links_of d.types v).last_child h t) o).1 in
            let named = (M.typed.last h t c.here c.child c.kept (let e = c.last_is in let s = (stands d v ps M n l).some in omega arith)).1 in (
              subst (λ (u : ℕ). IsInChain (links_of d.types v) ((links_of d.types v).first_child h u) ((links_of d.types v).last_child h t)) (sym code ∙ named) o.chain,
              ap (links_of d.types v).forward (sym (at ∙ c.last_is)) ∙ sym (F.names n l) ∙ end,
            ));
        none = λ z. absurd (f (c.first_is ∙ z));
      }
