-- A root that is set in the header.
use Rattle.std.proofs.Common.{◌≡◌, ℕ, List, [], true, false, ◌&&◌, ◌||◌, ◌==◌, cond, refl, sym, ap, ◌∙◌, None, subst, inl, inr, arith}
use Rattle.std.specs.Option.{option_map_or}
use Rattle.std.proofs.Math.Nat.{zero-div}
use Rattle.std.proofs.Math.Bool.{or-false}
use Rattle.std.proofs.lemmas.Bool.{cases_eq, eq-eqb, eqb-true}
use Rattle.hd_dbd.specs.Types.{SegmentType}
use Rattle.hd_volume.specs.Headers.{Header, header_of}
use Rattle.hd_volume.specs.Volumes.{VolumeState}
use Rattle.hd_volume.specs.Records.{find}
use Rattle.hd_volume.specs.Calls.{HasNewHeader}
use Rattle.hd_prefix.specs.Fields.{code_of}
use Rattle.hd_prefix.specs.declared.pointer.Pointer.TheVariants.{FirstChild, LastChild}
use Rattle.hd_links.specs.Links.{Links, IsSegment, is_child_type}
use Rattle.hd_links.specs.Changes.{AgreeAt, Agree}
use Rattle.hd_image.specs.Laws.{SettingARootSetsAPointer}
use Rattle.hd_image.specs.Pointing.{with_pointer}
use Rattle.hd_image.specs.Records.{links_of}
use Rattle.hd_image.proofs.SameRecords.{same-agree, elsewhere-same, found-same}

-- no segment stands at 0, where the header is
pub none-at_header : (v : VolumeState) → find v 0 ≡ None
none-at_header v = rw (zero-div v.size) refl

-- and its code is 0
pub header-code : (types : List SegmentType) (v : VolumeState) → (links_of types v).code 0 ≡ 0
header-code types v = ap (λ o. code_of (option_map_or (λ segment. segment) o [])) (none-at_header v)

-- the header's only child type is the root's
pub header-child : (types : List SegmentType) (v : VolumeState) (t : ℕ) → is_child_type types ((links_of types v).code 0) t ≡ true → t ≡ 1
header-child types v t h =
    let at : (1 == t) || false ≡ true = sym (ap (λ c. is_child_type types c t) (header-code types v)) ∙ h in
    sym (eqb-true 1 t (sym (or-false (1 == t)) ∙ at))

-- the header is no segment
none-of : {A : Type 0} (m : Links) → IsSegment m 0 → A
none-of m h = absurd (let some = h.some in omega arith)

-- a type that is the root's
root-type : (t x y : ℕ) → t ≡ 1 → cond (0 == 0 && t == 1) x y ≡ x
root-type t x y e = ap (λ b. cond b x y) (eq-eqb t 1 e)

pub setting-root : SettingARootSetsAPointer
setting-root types v w root = (first, last)
  where
    first : HasNewHeader v (record (header_of v.image) { first_root = root }) w → Agree types (with_pointer (links_of types v) (FirstChild 1) 0 root) (links_of types w)
    first h b = elim (cases_eq b 0) [
      | inl e ↦ subst (λ (k : ℕ). AgreeAt types (with_pointer (links_of types v) (FirstChild 1) 0 root) (links_of types w) k) (sym e) (record {
        here = refl;
        code = λ _. header-code types w ∙ sym (header-code types v);
        bytes = λ s. none-of (with_pointer (links_of types v) (FirstChild 1) 0 root) s;
        delete_byte = λ s. none-of (with_pointer (links_of types v) (FirstChild 1) 0 root) s;
        forward = λ s. none-of (with_pointer (links_of types v) (FirstChild 1) 0 root) s;
        backward = λ s _. none-of (with_pointer (links_of types v) (FirstChild 1) 0 root) s;
        first_child = λ t _ child. ap (λ (k : Header). k.first_root) h.is ∙ sym (root-type t root (header_of v.image).first_root (header-child types v t child));
        last_child = λ t _ _ _. ap (λ (k : Header). k.last_root) h.is;
      })
      | inr ne ↦ same-agree types (with_pointer (links_of types v) (FirstChild 1) 0 root) (links_of types w) b
          (elsewhere-same (links_of types v) (links_of types w) (FirstChild 1) 0 root b ne (found-same types v w b (λ z. absurd (ne z)) (h.segments b)))
    ]

    last : HasNewHeader v (record (header_of v.image) { last_root = root }) w → Agree types (with_pointer (links_of types v) (LastChild 1) 0 root) (links_of types w)
    last h b = elim (cases_eq b 0) [
      | inl e ↦ subst (λ (k : ℕ). AgreeAt types (with_pointer (links_of types v) (LastChild 1) 0 root) (links_of types w) k) (sym e) (record {
        here = refl;
        code = λ _. header-code types w ∙ sym (header-code types v);
        bytes = λ s. none-of (with_pointer (links_of types v) (LastChild 1) 0 root) s;
        delete_byte = λ s. none-of (with_pointer (links_of types v) (LastChild 1) 0 root) s;
        forward = λ s. none-of (with_pointer (links_of types v) (LastChild 1) 0 root) s;
        backward = λ s _. none-of (with_pointer (links_of types v) (LastChild 1) 0 root) s;
        first_child = λ t _ _. ap (λ (k : Header). k.first_root) h.is;
        last_child = λ t _ child _. ap (λ (k : Header). k.last_root) h.is ∙ sym (root-type t root (header_of v.image).last_root (header-child types v t child));
      })
      | inr ne ↦ same-agree types (with_pointer (links_of types v) (LastChild 1) 0 root) (links_of types w) b
          (elsewhere-same (links_of types v) (links_of types w) (LastChild 1) 0 root b ne (found-same types v w b (λ z. absurd (ne z)) (h.segments b)))
    ]
