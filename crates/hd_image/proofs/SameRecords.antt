-- Records that say the same, and those of which one pointer is changed.
use Rattle.std.proofs.Common.{◌≡◌, ◌≢◌, ◌⊎◌, ℕ, List, [], ◌&&◌, ◌||◌, ◌==◌, cond, refl, sym, ap, ◌∙◌, subst, inl, inr, ne_eqb}
use Rattle.std.specs.Prelude.{is_some}
use Rattle.std.specs.Option.{option_map_or}
use Rattle.std.proofs.lemmas.Bool.{cases_eq, eq-eqb, cond-true, cond-false}
use Rattle.hd_dbd.specs.Types.{SegmentType}
use Rattle.hd_volume.specs.Headers.{header_of}
use Rattle.hd_volume.specs.Volumes.{VolumeState}
use Rattle.hd_volume.specs.Records.{find}
use Rattle.hd_prefix.specs.declared.pointer.Pointer.{Pointer}
use Rattle.hd_prefix.specs.declared.pointer.Pointer.TheVariants.{TwinForward, TwinBackward, FirstChild, LastChild}
use Rattle.hd_prefix.specs.Fields.{code_of, delete_byte_of, pointer_of, bytes_of}
use Rattle.hd_links.specs.Links.{Links}
use Rattle.hd_links.specs.Changes.{AgreeAt}
use Rattle.hd_image.specs.Records.{stored_at, links_of}
use Rattle.hd_image.specs.Laws.{RecordsStay}
use Rattle.hd_image.specs.Pointing.{with_pointer}

-- a pointer of a record
abbrev pub pointer_in : Links → ℕ → Pointer → ℕ
pointer_in m a TwinForward = m.forward a
pointer_in m a TwinBackward = m.backward a
pointer_in m a (FirstChild t) = m.first_child a t
pointer_in m a (LastChild t) = m.last_child a t

-- At the address m2 says all that m says, kept or not.
pub record SameAt (m m2 : Links) (a : ℕ) : Type 0 where
  pub here : m2.here a ≡ m.here a
  pub code : m2.code a ≡ m.code a
  pub bytes : m2.bytes a ≡ m.bytes a
  pub delete_byte : m2.delete_byte a ≡ m.delete_byte a
  pub pointers : (pointer : Pointer) → pointer_in m2 a pointer ≡ pointer_in m a pointer

pub same-agree : (types : List SegmentType) (m m2 : Links) (a : ℕ) → SameAt m m2 a → AgreeAt types m m2 a
same-agree types m m2 a s = record {
  here = s.here;
  code = λ _. s.code;
  bytes = λ _. s.bytes;
  delete_byte = λ _. s.delete_byte;
  forward = λ _. s.pointers TwinForward;
  backward = λ _ _. s.pointers TwinBackward;
  first_child = λ t _ _. s.pointers (FirstChild t);
  last_child = λ t _ _ _. s.pointers (LastChild t);
}

-- ---- one pointer changed

-- nothing else of any record changes
pub with-code : (m : Links) (pointer : Pointer) (a x b : ℕ) → (with_pointer m pointer a x).code b ≡ m.code b
with-code m TwinForward a x b = refl
with-code m TwinBackward a x b = refl
with-code m (FirstChild t) a x b = refl
with-code m (LastChild t) a x b = refl

pub with-here : (m : Links) (pointer : Pointer) (a x b : ℕ) → (with_pointer m pointer a x).here b ≡ m.here b
with-here m TwinForward a x b = refl
with-here m TwinBackward a x b = refl
with-here m (FirstChild t) a x b = refl
with-here m (LastChild t) a x b = refl

with-bytes : (m : Links) (pointer : Pointer) (a x b : ℕ) → (with_pointer m pointer a x).bytes b ≡ m.bytes b
with-bytes m TwinForward a x b = refl
with-bytes m TwinBackward a x b = refl
with-bytes m (FirstChild t) a x b = refl
with-bytes m (LastChild t) a x b = refl

with-delete_byte : (m : Links) (pointer : Pointer) (a x b : ℕ) → (with_pointer m pointer a x).delete_byte b ≡ m.delete_byte b
with-delete_byte m TwinForward a x b = refl
with-delete_byte m TwinBackward a x b = refl
with-delete_byte m (FirstChild t) a x b = refl
with-delete_byte m (LastChild t) a x b = refl

-- a number at one index, at one record
one-at : (b u a t x y : ℕ) → b ≡ a → u ≡ t → cond (b == a && u == t) x y ≡ x
one-at b u a t x y e f = cond-true (b == a && u == t) x y (rw (eq-eqb b a e, eq-eqb u t f) refl)

other-record : (b u a t x y : ℕ) → b ≢ a → cond (b == a && u == t) x y ≡ y
other-record b u a t x y ne = cond-false (b == a && u == t) x y (rw (ne_eqb b a ne) refl)

other-type : (b u a t x y : ℕ) → u ≢ t → cond (b == a && u == t) x y ≡ y
other-type b u a t x y ne = elim (cases_eq b a) [
  | inl e ↦ cond-false (b == a && u == t) x y (rw (eq-eqb b a e, ne_eqb u t ne) refl)
  | inr other ↦ other-record b u a t x y other
]

-- the pointer names x
with-own : (m : Links) (pointer : Pointer) (a x : ℕ) → pointer_in (with_pointer m pointer a x) a pointer ≡ x
with-own m TwinForward a x = cond-true (a == a) x (m.forward a) (eq-eqb a a refl)
with-own m TwinBackward a x = cond-true (a == a) x (m.backward a) (eq-eqb a a refl)
with-own m (FirstChild t) a x = one-at a t a t x (m.first_child a t) refl refl
with-own m (LastChild t) a x = one-at a t a t x (m.last_child a t) refl refl

-- those of other records stay
with-elsewhere : (m : Links) (pointer other : Pointer) (a x b : ℕ) → b ≢ a → pointer_in (with_pointer m pointer a x) b other ≡ pointer_in m b other
with-elsewhere m TwinForward TwinForward a x b ne = cond-false (b == a) x (m.forward b) (ne_eqb b a ne)
with-elsewhere m TwinForward TwinBackward a x b ne = refl
with-elsewhere m TwinForward (FirstChild u) a x b ne = refl
with-elsewhere m TwinForward (LastChild u) a x b ne = refl
with-elsewhere m TwinBackward TwinForward a x b ne = refl
with-elsewhere m TwinBackward TwinBackward a x b ne = cond-false (b == a) x (m.backward b) (ne_eqb b a ne)
with-elsewhere m TwinBackward (FirstChild u) a x b ne = refl
with-elsewhere m TwinBackward (LastChild u) a x b ne = refl
with-elsewhere m (FirstChild t) TwinForward a x b ne = refl
with-elsewhere m (FirstChild t) TwinBackward a x b ne = refl
with-elsewhere m (FirstChild t) (FirstChild u) a x b ne = other-record b u a t x (m.first_child b u) ne
with-elsewhere m (FirstChild t) (LastChild u) a x b ne = refl
with-elsewhere m (LastChild t) TwinForward a x b ne = refl
with-elsewhere m (LastChild t) TwinBackward a x b ne = refl
with-elsewhere m (LastChild t) (FirstChild u) a x b ne = refl
with-elsewhere m (LastChild t) (LastChild u) a x b ne = other-record b u a t x (m.last_child b u) ne

-- and so do the others of the record
pub with-others : (m : Links) (pointer other : Pointer) (a x b : ℕ) → other ≢ pointer → pointer_in (with_pointer m pointer a x) b other ≡ pointer_in m b other
with-others m TwinForward TwinForward a x b ne = absurd (ne refl)
with-others m TwinForward TwinBackward a x b ne = refl
with-others m TwinForward (FirstChild u) a x b ne = refl
with-others m TwinForward (LastChild u) a x b ne = refl
with-others m TwinBackward TwinForward a x b ne = refl
with-others m TwinBackward TwinBackward a x b ne = absurd (ne refl)
with-others m TwinBackward (FirstChild u) a x b ne = refl
with-others m TwinBackward (LastChild u) a x b ne = refl
with-others m (FirstChild t) TwinForward a x b ne = refl
with-others m (FirstChild t) TwinBackward a x b ne = refl
with-others m (FirstChild t) (FirstChild u) a x b ne = other-type b u a t x (m.first_child b u) (λ e. ne (ap FirstChild e))
with-others m (FirstChild t) (LastChild u) a x b ne = refl
with-others m (LastChild t) TwinForward a x b ne = refl
with-others m (LastChild t) TwinBackward a x b ne = refl
with-others m (LastChild t) (FirstChild u) a x b ne = refl
with-others m (LastChild t) (LastChild u) a x b ne = other-type b u a t x (m.last_child b u) (λ e. ne (ap LastChild e))

-- two pointers are one or not
same-pointer : (p q : Pointer) → (p ≡ q) ⊎ (p ≢ q)
same-pointer TwinForward TwinForward = inl refl
same-pointer TwinForward TwinBackward = inr (λ e. cc)
same-pointer TwinForward (FirstChild u) = inr (λ e. cc)
same-pointer TwinForward (LastChild u) = inr (λ e. cc)
same-pointer TwinBackward TwinForward = inr (λ e. cc)
same-pointer TwinBackward TwinBackward = inl refl
same-pointer TwinBackward (FirstChild u) = inr (λ e. cc)
same-pointer TwinBackward (LastChild u) = inr (λ e. cc)
same-pointer (FirstChild t) TwinForward = inr (λ e. cc)
same-pointer (FirstChild t) TwinBackward = inr (λ e. cc)
same-pointer (FirstChild t) (FirstChild u) = elim (cases_eq t u) [ inl e ↦ inl (ap FirstChild e) | inr ne ↦ inr (λ e. ne (cc)) ]
same-pointer (FirstChild t) (LastChild u) = inr (λ e. cc)
same-pointer (LastChild t) TwinForward = inr (λ e. cc)
same-pointer (LastChild t) TwinBackward = inr (λ e. cc)
same-pointer (LastChild t) (FirstChild u) = inr (λ e. cc)
same-pointer (LastChild t) (LastChild u) = elim (cases_eq t u) [ inl e ↦ inl (ap LastChild e) | inr ne ↦ inr (λ e. ne (cc)) ]

-- At the address m2 says all that m says but for one pointer, which names x.
pub record IsSetAt (m m2 : Links) (pointer : Pointer) (a x : ℕ) : Type 0 where
  pub here : m2.here a ≡ m.here a
  pub code : m2.code a ≡ m.code a
  pub bytes : m2.bytes a ≡ m.bytes a
  pub delete_byte : m2.delete_byte a ≡ m.delete_byte a
  pub is : pointer_in m2 a pointer ≡ x
  pub others : (other : Pointer) → other ≢ pointer → pointer_in m2 a other ≡ pointer_in m a other

set-pointers : (m m2 : Links) (pointer : Pointer) (a x : ℕ) → IsSetAt m m2 pointer a x → (other : Pointer)
    → pointer_in m2 a other ≡ pointer_in (with_pointer m pointer a x) a other
set-pointers m m2 pointer a x s other = elim (same-pointer other pointer) [
  | inl e ↦ ap (pointer_in m2 a) e ∙ s.is ∙ sym (ap (pointer_in (with_pointer m pointer a x) a) e ∙ with-own m pointer a x)
  | inr ne ↦ s.others other ne ∙ sym (with-others m pointer other a x a ne)
]

pub set-same : (m m2 : Links) (pointer : Pointer) (a x : ℕ) → IsSetAt m m2 pointer a x → SameAt (with_pointer m pointer a x) m2 a
set-same m m2 pointer a x s = record {
  here = s.here ∙ sym (with-here m pointer a x a);
  code = s.code ∙ sym (with-code m pointer a x a);
  bytes = s.bytes ∙ sym (with-bytes m pointer a x a);
  delete_byte = s.delete_byte ∙ sym (with-delete_byte m pointer a x a);
  pointers = set-pointers m m2 pointer a x s;
}

pub elsewhere-same : (m m2 : Links) (pointer : Pointer) (a x b : ℕ) → b ≢ a → SameAt m m2 b → SameAt (with_pointer m pointer a x) m2 b
elsewhere-same m m2 pointer a x b ne s = record {
  here = s.here ∙ sym (with-here m pointer a x b);
  code = s.code ∙ sym (with-code m pointer a x b);
  bytes = s.bytes ∙ sym (with-bytes m pointer a x b);
  delete_byte = s.delete_byte ∙ sym (with-delete_byte m pointer a x b);
  pointers = λ other. s.pointers other ∙ sym (with-elsewhere m pointer other a x b ne);
}

-- the records have one pointer changed where all others say the same
pub with-same : (m m2 : Links) (pointer : Pointer) (a x : ℕ) → IsSetAt m m2 pointer a x → ((b : ℕ) → b ≢ a → SameAt m m2 b)
    → (b : ℕ) → SameAt (with_pointer m pointer a x) m2 b
with-same m m2 pointer a x s rest b = elim (cases_eq b a) [
  | inl e ↦ subst (λ (k : ℕ). SameAt (with_pointer m pointer a x) m2 k) (sym e) (set-same m m2 pointer a x s)
  | inr ne ↦ elsewhere-same m m2 pointer a x b ne (rest b ne)
]

-- ---- the records of a volume

-- The header's roots are the same.
pub record SameRoots (v w : VolumeState) : Type 0 where
  pub first : (header_of w.image).first_root ≡ (header_of v.image).first_root
  pub last : (header_of w.image).last_root ≡ (header_of v.image).last_root

-- a root, or a child
root-same : (b x y p q : ℕ) → (b ≡ 0 → x ≡ y) → p ≡ q → cond (b == 0) x p ≡ cond (b == 0) y q
root-same b x y p q roots same = elim (cases_eq b 0) [
  | inl e ↦ cond-true (b == 0) x p (eq-eqb b 0 e) ∙ roots e ∙ sym (cond-true (b == 0) y q (eq-eqb b 0 e))
  | inr ne ↦ cond-false (b == 0) x p (ne_eqb b 0 ne) ∙ same ∙ sym (cond-false (b == 0) y q (ne_eqb b 0 ne))
]

-- where the same segment is found at an address, or the header has the same roots, the record there says the same
pub found-same : (types : List SegmentType) (v w : VolumeState) (b : ℕ) → (b ≡ 0 → SameRoots v w) → find w b ≡ find v b → SameAt (links_of types v) (links_of types w) b
found-same types v w b roots e =
    let stored : stored_at w b ≡ stored_at v b = ap (λ o. option_map_or (λ segment. segment) o []) e in
    record {
      here = ap (λ o. b == 0 || is_some o) e;
      code = ap code_of stored;
      bytes = ap (λ s. bytes_of types (code_of s) s) stored;
      delete_byte = ap delete_byte_of stored;
      pointers = same-pointers stored;
    }
  where
    same-pointers : stored_at w b ≡ stored_at v b → (pointer : Pointer) → pointer_in (links_of types w) b pointer ≡ pointer_in (links_of types v) b pointer
    same-pointers stored TwinForward = ap (λ s. pointer_of types (code_of s) TwinForward s) stored
    same-pointers stored TwinBackward = ap (λ s. pointer_of types (code_of s) TwinBackward s) stored
    same-pointers stored (FirstChild t) =
        root-same b (header_of w.image).first_root (header_of v.image).first_root _ _ (λ z. (roots z).first) (ap (λ s. pointer_of types (code_of s) (FirstChild t) s) stored)
    same-pointers stored (LastChild t) =
        root-same b (header_of w.image).last_root (header_of v.image).last_root _ _ (λ z. (roots z).last) (ap (λ s. pointer_of types (code_of s) (LastChild t) s) stored)

pub records-stay : RecordsStay
records-stay types v w segments first last b =
    same-agree types (links_of types v) (links_of types w) b (found-same types v w b (λ _. record { first = first; last = last }) (segments b))
