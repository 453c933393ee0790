-- A segment that is put into a database's volume.
use Rattle.std.proofs.Common.{◌≡◌, ◌≢◌, ℕ, ◌<◌, ◌/◌, List, Bool, true, false, not, ◌&&◌, ◌||◌, ◌==◌, subst, inl, inr, refl, sym, ap, ap₂, ◌∙◌, Option, Some, None, arith, ne_eqb}
use Rattle.std.specs.Prelude.{is_some}
use Rattle.std.proofs.Math.Nat.{zero-div}
use Rattle.std.proofs.lemmas.Bool.{cases_eq, eq-eqb, cond-true, cond-false, false≢true}
use Rattle.hd_dbd.specs.Types.{SegmentType}
use Rattle.hd_volume.specs.Headers.{Header}
use Rattle.hd_volume.specs.Volumes.{VolumeState}
use Rattle.hd_volume.specs.Records.{find}
use Rattle.hd_volume.specs.Calls.{IsPut, IsRewritten}
use Rattle.hd_volume.proofs.MapLemmas.{find-some}
use Rattle.hd_prefix.specs.declared.pointer.Pointer.{Pointer}
use Rattle.hd_prefix.specs.declared.pointer.Pointer.TheVariants.{TwinForward, TwinBackward, FirstChild, LastChild}
use Rattle.hd_links.specs.Links.{Links}
use Rattle.hd_links.specs.Changes.{AgreeAt}
use Rattle.hd_image.specs.Records.{links_of}
use Rattle.hd_image.specs.Pointing.{with_record, without_record}
use Rattle.hd_image.specs.Laws.{PuttingAddsARecord, FreeingTakesARecord, RewritingReplacesARecord}
use Rattle.hd_image.proofs.SameRecords.{SameRoots, SameAt, pointer_in, same-agree, found-same}
use Rattle.hd_image.proofs.Saying.{SaysOf, found-says}
use Rattle.hd_image.proofs.Writes.{roots-stay}

-- a volume that has grown has the same roots
pub put-roots : (v w : VolumeState) (a : ℕ) (s : List ℕ) → IsPut v a s w → SameRoots v w
put-roots v w a s put = record { first = ap (λ (h : Header). h.first_root) put.grows.header; last = ap (λ (h : Header). h.last_root) put.grows.header }

-- no other record changes
pub put-elsewhere : (types : List SegmentType) (v w : VolumeState) (a : ℕ) (s : List ℕ) → IsPut v a s w → (b : ℕ) → b ≢ a → SameAt (links_of types v) (links_of types w) b
put-elsewhere types v w a s put b ne = found-same types v w b (λ _. put-roots v w a s put) (put.others b ne)

-- and there was none at the address
pub put-free : (types : List SegmentType) (v w : VolumeState) (a : ℕ) (s : List ℕ) → 0 < a → IsPut v a s w → (links_of types v).here a ≡ false
put-free types v w a s some put = ap₂ (λ (x : Bool) (o : Option (List ℕ)). x || is_some o) (ne_eqb a 0 (λ e. omega arith)) put.was

-- with one record more, elsewhere all stays
more-elsewhere : (types : List SegmentType) (m m2 : Links) (a : ℕ) (s : List ℕ) (b : ℕ) → b ≢ a → SameAt m m2 b → SameAt (with_record types m a s) m2 b
more-elsewhere types m m2 a s b ne same =
    let off : (b == a) ≡ false = ne_eqb b a ne in
    record {
      here = same.here ∙ sym (ap (λ x. x || m.here b) off);
      code = same.code ∙ sym (cond-false (b == a) _ (m.code b) off);
      bytes = same.bytes ∙ sym (cond-false (b == a) _ (m.bytes b) off);
      delete_byte = same.delete_byte ∙ sym (cond-false (b == a) _ (m.delete_byte b) off);
      pointers = pointers same off;
    }
  where
    pointers : SameAt m m2 b → (b == a) ≡ false → (pointer : Pointer) → pointer_in m2 b pointer ≡ pointer_in (with_record types m a s) b pointer
    pointers same off TwinForward = same.pointers TwinForward ∙ sym (cond-false (b == a) _ (m.forward b) off)
    pointers same off TwinBackward = same.pointers TwinBackward ∙ sym (cond-false (b == a) _ (m.backward b) off)
    pointers same off (FirstChild t) = same.pointers (FirstChild t) ∙ sym (cond-false (b == a) _ (m.first_child b t) off)
    pointers same off (LastChild t) = same.pointers (LastChild t) ∙ sym (cond-false (b == a) _ (m.last_child b t) off)

-- and there stands what the segment says
more-there : (types : List SegmentType) (m m2 : Links) (a : ℕ) (s : List ℕ) → SaysOf types m2 a s → SameAt (with_record types m a s) m2 a
more-there types m m2 a s says =
    let on : (a == a) ≡ true = eq-eqb a a refl in
    record {
      here = says.here ∙ sym (ap (λ x. x || m.here a) on);
      code = says.code ∙ sym (cond-true (a == a) _ (m.code a) on);
      bytes = says.bytes ∙ sym (cond-true (a == a) _ (m.bytes a) on);
      delete_byte = says.delete_byte ∙ sym (cond-true (a == a) _ (m.delete_byte a) on);
      pointers = pointers on;
    }
  where
    pointers : (a == a) ≡ true → (pointer : Pointer) → pointer_in m2 a pointer ≡ pointer_in (with_record types m a s) a pointer
    pointers on TwinForward = says.pointers TwinForward ∙ sym (cond-true (a == a) _ (m.forward a) on)
    pointers on TwinBackward = says.pointers TwinBackward ∙ sym (cond-true (a == a) _ (m.backward a) on)
    pointers on (FirstChild t) = says.pointers (FirstChild t) ∙ sym (cond-true (a == a) _ (m.first_child a t) on)
    pointers on (LastChild t) = says.pointers (LastChild t) ∙ sym (cond-true (a == a) _ (m.last_child a t) on)

-- an address that has a segment is not that of the header
found-later : (v : VolumeState) (a : ℕ) (s : List ℕ) → find v a ≡ Some s → 0 < a
found-later v a s is = elim (cases_eq a 0) [
  | inl e ↦ absurd ((find-some v a s is).later (ap (λ (k : ℕ). k / v.size) e ∙ zero-div v.size))
  | inr ne ↦ omega arith
]

pub putting-adds : PuttingAddsARecord
putting-adds types v w a s some size put =
    let later : 0 < a = found-later w a s put.is in (
      later,
      λ b. same-agree types (with_record types (links_of types v) a s) (links_of types w) b (elim (cases_eq b a) [
        | inl e ↦ subst (λ (k : ℕ). SameAt (with_record types (links_of types v) a s) (links_of types w) k) (sym e)
            (more-there types (links_of types v) (links_of types w) a s (found-says types w a s later put.is))
        | inr ne ↦ more-elsewhere types (links_of types v) (links_of types w) a s b ne (put-elsewhere types v w a s put b ne)
      ]),
    )

-- ---- a segment that is freed

-- with one record less, elsewhere all stays
less-elsewhere : (m m2 : Links) (a b : ℕ) → b ≢ a → SameAt m m2 b → SameAt (without_record m a) m2 b
less-elsewhere m m2 a b ne same = record {
  here = same.here ∙ sym (ap (λ x. not x && m.here b) (ne_eqb b a ne));
  code = same.code;
  bytes = same.bytes;
  delete_byte = same.delete_byte;
  pointers = pointers;
}
  where
    pointers : (pointer : Pointer) → pointer_in m2 b pointer ≡ pointer_in (without_record m a) b pointer
    pointers TwinForward = same.pointers TwinForward
    pointers TwinBackward = same.pointers TwinBackward
    pointers (FirstChild t) = same.pointers (FirstChild t)
    pointers (LastChild t) = same.pointers (LastChild t)

-- no record stands at an address
none-there : (types : List SegmentType) (m m2 : Links) (a : ℕ) → m.here a ≡ false → m2.here a ≡ false → AgreeAt types m m2 a
none-there types m m2 a none gone = record {
  here = gone ∙ sym none;
  code = λ h. no (sym none ∙ h);
  bytes = λ s. no (sym none ∙ s.here);
  delete_byte = λ s. no (sym none ∙ s.here);
  forward = λ s. no (sym none ∙ s.here);
  backward = λ s _. no (sym none ∙ s.here);
  first_child = λ t h _. no (sym none ∙ h);
  last_child = λ t h _ _. no (sym none ∙ h);
}
  where
    no : {A : Type 0} → false ≡ true → A
    no e = absurd (false≢true e)

-- where a segment was freed there is none
less-here : (m : Links) (a : ℕ) → (without_record m a).here a ≡ false
less-here m a = ap (λ x. not x && m.here a) (eq-eqb a a refl)

-- where no segment is found, there is no record behind the header
pub not-here : (types : List SegmentType) (v : VolumeState) (a : ℕ) → 0 < a → find v a ≡ None → (links_of types v).here a ≡ false
not-here types v a some gone = ap₂ (λ (x : Bool) (o : Option (List ℕ)). x || is_some o) (ne_eqb a 0 (λ e. omega arith)) gone

pub freeing-takes : FreeingTakesARecord
freeing-takes types v w a s freed b = elim (cases_eq b a) [
  | inl e ↦ subst (λ (k : ℕ). AgreeAt types (without_record (links_of types v) a) (links_of types w) k) (sym e)
      (none-there types (without_record (links_of types v) a) (links_of types w) a (less-here (links_of types v) a) (not-here types w a s.some freed.gone))
  | inr ne ↦ same-agree types (without_record (links_of types v) a) (links_of types w) b
      (less-elsewhere (links_of types v) (links_of types w) a b ne (found-same types v w b (λ _. roots-stay v w freed.header) (freed.others b ne)))
]

-- ---- a segment that is replaced

rewritten-roots : (v w : VolumeState) (a to : ℕ) (s : List ℕ) → IsRewritten v a to s w → SameRoots v w
rewritten-roots v w a to s r = record { first = ap (λ (h : Header). h.first_root) r.grows.header; last = ap (λ (h : Header). h.last_root) r.grows.header }

pub rewriting-replaces : RewritingReplacesARecord
rewriting-replaces types v w a to s segment r =
    let m : Links = links_of types v in
    let m2 : Links = links_of types w in
    let less : Links = without_record m a in
    let later : 0 < to = found-later w to s r.is in (
      later,
      λ b. elim (cases_eq b to) [
        | inl e ↦ subst (λ (k : ℕ). AgreeAt types (with_record types less to s) m2 k) (sym e)
            (same-agree types (with_record types less to s) m2 to (more-there types less m2 to s (found-says types w to s later r.is)))
        | inr other ↦ elim (cases_eq b a) [
          | inl e ↦
              let moved : a ≢ to = λ f. other (e ∙ f) in
              let none : (with_record types less to s).here a ≡ false = ap (λ (x : Bool). x || less.here a) (ne_eqb a to moved) ∙ less-here m a in
              subst (λ (k : ℕ). AgreeAt types (with_record types less to s) m2 k) (sym e)
              (none-there types (with_record types less to s) m2 a none (not-here types w a segment.some (r.gone (λ f. moved (sym f))).1))
          | inr ne ↦ same-agree types (with_record types less to s) m2 b
              (more-elsewhere types less m2 to s b other (less-elsewhere m m2 a b ne (found-same types v w b (λ _. rewritten-roots v w a to s r) (r.others b ne other))))
        ]
      ],
    )
