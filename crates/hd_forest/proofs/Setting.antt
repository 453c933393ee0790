-- A pointer that is written into a segment or into the header.
use Rattle.std.proofs.Common.{◌≡◌, ◌≢◌, ℕ, ◌+◌, ◌≤◌, List, [], ◌∷◌, length, Bool, true, false, ◌&&◌, ◌==◌, cond, refl, sym, ap, ap₂, subst, ◌∙◌, arith, inl, inr, Option, Some, None, IsTrue, ne_eqb}
use Rattle.std.specs.Prelude.{option_map}
use Rattle.std.specs.List.{list_any}
use Rattle.std.specs.Option.{option_map_or, unwrap_or}
use Rattle.std.proofs.Math.Bool.{or-false}
use Rattle.std.proofs.lemmas.Bool.{cases_eq, eq-eqb, eqb-true, cond-false, false≢true}
use Rattle.hd_bytes.specs.Numbers.{number_at}
use Rattle.hd_dbd.specs.declared.hierarchy.FreeSpace.{FreeSpace}
use Rattle.hd_dbd.specs.Types.{SegmentType}
use Rattle.hd_dbd.specs.Hierarchy.{Database, type_of, parent_of}
use Rattle.hd_dbd.specs.Prefixes.{is_backward_kept, prefix_length, pointers_at, children_of}
use Rattle.hd_dbd.specs.DatabaseRules.{well_formed}
use Rattle.hd_dbd.proofs.Levels.{type_of-zero}
use Rattle.hd_dbd.proofs.Fitting.{types_fit, type_of-fits, parent_part, IsEarlier}
use Rattle.hd_volume.specs.Headers.{header_of}
use Rattle.hd_volume.specs.Volumes.{VolumeState}
use Rattle.hd_volume.specs.Calls.{IsWritten, HasNewHeader, HasSegment}
use Rattle.hd_prefix.specs.declared.pointer.Pointer.{Pointer}
use Rattle.hd_prefix.specs.declared.pointer.Pointer.TheVariants.{TwinForward, TwinBackward, FirstChild, LastChild}
use Rattle.hd_prefix.specs.Pointers.{is_child, place_of}
use Rattle.hd_volume.specs.Records.{find}
use Rattle.hd_prefix.specs.Fields.{code_of}
use Rattle.hd_prefix.proofs.Listed.{children_listed}
use Rattle.hd_prefix.proofs.Children.{child_is}
use Rattle.hd_links.specs.Links.{Links, IsSegment, is_child_type, is_last_kept}
use Rattle.hd_links.specs.Changes.{Agree}
use Rattle.hd_image.specs.Records.{links_of, IsVolumeOf}
use Rattle.hd_image.specs.Pointing.{with_pointer}
use Rattle.hd_image.specs.Laws.{IsDatabase}
use Rattle.hd_image.proofs.Roots.{setting-root}
use Rattle.hd_image.proofs.Found.{HasSegmentOf, segment-found, stored-found}
use Rattle.hd_image.proofs.Writes.{writing-sets}
use Rattle.hd_forest.specs.Sets.{IsRecorded}
use Rattle.hd_forest.proofs.Keeping.{keeps-refl, keeps-rooted, keeps-written}

-- ---- a pointer that no record keeps

-- the record at a does not keep the pointer
abbrev pub IsIdle : List SegmentType → Links → Pointer → ℕ → Type 0
IsIdle types m TwinForward a = IsSegment m a → ⊥
IsIdle types m TwinBackward a = IsSegment m a → is_backward_kept types (m.code a) ≡ true → ⊥
IsIdle types m (FirstChild t) a = is_child_type types (m.code a) t ≡ true → ⊥
IsIdle types m (LastChild t) a = is_child_type types (m.code a) t ≡ true → is_last_kept types t ≡ true → ⊥

-- a number that is changed elsewhere
elsewhere : (b a x y : ℕ) → (b ≡ a → ⊥) → y ≡ cond (b == a) x y
elsewhere b a x y ne = sym (cond-false (b == a) x y (ne_eqb b a ne))

elsewhere-both : (b u a t x y : ℕ) → (b ≡ a → u ≡ t → ⊥) → y ≡ cond (b == a && u == t) x y
elsewhere-both b u a t x y ne = elim (cases_eq b a) [
  | inl e ↦ sym (cond-false (b == a && u == t) x y (rw (eq-eqb b a e, ne_eqb u t (ne e)) refl))
  | inr other ↦ sym (cond-false (b == a && u == t) x y (rw (ne_eqb b a other) refl))
]

-- an address that is written there changes nothing that is kept
pub idle-agrees : (types : List SegmentType) (m : Links) (pointer : Pointer) (a x : ℕ) → IsIdle types m pointer a → Agree types (with_pointer m pointer a x) m
idle-agrees types m TwinForward a x idle b = record {
  here = refl;
  code = λ _. refl;
  bytes = λ _. refl;
  delete_byte = λ _. refl;
  forward = λ s. elsewhere b a x (m.forward b) (λ e. idle (subst (λ (k : ℕ). IsSegment m k) e (record { some = s.some; here = s.here })));
  backward = λ _ _. refl;
  first_child = λ t _ _. refl;
  last_child = λ t _ _ _. refl;
}
idle-agrees types m TwinBackward a x idle b = record {
  here = refl;
  code = λ _. refl;
  bytes = λ _. refl;
  delete_byte = λ _. refl;
  forward = λ _. refl;
  backward = λ s kept. elsewhere b a x (m.backward b)
      (λ e. idle (subst (λ (k : ℕ). IsSegment m k) e (record { some = s.some; here = s.here })) (ap (λ (k : ℕ). is_backward_kept types (m.code k)) (sym e) ∙ kept));
  first_child = λ t _ _. refl;
  last_child = λ t _ _ _. refl;
}
idle-agrees types m (FirstChild t) a x idle b = record {
  here = refl;
  code = λ _. refl;
  bytes = λ _. refl;
  delete_byte = λ _. refl;
  forward = λ _. refl;
  backward = λ _ _. refl;
  first_child = λ u _ child. elsewhere-both b u a t x (m.first_child b u) (λ e f. idle (ap₂ (λ (k n : ℕ). is_child_type types (m.code k) n) (sym e) (sym f) ∙ child));
  last_child = λ t _ _ _. refl;
}
idle-agrees types m (LastChild t) a x idle b = record {
  here = refl;
  code = λ _. refl;
  bytes = λ _. refl;
  delete_byte = λ _. refl;
  forward = λ _. refl;
  backward = λ _ _. refl;
  first_child = λ t _ _. refl;
  last_child = λ u _ child kept. elsewhere-both b u a t x (m.last_child b u)
      (λ e f. idle (ap₂ (λ (k n : ℕ). is_child_type types (m.code k) n) (sym e) (sym f) ∙ child) (ap (is_last_kept types) (sym f) ∙ kept));
}

-- nothing is written
pub recorded-idle : (d : Database) (v : VolumeState) (pointer : Pointer) (a x : ℕ) → IsVolumeOf d v → IsIdle d.types (links_of d.types v) pointer a
    → IsRecorded d v (with_pointer (links_of d.types v) pointer a x) v
recorded-idle d v pointer a x of idle = record { volume = of; records = idle-agrees d.types (links_of d.types v) pointer a x idle; keeps = keeps-refl v }

-- ---- the header

-- a pointer that names a child type of code 1
pub is-one : {A : Type 0} (f : ℕ → A) (p : A) (n x : ℕ) → p ≡ f n → x ≡ n → x ≡ 1 → p ≡ f 1
is-one f p n x is named one = is ∙ ap f (sym named ∙ one)

pub recorded-first : (d : Database) (v w : VolumeState) (x : ℕ) → IsVolumeOf d v → w ≡ record v { image = w.image }
    → HasNewHeader v (record (header_of v.image) { first_root = x }) w → IsRecorded d v (with_pointer (links_of d.types v) (FirstChild 1) 0 x) w
recorded-first d v w x of rest h = record {
  volume = record { fit = of.fit; formatted = h.formatted of.formatted; size = ap (λ (u : VolumeState). u.size) rest ∙ of.size; sizes = ap (λ (u : VolumeState). u.sizes) rest ∙ of.sizes };
  records = (setting-root d.types v w x).0 h;
  keeps = keeps-rooted v w x (header_of v.image).last_root (ap (λ (u : VolumeState). u.size) rest) h;
}

pub recorded-last : (d : Database) (v w : VolumeState) (x : ℕ) → IsVolumeOf d v → w ≡ record v { image = w.image }
    → HasNewHeader v (record (header_of v.image) { last_root = x }) w → IsRecorded d v (with_pointer (links_of d.types v) (LastChild 1) 0 x) w
recorded-last d v w x of rest h = record {
  volume = record { fit = of.fit; formatted = h.formatted of.formatted; size = ap (λ (u : VolumeState). u.size) rest ∙ of.size; sizes = ap (λ (u : VolumeState). u.sizes) rest ∙ of.sizes };
  records = (setting-root d.types v w x).1 h;
  keeps = keeps-rooted v w (header_of v.image).first_root x (ap (λ (u : VolumeState). u.size) rest) h;
}

-- ---- a segment

-- the root has no parent
root-alone : (block_size : ℕ) (frspc : FreeSpace) (types : List SegmentType) (c : ℕ) → IsTrue (well_formed block_size frspc types) → is_child types c 1 ≡ true → ⊥
root-alone block_size frspc types c fit child =
    let all = types_fit block_size frspc types fit in
    let k = child_is block_size types c 1 all child in
    by k.own.parent (parent_part block_size types 1 k.own (type_of-fits block_size types 1 k.own all k.is)) k.child
  where
    by : (o : Option ℕ) → IsEarlier o 1 → option_map_or (λ q. q == c) o false ≡ true → ⊥
    by None early h = false≢true h
    by (Some p) early h = let low = early.0 in let high = early.1 in omega arith

-- a child type of a type is listed among its children
child-listed : (types : List SegmentType) (c t : ℕ) → c ≢ 0 → is_child_type types c t ≡ true → is_child types c t ≡ true
child-listed types c t some h =
    sym (children_listed types c t) ∙ ap (λ (ts : List ℕ). list_any (λ u. u == t) ts) (sym (cond-false (c == 0) (1 ∷ []) (children_of types c) (ne_eqb c 0 some))) ∙ h

-- a place that is none is not kept
pub no-place : {A : Type 0} (b : Bool) (x : A) → cond b (Some x) None ≡ None → b ≡ true → ⊥
no-place true x e h = cc
no-place false x e h = cc

no-type : {A : Type 0} {B : Type 0} (o : Option A) (f : A → B) (x : A) → o ≡ Some x → option_map f o ≡ None → ⊥
no-type None f x is e = cc
no-type (Some y) f x is e = cc

-- a pointer that has no place is not kept
pub unkept-idle : (d : Database) (v : VolumeState) (a c : ℕ) (pointer : Pointer) → IsDatabase d → IsVolumeOf d v → IsSegment (links_of d.types v) a
    → (links_of d.types v).code a ≡ c → place_of d.types c pointer ≡ None → IsIdle d.types (links_of d.types v) pointer a
unkept-idle d v a c pointer fit of s is none = by pointer none
  where
    h : HasSegmentOf d v a
    h = segment-found d v a fit of s

    none-of : {A : Type 0} {o : Option A} {x : A} (n : ℕ) → o ≡ None → o ≡ Some x → ⊥
    none-of n e f = cc

    typed : type_of d.types c ≡ Some h.own
    typed = ap (type_of d.types) (sym is ∙ ap code_of (stored-found d v a h)) ∙ h.typed

    some : c ≢ 0
    some e = none-of 0 (type_of-zero d.types c e) typed

    by : (p : Pointer) → place_of d.types c p ≡ None → IsIdle d.types (links_of d.types v) p a
    by TwinForward e = λ _. no-type (type_of d.types c) (λ _. 2) h.own typed e
    by TwinBackward e = λ _ kept. no-place (is_backward_kept d.types c) 6 e (ap (is_backward_kept d.types) (sym is) ∙ kept)
    by (FirstChild t) e = λ child. no-place (is_child d.types c t) (pointers_at d.types t) e (child-listed d.types c t some (ap (λ k. is_child_type d.types k t) (sym is) ∙ child))
    by (LastChild t) e = λ child kept. (
        let own : is_child d.types c t ≡ true = child-listed d.types c t some (ap (λ k. is_child_type d.types k t) (sym is) ∙ child) in
        no-place (is_child d.types c t && is_last_kept d.types t) (pointers_at d.types t + 4) e
        (ap₂ (λ x y. x && y) own kept)
        )

-- there is room for four bytes at the place of a pointer
pub pointer-room : (d : Database) (v : VolumeState) (a c place n : ℕ) → IsDatabase d → IsVolumeOf d v → IsSegment (links_of d.types v) a
    → (links_of d.types v).code a ≡ c → place + 4 ≤ prefix_length d.types c → n ≡ 4 → HasSegment v a (place + n)
pointer-room d v a c place n fit of s is inside four =
    let h = segment-found d v a fit of s in
    let code : c ≡ code_of h.bytes = sym is ∙ ap code_of (stored-found d v a h) in
    record { bytes = h.bytes; is = h.is; long = room _ _ _ _ _ _ inside (ap (prefix_length d.types) code) h.whole four }
  where
    room : (place p q m n l : ℕ) → place + 4 ≤ p → p ≡ q → q + m ≤ l → n ≡ 4 → place + n ≤ l
    room place p q m n l e f g h = omega arith

-- which lie in its prefix
pub pointer-inside : (types : List SegmentType) (v : VolumeState) (a c place n : ℕ) → (links_of types v).code a ≡ c → place + 4 ≤ prefix_length types c → n ≡ 4
    → (s : List ℕ) → find v a ≡ Some s → place + n ≤ prefix_length types (code_of s)
pointer-inside types v a c place n is inside four s found =
    let code : c ≡ code_of s = sym is ∙ ap (λ (o : Option (List ℕ)). code_of (option_map_or (λ x. x) o [])) found in
    inner _ _ _ _ inside (ap (prefix_length types) code) four
  where
    inner : (place p q n : ℕ) → place + 4 ≤ p → p ≡ q → n ≡ 4 → place + n ≤ q
    inner place p q n e f g = omega arith

pub recorded-written : (d : Database) (v w : VolumeState) (pointer : Pointer) (a c place x : ℕ) (bytes : List ℕ) → IsDatabase d → IsVolumeOf d v → w.size ≡ v.size → w.sizes ≡ v.sizes
    → IsSegment (links_of d.types v) a → (links_of d.types v).code a ≡ c → place_of d.types c pointer ≡ Some place → length bytes ≡ 4 → number_at 4 bytes 0 ≡ x
    → IsWritten v a place bytes w → IsRecorded d v (with_pointer (links_of d.types v) pointer a x) w
recorded-written d v w pointer a c place x bytes fit of size sizes s is at four number written =
    let h = segment-found d v a fit of s in
    let after : IsVolumeOf d w = record { fit = of.fit; formatted = written.formatted; size = size ∙ of.size; sizes = sizes ∙ of.sizes } in
    record {
      volume = after;
      records = subst (λ (y : ℕ). Agree d.types (with_pointer (links_of d.types v) pointer a y) (links_of d.types w)) number
          (writing-sets d v w pointer a place bytes fit of after s (ap (λ k. place_of d.types k pointer) is ∙ at) four written);
      keeps = keeps-written v w a place bytes h.bytes of.formatted size h.is written;
    }

-- ---- the code of a parent

-- the parent of a child type, 0 for the header
pub parent-of-child : (block_size : ℕ) (frspc : FreeSpace) (types : List SegmentType) (c t : ℕ) → IsTrue (well_formed block_size frspc types)
    → is_child_type types c t ≡ true → unwrap_or (parent_of types t) 0 ≡ c
parent-of-child block_size frspc types c t fit h = elim (cases_eq c 0) [
  | inl z ↦
      (let root : t ≡ 1 = root-type t (ap (λ k. is_child_type types k t) (sym z) ∙ h) in
      ap (λ k. unwrap_or (parent_of types k) 0) root ∙ no-parent (parent_of types 1) refl ∙ sym z)
  | inr some ↦ named (parent_of types t) (child-listed types c t some h)
]
  where
    root-type : (t : ℕ) → is_child_type types 0 t ≡ true → t ≡ 1
    root-type t h = sym (eqb-true 1 t (sym (or-false (1 == t)) ∙ h))

    no-parent : (o : Option ℕ) → parent_of types 1 ≡ o → unwrap_or o 0 ≡ 0
    no-parent None e = refl
    no-parent (Some p) e = absurd (root-alone block_size frspc types p fit (ap (λ o. option_map_or (λ q. q == p) o false) e ∙ eq-eqb p p refl))

    named : (o : Option ℕ) → option_map_or (λ p. p == c) o false ≡ true → unwrap_or o 0 ≡ c
    named None e = absurd (false≢true e)
    named (Some p) e = eqb-true p c e

-- what stands behind a twin
pub at-twin : {A : Type 0} (y : ℕ) (P : A → Type 0) (m n : A) → (y ≡ 0 → ⊥) → P n → P (cond (y == 0) m n)
at-twin y P m n some h = subst P (sym (cond-false (y == 0) m n (ne_eqb y 0 some))) h
