-- What is read and noted of a segment that is lent.
use Rattle.std.proofs.Common.{◌≡◌, ℕ, ◌+◌, ◌<◌, ◌≤◌, List, [], ◌∷◌, ◌++◌, length, Bool, true, false, cond, Option, Some, None, IsTrue, refl, sym, ap, ap₂, subst, ◌∙◌, arith}
use Rattle.std.specs.Prelude.{◌==◌, slice_index}
use Rattle.std.specs.List.{list_any}
use Rattle.std.specs.Option.{option_map_or}
use Rattle.std.proofs.lemmas.Bool.{ne_eqb, false≢true}
use Rattle.std.proofs.lemmas.List.{length-append, length-map, get_or-append-add, get_or-map}
use Rattle.hd_dbd.specs.Types.{SegmentType}
use Rattle.hd_dbd.specs.Hierarchy.{Database, type_of}
use Rattle.hd_dbd.specs.DatabaseRules.{well_formed}
use Rattle.hd_dbd.specs.Prefixes.{children_of, prefix_length, is_backward_kept}
use Rattle.hd_bytes.specs.Numbers.{number_at}
use Rattle.hd_volume.specs.Volumes.{VolumeState}
use Rattle.hd_prefix.specs.declared.pointer.Pointer.{Pointer}
use Rattle.hd_prefix.specs.declared.pointer.Pointer.TheVariants.{TwinForward, TwinBackward, FirstChild, LastChild}
use Rattle.hd_prefix.specs.Fields.{code_of, twin_forward_of, pointer_of, twins_end, NamesNoChildren}
use Rattle.hd_prefix.proofs.Places.{forward_kept}
use Rattle.hd_prefix.proofs.Childless.{first-none, last-none}
use Rattle.hd_links.specs.Links.{child_types}
use Rattle.hd_image.specs.Records.{links_of}
use Rattle.hd_check_blocks.specs.Lending.{IsLent}
use Rattle.hd_check_pointers.proofs.ChildPointers.{first-read, last-read}
use Rattle.hd_check_pointers.proofs.LastChildren.{listed}
use Rattle.hd_check_walk.specs.declared.notes.Named.{Named}
use Rattle.hd_check_walk.specs.Reading.{IsChildless}
use Rattle.hd_check_walk.specs.Notes.{named_in, named_at, named_of, HasChildrenAt}

-- the bytes of a segment name no children of a type
abbrev pub NamesNone : List SegmentType → ℕ → List ℕ → ℕ → Type 0
NamesNone types code segment t = (pointer_of types code (FirstChild t) segment ≡ 0) × (pointer_of types code (LastChild t) segment ≡ 0)

-- what is read by a layout of a type of a database is what is read by its types and code
pub layout-read : (types us : List SegmentType) (code k : ℕ) (pointer : Pointer) (segment : List ℕ) (x : ℕ) → us ≡ types → k ≡ code → x ≡ pointer_of us k pointer segment → x ≡ pointer_of types code pointer segment
layout-read types us code k pointer segment x same own is = is ∙ ap₂ (λ (ts : List SegmentType) (c : ℕ). pointer_of ts c pointer segment) same own

-- there is no prefix without a type
prefix-typed : (prefix : SegmentType → ℕ) (o : Option SegmentType) → 6 ≤ option_map_or prefix o 0 → (own : SegmentType) × (o ≡ Some own)
prefix-typed prefix None low = absurd (omega arith)
prefix-typed prefix (Some own) low = (own, refl)

-- the twin forward that stands behind the delete byte is that of a type
pub forward-kept : (types : List SegmentType) (code : ℕ) (segment : List ℕ) → 6 ≤ prefix_length types code → pointer_of types code TwinForward segment ≡ twin_forward_of segment
forward-kept types code segment low =
    let own = prefix-typed _ (type_of types code) low in
    (forward_kept types code own.0 segment own.1).1

-- there is a twin forward before the twin pointers end
pub twins-least : (types : List SegmentType) (code : ℕ) → 6 ≤ twins_end types code
twins-least types code = by-kept (is_backward_kept types code)
  where
    by-kept : (kept : Bool) → 6 ≤ cond kept 10 6
    by-kept true = omega arith
    by-kept false = omega arith

-- the twin backward that stands behind the twin forward is that of a type that keeps it
pub backward-kept : (types : List SegmentType) (code : ℕ) (segment : List ℕ) (end x : ℕ) → end ≡ twins_end types code → (10 ≤ end → x ≡ number_at 4 segment 6) → (end < 10 → x ≡ 0)
    → x ≡ pointer_of types code TwinBackward segment
backward-kept types code segment end x is = by-kept (is_backward_kept types code) is
  where
    by-kept : (kept : Bool) → end ≡ cond kept 10 6 → (10 ≤ end → x ≡ number_at 4 segment 6) → (end < 10 → x ≡ 0)
        → x ≡ option_map_or (λ place. number_at 4 segment place) (cond kept (Some 6) None) 0
    by-kept true e there none = there (omega arith)
    by-kept false e there none = none (omega arith)

-- a segment whose prefix is 0 behind the twin pointers names no children
pub names-none : (d : Database) (code : ℕ) (segment : List ℕ) → IsTrue (well_formed d.block_size d.frspc d.types) → NamesNoChildren d.types code segment
    → (t : ℕ) → NamesNone d.types code segment t
names-none d code segment fit zeros t = (first-none d.block_size d.frspc d.types code segment t fit zeros, last-none d.block_size d.frspc d.types code segment t fit zeros)

module _ (types : List SegmentType) (v : VolumeState) (a code : ℕ) (segment : List ℕ) (lent : IsLent types v a segment) (coded : (links_of types v).code a ≡ code) where
  -- the code of a segment that is lent is that of its bytes
  pub lent-own : code ≡ code_of segment
  lent-own = sym coded ∙ ap code_of lent.stored

  -- a first child that is read of a segment that is lent is that of its record
  pub first-lent : (t x : ℕ) → x ≡ pointer_of types code (FirstChild t) segment → x ≡ (links_of types v).first_child a t
  first-lent t x is = first-read types v a t code segment x lent.some lent.stored lent-own is

  -- and so is a last child
  pub last-lent : (t x : ℕ) → x ≡ pointer_of types code (LastChild t) segment → x ≡ (links_of types v).last_child a t
  last-lent t x is = last-read types v a t code segment x lent.some lent.stored lent-own is

  -- a segment whose bytes name no children names none
  pub childless : ((t : ℕ) → NamesNone types code segment t) → IsChildless types (links_of types v) a
  childless none t child = (
    sym (first-lent t (pointer_of types code (FirstChild t) segment) refl) ∙ (none t).0,
    sym (last-lent t (pointer_of types code (LastChild t) segment) refl) ∙ (none t).1,
  )

  -- its child types are those that are listed for its code
  pub lent-types : child_types types ((links_of types v).code a) ≡ children_of types code
  lent-types = ap (child_types types) coded ∙ listed types code (children_of types code) (λ z. lent.typed (sym lent-own ∙ z)) refl

  -- a segment of a type without child types names none
  pub leaf-childless : (length (children_of types code) == 0) ≡ true → IsChildless types (links_of types v) a
  leaf-childless none t child = absurd (no-type (children_of types code) none (sym (ap (list_any (λ u. u == t)) lent-types) ∙ child))
    where
      no-type : (xs : List ℕ) → (length xs == 0) ≡ true → list_any (λ u. u == t) xs ≡ true → ⊥
      no-type [] e any = false≢true any
      no-type (x ∷ xs) e any = false≢true (sym (ne_eqb (length (x ∷ xs)) 0 (λ (z : length (x ∷ xs) ≡ 0). omega arith)) ∙ e)

  -- what is noted behind others of the children that its bytes name is what its record names
  pub has-children : (xs ys : List Named) (p : ℕ) → p ≡ length xs → ys ≡ xs ++ named_in types code segment (children_of types code) → HasChildrenAt types (links_of types v) ys p a
  has-children xs ys p start is = subst (λ (l : List Named). HasChildrenAt types (links_of types v) l p a) (sym is) (record {
    within = (let long = length-append xs (named_in types code segment (children_of types code)) in
        let many : length (named_in types code segment (children_of types code)) ≡ length (children_of types code) = length-map (children_of types code) _ in
        let all = ap length lent-types in omega arith);
    each = λ j low.
        (let ts : List ℕ = children_of types code in
        let t : ℕ = slice_index ts j in
        let within : j < length ts = subst (λ (us : List ℕ). j < length us) lent-types low in
        let read : Named = record { first = pointer_of types code (FirstChild t) segment; last = pointer_of types code (LastChild t) segment } in
        let at : named_at (xs ++ named_in types code segment ts) (p + j) ≡ read =
        ap (λ (k : ℕ). named_at (xs ++ named_in types code segment ts) (k + j)) start ∙ get_or-append-add xs (named_in types code segment ts) j _ ∙ get_or-map _ ts j 0 _ within in
        at ∙ ap₂ (λ (f l : ℕ). record { first = f; last = l }) (first-lent t read.first refl) (last-lent t read.last refl)
        ∙ ap (λ (us : List ℕ). named_of (links_of types v) a (slice_index us j)) (sym lent-types));
  })
