-- The pointers to children that are read of a segment, by its records.
use Rattle.std.proofs.Common.{◌≡◌, ◌≢◌, ℕ, List, Bool, true, false, refl, sym, ap, ◌∙◌, ne_eqb}
use Rattle.std.specs.Prelude.{◌&&◌, ◌==◌}
use Rattle.std.proofs.lemmas.Bool.{cond-false}
use Rattle.hd_dbd.specs.Types.{SegmentType}
use Rattle.hd_dbd.specs.Prefixes.{is_backward_kept}
use Rattle.hd_volume.specs.Volumes.{VolumeState}
use Rattle.hd_prefix.specs.declared.pointer.Pointer.{Pointer}
use Rattle.hd_prefix.specs.declared.pointer.Pointer.TheVariants.{TwinForward, TwinBackward, FirstChild, LastChild}
use Rattle.hd_prefix.specs.Fields.{code_of, pointer_of}
use Rattle.hd_prefix.specs.Pointers as prefix
use Rattle.hd_prefix.proofs.Numbers.{has_pointers}
use Rattle.hd_links.specs.Links.{is_last_kept}
use Rattle.hd_image.specs.Records.{links_of, stored_at, pointer_at}

-- what is read of a segment is what its record says
read-at : (types : List SegmentType) (v : VolumeState) (a code : ℕ) (segment : List ℕ) (pointer : Pointer) → stored_at v a ≡ segment → code ≡ code_of segment
    → pointer_of types code pointer segment ≡ pointer_at types v pointer a
read-at types v a code segment pointer stored own =
    ap (λ (c : ℕ). pointer_of types c pointer segment) own ∙ ap (λ (s : List ℕ). pointer_of types (code_of s) pointer s) (sym stored)

-- the first child that is read is that of the record
pub first-read : (types : List SegmentType) (v : VolumeState) (a t code : ℕ) (segment : List ℕ) (x : ℕ) → a ≢ 0 → stored_at v a ≡ segment → code ≡ code_of segment
    → x ≡ pointer_of types code (FirstChild t) segment → x ≡ (links_of types v).first_child a t
first-read types v a t code segment x some stored own is = is ∙ read-at types v a code segment (FirstChild t) stored own ∙ sym (cond-false (a == 0) _ (pointer_at types v (FirstChild t) a) (ne_eqb a 0 some))

-- and so is the last child
pub last-read : (types : List SegmentType) (v : VolumeState) (a t code : ℕ) (segment : List ℕ) (x : ℕ) → a ≢ 0 → stored_at v a ≡ segment → code ≡ code_of segment
    → x ≡ pointer_of types code (LastChild t) segment → x ≡ (links_of types v).last_child a t
last-read types v a t code segment x some stored own is = is ∙ read-at types v a code segment (LastChild t) stored own ∙ sym (cond-false (a == 0) _ (pointer_at types v (LastChild t) a) (ne_eqb a 0 some))

-- nothing and something is nothing
and-none : (b : Bool) → (b && false) ≡ false
and-none true = refl
and-none false = refl

-- a last child that is not kept reads as 0
pub last-unkept : (types : List SegmentType) (t code : ℕ) (segment : List ℕ) (x : ℕ) → x ≡ pointer_of types code (LastChild t) segment → is_last_kept types t ≡ false → x ≡ 0
last-unkept types t code segment x is other =
    let none : (prefix.is_child types code t && is_last_kept types t) ≡ false =
    ap (λ b. prefix.is_child types code t && b) other ∙ and-none (prefix.is_child types code t) in
    is ∙ (has_pointers types code segment).last_child t ∙ cond-false _ _ _ none

-- the code of a record is that of its segment
pub code-read : (types : List SegmentType) (v : VolumeState) (a code : ℕ) (segment : List ℕ) → stored_at v a ≡ segment → code ≡ code_of segment → code ≡ (links_of types v).code a
code-read types v a code segment stored own = own ∙ ap code_of (sym stored)

-- the twin forward that is read is that of the record
pub forward-read : (types : List SegmentType) (v : VolumeState) (a code : ℕ) (segment : List ℕ) (x : ℕ) → stored_at v a ≡ segment → code ≡ code_of segment
    → x ≡ pointer_of types code TwinForward segment → x ≡ (links_of types v).forward a
forward-read types v a code segment x stored own is = is ∙ read-at types v a code segment TwinForward stored own

-- and so is the twin backward
pub backward-read : (types : List SegmentType) (v : VolumeState) (a code : ℕ) (segment : List ℕ) (x : ℕ) → stored_at v a ≡ segment → code ≡ code_of segment
    → x ≡ pointer_of types code TwinBackward segment → x ≡ (links_of types v).backward a
backward-read types v a code segment x stored own is = is ∙ read-at types v a code segment TwinBackward stored own

-- a twin backward that is not kept reads as 0
pub backward-unkept : (types : List SegmentType) (code : ℕ) (segment : List ℕ) (x : ℕ) → x ≡ pointer_of types code TwinBackward segment → is_backward_kept types code ≡ false → x ≡ 0
backward-unkept types code segment x is other = is ∙ (has_pointers types code segment).backward ∙ cond-false _ _ _ other
