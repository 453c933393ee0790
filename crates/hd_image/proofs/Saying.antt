-- What a record says that stands for a stored segment.
use Rattle.std.proofs.Common.{◌≡◌, ℕ, ◌<◌, List, [], Bool, true, ◌||◌, ◌==◌, ap, ap₂, ◌∙◌, Option, Some, arith, ne_eqb}
use Rattle.std.specs.Prelude.{is_some}
use Rattle.std.specs.Option.{option_map_or}
use Rattle.std.proofs.lemmas.Bool.{cond-false}
use Rattle.hd_dbd.specs.Types.{SegmentType}
use Rattle.hd_volume.specs.Headers.{header_of}
use Rattle.hd_volume.specs.Volumes.{VolumeState}
use Rattle.hd_volume.specs.Records.{find}
use Rattle.hd_prefix.specs.declared.pointer.Pointer.{Pointer}
use Rattle.hd_prefix.specs.declared.pointer.Pointer.TheVariants.{TwinForward, TwinBackward, FirstChild, LastChild}
use Rattle.hd_prefix.specs.Fields.{code_of, delete_byte_of, pointer_of, bytes_of}
use Rattle.hd_links.specs.Links.{Links}
use Rattle.hd_image.specs.Records.{stored_at, links_of}
use Rattle.hd_image.proofs.SameRecords.{pointer_in}

-- a pointer of a segment behind the header
pointer-behind : (types : List SegmentType) (v : VolumeState) (a : ℕ) (s : List ℕ) (pointer : Pointer) → 0 < a → stored_at v a ≡ s
    → pointer_in (links_of types v) a pointer ≡ pointer_of types (code_of s) pointer s
pointer-behind types v a s TwinForward some is = ap (λ s. pointer_of types (code_of s) TwinForward s) is
pointer-behind types v a s TwinBackward some is = ap (λ s. pointer_of types (code_of s) TwinBackward s) is
pointer-behind types v a s (FirstChild t) some is =
    cond-false (a == 0) (header_of v.image).first_root _ (ne_eqb a 0 (λ e. omega arith)) ∙ ap (λ s. pointer_of types (code_of s) (FirstChild t) s) is
pointer-behind types v a s (LastChild t) some is =
    cond-false (a == 0) (header_of v.image).last_root _ (ne_eqb a 0 (λ e. omega arith)) ∙ ap (λ s. pointer_of types (code_of s) (LastChild t) s) is

-- The record at the address says what a stored segment does.
pub record SaysOf (types : List SegmentType) (m : Links) (a : ℕ) (s : List ℕ) : Type 0 where
  pub here : m.here a ≡ true
  pub code : m.code a ≡ code_of s
  pub bytes : m.bytes a ≡ bytes_of types (code_of s) s
  pub delete_byte : m.delete_byte a ≡ delete_byte_of s
  pub pointers : (pointer : Pointer) → pointer_in m a pointer ≡ pointer_of types (code_of s) pointer s

pub found-says : (types : List SegmentType) (v : VolumeState) (a : ℕ) (s : List ℕ) → 0 < a → find v a ≡ Some s → SaysOf types (links_of types v) a s
found-says types v a s some is =
    let stored : stored_at v a ≡ s = ap (λ o. option_map_or (λ segment. segment) o []) is in
    record {
      here = ap₂ (λ (x : Bool) (o : Option (List ℕ)). x || is_some o) (ne_eqb a 0 (λ e. omega arith)) is;
      code = ap code_of stored;
      bytes = ap (λ s. bytes_of types (code_of s) s) stored;
      delete_byte = ap delete_byte_of stored;
      pointers = λ pointer. pointer-behind types v a s pointer some stored;
    }
