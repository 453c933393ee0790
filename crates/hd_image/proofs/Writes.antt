-- Bytes that are written into a segment of a database's volume.
use Rattle.std.proofs.Common.{◌≡◌, ◌≢◌, ℕ, ◌<◌, List, sym, ap, ◌∙◌, Some, arith}
use Rattle.hd_bytes.specs.Numbers.{number_at}
use Rattle.hd_bytes.specs.Ranges.{with_bytes}
use Rattle.hd_dbd.specs.Types.{SegmentType}
use Rattle.hd_volume.specs.Headers.{Header, header_of}
use Rattle.hd_volume.specs.Volumes.{VolumeState}
use Rattle.hd_volume.specs.Records.{find}
use Rattle.hd_volume.specs.Calls.{IsWritten}
use Rattle.hd_prefix.specs.declared.pointer.Pointer.{Pointer}
use Rattle.hd_prefix.specs.Pointers.{place_of}
use Rattle.hd_prefix.specs.Fields.{code_of, pointer_of, bytes_of, IsPointerSet}
use Rattle.hd_prefix.proofs.Places.{inside_some, apart_some}
use Rattle.hd_prefix.proofs.Writes.{pointer_with}
use Rattle.hd_image.specs.Records.{links_of}
use Rattle.hd_image.specs.Pointing.{with_pointer}
use Rattle.hd_image.specs.Laws.{WritingSetsAPointer}
use Rattle.hd_image.proofs.SameRecords.{SameRoots, SameAt, IsSetAt, same-agree, with-same, found-same}
use Rattle.hd_image.proofs.Saying.{found-says}
use Rattle.hd_image.proofs.Found.{segment-found, stored-found}

-- the header's roots stay where the header does
pub roots-stay : (v w : VolumeState) → header_of w.image ≡ header_of v.image → SameRoots v w
roots-stay v w e = record { first = ap (λ (h : Header). h.first_root) e; last = ap (λ (h : Header). h.last_root) e }

-- the segments elsewhere say the same
pub elsewhere-found : (types : List SegmentType) (v w : VolumeState) (a place : ℕ) (bytes : List ℕ) → IsWritten v a place bytes w → (b : ℕ) → b ≢ a
    → SameAt (links_of types v) (links_of types w) b
elsewhere-found types v w a place bytes written b ne = found-same types v w b (λ _. roots-stay v w written.header) (written.others b ne)

-- a pointer that is set in a stored segment is set in its record
set-at : (types : List SegmentType) (v w : VolumeState) (pointer : Pointer) (a x : ℕ) (s t : List ℕ) → 0 < a → find v a ≡ Some s → find w a ≡ Some t
    → IsPointerSet types (code_of s) pointer x s t → IsSetAt (links_of types v) (links_of types w) pointer a x
set-at types v w pointer a x s t some was is set =
    let before = found-says types v a s some was in
    let after = found-says types w a t some is in
    record {
      here = after.here ∙ sym before.here;
      code = after.code ∙ set.code ∙ sym before.code;
      bytes = after.bytes ∙ ap (λ c. bytes_of types c t) set.code ∙ set.bytes ∙ sym before.bytes;
      delete_byte = after.delete_byte ∙ set.delete_byte ∙ sym before.delete_byte;
      is = after.pointers pointer ∙ ap (λ c. pointer_of types c pointer t) set.code ∙ set.is;
      others = λ other ne. after.pointers other ∙ ap (λ c. pointer_of types c other t) set.code ∙ set.others other ne ∙ sym (before.pointers other);
    }

pub writing-sets : WritingSetsAPointer
writing-sets d v w pointer a place bytes fit of after s at four written =
    let h = segment-found d v a fit of s in
    let kept : place_of d.types (code_of h.bytes) pointer ≡ Some place = ap (λ s. place_of d.types (code_of s) pointer) (sym (stored-found d v a h)) ∙ at in
    let set : IsPointerSet d.types (code_of h.bytes) pointer (number_at 4 bytes 0) h.bytes (with_bytes h.bytes place bytes) =
    pointer_with d.types (code_of h.bytes) pointer place bytes h.bytes kept
    (inside_some d.block_size d.frspc d.types (code_of h.bytes) pointer (Some place) fit (sym kept))
    (apart_some d.block_size d.frspc d.types (code_of h.bytes) pointer (Some place) fit (sym kept))
    (omega (arith, h.whole)) four in
    λ b. same-agree d.types (with_pointer (links_of d.types v) pointer a (number_at 4 bytes 0)) (links_of d.types w) b
    (with-same (links_of d.types v) (links_of d.types w) pointer a (number_at 4 bytes 0)
    (set-at d.types v w pointer a (number_at 4 bytes 0) h.bytes (with_bytes h.bytes place bytes) h.some h.is (written.is h.bytes h.is) set)
    (elsewhere-found d.types v w a place bytes written) b)
