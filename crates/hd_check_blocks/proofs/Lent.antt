-- A segment that is found in a volume, as it is lent.
use Rattle.std.proofs.Common.{◌≡◌, ℕ, ◌<◌, ◌≤◌, List, length, Some, sym, subst, ◌∙◌, arith}
use Rattle.hd_dbd.specs.Hierarchy.{Database}
use Rattle.hd_dbd.specs.Prefixes.{prefix_length}
use Rattle.hd_dbd.proofs.Levels.{type_within}
use Rattle.hd_volume.specs.Volumes.{VolumeState}
use Rattle.hd_volume.specs.Records.{find}
use Rattle.hd_volume.specs.Calls.{HasSegment}
use Rattle.hd_prefix.specs.Fields.{code_of}
use Rattle.hd_prefix.proofs.Fitting.{row_prefix}
use Rattle.hd_links.specs.Links.{IsSegment}
use Rattle.hd_image.specs.Records.{links_of, IsVolumeOf}
use Rattle.hd_image.specs.Laws.{IsDatabase}
use Rattle.hd_image.proofs.Found.{segment-found, stored-found, row-found}
use Rattle.hd_check_blocks.specs.Lending.{IsLent}

-- a segment of the records is one of the volume
pub has-segment : (d : Database) (v : VolumeState) (a : ℕ) → IsDatabase d → IsVolumeOf d v → IsSegment (links_of d.types v) a → HasSegment v a 0
has-segment d v a fit of s = (let h = segment-found d v a fit of s in record { bytes = h.bytes; is = h.is; long = omega arith })

-- what is found at an address is what is lent
pub lent : (d : Database) (v : VolumeState) (a : ℕ) (s : List ℕ) → IsDatabase d → IsVolumeOf d v → IsSegment (links_of d.types v) a → find v a ≡ Some s → IsLent d.types v a s
lent d v a s fit of there is =
    let h = segment-found d v a fit of there in
    let same : h.bytes ≡ s = (let e : Some h.bytes ≡ Some s = sym h.is ∙ is in cc) in
    let prefix : 2 ≤ prefix_length d.types (code_of h.bytes) =
    subst (λ (b : List ℕ). 2 ≤ prefix_length d.types (code_of b)) (stored-found d v a h)
    (row_prefix d.types ((links_of d.types v).code a) ((links_of d.types v).bytes a) (row-found d v a h fit)) in
    let two : 1 < length h.bytes = omega (arith, prefix, h.whole) in
    subst (IsLent d.types v a) same (record {
      some = λ z. (let x = there.some in omega arith);
      stored = stored-found d v a h;
      typed = λ z. (let w = (type_within d.types (code_of h.bytes) h.own h.typed).0 in omega arith);
      two = two;
      whole = h.whole;
    })
