-- A segment and what stands behind it in its block.
use Rattle.std.proofs.Common.{◌≡◌, ℕ, ◌+◌, ◌<◌, ◌≤◌, List, length, take, drop, min, true, sym, ap, subst, ◌∙◌, arith}
use Rattle.std.proofs.Math.Nat.{min-le_left, min-le_right}
use Rattle.std.proofs.lemmas.List.{length-take, get_or-take, get_or-drop}
use Rattle.hd_bytes.specs.Ranges.{bytes_at}
use Rattle.hd_bytes.proofs.BlockLemmas.{length-bytes_at, byte-at, agree-bytes_at}
use Rattle.hd_dbd.specs.Types.{SegmentType}
use Rattle.hd_dbd.specs.Hierarchy.{Database}
use Rattle.hd_dbd.specs.Prefixes.{prefix_length}
use Rattle.hd_dbd.specs.Rows.{row_fits}
use Rattle.hd_dbd.proofs.TypeLengths.{row-begins}
use Rattle.hd_volume.specs.Volumes.{VolumeState}
use Rattle.hd_prefix.specs.Fields.{code_of, bytes_of, length_of, IsWhole}
use Rattle.hd_links.specs.Links.{IsSegment}
use Rattle.hd_image.specs.Records.{links_of, IsVolumeOf}
use Rattle.hd_image.proofs.Found.{segment-found, row-found}
use Rattle.hd_check_blocks.specs.Lending.{IsLent}

-- bytes that begin with a segment of the type of a code have its own bytes where it has them
pub begin-whole : (d : Database) (v : VolumeState) (a n c : ℕ) (s : List ℕ) → IsVolumeOf d v → IsSegment (links_of d.types v) a → (links_of d.types v).code a ≡ c → IsLent d.types v a (take n s)
    → IsWhole d.types c s × (bytes_of d.types c s ≡ bytes_of d.types c (take n s))
begin-whole d v a n c s of there coded lent =
    let types : List SegmentType = d.types in
    let r : List ℕ = take n s in
    let p : ℕ = prefix_length types c in
    let l : ℕ = length_of types c r in
    let own : List ℕ = bytes_of types c r in
    let code : code_of r ≡ c = ap code_of (sym lent.stored) ∙ coded in
    let whole : p + l ≤ length r = subst (λ (k : ℕ). IsWhole types k r) code lent.whole in
    let row = row-found d v a (segment-found d v a of.fit of there) of.fit in
    let fits : row_fits types (record { code = c; bytes = own }) ≡ true =
    subst (λ (k : ℕ). row_fits types (record { code = k; bytes = bytes_of types k r }) ≡ true) code
    (subst (λ (x : List ℕ). row_fits types (record { code = code_of x; bytes = bytes_of types (code_of x) x }) ≡ true) lent.stored row) in
    let long : length own ≡ l = length-bytes_at r p l whole in
    let taken : length r ≡ min n (length s) = length-take n s in
    let first : length r ≤ n = (let least = min-le_left n (length s) in omega arith) in
    let within : length r ≤ length s = (let least = min-le_right n (length s) in omega arith) in
    let same = λ (k : ℕ) (low : k < length own). get_or-drop p s k 0 ∙ sym (get_or-take n s (p + k) 0 (omega arith)) ∙ sym (byte-at r p l k whole (omega arith)) in
    let said : length_of types c s ≡ l = row-begins d.block_size d.frspc types c own (drop p s) of.fit fits same ∙ long in (
      subst (λ (m : ℕ). p + m ≤ length s) (sym said) (omega arith),
      ap (λ (m : ℕ). bytes_at s p m) said ∙ agree-bytes_at p l s r (omega arith) whole (λ k low high. sym (get_or-take n s k 0 (omega arith))),
    )
