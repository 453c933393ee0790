-- What is read of bytes that begin with a segment.
use Rattle.std.proofs.Common.{◌≡◌, ℕ, ◌+◌, ◌<◌, ◌≤◌, List, length, take, Bool, true, false, cond, Option, Some, None, IfSome, refl, sym, ap, subst, ◌∙◌, arith}
use Rattle.std.specs.Prelude.{slice_index}
use Rattle.std.specs.Option.{option_map_or}
use Rattle.std.proofs.Math.Nat.{min-le_left}
use Rattle.std.proofs.lemmas.List.{length-take, get_or-take, take_all}
use Rattle.hd_bytes.specs.Numbers.{number_at}
use Rattle.hd_bytes.proofs.NumberLemmas.{number-same}
use Rattle.hd_bytes.specs.Ranges.{bytes_at}
use Rattle.hd_dbd.specs.Types.{SegmentType}
use Rattle.hd_dbd.specs.Hierarchy.{Database}
use Rattle.hd_dbd.specs.Rows.{key_of}
use Rattle.hd_dbd.specs.Prefixes.{prefix_length, is_backward_kept}
use Rattle.hd_volume.specs.Volumes.{VolumeState}
use Rattle.hd_prefix.specs.declared.pointer.Pointer.TheVariants.{TwinBackward}
use Rattle.hd_prefix.specs.Fields.{pointer_of, twins_end}
use Rattle.hd_links.specs.Links.{IsSegment}
use Rattle.hd_image.specs.Records.{links_of, IsVolumeOf}
use Rattle.hd_check_blocks.specs.declared.keys.KeyPlace.{KeyPlace}
use Rattle.hd_check_blocks.specs.Keys.{key_place}
use Rattle.hd_check_blocks.specs.Lending.{IsLent}
use Rattle.hd_check_blocks.proofs.KeyPlaces.{placed-key}
use Rattle.hd_check_blocks.proofs.LongSegments.{begin-whole}
use Rattle.hd_check_walk.specs.declared.segments.Seen.{Seen}
use Rattle.hd_check_walk.specs.Reading.{OfRead, IsKeyOf, IsAsSeen}
use Rattle.hd_check_walk.proofs.SegmentFacts.{lent-own}

-- what follows from what holds of a thing that is there
pub some-more : {A : Type 0} (P Q : A → Type 0) (o : Option A) → ((x : A) → P x → Q x) → IfSome o P → IfSome o Q
some-more P Q None more h = tt
some-more P Q (Some x) more h = more x h

-- a segment that is lent has its prefix
pub lent-long : (types : List SegmentType) (v : VolumeState) (a code : ℕ) (segment : List ℕ) → IsLent types v a segment → (links_of types v).code a ≡ code → prefix_length types code ≤ length segment
lent-long types v a code segment lent coded =
    subst (λ (c : ℕ). prefix_length types c ≤ length segment) (sym (lent-own types v a code segment lent coded)) (let whole = lent.whole in omega arith)

module _ (n : ℕ) (s : List ℕ) where
  -- each byte of the segment is one of those
  pub byte-begun : (i : ℕ) → i < length (take n s) → slice_index (take n s) i ≡ slice_index s i
  byte-begun i low = (let long = length-take n s in let most = min-le_left n (length s) in get_or-take n s i 0 (omega arith))

  -- and so is each number
  pub number-begun : (p : ℕ) → p + 4 ≤ length (take n s) → number_at 4 s p ≡ number_at 4 (take n s) p
  number-begun p low = number-same 4 p s (take n s) (λ k from to. sym (byte-begun k (omega arith)))

  -- the twin backward is the segment's
  pub backward-begun : (types : List SegmentType) (code : ℕ) → twins_end types code ≤ length (take n s) → pointer_of types code TwinBackward s ≡ pointer_of types code TwinBackward (take n s)
  backward-begun types code low = by-kept (is_backward_kept types code) low
    where
      by-kept : (kept : Bool) → cond kept 10 6 ≤ length (take n s)
          → option_map_or (λ place. number_at 4 s place) (cond kept (Some 6) None) 0 ≡ option_map_or (λ place. number_at 4 (take n s) place) (cond kept (Some 6) None) 0
      by-kept true long = number-begun 6 (omega arith)
      by-kept false long = refl

-- what is seen by bytes that begin with a segment is seen by the segment's own
pub whole-seen : (d : Database) (v : VolumeState) (a code : ℕ) (s key : List ℕ) (o : Option Seen) → IsVolumeOf d v → IsLent d.types v a s → (links_of d.types v).code a ≡ code → IsKeyOf d.types code s key
    → ((b n : ℕ) → IsKeyOf d.types code (take n s) key → OfRead d b code (take n s) (λ m. IfSome o (λ x. IsAsSeen d.types m x b))) → IfSome o (λ x. IsAsSeen d.types (links_of d.types v) x a)
whole-seen d v a code s key o of lent coded own seen =
    let all : take (length s) s ≡ s = take_all (length s) s (omega arith) in
    seen a (length s) (subst (λ (x : List ℕ). IsKeyOf d.types code x key) (sym all) own) v of (subst (IsLent d.types v a) (sym all) lent) coded

-- what is read of the bytes is so of the segment with which they begin
pub begun-key : (d : Database) (v : VolumeState) (a n code : ℕ) (s key : List ℕ) (own : KeyPlace) → IsVolumeOf d v → IsSegment (links_of d.types v) a → (links_of d.types v).code a ≡ code
    → IsLent d.types v a (take n s) → Some own ≡ key_place d.types code → key ≡ bytes_at s own.start own.length → IsKeyOf d.types code (take n s) key
begun-key d v a n code s key own of there coded lent place is whole =
    is ∙ placed-key d.block_size d.frspc d.types of.fit code s own place
    ∙ ap (λ (bytes : List ℕ). key_of d.types (record { code = code; bytes = bytes })) (begin-whole d v a n code s of there coded lent).1
