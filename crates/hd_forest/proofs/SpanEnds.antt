-- A span from its first step to its last.
use Rattle.std.proofs.Common.{◌≡◌, ◌≢◌, ℕ, suc, ◌+◌, ◌*◌, ◌<◌, ◌≤◌, List, [], ◌∷◌, length, Bool, true, false, ◌&&◌, ◌||◌, None, Option, refl, sym, ap, subst, arith}
use Rattle.std.specs.Prelude.{◌==◌, nat_lt}
use Rattle.std.proofs.Math.Nat.{mul-le-mul_left}
use Rattle.hd_dbd.specs.Types.{SegmentType}
use Rattle.hd_dbd.specs.Hierarchy.{Database}
use Rattle.hd_dbd.specs.Forest.{Forest, fits_below}
use Rattle.hd_dbd.proofs.LevelLaw.{leveled}
use Rattle.hd_dbd.proofs.Fitting.{types_fit, level_of-at_most}
use Rattle.hd_dbd.proofs.StoredSizes.{block_size-bounds}
use Rattle.hd_volume.specs.Headers.{header_of}
use Rattle.hd_volume.specs.Volumes.{VolumeState}
use Rattle.hd_links.specs.Links.{Links, IsLinkGraph, segment_at}
use Rattle.hd_links.specs.Placed.{Placed, forest_of}
use Rattle.hd_links.specs.Changes.{Agree}
use Rattle.hd_links.proofs.Types.{Ordered, ordered, above_some, code_some}
use Rattle.hd_links.proofs.Forms.{formed}
use Rattle.hd_image.specs.Records.{links_of, IsVolumeOf}
use Rattle.hd_image.specs.Laws.{IsDatabase}
use Rattle.hd_forest.specs.Walks.{AreSegments}
use Rattle.hd_forest.specs.Spans.{IsSpan, without_span_of, below_on, Freeing, freed_on, IsStep}
use Rattle.hd_forest.proofs.Agreeing.{agree-trans}
use Rattle.hd_forest.proofs.Frames.{RowStands, size_of}
use Rattle.hd_forest.proofs.FreeSteps.{cut, agree-here}
use Rattle.hd_forest.proofs.FreeSpans.{InSpan, step, on-segments, all-gone, no-step}
use Rattle.hd_forest.proofs.SpanStarts.{span_of, at-start, steps-within, room}

-- more steps are enough too
more-steps : (types : List SegmentType) (m : Links) (span : ℕ → ℕ) (n k : ℕ) (s : Freeing) → n ≤ k → InSpan types m span n s → InSpan types m span k s
more-steps types m span n k s le I = record { frames = I.frames; stand = I.stand; path = I.path; few = (let f = I.few in omega arith); within = I.within; records = I.records }

module _ (d : Database) (fit : IsDatabase d) (bound a : ℕ) (m : Links) (G : IsLinkGraph d.types bound m) (under : Forest Placed) (S : IsSpan d.types m a under) where
  -- the types are ordered
  O : Ordered d.types
  O = ordered d.block_size d.frspc d.types fit

  -- the row of the span
  abbrev own : Placed
  own = record { address = a; segment = segment_at m a }

  -- it stands, with what is below it
  stands : RowStands d.types m own under
  stands = record {
    there = S.there;
    code = refl;
    bytes = refl;
    children = S.children;
    nodes = S.nodes;
    formed = formed d.types O (m.code a) None under
        (subst (λ (o : Option ℕ). fits_below d.types o None (forest_of under) ≡ true) (sym (above_some (m.code a) (code_some d.types (segment_at m a) (G.fits a S.there)))) S.fits);
  }

  -- from the segment's own path, in twice as many steps as there are addresses
  pub begins : (n : ℕ) (path : List ℕ) → n ≡ bound * 2 → path ≡ a ∷ [] → InSpan d.types m (span_of a under) n (record { path = path; down = true; records = m })
  begins n path e is = subst (λ (p : List ℕ). InSpan d.types m (span_of a under) n (record { path = p; down = true; records = m })) (sym is)
      (let few = steps-within d.types m bound G own under stands S.once in
      more-steps d.types m (span_of a under) (2 * size_of under + 1) n (record { path = a ∷ []; down = true; records = m }) (omega arith) (at-start d.types m own under stands))

  -- a step by the volume's records
  pub goes : (n : ℕ) (k : Links) (path path' : List ℕ) (down down' : Bool) (v w : VolumeState) → InSpan d.types m (span_of a under) (suc n) (record { path = path; down = down; records = k }) → path ≢ []
      → IsStep d v (freed_on d.types (record { path = path; down = down; records = k })) path' down' w → InSpan d.types m (span_of a under) n (record { path = path'; down = down'; records = links_of d.types w })
  goes n k path path' down down' v w I some s =
      let next = step d.types O m (span_of a under) S.once n (record { path = path; down = down; records = k }) I some in
      let to : Freeing = freed_on d.types (record { path = path; down = down; records = k }) in
      subst (λ (p : List ℕ). InSpan d.types m (span_of a under) n (record { path = p; down = down'; records = links_of d.types w })) (sym s.path_is)
      (subst (λ (x : Bool). InSpan d.types m (span_of a under) n (record { path = to.path; down = x; records = links_of d.types w })) (sym s.down_is)
      (record { frames = next.frames; stand = next.stand; path = next.path; few = next.few; within = next.within; records = agree-trans d.types _ to.records (links_of d.types w) next.records s.records.records }))

  -- its path is of segments, with room for one more
  pub on-way : (n : ℕ) (k : Links) (path : List ℕ) (down : Bool) → InSpan d.types m (span_of a under) n (record { path = path; down = down; records = k }) → AreSegments k path
  on-way n k path down I = on-segments d.types O m (span_of a under) S.once n (record { path = path; down = down; records = k }) I

  pub has-room : (n : ℕ) (k : Links) (path : List ℕ) (down : Bool) → InSpan d.types m (span_of a under) n (record { path = path; down = down; records = k }) → path ≢ [] → down ≡ true
      → 0 < below_on d.types k path → length path < 15
  has-room n k path down I some asked more =
      room d.types O (leveled d.block_size d.frspc d.types fit) bound m G (λ c. level_of-at_most d.block_size d.types c (types_fit d.block_size d.frspc d.types fit))
      (span_of a under) n (record { path = path; down = down; records = k }) I asked some more

  -- with no path left the records are without the span
  pub ends : (n : ℕ) (k : Links) (path : List ℕ) (down : Bool) → InSpan d.types m (span_of a under) n (record { path = path; down = down; records = k }) → path ≡ [] → Agree d.types (without_span_of m a under) k
  ends n k path down I none b =
      agree-here d.types m k (cut m (span_of a under) (λ _. 0)).here (without_span_of m a under).here k.here b
      (all-gone d.types O m (span_of a under) S.once n (record { path = path; down = down; records = k }) I none b)
      (ap (λ (x : Bool). m.here b && x) (sym (or-none (span_of a under b == 0)))) refl
    where
      or-none : (x : Bool) → (x || nat_lt 0 0) ≡ x
      or-none true = refl
      or-none false = refl

  -- with no step left there is no path
  pub spent : (k : Links) (path : List ℕ) (down : Bool) → InSpan d.types m (span_of a under) 0 (record { path = path; down = down; records = k }) → path ≡ []
  spent k path down I = no-step d.types O m (span_of a under) S.once (record { path = path; down = down; records = k }) I

-- twice a volume's length is a number of eight bytes
pub twice-fits : (d : Database) (v : VolumeState) → IsDatabase d → IsVolumeOf d v → length v.image * 2 < 18446744073709551616
twice-fits d v fit of =
    let h = of.formatted.header in
    let n : ℕ = (header_of v.image).count in
    let within = h.within in
    let bound = h.bound in
    let size : v.size ≤ 32768 = (let b = (block_size-bounds d.block_size d.frspc d.types fit).1 in let e = of.size in omega arith) in
    let wide : n * v.size ≤ n * 32768 = mul-le-mul_left n size in
    let whole = h.whole in
    omega arith
