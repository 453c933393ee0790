-- The sample's volume in version 2.
use Rattle.std.proofs.Common.{◌≡◌, ◌≢◌, inl, inr, ℕ, zero, suc, ◌+◌, ◌*◌, ◌%◌, ◌<◌, ◌≤◌, List, [], ◌∷◌, length, slice_index, leb, eqb, true, false, refl, sym, subst, arith}
use Rattle.std.proofs.lemmas.Bool.{eqb-false, leb-true}
use Rattle.hd_block.specs.Extents.{Extent, free, used, IsFreeElement, IsHole, IsSegment}
use Rattle.hd_volume.specs.Headers.{HasHeader}
use Rattle.hd_volume.specs.Entries.{Entry}
use Rattle.hd_bytes.specs.Numbers.{number_at}
use Rattle.hd_volume.specs.Indexes.{IsAmong, entry_room}
use Rattle.hd_volume.specs.Volumes.{block_at, IsKind, HasExtents, IsFormatted}
use Rattle.hd_index_blocks.specs.Levels.{IsIndexSet, blocks_down}
use Rattle.hd_index_blocks.specs.IndexSets.{index_blocks, top_blocks, top_level, HasIndexSet}
use Rattle.hd_index_blocks.specs.WorkedVolume.{sample_image, sample_volume, one_level_volume, SampleHasIndexSet, OneLevelHasIndexSet}
use Rattle.hd_block.specs.Sizes.{size_at}

header : HasHeader 128 sample_image
unfolding number_at
header = record { first = omega arith; mark = refl; whole = refl; within = omega arith; bound = omega arith }

whole : length sample_image ≡ 768
whole = refl

-- there is no block behind the last
outside : (n : ℕ) → suc (suc (suc (suc (suc (suc n))))) * 128 + 128 ≤ length sample_image → ⊥
outside n there = (let e = whole in absurd (omega arith))

-- a segment, and what follows it
part : {bytes : List ℕ} {place next n : ℕ} {A : Type 0} → eqb place next ≡ false → size_at sample_volume.sizes bytes place ≡ n → leb 8 n ≡ true → n % 8 ≡ 0
    → A → (place ≢ next) × IsSegment sample_volume.sizes bytes place n × A
part {bytes} {place} {next} {n} {A} apart size some whole rest = (eqb-false place next apart, record { size = size; some = leb-true 8 n some; whole = whole }, rest)

classes : HasExtents sample_volume.sizes (block_at sample_volume 1)
unfolding number_at
classes = record {
  extents = used 40 ∷ used 24 ∷ used 16 ∷ used 16 ∷ used 24 ∷ [];
  divides = part refl refl refl refl (part refl refl refl refl (part refl refl refl refl (part refl refl refl refl (part refl refl refl refl (refl, refl)))));
  whole = tt;
}

hole : IsHole (block_at sample_volume 2) 64 64
unfolding number_at
hole = record { element = record { len = refl; task = refl; some = omega arith; whole = refl }; apart = eqb-false _ _ refl }

books : HasExtents sample_volume.sizes (block_at sample_volume 2)
unfolding number_at
books = record {
  extents = used 16 ∷ used 40 ∷ free 64 ∷ [];
  divides = part refl refl refl refl (part refl refl refl refl (refl, hole, (refl, refl)));
  whole = tt;
}

divided : (n : ℕ) → IsKind sample_volume 1 n → HasExtents sample_volume.sizes (block_at sample_volume n)
unfolding number_at
divided zero k = absurd (let h = k.later in omega arith)
divided (suc zero) k = classes
divided (suc (suc zero)) k = books
divided (suc (suc (suc zero))) k = absurd (eqb-false _ _ refl k.kind_is)
divided (suc (suc (suc (suc zero)))) k = absurd (eqb-false _ _ refl k.kind_is)
divided (suc (suc (suc (suc (suc zero))))) k = absurd (eqb-false _ _ refl k.kind_is)
divided (suc (suc (suc (suc (suc (suc n)))))) k = absurd (outside n k.there)

formatted : IsFormatted sample_volume
formatted = record { header = header; divided = divided }

some : (e : Entry) (es : List Entry) → e ∷ es ≡ [] → ⊥
some e es h = cc

sequence : IsIndexSet (index_blocks 3 sample_volume) 0 (4 ∷ 5 ∷ [])
unfolding number_at
sequence = ((refl, some _ _, (refl, some _ _, tt)), refl)

set : IsIndexSet (index_blocks 3 sample_volume) (top_level sample_volume) (top_blocks sample_volume)
unfolding number_at
set = ((refl, some _ _, tt), ((refl, tt), refl, ((refl, tt), refl, tt)), sequence)

reached : (n : ℕ) → IsKind sample_volume 2 n → IsAmong n (blocks_down (index_blocks 3 sample_volume) (top_level sample_volume) (top_blocks sample_volume))
unfolding number_at
reached zero k = absurd (let h = k.later in omega arith)
reached (suc zero) k = absurd (eqb-false _ _ refl k.kind_is)
reached (suc (suc zero)) k = absurd (eqb-false _ _ refl k.kind_is)
reached (suc (suc (suc zero))) k = inl refl
reached (suc (suc (suc (suc zero)))) k = inr (inl refl)
reached (suc (suc (suc (suc (suc zero))))) k = inr (inr (inl refl))
reached (suc (suc (suc (suc (suc (suc n)))))) k = absurd (outside n k.there)

count : (n : ℕ) → IsKind sample_volume 2 n → number_at 2 (block_at sample_volume n) 4 ≤ entry_room 3 128
unfolding number_at
count zero k = absurd (let h = k.later in omega arith)
count (suc zero) k = absurd (eqb-false _ _ refl k.kind_is)
count (suc (suc zero)) k = absurd (eqb-false _ _ refl k.kind_is)
count (suc (suc (suc zero))) k = omega arith
count (suc (suc (suc (suc zero)))) k = omega arith
count (suc (suc (suc (suc (suc zero))))) k = omega arith
count (suc (suc (suc (suc (suc (suc n)))))) k = absurd (outside n k.there)

has-set : HasIndexSet 3 sample_volume
unfolding number_at
has-set = record {
  formatted = formatted;
  version = λ e. omega arith;
  height = inr (omega arith, omega arith, omega arith);
  set = set;
  reached = reached;
  count = count;
  next = ((refl, (eqb-false _ _ refl), refl), (refl, (eqb-false _ _ refl), (refl, (eqb-false _ _ refl), refl)));
}

pub sample-has : SampleHasIndexSet
unfolding number_at
sample-has = (has-set, refl, refl, refl, refl)

-- ---- the documents' own image

one-outside : (n : ℕ) → suc (suc (suc (suc n))) * 128 + 128 ≤ length (one_level_volume 2 0).image → ⊥
one-outside n there = (let e : length (one_level_volume 2 0).image ≡ 512 = refl in absurd (omega arith))

one-divided : (n : ℕ) → IsKind (one_level_volume 2 0) 1 n → HasExtents (one_level_volume 2 0).sizes (block_at (one_level_volume 2 0) n)
unfolding number_at
one-divided zero k = absurd (let h = k.later in omega arith)
one-divided (suc zero) k = classes
one-divided (suc (suc zero)) k = books
one-divided (suc (suc (suc zero))) k = absurd (eqb-false _ _ refl k.kind_is)
one-divided (suc (suc (suc (suc n)))) k = absurd (one-outside n k.there)

one-header : HasHeader 128 (one_level_volume 2 0).image
unfolding number_at
one-header = record { first = omega arith; mark = refl; whole = refl; within = omega arith; bound = omega arith }

one-reached : (n : ℕ) → IsKind (one_level_volume 2 0) 2 n → n ≡ 3
unfolding number_at
one-reached zero k = absurd (let h = k.later in omega arith)
one-reached (suc zero) k = absurd (eqb-false _ _ refl k.kind_is)
one-reached (suc (suc zero)) k = absurd (eqb-false _ _ refl k.kind_is)
one-reached (suc (suc (suc zero))) k = refl
one-reached (suc (suc (suc (suc n)))) k = absurd (one-outside n k.there)

one-set : HasIndexSet 3 (one_level_volume 2 0)
unfolding number_at
one-set = record {
  formatted = record { header = one-header; divided = one-divided };
  version = λ e. omega arith;
  height = inr (omega arith, omega arith, omega arith);
  set = ((refl, some _ _, tt), refl);
  reached = λ n k. inl (one-reached n k);
  count = λ n k. (let C : ℕ → Type 0 = λ i. number_at 2 (block_at (one_level_volume 2 0) i) 4 ≤ entry_room 3 128 in subst C (sym (one-reached n k)) (omega arith));
  next = (refl, eqb-false _ _ refl, refl);
}

no-entry : HasIndexSet 3 (one_level_volume 0 0) → ⊥
unfolding number_at
no-entry x = x.set.0.1 refl

ring : HasIndexSet 3 (one_level_volume 2 3) → ⊥
unfolding number_at
ring x = eqb-false _ _ refl x.next.2

pub one-has : OneLevelHasIndexSet
unfolding number_at
one-has = (one-set, refl, no-entry, ring)
