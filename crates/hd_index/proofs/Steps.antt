-- What one change of index blocks leaves of the index set that they are part of.
use Rattle.std.proofs.Common.{◌≡◌, ◌≢◌, inl, inr, ℕ, ◌≤◌, List, Some, slice_index, sym, ap, ◌∙◌, subst}
use Rattle.std.proofs.lemmas.Bool.{cases_eq}
use Rattle.hd_bytes.specs.Numbers.{number_at}
use Rattle.hd_volume.specs.Headers.{header_of}
use Rattle.hd_volume.specs.Volumes.{VolumeState, block_at, IsKind, IsFormatted}
use Rattle.hd_volume.specs.Entries.{Entry, entries_in}
use Rattle.hd_volume.specs.Indexes.{entry_room}
use Rattle.hd_index_blocks.specs.Levels.{IsIndexSet}
use Rattle.hd_index_blocks.specs.Changes.{Stays}
use Rattle.hd_index_blocks.specs.Chains.{AreLevelsLinked}
use Rattle.hd_index_blocks.specs.Parents.{ArePlaced}
use Rattle.hd_index_blocks.specs.IndexSets.{level_in, next_in, index_blocks, top_blocks, top_level, IsHeightRight, HasIndexSet}
use Rattle.hd_index_blocks.proofs.Volumes.{level-of, level-kind}
use Rattle.hd_index_blocks.proofs.Parents.{placed-reached}
use Rattle.hd_index.specs.EditedBlocks.{Bears}
use Rattle.hd_index.specs.Edits.{IsIndexStep}

-- ---- index blocks with the same bytes

-- such a block is of the same level, with the same entries and the same block behind it
pub same-block : (k : ℕ) (u w : VolumeState) (b l : ℕ) → IsKind w 2 b → block_at w b ≡ block_at u b → level_in u b ≡ Some l
    → Stays (index_blocks k u) (index_blocks k w) l b × (next_in w b ≡ next_in u b)
same-block k u w b l is same h =
    let s = level-kind u b l h in (
      (
        level-of w b is ∙ ap (λ (t : List ℕ). Some (slice_index t 3)) same ∙ ap (λ (i : ℕ). Some i) s.1,
        ap (entries_in k) same,
      ),
      ap (λ (t : List ℕ). number_at 4 t 8) same,
    )

-- ---- one step, by which blocks n and m may have changed

module _ (k : ℕ) {u w : VolumeState} (n m more : ℕ) (s : IsIndexStep u n m more w) where
  -- every other block stays
  pub other-stays : (b l : ℕ) → level_in u b ≡ Some l → b ≢ n → b ≢ m → Stays (index_blocks k u) (index_blocks k w) l b × (next_in w b ≡ next_in u b)
  other-stays b l h p q =
      let is = level-kind u b l h in
      same-block k u w b l (s.stay b is.0) (s.others b is.0 p q) h

  -- and every other block was one of the same level
  pub other-was : (b l : ℕ) → level_in w b ≡ Some l → b ≢ n → b ≢ m → level_in u b ≡ Some l
  other-was b l h p q =
      let is = level-kind w b l h in
      let was : IsKind u 2 b = elim (s.back b is.0) [ inl old ↦ old | inr e ↦ absurd (q e) ] in
      level-of u b was ∙ ap (λ (t : List ℕ). Some (slice_index t 3)) (sym (s.others b was p q)) ∙ ap (λ (i : ℕ). Some i) is.1

  -- no block has more entries than find room, where the two have not
  pub counts-stay : ((b : ℕ) → IsKind u 2 b → number_at 2 (block_at u b) 4 ≤ entry_room k u.size) → number_at 2 (block_at w n) 4 ≤ entry_room k w.size → number_at 2 (block_at w m) 4 ≤ entry_room k w.size
      → (b : ℕ) → IsKind w 2 b → number_at 2 (block_at w b) 4 ≤ entry_room k w.size
  counts-stay old cn cm b is =
      let C : ℕ → Type 0 = λ i. number_at 2 (block_at w i) 4 ≤ entry_room k w.size in
      elim (cases_eq b n) [
        | inl e ↦ subst C (sym e) cn
        | inr p ↦ elim (cases_eq b m) [
          | inl e ↦ subst C (sym e) cm
          | inr q ↦
              (let was : IsKind u 2 b = elim (s.back b is) [ inl x ↦ x | inr e ↦ absurd (q e) ] in
              let B : List ℕ → Type 0 = λ t. number_at 2 t 4 ≤ entry_room k w.size in
              let Z : ℕ → Type 0 = λ z. number_at 2 (block_at u b) 4 ≤ entry_room k z in
              subst B (sym (s.others b was p q)) (subst Z (sym s.size) (old b was)))
        ]
      ]

-- a block that bears entries is of its level, and has them
pub borne : (k l n next : ℕ) (w : VolumeState) (es : List Entry) → Bears k w l n es next → (level_in w n ≡ Some l) × (entries_in k (block_at w n) ≡ es) × (next_in w n ≡ next)
borne k l n next w es b = (level-of w n b.is.is ∙ ap (λ (i : ℕ). Some i) b.is.level, b.entries, b.next_is)

-- ---- the whole

-- A volume has an index set where its blocks are one, each is the top or has a parent, and all levels are chains.
pub assembled : (k : ℕ) (v : VolumeState) → IsFormatted v → (header_of v.image).version ≢ 1 → IsHeightRight v → IsIndexSet (index_blocks k v) (top_level v) (top_blocks v)
    → ArePlaced (index_blocks k v) (top_level v) (top_blocks v) → ((n : ℕ) → IsKind v 2 n → number_at 2 (block_at v n) 4 ≤ entry_room k v.size)
    → AreLevelsLinked (index_blocks k v) (next_in v) (top_level v) (top_blocks v) → HasIndexSet k v
assembled k v f version height set placed count next = record {
  formatted = f;
  version = version;
  height = height;
  set = set;
  reached = λ n i. placed-reached (index_blocks k v) (top_level v) (top_blocks v) set placed n (slice_index (block_at v n) 3) (level-of v n i);
  count = count;
  next = next;
}
