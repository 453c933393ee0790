-- From a volume to the blocks of its index.
use Rattle.std.proofs.Common.{◌≡◌, ◌≢◌, inl, inr, ℕ, zero, suc, ◌+◌, ◌-◌, ◌*◌, ◌<◌, ◌≤◌, ◌==◌, ◌&&◌, not, cond, Bool, true, false, List, [], ◌∷◌, ◌++◌, length, Some, None, slice_index}
use Rattle.std.proofs.Common.{refl, sym, ap, ◌∙◌, subst, arith, ne_eqb}
use Rattle.std.specs.Prelude.{nat_le}
use Rattle.std.proofs.lemmas.Bool.{cases_eq, eq-eqb, eqb-true, le-leb, leb-true, and_parts}
use Rattle.hd_bytes.specs.Numbers.{number_at}
use Rattle.hd_volume.specs.Headers.{header_of}
use Rattle.hd_volume.specs.Volumes.{VolumeState, block_at, kind_of, IsKind}
use Rattle.hd_volume.specs.Entries.{Entry, entries_at, entries_in, entries_of, entry_blocks}
use Rattle.hd_volume.specs.Indexes.{keys_ascend, IsAmong}
use Rattle.hd_index_blocks.specs.Levels.{IndexBlocks, across, named, sequence_set, blocks_down}
use Rattle.hd_index_blocks.specs.Ways.{child_of}
use Rattle.hd_index_blocks.specs.IndexSets.{is_index_block, level_in, index_blocks, top_blocks, top_level, HasIndexSet}
use Rattle.hd_index_blocks.specs.VolumeLaws.{IsRightBlock, LevelsAreOfIndexBlocks, IndexBlocksAreRight, TopsAreRight, ChildrenAreRight, BlocksAreNamedOnce, EntriesAreBelow, EntriesAscend}
use Rattle.hd_index_blocks.proofs.Sets.{set-ascends}
use Rattle.hd_index_blocks.proofs.Downs.{IsOnLevel, of-level, down-level, child-named, named-down, down-once}

-- ---- levels

pub level-of : (v : VolumeState) (n : ℕ) → IsKind v 2 n → level_in v n ≡ Some (slice_index (block_at v n) 3)
level-of v n k =
    let later = k.later in
    let is : is_index_block v n ≡ true = rw (ne_eqb n 0 (λ e. omega arith), le-leb (n * v.size + v.size) (length v.image) k.there, eq-eqb (kind_of (block_at v n)) 2 k.kind_is) refl in
    ap (λ (b : Bool). cond b (Some (slice_index (block_at v n) 3)) None) is

pub level-kind : (v : VolumeState) (n l : ℕ) → level_in v n ≡ Some l → IsKind v 2 n × (slice_index (block_at v n) 3 ≡ l)
level-kind v n l h = by-test (is_index_block v n) refl h
  where
    some : not (n == 0) ≡ true → 0 < n
    some h = elim (cases_eq n 0) [ inl z ↦ (let e : not (n == 0) ≡ false = rw (eq-eqb n 0 z) refl in cc) | inr other ↦ omega arith ]

    by-test : (b : Bool) → is_index_block v n ≡ b → cond b (Some (slice_index (block_at v n) 3)) None ≡ Some l → IsKind v 2 n × (slice_index (block_at v n) 3 ≡ l)
    by-test true is h =
        let one = and_parts (not (n == 0)) (nat_le (n * v.size + v.size) (length v.image) && kind_of (block_at v n) == 2) is in
        let two = and_parts (nat_le (n * v.size + v.size) (length v.image)) (kind_of (block_at v n) == 2) one.1 in
        (record { there = leb-true (n * v.size + v.size) (length v.image) two.0; later = some one.0; kind_is = eqb-true (kind_of (block_at v n)) 2 two.1 }, cc)
    by-test false is h = cc

pub levels-are : LevelsAreOfIndexBlocks
levels-are v n l = ((λ h. level-kind v n l h), (λ h. level-of v n h.0 ∙ ap (λ (i : ℕ). Some i) h.1))

-- ---- entries

-- a block with an entry counts one
count-some : (k : ℕ) (block : List ℕ) (place count : ℕ) → entries_at k block place count ≢ [] → 0 < count
count-some k block place zero some = absurd (some refl)
count-some k block place (suc n) some = omega arith

pub some-count : (k : ℕ) (block : List ℕ) (place count : ℕ) → 0 < count → entries_at k block place count ≢ []
some-count k block place zero less = absurd (omega arith)
some-count k block place (suc n) less = λ h. cc

pub entries-across : (k : ℕ) (v : VolumeState) (ns : List ℕ) → entries_of k v ns ≡ across (index_blocks k v) ns
entries-across k v [] = refl
entries-across k v (n ∷ ns) = ap (λ (t : List Entry). entries_in k (block_at v n) ++ t) (entries-across k v ns)

later-across : (k : ℕ) (v : VolumeState) (low : List ℕ) → (header_of v.image).version ≢ 1
    → entries_of k v (cond ((header_of v.image).version == 1) (entry_blocks v) low) ≡ across (index_blocks k v) low
later-across k v low later = rw (ne_eqb (header_of v.image).version 1 later) (entries-across k v low)

pub entries-below : EntriesAreBelow
entries-below k v =
    ((λ one. rw (eq-eqb (header_of v.image).version 1 one) refl), (λ later. later-across k v (sequence_set (index_blocks k v) (top_level v) (top_blocks v)) later))

pub entries-ascend : EntriesAscend
entries-ascend k v (inl x) = ap keys_ascend ((entries-below k v).0 x.version) ∙ x.ascend
entries-ascend k v (inr x) =
    ap keys_ascend ((entries-below k v).1 x.version) ∙ set-ascends (index_blocks k v) (top_level v) (top_blocks v) x.set

-- ---- blocks

pub right-block : (k : ℕ) (v : VolumeState) (l n : ℕ) → HasIndexSet k v → IsOnLevel (index_blocks k v) l n → IsRightBlock k v l n
right-block k v l n x on =
    let s = level-kind v n l on.level in
    record { is = s.0; level = s.1; some = count-some k (block_at v n) 12 (number_at 2 (block_at v n) 4) on.some; count = x.count n s.0; ascend = on.ascend }

-- below no blocks there is none
pub none-down : (c : IndexBlocks) (l n : ℕ) → IsAmong n (blocks_down c l []) → ⊥
none-down c zero n among = among
none-down c (suc l) n among = none-down c l n among

-- where there is an index block, there is a level
height-some : (k : ℕ) (v : VolumeState) (n : ℕ) → HasIndexSet k v → IsAmong n (blocks_down (index_blocks k v) (top_level v) (top_blocks v)) → 0 < (header_of v.image).height
height-some k v n x among =
    elim x.height [
      | inl none ↦
          (let e : top_blocks v ≡ [] = rw (eq-eqb (header_of v.image).top 0 none.0) refl in
          let A : List ℕ → Type 0 = λ ns. IsAmong n (blocks_down (index_blocks k v) (top_level v) ns) in
          absurd (none-down (index_blocks k v) (top_level v) n (subst A e among)))
      | inr some ↦ some.1
    ]

pub index-blocks-right : IndexBlocksAreRight
index-blocks-right k v n x kind =
    let among = x.reached n kind in
    let r = down-level (index_blocks k v) (top_level v) n (top_blocks v) x.set among in
    let right = right-block k v r.own n x r.on in
    let R : ℕ → Type 0 = λ i. IsRightBlock k v i n in
    let is = right.level in
    let low = r.low in
    let some = height-some k v n x among in
    (omega arith, subst R (sym is) right)

pub top-is : (v : VolumeState) → 0 < (header_of v.image).top → top_blocks v ≡ (header_of v.image).top ∷ []
top-is v some = rw (ne_eqb (header_of v.image).top 0 (λ e. omega arith)) refl

pub tops-right : TopsAreRight
tops-right k v x some =
    let A : List ℕ → Type 0 = λ ns. IsAmong (header_of v.image).top ns in
    right-block k v (top_level v) (header_of v.image).top x
    (of-level (index_blocks k v) (top_level v) (header_of v.image).top (top_blocks v) x.set (subst A (sym (top-is v some)) (inl refl)))

pub children-right : ChildrenAreRight
children-right k v key l n x right =
    let some = some-count k (block_at v n) 12 (number_at 2 (block_at v n) 4) right.some in
    let level : level_in v n ≡ Some (suc l) = level-of v n right.is ∙ ap (λ (i : ℕ). Some i) right.level in
    let down = named-down (index_blocks k v) (top_level v) l (child_of key (entries_in k (block_at v n))) n (top_blocks v) x.set (x.reached n right.is) level
    (child-named key (entries_in k (block_at v n)) some) in
    right-block k v l (child_of key (entries_in k (block_at v n))) x down.1

pub named-once : BlocksAreNamedOnce
named-once k v x = down-once (index_blocks k v) (top_level v) (top_blocks v) x.set
