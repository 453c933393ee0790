-- On what the index of a volume depends.
use Rattle.std.proofs.Common.{◌≡◌, ◌≢◌, ◌⊎◌, inl, inr, ℕ, zero, suc, ◌+◌, ◌<◌, ◌==◌, ◌&&◌, cond, length, List, [], ◌∷◌, ◌++◌, Some, slice_index, refl, sym, ap, ◌∙◌, subst, arith, ne_eqb}
use Rattle.std.specs.Prelude.{nat_le}
use Rattle.std.proofs.lemmas.Bool.{cases_eq, eq-eqb}
use Rattle.hd_bytes.specs.Numbers.{number_at}
use Rattle.hd_volume.specs.Headers.{Header, header_of}
use Rattle.hd_volume.specs.Volumes.{VolumeState, block_at, kind_of, IsKind, IsFormatted}
use Rattle.hd_volume.specs.Rooms.{one_if}
use Rattle.hd_volume.specs.Entries.{Entry, entries_in}
use Rattle.hd_volume.specs.Indexes.{entry_room, IsAmong}
use Rattle.hd_volume.specs.Calls.{KeepsIndex}
use Rattle.hd_volume.proofs.MapLemmas.{kind-there}
use Rattle.hd_volume.proofs.IndexLemmas.{index-stays}
use Rattle.hd_index_blocks.specs.Maps.{greatest_below}
use Rattle.hd_index_blocks.specs.Levels.{IndexBlocks, across, named, sequence_set, entries_below, blocks_down, IsIndexSet}
use Rattle.hd_index_blocks.specs.Ways.{child_of}
use Rattle.hd_index_blocks.specs.Changes.{Stays, KeepsIndexSet}
use Rattle.hd_index_blocks.specs.Chains.{AreLevelsLinked}
use Rattle.hd_index_blocks.specs.IndexSets.{level_in, next_in, index_blocks, top_blocks, top_level, index_entries, HasIndexSet}
use Rattle.hd_index_blocks.specs.Needs.{is_full, full_blocks, set_blocks_needed, entry_growth}
use Rattle.hd_index_blocks.specs.VolumeLaws.{IndexSetsStay, IndexesStay}
use Rattle.hd_index_blocks.proofs.Levels.{same-below, set-stays}
use Rattle.hd_index_blocks.proofs.Downs.{of-level, child-named, named-across}
use Rattle.hd_index_blocks.proofs.Linking.{links-lower}
use Rattle.hd_index_blocks.proofs.Volumes.{level-of, level-kind, entries-below}

-- ---- where each block of an index set stays

-- each block of a level stays
abbrev pub AllStayed : IndexBlocks → IndexBlocks → Type 0
AllStayed c d = (n l : ℕ) → c.level n ≡ Some l → Stays c d l n

-- the entries of a level
across-stay : (c d : IndexBlocks) (l : ℕ) (ns : List ℕ) → AllStayed c d → ((n : ℕ) → IsAmong n ns → c.level n ≡ Some l) → across d ns ≡ across c ns
across-stay c d l [] stay on = refl
across-stay c d l (n ∷ ns) stay on =
    ap (λ (t : List Entry). t ++ across d ns) (stay n l (on n (inl refl))).1 ∙ ap (λ (t : List Entry). c.entries n ++ t) (across-stay c d l ns stay (λ m a. on m (inr a)))

set-across : (c d : IndexBlocks) (l : ℕ) (ns : List ℕ) → AllStayed c d → IsIndexSet c l ns → across d ns ≡ across c ns
set-across c d l ns stay s = across-stay c d l ns stay (λ n a. (let o = of-level c l n ns s a in o.level))

down-stays : (c d : IndexBlocks) (l : ℕ) (ns : List ℕ) → AllStayed c d → IsIndexSet c l ns → blocks_down d l ns ≡ blocks_down c l ns
down-stays c d zero ns stay s = refl
down-stays c d (suc l) ns stay s =
    ap (λ (t : List Entry). ns ++ blocks_down d l (named t)) (set-across c d (suc l) ns stay s) ∙ ap (λ (t : List ℕ). ns ++ t) (down-stays c d l (named (across c ns)) stay s.2)

-- as many blocks are full
full-stays : (c d : IndexBlocks) (room : ℕ) (key : List ℕ) (l n : ℕ) (ns : List ℕ) → AllStayed c d → IsIndexSet c l ns → IsAmong n ns
    → full_blocks d room key l n ≡ full_blocks c room key l n
full-stays c d room key zero n ns stay s among =
    let o = of-level c 0 n ns s among in ap (λ (es : List Entry). one_if (nat_le room (length es))) (stay n 0 o.level).1
full-stays c d room key (suc l) n ns stay s among =
    let o = of-level c (suc l) n ns s among in
    let low = full-stays c d room key l (child_of key (c.entries n)) (named (across c ns)) stay s.2
    (named-across c (child_of key (c.entries n)) n ns among (child-named key (c.entries n) o.some)) in
    ap (λ (es : List Entry). full_blocks d room key l (child_of key es) + one_if (full_blocks d room key l (child_of key es) == suc l && nat_le room (length es))) (stay n (suc l) o.level).1
    ∙ ap (λ (m : ℕ). m + one_if (m == suc l && nat_le room (length (c.entries n)))) low

-- ---- where each index block of a volume stays

module _ {k : ℕ} {v w : VolumeState} (x : HasIndexSet k v) (f : IsFormatted w) (size : w.size ≡ v.size)
    (header : header_of w.image ≡ record (header_of v.image) { count = (header_of w.image).count; first_root = (header_of w.image).first_root; last_root = (header_of w.image).last_root })
    (keeps : KeepsIndex v w) (back : (n : ℕ) → IsKind w 2 n → IsKind v 2 n) where
  top-same : (header_of w.image).top ≡ (header_of v.image).top
  top-same = ap (λ (h : Header). h.top) header

  height-same : (header_of w.image).height ≡ (header_of v.image).height
  height-same = ap (λ (h : Header). h.height) header

  version-same : (header_of w.image).version ≡ (header_of v.image).version
  version-same = ap (λ (h : Header). h.version) header

  tops-same : top_blocks w ≡ top_blocks v
  tops-same = rw top-same refl

  level-same : top_level w ≡ top_level v
  level-same = rw height-same refl

  kind-stays : (n : ℕ) → IsKind v 2 n → IsKind w 2 n
  kind-stays n i =
      let is : kind_of (block_at w n) ≡ 2 = ap kind_of (keeps n i) ∙ i.kind_is in
      record { there = kind-there w.size n (header_of w.image).count 2 w.image f.header.whole (λ e. omega arith) is; later = i.later; kind_is = is }

  all-stay : AllStayed (index_blocks k v) (index_blocks k w)
  all-stay n l h =
      let s = level-kind v n l h in (
        level-of w n (kind-stays n s.0) ∙ ap (λ (b : List ℕ). Some (slice_index b 3)) (keeps n s.0) ∙ ap (λ (i : ℕ). Some i) s.1,
        ap (entries_in k) (keeps n s.0),
      )

  next-same : (n l : ℕ) → level_in v n ≡ Some l → next_in w n ≡ next_in v n
  next-same n l h = let s = level-kind v n l h in ap (λ (b : List ℕ). number_at 4 b 8) (keeps n s.0)

  kept : KeepsIndexSet (index_blocks k v) (index_blocks k w) (top_level v) (top_blocks v)
  kept = set-stays (index_blocks k v) (index_blocks k w) (suc (top_level v)) (λ n l h less. all-stay n l h) (top_level v) (omega arith) (top_blocks v) x.set

  next-stays : AreLevelsLinked (index_blocks k w) (next_in w) (top_level v) (top_blocks v)
  next-stays =
      links-lower (index_blocks k v) (index_blocks k w) (suc (top_level v)) (next_in v) (next_in w) (λ n l h less. all-stay n l h) (λ n l h less. next-same n l h) (top_level v) (omega arith)
      (top_blocks v) x.set x.next

  down-same : blocks_down (index_blocks k w) (top_level w) (top_blocks w) ≡ blocks_down (index_blocks k v) (top_level v) (top_blocks v)
  down-same =
      ap (λ (l : ℕ). blocks_down (index_blocks k w) l (top_blocks w)) level-same
      ∙ ap (blocks_down (index_blocks k w) (top_level v)) tops-same
      ∙ down-stays (index_blocks k v) (index_blocks k w) (top_level v) (top_blocks v) all-stay x.set

  has-set : HasIndexSet k w
  has-set =
      let S : ℕ → List ℕ → Type 0 = λ l ns. IsIndexSet (index_blocks k w) l ns in
      let L : ℕ → List ℕ → Type 0 = λ l ns. AreLevelsLinked (index_blocks k w) (next_in w) l ns in
      record {
        formatted = f;
        version = λ e. x.version (sym version-same ∙ e);
        height = rw (top-same, height-same) x.height;
        set = subst (λ (l : ℕ). S l (top_blocks w)) (sym level-same) (subst (S (top_level v)) (sym tops-same) kept.0);
        reached = λ n i. (let A : List ℕ → Type 0 = λ ns. IsAmong n ns in subst A (sym down-same) (x.reached n (back n i)));
        count = λ n i. (let own = back n i in rw (keeps n own, size) (x.count n own));
        next = subst (λ (l : ℕ). L l (top_blocks w)) (sym level-same)
            (subst (L (top_level v)) (sym tops-same) next-stays);
      }

  entries-stay : index_entries k w ≡ index_entries k v
  entries-stay =
      (entries-below k w).1 (λ e. x.version (sym version-same ∙ e))
      ∙ ap (λ (l : ℕ). entries_below (index_blocks k w) l (top_blocks w)) level-same
      ∙ ap (entries_below (index_blocks k w) (top_level v)) tops-same
      ∙ same-below (index_blocks k v) (index_blocks k w) (top_level v) (top_blocks v) kept.1
      ∙ sym ((entries-below k v).1 x.version)

  full-same : (key : List ℕ) → (header_of v.image).top ≢ 0
      → full_blocks (index_blocks k w) (entry_room k v.size) key (top_level v) (header_of v.image).top ≡ full_blocks (index_blocks k v) (entry_room k v.size) key (top_level v) (header_of v.image).top
  full-same key some =
      let is : top_blocks v ≡ (header_of v.image).top ∷ [] = rw (ne_eqb (header_of v.image).top 0 some) refl in
      let S : List ℕ → Type 0 = λ ns. IsIndexSet (index_blocks k v) (top_level v) ns in
      full-stays (index_blocks k v) (index_blocks k w) (entry_room k v.size) key (top_level v) (header_of v.image).top ((header_of v.image).top ∷ []) all-stay (subst S is x.set) (inl refl)

  needed-stay : (key : List ℕ) → set_blocks_needed k w key ≡ set_blocks_needed k v key
  needed-stay key =
      let F : ℕ → ℕ → ℕ → ℕ → List Entry → ℕ = λ size top level height es.
      cond (top == 0) 1 (full_blocks (index_blocks k w) (entry_room k size) (greatest_below key key es) level top
      + one_if (full_blocks (index_blocks k w) (entry_room k size) (greatest_below key key es) level top == height)) in
      ap (λ (i : ℕ). F i (header_of w.image).top (top_level w) (header_of w.image).height (index_entries k w)) size
      ∙ ap (λ (i : ℕ). F v.size i (top_level w) (header_of w.image).height (index_entries k w)) top-same
      ∙ ap (λ (i : ℕ). F v.size (header_of v.image).top i (header_of w.image).height (index_entries k w)) level-same
      ∙ ap (λ (i : ℕ). F v.size (header_of v.image).top (top_level v) i (index_entries k w)) height-same
      ∙ ap (F v.size (header_of v.image).top (top_level v) (header_of v.image).height) entries-stay
      ∙ by-top (greatest_below key key (index_entries k v)) (cases_eq (header_of v.image).top 0)
    where
      by-top : (key : List ℕ) → ((header_of v.image).top ≡ 0) ⊎ ((header_of v.image).top ≢ 0)
          → cond ((header_of v.image).top == 0) 1 (full_blocks (index_blocks k w) (entry_room k v.size) key (top_level v) (header_of v.image).top
          + one_if (full_blocks (index_blocks k w) (entry_room k v.size) key (top_level v) (header_of v.image).top == (header_of v.image).height))
          ≡ cond ((header_of v.image).top == 0) 1 (full_blocks (index_blocks k v) (entry_room k v.size) key (top_level v) (header_of v.image).top
          + one_if (full_blocks (index_blocks k v) (entry_room k v.size) key (top_level v) (header_of v.image).top == (header_of v.image).height))
      by-top key (inl z) = rw (eq-eqb (header_of v.image).top 0 z) refl
      by-top key (inr some) = ap (λ (m : ℕ). cond ((header_of v.image).top == 0) 1 (m + one_if (m == (header_of v.image).height))) (full-same key some)

  growth-stays : entry_growth w ≡ entry_growth v
  unfolding entry_growth
  growth-stays = rw (version-same, height-same) refl

  pub stays : HasIndexSet k w × (index_entries k w ≡ index_entries k v) × (entry_growth w ≡ entry_growth v) × ((key : List ℕ) → set_blocks_needed k w key ≡ set_blocks_needed k v key)
  stays = (has-set, entries-stay, growth-stays, needed-stay)

pub index-sets-stay : IndexSetsStay
index-sets-stay k v w x f size header keeps back = stays x f size header keeps back

growth-one : (v : VolumeState) → (header_of v.image).version ≡ 1 → entry_growth v ≡ 1
unfolding entry_growth
growth-one v one = rw (eq-eqb (header_of v.image).version 1 one) refl

pub indexes-stay : IndexesStay
indexes-stay k v w (inl x) f size header keeps back =
    let s = index-stays k v w x f size header keeps back in
    (inl s.0, (entries-below k w).0 s.0.version ∙ s.1 ∙ sym ((entries-below k v).0 x.version), growth-one w s.0.version ∙ sym (growth-one v x.version))
indexes-stay k v w (inr x) f size header keeps back =
    let s = index-sets-stay k v w x f size header keeps back in (inr s.0, s.1, s.2)
