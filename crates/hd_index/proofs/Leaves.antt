-- The block of the sequence set in which a key stands is the one that it leads to, and where that has room no block is needed.
use Rattle.std.proofs.Common.{◌≡◌, ◌≢◌, ◌⊎◌, inl, inr, ℕ, zero, suc, ◌+◌, ◌<◌, Bool, true, false, cond, List, [], ◌∷◌, ◌++◌, refl, sym, ap, ◌∙◌, subst, arith, ne_eqb}
use Rattle.std.specs.Prelude.{◌==◌}
use Rattle.std.proofs.lemmas.Bool.{eq-eqb}
use Rattle.std.proofs.lemmas.List.{append_assoc}
use Rattle.hd_volume.specs.Headers.{header_of}
use Rattle.hd_volume.specs.Volumes.{VolumeState, block_at}
use Rattle.hd_volume.specs.Rooms.{one_if}
use Rattle.hd_volume.specs.Entries.{Entry, entries_in}
use Rattle.hd_volume.specs.Indexes.{IsAmong, entry_room, key_less, is_below_first, keys_ascend}
use Rattle.hd_index_blocks.specs.Maps.{greatest_below, last_key}
use Rattle.hd_index_blocks.specs.Levels.{IndexBlocks, across, sequence_set, AreBelow, IsIndexSet}
use Rattle.hd_index_blocks.specs.Ways.{child_of, leaf_of, IsAround}
use Rattle.hd_index_blocks.specs.IndexSets.{index_blocks, top_level, top_blocks, HasIndexSet}
use Rattle.hd_index_blocks.specs.Needs.{is_full, full_blocks, needed_by}
use Rattle.hd_index_blocks.specs.VolumeLaws.{IsRightBlock}
use Rattle.hd_index_blocks.proofs.Keys.{less-self, below-parts, first-behind}
use Rattle.hd_index_blocks.proofs.Sets.{set-behind}
use Rattle.hd_index_blocks.proofs.Downs.{among-right}
use Rattle.hd_index_blocks.proofs.Descents.{leaf-is}
use Rattle.hd_index_blocks.proofs.Fullness.{full-above}
use Rattle.hd_index_blocks.proofs.Volumes.{top-is, tops-right, children-right}
use Rattle.hd_index.specs.declared.stand.Stand.{Stand}
use Rattle.hd_index.specs.Blocks.{IsInOrder, leaf_at}
use Rattle.hd_index.specs.Stands.{IsStand}
use Rattle.hd_index.specs.Greatest.{lower_key, IsKnownLeaf}
use Rattle.hd_volume.proofs.JoinLemmas.{AreOne}
use Rattle.hd_index.proofs.Searching.{right-order}
use Rattle.hd_index.proofs.Standing.{stand-blocks, stand-greatest}

-- ---- the entry of a key

-- One of the entries has this key.
pub record IsKeyIn (key : List ℕ) (es : List Entry) : Type 0 where
  pub front : List Entry
  pub entry : Entry
  pub back : List Entry
  pub is : es ≡ front ++ (entry ∷ back)
  pub key_is : entry.key ≡ key

-- the greatest key below another is that of an entry, or what is given for none
greatest-in : (other key : List ℕ) (es : List Entry) → (greatest_below other key es ≡ other) ⊎ IsKeyIn (greatest_below other key es) es
greatest-in other key [] = inl refl
greatest-in other key (e ∷ es) = by-test (key_less e.key key) (greatest-in e.key key es)
  where
    by-test : (b : Bool) → (greatest_below e.key key es ≡ e.key) ⊎ IsKeyIn (greatest_below e.key key es) es
        → (cond b (greatest_below e.key key es) other ≡ other) ⊎ IsKeyIn (cond b (greatest_below e.key key es) other) (e ∷ es)
    by-test false h = inl refl
    by-test true (inl same) = inr (record { front = []; entry = e; back = es; is = refl; key_is = sym same })
    by-test true (inr k) = inr (record { front = e ∷ k.front; entry = k.entry; back = k.back; is = ap (λ (t : List Entry). e ∷ t) k.is; key_is = k.key_is })

-- where it is the same whatever is given for none, an entry has it
found-in : (key g : List ℕ) (es : List Entry) → ((other : List ℕ) → g ≡ greatest_below other key es) → IsKeyIn g es
found-in key g es all =
    let K : List ℕ → Type 0 = λ z. IsKeyIn z es in
    elim (greatest-in [] key es) [
      | inr k ↦ subst K (sym (all [])) k
      | inl none ↦ elim (greatest-in (0 ∷ []) key es) [
        | inr k ↦ subst K (sym (all (0 ∷ []))) k
        | inl one ↦ absurd (let a : g ≡ [] = all [] ∙ none in let b : g ≡ 0 ∷ [] = all (0 ∷ []) ∙ one in cc)
      ]
    ]

-- an entry of one of some blocks is among their entries
key-across : (c : IndexBlocks) (key : List ℕ) (n : ℕ) (ns : List ℕ) → IsAmong n ns → IsKeyIn key (c.entries n) → IsKeyIn key (across c ns)
key-across c key n [] a k = absurd a
key-across c key n (m ∷ ms) (inl e) k =
    let K : ℕ → Type 0 = λ i. IsKeyIn key (c.entries i) in
    let own = subst K e k in
    record {
      front = own.front;
      entry = own.entry;
      back = own.back ++ across c ms;
      is = ap (λ (t : List Entry). t ++ across c ms) own.is ∙ append_assoc own.front (own.entry ∷ own.back) (across c ms);
      key_is = own.key_is;
    }
key-across c key n (m ∷ ms) (inr a) k =
    let r = key-across c key n ms a k in
    record {
      front = c.entries m ++ r.front;
      entry = r.entry;
      back = r.back;
      is = ap (λ (t : List Entry). c.entries m ++ t) r.is ∙ sym (append_assoc (c.entries m) r.front (r.entry ∷ r.back));
      key_is = r.key_is;
    }

-- none of those below a key has it
none-below : (key : List ℕ) (es : List Entry) → AreBelow key es → IsKeyIn key es → ⊥
none-below key es below k =
    let B : List Entry → Type 0 = λ t. AreBelow key t in
    less-self key (ap (λ (z : List ℕ). key_less z key) (sym k.key_is) ∙ (below-parts key k.front (k.entry ∷ k.back) (subst B k.is below)).1.0)

-- nor of those above it
none-above : (key : List ℕ) (es : List Entry) → is_below_first key es ≡ true → keys_ascend es ≡ true → IsKeyIn key es → ⊥
none-above key es first ascend k =
    let F : List Entry → Type 0 = λ t. is_below_first key t ≡ true in
    let A : List Entry → Type 0 = λ t. keys_ascend t ≡ true in
    less-self key (ap (key_less key) (sym k.key_is) ∙ first-behind key k.front k.entry k.back (subst F k.is first) (subst A k.is ascend))

-- ---- its block

among-parts : (n m : ℕ) (left right : List ℕ) → IsAmong n (left ++ (m ∷ right)) → IsAmong n left ⊎ ((n ≡ m) ⊎ IsAmong n right)
among-parts n m [] right a = inr a
among-parts n m (x ∷ left) right (inl e) = inl (inl e)
among-parts n m (x ∷ left) right (inr a) = elim (among-parts n m left right a) [ inl l ↦ inl (inr l) | inr r ↦ inr r ]

-- a block with an entry of a key is the one about it
pub own-block : (c : IndexBlocks) (key : List ℕ) (left : List ℕ) (m : ℕ) (right : List ℕ) (n : ℕ) → IsAround c key 0 left m right → IsAmong n (left ++ (m ∷ right)) → IsKeyIn key (c.entries n) → n ≡ m
own-block c key left m right n a among k = elim (among-parts n m left right among) [
  | inl l ↦ absurd (none-below key (across c left) a.below (key-across c key n left l k))
  | inr rest ↦ elim rest [
    | inl e ↦ e
    | inr r ↦
        absurd (none-above key (across c right) a.above (set-behind c 0 (m ∷ []) right (set-behind c 0 left (m ∷ right) a.set)).1 (key-across c key n right r k))
  ]
]

-- where there is no top there is no sequence set
pub sequence-none : (c : IndexBlocks) (l : ℕ) → sequence_set c l [] ≡ []
sequence-none c zero = refl
sequence-none c (suc l) = sequence-none c l

some-not : (xs : List ℕ) (y : ℕ) (ys : List ℕ) → xs ++ (y ∷ ys) ≡ [] → ⊥
some-not [] y ys e = cc
some-not (x ∷ xs) y ys e = cc

-- where there is no top a key leads to no block
pub leaf-none : (k : ℕ) (v : VolumeState) (key : List ℕ) → (header_of v.image).top ≡ 0 → leaf_at k v key ≡ 0
leaf-none k v key none = ap (λ (b : Bool). cond b 0 (leaf_of (index_blocks k v) key (top_level v) (header_of v.image).top)) (eq-eqb (header_of v.image).top 0 none)

-- else it leads down from the top
pub leaf-some : (k : ℕ) (v : VolumeState) (key : List ℕ) → 0 < (header_of v.image).top → leaf_at k v key ≡ leaf_of (index_blocks k v) key (top_level v) (header_of v.image).top
leaf-some k v key some = ap (λ (b : Bool). cond b 0 (leaf_of (index_blocks k v) key (top_level v) (header_of v.image).top)) (ne_eqb (header_of v.image).top 0 (λ e. (let l = some in omega arith)))

-- the block where a walk ended, in which a key stands
stand-leaf : (k : ℕ) (v : VolumeState) (key : List ℕ) (stand : Stand) (g : List ℕ) → HasIndexSet k v → IsStand k v key 0 stand → IsKeyIn g (entries_in k (block_at v stand.block))
    → stand.block ≡ leaf_at k v g
stand-leaf k v key stand g x s here =
    let c : IndexBlocks = index_blocks k v in
    let t : ℕ = (header_of v.image).top in
    let h : ℕ = top_level v in
    elim x.height [
      | inl none ↦
          (let empty : top_blocks v ≡ [] = rw (eq-eqb t 0 none.0) refl in
          absurd (some-not s.before stand.block s.behind (stand-blocks x s ∙ ap (sequence_set c h) empty ∙ sequence-none c h)))
      | inr some ↦
          (let S : List ℕ → Type 0 = λ ns. IsIndexSet c h ns in
          let A : List ℕ → Type 0 = λ ns. IsAmong stand.block ns in
          let leaf = leaf-is c g h t (subst S (top-is v some.0) x.set) in
          let same : s.before ++ (stand.block ∷ s.behind) ≡ leaf.left ++ (leaf_of c g h t ∷ leaf.right) = stand-blocks x s ∙ ap (sequence_set c h) (top-is v some.0) ∙ sym leaf.whole in
          own-block c g leaf.left (leaf_of c g h t) leaf.right stand.block leaf.around (subst A same (among-right stand.block s.before (stand.block ∷ s.behind) (inl refl))) here
          ∙ sym (leaf-some k v g some.0))
    ]

-- where the block has a key below one, the greatest of the index below that leads to it
pub known-leaf : (k : ℕ) (v : VolumeState) (key : List ℕ) (stand : Stand) (g : List ℕ) → HasIndexSet k v → IsStand k v key 0 stand
    → ((other : List ℕ) → g ≡ greatest_below other key (entries_in k (block_at v stand.block))) → IsKnownLeaf k v (lower_key k v key) stand.block
known-leaf k v key stand g x s all some =
    let t : List ℕ = cond (stand.left == 0) key (last_key key (entries_in k (block_at v stand.left))) in
    let is : g ≡ lower_key k v key = all t ∙ sym (stand-greatest k v key stand x s) in
    stand-leaf k v key stand g x s (found-in key g (entries_in k (block_at v stand.block)) all) ∙ ap (leaf_at k v) is

-- ---- what it needs

leaf-right : (k : ℕ) (v : VolumeState) (key : List ℕ) (l n : ℕ) → HasIndexSet k v → IsRightBlock k v l n → IsRightBlock k v 0 (leaf_of (index_blocks k v) key l n)
leaf-right k v key zero n x right = right
leaf-right k v key (suc l) n x right = leaf-right k v key l (child_of key (entries_in k (block_at v n))) x (children-right k v key l n x right)

-- the block that a key leads to is in order
pub leaf-order : (k : ℕ) (v : VolumeState) (key : List ℕ) (n : ℕ) → HasIndexSet k v → IsKnownLeaf k v key n → n ≢ 0 → IsInOrder k v n
leaf-order k v key n x known some =
    let R : ℕ → Type 0 = λ i. IsRightBlock k v 0 i in
    let is = known some in
    elim x.height [
      | inl none ↦ absurd (some (is ∙ leaf-none k v key none.0))
      | inr tall ↦ right-order k v 0 n (subst R (sym (is ∙ leaf-some k v key tall.0)) (leaf-right k v key (top_level v) (header_of v.image).top x (tops-right k v x tall.0)))
    ]

-- and where it is not full, no block is needed
pub leaf-needs : (k : ℕ) (v : VolumeState) (key : List ℕ) (n : ℕ) → HasIndexSet k v → IsKnownLeaf k v key n → n ≢ 0 → is_full (index_blocks k v) (entry_room k v.size) n ≡ false → 0 ≡ needed_by k v key
leaf-needs k v key n x known some room =
    let c : IndexBlocks = index_blocks k v in
    let t : ℕ = (header_of v.image).top in
    let h : ℕ = (header_of v.image).height in
    let is = known some in
    elim x.height [
      | inl none ↦ absurd (some (is ∙ leaf-none k v key none.0))
      | inr tall ↦
          (let low : full_blocks c (entry_room k v.size) key 0 (leaf_of c key (top_level v) t) ≡ 0 = ap one_if (ap (is_full c (entry_room k v.size)) (sym (is ∙ leaf-some k v key tall.0)) ∙ room) in
          let all : full_blocks c (entry_room k v.size) key (top_level v) t ≡ 0 =
          full-above c (entry_room k v.size) key 0 0 (omega arith) (top_level v) (top_level v) t (omega arith) low in
          none-needed t (full_blocks c (entry_room k v.size) key (top_level v) t) h (λ e. (let l = tall.0 in omega arith)) all (λ e. (let l = tall.1 in omega arith)))
    ]
  where
    none-needed : (top full height : ℕ) → top ≢ 0 → full ≡ 0 → height ≢ 0 → 0 ≡ cond (top == 0) 1 (full + one_if (full == height))
    none-needed top full height some none tall = rw (ne_eqb top 0 some, none, ne_eqb 0 height (λ e. tall (sym e))) refl

-- ---- one image

pub known-same : (k : ℕ) (v w : VolumeState) (key : List ℕ) (n : ℕ) → AreOne v w → IsKnownLeaf k v key n → IsKnownLeaf k w key n
known-same k v w key n one known some =
    let same : leaf_at k w key ≡ leaf_at k v key = rw (one.same.size, one.image) refl in
    known some ∙ sym same
