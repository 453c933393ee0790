-- A walk down an index set beside the left neighbour.
use Rattle.std.proofs.Common.{◌≡◌, ◌≢◌, ◌⊎◌, inl, inr, ℕ, suc, ◌<◌, Bool, cond, List, [], ◌∷◌, ◌++◌, Some, None, refl, sym, ap, ◌∙◌, subst, ne_eqb}
use Rattle.std.specs.Prelude.{◌==◌}
use Rattle.std.proofs.lemmas.Bool.{eq-eqb}
use Rattle.hd_volume.specs.Headers.{header_of}
use Rattle.hd_volume.specs.Volumes.{VolumeState, block_at}
use Rattle.hd_volume.specs.Entries.{Entry, entries_in, entry_blocks}
use Rattle.hd_volume.specs.Indexes.{IsAmong}
use Rattle.hd_index_blocks.specs.Maps.{greatest_below, last_key}
use Rattle.hd_index_blocks.specs.Levels.{IndexBlocks, across, named, sequence_set, entries_below, AreOnLevel, IsIndexSet}
use Rattle.hd_index_blocks.specs.Ways.{child_of, IsAround, IsNamed}
use Rattle.hd_index_blocks.specs.Neighbours.{last_of, last_child}
use Rattle.hd_index_blocks.specs.IndexSets.{index_blocks, top_level, top_blocks, sequence_blocks, index_entries, HasIndexSet}
use Rattle.hd_index_blocks.proofs.Levels.{on-parts, set-level, named-append}
use Rattle.hd_index_blocks.proofs.Descents.{around-down, names-about, top-around}
use Rattle.hd_index_blocks.proofs.Downs.{among-left, among-right, of-level}
use Rattle.hd_index_blocks.proofs.Neighbours.{left-named}
use Rattle.hd_index_blocks.proofs.Volumes.{entries-below, right-block, top-is}
use Rattle.hd_index_blocks.proofs.Incoming.{greatest-near}
use Rattle.hd_index.specs.declared.stand.Stand.{Stand}
use Rattle.hd_index.specs.Blocks.{IsInOrder}
use Rattle.hd_index.specs.Stands.{front_of, IsStand}
use Rattle.hd_index.proofs.Fronts.{fronted}
use Rattle.hd_volume.proofs.JoinLemmas.{AreOne}
use Rattle.hd_index.proofs.Searching.{right-order}

-- ---- the last of some blocks

last-among : (other : ℕ) (ns : List ℕ) → (last_of other ns ≡ other) ⊎ IsAmong (last_of other ns) ns
last-among other [] = inl refl
last-among other (n ∷ ns) = elim (last-among n ns) [ inl e ↦ inr (inl e) | inr a ↦ inr (inr a) ]

-- it is one of them, where it is not 0
pub last-one : (ns : List ℕ) → last_of 0 ns ≢ 0 → IsAmong (last_of 0 ns) ns
last-one ns some = elim (last-among 0 ns) [ inl z ↦ absurd (some z) | inr a ↦ a ]

-- behind some number what else there was does not matter
pub last-other : (a : ℕ) (ns : List ℕ) → last_of 0 ns ≢ 0 → last_of a ns ≡ last_of 0 ns
last-other a [] some = absurd (some refl)
last-other a (n ∷ ns) some = refl

-- the last of blocks of a level is of it
last-level : (c : IndexBlocks) (l other : ℕ) (ns : List ℕ) → c.level other ≡ Some l → AreOnLevel c l ns → c.level (last_of other ns) ≡ Some l
last-level c l other [] is on = is
last-level c l other (n ∷ ns) is on = last-level c l n ns on.0 on.2

-- so it is not 0
pub last-none : (c : IndexBlocks) (l : ℕ) (ns : List ℕ) → c.level 0 ≡ None → AreOnLevel c l ns → last_of 0 ns ≡ 0 → ns ≡ []
last-none c l [] none on z = refl
last-none c l (n ∷ ns) none on z = let e : Some l ≡ None = sym (last-level c l n ns on.0 on.2) ∙ ap c.level z ∙ none in cc

-- ---- one step

-- the sequence set of a later version is the one below the top
pub later-blocks : (k : ℕ) (v : VolumeState) → HasIndexSet k v → sequence_blocks k v ≡ sequence_set (index_blocks k v) (top_level v) (top_blocks v)
later-blocks k v x =
    ap (λ (b : Bool). cond b (entry_blocks v) (sequence_set (index_blocks k v) (top_level v) (top_blocks v))) (ne_eqb (header_of v.image).version 1 x.version)

module _ {k : ℕ} {v : VolumeState} {key : List ℕ} {l : ℕ} {stand : Stand} (x : HasIndexSet k v) (s : IsStand k v key l stand) where
  on-all : AreOnLevel (index_blocks k v) l (s.before ++ (stand.block ∷ s.behind))
  on-all = set-level (index_blocks k v) l (s.before ++ (stand.block ∷ s.behind)) s.around.set

  -- the blocks of its level lead down to the sequence set below the top
  pub stand-blocks : sequence_set (index_blocks k v) l (s.before ++ (stand.block ∷ s.behind)) ≡ sequence_set (index_blocks k v) (top_level v) (top_blocks v)
  stand-blocks = s.whole ∙ later-blocks k v x

  -- so they have the whole index below them
  pub stand-entries : entries_below (index_blocks k v) l (s.before ++ (stand.block ∷ s.behind)) ≡ index_entries k v
  stand-entries = ap (across (index_blocks k v)) stand-blocks ∙ sym ((entries-below k v).1 x.version)

  -- its block is in order
  pub block-order : IsInOrder k v stand.block
  block-order =
      right-order k v l stand.block
      (right-block k v l stand.block x
      (of-level (index_blocks k v) l stand.block (s.before ++ (stand.block ∷ s.behind)) s.around.set (among-right stand.block s.before (stand.block ∷ s.behind) (inl refl))))

  -- so is the left neighbour, if there is one
  pub left-order : stand.left ≢ 0 → IsInOrder k v stand.left
  left-order some =
      let among : IsAmong (last_of 0 s.before) s.before = last-one s.before (λ z. some (s.left_is ∙ z)) in
      let A : ℕ → Type 0 = λ n. IsAmong n s.before in
      right-order k v l stand.left
      (right-block k v l stand.left x
      (of-level (index_blocks k v) l stand.left (s.before ++ (stand.block ∷ s.behind)) s.around.set
      (among-left stand.left s.before (stand.block ∷ s.behind) (subst A (sym s.left_is) among))))

-- a step to the block that the key leads to, where its left neighbour is told
pub stand-down : (k : ℕ) (v : VolumeState) (key : List ℕ) (l : ℕ) (stand below : Stand) → IsStand k v key (suc l) stand → below.block ≡ child_of key (entries_in k (block_at v stand.block))
    → below.left ≡ last_of (last_child (index_blocks k v) stand.left) (named (front_of key (entries_in k (block_at v stand.block)))) → IsStand k v key l below
stand-down k v key l stand below s block left =
    let c : IndexBlocks = index_blocks k v in
    let n : ℕ = stand.block in
    let on = on-parts c (suc l) s.before (n ∷ s.behind) (set-level c (suc l) (s.before ++ (n ∷ s.behind)) s.around.set) in
    let f = fronted key (c.entries n) on.1.1 in
    let front : List Entry = front_of key (c.entries n) in
    let down = around-down c key l s.before n s.behind front f.entry f.back f.is f.less f.here s.around in
    let A : ℕ → Type 0 = λ i. IsAround c key l (named (across c s.before ++ front)) i (named (f.back ++ across c s.behind)) in
    let is : below.block ≡ f.entry.address = block ∙ sym f.child in
    let nm : IsNamed c (named (across c s.before ++ front)) f.entry.address (named (f.back ++ across c s.behind)) s.before n s.behind =
    record { front = front; entry = f.entry; back = f.back; is = f.is; child = refl; left_is = refl; right_is = refl } in
    let beside = left-named c l (named (across c s.before ++ front)) f.entry.address (named (f.back ++ across c s.behind)) s.before n s.behind nm on.0 refl in
    record {
      before = named (across c s.before ++ front);
      behind = named (f.back ++ across c s.behind);
      around = subst A (sym is) down;
      left_is = left ∙ ap (λ (i : ℕ). last_of (last_child c i) (named front)) s.left_is ∙ sym beside;
      whole =
          ap (λ (i : ℕ). sequence_set c l (named (across c s.before ++ front) ++ (i ∷ named (f.back ++ across c s.behind)))) is
          ∙ ap (sequence_set c l) (sym (names-about c s.before n s.behind front f.entry f.back f.is)) ∙ s.whole;
    }

-- the front of a step names no 0: where its last name is 0 it is empty
pub front-none : (k : ℕ) (v : VolumeState) (key : List ℕ) (l : ℕ) (stand : Stand) → IsStand k v key (suc l) stand → (m : ℕ)
    → last_of 0 (named (front_of key (entries_in k (block_at v stand.block)))) ≡ 0 → last_of m (named (front_of key (entries_in k (block_at v stand.block)))) ≡ m
front-none k v key l stand s m z =
    let c : IndexBlocks = index_blocks k v in
    let n : ℕ = stand.block in
    let on = on-parts c (suc l) s.before (n ∷ s.behind) (set-level c (suc l) (s.before ++ (n ∷ s.behind)) s.around.set) in
    let f = fronted key (c.entries n) on.1.1 in
    let front : List Entry = front_of key (c.entries n) in
    let down = around-down c key l s.before n s.behind front f.entry f.back f.is f.less f.here s.around in
    let all = on-parts c l (named (across c s.before ++ front)) (f.entry.address ∷ named (f.back ++ across c s.behind)) (set-level c l (named (across c s.before ++ front) ++ (f.entry.address ∷ named (f.back ++ across c s.behind))) down.set) in
    let O : List ℕ → Type 0 = λ t. AreOnLevel c l t in
    let own = on-parts c l (named (across c s.before)) (named front) (subst O (named-append (across c s.before) front) all.0) in
    ap (last_of m) (last-none c l (named front) refl own.1 z)

-- a left neighbour of 0 names nothing
pub no-child : (c : IndexBlocks) (n : ℕ) → n ≡ 0 → last_child c n ≡ 0
no-child c n z = rw (eq-eqb n 0 z) refl

pub some-child : (c : IndexBlocks) (n : ℕ) → n ≢ 0 → last_child c n ≡ last_of 0 (named (c.entries n))
some-child c n some = rw (ne_eqb n 0 some) refl

-- ---- the top, and the end of a walk

-- at the top
pub stand-top : (k : ℕ) (v : VolumeState) (key : List ℕ) (l : ℕ) (stand : Stand) → HasIndexSet k v → 0 < (header_of v.image).top → stand.left ≡ 0 → stand.block ≡ (header_of v.image).top
    → l ≡ top_level v → IsStand k v key l stand
stand-top k v key l stand x some left block level =
    let c : IndexBlocks = index_blocks k v in
    let S : List ℕ → Type 0 = λ ns. IsIndexSet c (top_level v) ns in
    let L : ℕ → Type 0 = λ i. IsAround c key i [] stand.block [] in
    let B : ℕ → Type 0 = λ n. IsAround c key (top_level v) [] n [] in
    record {
      before = [];
      behind = [];
      around = subst L (sym level) (subst B (sym block) (top-around c key (top_level v) (header_of v.image).top (subst S (top-is v some) x.set)));
      left_is = left;
      whole =
          ap (λ (i : ℕ). sequence_set c i (stand.block ∷ [])) level ∙ ap (λ (n : ℕ). sequence_set c (top_level v) (n ∷ [])) block
          ∙ ap (sequence_set c (top_level v)) (sym (top-is v some)) ∙ sym (later-blocks k v x);
    }

-- the last key of some blocks is that of the last of them
last-across : (c : IndexBlocks) (l : ℕ) (other : List ℕ) (n : ℕ) (ns : List ℕ) → AreOnLevel c l (n ∷ ns) → last_key other (across c (n ∷ ns)) ≡ last_key other (c.entries (last_of n ns))
last-across c l other n [] on = key-append other (c.entries n) []
  where
    key-append : (other : List ℕ) (xs ys : List Entry) → last_key other (xs ++ ys) ≡ last_key (last_key other xs) ys
    key-append other [] ys = refl
    key-append other (y ∷ xs) ys = key-append y.key xs ys
last-across c l other n (m ∷ ns) on =
    key-append other (c.entries n) (across c (m ∷ ns)) ∙ last-across c l (last_key other (c.entries n)) m ns on.2
    ∙ key-some (last_key other (c.entries n)) other (c.entries (last_of m ns)) (last-some m ns on.2)
  where
    key-append : (other : List ℕ) (xs ys : List Entry) → last_key other (xs ++ ys) ≡ last_key (last_key other xs) ys
    key-append other [] ys = refl
    key-append other (y ∷ xs) ys = key-append y.key xs ys

    key-some : (a b : List ℕ) (es : List Entry) → es ≢ [] → last_key a es ≡ last_key b es
    key-some a b [] some = absurd (some refl)
    key-some a b (e ∷ es) some = refl

    last-some : (m : ℕ) (ns : List ℕ) → AreOnLevel c l (m ∷ ns) → c.entries (last_of m ns) ≢ []
    last-some m [] on = on.1
    last-some m (n ∷ ns) on = last-some n ns on.2

-- the greatest key below a key, by the block where the walk ended and its left neighbour
pub stand-greatest : (k : ℕ) (v : VolumeState) (key : List ℕ) (stand : Stand) → HasIndexSet k v → IsStand k v key 0 stand
    → greatest_below key key (index_entries k v)
    ≡ greatest_below (cond (stand.left == 0) key (last_key key (entries_in k (block_at v stand.left)))) key (entries_in k (block_at v stand.block))
stand-greatest k v key stand x s =
    let c : IndexBlocks = index_blocks k v in
    let n : ℕ = stand.block in
    let on = on-parts c 0 s.before (n ∷ s.behind) (set-level c 0 (s.before ++ (n ∷ s.behind)) s.around.set) in
    ap (greatest_below key key) (sym (stand-entries x s)) ∙ greatest-near c key s.before n s.behind s.around
    ∙ ap (λ (t : List ℕ). greatest_below t key (c.entries n)) (by-left s.before on.0 ∙ ap (λ (i : ℕ). cond (i == 0) key (last_key key (c.entries i))) (sym s.left_is))
  where
    by-left : (ns : List ℕ) → AreOnLevel (index_blocks k v) 0 ns
        → last_key key (across (index_blocks k v) ns) ≡ cond (last_of 0 ns == 0) key (last_key key (entries_in k (block_at v (last_of 0 ns))))
    by-left [] on = refl
    by-left (m ∷ ns) on =
        let other : last_of 0 (m ∷ ns) ≢ 0 = λ z. (let none = last-none (index_blocks k v) 0 (m ∷ ns) refl on z in let e : m ∷ ns ≡ [] = none in cc) in
        last-across (index_blocks k v) 0 key m ns on
        ∙ sym (ap (λ b. cond b key (last_key key (entries_in k (block_at v (last_of 0 (m ∷ ns)))))) (ne_eqb (last_of 0 (m ∷ ns)) 0 other))

-- ---- one image

pub stand-same : (k : ℕ) (v w : VolumeState) (key : List ℕ) (l : ℕ) (stand : Stand) → AreOne v w → IsStand k v key l stand → IsStand k w key l stand
stand-same k v w key l stand one s =
    let c : index_blocks k w ≡ index_blocks k v = rw (one.same.size, one.image) refl in
    let blocks : sequence_blocks k w ≡ sequence_blocks k v = rw (one.same.size, one.image) refl in
    let A : IndexBlocks → Type 0 = λ b. IsAround b key l s.before stand.block s.behind in
    record {
      before = s.before;
      behind = s.behind;
      around = subst A (sym c) s.around;
      left_is = s.left_is;
      whole = ap (λ (b : IndexBlocks). sequence_set b l (s.before ++ (stand.block ∷ s.behind))) c ∙ s.whole ∙ sym blocks;
    }
