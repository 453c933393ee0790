-- The last block of the sequence set, where a key leads to it.
use Rattle.std.proofs.Common.{◌≡◌, ◌≢◌, inl, inr, ℕ, zero, suc, ◌<◌, ◌≤◌, Bool, true, false, cond, List, [], ◌∷◌, ◌++◌, length, take, Option, None, Some, refl, sym, ap, ◌∙◌, subst, arith}
use Rattle.std.specs.Prelude.{◌==◌, slice_index}
use Rattle.std.specs.Option.{option_map_or, is_some}
use Rattle.hd_bytes.specs.Blocks.{HasBlock}
use Rattle.hd_bytes.specs.Numbers.{number_at}
use Rattle.hd_bytes.proofs.BlockLemmas.{length-block}
use Rattle.hd_volume.specs.declared.load.TheConstants.{MOST_BLOCKS}
use Rattle.hd_volume.specs.Headers.{HasHeader}
use Rattle.hd_volume.specs.Volumes.{VolumeState, block_at, kind_of, IsKind}
use Rattle.hd_volume.specs.Entries.{Entry, entries_in}
use Rattle.hd_volume.specs.Indexes.{entry_room, key_less, keys_ascend, IsAmong}
use Rattle.hd_volume.proofs.KindLemmas.{below-count}
use Rattle.hd_index_blocks.specs.Fields.{CountFits}
use Rattle.hd_index_blocks.specs.Searches.{IfInOrder}
use Rattle.hd_index_blocks.specs.Maps.{greatest_below, last_key}
use Rattle.hd_index_blocks.specs.Levels.{IndexBlocks, across, named, sequence_set, blocks_down, AreBelow, IsIndexSet}
use Rattle.hd_index_blocks.specs.Chains.{IsLinked, first_of}
use Rattle.hd_index_blocks.specs.Neighbours.{last_of}
use Rattle.hd_index_blocks.specs.IndexSets.{next_in, index_blocks, top_blocks, top_level, HasIndexSet}
use Rattle.hd_index_blocks.proofs.Keys.{ascend-below, below-less}
use Rattle.hd_index_blocks.proofs.Levels.{across-append}
use Rattle.hd_index_blocks.proofs.Downs.{among-parts, of-level, level-is}
use Rattle.hd_index_blocks.proofs.LeafAnswers.{sequence-linked}
use Rattle.hd_index_blocks.proofs.Volumes.{level-of, index-blocks-right}
use Rattle.hd_index.specs.Stands.{IsStand}
use Rattle.hd_index.specs.Greatest.{IsGreatestOf, IsGreatestBelow, IsKnownLeaf, lower_key}
use Rattle.hd_index.proofs.Standing.{later-blocks, stand-greatest}
use Rattle.hd_index.proofs.Leaves.{known-leaf}

-- ---- the last block

-- the sequence set below some blocks of an index set is one
pub sequence-is : (c : IndexBlocks) (l : ℕ) (ns : List ℕ) → IsIndexSet c l ns → IsIndexSet c 0 (sequence_set c l ns)
sequence-is c zero ns s = s
sequence-is c (suc l) ns s = sequence-is c l (named (across c ns)) s.2

-- its blocks are those of level 0
pub among-sequence : (c : IndexBlocks) (l n : ℕ) (ns : List ℕ) → IsIndexSet c l ns → c.level n ≡ Some 0 → IsAmong n (blocks_down c l ns) → IsAmong n (sequence_set c l ns)
among-sequence c zero n ns s low among = among
among-sequence c (suc l) n ns s low among =
    elim (among-parts n ns (blocks_down c l (named (across c ns))) among) [
      | inl here ↦ (let own = of-level c (suc l) n ns s here in let e = level-is c (suc l) 0 n own.level low in absurd (omega arith))
      | inr below ↦ among-sequence c l n (named (across c ns)) s.2 low below
    ]

-- Block n is the last of some.
record IsEndOf (n : ℕ) (ns : List ℕ) : Type 0 where
  before : List ℕ
  whole : before ++ (n ∷ []) ≡ ns

-- a block of a chain that names none is its last
end-of : (next : ℕ → ℕ) (start n : ℕ) (ns : List ℕ) → IsLinked next start ns → next n ≡ 0 → IsAmong n ns → IsEndOf n ns
end-of next start n [] linked none among = absurd among
end-of next start n (m ∷ []) linked none (inl e) = record { before = []; whole = ap (λ (i : ℕ). i ∷ []) e }
end-of next start n (m ∷ p ∷ ns) linked none (inl e) = absurd (linked.2.1 (sym linked.2.0 ∙ ap next (sym e) ∙ none))
end-of next start n (m ∷ ns) linked none (inr among) =
    let r = end-of next (next m) n ns linked.2 none among in
    record { before = m ∷ r.before; whole = ap (λ (t : List ℕ). m ∷ t) r.whole }

-- ---- a key that leads to it

-- The first of some entries is below a key.
pub record HasLow (key : List ℕ) (es : List Entry) : Type 0 where
  pub entry : Entry
  pub rest : List Entry
  pub is : es ≡ entry ∷ rest
  pub less : key_less entry.key key ≡ true

-- so it is where the greatest key below it is the same whatever is given for none
low-first : (key g : List ℕ) (es : List Entry) → ((other : List ℕ) → g ≡ greatest_below other key es) → HasLow key es
low-first key g [] all = absurd (let a : g ≡ [] = all [] in let b : g ≡ 0 ∷ [] = all (0 ∷ []) in cc)
low-first key g (e ∷ es) all = by-test (key_less e.key key) refl all
  where
    by-test : (b : Bool) → key_less e.key key ≡ b → ((other : List ℕ) → g ≡ cond b (greatest_below e.key key es) other) → HasLow key (e ∷ es)
    by-test true is all = record { entry = e; rest = es; is = refl; less = is }
    by-test false is all = absurd (let a : g ≡ [] = all [] in let b : g ≡ 0 ∷ [] = all (0 ∷ []) in cc)

-- then all that stands before them is below it
pub below-before : (c : IndexBlocks) (key : List ℕ) (before : List ℕ) (n : ℕ) (behind : List ℕ) → IsIndexSet c 0 (before ++ (n ∷ behind)) → HasLow key (c.entries n) → AreBelow key (across c before)
below-before c key before n behind set low =
    let A : List Entry → Type 0 = λ t. keys_ascend t ≡ true in
    let B : List Entry → Type 0 = λ t. keys_ascend (across c before ++ (t ++ across c behind)) ≡ true in
    let ascend : keys_ascend (across c before ++ (low.entry ∷ (low.rest ++ across c behind))) ≡ true = subst B low.is (subst A (across-append c before (n ∷ behind)) set.1) in
    below-less low.entry.key key (across c before) (ascend-below (across c before) low.entry (low.rest ++ across c behind) ascend) low.less

-- Where a walk down by a key ends at a block.
pub record HasStand (k : ℕ) (v : VolumeState) (key : List ℕ) (n : ℕ) : Type 0 where
  pub left : ℕ
  pub stand : IsStand k v key 0 (record { left = left; block = n })

-- a key that is not the least leads to the last block, if the first one there is below it
last-stand : (k : ℕ) (v : VolumeState) (key : List ℕ) (n : ℕ) → HasIndexSet k v → IsKind v 2 n → slice_index (block_at v n) 3 ≡ 0 → next_in v n ≡ 0
    → HasLow key (entries_in k (block_at v n)) → HasStand k v key n
last-stand k v key n x kind level none low =
    let c : IndexBlocks = index_blocks k v in
    let all : List ℕ = sequence_set c (top_level v) (top_blocks v) in
    let linked = sequence-linked c (next_in v) (top_level v) (top_blocks v) x.next in
    let among = among-sequence c (top_level v) n (top_blocks v) x.set (level-of v n kind ∙ ap (λ (i : ℕ). Some i) level) (x.reached n kind) in
    let end = end-of (next_in v) (first_of all) n all linked none among in
    let S : List ℕ → Type 0 = λ ns. IsIndexSet c 0 ns in
    let set = subst S (sym end.whole) (sequence-is c (top_level v) (top_blocks v) x.set) in
    record {
      left = last_of 0 end.before;
      stand = record {
        before = end.before;
        behind = [];
        around = record { set = set; below = below-before c key end.before n [] set low; above = refl };
        left_is = refl;
        whole = end.whole ∙ sym (later-blocks k v x);
      };
    }

-- ---- what is found there

-- a key that was found is the same whatever is given for none
pub some-any : (k : ℕ) (o : Option (List ℕ)) (a b : List ℕ) → is_some o ≡ true → option_map_or (take k) o a ≡ option_map_or (take k) o b
some-any k None a b h = absurd (cc)
some-any k (Some x) a b h = refl

-- the greatest key below a key in the last block, if it has one, is that of the index, and leads to it
pub last-greatest : (k : ℕ) (v : VolumeState) (key : List ℕ) (n : ℕ) (found : Option (List ℕ)) → HasIndexSet k v → IsKind v 2 n → slice_index (block_at v n) 3 ≡ 0 → next_in v n ≡ 0
    → is_some found ≡ true → IsGreatestOf k found key (entries_in k (block_at v n)) → IsGreatestBelow k v key found × IsKnownLeaf k v (lower_key k v key) n
last-greatest k v key n found x kind level none some own =
    let es : List Entry = entries_in k (block_at v n) in
    let g : List ℕ = option_map_or (take k) found [] in
    let all : (other : List ℕ) → g ≡ greatest_below other key es = λ other. some-any k found [] other some ∙ own other in
    let s = last-stand k v key n x kind level none (low-first key g es all) in
    let t : List ℕ = cond (s.left == 0) key (last_key key (entries_in k (block_at v s.left))) in
    (some-any k found key t some ∙ own t ∙ sym (stand-greatest k v key (record { left = s.left; block = n }) x s.stand), known-leaf k v key (record { left = s.left; block = n }) g x s.stand all)

-- the bytes of an index block are in order
pub known-bytes : (k : ℕ) (v : VolumeState) (n : ℕ) (bytes : List ℕ) → HasIndexSet k v → IsKind v 2 n → bytes ≡ block_at v n → CountFits k bytes × (keys_ascend (entries_in k bytes) ≡ true)
known-bytes k v n bytes x kind is =
    let right = (index-blocks-right k v n x kind).1 in
    let C : List ℕ → Type 0 = λ b. CountFits k b in
    let len : length (block_at v n) ≡ v.size = length-block v.size n v.image kind.there in
    let R : ℕ → Type 0 = λ s. number_at 2 (block_at v n) 4 ≤ entry_room k s in
    (subst C (sym is) (subst R (sym len) right.count), ap (λ (b : List ℕ). keys_ascend (entries_in k b)) is ∙ right.ascend)

-- so is what is found in the bytes of a block, where they say that it is the last
pub last-known : (k : ℕ) (v : VolumeState) (key : List ℕ) (n : ℕ) (found : Option (List ℕ)) (bytes : List ℕ) → HasIndexSet k v → IsKind v 2 n → bytes ≡ block_at v n → is_some found ≡ true
    → slice_index bytes 3 ≡ 0 → number_at 4 bytes 8 ≡ 0 → IfInOrder k bytes (IsGreatestOf k found key (entries_in k bytes)) → IsGreatestBelow k v key found × IsKnownLeaf k v (lower_key k v key) n
last-known k v key n found bytes x kind is some level none own =
    let back = sym is in
    let order = known-bytes k v n bytes x kind is in
    let G : List ℕ → Type 0 = λ b. IsGreatestOf k found key (entries_in k b) in
    last-greatest k v key n found x kind (ap (λ (b : List ℕ). slice_index b 3) back ∙ level) (ap (λ (b : List ℕ). number_at 4 b 8) back ∙ none) some (subst G is (own order.0 order.1))

-- a block behind block 0 that the volume's table calls an index block is one
pub told-kind : (v : VolumeState) (n : ℕ) → HasHeader v.size v.image → 128 ≤ v.size → n ≢ 0 → HasBlock v.size v.image n → (0 < n → n < MOST_BLOCKS → HasBlock v.size v.image n → 2 ≡ kind_of (block_at v n)) → IsKind v 2 n
told-kind v n h least some there told =
    let later : 0 < n = omega arith in
    let low = below-count v n h (omega arith) there in
    let within = h.within in
    let bound = h.bound in
    record { there = there; later = later; kind_is = sym (told later (omega arith) there) }
