-- What the block of the sequence set that a key leads to, and the next one, answer for the whole index of a volume.
use Rattle.std.proofs.Common.{◌≡◌, ◌≢◌, inl, Option, ℕ, zero, suc, ◌+◌, ◌<◌, ◌==◌, cond, Bool, true, false, List, [], ◌∷◌, ◌++◌, Some, refl, sym, ap, ◌∙◌, subst, ne_eqb}
use Rattle.std.proofs.lemmas.Bool.{eq-eqb}
use Rattle.hd_volume.specs.Headers.{header_of}
use Rattle.hd_volume.specs.Volumes.{VolumeState, block_at}
use Rattle.hd_volume.specs.Entries.{Entry, entries_in}
use Rattle.hd_volume.specs.Indexes.{key_less, is_below_first, IsAmong}
use Rattle.hd_volume.proofs.KeyLemmas.{less-not}
use Rattle.hd_index_blocks.specs.Maps.{address_of, address_from}
use Rattle.hd_index_blocks.specs.Levels.{IndexBlocks, across, named, sequence_set, AreOnLevel, IsIndexSet}
use Rattle.hd_index_blocks.specs.Chains.{IsLinked, first_of, AreLevelsLinked}
use Rattle.hd_index_blocks.specs.Ways.{leaf_of, IsAround}
use Rattle.hd_index_blocks.specs.IndexSets.{next_in, index_blocks, top_blocks, top_level, index_entries, HasIndexSet}
use Rattle.hd_index_blocks.specs.VolumeLaws.{IsRightBlock, LeavesAnswerForAll}
use Rattle.hd_index_blocks.proofs.Levels.{on-parts}
use Rattle.hd_index_blocks.proofs.Descents.{HasLeaf, leaf-is, around-answers}
use Rattle.hd_index_blocks.proofs.Downs.{among-right, of-level}
use Rattle.hd_index_blocks.proofs.Volumes.{entries-below, right-block, top-is}

-- the lowest level is linked
pub sequence-linked : (c : IndexBlocks) (next : ℕ → ℕ) (l : ℕ) (ns : List ℕ) → AreLevelsLinked c next l ns → IsLinked next (first_of (sequence_set c l ns)) (sequence_set c l ns)
sequence-linked c next zero ns h = h
sequence-linked c next (suc l) ns h = sequence-linked c next l (named (across c ns)) h.1

-- the chain behind a block
linked-behind : (next : ℕ → ℕ) (start : ℕ) (left : List ℕ) (n : ℕ) (right : List ℕ) → IsLinked next start (left ++ (n ∷ right)) → IsLinked next (next n) right
linked-behind next start [] n right h = h.2
linked-behind next start (x ∷ left) n right h = linked-behind next (next x) left n right h.2

-- what comes behind an entry that is above a key does not matter
from-above : (key : List ℕ) (xs ys zs : List Entry) → ys ≢ [] → is_below_first key (ys ++ zs) ≡ true → address_from key (xs ++ (ys ++ zs)) ≡ address_from key (xs ++ ys)
from-above key [] [] zs some first = absurd (some refl)
from-above key [] (y ∷ ys) zs some first = rw (less-not key y.key first) refl
from-above key (x ∷ xs) ys zs some first = ap (λ (o : Option ℕ). cond (key_less x.key key) o (Some x.address)) (from-above key xs ys zs some first)

-- the next block is enough
next-enough : (c : IndexBlocks) (next : ℕ → ℕ) (key : List ℕ) (es : List Entry) (n : ℕ) (right : List ℕ) → IsLinked next (next n) right → AreOnLevel c 0 right
    → is_below_first key (across c right) ≡ true → address_from key (es ++ across c right) ≡ address_from key (es ++ cond (next n == 0) [] (c.entries (next n)))
next-enough c next key es n [] linked on first = rw (eq-eqb (next n) 0 linked) refl
next-enough c next key es n (m ∷ ms) linked on first =
    let is : cond (next n == 0) [] (c.entries (next n)) ≡ c.entries m = rw (ne_eqb (next n) 0 (λ e. linked.1 (sym linked.0 ∙ e))) (ap c.entries linked.0) in
    from-above key es (c.entries m) (across c ms) on.1 first ∙ ap (λ (t : List Entry). address_from key (es ++ t)) (sym is)

-- the block of the sequence set, among all of them
leaf-at : (k : ℕ) (v : VolumeState) (key : List ℕ) (n : ℕ) → HasIndexSet k v → 0 < (header_of v.image).top
    → n ≡ leaf_of (index_blocks k v) key (top_level v) (header_of v.image).top → HasLeaf (index_blocks k v) key (sequence_set (index_blocks k v) (top_level v) (top_blocks v)) n
leaf-at k v key n x some is =
    let S : List ℕ → Type 0 = λ ns. IsIndexSet (index_blocks k v) (top_level v) ns in
    let H : List ℕ → Type 0 = λ ns. HasLeaf (index_blocks k v) key (sequence_set (index_blocks k v) (top_level v) ns) n in
    let N : ℕ → Type 0 = λ i. HasLeaf (index_blocks k v) key (sequence_set (index_blocks k v) (top_level v) ((header_of v.image).top ∷ [])) i in
    subst H (sym (top-is v some)) (subst N (sym is) (leaf-is (index_blocks k v) key (top_level v) (header_of v.image).top (subst S (top-is v some) x.set)))

pub leaves-answer-all : LeavesAnswerForAll
leaves-answer-all k v key n x some is =
    let s = leaf-at k v key n x some is in
    let L : List ℕ → Type 0 = λ ns. IsLinked (next_in v) (first_of (sequence_set (index_blocks k v) (top_level v) (top_blocks v))) ns in
    let linked = linked-behind (next_in v) (first_of (sequence_set (index_blocks k v) (top_level v) (top_blocks v))) s.left n s.right
    (subst L (sym s.whole) (sequence-linked (index_blocks k v) (next_in v) (top_level v) (top_blocks v) x.next)) in
    let all : index_entries k v ≡ across (index_blocks k v) (s.left ++ (n ∷ s.right)) = (entries-below k v).1 x.version ∙ ap (across (index_blocks k v)) (sym s.whole) in
    let own = around-answers (index_blocks k v) key s.left n s.right s.around in
    let on = (on-parts (index_blocks k v) 0 s.left (n ∷ s.right) s.around.set.0).1 in (
      right-block k v 0 n x (of-level (index_blocks k v) 0 n (s.left ++ (n ∷ s.right)) s.around.set (among-right n s.left (n ∷ s.right) (inl refl))),
      ap (address_of key) all ∙ own.0,
      ap (address_from key) all ∙ own.1 ∙ next-enough (index_blocks k v) (next_in v) key (entries_in k (block_at v n)) n s.right linked on.2 s.around.above,
    )
