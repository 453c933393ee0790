-- A key of an index set gets another address.
use Rattle.std.proofs.Common.{◌≡◌, ◌≢◌, ℕ, suc, ◌<◌, Bool, true, false, cond, List, [], ◌∷◌, Some, None, refl, sym, ap, ◌∙◌, subst, arith, ne_eqb}
use Rattle.std.specs.Prelude.{slice_get, bytes_eq}
use Rattle.std.proofs.lemmas.Bool.{eq-eqb}
use Rattle.hd_bytes.specs.Numbers.{number_at}
use Rattle.hd_volume.specs.Headers.{header_of}
use Rattle.hd_volume.specs.Volumes.{VolumeState, block_at}
use Rattle.hd_volume.specs.Entries.{Entry, entries_in}
use Rattle.hd_volume.specs.Indexes.{key_less}
use Rattle.hd_volume.proofs.JoinLemmas.{AreOne, one-spare}
use Rattle.hd_index_blocks.specs.Fields.{below_count}
use Rattle.hd_index_blocks.proofs.BlockLemmas.{length-entries}
use Rattle.hd_index_blocks.specs.Maps.{address_of, with_address}
use Rattle.hd_index_blocks.specs.Levels.{IndexBlocks, entries_below, IsIndexSet}
use Rattle.hd_index_blocks.specs.Ways.{leaf_of}
use Rattle.hd_index_blocks.specs.Changes.{OthersStay}
use Rattle.hd_index_blocks.specs.IndexSets.{level_in, next_in, index_blocks, top_blocks, top_level, index_entries, HasIndexSet}
use Rattle.hd_index_blocks.specs.VolumeLaws.{IsRightBlock}
use Rattle.hd_index_blocks.proofs.Keys.{less-other}
use Rattle.hd_index_blocks.proofs.Addresses.{addressed-none, addressed}
use Rattle.hd_index_blocks.proofs.Volumes.{level-of, entries-below, top-is}
use Rattle.hd_index_blocks.proofs.LeafAnswers.{leaves-answer-all}
use Rattle.hd_index.specs.EditedBlocks.{with_address_at, IsIndexBlock}
use Rattle.hd_index.specs.Edits.{HasNewEntries, IsAddressChanged}
use Rattle.hd_index.proofs.EditLemmas.{one-block-at}
use Rattle.hd_index.specs.declared.address.Place.{Place}
use Rattle.hd_index.specs.Blocks.{IsInOrder, leaf_at}
use Rattle.hd_index.specs.Searches.{IsPlaceOf}
use Rattle.hd_index.specs.Changes.{IsChanged, IsKeySet}
use Rattle.hd_index.proofs.Edited.{edited-block, edited-others, edited-upper, edited-set, edited-entries, edited-changed, entries-before}
use Rattle.hd_index.proofs.Searching.{none-seen, order-same, right-order, right-same}
use Rattle.hd_index.proofs.Inserting as inserting

-- ---- in one block

-- the entry at the place of a key, where it has the key, is the one that gets another address
pub address-set : (key : List ℕ) (address : ℕ) (es : List Entry) (x : Entry) → slice_get es (below_count key es) ≡ Some x → bytes_eq x.key key ≡ true → with_address key address es ≡ with_address_at (below_count key es) address es
address-set key address [] x there same = refl
address-set key address (e ∷ es) x there same = by-test (key_less e.key key) refl there (address-set key address es x)
  where
    by-test : (b : Bool) → key_less e.key key ≡ b → slice_get (e ∷ es) (cond b (suc (below_count key es)) 0) ≡ Some x
        → (slice_get es (below_count key es) ≡ Some x → bytes_eq x.key key ≡ true → with_address key address es ≡ with_address_at (below_count key es) address es)
        → with_address key address (e ∷ es) ≡ with_address_at (cond b (suc (below_count key es)) 0) address (e ∷ es)
    by-test true is there rest = rw (less-other e.key key is) (ap (λ (t : List Entry). e ∷ t) (rest there same))
    by-test false is there rest =
        let one : e ≡ x = cc in
        let eq : bytes_eq e.key key ≡ true = ap (λ (t : Entry). bytes_eq t.key key) one ∙ same in
        rw eq refl

-- ---- in the index

-- the leaf of a key has its entry with another address
pub key-set : (k : ℕ) (v w : VolumeState) (key : List ℕ) (address n : ℕ) → HasIndexSet k v → 0 < (header_of v.image).top → n ≡ leaf_of (index_blocks k v) key (top_level v) (header_of v.image).top → IsRightBlock k v 0 n
    → HasNewEntries k v n (with_address key address (entries_in k (block_at v n))) (next_in v n) w → IsKeySet k v key address w
key-set k v w key address n x some is right new =
    let c : IndexBlocks = index_blocks k v in
    let d : IndexBlocks = index_blocks k w in
    let h : ℕ = top_level v in
    let t : ℕ = (header_of v.image).top in
    let es : List Entry = with_address key address (entries_in k (block_at v n)) in
    let own : level_in v n ≡ Some 0 = level-of v n right.is ∙ ap (λ (i : ℕ). Some i) right.level in
    let tops : top_blocks v ≡ t ∷ [] = top-is v some in
    let S : List ℕ → Type 0 = λ ns. IsIndexSet c h ns in
    let D : List ℕ → Type 0 = λ ns. IsIndexSet d h ns in
    let b = edited-block k v w 0 n es own new in
    let N : ℕ → Type 0 = λ i. (level_in w i ≡ Some 0) × (entries_in k (block_at w i) ≡ with_address key address (entries_in k (block_at v i))) in
    let O : ℕ → Type 0 = λ i. OthersStay c d 0 i in
    let r = addressed c d h t key address (subst S tops x.set) (subst N is (b.0, b.1)) (subst O is (edited-others k v w 0 n es own new)) (edited-upper k v w 0 n es own new) in
    let y = edited-set k v w 0 n es own new x (λ j e. absurd (omega arith)) (subst D (sym tops) r.0) in
    let entries : index_entries k w ≡ with_address key address (index_entries k v) =
    edited-entries k v w 0 n es own new y ∙ ap (entries_below d h) tops ∙ r.1
    ∙ ap (λ (ns : List ℕ). with_address key address (entries_below c h ns)) (sym tops) ∙ ap (with_address key address) (sym ((entries-below k v).1 x.version)) in
    record { changed = edited-changed k v w 0 n es own new (with_address key address (index_entries k v)) y entries; spares = new.edit.spares; header = new.edit.header }

-- where the index does not have the key, a read leaves all
pub set-none : (k : ℕ) (u v : VolumeState) (key : List ℕ) (address : ℕ) → HasIndexSet k u → AreOne u v → address_of key (index_entries k u) ≡ None → IsKeySet k u key address v
set-none k u v key address x one none =
    let C : List Entry → Type 0 = λ es. IsChanged k u es 0 v in
    record {
      changed = subst C (sym (addressed-none key address (index_entries k u) none)) (inserting.unchanged k u v x one);
      spares = one-spare one;
      header = ap header_of one.image;
    }

-- ---- where it stands

-- The block of the sequence set that a key leads to from the top.
pub record IsLeaf (k : ℕ) (v : VolumeState) (key : List ℕ) (n : ℕ) : Type 0 where
  pub some : 0 < (header_of v.image).top
  pub at : n ≡ leaf_of (index_blocks k v) key (top_level v) (header_of v.image).top
  pub right : IsRightBlock k v 0 n
  pub address : address_of key (index_entries k v) ≡ address_of key (entries_in k (block_at v n))

pub leaf-known : (k : ℕ) (v : VolumeState) (key : List ℕ) (n : ℕ) → HasIndexSet k v → n ≡ leaf_at k v key → n ≢ 0 → IsLeaf k v key n
leaf-known k v key n x is other =
    let some : (header_of v.image).top ≢ 0 = λ z. other (is ∙ (let e : leaf_at k v key ≡ 0 = rw (eq-eqb (header_of v.image).top 0 z) refl in e)) in
    let at : n ≡ leaf_of (index_blocks k v) key (top_level v) (header_of v.image).top = is ∙ (let e : leaf_at k v key ≡ leaf_of (index_blocks k v) key (top_level v) (header_of v.image).top = rw (ne_eqb (header_of v.image).top 0 some) refl in e) in
    let r = leaves-answer-all k v key n x (omega arith) at in
    record { some = omega arith; at = at; right = r.0; address = r.1 }

-- where the key leads to no block, the index does not have it
pub leaf-none : (k : ℕ) (v : VolumeState) (key : List ℕ) → HasIndexSet k v → leaf_at k v key ≡ 0 → address_of key (index_entries k v) ≡ None
leaf-none k v key x zero_leaf = sym (none-seen k v key (record { equal = None; from = None; next = 0 }) x zero_leaf refl refl refl).equal

-- ---- behind reads

module _ (k : ℕ) (u v : VolumeState) (key : List ℕ) (n : ℕ) (x : HasIndexSet k u) (one : AreOne u v) (leaf : IsLeaf k u key n) where
  pub leaf-order : IsInOrder k v n
  leaf-order = order-same k u v n one.same.size one.image (right-order k u 0 n leaf.right)

  pub leaf-block : IsIndexBlock k v n
  leaf-block = let r = right-same k u v 0 n one leaf.right in record { is = r.is; level = refl; count = r.count }

  -- what was not found in the block is not in the index
  pub leaf-missing : address_of key (entries_in k (block_at v n)) ≡ None → address_of key (index_entries k u) ≡ None
  leaf-missing none = leaf.address ∙ ap (λ (b : List ℕ). address_of key (entries_in k b)) (sym (one-block-at one n)) ∙ none

  -- a place in it, seen later
  pub place-count : (w : VolumeState) (place : Place) → AreOne v w → IsPlaceOf key (entries_in k (block_at v n)) place → number_at 2 (block_at w n) 4 ≡ place.count
  place-count w place next p =
      ap (λ (b : List ℕ). number_at 2 b 4) (one-block-at next n) ∙ sym (length-entries k (block_at v n) 12 (number_at 2 (block_at v n) 4)) ∙ sym p.count_is

  pub place-set : (w z : VolumeState) (address : ℕ) (place : Place) → AreOne u w → IsPlaceOf key (entries_in k (block_at v n)) place → IsAddressChanged k w n place.index address z → IsKeySet k u key address z
  place-set w z address place both p new =
      let B : List ℕ → Type 0 = λ b. HasNewEntries k u n (with_address_at place.index address (entries_in k b)) (number_at 4 b 8) z in
      let E : List Entry → Type 0 = λ es. HasNewEntries k u n es (next_in u n) z in
      let P : List ℕ → Type 0 = λ b. IsPlaceOf key (entries_in k b) place in
      let own = subst P (one-block-at one n) p in
      let before = entries-before k u w z n (with_address_at place.index address (entries_in k (block_at w n))) (next_in w n) both new in
      key-set k u z key address n x leaf.some leaf.at leaf.right (subst E (sym (own.at address)) (subst B (one-block-at both n) before))
