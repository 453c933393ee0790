-- The entry of a key goes out of a block of the sequence set that has another one too: it alone.
use Rattle.std.proofs.Common.{◌≡◌, ◌≢◌, inl, inr, ℕ, zero, suc, ◌-◌, ◌≤◌, ◌<◌, Bool, true, false, cond, List, [], ◌∷◌, ◌++◌, length, take, Some, None, refl, sym, ap, ◌∙◌, subst, arith}
use Rattle.std.specs.Prelude.{bytes_eq, min}
use Rattle.std.proofs.lemmas.Bool.{cases_lt, eq-eqb}
use Rattle.std.proofs.lemmas.List.{length-take-le}
use Rattle.hd_bytes.specs.Numbers.{number_at}
use Rattle.hd_volume.specs.Headers.{header_of}
use Rattle.hd_volume.specs.Volumes.{VolumeState, block_at}
use Rattle.hd_volume.specs.Entries.{Entry, entries_in}
use Rattle.hd_volume.specs.Indexes.{IsAmong}
use Rattle.hd_index_blocks.specs.Fields.{below_count}
use Rattle.hd_index_blocks.specs.Maps.{address_of, without_key}
use Rattle.hd_index_blocks.specs.Levels.{IndexBlocks, named, sequence_set}
use Rattle.hd_index_blocks.specs.Ways.{child_of, leaf_of}
use Rattle.hd_index_blocks.specs.Neighbours.{last_of, last_child}
use Rattle.hd_index_blocks.specs.IndexSets.{next_in, index_blocks, top_blocks, top_level, index_entries, HasIndexSet}
use Rattle.hd_index_blocks.proofs.BlockLemmas.{length-entries}
use Rattle.hd_index_blocks.proofs.Volumes.{level-of, top-is}
use Rattle.hd_index.specs.Edits.{IsEntryRemoved}
use Rattle.hd_index.specs.declared.stand.Stand.{Stand}
use Rattle.hd_index.specs.declared.address.Place.{Place}
use Rattle.hd_index.specs.Nearness.{IsSpareIn, IsSpare}
use Rattle.hd_index.specs.Changes.{IsChanged}
use Rattle.hd_index.specs.Stands.{front_of}
use Rattle.hd_index.specs.Removals.{IsOnWayIn}
use Rattle.hd_volume.proofs.JoinLemmas.{AreOne, one-kind}
use Rattle.hd_index.proofs.EditLemmas.{one-block-at}
use Rattle.hd_index.proofs.Places.{below-all, address-past}
use Rattle.hd_index.proofs.Fronts.{front-take}
use Rattle.hd_index.proofs.Leaves.{IsKeyIn, own-block, sequence-none}
use Rattle.hd_index.proofs.Lasts.{among-sequence}
use Rattle.hd_index.proofs.WaysUp.{on-down}
use Rattle.hd_index.proofs.Trims.{same-key, leaf-trimmed, leaf-address, on-start}

-- a key that is found has an entry
key-there : (key : List ℕ) (es : List Entry) → address_of key es ≢ None → IsKeyIn key es
key-there key [] there = absurd (there refl)
key-there key (e ∷ es) there = by-equal (bytes_eq e.key key) refl there (key-there key es)
  where
    by-equal : (b : Bool) → bytes_eq e.key key ≡ b → cond b (Some e.address) (address_of key es) ≢ None → (address_of key es ≢ None → IsKeyIn key es) → IsKeyIn key (e ∷ es)
    by-equal true is some rest = record { front = []; entry = e; back = es; is = refl; key_is = same-key e.key key is }
    by-equal false is some rest =
        let r = rest some in
        record { front = e ∷ r.front; entry = r.entry; back = r.back; is = ap (λ (t : List Entry). e ∷ t) r.is; key_is = r.key_is }

-- its place is that which it leads to
place-front : (key : List ℕ) (es : List Entry) → address_of key es ≢ None → length (front_of key es) ≡ below_count key es
place-front key es there = elim (cases_lt (below_count key es) (length es)) [
  | inl less ↦
      (let index : below_count key es ≡ min (below_count key es) (length es - 1) = omega arith in
      ap (λ (t : List Entry). length t) (front-take key es (below_count key es) index) ∙ length-take-le (below_count key es) es (omega arith))
  | inr past ↦ absurd (there (address-past key es (below-all key es past)))
]

-- Where a walk down by a key ends.
record HasEnd (k : ℕ) (v : VolumeState) (key : List ℕ) (n : ℕ) : Type 0 where
  left : ℕ
  on : IsOnWayIn k v key 0 (record { left = left; block = n })

-- a walk from a block of a level ends where the key leads
on-leaf : (k : ℕ) (v : VolumeState) (key : List ℕ) (l left n : ℕ) → IsOnWayIn k v key l (record { left = left; block = n }) → HasEnd k v key (leaf_of (index_blocks k v) key l n)
on-leaf k v key zero left n on = record { left = left; on = on }
on-leaf k v key (suc l) left n on =
    let c : IndexBlocks = index_blocks k v in
    let stand : Stand = record { left = left; block = n } in
    let below : Stand = record { left = last_of (last_child c left) (named (front_of key (c.entries n))); block = child_of key (c.entries n) } in
    on-leaf k v key l below.left below.block (on-down c (next_in v) (top_level v) (header_of v.image).top key l stand below refl on refl refl)

-- so it ends at the block
spare-end : (k : ℕ) (v : VolumeState) (key : List ℕ) (n : ℕ) (place : Place) → HasIndexSet k v → IsSpare k v key n place → HasEnd k v key n
spare-end k v key n place x h =
    let c : IndexBlocks = index_blocks k v in
    let t : ℕ = (header_of v.image).top in
    let A : List ℕ → Type 0 = λ ns. IsAmong n ns in
    let among = among-sequence c (top_level v) n (top_blocks v) x.set (level-of v n h.0 ∙ ap (λ (i : ℕ). Some i) h.1.level) (x.reached n h.0) in
    elim x.height [
      | inl none ↦
          (let empty : top_blocks v ≡ [] = rw (eq-eqb t 0 none.0) refl in
          absurd (subst A (ap (sequence_set c (top_level v)) empty ∙ sequence-none c (top_level v)) among))
      | inr some ↦
          (let E : ℕ → Type 0 = λ i. HasEnd k v key i in
          let e = on-leaf k v key (top_level v) 0 t (on-start k v key (top_level v) (record { left = 0; block = t }) x some.0 refl refl refl) in
          let all = subst A (ap (sequence_set c (top_level v)) (top-is v some.0) ∙ sym e.on.whole) among in
          subst E (sym (own-block c key e.on.before (leaf_of c key (top_level v) t) e.on.behind n e.on.around all (key-there key (c.entries n) h.1.there))) e)
    ]

-- the entry is gone
pub spare-removed : (k : ℕ) (u w : VolumeState) (key : List ℕ) (n : ℕ) (place : Place) → HasIndexSet k u → IsSpare k u key n place → IsEntryRemoved k u n place.index w
    → IsChanged k u (without_key key (index_entries k u)) 0 w
spare-removed k u w key n place x h removed =
    let es : List Entry = entries_in k (block_at u n) in
    let e = spare-end k u key n place x h in
    let stand : Stand = record { left = e.left; block = n } in
    let R : ℕ → Type 0 = λ i. IsEntryRemoved k u n i w in
    let more = h.1.more in
    let count = h.1.count_is in
    let len : length es ≡ number_at 2 (block_at u n) 4 = length-entries k (block_at u n) 12 (number_at 2 (block_at u n) 4) in
    leaf-trimmed k u w key stand x e.on (omega arith) (λ none. h.1.there (sym (leaf-address k u key stand x e.on) ∙ none)) (subst R (h.1.index_is ∙ sym (place-front key es h.1.there)) removed)

-- ---- behind a read

-- the same place
pub spare-same : (k : ℕ) (u v : VolumeState) (key : List ℕ) (n : ℕ) (place : Place) → AreOne u v → IsSpare k u key n place → IsSpare k v key n place
spare-same k u v key n place one h =
    let N : List ℕ → Type 0 = λ b. IsSpareIn k b key place in
    (one-kind one 2 n h.0, subst N (sym (one-block-at one n)) h.1)
