-- A new top: of an index that had no block, or over the old one.
use Rattle.std.proofs.Common.{◌≡◌, inl, inr, ℕ, suc, ◌-◌, ◌<◌, ◌≤◌, List, [], ◌∷◌, length, Some, slice_index, refl, sym, ap, ◌∙◌, subst, arith}
use Rattle.std.proofs.lemmas.Bool.{eq-eqb}
use Rattle.hd_bytes.specs.Numbers.{number_at}
use Rattle.hd_volume.specs.Headers.{Header, header_of}
use Rattle.hd_volume.specs.Volumes.{VolumeState, block_at, IsKind}
use Rattle.hd_volume.specs.Entries.{Entry, entries_in}
use Rattle.hd_volume.specs.Indexes.{entry_room, keys_ascend, IsAmong}
use Rattle.hd_index_blocks.specs.Fields.{entry_place}
use Rattle.hd_index_blocks.proofs.RoomLemmas.{room-most}
use Rattle.hd_index_blocks.specs.Maps.{last_key}
use Rattle.hd_index_blocks.specs.Levels.{IndexBlocks, across, named, entries_below, blocks_down, IsIndexSet}
use Rattle.hd_index_blocks.specs.Ways.{child_of}
use Rattle.hd_index_blocks.specs.Changes.{Stays, LowerStay}
use Rattle.hd_index_blocks.specs.Chains.{AreLevelsLinked}
use Rattle.hd_index_blocks.specs.Parents.{ArePlaced}
use Rattle.hd_index_blocks.specs.IndexSets.{level_in, next_in, index_blocks, top_blocks, top_level, index_entries, HasIndexSet}
use Rattle.hd_index_blocks.specs.Needs.{is_full, full_blocks}
use Rattle.hd_index_blocks.proofs.Levels.{nil}
use Rattle.hd_index_blocks.proofs.Volumes.{level-of, level-kind, some-count, entries-below, none-down, top-is, tops-right}
use Rattle.hd_index_blocks.proofs.Dividing.{topped}
use Rattle.hd_index_blocks.proofs.Linking.{links-lower}
use Rattle.hd_index_blocks.proofs.Parents.{index-blocks-placed}
use Rattle.hd_index_blocks.proofs.Fullness.{same-room, full-lower, not-full}
use Rattle.hd_index_blocks.proofs.Placing.{topped-placed}
use Rattle.hd_index.specs.EditedBlocks.{Bears}
use Rattle.hd_index.specs.Changes.{IsChanged}
use Rattle.hd_index.specs.Divisions.{IsTopBegun, IsRoomMade}
use Rattle.hd_index.proofs.Parts.{last-of-some}
use Rattle.hd_index.proofs.Steps.{same-block, assembled}
use Rattle.hd_index.proofs.Halving.{needed-some, needed-all}

-- ---- the top that was begun

module _ (k : ℕ) {u w : VolumeState} (l : ℕ) (key : List ℕ) (address : ℕ) (len : length key ≡ k) (h : IsTopBegun u l key address w) where
  -- it bears its entry
  own : Bears k w l h.block (record { key = key; address = address } ∷ []) 0
  own = (let B : ℕ → Type 0 = λ i. Bears i w l h.block (record { key = key; address = address } ∷ []) 0 in subst B len h.bears)

  top-is-new : (header_of w.image).top ≡ h.block
  top-is-new = ap (λ (z : Header). z.top) h.header

  high-is : (header_of w.image).height ≡ suc l
  high-is = ap (λ (z : Header). z.height) h.header

  level-new : top_level w ≡ l
  level-new = ap (λ (i : ℕ). i - 1) high-is ∙ (let e : suc l - 1 ≡ l = omega arith in e)

  some-top : 0 < (header_of w.image).top
  some-top = (let same = top-is-new in let later = h.bears.is.is.later in omega arith)

  tops-new : top_blocks w ≡ h.block ∷ []
  tops-new = top-is w some-top ∙ ap (λ (i : ℕ). i ∷ []) top-is-new

  level-own : level_in w h.block ≡ Some l
  level-own = (let b = own in level-of w h.block b.is.is ∙ ap (λ (i : ℕ). Some i) b.is.level)

  begun-counts : ((b : ℕ) → IsKind u 2 b → number_at 2 (block_at u b) 4 ≤ entry_room k u.size) → (b : ℕ) → IsKind w 2 b → number_at 2 (block_at w b) 4 ≤ entry_room k w.size
  begun-counts old b kind =
      let C : ℕ → Type 0 = λ i. number_at 2 (block_at w i) 4 ≤ entry_room k w.size in
      elim (h.back b kind) [
        | inl before ↦
            (let B : List ℕ → Type 0 = λ t. number_at 2 t 4 ≤ entry_room k w.size in
            let Z : ℕ → Type 0 = λ z. number_at 2 (block_at u b) 4 ≤ entry_room k z in
            subst B (sym (h.others b before)) (subst Z (sym h.size) (old b before)))
        | inr e ↦ (let mine = own in subst C (sym e) mine.is.count)
      ]

  -- the index set from its parts
  begun-set : HasIndexSet k u → l < 64 → IsIndexSet (index_blocks k w) l (h.block ∷ []) → ArePlaced (index_blocks k w) l (h.block ∷ []) → AreLevelsLinked (index_blocks k w) (next_in w) l (h.block ∷ []) → HasIndexSet k w
  begun-set x low set placed linked =
      let S : ℕ → List ℕ → Type 0 = λ i ns. IsIndexSet (index_blocks k w) i ns in
      let L : ℕ → List ℕ → Type 0 = λ i ns. AreLevelsLinked (index_blocks k w) (next_in w) i ns in
      let P : ℕ → List ℕ → Type 0 = λ i ns. ArePlaced (index_blocks k w) i ns in
      let high = high-is in
      assembled k w h.formatted (λ e. x.version (sym (ap (λ (z : Header). z.version) h.header) ∙ e)) (inr (some-top, (omega arith), (omega arith)))
      (subst (λ (i : ℕ). S i (top_blocks w)) (sym level-new) (subst (S l) (sym tops-new) set))
      (subst (λ (i : ℕ). P i (top_blocks w)) (sym level-new) (subst (P l) (sym tops-new) placed))
      (begun-counts x.count)
      (subst (λ (i : ℕ). L i (top_blocks w)) (sym level-new) (subst (L l) (sym tops-new) linked))

  begun-entries : HasIndexSet k u → index_entries k w ≡ entries_below (index_blocks k w) l (h.block ∷ [])
  begun-entries x =
      (entries-below k w).1 (λ e. x.version (sym (ap (λ (z : Header). z.version) h.header) ∙ e))
      ∙ ap (λ (i : ℕ). entries_below (index_blocks k w) i (top_blocks w)) level-new
      ∙ ap (entries_below (index_blocks k w) l) tops-new

-- ---- of an index that had no block

pub first-made : (k : ℕ) {u w : VolumeState} (key : List ℕ) (address : ℕ) → length key ≡ k → HasIndexSet k u → (header_of u.image).top ≡ 0 → IsTopBegun u 0 key address w
    → IsChanged k u (record { key = key; address = address } ∷ []) 1 w
first-made k {u} {w} key address len x none h =
    let e : Entry = record { key = key; address = address } in
    let mine = own k 0 key address len h in
    let row : across (index_blocks k w) (h.block ∷ []) ≡ e ∷ [] = nil (entries_in k (block_at w h.block)) ∙ mine.entries in
    let later = h.bears.is.is.later in
    let tops : top_blocks u ≡ [] = rw (eq-eqb (header_of u.image).top 0 none) refl in
    let no-block : (b : ℕ) → IsKind u 2 b → ⊥ =
    λ b kind. (let A : List ℕ → Type 0 = λ ns. IsAmong b (blocks_down (index_blocks k u) (top_level u) ns) in none-down (index_blocks k u) (top_level u) b (subst A tops (x.reached b kind))) in
    let placed : ArePlaced (index_blocks k w) 0 (h.block ∷ []) =
    λ b j at.
    (let is = level-kind w b j at in
    elim (h.back b is.0) [
      | inl old ↦ absurd (no-block b old)
      | inr same ↦
          (let z : j ≡ 0 = sym is.1 ∙ ap (λ (i : ℕ). slice_index (block_at w i) 3) same ∙ mine.is.level in
          (omega arith, inl (inl same)))
    ]) in
    let set : IsIndexSet (index_blocks k w) 0 (h.block ∷ []) = ((level-own k 0 key address len h, (λ z. some e (sym mine.entries ∙ z)), tt), ap keys_ascend row) in
    record {
      size = h.size;
      index = begun-set k 0 key address len h x (omega arith) set placed (refl, (λ z. omega arith), mine.next_is);
      entries = begun-entries k 0 key address len h x ∙ row;
      change = h.change;
      spares = h.spares;
    }
  where
    some : (e : Entry) → e ∷ [] ≡ [] → ⊥
    some e h = cc

-- ---- over the old top

module _ (k : ℕ) {u w : VolumeState} (by : List ℕ) (l : ℕ) (key : List ℕ) (len : length key ≡ k) (x : HasIndexSet k u) (some : 0 < (header_of u.image).top) (high : l ≡ (header_of u.image).height)
    (last : key ≡ last_key by (entries_in k (block_at u (header_of u.image).top))) (full : full_blocks (index_blocks k u) (entry_room k u.size) by (top_level u) (header_of u.image).top ≡ l)
    (three : entry_place k 3 ≤ u.size) (h : IsTopBegun u l key (header_of u.image).top w) where
  one-up : l ≡ suc (top_level u)
  one-up = elim x.height [ inl none ↦ (let z = none.0 in absurd (omega arith)) | inr g ↦ (let s = g.1 in omega arith) ]

  all-stay : (b j : ℕ) → level_in u b ≡ Some j → Stays (index_blocks k u) (index_blocks k w) j b × (next_in w b ≡ next_in u b)
  all-stay b j at = (let is = level-kind u b j at in same-block k u w b j (h.stay b is.0) (h.others b is.0) at)

  tops-were : top_blocks u ≡ (header_of u.image).top ∷ []
  tops-were = top-is u some

  set-was : IsIndexSet (index_blocks k u) (top_level u) ((header_of u.image).top ∷ [])
  set-was = (let S : List ℕ → Type 0 = λ ns. IsIndexSet (index_blocks k u) (top_level u) ns in subst S tops-were x.set)

  level-was : level_in u (header_of u.image).top ≡ Some (top_level u)
  level-was = (let right = tops-right k u x some in level-of u (header_of u.image).top right.is ∙ ap (λ (i : ℕ). Some i) right.level)

  -- the new top is of the level above the old one
  new-level : level_in w h.block ≡ Some (suc (top_level u))
  new-level = level-own k l key (header_of u.image).top len h ∙ ap (λ (i : ℕ). Some i) one-up

  new-entries : entries_in k (block_at w h.block) ≡ record { key = key; address = (header_of u.image).top } ∷ []
  new-entries = (let mine = own k l key (header_of u.image).top len h in mine.entries)

  lower : LowerStay (index_blocks k u) (index_blocks k w) (suc (top_level u))
  lower b j at less = (all-stay b j at).0

  set-is : IsIndexSet (index_blocks k w) (suc (top_level u)) (h.block ∷ []) × (entries_below (index_blocks k w) (suc (top_level u)) (h.block ∷ []) ≡ entries_below (index_blocks k u) (top_level u) ((header_of u.image).top ∷ []))
  set-is =
      let t : ℕ = (header_of u.image).top in
      let right = tops-right k u x some in
      let e = last-of-some (entries_in k (block_at u t)) (some-count k (block_at u t) 12 (number_at 2 (block_at u t) 4) right.some) in
      let same : key ≡ e.last.key = last ∙ e.key by in
      topped (index_blocks k u) (index_blocks k w) (top_level u) t h.block e.before e.last set-was e.is (new-level, new-entries ∙ ap (λ (z : List ℕ). record { key = z; address = t } ∷ []) same) lower

  placed-is : ArePlaced (index_blocks k w) (suc (top_level u)) (h.block ∷ [])
  placed-is =
      let t : ℕ = (header_of u.image).top in
      let A : List ℕ → Type 0 = λ ns. ArePlaced (index_blocks k u) (top_level u) ns in
      let N : List Entry → Type 0 = λ es. IsAmong t (named es) in
      topped-placed (index_blocks k u) (index_blocks k w) (top_level u) t h.block (subst A tops-were (index-blocks-placed k u x)) level-was (new-level, subst N (sym new-entries) (inl refl))
      (λ b j at other.
      let is = level-kind w b j at in
      let kind : IsKind u 2 b = elim (h.back b is.0) [ inl old ↦ old | inr e ↦ absurd (other e) ] in
      level-of u b kind ∙ ap (λ (s : List ℕ). Some (slice_index s 3)) (sym (h.others b kind)) ∙ ap (λ (i : ℕ). Some i) is.1)
      (λ b j at. (all-stay b j at).0)

  linked-is : AreLevelsLinked (index_blocks k w) (next_in w) (suc (top_level u)) (h.block ∷ [])
  linked-is =
      let t : ℕ = (header_of u.image).top in
      let mine = own k l key t len h in
      let later = h.bears.is.is.later in
      let C : List ℕ → Type 0 = λ ns. AreLevelsLinked (index_blocks k u) (next_in u) (top_level u) ns in
      let L : List Entry → Type 0 = λ es. AreLevelsLinked (index_blocks k w) (next_in w) (top_level u) (named es) in
      let below = links-lower (index_blocks k u) (index_blocks k w) (suc (top_level u)) (next_in u) (next_in w) lower (λ b j at less. (all-stay b j at).1) (top_level u) (omega arith) (t ∷ []) set-was
      (subst C tops-were x.next) in
      ((refl, (λ z. omega arith), mine.next_is), subst L (sym (nil (entries_in k (block_at w h.block)) ∙ new-entries)) below)

  full-new : full_blocks (index_blocks k w) (entry_room k w.size) by (top_level w) (header_of w.image).top ≡ l
  full-new =
      let d : IndexBlocks = index_blocks k w in
      let t : ℕ = (header_of u.image).top in
      let room : ℕ = entry_room k u.size in
      let fits : 3 ≤ room = room-most k u.size 3 three in
      let one : length (entries_in k (block_at w h.block)) ≡ 1 = ap length new-entries in
      let free = not-full d room h.block (omega arith) in
      let up : full_blocks d room by (suc (top_level u)) h.block ≡ l =
      same-room (full_blocks d room by (top_level u) (child_of by (entries_in k (block_at w h.block)))) (top_level u) (is_full d room h.block) free
      ∙ ap (λ (es : List Entry). full_blocks d room by (top_level u) (child_of by es)) new-entries
      ∙ full-lower (index_blocks k u) d room by (suc (top_level u)) lower (top_level u) t (t ∷ []) (omega arith) set-was (inl refl) ∙ full in
      ap (λ (z : ℕ). full_blocks d (entry_room k z) by (top_level w) (header_of w.image).top) h.size
      ∙ ap (λ (i : ℕ). full_blocks d room by i (header_of w.image).top) (level-new k l key t len h ∙ one-up)
      ∙ ap (full_blocks d room by (suc (top_level u))) (top-is-new k l key t len h) ∙ up

  pub top-made : l < 64 → IsRoomMade k u by w
  top-made low =
      let t : ℕ = (header_of u.image).top in
      let S : ℕ → Type 0 = λ i. IsIndexSet (index_blocks k w) i (h.block ∷ []) in
      let P : ℕ → Type 0 = λ i. ArePlaced (index_blocks k w) i (h.block ∷ []) in
      let L : ℕ → Type 0 = λ i. AreLevelsLinked (index_blocks k w) (next_in w) i (h.block ∷ []) in
      let set = set-is in
      let height = high-is k l key t len h in
      let top = some-top k l key t len h in
      let old = needed-all k u by l (λ e. omega arith) full high in
      let new = needed-some k w by l (λ e. omega arith) full-new (λ e. omega arith) in
      record {
        changed = record {
          size = h.size;
          index = begun-set k l key t len h x low (subst S (sym one-up) set.0) (subst P (sym one-up) placed-is) (subst L (sym one-up) linked-is);
          entries = begun-entries k l key t len h x ∙ ap (λ (i : ℕ). entries_below (index_blocks k w) i (h.block ∷ [])) one-up ∙ set.1 ∙ sym (ap (entries_below (index_blocks k u) (top_level u)) tops-were)
              ∙ sym ((entries-below k u).1 x.version);
          change = h.change;
          spares = h.spares;
        };
        some = top;
        less = omega arith;
      }
