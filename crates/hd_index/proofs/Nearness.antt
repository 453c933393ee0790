-- A new key that comes into a block of the sequence set, which alone tells so: the greatest key below it leads there, and before another entry no upper key of the way is
-- below it.
use Rattle.std.proofs.Common.{◌≡◌, ◌≢◌, inl, inr, ℕ, zero, suc, ◌<◌, Bool, true, false, cond, List, [], ◌∷◌, ◌++◌, length, take, Some, None, refl, sym, ap, ◌∙◌, subst, arith}
use Rattle.std.specs.Prelude.{slice_get, bytes_eq}
use Rattle.std.proofs.lemmas.List.{append_assoc}
use Rattle.std.specs.Option.{option_map_or, is_some as is_found}
use Rattle.hd_bytes.specs.Numbers.{number_at}
use Rattle.hd_volume.specs.Headers.{header_of}
use Rattle.hd_volume.specs.Volumes.{VolumeState, block_at}
use Rattle.hd_volume.specs.Entries.{Entry, entries_in}
use Rattle.hd_volume.specs.Indexes.{entry_room, key_less, is_below_first, keys_ascend, IsAmong}
use Rattle.hd_index_blocks.specs.Fields.{below_count}
use Rattle.hd_index_blocks.specs.Maps.{address_of, greatest_below, last_key, with_entry}
use Rattle.hd_index_blocks.specs.Levels.{IndexBlocks, across, named, sequence_set, entries_below, AreUpTo, IsIndexSet}
use Rattle.hd_index_blocks.specs.Ways.{child_of, leaf_of}
use Rattle.hd_index_blocks.specs.Neighbours.{last_of}
use Rattle.hd_index_blocks.specs.IndexSets.{next_in, index_blocks, top_blocks, top_level, index_entries, HasIndexSet}
use Rattle.hd_index_blocks.specs.Needs.{set_blocks_needed}
use Rattle.hd_index_blocks.proofs.BlockLemmas.{length-entries}
use Rattle.hd_index_blocks.proofs.Keys.{not-less, first-less, first-behind, upto-parts, ascend-parts, ascend-above}
use Rattle.hd_index_blocks.proofs.Levels.{across-append}
use Rattle.hd_index_blocks.proofs.Sets.{set-behind}
use Rattle.hd_index_blocks.proofs.Downs.{of-level, child-named, named-across, among-right}
use Rattle.hd_index_blocks.proofs.Fullness.{not-full}
use Rattle.hd_index_blocks.proofs.Volumes.{level-of, entries-below}
use Rattle.hd_index.specs.EditedBlocks.{with_entry_at}
use Rattle.hd_index.specs.Edits.{HasNewEntries}
use Rattle.hd_index.specs.declared.enter.Turn.{Turn}
use Rattle.hd_index.specs.declared.address.Place.{Place}
use Rattle.hd_index.specs.Nearness.{IsNearIn, IsNear}
use Rattle.hd_index.specs.Changes.{IsChanged}
use Rattle.hd_index.specs.Comings.{MayCome, IsTurnOf}
use Rattle.hd_index.specs.Greatest.{lower_key, found_key, IsLastOf, IsGreatestOf, IsKnownLeaf}
use Rattle.hd_index.specs.Stands.{front_of}
use Rattle.hd_volume.proofs.JoinLemmas.{AreOne, one-kind}
use Rattle.hd_index.proofs.Searching.{set-same}
use Rattle.hd_dbd.specs.declared.answer.Refused.{Refused}
use Rattle.hd_index.specs.Rooms.{IsRefusedFor}
use Rattle.hd_index.proofs.EditLemmas.{one-block-at}
use Rattle.hd_index.proofs.ReadSteps.{changed-before}
use Rattle.hd_index.proofs.Inserting.{found-refused}
use Rattle.hd_index.proofs.Standing.{later-blocks}
use Rattle.hd_index.proofs.Fronts.{fronted, greatest-taken, take-whole}
use Rattle.hd_index.proofs.Leaves.{known-leaf, leaf-needs, leaf-none, leaf-some}
use Rattle.hd_index.proofs.Lasts.{HasLow, HasStand, below-before, sequence-is, among-sequence, last-greatest}
use Rattle.hd_index.proofs.Comings.{coming-level, turned, step-stays, come-top, leaf-entered}

-- ---- about a place before another entry

-- One of some entries is above a key.
record HasHigh (key : List ℕ) (es : List Entry) : Type 0 where
  front : List Entry
  entry : Entry
  back : List Entry
  is : es ≡ front ++ (entry ∷ back)
  above : key_less key entry.key ≡ true

-- so it is where not all are below a key that is not there
high-in : (key : List ℕ) (es : List Entry) → below_count key es < length es → address_of key es ≡ None → HasHigh key es
high-in key [] few none = absurd (omega arith)
high-in key (e ∷ es) few none = by-equal (bytes_eq e.key key) refl none (high-in key es)
  where
    by-test : (b : Bool) → key_less e.key key ≡ b → bytes_eq e.key key ≡ false → cond b (suc (below_count key es)) 0 < suc (length es) → (below_count key es < length es → HasHigh key es)
        → HasHigh key (e ∷ es)
    by-test true is other f rest =
        let r = rest (omega arith) in
        record { front = e ∷ r.front; entry = r.entry; back = r.back; is = ap (λ (t : List Entry). e ∷ t) r.is; above = r.above }
    by-test false is other f rest = record { front = []; entry = e; back = es; is = refl; above = not-less e.key key is other }

    by-equal : (q : Bool) → bytes_eq e.key key ≡ q → cond q (Some e.address) (address_of key es) ≡ None → (below_count key es < length es → address_of key es ≡ None → HasHigh key es)
        → HasHigh key (e ∷ es)
    by-equal true is absent rest = absurd (cc)
    by-equal false is absent rest = by-test (key_less e.key key) refl is few (λ f. rest f absent)

-- and where some are below one, the first is
low-in : (key : List ℕ) (es : List Entry) → 0 < below_count key es → HasLow key es
low-in key [] some = absurd (omega arith)
low-in key (e ∷ es) some = by-test (key_less e.key key) refl some
  where
    by-test : (b : Bool) → key_less e.key key ≡ b → 0 < cond b (suc (below_count key es)) 0 → HasLow key (e ∷ es)
    by-test true is s = record { entry = e; rest = es; is = refl; less = is }
    by-test false is s = absurd (omega arith)

-- then the greatest below it is the same whatever is given for none
low-any : (key other : List ℕ) (es : List Entry) → HasLow key es → greatest_below [] key es ≡ greatest_below other key es
low-any key other es low =
    let first : (o : List ℕ) → greatest_below o key es ≡ greatest_below low.entry.key key low.rest =
    λ o. ap (greatest_below o key) low.is ∙ ap (λ (b : Bool). cond b (greatest_below low.entry.key key low.rest) o) low.less in
    first [] ∙ sym (first other)

-- a key that is not among some entries is not among the first of them, nor the others
none-parts : (key : List ℕ) (xs ys : List Entry) → address_of key (xs ++ ys) ≡ None → (address_of key xs ≡ None) × (address_of key ys ≡ None)
none-parts key [] ys none = (refl, none)
none-parts key (e ∷ xs) ys none = by-test (bytes_eq e.key key) none (none-parts key xs ys)
  where
    by-test : (b : Bool) → cond b (Some e.address) (address_of key (xs ++ ys)) ≡ None → (address_of key (xs ++ ys) ≡ None → (address_of key xs ≡ None) × (address_of key ys ≡ None))
        → (cond b (Some e.address) (address_of key xs) ≡ None) × (address_of key ys ≡ None)
    by-test true absent rest = absurd (cc)
    by-test false absent rest = rest absent

-- a key below the first of some entries is below the first of those behind
first-last : (key : List ℕ) (xs ys : List Entry) → is_below_first key (xs ++ ys) ≡ true → keys_ascend (xs ++ ys) ≡ true → is_below_first key ys ≡ true
first-last key xs [] first ascend = refl
first-last key xs (e ∷ ys) first ascend = first-behind key xs e ys first ascend

-- what stands behind a block with a key above one is above it
above-behind : (c : IndexBlocks) (key : List ℕ) (before : List ℕ) (n : ℕ) (behind : List ℕ) → IsIndexSet c 0 (before ++ (n ∷ behind)) → HasHigh key (c.entries n)
    → is_below_first key (across c behind) ≡ true
above-behind c key before n behind set high =
    let A : List Entry → Type 0 = λ t. keys_ascend t ≡ true in
    let B : List Entry → Type 0 = λ t. keys_ascend (t ++ across c behind) ≡ true in
    let own = (set-behind c 0 before (n ∷ behind) set).1 in
    let ascend = subst A (append_assoc high.front (high.entry ∷ high.back) (across c behind)) (subst B high.is own) in
    let above = ascend-above high.front high.entry (high.back ++ across c behind) ascend in
    let rest = (ascend-parts (high.entry ∷ []) (high.back ++ across c behind) (ascend-parts high.front (high.entry ∷ (high.back ++ across c behind)) ascend).1).1 in
    first-less key high.entry.key (across c behind) high.above (first-last high.entry.key high.back (across c behind) above rest)

-- ---- the block is the one that the greatest key below leads to

-- Block n stands among others.
record IsWithin (n : ℕ) (ns : List ℕ) : Type 0 where
  before : List ℕ
  behind : List ℕ
  whole : before ++ (n ∷ behind) ≡ ns

within : (n : ℕ) (ns : List ℕ) → IsAmong n ns → IsWithin n ns
within n [] among = absurd among
within n (m ∷ ns) (inl e) = record { before = []; behind = ns; whole = ap (λ (i : ℕ). i ∷ ns) e }
within n (m ∷ ns) (inr among) =
    let r = within n ns among in
    record { before = m ∷ r.before; behind = r.behind; whole = ap (λ (t : List ℕ). m ∷ t) r.whole }

-- The key comes into the block, before one that is above it.
record IsPlaced (k : ℕ) (v : VolumeState) (key : List ℕ) (n : ℕ) : Type 0 where
  low : HasLow key (entries_in k (block_at v n))
  high : HasHigh key (entries_in k (block_at v n))
  stand : HasStand k v key n

placed : (k : ℕ) (v : VolumeState) (key : List ℕ) (n : ℕ) (place : Place) → HasIndexSet k v → address_of key (index_entries k v) ≡ None → IsNear k v key n place → place.index < place.count
    → IsPlaced k v key n
placed k v key n place x new near before =
    let c : IndexBlocks = index_blocks k v in
    let all : List ℕ = sequence_set c (top_level v) (top_blocks v) in
    let h = near.1 in
    let among = among-sequence c (top_level v) n (top_blocks v) x.set (level-of v n near.0 ∙ ap (λ (i : ℕ). Some i) h.level) (x.reached n near.0) in
    let w = within n all among in
    let S : List ℕ → Type 0 = λ ns. IsIndexSet c 0 ns in
    let set = subst S (sym w.whole) (sequence-is c (top_level v) (top_blocks v) x.set) in
    let none : address_of key (across c w.before ++ (c.entries n ++ across c w.behind)) ≡ None =
    ap (address_of key) (sym (across-append c w.before (n ∷ w.behind)) ∙ ap (across c) w.whole ∙ sym ((entries-below k v).1 x.version)) ∙ new in
    let own = none-parts key (c.entries n) (across c w.behind) (none-parts key (across c w.before) (c.entries n ++ across c w.behind) none).1 in
    let i = h.index_is in
    let j = h.count_is in
    let p = h.behind in
    let len : length (entries_in k (block_at v n)) ≡ number_at 2 (block_at v n) 4 = length-entries k (block_at v n) 12 (number_at 2 (block_at v n) 4) in
    let low = low-in key (c.entries n) (omega arith) in
    let high = high-in key (c.entries n) (omega arith) own.0 in
    record {
      low = low;
      high = high;
      stand = record {
        left = last_of 0 w.before;
        stand = record {
          before = w.before;
          behind = w.behind;
          around = record { set = set; below = below-before c key w.before n w.behind set low; above = above-behind c key w.before n w.behind set high };
          left_is = refl;
          whole = w.whole ∙ sym (later-blocks k v x);
        };
      };
    }

-- so the greatest key below it leads to the block
placed-leaf : (k : ℕ) (v : VolumeState) (key : List ℕ) (n : ℕ) → HasIndexSet k v → IsPlaced k v key n → IsKnownLeaf k v (lower_key k v key) n
placed-leaf k v key n x p =
    let es : List Entry = entries_in k (block_at v n) in
    known-leaf k v key (record { left = p.stand.left; block = n }) (greatest_below [] key es) x p.stand.stand (λ other. low-any key other es p.low)

-- and no block is needed, where it has room
near-needs : (k : ℕ) (v : VolumeState) (key : List ℕ) (n : ℕ) (place : Place) → HasIndexSet k v → IsNear k v key n place → place.count < entry_room k v.size → IsKnownLeaf k v (lower_key k v key) n
    → 0 ≡ set_blocks_needed k v key
near-needs k v key n place x near room known =
    let later = near.0.later in
    let j = near.1.count_is in
    let len : length (entries_in k (block_at v n)) ≡ number_at 2 (block_at v n) 4 = length-entries k (block_at v n) 12 (number_at 2 (block_at v n) 4) in
    leaf-needs k v (lower_key k v key) n x known (λ z. (let l = later in omega arith)) (not-full (index_blocks k v) (entry_room k v.size) n (omega arith))

-- ---- no upper key of the way is below the new key

-- the leaf below a block is among those of the sequence set below it
leaf-among : (c : IndexBlocks) (by : List ℕ) (l n : ℕ) (ns ms : List ℕ) → IsIndexSet c l ms → IsAmong n ms → IsAmong n ns → IsAmong (leaf_of c by l n) (sequence_set c l ns)
leaf-among c by zero n ns ms set there among = among
leaf-among c by (suc l) n ns ms set there among =
    let own = child-named by (c.entries n) (of-level c (suc l) n ms set there).some in
    leaf-among c by l (child_of by (c.entries n)) (named (across c ns)) (named (across c ms)) set.2 (named-across c (child_of by (c.entries n)) n ms there own)
    (named-across c (child_of by (c.entries n)) n ns among own)

-- where no key of some blocks is above one, none of one of them is
upto-one : (c : IndexBlocks) (key : List ℕ) (n : ℕ) (ns : List ℕ) → IsAmong n ns → AreUpTo key (across c ns) → AreUpTo key (c.entries n)
upto-one c key n [] among up = absurd among
upto-one c key n (m ∷ ns) (inl e) up =
    let U : ℕ → Type 0 = λ i. AreUpTo key (c.entries i) in
    subst U (sym e) (upto-parts key (c.entries m) (across c ns) up).0
upto-one c key n (m ∷ ns) (inr among) up = upto-one c key n ns among (upto-parts key (c.entries m) (across c ns) up).1

-- nor is one of them above it
upto-not : (key : List ℕ) (es : List Entry) → AreUpTo key es → HasHigh key es → ⊥
upto-not key es up high =
    let U : List Entry → Type 0 = λ t. AreUpTo key t in
    let not : key_less key high.entry.key ≡ false = (upto-parts key high.front (high.entry ∷ high.back) (subst U high.is up)).1.0 in
    let is = high.above in
    absurd (cc)

-- the entry behind some
get-behind : (xs : List Entry) (e : Entry) (ys : List Entry) → slice_get (xs ++ (e ∷ ys)) (length xs) ≡ Some e
get-behind [] e ys = refl
get-behind (x ∷ xs) e ys = get-behind xs e ys

-- Where a key leads among some entries.
record HasTurn (by key : List ℕ) (es : List Entry) : Type 0 where
  turn : Turn
  is : IsTurnOf by key es turn

some-turn : (by key : List ℕ) (es : List Entry) → es ≢ [] → HasTurn by key es
some-turn by key es some =
    let f = fronted by es some in
    record {
      turn = record { index = length (front_of by es); count = length es; child = f.entry.address; is_low = key_less f.entry.key key };
      is = record {
        entry = f.entry;
        at_index = ap (λ (xs : List Entry). slice_get xs (length (front_of by es))) f.is ∙ get-behind (front_of by es) f.entry f.back;
        count_is = refl;
        address = refl;
        child_is = f.child;
        low_is = refl;
      };
    }

-- one step down by an entry below which the leaf has a key above the new one
come-step : (k : ℕ) (v : VolumeState) (key by : List ℕ) (l n : ℕ) (turn : Turn) → MayCome k v key by (suc l) n → IsTurnOf by key (entries_in k (block_at v n)) turn
    → HasHigh key (entries_in k (block_at v (leaf_of (index_blocks k v) by l turn.child))) → MayCome k v key by l turn.child
come-step k v key by l n turn m t high = by-low turn.is_low refl
  where
    by-low : (b : Bool) → turn.is_low ≡ b → MayCome k v key by l turn.child
    by-low false is = step-stays k v key by l n turn m t is
    by-low true is =
        let c : IndexBlocks = index_blocks k v in
        let s = turned k v key by l n turn m t in
        let U : ℕ → Type 0 = λ i. AreUpTo key (entries_below c l (i ∷ [])) in
        let up : AreUpTo key (entries_below c l (turn.child ∷ [])) = subst U s.names.child (s.upto (sym s.low_is ∙ is)) in
        let there : IsAmong turn.child (s.before ++ (turn.child ∷ s.behind)) = among-right turn.child s.before (turn.child ∷ s.behind) (inl refl) in
        let leaf = leaf-among c by l turn.child (turn.child ∷ []) (s.before ++ (turn.child ∷ s.behind)) s.around.set there (inl refl) in
        absurd (upto-not key (c.entries (leaf_of c by l turn.child)) (upto-one c key (leaf_of c by l turn.child) (sequence_set c l (turn.child ∷ [])) leaf up) high)

-- down from a block of a level the key may come into the leaf, if that has a key above it
come-high : (k : ℕ) (v : VolumeState) (key by : List ℕ) (l n : ℕ) → MayCome k v key by l n → HasHigh key (entries_in k (block_at v (leaf_of (index_blocks k v) by l n)))
    → MayCome k v key by 0 (leaf_of (index_blocks k v) by l n)
come-high k v key by zero n m high = m
come-high k v key by (suc l) n m high =
    let M : ℕ → Type 0 = λ i. MayCome k v key by 0 (leaf_of (index_blocks k v) by l i) in
    let H : ℕ → Type 0 = λ i. HasHigh key (entries_in k (block_at v (leaf_of (index_blocks k v) by l i))) in
    let s = some-turn by key (entries_in k (block_at v n)) (coming-level k v key by (suc l) n m.coming).some in
    let below = subst H (sym s.is.child_is) high in
    subst M s.is.child_is (come-high k v key by l s.turn.child (come-step k v key by l n s.turn m s.is below) below)

-- so it may come into the block
placed-comes : (k : ℕ) (v : VolumeState) (key : List ℕ) (n : ℕ) → HasIndexSet k v → address_of key (index_entries k v) ≡ None → n ≢ 0 → IsPlaced k v key n → MayCome k v key (lower_key k v key) 0 n
placed-comes k v key n x new some p =
    let by : List ℕ = lower_key k v key in
    let t : ℕ = (header_of v.image).top in
    let known = placed-leaf k v key n x p some in
    elim x.height [
      | inl none ↦ absurd (some (known ∙ leaf-none k v by none.0))
      | inr tall ↦
          (let at : n ≡ leaf_of (index_blocks k v) by (top_level v) t = known ∙ leaf-some k v by tall.0 in
          let H : ℕ → Type 0 = λ i. HasHigh key (entries_in k (block_at v i)) in
          let M : ℕ → Type 0 = λ i. MayCome k v key by 0 i in
          subst M (sym at) (come-high k v key by (top_level v) t (come-top k v key by (top_level v) t x new refl tall.0 refl refl) (subst H at p.high)))
    ]

-- the new entry comes into it before another
pub near-entered : (k : ℕ) (v w : VolumeState) (key : List ℕ) (n address : ℕ) (place : Place) → HasIndexSet k v → address_of key (index_entries k v) ≡ None → IsNear k v key n place
    → place.index < place.count → place.count < entry_room k v.size
    → HasNewEntries k v n (with_entry_at place.index (record { key = key; address = address }) (entries_in k (block_at v n))) (next_in v n) w
    → IsChanged k v (with_entry (record { key = key; address = address }) (index_entries k v)) (set_blocks_needed k v key) w
near-entered k v w key n address place x new near before room edit =
    let e : Entry = record { key = key; address = address } in
    let p = placed k v key n place x new near before in
    let later = near.0.later in
    let some : n ≢ 0 = λ z. (let l = later in omega arith) in
    let E : ℕ → Type 0 = λ i. HasNewEntries k v n (with_entry_at i e (entries_in k (block_at v n))) (next_in v n) w in
    let C : ℕ → Type 0 = λ i. IsChanged k v (with_entry e (index_entries k v)) i w in
    subst C (near-needs k v key n place x near room (placed-leaf k v key n x p))
    (leaf-entered k v w key (lower_key k v key) n address (placed-comes k v key n x new some p) (subst E near.1.index_is edit))

-- ---- behind all others

-- the last key of some entries is there
last-some : (k : ℕ) (is_some : Bool) (bytes : List ℕ) (es : List Entry) → 0 < length es → IsLastOf k (found_key is_some bytes) es → is_some ≡ true
last-some k true bytes es some last = refl
last-some k false bytes [] some last = absurd (omega arith)
last-some k false bytes (e ∷ es) some last = absurd (let a : [] ≡ last_key e.key es = last [] in let b : 0 ∷ [] ≡ last_key e.key es = last (0 ∷ []) in cc)

-- What the last block of the sequence set tells of a new key behind all others: the greatest key below it, and that no block is needed for it.
pub record IsTold (k : ℕ) (v : VolumeState) (key bytes : List ℕ) : Type 0 where
  pub greatest : take k bytes ≡ greatest_below key key (index_entries k v)
  pub needed : 0 ≡ set_blocks_needed k v key

pub last-told : (k : ℕ) (v : VolumeState) (key : List ℕ) (n : ℕ) (place : Place) (is_some : Bool) (bytes : List ℕ) → HasIndexSet k v → IsNear k v key n place → place.index ≡ place.count
    → place.count < entry_room k v.size → IsLastOf k (found_key is_some bytes) (entries_in k (block_at v n)) → IsTold k v key bytes
last-told k v key n place is_some bytes x near end room last =
    let es : List Entry = entries_in k (block_at v n) in
    let i = near.1.index_is in
    let j = near.1.count_is in
    let p = near.1.behind in
    let len : length es ≡ number_at 2 (block_at v n) 4 = length-entries k (block_at v n) 12 (number_at 2 (block_at v n) 4) in
    let all : below_count key es ≡ length es = omega arith in
    let some = last-some k is_some bytes es (omega arith) last in
    let own : IsGreatestOf k (found_key is_some bytes) key es =
    λ other. last other ∙ sym (greatest-taken other key es ∙ ap (λ (t : List Entry). last_key other t) (take-whole es (below_count key es) all)) in
    let r = last-greatest k v key n (found_key is_some bytes) x near.0 near.1.level (near.1.last end) (ap (λ (b : Bool). is_found (found_key b bytes)) some) own in
    record {
      greatest = ap (λ (b : Bool). option_map_or (take k) (found_key b bytes) key) (sym some) ∙ r.0;
      needed = near-needs k v key n place x near room r.1;
    }

-- ---- behind a read

-- the same change, of what was read
pub entered-before : (k : ℕ) (u v w : VolumeState) (key : List ℕ) (e : Entry) → HasIndexSet k u → AreOne u v → IsChanged k v (with_entry e (index_entries k v)) (set_blocks_needed k v key) w
    → IsChanged k u (with_entry e (index_entries k u)) (set_blocks_needed k u key) w
entered-before k u v w key e x one changed =
    let same = set-same k u v one x in
    let C : List Entry → Type 0 = λ es. IsChanged k u (with_entry e es) (set_blocks_needed k u key) w in
    let N : ℕ → Type 0 = λ i. IsChanged k u (with_entry e (index_entries k v)) i w in
    subst C same.1 (subst N (same.3 key) (changed-before k u v w (with_entry e (index_entries k v)) (set_blocks_needed k v key) one changed))

-- the same place, of what was read
pub near-same : (k : ℕ) (u v : VolumeState) (key : List ℕ) (n : ℕ) (place : Place) → AreOne u v → IsNear k u key n place → IsNear k v key n place
near-same k u v key n place one near =
    let N : List ℕ → Type 0 = λ b. IsNearIn k b key place in
    (one-kind one 2 n near.0, subst N (sym (one-block-at one n)) near.1)

-- what was refused
pub refused-before : (k : ℕ) (u v : VolumeState) (key : List ℕ) (e : Refused) → HasIndexSet k u → AreOne u v → v.room ≡ u.room → IsRefusedFor (set_blocks_needed k v key) v e
    → IsRefusedFor (set_blocks_needed k u key) u e
refused-before k u v key e x one room refused =
    found-refused k u v key (greatest_below key key (index_entries k v)) e one room (ap (greatest_below key key) (set-same k u v one x).1) refused
