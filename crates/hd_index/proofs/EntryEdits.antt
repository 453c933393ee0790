-- Index blocks of a volume whose entries have changed.
use Rattle.std.proofs.Common.{◌≡◌, ℕ, suc, ◌+◌, ◌-◌, ◌*◌, ◌<◌, ◌≤◌, List, [], ◌∷◌, ◌++◌, length, take, drop, slice_index, refl, sym, ap, ◌∙◌, arith, subst}
use Rattle.hd_bytes.specs.Numbers.{number_at}
use Rattle.hd_bytes.specs.Ranges.{bytes_at, with_bytes}
use Rattle.hd_bytes.proofs.BlockLemmas.{length-bytes_at, bytes-with}
use Rattle.hd_volume.specs.Entries.{Entry, entries_at}
use Rattle.hd_bytes.specs.Blocks.{HasBlock}
use Rattle.hd_volume.specs.Entries.{entries_in}
use Rattle.hd_volume.specs.Volumes.{VolumeState, block_at}
use Rattle.hd_volume.specs.Indexes.{entry_room}
use Rattle.hd_index.specs.EditedBlocks.{level_of, with_key_at, with_address_at, IsIndexBlock, Bears}
use Rattle.hd_index.specs.Edits.{HasNewBytes, HasNewEntries}
use Rattle.hd_index.proofs.EditLemmas.{edit-join, length-at}
use Rattle.hd_index_blocks.proofs.BlockLemmas.{length-entries}
use Rattle.hd_index_blocks.proofs.EntryLemmas.{IsEntryBytes, added, entries-added, entries-drop, entries-same, entries-take, entries-taken, length-put, one-part, taken, three-parts, two-parts}
use Rattle.hd_index_blocks.proofs.RoomLemmas.{room-within}
use Rattle.hd_index.proofs.BlockBytes.{AreBytes, put-behind, put-count, put-next, entries-keyed, entries-addressed}

-- a block with new bytes bears their entries
pub bears-by : (k : ℕ) (u w : VolumeState) (n : ℕ) (b : List ℕ) (c : ℕ) (es : List Entry) (next : ℕ) → HasNewBytes u n b w → AreBytes k (level_of (block_at u n)) b c es next → c ≤ entry_room k u.size → HasNewEntries k u n es next w
bears-by k u w n b c es next h a most =
    let count : number_at 2 (block_at w n) 4 ≡ c = ap (λ (x : List ℕ). number_at 2 x 4) h.value ∙ a.count in
    record {
      edit = h.edit;
      bears = record {
        is = record {
          is = h.edit.is;
          level = ap level_of h.value ∙ a.level;
          count = (let P : ℕ → Type 0 = λ i. i ≤ entry_room k w.size in let Q : ℕ → Type 0 = λ z. c ≤ entry_room k z in subst P (sym count) (subst Q (sym h.edit.size) most));
        };
        entries = ap (entries_at k (block_at w n) 12) count ∙ ap (λ (x : List ℕ). entries_at k x 12 c) h.value ∙ a.entries;
        next_is = ap (λ (x : List ℕ). number_at 4 x 8) h.value ∙ a.next_is;
      };
    }

-- bytes written over new bytes
pub join-bytes : {u v w : VolumeState} (n p : ℕ) (b xs : List ℕ) → HasNewBytes u n b v → HasNewBytes v n (with_bytes (block_at v n) p xs) w → HasNewBytes u n (with_bytes b p xs) w
join-bytes n p b xs a h = record { edit = edit-join n a.edit h.edit; value = h.value ∙ ap (λ (x : List ℕ). with_bytes x p xs) a.value }

-- the entry, moved in by three writes
pub add-edit : (k : ℕ) (u w : VolumeState) (n i c : ℕ) (xs two : List ℕ) (e : Entry) → IsIndexBlock k u n → number_at 2 (block_at u n) 4 ≡ c → i ≤ c → c < entry_room k u.size → 12 + (c + 1) * (k + 4) ≤ u.size
    → IsEntryBytes k xs e → length two ≡ 2 → number_at 2 two 0 ≡ c + 1
    → HasNewBytes u n (with_bytes (added k i c (block_at u n) xs) 4 two) w
    → HasNewEntries k u n (take i (entries_in k (block_at u n)) ++ (e ∷ drop i (entries_in k (block_at u n)))) (number_at 4 (block_at u n) 8) w
unfolding added
add-edit k u w n i c xs two e is count low room fits x l2 v2 h =
    let b : List ℕ = block_at u n in
    let lb : length b ≡ u.size = length-at u n is.is.there in
    let p : ℕ = 12 + i * (k + 4) in
    let l : ℕ = (c - i) * (k + 4) in
    let total : (c + 1) * (k + 4) ≡ i * (k + 4) + (k + 4) + l = ap (λ (x : ℕ). (x + 1) * (k + 4)) (let e : c ≡ i + (c - i) = omega arith in e) ∙ three-parts i (c - i) k in
    let moved : List ℕ = bytes_at b p l in
    let lm : length moved ≡ l = length-bytes_at b p l (omega arith) in
    let lx = x.len in
    let own : AreBytes k (level_of b) b c (entries_at k b 12 c) (number_at 4 b 8) = record { level = refl; count = count; entries = refl; next_is = refl; fits = omega arith } in
    let first = put-behind k (level_of b) b moved (p + (k + 4)) c (entries_at k b 12 c) (number_at 4 b 8) own (omega arith) (omega arith) in
    let b1 : List ℕ = with_bytes b (p + (k + 4)) moved in
    let l1 : length b1 ≡ length b = length-put b moved (p + (k + 4)) (omega arith) in
    let second = put-behind k (level_of b) b1 xs p c (entries_at k b1 12 c) (number_at 4 b 8) first (omega arith) (omega arith) in
    let b2 : List ℕ = with_bytes b1 p xs in
    let lb2 : length b2 ≡ length b1 = length-put b1 xs p (omega arith) in
    let all = put-count k (level_of b) b2 two c (c + 1) (entries_at k b2 12 c) (take i (entries_at k b 12 c) ++ (e ∷ drop i (entries_at k b 12 c))) (number_at 4 b 8) second l2 v2 (entries-added k b xs i c e low (omega arith) x) (omega arith) in
    let G : ℕ → Type 0 = λ j. HasNewEntries k u n (take i (entries_at k b 12 j) ++ (e ∷ drop i (entries_at k b 12 j))) (number_at 4 b 8) w in
    subst G (sym count) (bears-by k u w n (with_bytes b2 4 two) (c + 1) (take i (entries_at k b 12 c) ++ (e ∷ drop i (entries_at k b 12 c))) (number_at 4 b 8) h all (omega arith))

-- the entry, moved out by two writes
pub take-edit : (k : ℕ) (u w : VolumeState) (n i c : ℕ) (two : List ℕ) → IsIndexBlock k u n → number_at 2 (block_at u n) 4 ≡ c → i < c → 12 + c * (k + 4) ≤ u.size → length two ≡ 2 → number_at 2 two 0 ≡ c - 1
    → HasNewBytes u n (with_bytes (taken k i c (block_at u n)) 4 two) w
    → HasNewEntries k u n (take i (entries_in k (block_at u n)) ++ drop (suc i) (entries_in k (block_at u n))) (number_at 4 (block_at u n) 8) w
unfolding taken
take-edit k u w n i c two is count low fits l2 v2 h =
    let b : List ℕ = block_at u n in
    let lb : length b ≡ u.size = length-at u n is.is.there in
    let p : ℕ = 12 + i * (k + 4) in
    let l : ℕ = (c - (i + 1)) * (k + 4) in
    let total : c * (k + 4) ≡ i * (k + 4) + (k + 4) + l = ap (λ (x : ℕ). x * (k + 4)) (let e : c ≡ i + (c - (i + 1)) + 1 = omega arith in e) ∙ three-parts i (c - (i + 1)) k in
    let less : c * (k + 4) ≡ (c - 1) * (k + 4) + (k + 4) = ap (λ (x : ℕ). x * (k + 4)) (let e : c ≡ c - 1 + 1 = omega arith in e) ∙ (let r : (c - 1 + 1) * (k + 4) ≡ (c - 1) * (k + 4) + (k + 4) = one-part (c - 1) k in r) in
    let moved : List ℕ = bytes_at b (p + (k + 4)) l in
    let lm : length moved ≡ l = length-bytes_at b (p + (k + 4)) l (omega arith) in
    let own : AreBytes k (level_of b) b c (entries_at k b 12 c) (number_at 4 b 8) = record { level = refl; count = count; entries = refl; next_is = refl; fits = omega arith } in
    let first = put-behind k (level_of b) b moved p c (entries_at k b 12 c) (number_at 4 b 8) own (omega arith) (omega arith) in
    let b1 : List ℕ = with_bytes b p moved in
    let l1 : length b1 ≡ length b = length-put b moved p (omega arith) in
    let all = put-count k (level_of b) b1 two c (c - 1) (entries_at k b1 12 c) (take i (entries_at k b 12 c) ++ drop (suc i) (entries_at k b 12 c)) (number_at 4 b 8) first l2 v2 (entries-taken k b i c low (omega arith)) (omega arith) in
    let most = is.count in
    let G : ℕ → Type 0 = λ j. HasNewEntries k u n (take i (entries_at k b 12 j) ++ drop (suc i) (entries_at k b 12 j)) (number_at 4 b 8) w in
    subst G (sym count) (bears-by k u w n (with_bytes b1 4 two) (c - 1) (take i (entries_at k b 12 c) ++ drop (suc i) (entries_at k b 12 c)) (number_at 4 b 8) h all (omega arith))

-- the bytes of these changes
pub added-bytes : (k : ℕ) (u w : VolumeState) (n i c : ℕ) (xs two : List ℕ)
    → HasNewBytes u n (with_bytes (with_bytes (with_bytes (block_at u n) (12 + i * (k + 4) + (k + 4)) (bytes_at (block_at u n) (12 + i * (k + 4)) ((c - i) * (k + 4)))) (12 + i * (k + 4)) xs) 4 two) w
    → HasNewBytes u n (with_bytes (added k i c (block_at u n) xs) 4 two) w
unfolding added
added-bytes k u w n i c xs two h = h

-- and of an entry moved out
pub taken-bytes : (k : ℕ) (u w : VolumeState) (n i c : ℕ) (two : List ℕ)
    → HasNewBytes u n (with_bytes (with_bytes (block_at u n) (12 + i * (k + 4)) (bytes_at (block_at u n) (12 + i * (k + 4) + (k + 4)) ((c - (i + 1)) * (k + 4)))) 4 two) w
    → HasNewBytes u n (with_bytes (taken k i c (block_at u n)) 4 two) w
unfolding taken
taken-bytes k u w n i c two h = h

-- ---- a block divided

-- the upper entries of a block, copied to an empty one by three writes
pub fill-edit : (k : ℕ) (u w : VolumeState) (n m h c : ℕ) (two four : List ℕ) (next t : ℕ) → IsIndexBlock k u n → number_at 2 (block_at u n) 4 ≡ c → h ≤ c → 12 + c * (k + 4) ≤ u.size → HasBlock u.size u.image m
    → AreBytes k (level_of (block_at u m)) (block_at u m) 0 [] t → length two ≡ 2 → number_at 2 two 0 ≡ c - h → length four ≡ 4 → number_at 4 four 0 ≡ next
    → HasNewBytes u m (with_bytes (with_bytes (with_bytes (block_at u m) 12 (bytes_at (block_at u n) (12 + h * (k + 4)) ((c - h) * (k + 4)))) 4 two) 8 four) w
    → HasNewEntries k u m (drop h (entries_in k (block_at u n))) next w
fill-edit k u w n m h c two four next t is count low fits there empty l2 v2 l4 v4 e =
    let source : List ℕ = block_at u n in
    let b : List ℕ = block_at u m in
    let p : ℕ = 12 + h * (k + 4) in
    let l : ℕ = (c - h) * (k + 4) in
    let total : c * (k + 4) ≡ h * (k + 4) + l = ap (λ (x : ℕ). x * (k + 4)) (let e : c ≡ h + (c - h) = omega arith in e) ∙ two-parts h (c - h) k in
    let ls : length source ≡ u.size = length-at u n is.is.there in
    let lb : length b ≡ u.size = length-at u m there in
    let xs : List ℕ = bytes_at source p l in
    let lx : length xs ≡ l = length-bytes_at source p l (omega arith) in
    let b1 : List ℕ = with_bytes b 12 xs in
    let l1 : length b1 ≡ length b = length-put b xs 12 (omega arith) in
    let first = put-behind k (level_of b) b xs 12 0 [] t empty (omega arith) (omega arith) in
    let upper : entries_at k b1 12 (c - h) ≡ drop h (entries_at k source 12 c) =
    entries-same k b1 source 12 p (c - h) (omega arith) (omega arith) (ap (bytes_at b1 12) (sym lx) ∙ bytes-with b xs 12 (omega arith)) ∙ sym (entries-drop k source 12 h c low) in
    let second = put-count k (level_of b) b1 two 0 (c - h) (entries_at k b1 12 0) (drop h (entries_at k source 12 c)) t first l2 v2 upper (omega arith) in
    let third = put-next k (level_of b) (with_bytes b1 4 two) four (c - h) (drop h (entries_at k source 12 c)) t next second l4 v4 in
    let G : ℕ → Type 0 = λ j. HasNewEntries k u m (drop h (entries_at k source 12 j)) next w in
    let most = is.count in
    subst G (sym count) (bears-by k u w m (with_bytes (with_bytes b1 4 two) 8 four) (c - h) (drop h (entries_at k source 12 c)) next e third (omega arith))

-- a block that keeps its lower entries and names another behind it, by two writes
pub link-edit : (k : ℕ) (u w : VolumeState) (n h c : ℕ) (two four : List ℕ) (next : ℕ) → IsIndexBlock k u n → number_at 2 (block_at u n) 4 ≡ c → h ≤ c → 12 + c * (k + 4) ≤ u.size
    → length two ≡ 2 → number_at 2 two 0 ≡ h → length four ≡ 4 → number_at 4 four 0 ≡ next
    → HasNewBytes u n (with_bytes (with_bytes (block_at u n) 8 four) 4 two) w
    → HasNewEntries k u n (take h (entries_in k (block_at u n))) next w
link-edit k u w n h c two four next is count low fits l2 v2 l4 v4 e =
    let b : List ℕ = block_at u n in
    let lb : length b ≡ u.size = length-at u n is.is.there in
    let total : c * (k + 4) ≡ h * (k + 4) + (c - h) * (k + 4) = ap (λ (x : ℕ). x * (k + 4)) (let e : c ≡ h + (c - h) = omega arith in e) ∙ two-parts h (c - h) k in
    let own : AreBytes k (level_of b) b c (entries_at k b 12 c) (number_at 4 b 8) = record { level = refl; count = count; entries = refl; next_is = refl; fits = omega arith } in
    let first = put-next k (level_of b) b four c (entries_at k b 12 c) (number_at 4 b 8) next own l4 v4 in
    let b1 : List ℕ = with_bytes b 8 four in
    let l1 : length b1 ≡ length b = length-put b four 8 (omega arith) in
    let lower : entries_at k b1 12 h ≡ take h (entries_at k b 12 c) = sym (entries-take k b1 12 h c low) ∙ ap (take h) first.entries in
    let second = put-count k (level_of b) b1 two c h (entries_at k b 12 c) (take h (entries_at k b 12 c)) next first l2 v2 lower (omega arith) in
    let G : ℕ → Type 0 = λ j. HasNewEntries k u n (take h (entries_at k b 12 j)) next w in
    let most = is.count in
    subst G (sym count) (bears-by k u w n (with_bytes b1 4 two) h (take h (entries_at k b 12 c)) next e second (omega arith))

-- the bytes of a block that bears no entry
pub bytes-of-none : (k l : ℕ) (v : VolumeState) (n next : ℕ) → Bears k v l n [] next → 12 ≤ v.size → AreBytes k (level_of (block_at v n)) (block_at v n) 0 [] next
bytes-of-none k l v n next h least =
    let len = length-at v n h.is.is.there in
    let none : number_at 2 (block_at v n) 4 ≡ 0 = sym (length-entries k (block_at v n) 12 (number_at 2 (block_at v n) 4)) ∙ ap length h.entries in
    record { level = refl; count = none; entries = refl; next_is = h.next_is; fits = omega arith }

-- ---- another key, another address, and another block behind

-- another key of an entry, by one write
pub key-edit : (k : ℕ) (u w : VolumeState) (n i c : ℕ) (key : List ℕ) → IsIndexBlock k u n → number_at 2 (block_at u n) 4 ≡ c → i < c → 12 + c * (k + 4) ≤ u.size → length key ≡ k
    → HasNewBytes u n (with_bytes (block_at u n) (12 + i * (k + 4)) key) w
    → HasNewEntries k u n (with_key_at i key (entries_in k (block_at u n))) (number_at 4 (block_at u n) 8) w
key-edit k u w n i c key is count low fits long h =
    let b : List ℕ = block_at u n in
    let lb : length b ≡ u.size = length-at u n is.is.there in
    let p : ℕ = 12 + i * (k + 4) in
    let total : c * (k + 4) ≡ i * (k + 4) + (k + 4) + (c - (i + 1)) * (k + 4) = ap (λ (x : ℕ). x * (k + 4)) (let e : c ≡ i + (c - (i + 1)) + 1 = omega arith in e) ∙ three-parts i (c - (i + 1)) k in
    let own : AreBytes k (level_of b) b c (entries_at k b 12 c) (number_at 4 b 8) = record { level = refl; count = count; entries = refl; next_is = refl; fits = omega arith } in
    let first = put-behind k (level_of b) b key p c (entries_at k b 12 c) (number_at 4 b 8) own (omega arith) (omega arith) in
    let keyed : entries_at k (with_bytes b p key) 12 c ≡ with_key_at i key (entries_at k b 12 c) = entries-keyed k b key i c low (omega arith) long in
    let all : AreBytes k (level_of b) (with_bytes b p key) c (with_key_at i key (entries_at k b 12 c)) (number_at 4 b 8) =
    record { level = first.level; count = first.count; entries = keyed; next_is = first.next_is; fits = first.fits } in
    let most = is.count in
    let G : ℕ → Type 0 = λ j. HasNewEntries k u n (with_key_at i key (entries_at k b 12 j)) (number_at 4 b 8) w in
    subst G (sym count) (bears-by k u w n (with_bytes b p key) c (with_key_at i key (entries_at k b 12 c)) (number_at 4 b 8) h all (omega arith))

-- another address of an entry, by one write
pub address-edit : (k : ℕ) (u w : VolumeState) (n i c : ℕ) (four : List ℕ) (address : ℕ) → IsIndexBlock k u n → number_at 2 (block_at u n) 4 ≡ c → i < c → 12 + c * (k + 4) ≤ u.size → length four ≡ 4 → number_at 4 four 0 ≡ address
    → HasNewBytes u n (with_bytes (block_at u n) (12 + i * (k + 4) + k) four) w
    → HasNewEntries k u n (with_address_at i address (entries_in k (block_at u n))) (number_at 4 (block_at u n) 8) w
address-edit k u w n i c four address is count low fits long value h =
    let b : List ℕ = block_at u n in
    let lb : length b ≡ u.size = length-at u n is.is.there in
    let p : ℕ = 12 + i * (k + 4) + k in
    let total : c * (k + 4) ≡ i * (k + 4) + (k + 4) + (c - (i + 1)) * (k + 4) = ap (λ (x : ℕ). x * (k + 4)) (let e : c ≡ i + (c - (i + 1)) + 1 = omega arith in e) ∙ three-parts i (c - (i + 1)) k in
    let own : AreBytes k (level_of b) b c (entries_at k b 12 c) (number_at 4 b 8) = record { level = refl; count = count; entries = refl; next_is = refl; fits = omega arith } in
    let first = put-behind k (level_of b) b four p c (entries_at k b 12 c) (number_at 4 b 8) own (omega arith) (omega arith) in
    let changed : entries_at k (with_bytes b p four) 12 c ≡ with_address_at i address (entries_at k b 12 c) = entries-addressed k b four i c address low (omega arith) long value in
    let all : AreBytes k (level_of b) (with_bytes b p four) c (with_address_at i address (entries_at k b 12 c)) (number_at 4 b 8) =
    record { level = first.level; count = first.count; entries = changed; next_is = first.next_is; fits = first.fits } in
    let most = is.count in
    let G : ℕ → Type 0 = λ j. HasNewEntries k u n (with_address_at i address (entries_at k b 12 j)) (number_at 4 b 8) w in
    subst G (sym count) (bears-by k u w n (with_bytes b p four) c (with_address_at i address (entries_at k b 12 c)) (number_at 4 b 8) h all (omega arith))

-- another block behind, by one write
pub next-edit : (k : ℕ) (u w : VolumeState) (n : ℕ) (four : List ℕ) (next : ℕ) → IsIndexBlock k u n → 12 ≤ u.size → length four ≡ 4 → number_at 4 four 0 ≡ next
    → HasNewBytes u n (with_bytes (block_at u n) 8 four) w → HasNewEntries k u n (entries_in k (block_at u n)) next w
next-edit k u w n four next is least l4 v4 h =
    let b : List ℕ = block_at u n in
    let c : ℕ = number_at 2 b 4 in
    let lb : length b ≡ u.size = length-at u n is.is.there in
    let within : 12 + c * (k + 4) ≤ u.size = room-within k u.size c least is.count in
    let own : AreBytes k (level_of b) b c (entries_at k b 12 c) (number_at 4 b 8) = record { level = refl; count = refl; entries = refl; next_is = refl; fits = omega arith } in
    bears-by k u w n (with_bytes b 8 four) c (entries_at k b 12 c) next h (put-next k (level_of b) b four c (entries_at k b 12 c) (number_at 4 b 8) next own l4 v4) is.count
