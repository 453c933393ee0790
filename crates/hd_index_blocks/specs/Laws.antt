-- Laws of an index set: what it says of its keys, where a key leads, and which changes leave an index set. `c` are the blocks before a
-- change, `d` those after it.
use Rattle.std.specs.Prelude.{◌≡◌, ℕ, suc, ◌<◌, true, List, [], ◌∷◌, ◌++◌, Some, None}
use Rattle.hd_volume.specs.Entries.{Entry}
use Rattle.hd_volume.specs.Indexes.{key_less, is_below_first, keys_ascend, IsAmong}
use Rattle.hd_index_blocks.specs.Maps.{address_of, address_from, greatest_below, last_key, with_entry, without_key}
use Rattle.hd_index_blocks.specs.Levels.{IndexBlocks, across, named, entries_below, AreUpTo, AreBelow, IsIndexSet}
use Rattle.hd_index_blocks.specs.Ways.{child_of, leaf_of, IsAround, IsNamed, IsWayDown}
use Rattle.hd_index_blocks.specs.Changes.{OthersStay, LowerStay, UpperStay, KeepsIndexSet, IsDivided, IsLeft, IsWayUp}

-- ---- what an index set says

-- The keys of a level ascend, and those of the sequence set below it.
abbrev pub KeysOfALevelAscend : Type 0
KeysOfALevelAscend = (c : IndexBlocks) (l : ℕ) (ns : List ℕ) → IsIndexSet c l ns → (keys_ascend (across c ns) ≡ true) × (keys_ascend (entries_below c l ns) ≡ true)

-- No block stands twice on its level.
abbrev pub BlocksStandOnce : Type 0
BlocksStandOnce =
    (c : IndexBlocks) (l : ℕ) (left : List ℕ) (n : ℕ) (right : List ℕ) → IsIndexSet c l (left ++ (n ∷ right))
    → (IsAmong n left → ⊥) × (IsAmong n right → ⊥)

-- The last key of a block is at least every key of the sequence set below it, and less than the first one behind: it may be the block's upper key.
abbrev pub LastKeysBound : Type 0
LastKeysBound =
    (c : IndexBlocks) (l : ℕ) (left : List ℕ) (n : ℕ) (right : List ℕ) (before : List Entry) (last : Entry) → c.entries n ≡ before ++ (last ∷ [])
    → IsIndexSet c l (left ++ (n ∷ right))
    → AreUpTo last.key (entries_below c l (n ∷ [])) × (is_below_first last.key (entries_below c l right) ≡ true)

-- ---- where a key leads

-- The top stands about every key.
abbrev pub TopsAreAround : Type 0
TopsAreAround = (c : IndexBlocks) (key : List ℕ) (h top : ℕ) → IsIndexSet c h (top ∷ []) → IsAround c key h [] top []

-- Where a block stands about a key, so does the block below it that the key leads to.
abbrev pub StepsStayAround : Type 0
StepsStayAround =
    (c : IndexBlocks) (key : List ℕ) (l : ℕ) (left : List ℕ) (p : ℕ) (right : List ℕ) → IsAround c key (suc l) left p right
    → (before behind : List ℕ) × (s : IsNamed c before (child_of key (c.entries p)) behind left p right)
    × AreBelow key s.front × IsAround c key l before (child_of key (c.entries p)) behind

-- From the top a key leads to a block of the sequence set that stands about it.
abbrev pub KeysLeadToLeaves : Type 0
KeysLeadToLeaves =
    (c : IndexBlocks) (key : List ℕ) (h top : ℕ) → IsIndexSet c h (top ∷ [])
    → (left right : List ℕ) × IsAround c key 0 left (leaf_of c key h top) right × (across c (left ++ (leaf_of c key h top ∷ right)) ≡ entries_below c h (top ∷ []))

-- There a key is found if it stands anywhere, and the least key that is not below it stands there or first to the right.
abbrev pub LeavesAnswer : Type 0
LeavesAnswer =
    (c : IndexBlocks) (key : List ℕ) (left : List ℕ) (n : ℕ) (right : List ℕ) → IsAround c key 0 left n right
    → (address_of key (across c (left ++ (n ∷ right))) ≡ address_of key (c.entries n))
    × (address_from key (across c (left ++ (n ∷ right))) ≡ address_from key (c.entries n ++ across c right))

-- There, too, stands the greatest key below the key, or else it is the last one to the left.
abbrev pub GreatestKeysAreNear : Type 0
GreatestKeysAreNear =
    (c : IndexBlocks) (key : List ℕ) (left : List ℕ) (n : ℕ) (right : List ℕ) → IsAround c key 0 left n right
    → greatest_below key key (across c (left ++ (n ∷ right))) ≡ greatest_below (last_key key (across c left)) key (c.entries n)

-- Down by the greatest key below a new one, or by the new one where there is none, the new key may come in at each step: all upper
-- keys to the left are below it, the entry's own key may be raised to it where it is below, and it is below all behind.
abbrev pub NewKeysComeIn : Type 0
NewKeysComeIn =
    (c : IndexBlocks) (key by : List ℕ) (l : ℕ) (left : List ℕ) (p : ℕ) (right : List ℕ) → IsAround c by (suc l) left p right
    → address_of key (entries_below c (suc l) (left ++ (p ∷ right))) ≡ None → by ≡ greatest_below key key (entries_below c (suc l) (left ++ (p ∷ right)))
    → (before behind : List ℕ) × (s : IsNamed c before (child_of by (c.entries p)) behind left p right)
    × AreBelow key (across c left ++ s.front) × (key_less s.entry.key key ≡ true → AreUpTo key (entries_below c l (child_of by (c.entries p) ∷ [])))
    × (is_below_first key (entries_below c l behind) ≡ true) × IsAround c by l before (child_of by (c.entries p)) behind

-- ---- what stays

-- An index set below the levels that change stays one.
abbrev pub LowerLevelsStay : Type 0
LowerLevelsStay =
    (c d : IndexBlocks) (l i : ℕ) (ns : List ℕ) → LowerStay c d l → i < l → IsIndexSet c i ns → KeepsIndexSet c d i ns

-- Where a level and what is below it changes but still is an index set with the same entries below each block, the way down to it
-- stays a way down, and the top an index set with the same entries.
abbrev pub WaysDownStay : Type 0
WaysDownStay =
    (c d : IndexBlocks) (h top : ℕ) (key : List ℕ) (steps l : ℕ) (left : List ℕ) (n : ℕ) (right : List ℕ)
    → IsWayDown c h top key steps l left n right → UpperStay c d l → KeepsIndexSet c d l (left ++ (n ∷ right))
    → IsWayDown d h top key steps l left n right × KeepsIndexSet c d h (top ∷ [])

-- ---- what may change

-- An upper entry may have another key, if that too is at least every key below its block and less than the first one behind.
abbrev pub UpperKeysMayChange : Type 0
UpperKeysMayChange =
    (c d : IndexBlocks) (l : ℕ) (left : List ℕ) (p : ℕ) (right : List ℕ) (front : List Entry) (e : Entry) (back : List Entry) (key : List ℕ)
    → IsIndexSet c (suc l) (left ++ (p ∷ right)) → c.entries p ≡ front ++ (e ∷ back)
    → (d.level p ≡ Some (suc l)) × (d.entries p ≡ front ++ (record { key = key; address = e.address } ∷ back))
    → OthersStay c d (suc l) p → LowerStay c d (suc l)
    → AreUpTo key (entries_below c l (e.address ∷ [])) → is_below_first key (entries_below c l (named (back ++ across c right))) ≡ true
    → KeepsIndexSet c d (suc l) (left ++ (p ∷ right))

-- A block may be divided under its parent.
abbrev pub BlocksMayBeDivided : Type 0
BlocksMayBeDivided =
    (c d : IndexBlocks) (l n m p : ℕ) (left right : List ℕ) → IsDivided c d l n m p → IsIndexSet c (suc l) (left ++ (p ∷ right))
    → KeepsIndexSet c d (suc l) (left ++ (p ∷ right))

-- A new top may stand over the old one, with the last key of that.
abbrev pub TopsMayBeAdded : Type 0
TopsMayBeAdded =
    (c d : IndexBlocks) (h top new : ℕ) (before : List Entry) (last : Entry) → IsIndexSet c h (top ∷ []) → c.entries top ≡ before ++ (last ∷ [])
    → (d.level new ≡ Some (suc h)) × (d.entries new ≡ record { key = last.key; address = top } ∷ []) → LowerStay c d (suc h)
    → IsIndexSet d (suc h) (new ∷ []) × (entries_below d (suc h) (new ∷ []) ≡ entries_below c h (top ∷ []))

-- A new entry at the end of its way down comes into the index.
abbrev pub EntriesEnter : Type 0
EntriesEnter =
    (c d : IndexBlocks) (h top : ℕ) (new : Entry) (left : List ℕ) (n : ℕ) (right : List ℕ)
    → IsIndexSet c 0 (left ++ (n ∷ right)) → IsWayDown c h top new.key h 0 left n right → address_of new.key (c.entries n) ≡ None
    → (d.level n ≡ Some 0) × (d.entries n ≡ with_entry new (c.entries n)) → OthersStay c d 0 n → UpperStay c d 0
    → IsIndexSet d h (top ∷ []) × (entries_below d h (top ∷ []) ≡ with_entry new (entries_below c h (top ∷ [])))

-- An entry leaves the index, where each block that loses its last one goes, and with it the upper entry that names it.
abbrev pub EntriesLeave : Type 0
EntriesLeave =
    (c d : IndexBlocks) (h top : ℕ) (gone : Entry) (left : List ℕ) (n : ℕ) (right kept kept_top : List ℕ) (front back : List Entry)
    → IsIndexSet c h (top ∷ []) → IsIndexSet c 0 (left ++ (n ∷ right)) → c.entries n ≡ front ++ (gone ∷ back)
    → IsLeft d 0 n (front ++ back) kept → OthersStay c d 0 n → IsWayUp c d h top h 0 left n right kept kept_top
    → IsIndexSet d h kept_top × (entries_below d h kept_top ≡ without_key gone.key (entries_below c h (top ∷ [])))
