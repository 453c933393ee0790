-- Ways between the top of an index and its sequence set.
use Rattle.std.specs.Prelude.{◌≡◌, ℕ, zero, suc, cond, true, false, List, [], ◌∷◌, ◌++◌}
use Rattle.hd_volume.specs.Entries.{Entry}
use Rattle.hd_volume.specs.Indexes.{key_less, is_below_first}
use Rattle.hd_index_blocks.specs.Levels.{IndexBlocks, across, named, entries_below, AreBelow, IsIndexSet}

-- the block that a key leads to: that of the first entry whose key is not below it, or of the last; 0 where there is none
abbrev pub child_of : List ℕ → List Entry → ℕ
child_of key [] = 0
child_of key (e ∷ []) = e.address
child_of key (e ∷ f ∷ es) = cond (key_less e.key key) (child_of key (f ∷ es)) e.address

-- the block of the sequence set that a key leads to from a block of a level
abbrev pub leaf_of : IndexBlocks → List ℕ → ℕ → ℕ → ℕ
leaf_of c key zero n = n
leaf_of c key (suc l) n = leaf_of c key l (child_of key (c.entries n))

-- Block n stands between others of its level: all below those to its left is below the key, and the key is below all that is below
-- those to its right.
pub record IsAround (c : IndexBlocks) (key : List ℕ) (l : ℕ) (left : List ℕ) (n : ℕ) (right : List ℕ) : Type 0 where
  pub set : IsIndexSet c l (left ++ (n ∷ right))
  pub below : AreBelow key (entries_below c l left)
  pub above : is_below_first key (entries_below c l right) ≡ true

-- Block n, between others of its level, is named by an entry of block p, between others of theirs.
pub record IsNamed (c : IndexBlocks) (left : List ℕ) (n : ℕ) (right left_up : List ℕ) (p : ℕ) (right_up : List ℕ) : Type 0 where
  pub front : List Entry
  pub entry : Entry
  pub back : List Entry
  pub is : c.entries p ≡ front ++ (entry ∷ back)
  pub child : entry.address ≡ n
  pub left_is : left ≡ named (across c left_up ++ front)
  pub right_is : right ≡ named (back ++ across c right_up)

-- So many steps lead down from the top, which is of level h, to block n of level l, each to an entry where a new key may come: the
-- upper keys to its left are below the key, and its own is not.
abbrev pub IsWayDown : IndexBlocks → ℕ → ℕ → List ℕ → ℕ → ℕ → List ℕ → ℕ → List ℕ → Type 0
IsWayDown c h top key zero l left n right = (l ≡ h) × (left ≡ []) × (n ≡ top) × (right ≡ [])
IsWayDown c h top key (suc steps) l left n right =
    (left_up : List ℕ) × (p : ℕ) × (right_up : List ℕ) × (s : IsNamed c left n right left_up p right_up)
    × AreBelow key (across c left_up ++ s.front) × (key_less s.entry.key key ≡ false)
    × IsIndexSet c (suc l) (left_up ++ (p ∷ right_up)) × IsWayDown c h top key steps (suc l) left_up p right_up
