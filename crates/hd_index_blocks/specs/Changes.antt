-- Changes of an index, from the blocks `c` to the blocks `d`.
use Rattle.std.specs.Prelude.{◌≡◌, ◌≢◌, ℕ, zero, suc, ◌<◌, List, [], ◌∷◌, ◌++◌, Some}
use Rattle.hd_volume.specs.Entries.{Entry}
use Rattle.hd_index_blocks.specs.Levels.{IndexBlocks, entries_below, IsIndexSet}
use Rattle.hd_index_blocks.specs.Ways.{IsNamed}

-- a block keeps its level and its entries
abbrev pub Stays : IndexBlocks → IndexBlocks → ℕ → ℕ → Type 0
Stays c d l n = (d.level n ≡ Some l) × (d.entries n ≡ c.entries n)

-- Of a level each block but one stays.
abbrev pub OthersStay : IndexBlocks → IndexBlocks → ℕ → ℕ → Type 0
OthersStay c d l n = (x : ℕ) → c.level x ≡ Some l → x ≢ n → Stays c d l x

-- Each block of the levels below one stays.
abbrev pub LowerStay : IndexBlocks → IndexBlocks → ℕ → Type 0
LowerStay c d l = (x j : ℕ) → c.level x ≡ Some j → j < l → Stays c d j x

-- Each block of the levels above one stays.
abbrev pub UpperStay : IndexBlocks → IndexBlocks → ℕ → Type 0
UpperStay c d l = (x j : ℕ) → c.level x ≡ Some j → l < j → Stays c d j x

-- Below each of these blocks of a level the entries of the sequence set stay.
abbrev pub StayBelow : IndexBlocks → IndexBlocks → ℕ → List ℕ → Type 0
StayBelow c d l [] = Unit {0}
StayBelow c d l (n ∷ ns) = (entries_below d l (n ∷ []) ≡ entries_below c l (n ∷ [])) × StayBelow c d l ns

-- These blocks of a level still are an index set, with the same entries of the sequence set below each.
abbrev pub KeepsIndexSet : IndexBlocks → IndexBlocks → ℕ → List ℕ → Type 0
KeepsIndexSet c d l ns = IsIndexSet d l ns × StayBelow c d l ns

-- Block n of level l is divided under block p: its last entries are those of block m now. Two entries of p name the two; the upper
-- key of the first is the last key that block n has left.
pub record IsDivided (c d : IndexBlocks) (l n m p : ℕ) : Type 0 where
  pub before : List Entry
  pub last : Entry
  pub behind : List Entry
  pub was : c.entries n ≡ before ++ (last ∷ behind)
  pub low : d.entries n ≡ before ++ (last ∷ [])
  pub high : d.entries m ≡ behind
  pub some : behind ≢ []
  pub levels : (d.level n ≡ Some l) × (d.level m ≡ Some l) × (d.level p ≡ Some (suc l))
  pub front : List Entry
  pub entry : Entry
  pub back : List Entry
  pub named_was : c.entries p ≡ front ++ (entry ∷ back)
  pub child : entry.address ≡ n
  pub named_is : d.entries p ≡ front ++ (record { key = last.key; address = n } ∷ record { key = entry.key; address = m } ∷ back)
  pub lower : LowerStay c d l
  pub beside : OthersStay c d l n
  pub above : OthersStay c d (suc l) p

-- ---- an entry less

-- Of block n these entries are left, or the block is gone where none is.
abbrev pub IsLeft : IndexBlocks → ℕ → ℕ → List Entry → List ℕ → Type 0
IsLeft d l n [] left = left ≡ []
IsLeft d l n (e ∷ es) left = (left ≡ n ∷ []) × (d.level n ≡ Some l) × (d.entries n ≡ e ∷ es)

-- what is left of the entry for a block of which this is left
abbrev pub entry_left : List ℕ → Entry → List Entry
entry_left [] e = []
entry_left (n ∷ ns) e = e ∷ []

-- So many steps lead up from block n of level l, of which this is left, to the top, which is of level h: at each a parent loses its
-- entry for a block that is gone, and is gone itself where it has no other.
abbrev pub IsWayUp : IndexBlocks → IndexBlocks → ℕ → ℕ → ℕ → ℕ → List ℕ → ℕ → List ℕ → List ℕ → List ℕ → Type 0
IsWayUp c d h top zero l left n right kept kept_top = (l ≡ h) × (left ≡ []) × (n ≡ top) × (right ≡ []) × (kept_top ≡ kept)
IsWayUp c d h top (suc steps) l left n right kept kept_top =
    (left_up : List ℕ) × (p : ℕ) × (right_up kept_up : List ℕ) × (s : IsNamed c left n right left_up p right_up)
    × IsLeft d (suc l) p (s.front ++ (entry_left kept s.entry ++ s.back)) kept_up × OthersStay c d (suc l) p
    × IsIndexSet c (suc l) (left_up ++ (p ∷ right_up)) × IsWayUp c d h top steps (suc l) left_up p right_up kept_up kept_top
