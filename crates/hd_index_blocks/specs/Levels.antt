-- Levels of index blocks: on level 0 the sequence set, whose entries name roots, and above it the index set, whose entries name the
-- blocks of the level below.
use Rattle.std.specs.Prelude.{◌≡◌, ◌≢◌, ℕ, zero, suc, true, false, List, [], ◌∷◌, ◌++◌, Option, Some}
use Rattle.hd_volume.specs.Entries.{Entry}
use Rattle.hd_volume.specs.Indexes.{key_less, is_below_first, keys_ascend}

-- Blocks by their number: the entries of each, and the level of each that is an index block.
pub record IndexBlocks : Type 0 where
  pub entries : ℕ → List Entry
  pub level : ℕ → Option ℕ

-- the entries of some blocks, from left to right
abbrev pub across : IndexBlocks → List ℕ → List Entry
across c [] = []
across c (n ∷ ns) = c.entries n ++ across c ns

-- the blocks that some upper entries name
abbrev pub named : List Entry → List ℕ
named [] = []
named (e ∷ es) = e.address ∷ named es

-- the blocks of the sequence set below some blocks of a level
abbrev pub sequence_set : IndexBlocks → ℕ → List ℕ → List ℕ
sequence_set c zero ns = ns
sequence_set c (suc l) ns = sequence_set c l (named (across c ns))

-- the entries of the sequence set below some blocks of a level
abbrev pub entries_below : IndexBlocks → ℕ → List ℕ → List Entry
entries_below c l ns = across c (sequence_set c l ns)

-- some blocks of a level, and all below them, level by level
abbrev pub blocks_down : IndexBlocks → ℕ → List ℕ → List ℕ
blocks_down c zero ns = ns
blocks_down c (suc l) ns = ns ++ blocks_down c l (named (across c ns))

-- no key is above this one
abbrev pub AreUpTo : List ℕ → List Entry → Type 0
AreUpTo key [] = Unit {0}
AreUpTo key (e ∷ es) = (key_less key e.key ≡ false) × AreUpTo key es

-- every key is below this one
abbrev pub AreBelow : List ℕ → List Entry → Type 0
AreBelow key [] = Unit {0}
AreBelow key (e ∷ es) = (key_less e.key key ≡ true) × AreBelow key es

-- Each upper key is at least every key of the sequence set below its block, and less than the first one behind.
abbrev pub AreBounds : IndexBlocks → ℕ → List Entry → Type 0
AreBounds c l [] = Unit {0}
AreBounds c l (e ∷ es) = AreUpTo e.key (entries_below c l (e.address ∷ [])) × (is_below_first e.key (entries_below c l (named es)) ≡ true) × AreBounds c l es

-- Each of these is an index block of a level, and not empty.
abbrev pub AreOnLevel : IndexBlocks → ℕ → List ℕ → Type 0
AreOnLevel c l [] = Unit {0}
AreOnLevel c l (n ∷ ns) = (c.level n ≡ Some l) × (c.entries n ≢ []) × AreOnLevel c l ns

-- These blocks of a level, and all below them, are an index set over its sequence set: the keys of the sequence set ascend, and the
-- upper keys bound them.
abbrev pub IsIndexSet : IndexBlocks → ℕ → List ℕ → Type 0
IsIndexSet c zero ns = AreOnLevel c 0 ns × (keys_ascend (across c ns) ≡ true)
IsIndexSet c (suc l) ns = AreOnLevel c (suc l) ns × AreBounds c l (across c ns) × IsIndexSet c l (named (across c ns))
