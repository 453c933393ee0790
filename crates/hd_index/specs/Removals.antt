-- Blocks that go from an index set with an entry, and what is left.
use Rattle.std.specs.Prelude.{◌≡◌, ◌≢◌, ◌⊎◌, ℕ, zero, suc, ◌<◌, ◌≤◌, List, [], ◌∷◌, ◌++◌, length, Some, cond, nat_lt}
use Rattle.hd_bytes.specs.Numbers.{number_at}
use Rattle.hd_bytes.specs.Blocks.{HasBlock}
use Rattle.hd_volume.specs.Headers.{header_of}
use Rattle.hd_volume.specs.Volumes.{VolumeState, block_at, IsKind, IsFormatted}
use Rattle.hd_volume.specs.Rooms.{spare}
use Rattle.hd_volume.specs.Entries.{Entry, entries_in}
use Rattle.hd_volume.specs.Indexes.{entry_room, IsAmong}
use Rattle.hd_index_blocks.specs.Levels.{IndexBlocks, named, sequence_set, entries_below, IsIndexSet}
use Rattle.hd_index_blocks.specs.Ways.{child_of, IsAround, IsNamed}
use Rattle.hd_index_blocks.specs.Changes.{OthersStay, IsLeft, entry_left}
use Rattle.hd_index_blocks.specs.Chains.{IsLinked, first_of, AreLevelsLinked}
use Rattle.hd_index_blocks.specs.Linking.{IsRelinked}
use Rattle.hd_index_blocks.specs.Neighbours.{last_of, last_child}
use Rattle.hd_index_blocks.specs.Parents.{HasParent}
use Rattle.hd_index_blocks.specs.IndexSets.{level_in, next_in, index_blocks, top_blocks, top_level, IsHeightRight, HasIndexSet}
use Rattle.hd_index.specs.EditedBlocks.{level_of, Bears}
use Rattle.hd_index.specs.BlockChanges.{IsIndexChange}
use Rattle.hd_index.specs.declared.stand.Stand.{Stand}
use Rattle.hd_index.specs.declared.way.Fork.{Fork}
use Rattle.hd_index.specs.declared.way.Way.{Way}
use Rattle.hd_index.specs.Stands.{front_of}
use Rattle.hd_index.specs.Changes.{IsKeyRemoved}
use Rattle.hd_index.specs.Blocks.{entries_of}

-- ---- a step down

-- This stands where a key leads from another block of the level above.
pub record IsBelow (key_length : ℕ) (v : VolumeState) (key : List ℕ) (stand below : Stand) : Type 0 where
  pub block_is : below.block ≡ child_of key (entries_in key_length (block_at v stand.block))
  pub left_is : below.left ≡ last_of (last_child (index_blocks key_length v) stand.left) (named (front_of key (entries_in key_length (block_at v stand.block))))

-- ---- a way down

-- From a block of a level down each block has one entry.
abbrev pub IsThin : IndexBlocks → ℕ → ℕ → Type 0
IsThin c zero n = (e : Entry) × (c.entries n ≡ e ∷ [])
IsThin c (suc l) n = (e : Entry) × (c.entries n ≡ e ∷ []) × IsThin c l e.address

-- So it is from the block on that a key leads to below a block of a level; below the sequence set there is none.
abbrev pub IsThinBelow : IndexBlocks → List ℕ → ℕ → ℕ → Type 0
IsThinBelow c key zero n = Unit {0}
IsThinBelow c key (suc l) n = IsThin c l (child_of key (c.entries n))

-- One step up from block n of level l, of which this is left, to its parent, of which that is left: on the parent's level all else stays,
-- and it stays a chain.
pub record IsStepUp (c d : IndexBlocks) (old new : ℕ → ℕ) (l : ℕ) (left : List ℕ) (n : ℕ) (right kept left_up : List ℕ) (p : ℕ) (right_up kept_up : List ℕ) : Type 0 where
  pub names : IsNamed c left n right left_up p right_up
  pub is_left : IsLeft d (suc l) p (names.front ++ (entry_left kept names.entry ++ names.back)) kept_up
  pub others : OthersStay c d (suc l) p
  pub set : IsIndexSet c (suc l) (left_up ++ (p ∷ right_up))
  pub linked : IsLinked old (first_of (left_up ++ (p ∷ right_up))) (left_up ++ (p ∷ right_up))
  pub relinked : IsRelinked old new left_up p right_up kept_up

-- So many such steps lead up to the top, which is of level h and of which that is left.
abbrev pub IsLinkedWay : IndexBlocks → IndexBlocks → (ℕ → ℕ) → (ℕ → ℕ) → ℕ → ℕ → ℕ → ℕ → List ℕ → ℕ → List ℕ → List ℕ → List ℕ → Type 0
IsLinkedWay c d old new h top zero l left n right kept kept_top = (l ≡ h) × (left ≡ []) × (n ≡ top) × (right ≡ []) × (kept_top ≡ kept)
IsLinkedWay c d old new h top (suc steps) l left n right kept kept_top =
    (left_up : List ℕ) × (p : ℕ) × (right_up kept_up : List ℕ) × IsStepUp c d old new l left n right kept left_up p right_up kept_up
    × IsLinkedWay c d old new h top steps (suc l) left_up p right_up kept_up kept_top

-- A walk down by a key from the top, which is of level h, stands at a block of a level; the blocks of its level lead down to all of the
-- sequence set.
pub record IsOnWay (c : IndexBlocks) (next : ℕ → ℕ) (h top : ℕ) (key : List ℕ) (l : ℕ) (stand : Stand) : Type 0 where
  pub some : 0 < top
  pub before : List ℕ
  pub behind : List ℕ
  pub around : IsAround c key l before stand.block behind
  pub left_is : stand.left ≡ last_of 0 before
  pub whole : sequence_set c l (before ++ (stand.block ∷ behind)) ≡ sequence_set c h (top ∷ [])
  pub linked : AreLevelsLinked c next l (before ++ (stand.block ∷ behind))
  pub steps : ℕ
  pub way : IsLinkedWay c c next next h top steps l before stand.block behind (stand.block ∷ []) (top ∷ [])

-- So it stands in a volume.
abbrev pub IsOnWayIn : ℕ → VolumeState → List ℕ → ℕ → Stand → Type 0
IsOnWayIn key_length v key l stand = IsOnWay (index_blocks key_length v) (next_in v) (top_level v) (header_of v.image).top key l stand

-- This is the lowest block with more than one entry on the way down by a key from block n of a level, or there is none.
abbrev pub IsFork : ℕ → VolumeState → List ℕ → ℕ → ℕ → Fork → Type 0
IsFork key_length v key l n fork =
    ((fork.stand.block ≡ 0) × IsThin (index_blocks key_length v) l n)
    ⊎ (IsOnWayIn key_length v key fork.level fork.stand × (1 < length (entries_in key_length (block_at v fork.stand.block)))
    × IsThinBelow (index_blocks key_length v) key fork.level fork.stand.block)

-- This is the way down by a key from block n of a level.
pub record IsWay (key_length : ℕ) (v : VolumeState) (key : List ℕ) (l n : ℕ) (way : Way) : Type 0 where
  pub leaf : IsOnWayIn key_length v key 0 way.leaf
  pub fork : IsFork key_length v key l n way.fork

-- ---- a block that goes

-- The left neighbour of a block, if it has one, names the block behind it; nothing else has changed.
pub record IsPassed (key_length : ℕ) (old : VolumeState) (stand : Stand) (new : VolumeState) : Type 0 where
  pub size : new.size ≡ old.size
  pub len : length new.image ≡ length old.image
  pub formatted : IsFormatted new
  pub is : IsKind new 2 stand.block
  pub others : (x : ℕ) → HasBlock old.size old.image x → x ≢ stand.left → block_at new x ≡ block_at old x
  pub left : stand.left ≢ 0 → Bears key_length new (level_of (block_at old stand.left)) stand.left (entries_in key_length (block_at old stand.left)) (next_in old stand.block)
  pub header : header_of new.image ≡ header_of old.image
  pub change : IsIndexChange old 0 new
  pub spares : spare old ≤ spare new

-- The block is gone, and its left neighbour, if it has one, names the block behind it; nothing else has changed.
pub record IsDropped (key_length : ℕ) (old : VolumeState) (stand : Stand) (new : VolumeState) : Type 0 where
  pub size : new.size ≡ old.size
  pub len : length new.image ≡ length old.image
  pub formatted : IsFormatted new
  pub gone : IsKind new 2 stand.block → ⊥
  pub others : (x : ℕ) → HasBlock old.size old.image x → x ≢ stand.block → x ≢ stand.left → block_at new x ≡ block_at old x
  pub left : stand.left ≢ 0 → Bears key_length new (level_of (block_at old stand.left)) stand.left (entries_in key_length (block_at old stand.left)) (next_in old stand.block)
  pub header : header_of new.image ≡ header_of old.image
  pub change : IsIndexChange old 0 new
  pub spares : spare old ≤ spare new

-- ---- an index set from which blocks go

-- Each block but one is of a level up to this, and is among these or has a parent.
abbrev pub ArePlacedBut : IndexBlocks → ℕ → List ℕ → ℕ → Type 0
ArePlacedBut c h ns n = (x l : ℕ) → c.level x ≡ Some l → x ≢ n → (l ≤ h) × (IsAmong x ns ⊎ HasParent c l x)

-- Of the top of an index set this is left; nothing but index blocks, top and height has changed.
pub record KeepsRest (key_length : ℕ) (old : VolumeState) (kept_top : List ℕ) (new : VolumeState) : Type 0 where
  pub size : new.size ≡ old.size
  pub formatted : IsFormatted new
  pub change : IsIndexChange old 0 new
  pub spares : spare old ≤ spare new
  pub version : (header_of new.image).version ≢ 1
  pub height : IsHeightRight new
  pub tops : top_blocks new ≡ kept_top
  pub level : (top_level new ≡ top_level old) ⊎ (kept_top ≡ [])
  pub count : (n : ℕ) → IsKind new 2 n → number_at 2 (block_at new n) 4 ≤ entry_room key_length new.size

-- Of an index set a block of a level is cut off, with all below it, which is one entry: no block above names it. The levels above are as
-- they will be, this one and those below are as they were.
pub record IsCut (key_length : ℕ) (old : VolumeState) (gone : Entry) (kept_top : List ℕ) (new : VolumeState) (l : ℕ) (stand : Stand) : Type 0 where
  pub was : HasIndexSet key_length old
  pub some : 0 < (header_of old.image).top
  pub before : List ℕ
  pub behind : List ℕ
  pub left_is : stand.left ≡ last_of 0 before
  pub set : IsIndexSet (index_blocks key_length old) l (before ++ (stand.block ∷ behind))
  pub linked : AreLevelsLinked (index_blocks key_length old) (next_in old) l (before ++ (stand.block ∷ behind))
  pub thin : IsThin (index_blocks key_length old) l stand.block
  pub below : entries_below (index_blocks key_length old) l (stand.block ∷ []) ≡ gone ∷ []
  pub steps : ℕ
  pub way : IsLinkedWay (index_blocks key_length old) (index_blocks key_length new) (next_in old) (next_in new) (top_level old) (header_of old.image).top steps l before stand.block behind [] kept_top
  pub lower : (x j : ℕ) → level_in old x ≡ Some j → j ≤ l → (level_in new x ≡ Some j) × (block_at new x ≡ block_at old x)
  pub placed : ArePlacedBut (index_blocks key_length new) (top_level old) kept_top stand.block
  pub rest : KeepsRest key_length old kept_top new

-- So it is cut off of some index set.
abbrev pub IsCutOff : ℕ → VolumeState → ℕ → Stand → Type 0
IsCutOff key_length v l stand = (old : VolumeState) × (gone : Entry) × (kept_top : List ℕ) × IsCut key_length old gone kept_top v l stand

-- Whatever index set was left without its last entry of a key, it has the key no more.
abbrev pub RemovesCut : ℕ → VolumeState → ℕ → Stand → VolumeState → Type 0
RemovesCut key_length v levels start new =
    (old : VolumeState) (gone : Entry) (kept_top : List ℕ) → IsCut key_length old gone kept_top v levels start → IsKeyRemoved key_length old gone.key new

-- the lower of a fork above a block and the block, where that has more than one entry
abbrev pub lower_fork_of : ℕ → VolumeState → Fork → ℕ → Stand → Fork
lower_fork_of key_length v above level stand = cond (nat_lt 1 (length (entries_of key_length v stand.block))) (record { level = level; stand = stand }) above

-- the fact holds where a block is on the way of a key, so many levels above the sequence set of an index set
abbrev pub IfOnWay : ℕ → VolumeState → List ℕ → ℕ → Stand → Type 0 → Type 0
IfOnWay key_length v key levels start fact = HasIndexSet key_length v → IsOnWayIn key_length v key levels start → fact
