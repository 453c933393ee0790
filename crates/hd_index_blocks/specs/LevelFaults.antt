-- What can be wrong with the index of a volume of version 2 or later: one word for each line of the fault table, with where the fault stands and what
-- else it names, 0 where it names nothing. Each phase supposes that no earlier fault stands.
use Rattle.std.specs.Prelude.{◌≡◌, ◌≢◌, ◌⊎◌, ◌↔◌, ℕ, zero, suc, ◌-◌, ◌*◌, ◌<◌, ◌≤◌, ◌&&◌, not, cond, Bool, true, List, [], ◌∷◌, ◌++◌, Option, Some, None, option_map}
use Rattle.std.specs.Option.{option_map_or}
use Rattle.hd_bytes.specs.Numbers.{number_at}
use Rattle.hd_volume.specs.Headers.{header_of}
use Rattle.hd_volume.specs.Volumes.{VolumeState, block_at, IsKind, IsFormatted}
use Rattle.hd_volume.specs.Entries.{Entry, entries_in}
use Rattle.hd_volume.specs.Indexes.{entry_room, key_less, IsAmong}
use Rattle.hd_index_blocks.specs.Levels.{IndexBlocks, across, named, entries_below, blocks_down}
use Rattle.hd_index_blocks.specs.Chains.{first_of, AreLevelsLinked}
use Rattle.hd_index_blocks.specs.IndexSets.{level_in, next_in, index_blocks, top_blocks, top_level, HasIndexSet}
use Rattle.hd_index_blocks.specs.Faultless.{IsNamedAt, AreFormsRight, AreNamedOnce, AreAllReached, AreKeysRight}

-- ---- phase 8: the form of the blocks

-- 15 of the header: just one of top and height is 0, the height is above 64, or the top block is no index block of the highest level
abbrev pub IsWrongTop : VolumeState → ℕ → ℕ → Type 0
IsWrongTop v address other =
    (address ≡ 0) × (other ≡ (header_of v.image).top)
    × ((((header_of v.image).top ≡ 0) × ((header_of v.image).height ≢ 0))
    ⊎ ((((header_of v.image).top ≢ 0) × ((header_of v.image).height ≡ 0))
    ⊎ ((64 < (header_of v.image).height)
    ⊎ (((header_of v.image).top ≢ 0) × (level_in v (header_of v.image).top ≢ Some (top_level v))))))

-- block n, of a level above level 0, has an entry that names no index block of the level below
abbrev pub NamesWrongBlock : ℕ → VolumeState → ℕ → ℕ → Type 0
NamesWrongBlock key_length v l n = (j m : ℕ) × (l ≡ suc j) × IsAmong m (named (entries_in key_length (block_at v n))) × (level_in v m ≢ Some j)

-- 15 of a block: its level is not below the height, it counts no entry, or more than find room, the next block is no index block of its
-- level, or an upper entry names no index block of the level below
abbrev pub IsWrongForm : ℕ → VolumeState → ℕ → ℕ → Type 0
IsWrongForm key_length v address other =
    (n l : ℕ) × (level_in v n ≡ Some l) × (address ≡ n * v.size) × (other ≡ 0)
    × ((l < (header_of v.image).height → ⊥)
    ⊎ ((number_at 2 (block_at v n) 4 ≡ 0)
    ⊎ ((entry_room key_length v.size < number_at 2 (block_at v n) 4)
    ⊎ (((next_in v n ≢ 0) × (level_in v (next_in v n) ≢ Some l))
    ⊎ NamesWrongBlock key_length v l n))))

-- ---- phases 9 and 10: which blocks are named and reached

-- 15 of a block: it is named at two places
abbrev pub IsNamedTwice : ℕ → VolumeState → ℕ → ℕ → Type 0
IsNamedTwice key_length v address other =
    (n g i h j : ℕ) × IsKind v 2 n × IsNamedAt key_length v g i n × IsNamedAt key_length v h j n × ((g ≡ h) × (i ≡ j) → ⊥)
    × (address ≡ n * v.size) × (other ≡ 0)

-- 19: an index block is not reached from the top by upper entries
abbrev pub IsUnreachedBlock : ℕ → VolumeState → ℕ → ℕ → Type 0
IsUnreachedBlock key_length v address other =
    (n : ℕ) × IsKind v 2 n × (IsAmong n (blocks_down (index_blocks key_length v) (top_level v) (top_blocks v)) → ⊥) × (address ≡ n * v.size) × (other ≡ 0)

-- ---- phase 11: the levels from left to right

-- the blocks so many levels below some blocks, from left to right
abbrev pub row_below : IndexBlocks → ℕ → List ℕ → List ℕ
row_below c zero ns = ns
row_below c (suc steps) ns = row_below c steps (named (across c ns))

-- Block n stands on a level between others, from left to right.
pub record StandsBetween (key_length : ℕ) (v : VolumeState) (l : ℕ) (left : List ℕ) (n : ℕ) (right : List ℕ) : Type 0 where
  pub low : l ≤ top_level v
  pub row : row_below (index_blocks key_length v) (top_level v - l) (top_blocks v) ≡ left ++ (n ∷ right)

-- 15 of a block: its next block is not the one that follows on its level
abbrev pub IsWrongNext : ℕ → VolumeState → ℕ → ℕ → Type 0
IsWrongNext key_length v address other =
    (l n : ℕ) × (left right : List ℕ) × StandsBetween key_length v l left n right × (next_in v n ≢ first_of right) × (address ≡ n * v.size) × (other ≡ 0)

-- the last of some entries, or else the one given
abbrev pub last_entry : Option Entry → List Entry → Option Entry
last_entry left [] = left
last_entry left (e ∷ es) = last_entry (Some e) es

-- the first of some entries, or else the one given
abbrev pub first_entry : List Entry → Option Entry → Option Entry
first_entry [] right = right
first_entry (e ∷ es) right = Some e

-- no key is above this one
abbrev pub is_up_to : List ℕ → List Entry → Bool
is_up_to key [] = true
is_up_to key (e ∷ es) = not (key_less key e.key) && is_up_to key es

-- every key is above this one
abbrev pub is_below_all : List ℕ → List Entry → Bool
is_below_all key [] = true
is_below_all key (e ∷ es) = key_less key e.key && is_below_all key es

-- The key of an upper entry is at least every key of the sequence set below it, and less than every one below the entry to its right, if
-- there is one.
abbrev pub keeps_bounds : IndexBlocks → ℕ → Entry → Option Entry → Bool
keeps_bounds c zero e right = true
keeps_bounds c (suc l) e right =
    is_up_to e.key (entries_below c l (e.address ∷ [])) && option_map_or (λ f. is_below_all e.key (entries_below c l (f.address ∷ []))) right true

-- the entry of a level has a key above that of the entry to its left, if there is one, and keeps its bounds
abbrev pub is_right_entry : IndexBlocks → ℕ → Option Entry → Entry → Option Entry → Bool
is_right_entry c l left e right = option_map_or (λ f. key_less f.key e.key) left true && keeps_bounds c l e right

-- the first of some entries of a level that is not right, where these stand to their left and right
abbrev pub first_wrong : IndexBlocks → ℕ → Option Entry → List Entry → Option Entry → Option Entry
first_wrong c l left [] right = None
first_wrong c l left (e ∷ es) right = cond (is_right_entry c l left e (first_entry es right)) (first_wrong c l (Some e) es right) (Some e)

-- the first entry that is not right of a block that stands between others
abbrev pub first_wrong_in : IndexBlocks → ℕ → List ℕ → ℕ → List ℕ → Option Entry
first_wrong_in c l left n right = first_wrong c l (last_entry None (across c left)) (c.entries n) (first_entry (across c right) None)

-- 16: of a block an entry's key is not above the one to its left or breaks its bounds, the leftmost such entry
abbrev pub HasEntryOutOfOrder : ℕ → VolumeState → ℕ → ℕ → Type 0
HasEntryOutOfOrder key_length v address other =
    (l n : ℕ) × (left right : List ℕ) × StandsBetween key_length v l left n right
    × (option_map (λ e. e.address) (first_wrong_in (index_blocks key_length v) l left n right) ≡ Some other) × (address ≡ n * v.size)

-- ---- none of them

-- nowhere does the condition of a line stand
abbrev pub StandsNowhere : (ℕ → ℕ → Type 0) → Type 0
StandsNowhere stands = (address other : ℕ) → stands address other → ⊥

-- No line stands.
pub record HasNoFault (key_length : ℕ) (v : VolumeState) : Type 0 where
  pub top : StandsNowhere (IsWrongTop v)
  pub form : StandsNowhere (IsWrongForm key_length v)
  pub once : StandsNowhere (IsNamedTwice key_length v)
  pub reached : StandsNowhere (IsUnreachedBlock key_length v)
  pub next : StandsNowhere (IsWrongNext key_length v)
  pub order : StandsNowhere (HasEntryOutOfOrder key_length v)

-- Phase 8 finds nothing just where top and height and each index block are right.
abbrev pub FormsAreJudged : Type 0
FormsAreJudged = (key_length : ℕ) (v : VolumeState) → AreFormsRight key_length v ↔ (StandsNowhere (IsWrongTop v) × StandsNowhere (IsWrongForm key_length v))

-- Phase 9 finds nothing just where no index block is named twice.
abbrev pub NamesAreJudged : Type 0
NamesAreJudged = (key_length : ℕ) (v : VolumeState) → AreNamedOnce key_length v ↔ StandsNowhere (IsNamedTwice key_length v)

-- Phase 10 finds nothing just where each index block is reached.
abbrev pub ReachIsJudged : Type 0
ReachIsJudged = (key_length : ℕ) (v : VolumeState) → AreAllReached key_length v ↔ StandsNowhere (IsUnreachedBlock key_length v)

-- Phase 11 then finds nothing just where each level is a chain from left to right, and the keys are right.
abbrev pub LevelsAreJudged : Type 0
LevelsAreJudged =
    (key_length : ℕ) (v : VolumeState) → AreFormsRight key_length v
    → (AreLevelsLinked (index_blocks key_length v) (next_in v) (top_level v) (top_blocks v) ↔ StandsNowhere (IsWrongNext key_length v))
    × (AreKeysRight (index_blocks key_length v) (top_level v) (top_blocks v) ↔ StandsNowhere (HasEntryOutOfOrder key_length v))

-- A formatted volume of version 2 or later has an index set just where no line stands.
abbrev pub FaultsAreAll : Type 0
FaultsAreAll =
    (key_length : ℕ) (v : VolumeState) → IsFormatted v → (header_of v.image).version ≢ 1 → HasIndexSet key_length v ↔ HasNoFault key_length v
