-- What the phases of a check find of an index, and the tables that they keep of it.
use Rattle.std.specs.Prelude.{◌==◌, Bool, true, ◌≡◌, ◌⊎◌, ℕ, ◌<◌, ◌≤◌, List, [], ◌∷◌, ◌++◌, length, map, slice_index, slice_index_or, not, find, option_map, Option}
use Rattle.hd_bytes.specs.Numbers.{number_at}
use Rattle.std.specs.List.{list_any, list_all}
use Rattle.hd_dbd.specs.Hierarchy.{Database}
use Rattle.hd_index_blocks.specs.Fields.{CountFits}
use Rattle.hd_image.specs.Records.{links_of, IsVolumeOf}
use Rattle.hd_links.specs.Links.{IsSegment}
use Rattle.hd_volume.specs.Entries.{Entry, entries_in}
use Rattle.hd_volume.specs.Headers.{header_of}
use Rattle.hd_volume.specs.Volumes.{VolumeState, block_at, IsKind}
use Rattle.hd_volume.specs.Indexes.{root_key_length, entry_room, IsAmong, IsEntryBlock}
use Rattle.hd_index_blocks.specs.IndexSets.{sequence_blocks, index_entries}
use Rattle.hd_image.specs.IndexFaults.{IsOfLevel, NamesBlock, first_not_above, names_a_root}
use Rattle.hd_check_blocks.specs.declared.places.Place.{Place}
use Rattle.hd_check_blocks.specs.Places.{IsPlaceOf, ArePlaces}
use Rattle.hd_check_index.specs.declared.noted_blocks.ChainedBlock.{ChainedBlock}
use Rattle.hd_check_index.specs.declared.noted_blocks.Form.{Form}
use Rattle.hd_index_blocks.specs.Fields.{entry_in}
use Rattle.hd_check_index.specs.Marks.{mark_at}

-- The index block n has a level below the height and no more entries than find room, and the next block, if there is one, is an
-- index block of its level.
pub record IsRightIndexBlock (key_length : ℕ) (v : VolumeState) (n : ℕ) : Type 0 where
  pub level : slice_index (block_at v n) 3 < (header_of v.image).height
  pub count : number_at 2 (block_at v n) 4 ≤ entry_room key_length v.size
  pub next : (number_at 4 (block_at v n) 8 ≡ 0) ⊎ IsOfLevel v (slice_index (block_at v n) 3) (number_at 4 (block_at v n) 8)

-- In version 1, top and height are both 0, or top is an index block of level 0 and the height is 1; and each index block is right by itself.
pub record IsIndexRight (key_length : ℕ) (v : VolumeState) : Type 0 where
  pub version : (header_of v.image).version ≡ 1
  pub height : (((header_of v.image).top ≡ 0) × ((header_of v.image).height ≡ 0)) ⊎ ((0 < (header_of v.image).top) × ((header_of v.image).height ≡ 1))
  pub top : 0 < (header_of v.image).top → IsOfLevel v 0 (header_of v.image).top
  pub blocks : (n : ℕ) → IsKind v 2 n → IsRightIndexBlock key_length v n

-- no index block is named twice
abbrev pub AreNamedOnce : VolumeState → Type 0
AreNamedOnce v = (n g h : ℕ) → IsKind v 2 n → NamesBlock v g n → NamesBlock v h n → g ≡ h

-- each block is behind the one before, and all are behind a number
abbrev pub BlocksAscend : ℕ → List ChainedBlock → Type 0
BlocksAscend n [] = Unit {0}
BlocksAscend n (b ∷ bs) = (n < b.number) × BlocksAscend b.number bs

-- the block is one of these
abbrev pub IsBlockOf : ChainedBlock → List ChainedBlock → Type 0
IsBlockOf b [] = ⊥
IsBlockOf b (c ∷ cs) = (b ≡ c) ⊎ IsBlockOf b cs

-- These are the index blocks of a volume: they ascend, each is an index block with the next that it names, and each index block
-- is one of them.
pub record AreIndexBlocks (v : VolumeState) (blocks : List ChainedBlock) : Type 0 where
  pub ascend : BlocksAscend 0 blocks
  pub there : (b : ChainedBlock) → IsBlockOf b blocks → IsKind v 2 b.number × (b.next ≡ number_at 4 (block_at v b.number) 8)
  pub all : (n : ℕ) → IsKind v 2 n → IsBlockOf (record { number = n; next = number_at 4 (block_at v n) 8 }) blocks

-- the index block of a number
abbrev pub index_block_of : VolumeState → ℕ → ChainedBlock
index_block_of v n = record { number = n; next = number_at 4 (block_at v n) 8 }

-- the index block at an index of a table
abbrev pub index_block_at : List ChainedBlock → ℕ → ChainedBlock
index_block_at blocks i = slice_index_or blocks i (record { number = 0; next = 0 })

-- what an index block says of its form
abbrev pub form_of : VolumeState → ℕ → Form
form_of v n = record { level = slice_index (block_at v n) 3; count = number_at 2 (block_at v n) 4 }

-- the form at an index of a table
abbrev pub form_at : List Form → ℕ → Form
form_at forms i = slice_index_or forms i (record { level = 0; count = 0 })

-- these are the forms of the blocks, one for each
abbrev pub AreForms : VolumeState → List ChainedBlock → List Form → Type 0
AreForms v [] [] = Unit {0}
AreForms v [] (f ∷ fs) = ⊥
AreForms v (b ∷ bs) [] = ⊥
AreForms v (b ∷ bs) (f ∷ fs) = (f ≡ form_of v b.number) × AreForms v bs fs

-- Block n and its form are noted behind others, or it is no index block.
abbrev pub IsNotedBlock : VolumeState → ℕ → List ChainedBlock → List Form → List ChainedBlock → List Form → Type 0
IsNotedBlock v n blocks forms more_blocks more_forms =
    (IsKind v 2 n × (more_blocks ≡ blocks ++ (index_block_of v n ∷ [])) × (more_forms ≡ forms ++ (form_of v n ∷ [])))
    ⊎ ((IsKind v 2 n → ⊥) × (more_blocks ≡ blocks) × (more_forms ≡ forms))

-- Top and height are both 0, or top is an index block of level 0 and the height is 1.
pub record IsTopRight (v : VolumeState) : Type 0 where
  pub height : (((header_of v.image).top ≡ 0) × ((header_of v.image).height ≡ 0)) ⊎ ((0 < (header_of v.image).top) × ((header_of v.image).height ≡ 1))
  pub top : 0 < (header_of v.image).top → IsOfLevel v 0 (header_of v.image).top

-- the index block n is not right, and those before it are
abbrev pub IsFirstWrong : ℕ → VolumeState → ℕ → Type 0
IsFirstWrong key_length v n = IsKind v 2 n × (IsRightIndexBlock key_length v n → ⊥) × ((m : ℕ) → m < n → IsKind v 2 m → IsRightIndexBlock key_length v m)

-- what is named as a block, 0 for none: as the top block, and as the next one of each block
abbrev pub names_of : ℕ → List ChainedBlock → List ℕ
names_of top blocks = top ∷ map (λ b. b.next) blocks

-- The table of a volume's index blocks, each of which is right by itself and named at most once, and the top block.
pub record IsChainable (key_length : ℕ) (v : VolumeState) (blocks : List ChainedBlock) (top : ℕ) : Type 0 where
  pub table : AreIndexBlocks v blocks
  pub top_is : top ≡ (header_of v.image).top
  pub right : IsIndexRight key_length v
  pub once : AreNamedOnce v

-- Index blocks one behind the other, from one number to another.
abbrev pub IsPath : VolumeState → ℕ → List ℕ → ℕ → Type 0
IsPath v start [] end = start ≡ end
IsPath v start (n ∷ blocks) end = (start ≡ n) × IsKind v 2 n × IsPath v (number_at 4 (block_at v n) 8) blocks end

-- Just the blocks of a path from the top block are marked.
pub record AreMarks (blocks : List ChainedBlock) (chain : List ℕ) (marks : List Bool) : Type 0 where
  pub passed : (i : ℕ) → i < length blocks → mark_at marks i ≡ true → IsAmong (index_block_at blocks i).number chain
  pub marked : (i : ℕ) → i < length blocks → IsAmong (index_block_at blocks i).number chain → mark_at marks i ≡ true

-- The chain from the top block was walked to its end.
pub record IsWalked (v : VolumeState) (top : ℕ) (blocks : List ChainedBlock) (chain : List ℕ) (marks : List Bool) : Type 0 where
  pub path : IsPath v top chain 0
  pub short : length chain ≤ length blocks
  pub are_marks : AreMarks blocks chain marks

-- the numbers ascend, and all are above one
abbrev pub NumbersAscend : ℕ → List ℕ → Type 0
NumbersAscend n [] = Unit {0}
NumbersAscend n (m ∷ ms) = (n < m) × NumbersAscend m ms

-- These are the blocks that bear the entries of an index, in order of their numbers.
pub record IsSequence (key_length : ℕ) (v : VolumeState) (numbers : List ℕ) : Type 0 where
  pub ascend : NumbersAscend 0 numbers
  pub there : (n : ℕ) → IsAmong n numbers → IsAmong n (sequence_blocks key_length v)
  pub all : (n : ℕ) → IsAmong n (sequence_blocks key_length v) → IsAmong n numbers
  pub bear : (n : ℕ) → IsAmong n numbers → IsEntryBlock key_length v n

-- These are the addresses of the entries of an index.
pub record AreNamed (key_length : ℕ) (v : VolumeState) (named : List ℕ) : Type 0 where
  pub there : (a : ℕ) → IsAmong a named → list_any (λ e. e.address == a) (index_entries key_length v) ≡ true
  pub all : (a : ℕ) → list_any (λ e. e.address == a) (index_entries key_length v) ≡ true → IsAmong a named

-- the roots at these places are among these addresses
abbrev pub AreRootsAmong : List Place → List ℕ → Type 0
AreRootsAmong places named = (p : Place) → IsPlaceOf p places → p.code ≡ 1 → IsAmong p.address named

-- The root at an address is none of these, and those before it are.
pub record IsFirstUnnamed (places : List Place) (named : List ℕ) (a : ℕ) : Type 0 where
  pub place : IsPlaceOf (record { address = a; code = 1 }) places
  pub unnamed : IsAmong a named → ⊥
  pub before : (p : Place) → IsPlaceOf p places → p.code ≡ 1 → p.address < a → IsAmong p.address named

-- the fact holds if these are the index blocks of a volume, and their forms
abbrev pub IfTabled : VolumeState → List ChainedBlock → List Form → Type 0 → Type 0
IfTabled v blocks forms fact = AreIndexBlocks v blocks → AreForms v blocks forms → fact

-- the fact holds if these are the header's top and height
abbrev pub IfHeaded : VolumeState → ℕ → ℕ → Type 0 → Type 0
IfHeaded v top height fact = top ≡ (header_of v.image).top → height ≡ (header_of v.image).height → fact

-- the fact holds if these are the index blocks of a volume, each right by itself, and this is the top block
abbrev pub IfRightByBlock : Database → VolumeState → List ChainedBlock → ℕ → Type 0 → Type 0
IfRightByBlock d v blocks top fact = AreIndexBlocks v blocks → top ≡ (header_of v.image).top → IsIndexRight (root_key_length d.types) v → fact

-- the fact holds of each volume of a database that has these index blocks, each right by itself, with this top block and this size of blocks
abbrev pub OfRightBlocks : List ChainedBlock → ℕ → ℕ → (Database → VolumeState → Type 0) → Type 0
OfRightBlocks blocks top size fact = (d : Database) (v : VolumeState) → IfRightByBlock d v blocks top (IsVolumeOf d v → size ≡ v.size → fact d v)

-- the fact holds of each volume of a database whose segments are at these places, and whose entries have these addresses
abbrev pub OfNamedRoots : List Place → List ℕ → (Database → VolumeState → Type 0) → Type 0
OfNamedRoots places named fact = (d : Database) (v : VolumeState) → ArePlaces d.types v places → AreNamed (root_key_length d.types) v named → fact d v

-- the address in the first of some entries behind another whose key is not above the one to its left
abbrev pub address_not_above : Option Entry → List Entry → Option ℕ
address_not_above left es = option_map (λ e. e.address) (first_not_above left es)

-- all entries of block n name roots of their keys
abbrev pub AllNameRoots : Database → VolumeState → ℕ → Type 0
AllNameRoots d v n = list_all (λ e. names_a_root d (links_of d.types v) e) (entries_in (root_key_length d.types) (block_at v n)) ≡ true

-- the address in the first entry of block n that names no root of its key
abbrev pub first_wrong_in : Database → VolumeState → ℕ → Option ℕ
first_wrong_in d v n = option_map (λ e. e.address) (find (λ e. not (names_a_root d (links_of d.types v) e)) (entries_in (root_key_length d.types) (block_at v n)))

-- an entry names each root
abbrev pub AllRootsNamed : Database → VolumeState → Type 0
AllRootsNamed d v =
    (a : ℕ) → IsSegment (links_of d.types v) a → (links_of d.types v).code a ≡ 1 → list_any (λ e. e.address == a) (index_entries (root_key_length d.types) v) ≡ true

-- the fact holds if this is the block of its number, and this its form
abbrev pub IfOwnForm : VolumeState → ChainedBlock → Form → Type 0 → Type 0
IfOwnForm v block form fact = block ≡ index_block_of v block.number → form ≡ form_of v block.number → fact

-- the fact holds if so many entries with a database's root keys find room in a block
abbrev pub IfRoom : Database → VolumeState → ℕ → Type 0 → Type 0
IfRoom d v room fact = room ≡ entry_room (root_key_length d.types) v.size → fact

-- the fact holds of each volume of version 1 of a database that has these index blocks and forms, and this top, height and room
abbrev pub OfFormed : List ChainedBlock → List Form → ℕ → ℕ → ℕ → (Database → VolumeState → Type 0) → Type 0
OfFormed blocks forms top height room fact =
    (d : Database) (v : VolumeState) → IsVolumeOf d v → (header_of v.image).version ≡ 1 → IfTabled v blocks forms (IfHeaded v top height (IfRoom d v room (fact d v)))

-- the entry of block n at an index
abbrev pub entry_of : Database → VolumeState → ℕ → ℕ → Entry
entry_of d v n index = entry_in (root_key_length d.types) (block_at v n) index

-- the fact holds of the entries of a block with these bytes, if it counts no more than find room
abbrev pub OfCounted : ℕ → List ℕ → (List Entry → Type 0) → Type 0
OfCounted key_length bytes fact = CountFits key_length bytes → fact (entries_in key_length bytes)

-- the address in the first of some entries that names no root of its key
abbrev pub first_wrong_entry : Database → VolumeState → List Entry → Option ℕ
first_wrong_entry d v es = option_map (λ e. e.address) (find (λ e. not (names_a_root d (links_of d.types v) e)) es)
