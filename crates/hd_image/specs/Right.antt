-- A volume in which nothing is wrong, told phase by phase.
use Rattle.std.specs.Prelude.{◌≡◌, ◌⊎◌, ℕ, ◌<◌, true, ◌==◌}
use Rattle.std.specs.List.{list_all, list_any}
use Rattle.hd_dbd.specs.Hierarchy.{Database}
use Rattle.hd_dbd.specs.Facts.{stored_sizes}
use Rattle.hd_volume.specs.Headers.{Header, HasHeader, header_of}
use Rattle.hd_volume.specs.Volumes.{VolumeState, block_at, IsKind, HasExtents, HasKinds}
use Rattle.hd_volume.specs.Entries.{entry_blocks, entries}
use Rattle.hd_volume.specs.Indexes.{root_key_length, IsChain, IsAmong, keys_ascend}
use Rattle.hd_index_blocks.specs.Chains.{AreLevelsLinked}
use Rattle.hd_index_blocks.specs.IndexSets.{next_in, index_blocks, top_blocks, top_level, index_entries}
use Rattle.hd_index_blocks.specs.Faultless.{AreFormsRight, AreNamedOnce, AreAllReached, AreKeysRight}
use Rattle.hd_links.specs.Links.{IsSegment}
use Rattle.hd_links.specs.Pointers.{AreLinked}
use Rattle.hd_image.specs.Records.{links_of}
use Rattle.hd_image.specs.BlockFaults.{IsKnownVersion}
use Rattle.hd_image.specs.IndexFaults.{ByVersion, names_a_root}

-- the volume was loaded for the database: its blocks and segments have the database's sizes
pub record IsSizedFor (d : Database) (v : VolumeState) : Type 0 where
  pub size : v.size ≡ d.block_size
  pub sizes : v.sizes ≡ stored_sizes d.types

-- The header is of a known version, and of the database's name and block size.
pub record IsKnown (d : Database) (header : Header) : Type 0 where
  pub version_is : IsKnownVersion d.types header.version
  pub name_is : header.name ≡ d.name
  pub size_is : header.block_size ≡ d.block_size

-- The header is one of the database, and of a version that is known; each data block has extents, and each block a kind.
pub record BlocksAreRight (d : Database) (v : VolumeState) : Type 0 where
  pub header : HasHeader d.block_size v.image
  pub known : IsKnown d (header_of v.image)
  pub divided : (n : ℕ) → IsKind v 1 n → HasExtents v.sizes (block_at v n)
  pub kinds : HasKinds v

-- Top and height are both 0, or name a chain of index blocks that ends, and no other block is an index block.
pub record ChainIsFormed (key_length : ℕ) (v : VolumeState) : Type 0 where
  pub height : (((header_of v.image).top ≡ 0) × ((header_of v.image).height ≡ 0)) ⊎ ((0 < (header_of v.image).top) × ((header_of v.image).height ≡ 1))
  pub chain : IsChain key_length v (header_of v.image).top (entry_blocks v)
  pub reached : (n : ℕ) → IsKind v 2 n → IsAmong n (entry_blocks v)

-- Each index block is right by itself, is named once, and is reached from the top.
pub record SetIsFormed (key_length : ℕ) (v : VolumeState) : Type 0 where
  pub forms : AreFormsRight key_length v
  pub once : AreNamedOnce key_length v
  pub reached : AreAllReached key_length v

-- The blocks of the index are right.
abbrev pub IndexIsFormed : ℕ → VolumeState → Type 0
IndexIsFormed key_length v = ByVersion v (ChainIsFormed key_length v) (SetIsFormed key_length v)

-- Each level is a chain from left to right, its keys ascend, and upper keys keep their bounds.
pub record LevelsAreInOrder (key_length : ℕ) (v : VolumeState) : Type 0 where
  pub next : AreLevelsLinked (index_blocks key_length v) (next_in v) (top_level v) (top_blocks v)
  pub keys : AreKeysRight (index_blocks key_length v) (top_level v) (top_blocks v)

-- The keys of the index are in order.
abbrev pub IndexIsInOrder : ℕ → VolumeState → Type 0
IndexIsInOrder key_length v = ByVersion v (keys_ascend (entries key_length v) ≡ true) (LevelsAreInOrder key_length v)

-- The keys of the index are in order, each entry names a root of its key, and each root has one.
pub record EntriesAreRight (d : Database) (v : VolumeState) : Type 0 where
  pub order : IndexIsInOrder (root_key_length d.types) v
  pub name : list_all (λ e. names_a_root d (links_of d.types v) e) (index_entries (root_key_length d.types) v) ≡ true
  pub each : (a : ℕ) → IsSegment (links_of d.types v) a → (links_of d.types v).code a ≡ 1
      → list_any (λ e. e.address == a) (index_entries (root_key_length d.types) v) ≡ true

-- Nothing is wrong with the volume: not with its blocks, its pointers, its index or its entries.
pub record IsRight (d : Database) (v : VolumeState) : Type 0 where
  pub sized : IsSizedFor d v
  pub blocks : BlocksAreRight d v
  pub pointers : AreLinked d.types (links_of d.types v)
  pub index : IndexIsFormed (root_key_length d.types) v
  pub entries : EntriesAreRight d v
