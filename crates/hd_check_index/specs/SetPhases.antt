-- What the phases of a check find of an index set.
use Rattle.std.specs.Prelude.{◌≢◌, ℕ, List, length}
use Rattle.hd_dbd.specs.Hierarchy.{Database}
use Rattle.hd_volume.specs.Headers.{header_of}
use Rattle.hd_volume.specs.Volumes.{VolumeState}
use Rattle.hd_volume.specs.Indexes.{root_key_length}
use Rattle.hd_index_blocks.specs.Faultless.{AreFormsRight}
use Rattle.hd_index_blocks.specs.Levels.{IndexBlocks}
use Rattle.hd_image.specs.Records.{IsVolumeOf}
use Rattle.hd_image.specs.declared.line.Line.{Line}
use Rattle.hd_check_blocks.specs.declared.fault.Fault.{Fault}
use Rattle.hd_check_blocks.specs.Listing.{IsListed}
use Rattle.hd_check_index.specs.declared.table.NotedBlock.{NotedBlock}
use Rattle.hd_check_index.specs.declared.rows.Standing.{Standing}
use Rattle.hd_check_index.specs.Tables.{AreIndexBlocks}
use Rattle.hd_check_index.specs.Rows.{AreRows}
use Rattle.hd_check_index.specs.NamedBlocks.{names_of}
use Rattle.hd_check_index.specs.EntryOrders.{IsWrongUpTo}
use Rattle.hd_check_index.specs.Listed.{AtAddress, AreOrdersListed}

-- the fact holds of each volume of a database that has an index set of these blocks
abbrev pub OfIndexSet : List NotedBlock → (Database → VolumeState → Type 0) → Type 0
OfIndexSet blocks fact = (d : Database) (v : VolumeState) → IsVolumeOf d v → (header_of v.image).version ≢ 1 → AreIndexBlocks v blocks → fact d v

-- the fact holds of each volume of a database that has an index set of these blocks, each of which is right by itself
abbrev pub OfFormedSet : List NotedBlock → (Database → VolumeState → Type 0) → Type 0
OfFormedSet blocks fact = OfIndexSet blocks (λ d v. AreFormsRight (root_key_length d.types) v → fact d v)

-- the fact holds of the rows of a volume's index set
abbrev pub OfItsRows : Database → VolumeState → (List Standing → Type 0) → Type 0
OfItsRows d v fact = (rows : List Standing) → AreRows (root_key_length d.types) v rows → fact rows

-- all blocks that a volume's index set of these blocks names, 0 for none
abbrev pub set_names : Database → VolumeState → List NotedBlock → List ℕ
set_names d v blocks = names_of (root_key_length d.types) v (header_of v.image).top blocks

-- a fault of the line is listed at each address at which something stands
abbrev pub AllListed : Line → (ℕ → ℕ → Type 0) → List Fault → Type 0
AllListed line stands faults = (address other : ℕ) → stands address other → IsListed line address faults

-- behind some faults the entries out of order of a row are listed, the first of each block
abbrev pub IsRowListed : ℕ → IndexBlocks → ℕ → List ℕ → List Fault → List Fault → Type 0
IsRowListed size c level ns old new = AreOrdersListed (AtAddress size (IsWrongUpTo c level ns (length ns))) old new
