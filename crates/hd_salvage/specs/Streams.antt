-- What a salvage writes.
use Rattle.std.specs.Prelude.{◌≡◌, ◌≢◌, ℕ, ◌+◌, ◌/◌, ◌<◌, ◌^◌, ◌++◌, List, length, Bool, true, false, All, slice_index_or, Option, None, Result, Ok, Err}
use Rattle.std.specs.List.{AllPairs}
use Rattle.std.specs.Io.KnownBytes.{Appends}
use Rattle.hd_dbd.specs.Hierarchy.{Database}
use Rattle.hd_dbd.specs.Segment.{Segment}
use Rattle.hd_bytes.specs.Ranges.{bytes_at}
use Rattle.hd_dbd.specs.Rows.{valid, row_fits, next_path}
use Rattle.hd_dbd.specs.Loads.{last_path, load_fault}
use Rattle.hd_links.specs.Placed.{Placed}
use Rattle.hd_links.specs.LastRows.{segments_of}
use Rattle.hd_volume.specs.Volumes.{VolumeState}
use Rattle.hd_image.specs.Laws.{IsDatabase}
use Rattle.hd_unload.specs.Streams.{head_bytes, record_bytes, records_bytes, unload_bytes, stored_row}
use Rattle.hd_dbd.specs.declared.answer.Refused.{Refused}
use Rattle.hd_dbd.specs.declared.answer.Refused.TheVariants as refused
use Rattle.hd_salvage.specs.declared.fault.SalvageFault.{SalvageFault}
use Rattle.hd_salvage.specs.declared.fault.SalvageFault.TheVariants as fault
use Rattle.hd_salvage.specs.declared.record.Record.{Record}
use Rattle.hd_salvage.specs.Records.{IsRecordAt}

-- no two of these stand at one address
abbrev pub StandOnce : List Placed → Type 0
StandOnce placed = AllPairs (λ p q. p.address ≢ q.address) placed

-- The unload stream of a valid list of so many rows was written behind what stood there; each of them is a record of the volume, and none is taken twice.
pub record IsSalvaged (d : Database) (v : VolumeState) (before after : Option (List ℕ)) (segments : ℕ) : Type 0 where
  pub placed : List Placed
  pub valid : valid d.types (segments_of placed) ≡ true
  pub records : All (IsRecordAt d v) placed
  pub once : StandOnce placed
  pub few : length placed < 2 ^ 32
  pub stream : Appends before after (unload_bytes d (segments_of placed))
  pub segments_are : segments ≡ length placed

-- for each eight bytes of a volume it is marked whether a row was taken from there
abbrev pub IsMarked : List Bool → Placed → Type 0
IsMarked marks p = slice_index_or marks (p.address / 8) false ≡ true

-- The head of a stream and the records of a valid list of so many rows were written: this is the path of the last; each is a record of the volume, and
-- none was taken twice, as these marks tell.
pub record IsKeptTo (d : Database) (v : VolumeState) (before now : Option (List ℕ)) (path : List Segment) (marks : List Bool) (count : ℕ) : Type 0 where
  pub placed : List Placed
  pub valid : valid d.types (segments_of placed) ≡ true
  pub records : All (IsRecordAt d v) placed
  pub once : StandOnce placed
  pub marked : All (IsMarked marks) placed
  pub stream : Appends before now (head_bytes d ++ records_bytes (segments_of placed))
  pub last : path ≡ last_path d.types (segments_of placed)
  pub counted : count ≡ length placed

-- A row that may come behind the last of a path was written, and the path is its own now.
pub record WritesRow (d : Database) (path : List Segment) (row : Segment) (before after : Option (List ℕ)) (path_then : List Segment) : Type 0 where
  pub formed : IsDatabase d
  pub fits : row_fits d.types row ≡ true
  pub may : load_fault d.types path row ≡ None
  pub written : Appends before after (record_bytes row)
  pub next : path_then ≡ next_path d.types path row

-- the row of a segment that was noted in a block
abbrev pub row_in : Database → List ℕ → Record → Segment
row_in d block r = stored_row d.types (bytes_at block r.place r.size)

-- Wherever so many rows were written up to a path, so many are now, up to this one.
abbrev pub KeepsOn : Database → VolumeState → Option (List ℕ) → List Segment → List Bool → ℕ → Option (List ℕ) → List Segment → List Bool → ℕ → Type 0
KeepsOn d v now path marks count then path_then marks_then count_then =
    (before : Option (List ℕ)) → IsKeptTo d v before now path marks count → IsKeptTo d v before then path_then marks_then count_then

-- wherever rows were written up to a path, one more is now, up to this one
abbrev pub KeepsOneMore : Database → VolumeState → Option (List ℕ) → List Segment → List Bool → Option (List ℕ) → List Segment → List Bool → Type 0
KeepsOneMore d v now path marks then path_then marks_then = (count : ℕ) → KeepsOn d v now path marks count then path_then marks_then (count + 1)

-- what a result is, as far as the volume's store goes: only Device says that an access of it failed
abbrev pub as_call : {T : Type 0} → Result T SalvageFault → Result T Refused
as_call (Ok x) = Ok x
as_call (Err fault.Memory) = Err refused.Memory
as_call (Err fault.Device) = Err refused.Device
as_call (Err fault.Write) = Err refused.Full
as_call (Err fault.Changed) = Err refused.Full
