-- Laws of the unload stream.
use Rattle.std.specs.Prelude.{◌≡◌, ℕ, List, length}
use Rattle.hd_dbd.specs.Hierarchy.{Database}
use Rattle.hd_dbd.specs.Segment.{Segment}
use Rattle.hd_volume.specs.Volumes.{VolumeState}
use Rattle.hd_image.specs.Laws.{IsDatabase}
use Rattle.hd_image.specs.Holding.{HoldsRows}
use Rattle.hd_unload.specs.declared.fault.RecordFault.{RecordFault}
use Rattle.hd_unload.specs.Streams.{unload_bytes, IsStreamOf, IsRefusedAt}

-- A stream of a database spells one list of rows.
abbrev pub StreamsSpellOneList : Type 0
StreamsSpellOneList =
    (d : Database) (stream : List ℕ) (rows others : List Segment) → IsDatabase d → IsStreamOf d stream rows → IsStreamOf d stream others → others ≡ rows

-- Of a stream that spells rows no record is refused; a database's name has eight bytes, blanks among them.
abbrev pub StreamsAreNotRefused : Type 0
StreamsAreNotRefused =
    (d : Database) (stream : List ℕ) (rows : List Segment) → IsDatabase d → length d.name ≡ 8 → IsStreamOf d stream rows → (n : ℕ) (fault : RecordFault) → IsRefusedAt d stream n fault → ⊥

-- The rows that a volume holds have a stream, so what is unloaded can be reloaded.
abbrev pub HeldRowsHaveAStream : Type 0
HeldRowsHaveAStream = (d : Database) (v : VolumeState) (rows : List Segment) → HoldsRows d v rows → IsStreamOf d (unload_bytes d rows) rows
