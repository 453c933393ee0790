-- The unload stream: how rows are spelled, and what is wrong with bytes that spell none.
use Rattle.std.specs.Prelude.{◌≡◌, ◌⊎◌, ℕ, ◌+◌, ◌-◌, ◌<◌, ◌^◌, List, [], ◌∷◌, ◌++◌, length, take, drop, codes, true, not, ◌&&◌, ◌==◌, nat_lt, nat_le, bytes_eq, cond, Option, Some, None, option_map}
use Rattle.std.specs.Option.{option_map_or, option_or}
use Rattle.std.specs.Int.{w16, w32, to_be_bytes, from_be_bytes}
use Rattle.hd_dbd.specs.declared.answer.LoadFault.{LoadFault}
use Rattle.hd_dbd.specs.declared.answer.LoadFault.TheVariants as load
use Rattle.hd_dbd.specs.Types.{SegmentType}
use Rattle.hd_dbd.specs.Hierarchy.{Database, type_of}
use Rattle.hd_dbd.specs.Segment.{Segment}
use Rattle.hd_dbd.specs.Rows.{valid, row_fits}
use Rattle.hd_dbd.specs.Loads.{last_path, load_fault}
use Rattle.hd_unload.specs.declared.fault.RecordFault.{RecordFault}
use Rattle.hd_unload.specs.declared.fault.RecordFault.TheVariants.{U1, U2, U3, U4, LB, LC, LD, LE}
use Rattle.hd_prefix.specs.Fields.{code_of, bytes_of, IsWhole as IsWholeOf}
use Rattle.hd_dbd.specs.Lengths.{least_length, length_fits}
use Rattle.std.specs.Io.KnownBytes.{Appends}
use Rattle.hd_links.specs.Links.{Links, segment_at}

-- ---- spelling

-- the 18 bytes of the header: the mark, version 1 and the database's name
abbrev pub head_bytes : Database → List ℕ
head_bytes d = codes "HDUNLOAD" ++ to_be_bytes w16 1 ++ d.name

-- a record: the row's code, its length, and its bytes
abbrev pub record_bytes : Segment → List ℕ
record_bytes r = r.code ∷ to_be_bytes w16 (length r.bytes) ++ r.bytes

abbrev pub records_bytes : List Segment → List ℕ
records_bytes [] = []
records_bytes (r ∷ rows) = record_bytes r ++ records_bytes rows

-- the end: code 0, and the number of records
abbrev pub end_bytes : ℕ → List ℕ
end_bytes count = 0 ∷ to_be_bytes w32 count

-- the unload stream of rows
abbrev pub unload_bytes : Database → List Segment → List ℕ
unload_bytes d rows = head_bytes d ++ records_bytes rows ++ end_bytes (length rows)

-- The bytes are the unload stream of these rows.
pub record IsStreamOf (d : Database) (stream : List ℕ) (rows : List Segment) : Type 0 where
  pub spelled : stream ≡ unload_bytes d rows
  pub valid : valid d.types rows ≡ true
  pub few : length rows < 2 ^ 32

-- ---- what is wrong

-- with the header: fewer than 18 bytes, or others
abbrev pub head_fault : Database → List ℕ → Option RecordFault
head_fault d stream = cond (nat_lt (length stream) 18) (Some U2) (cond (bytes_eq (take 18 stream) (head_bytes d)) None (Some U1))

-- with the end of so many records, by the bytes behind its code
abbrev pub end_fault : ℕ → List ℕ → Option RecordFault
end_fault count rest = cond (nat_lt (length rest) 4) (Some U2) (cond (length rest == 4 && from_be_bytes w32 rest == count) None (Some U4))

-- how many bytes a record says that its row has, in those behind its code
abbrev pub length_said : List ℕ → ℕ
length_said rest = from_be_bytes w16 rest

-- the bytes of a record's row, by those behind its code
abbrev pub row_bytes : List ℕ → List ℕ
row_bytes rest = take (length_said rest) (drop 2 rest)

-- with the spelling of a record of a type, by the bytes behind its code: a length that the type may not have, and behind all of its bytes
-- one that its row does not say itself
abbrev pub spelling_fault : SegmentType → List ℕ → Option RecordFault
spelling_fault t rest =
    cond (nat_lt (length rest) 2) (Some U2)
    (cond (not (nat_le (least_length t) (length_said rest) && nat_le (length_said rest) t.length)) (Some U4)
    (cond (nat_lt (length rest - 2) (length_said rest)) (Some U2)
    (cond (length_fits t (row_bytes rest)) None (Some U4))))

-- the row of a record, by its code and the bytes behind it
abbrev pub row_of : ℕ → List ℕ → Segment
row_of code rest = record { code = code; bytes = row_bytes rest }

-- the fault of a record whose row may not be loaded
abbrev pub refusal_of : LoadFault → RecordFault
refusal_of load.LB = LB
refusal_of load.LC = LC
refusal_of load.LD = LD
refusal_of load.LE = LE

-- with the record that begins some bytes, behind these rows: its spelling comes before its load
abbrev pub record_fault : List SegmentType → List Segment → List ℕ → Option RecordFault
record_fault types rows [] = Some U2
record_fault types rows (code ∷ rest) =
    cond (code == 0) (end_fault (length rows) rest)
    (option_map_or (λ t. option_or (spelling_fault t rest) (option_map refusal_of (load_fault types (last_path types rows) (row_of code rest))))
    (type_of types code) (Some U3))

-- Behind the header the bytes spell these rows, and then others follow.
pub record Spells (d : Database) (stream : List ℕ) (rows : List Segment) (rest : List ℕ) : Type 0 where
  pub is : stream ≡ head_bytes d ++ records_bytes rows ++ rest
  pub valid : valid d.types rows ≡ true

-- The stream is refused at a record: at its header, 0, or at the first with a fault.
abbrev pub IsRefusedAt : Database → List ℕ → ℕ → RecordFault → Type 0
IsRefusedAt d stream n fault =
    ((n ≡ 0) × (head_fault d stream ≡ Some fault))
    ⊎ ((rows : List Segment) × (rest : List ℕ) × Spells d stream rows rest × (n ≡ length rows + 1) × (record_fault d.types rows rest ≡ Some fault))

-- ---- a record that is read

-- A record's row has a length that its type allows, and the text begins with the record's bytes.
abbrev pub IsRecordRead : List SegmentType → List ℕ → Segment → List ℕ → Type 0
IsRecordRead types text row rest = (row_fits types row ≡ true) × (text ≡ record_bytes row ++ rest)

-- Behind whatever rows, the fault of the record is that of loading its row.
abbrev pub HasLoadFault : List SegmentType → List ℕ → Segment → Type 0
HasLoadFault types text row =
    (rows : List Segment) → record_fault types rows text ≡ option_map refusal_of (load_fault types (last_path types rows) row)

-- the row of a stored segment
abbrev pub stored_row : List SegmentType → List ℕ → Segment
stored_row types segment = record { code = code_of segment; bytes = bytes_of types (code_of segment) segment }

-- a stored segment has its prefix and its own bytes
abbrev pub IsWhole : List SegmentType → List ℕ → Type 0
IsWhole types segment = IsWholeOf types (code_of segment) segment

-- the record of the segment at an address was written
abbrev pub WritesRecord : Links → ℕ → Option (List ℕ) → Option (List ℕ) → Type 0
WritesRecord m address old new = Appends old new (record_bytes (segment_at m address))

-- the records of these rows were written, and they are so many
abbrev pub WritesRecords : List Segment → Option (List ℕ) → Option (List ℕ) → ℕ → Type 0
WritesRecords rows old new count = (count ≡ length rows) × Appends old new (records_bytes rows)
