-- The streams of the sample, computed by the definitions themselves: an edit of a definition that changes one is refused here.
use Rattle.std.proofs.Common.{◌≡◌, ℕ, List, [], ◌∷◌, ◌++◌, length, Option, Some, None, refl}
use Rattle.std.specs.Prelude.{codes, take, drop, true, false}
use Rattle.hd_dbd.specs.declared.hierarchy.Rule.TheVariants.{Last, Here}
use Rattle.hd_dbd.specs.Types.{SegmentType}
use Rattle.hd_dbd.specs.Segment.{Segment}
use Rattle.hd_dbd.specs.Sample.{front_field, sample_types, sample_database, sample_rows, of_type}
use Rattle.hd_unload.specs.declared.fault.RecordFault.{RecordFault}
use Rattle.hd_unload.specs.declared.fault.RecordFault.TheVariants.{U1, U2, U3, U4, LB, LC, LD, LE}
use Rattle.hd_unload.specs.Streams.{record_bytes, end_bytes, unload_bytes, head_fault, record_fault}

-- the header, the records and the end of the sample's stream, byte for byte
abbrev sample_head : List ℕ
sample_head = 72 ∷ 68 ∷ 85 ∷ 78 ∷ 76 ∷ 79 ∷ 65 ∷ 68 ∷ 0 ∷ 1 ∷ 69 ∷ 68 ∷ 85 ∷ 32 ∷ 32 ∷ 32 ∷ 32 ∷ 32 ∷ []

abbrev sample_records : List ℕ
sample_records =
    (1 ∷ 0 ∷ 8 ∷ codes "101ALGEB") ++ (2 ∷ 0 ∷ 4 ∷ codes "01AB") ++ (3 ∷ 0 ∷ 6 ∷ codes "ADAM01") ++ (3 ∷ 0 ∷ 6 ∷ codes "EVE 02") ++ (2 ∷ 0 ∷ 4 ∷ codes "02CD")
    ++ (4 ∷ 0 ∷ 5 ∷ codes "EULER") ++ (1 ∷ 0 ∷ 8 ∷ codes "205LOGIC")

pub sample_stream : unload_bytes sample_database sample_rows ≡ sample_head ++ sample_records ++ (0 ∷ 0 ∷ 0 ∷ 0 ∷ 7 ∷ [])
sample_stream = refl

pub sample_length : length (unload_bytes sample_database sample_rows) ≡ 85
sample_length = refl

-- the stream without records
pub empty_stream : (unload_bytes sample_database [] ≡ sample_head ++ (0 ∷ 0 ∷ 0 ∷ 0 ∷ 0 ∷ [])) × (length (unload_bytes sample_database []) ≡ 23)
empty_stream = (refl, refl)

-- ---- refusals

-- what is wrong with the header of some bytes, and with the next record behind some rows
abbrev header : List ℕ → Option RecordFault
header bytes = head_fault sample_database bytes

abbrev next : List Segment → List ℕ → Option RecordFault
next rows bytes = record_fault sample_types rows bytes

pub headers : (header (take 17 sample_head) ≡ Some U2) × (header (codes "HDUNLOAX" ++ drop 8 sample_head) ≡ Some U1) × (header sample_head ≡ None)
headers = (refl, refl, refl)

-- the stream of the sample, cut to 25 bytes, ends in its first record
pub cut_stream : next [] (drop 18 (take 25 (unload_bytes sample_database sample_rows))) ≡ Some U2
cut_stream = refl

pub no_end : next sample_rows [] ≡ Some U2
no_end = refl

-- ends: too short, of another number, with a byte behind it, and right
pub ends : (next sample_rows (0 ∷ 0 ∷ 0 ∷ 0 ∷ []) ≡ Some U2) × (next sample_rows (0 ∷ 0 ∷ 0 ∷ 0 ∷ 8 ∷ []) ≡ Some U4) × (next sample_rows (0 ∷ 0 ∷ 0 ∷ 0 ∷ 7 ∷ 0 ∷ []) ≡ Some U4) × (next sample_rows (end_bytes 7) ≡ None)
ends = (refl, refl, refl, refl)

-- records: of no type, without a length, of another length, and too short; a wrong length comes before a short one
pub records : (next [] (5 ∷ []) ≡ Some U3) × (next [] (1 ∷ 0 ∷ []) ≡ Some U2) × (next [] (1 ∷ 0 ∷ 9 ∷ []) ≡ Some U4) × (next [] (1 ∷ 0 ∷ 8 ∷ codes "101ALGE") ≡ Some U2)
records = (refl, refl, refl, refl)

-- the same types, but that books have four to nine bytes and say in their first two how many
abbrev varying_types : List SegmentType
varying_types =
    record { name = codes "COURSE  "; parent = None; length = 8; least = None; key = Some (record { start = 1; length = 3; unique = true }); rule = Last; backward = true; last_pointer = false; fields = front_field (codes "NUM     ") 3 ∷ [] }
    ∷ record { name = codes "CLASS   "; parent = Some 1; length = 4; least = None; key = Some (record { start = 1; length = 2; unique = true }); rule = Last; backward = true; last_pointer = true; fields = front_field (codes "ED      ") 2 ∷ [] }
    ∷ record { name = codes "STUD    "; parent = Some 2; length = 6; least = None; key = Some (record { start = 1; length = 4; unique = false }); rule = Last; backward = false; last_pointer = false; fields = front_field (codes "SNAME   ") 4 ∷ [] }
    ∷ record { name = codes "BOOK    "; parent = Some 1; length = 9; least = Some 4; key = None; rule = Here; backward = true; last_pointer = true; fields = [] }
    ∷ []

-- what is wrong with the record of a book behind a course, by the bytes behind its code
abbrev book : List ℕ → Option RecordFault
book bytes = record_fault varying_types (of_type 1 (codes "101ALGEB") ∷ []) (4 ∷ bytes)

-- books: of a length that the row does not say, of fewer bytes than the least, of more than the most, cut, and right
pub books : (book (0 ∷ 5 ∷ 0 ∷ 6 ∷ codes "ABC") ≡ Some U4) × (book (0 ∷ 3 ∷ 0 ∷ 3 ∷ codes "A") ≡ Some U4) × (book (0 ∷ 10 ∷ 0 ∷ 10 ∷ codes "ABCDEFGH") ≡ Some U4)
    × (book (0 ∷ 5 ∷ 0 ∷ 5 ∷ codes "A") ≡ Some U2) × (book (0 ∷ 5 ∷ 0 ∷ 5 ∷ codes "ABC") ≡ None)
books = (refl, refl, refl, refl, refl)

-- a spelling comes before a load: a student without a class is truncated before it is out of place
pub orders : (next [] (3 ∷ 0 ∷ 6 ∷ []) ≡ Some U2) × (next [] (record_bytes (of_type 3 (codes "ADAM01"))) ≡ Some LD)
orders = (refl, refl)

-- loads
pub loads : (next (of_type 1 (codes "205LOGIC") ∷ []) (record_bytes (of_type 1 (codes "101ALGEB"))) ≡ Some LC)
    × (next (of_type 1 (codes "101ALGEB") ∷ []) (record_bytes (of_type 1 (codes "101ALGEB"))) ≡ Some LB)
    × (next (of_type 1 (codes "101ALGEB") ∷ of_type 4 (codes "EULER") ∷ []) (record_bytes (of_type 2 (codes "01AB"))) ≡ Some LE)
    × (next [] (record_bytes (of_type 1 (codes "101ALGEB"))) ≡ None)
loads = (refl, refl, refl, refl)
