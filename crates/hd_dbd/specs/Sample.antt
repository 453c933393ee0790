-- The sample database of the documents, for worked equations: courses with their classes and books, and the students of
-- each class; a program over it with three PCBs, the last of which sees no students; and its rows.
use Rattle.std.specs.Prelude.{ℕ, List, [], ◌∷◌, true, false, Option, Some, None, codes}
use Rattle.hd_dbd.specs.declared.hierarchy.DataType.TheVariants.{Character}
use Rattle.hd_dbd.specs.declared.hierarchy.Field.{Field}
use Rattle.hd_dbd.specs.declared.hierarchy.Rule.TheVariants.{Last, Here}
use Rattle.hd_dbd.specs.Types.{SegmentType, SeenType, View}
use Rattle.hd_dbd.specs.Hierarchy.{Database}
use Rattle.hd_dbd.specs.Segment.{Segment}

-- a field at the front of a segment
abbrev pub front_field : List ℕ → ℕ → Field
front_field name count = record { name = name; start = 1; length = count; data_type = Character }

-- the segment types
abbrev pub sample_types : List SegmentType
sample_types =
    record { name = codes "COURSE  "; parent = None; length = 8; least = None; key = Some (record { start = 1; length = 3; unique = true }); rule = Last; backward = true; last_pointer = false; fields = front_field (codes "NUM     ") 3 ∷ [] }
    ∷ record { name = codes "CLASS   "; parent = Some 1; length = 4; least = None; key = Some (record { start = 1; length = 2; unique = true }); rule = Last; backward = true; last_pointer = true; fields = front_field (codes "ED      ") 2 ∷ [] }
    ∷ record { name = codes "STUD    "; parent = Some 2; length = 6; least = None; key = Some (record { start = 1; length = 4; unique = false }); rule = Last; backward = false; last_pointer = false; fields = front_field (codes "SNAME   ") 4 ∷ [] }
    ∷ record { name = codes "BOOK    "; parent = Some 1; length = 5; least = None; key = None; rule = Here; backward = true; last_pointer = true; fields = [] }
    ∷ []

-- the database
abbrev pub sample_database : Database
sample_database = record { name = codes "EDU     "; block_size = 128; frspc = record { fbff = 0; fspf = 0 }; types = sample_types }

-- a type that a PCB sees, with no PROCOPT of its own
abbrev pub seen : List ℕ → Option (List ℕ) → SeenType
seen name parent = record { name = name; parent = parent; procopt = None }

-- all types are seen, or all but students
abbrev pub all_seen : List SeenType
all_seen =
    seen (codes "COURSE  ") None ∷ seen (codes "CLASS   ") (Some (codes "COURSE  ")) ∷ seen (codes "STUD    ") (Some (codes "CLASS   "))
    ∷ seen (codes "BOOK    ") (Some (codes "COURSE  ")) ∷ []

abbrev pub all_but_students : List SeenType
all_but_students =
    seen (codes "COURSE  ") None ∷ seen (codes "CLASS   ") (Some (codes "COURSE  ")) ∷ seen (codes "BOOK    ") (Some (codes "COURSE  ")) ∷ []

-- the PCBs
abbrev pub sample_pcbs : List View
sample_pcbs =
    record { procopt = codes "AP"; sens = all_seen } ∷ record { procopt = codes "A"; sens = all_seen }
    ∷ record { procopt = codes "A"; sens = all_but_students } ∷ []

-- a segment of the type of a code
abbrev pub of_type : ℕ → List ℕ → Segment
of_type code bytes = record { code = code; bytes = bytes }

-- the rows, in hierarchic sequence
abbrev pub sample_rows : List Segment
sample_rows =
    of_type 1 (codes "101ALGEB") ∷ of_type 2 (codes "01AB") ∷ of_type 3 (codes "ADAM01") ∷ of_type 3 (codes "EVE 02") ∷ of_type 2 (codes "02CD")
    ∷ of_type 4 (codes "EULER") ∷ of_type 1 (codes "205LOGIC") ∷ []
