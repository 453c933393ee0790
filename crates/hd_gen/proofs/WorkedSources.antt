-- Worked sources, computed by the definitions themselves: an edit of a definition that changes what a source says is
-- refused here.
use Rattle.std.proofs.Common.{◌≡◌, ℕ, List, [], ◌∷◌, ◌++◌, refl}
use Rattle.std.specs.Prelude.{codes, Some, Result, Ok, Err}
use Rattle.hd_dbd.specs.declared.database.DbdFault.TheVariants.{B5, B6, B10}
use Rattle.hd_dbd.specs.declared.hierarchy.DataType.{DataType}
use Rattle.hd_dbd.specs.declared.hierarchy.DataType.TheVariants.{Character, Hexadecimal, Packed, Fullword, Halfword}
use Rattle.hd_dbd.specs.declared.program.PsbFault.TheVariants.{P1, P4}
use Rattle.hd_dbd.specs.Hierarchy.{Database}
use Rattle.hd_dbd.specs.ProgramRules.{type_names}
use Rattle.hd_dbd.specs.Types.{SegmentType}
use Rattle.hd_dbd.specs.Sample.{sample_types, sample_database, sample_pcbs}
use Rattle.hd_gen.specs.declared.fault.GenFault.{GenFault}
use Rattle.hd_gen.specs.declared.fault.GenFault.TheVariants.{G1, G2, G3, G4, G5, Dbd, Psb}
use Rattle.hd_gen.specs.Sources.{dbd_of, psb_of}

-- the source of the sample database, with its second line, the SEGM statement of its root, that segment's FIELD, and what
-- follows its last SEGM
abbrev source_with : List ℕ → List ℕ → List ℕ → List ℕ → List ℕ
source_with dataset root field end =
    codes "         DBD   NAME=EDU,ACCESS=(HIDAM,VSAM)\n" ++ dataset ++ root
    ++ codes "         LCHILD NAME=(EDUXS,EDUX),POINTER=INDX\n" ++ field
    ++ codes "         SEGM  NAME=CLASS,PARENT=((COURSE,DBLE)),BYTES=4,PTR=TB\n"
    ++ codes "         FIELD NAME=(ED,SEQ,U),BYTES=2,START=1,TYPE=C\n"
    ++ codes "         SEGM  NAME=STUD,PARENT=((CLASS,SNGL)),BYTES=6,PTR=T\n"
    ++ codes "         FIELD NAME=(SNAME,SEQ,M),BYTES=4,START=1,TYPE=C\n"
    ++ codes "         SEGM  NAME=BOOK,PARENT=((COURSE,DBLE)),BYTES=5,PTR=TB,        X\n"
    ++ codes "               RULES=(,HERE)\n" ++ end

abbrev dataset : List ℕ
dataset = codes "         DATASET DD1=EDUDD,DEVICE=3390,SIZE=128\n"

abbrev root : List ℕ
root = codes "         SEGM  NAME=COURSE,PARENT=0,BYTES=8,POINTER=TWINBWD\n"

abbrev field : List ℕ
field = codes "         FIELD NAME=(NUM,SEQ,U),BYTES=3,START=1,TYPE=C\n"

abbrev end : List ℕ
end = codes "         DBDGEN\n         FINISH\n         END\n"

-- the sample
pub sample_source : dbd_of (source_with dataset root field end) ≡ Ok sample_database
sample_source = refl

-- the second part of SIZE is not looked at, a list or not; a third part is not supported
pub size_beside_list : dbd_of (source_with (codes "         DATASET SIZE=(128,(4,(5)))\n") root field end) ≡ Ok sample_database
size_beside_list = refl

pub size_of_three : dbd_of (source_with (codes "         DATASET SIZE=(128,(4),5)\n") root field end) ≡ Err (G3 2)
size_of_three = refl

pub size_in_brackets : dbd_of (source_with (codes "         DATASET SIZE=((128),4)\n") root field end) ≡ Err (G3 2)
size_in_brackets = refl

-- a statement that a DBD source does not have
pub other_statement : dbd_of (source_with dataset root field (codes "         XYZ\n")) ≡ Err (G1 12)
other_statement = refl

-- no DBDGEN
pub no_dbdgen : dbd_of (source_with dataset root field []) ≡ Err (G2 12)
no_dbdgen = refl

-- segments that vary in length: the most bytes stand first, and the key of three bytes lies inside the least
abbrev first_varies : List SegmentType → List SegmentType
first_varies [] = []
first_varies (t ∷ ts) = record { name = t.name; parent = t.parent; length = t.length; least = Some 4; key = t.key; rule = t.rule; backward = t.backward; last_pointer = t.last_pointer; fields = t.fields } ∷ ts

abbrev varying_root : List ℕ → List ℕ
varying_root bytes = codes "         SEGM  NAME=COURSE,PARENT=0,BYTES=" ++ bytes ++ codes ",PTR=TB\n"

pub variable_length :
    dbd_of (source_with dataset (varying_root (codes "(8,4)")) field end)
    ≡ Ok (record { name = sample_database.name; block_size = 128; frspc = sample_database.frspc; types = first_varies sample_types })
variable_length = refl

pub most_below_least : dbd_of (source_with dataset (varying_root (codes "(4,8)")) field end) ≡ Err (Dbd (B5 1))
most_below_least = refl

pub key_beyond_least : dbd_of (source_with dataset (varying_root (codes "(8,2)")) field end) ≡ Err (Dbd (B5 1))
key_beyond_least = refl

-- lengths that are no pair, and a pair without a number
pub pair_of_one : dbd_of (source_with dataset (varying_root (codes "(8)")) field end) ≡ Err (G3 3)
pair_of_one = refl

pub pair_of_three : dbd_of (source_with dataset (varying_root (codes "(8,4,2)")) field end) ≡ Err (G3 3)
pair_of_three = refl

pub pair_of_a_word : dbd_of (source_with dataset (varying_root (codes "(8,X)")) field end) ≡ Err (G4 3)
pair_of_a_word = refl

-- a field does not vary
pub pair_of_a_field : dbd_of (source_with dataset root (codes "         FIELD NAME=(NUM,SEQ,U),BYTES=(3,2),START=1\n") end) ≡ Err (G3 5)
pair_of_a_field = refl

-- what the bytes of a field are, characters where its TYPE is not given; another letter, and brackets, are not supported
abbrev first_field_has : DataType → List SegmentType → List SegmentType
first_field_has k [] = []
first_field_has k (t ∷ ts) = record { name = t.name; parent = t.parent; length = t.length; least = t.least; key = t.key; rule = t.rule; backward = t.backward; last_pointer = t.last_pointer; fields = record { name = codes "NUM     "; start = 1; length = 3; data_type = k } ∷ [] } ∷ ts

abbrev field_of : List ℕ → List ℕ
field_of operand = codes "         FIELD NAME=(NUM,SEQ,U),BYTES=3,START=1" ++ operand ++ codes "\n"

abbrev first_field_in : List ℕ → Result Database GenFault
first_field_in operand = dbd_of (source_with dataset root (field_of operand) end)

abbrev sample_with : DataType → Result Database GenFault
sample_with k = Ok (record { name = sample_database.name; block_size = 128; frspc = sample_database.frspc; types = first_field_has k sample_types })

pub type_not_given : first_field_in [] ≡ Ok sample_database
type_not_given = refl

pub type_c : first_field_in (codes ",TYPE=C") ≡ sample_with Character
type_c = refl

pub type_x : first_field_in (codes ",TYPE=X") ≡ sample_with Hexadecimal
type_x = refl

pub type_p : first_field_in (codes ",TYPE=P") ≡ sample_with Packed
type_p = refl

pub type_f : first_field_in (codes ",TYPE=F") ≡ sample_with Fullword
type_f = refl

pub type_h : first_field_in (codes ",TYPE=H") ≡ sample_with Halfword
type_h = refl

pub type_of_no_bytes : first_field_in (codes ",TYPE=Z") ≡ Err (G3 5)
type_of_no_bytes = refl

pub type_in_brackets : first_field_in (codes ",TYPE=(P)") ≡ Err (G3 5)
type_in_brackets = refl

-- a parent that is no name
pub number_for_parent : dbd_of (source_with dataset (codes "         SEGM  NAME=COURSE,PARENT=1,BYTES=8\n") field end) ≡ Err (G4 3)
number_for_parent = refl

-- an operand that stands twice, under two keywords
pub given_twice : dbd_of (source_with dataset (codes "         SEGM  NAME=COURSE,PTR=T,POINTER=HIER,BYTES=8\n") field end) ≡ Err (G4 3)
given_twice = refl

-- no length
pub no_length : dbd_of (source_with dataset root (codes "         FIELD NAME=(NUM,SEQ,U),START=1,TYPE=C\n") end) ≡ Err (G5 5)
no_length = refl

-- a fault of the database
pub small_block : dbd_of (source_with (codes "         DATASET SIZE=100\n") root field end) ≡ Err (Dbd B10)
small_block = refl

pub root_without_unique_key : dbd_of (source_with dataset root (codes "         FIELD NAME=(NUM,SEQ,M),BYTES=3,START=1\n") end) ≡ Err (Dbd (B6 1))
root_without_unique_key = refl

-- the source of the sample program, with the first line of its PCBs and what the first and the last see
abbrev seen : List ℕ
seen =
    codes "         SENSEG NAME=COURSE,PARENT=0\n" ++ codes "         SENSEG NAME=CLASS,PARENT=COURSE\n"
    ++ codes "         SENSEG NAME=STUD,PARENT=CLASS\n" ++ codes "         SENSEG NAME=BOOK,PARENT=COURSE\n"

abbrev without_students : List ℕ
without_students =
    codes "         SENSEG NAME=COURSE,PARENT=0\n" ++ codes "         SENSEG NAME=CLASS,PARENT=COURSE\n" ++ codes "         SENSEG NAME=BOOK,PARENT=COURSE\n"

abbrev program_of : List ℕ → List ℕ → List ℕ → List ℕ → List ℕ
program_of first sens third last =
    first ++ sens
    ++ codes "         PCB   TYPE=DB,DBDNAME=EDU,PROCOPT=A,KEYLEN=9\n" ++ seen
    ++ third ++ last
    ++ codes "         PSBGEN LANG=COBOL,PSBNAME=EDUP\n         END\n"

abbrev program_with : List ℕ → List ℕ → List ℕ
program_with first sens = program_of first sens (codes "         PCB   TYPE=DB,DBDNAME=EDU,PROCOPT=A,KEYLEN=9\n") without_students

abbrev first_pcb : List ℕ
first_pcb = codes "         PCB   TYPE=DB,DBDNAME=EDU,PROCOPT=AP,KEYLEN=9\n"

pub sample_program : psb_of (program_with first_pcb seen) sample_database ≡ Ok (record { made_for = type_names sample_types; pcbs = sample_pcbs })
sample_program = refl

-- NAME is DBDNAME, and a SENSEG without PARENT has none
pub other_keywords :
    psb_of (program_of first_pcb seen (codes "         PCB   TYPE=DB,NAME=EDU,PROCOPT=A\n")
    (codes "         SENSEG NAME=COURSE\n" ++ codes "         SENSEG NAME=CLASS,PARENT=COURSE\n" ++ codes "         SENSEG NAME=BOOK,PARENT=COURSE\n"))
    sample_database ≡ Ok (record { made_for = type_names sample_types; pcbs = sample_pcbs })
other_keywords = refl

-- the name of another database
pub other_database : psb_of (program_with (codes "         PCB   TYPE=DB,DBDNAME=EDV,PROCOPT=AP\n") seen) sample_database ≡ Err (G4 1)
other_database = refl

-- faults of the program
pub unknown_segment : psb_of (program_with first_pcb (seen ++ codes "         SENSEG NAME=LAB,PARENT=COURSE\n")) sample_database ≡ Err (Psb (P1 1))
unknown_segment = refl

pub paths_alone : psb_of (program_with (codes "         PCB   TYPE=DB,DBDNAME=EDU,PROCOPT=P\n") seen) sample_database ≡ Err (Psb (P4 1))
paths_alone = refl
