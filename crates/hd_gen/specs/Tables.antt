-- The statements of DBD and PSB sources, their order, and their operands.
use Rattle.std.specs.Prelude.{ℕ, List, [], ◌∷◌, Bool, true, false, cond, Option, Some, None, option_map, find, bytes_eq, codes}
use Rattle.hd_dbd.specs.declared.hierarchy.DataType.{DataType}
use Rattle.hd_dbd.specs.declared.hierarchy.DataType.TheVariants as types
use Rattle.hd_dbd.specs.declared.hierarchy.Rule.{Rule}
use Rattle.hd_dbd.specs.declared.hierarchy.Rule.TheVariants.{First, Last, Here}
use Rattle.hd_gen.specs.declared.table.Operation.{Operation}
use Rattle.hd_gen.specs.declared.table.Operation.TheVariants as operations
use Rattle.hd_gen.specs.declared.table.Stage.{Stage}
use Rattle.hd_gen.specs.declared.table.Stage.TheVariants as stages
use Rattle.hd_gen.specs.declared.table.Meaning.{Meaning}
use Rattle.hd_gen.specs.declared.table.Meaning.TheVariants as meanings

-- A word, and what it means.
pub record Entry (A : Type 0) : Type 0 where
  pub word : List ℕ
  pub means : A

abbrev pub entry : {A : Type 0} → List ℕ → A → Entry A
entry word means = record { word = word; means = means }

-- what a word means, if it is in the list
abbrev pub look_up : {A : Type 0} → List (Entry A) → List ℕ → Option A
look_up entries word = option_map (λ e. e.means) (find (λ e. bytes_eq e.word word) entries)

-- ---- statements and their order

-- the statements of a DBD source
abbrev pub dbd_operations : List (Entry Operation)
dbd_operations =
    entry (codes "DBD") operations.Dbd ∷ entry (codes "DATASET") operations.Dataset ∷ entry (codes "SEGM") operations.Segm
    ∷ entry (codes "FIELD") operations.Field ∷ entry (codes "LCHILD") operations.Lchild ∷ entry (codes "DBDGEN") operations.Dbdgen
    ∷ entry (codes "FINISH") operations.Finish ∷ entry (codes "END") operations.End ∷ []

-- the statements of a PSB source
abbrev pub psb_operations : List (Entry Operation)
psb_operations =
    entry (codes "PCB") operations.Pcb ∷ entry (codes "SENSEG") operations.Senseg ∷ entry (codes "PSBGEN") operations.Psbgen
    ∷ entry (codes "END") operations.End ∷ []

-- How far a source is read, behind a statement, if it may stand there. DBD; at most one DATASET; one or more SEGM, each with
-- its FIELDs and LCHILDs behind it (an LCHILD below the root is not supported, which is judged next); DBDGEN; then FINISH and
-- END, if they stand there. One or more PCB, each with its SENSEGs behind it; PSBGEN; then END, if it stands there.
abbrev pub next_stage : Stage → Operation → Option Stage
next_stage stages.Start operations.Dbd = Some stages.Named
next_stage stages.Start operations.Pcb = Some stages.Pcbs
next_stage stages.Named operations.Dataset = Some stages.Sized
next_stage stages.Named operations.Segm = Some stages.Types
next_stage stages.Sized operations.Segm = Some stages.Types
next_stage stages.Types operations.Segm = Some stages.Types
next_stage stages.Types operations.Field = Some stages.Types
next_stage stages.Types operations.Lchild = Some stages.Types
next_stage stages.Types operations.Dbdgen = Some stages.Generated
next_stage stages.Pcbs operations.Pcb = Some stages.Pcbs
next_stage stages.Pcbs operations.Senseg = Some stages.Pcbs
next_stage stages.Pcbs operations.Psbgen = Some stages.Generated
next_stage stages.Generated operations.Finish = Some stages.Finished
next_stage stages.Generated operations.End = Some stages.Ended
next_stage stages.Finished operations.End = Some stages.Ended
next_stage stage operation = None

-- a source may end here: its DBDGEN or PSBGEN has come
abbrev pub is_complete : Stage → Bool
is_complete stages.Generated = true
is_complete stages.Finished = true
is_complete stages.Ended = true
is_complete stage = false

-- ---- operands

-- the operands of a statement; an operand with two keywords stands under each of them
abbrev pub operands_of : Operation → List (Entry Meaning)
operands_of operations.Dbd =
    entry (codes "NAME") meanings.Name ∷ entry (codes "ACCESS") meanings.Access ∷ entry (codes "PASSWD") meanings.NotUsed ∷ []
operands_of operations.Dataset =
    entry (codes "SIZE") meanings.BlockSize ∷ entry (codes "FRSPC") meanings.FreeSpace ∷ entry (codes "DD1") meanings.NotUsed
    ∷ entry (codes "DEVICE") meanings.NotUsed ∷ entry (codes "SCAN") meanings.NotUsed ∷ entry (codes "MODEL") meanings.NotUsed ∷ []
operands_of operations.Segm =
    entry (codes "NAME") meanings.Name ∷ entry (codes "PARENT") meanings.Parent ∷ entry (codes "BYTES") meanings.SegmentBytes
    ∷ entry (codes "POINTER") meanings.Twins ∷ entry (codes "PTR") meanings.Twins ∷ entry (codes "RULES") meanings.Rules
    ∷ entry (codes "FREQ") meanings.NotUsed ∷ []
operands_of operations.Field =
    entry (codes "NAME") meanings.FieldName ∷ entry (codes "BYTES") meanings.Length ∷ entry (codes "START") meanings.Start
    ∷ entry (codes "TYPE") meanings.DataType ∷ []
operands_of operations.Lchild =
    entry (codes "NAME") meanings.IndexSegment ∷ entry (codes "POINTER") meanings.IndexPointer ∷ entry (codes "PTR") meanings.IndexPointer ∷ []
operands_of operations.Dbdgen = []
operands_of operations.Finish = []
operands_of operations.Pcb =
    entry (codes "TYPE") meanings.DatabaseType ∷ entry (codes "DBDNAME") meanings.DatabaseName ∷ entry (codes "NAME") meanings.DatabaseName
    ∷ entry (codes "PROCOPT") meanings.Procopt ∷ entry (codes "POS") meanings.Positioning ∷ entry (codes "KEYLEN") meanings.NotUsed
    ∷ entry (codes "PCBNAME") meanings.NotUsed ∷ []
operands_of operations.Senseg =
    entry (codes "NAME") meanings.Name ∷ entry (codes "PARENT") meanings.SeenParent ∷ entry (codes "PROCOPT") meanings.Procopt ∷ []
operands_of operations.Psbgen =
    entry (codes "LANG") meanings.NotUsed ∷ entry (codes "PSBNAME") meanings.NotUsed ∷ entry (codes "CMPAT") meanings.NotUsed
    ∷ entry (codes "IOASIZE") meanings.NotUsed ∷ entry (codes "SSASIZE") meanings.NotUsed ∷ []
operands_of operations.End = []

-- of two keywords for one operand the one that stands for both: PTR is POINTER, and NAME of a PCB is DBDNAME
abbrev pub main_keyword : Operation → List ℕ → List ℕ
main_keyword operations.Pcb word = cond (bytes_eq word (codes "NAME")) (codes "DBDNAME") word
main_keyword operation word = cond (bytes_eq word (codes "PTR")) (codes "POINTER") word

-- ---- values of operands

-- POINTER: whether twin backward is kept
abbrev pub twins : List (Entry Bool)
twins = entry (codes "TWIN") false ∷ entry (codes "T") false ∷ entry (codes "TWINBWD") true ∷ entry (codes "TB") true ∷ []

-- on the root NOTWIN may stand too
abbrev pub twin_pointers : Bool → List (Entry Bool)
twin_pointers is_root = cond is_root (entry (codes "NOTWIN") false ∷ entry (codes "NT") false ∷ twins) twins

-- PARENT: whether last child is kept
abbrev pub child_pointers : List (Entry Bool)
child_pointers = entry (codes "SNGL") false ∷ entry (codes "DBLE") true ∷ []

-- RULES: where a new twin goes
abbrev pub twin_rules : List (Entry Rule)
twin_rules = entry (codes "FIRST") First ∷ entry (codes "LAST") Last ∷ entry (codes "HERE") Here ∷ []

-- NAME of a FIELD: whether a sequence field is unique
abbrev pub sequence_fields : List (Entry Bool)
sequence_fields = entry (codes "U") true ∷ entry (codes "M") false ∷ []

-- TYPE of a FIELD: what its bytes are
abbrev pub data_types : List (Entry DataType)
data_types =
    entry (codes "C") types.Character ∷ entry (codes "X") types.Hexadecimal ∷ entry (codes "P") types.Packed
    ∷ entry (codes "F") types.Fullword ∷ entry (codes "H") types.Halfword ∷ []

-- the words that may stand behind HIDAM in ACCESS, and for POS
abbrev pub access_methods : List (List ℕ)
access_methods = codes "VSAM" ∷ codes "OSAM" ∷ []

abbrev pub positionings : List (List ℕ)
positionings = codes "S" ∷ codes "SINGLE" ∷ []

-- the bytes of a block where SIZE is not given
abbrev pub usual_block_size : ℕ
usual_block_size = 2048
