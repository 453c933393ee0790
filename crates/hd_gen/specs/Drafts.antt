-- What a source says so far, statement by statement.
use Rattle.std.specs.Prelude.{ℕ, ◌+◌, List, [], ◌∷◌, ◌++◌, take, Bool, true, false, ◌&&◌, Option, Some, None, option_map, position, Result, Ok, Err, bytes_eq}
use Rattle.std.specs.Option.{option_map_or, option_or, unwrap_or}
use Rattle.hd_dbd.specs.declared.hierarchy.DataType.TheVariants.{Character}
use Rattle.hd_dbd.specs.declared.hierarchy.FreeSpace.{FreeSpace}
use Rattle.hd_dbd.specs.declared.hierarchy.Key.{Key}
use Rattle.hd_dbd.specs.Types.{SegmentType, View}
use Rattle.hd_gen.specs.declared.fault.GenFault.{GenFault}
use Rattle.hd_gen.specs.declared.fault.GenFault.TheVariants.{G5}
use Rattle.hd_gen.specs.declared.table.Operation.{Operation}
use Rattle.hd_gen.specs.declared.table.Operation.TheVariants as operations
use Rattle.hd_gen.specs.Tables.{usual_block_size}
use Rattle.hd_gen.specs.Operands.{Given}

-- The database's name, once it is known, its block size and free space, and its types; or a program's PCBs. A DBD's draft has
-- no PCBs, and a PSB's has nothing else.
pub record Draft : Type 0 where
  pub name : Option (List ℕ)
  pub block_size : ℕ
  pub frspc : FreeSpace
  pub types : List SegmentType
  pub pcbs : List View

abbrev pub empty_draft : Draft
empty_draft = record { name = None; block_size = usual_block_size; frspc = record { fbff = 0; fspf = 0 }; types = []; pcbs = [] }

-- The code of the first type of a name, 0 where there is none, which no database lets stand as a parent's. Codes end at 255,
-- and no database has more types.
abbrev pub code_of : List SegmentType → List ℕ → ℕ
code_of types name = option_map_or (λ i. i + 1) (position (λ t. bytes_eq t.name name) (take 255 types)) 0

-- a list with its last element changed
abbrev pub with_last : {A : Type 0} → (A → A) → List A → List A
with_last change [] = []
with_last change (x ∷ []) = change x ∷ []
with_last change (x ∷ y ∷ ys) = x ∷ with_last change (y ∷ ys)

-- ---- one statement

-- the type of a SEGM behind other types
abbrev pub segment_type : List SegmentType → Given → List ℕ → ℕ → SegmentType
segment_type types g name len =
    record {
      name = name;
      parent = option_map (λ p. code_of types p) g.parent.name;
      length = len;
      least = g.least;
      key = None;
      rule = g.rule;
      backward = g.backward;
      last_pointer = g.parent.last_pointer;
      fields = [];
    }

-- the key that a sequence field makes
abbrev pub key_given : Given → ℕ → ℕ → Option Key
key_given g start len = option_map (λ u. record { start = start; length = len; unique = u }) g.unique

-- a type with one field more, which may be its key; without TYPE its bytes are characters
abbrev pub with_type_field : Given → List ℕ → ℕ → ℕ → SegmentType → SegmentType
with_type_field g name start len t =
    record t {
      fields = t.fields ++ record { name = name; start = start; length = len; data_type = unwrap_or g.data_type Character } ∷ [];
      key = option_or (key_given g start len) t.key;
    }

-- a PCB that sees one type more
abbrev pub with_seen : Given → List ℕ → View → View
with_seen g name pcb =
    record pcb { sens = pcb.sens ++ record { name = name; parent = g.parent.name; procopt = g.procopt } ∷ [] }

-- what follows with the value of a needed operand, or, for one without value, where it stands; G5 where it is missing
abbrev pub needed : {A B : Type 0} → ℕ → Option A → (A → Result B GenFault) → Result B GenFault
needed line (Some x) more = more x
needed line None more = Err (G5 line)

abbrev pub needs : {B : Type 0} → ℕ → Bool → Result B GenFault → Result B GenFault
needs line true more = more
needs line false more = Err (G5 line)

-- The draft behind a statement with these operands. An LCHILD is judged and not kept. Needed are NAME and ACCESS of DBD; NAME and BYTES of SEGM; NAME, BYTES
-- and START of FIELD; NAME of LCHILD; TYPE, DBDNAME and PROCOPT of PCB; NAME of SENSEG.
abbrev pub with_statement : Operation → ℕ → Draft → Given → Result Draft GenFault
with_statement operations.Dbd line d g = needed line g.name (λ name. needs line g.has_access (Ok (record d { name = Some name })))
with_statement operations.Dataset line d g = Ok (record d { block_size = g.block_size; frspc = g.frspc })
with_statement operations.Segm line d g =
    needed line g.name (λ name. needed line g.length (λ len. Ok (record d { types = d.types ++ segment_type d.types g name len ∷ [] })))
with_statement operations.Field line d g =
    needed line g.name (λ name. needed line g.length (λ len. needed line g.start (λ start.
    Ok (record d { types = with_last (λ t. with_type_field g name start len t) d.types }))))
with_statement operations.Lchild line d g = needed line g.name (λ _. Ok d)
with_statement operations.Dbdgen line d g = Ok d
with_statement operations.Finish line d g = Ok d
with_statement operations.Pcb line d g =
    needed line g.procopt (λ letters. needs line (g.has_type && g.has_database_name)
    (Ok (record d { pcbs = d.pcbs ++ record { procopt = letters; sens = [] } ∷ [] })))
with_statement operations.Senseg line d g = needed line g.name (λ name. Ok (record d { pcbs = with_last (λ pcb. with_seen g name pcb) d.pcbs }))
with_statement operations.Psbgen line d g = Ok d
with_statement operations.End line d g = Ok d
