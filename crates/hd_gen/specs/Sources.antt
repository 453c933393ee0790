-- The database of a DBD source, and the program of a PSB source; or the first fault.
use Rattle.std.specs.Prelude.{ℕ, ◌+◌, ◌-◌, List, [], ◌∷◌, length, Bool, false, ◌==◌, nat_lt, cond, Option, Some, None, is_some, slice_get, Result, Ok, Err}
use Rattle.std.specs.Option.{option_map_or}
use Rattle.std.specs.Result.{result_map_both}
use Rattle.std.specs.Str.Lines.{lines}
use Rattle.hd_lines.specs.Reading.{then}
use Rattle.hd_macro.specs.Statements.{StatementText}
use Rattle.hd_macro.specs.Source.{source}
use Rattle.hd_dbd.specs.Types.{SegmentType}
use Rattle.hd_dbd.specs.Hierarchy.{Database}
use Rattle.hd_dbd.specs.DatabaseFaults.{database_fault}
use Rattle.hd_dbd.specs.ProgramRules.{Program, type_names}
use Rattle.hd_dbd.specs.ProgramFaults.{program_fault}
use Rattle.hd_gen.specs.declared.fault.GenFault.{GenFault}
use Rattle.hd_gen.specs.declared.fault.GenFault.TheVariants as faults
use Rattle.hd_gen.specs.declared.given.Context.{Context}
use Rattle.hd_gen.specs.declared.source.Kind.{Kind}
use Rattle.hd_gen.specs.declared.source.Kind.TheVariants as kinds
use Rattle.hd_gen.specs.declared.source.Progress.{Progress}
use Rattle.hd_gen.specs.declared.table.Operation.{Operation}
use Rattle.hd_gen.specs.declared.table.Operation.TheVariants as operations
use Rattle.hd_gen.specs.declared.table.Stage.{Stage}
use Rattle.hd_gen.specs.declared.table.Stage.TheVariants as stages
use Rattle.hd_gen.specs.Tables.{look_up, dbd_operations, psb_operations, next_stage, is_complete}
use Rattle.hd_gen.specs.Operands.{given}
use Rattle.hd_gen.specs.Drafts.{Draft, empty_draft, with_statement}

-- the statement of an operation, if the source has it
abbrev pub operation_of : Kind → List ℕ → Option Operation
operation_of kinds.Dbd word = look_up dbd_operations word
operation_of (kinds.Psb name) word = look_up psb_operations word

-- the last type has a sequence field
abbrev pub has_key_last : List SegmentType → Bool
has_key_last types = option_map_or (λ t. is_some t.key) (slice_get types (length types - 1)) false

-- the name of the database that a program is for
abbrev pub database_of_kind : Kind → Option (List ℕ)
database_of_kind kinds.Dbd = None
database_of_kind (kinds.Psb name) = Some name

abbrev pub context_of : Kind → Draft → Context
context_of kind d =
    record { is_root = length d.types == 0; has_key = has_key_last d.types; database = database_of_kind kind }

-- an LCHILD that does not stand at the root
abbrev pub is_lchild_below_root : Operation → Draft → Bool
is_lchild_below_root operations.Lchild d = nat_lt 1 (length d.types)
is_lchild_below_root operation d = false

-- A statement that may stand here: G3 where it is an LCHILD below the root; then its operands are read, and those that it
-- needs are tested.
abbrev pub placed : Kind → Operation → Stage → Draft → StatementText → Result Progress GenFault
placed kind operation stage d s =
    cond (is_lchild_below_root operation d) (Err (faults.G3 s.line))
    (then (given (context_of kind d) operation s.line s.operands) (λ g.
    then (with_statement operation s.line d g) (λ e. Ok (record { stage = stage; draft = e }))))

-- One statement more: G1 where the source has no such statement, G2 where it may not stand here.
abbrev pub with_next : Kind → Progress → StatementText → Result Progress GenFault
with_next kind p s =
    option_map_or (λ operation.
    option_map_or (λ stage. placed kind operation stage p.draft s) (next_stage p.stage operation) (Err (faults.G2 s.line)))
    (operation_of kind s.operation) (Err (faults.G1 s.line))

-- what the statements say behind others; G2, at the line behind the last, where DBDGEN or PSBGEN is missing
abbrev pub draft_from : Kind → ℕ → Progress → List StatementText → Result Draft GenFault
draft_from kind end p [] = cond (is_complete p.stage) (Ok p.draft) (Err (faults.G2 end))
draft_from kind end p (s ∷ ss) = then (with_next kind p s) (λ q. draft_from kind end q ss)

-- ---- sources

-- the number of the line behind the last
abbrev pub line_behind : List ℕ → ℕ
line_behind bytes = length (lines bytes) + 1

-- the statements of a source, or the first fault of its lines
abbrev pub statements_in : List ℕ → Result (List StatementText) GenFault
statements_in bytes = result_map_both (λ ss. ss) (λ fault. faults.Line fault) (source bytes)

-- what a source says
abbrev pub draft_of : Kind → List ℕ → Result Draft GenFault
draft_of kind bytes =
    then (statements_in bytes) (λ ss. draft_from kind (line_behind bytes) (record { stage = stages.Start; draft = empty_draft }) ss)

-- a database that keeps to its rules, or the rule that it breaks
abbrev pub checked_database : Database → Result Database GenFault
checked_database d = option_map_or (λ f. Err (faults.Dbd f)) (database_fault d.block_size d.frspc d.types) (Ok d)

-- The database of a DBD source. A complete one has its name, so the last G2 never comes.
abbrev pub dbd_of : List ℕ → Result Database GenFault
dbd_of bytes =
    then (draft_of kinds.Dbd bytes) (λ d.
    option_map_or (λ name. checked_database (record { name = name; block_size = d.block_size; frspc = d.frspc; types = d.types })) d.name
    (Err (faults.G2 (line_behind bytes))))

-- the program of a PSB source, for a database
abbrev pub psb_of : List ℕ → Database → Result Program GenFault
psb_of bytes database =
    then (draft_of (kinds.Psb database.name) bytes) (λ d.
    option_map_or (λ f. Err (faults.Psb f)) (program_fault (type_names database.types) d.pcbs)
    (Ok (record { made_for = type_names database.types; pcbs = d.pcbs })))
