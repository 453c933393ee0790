-- The order of the statements of a source, told as a grammar.
use Rattle.std.specs.Prelude.{◌≡◌, ◌⊎◌, ◌↔◌, List, [], ◌∷◌, ◌++◌, Bool, true, false, Option, Some, option_and_then}
use Rattle.std.specs.Option.{option_map_or}
use Rattle.std.specs.List.{list_all}
use Rattle.hd_gen.specs.declared.table.Operation.{Operation}
use Rattle.hd_gen.specs.declared.table.Operation.TheVariants as operations
use Rattle.hd_gen.specs.declared.table.Stage.{Stage}
use Rattle.hd_gen.specs.declared.table.Stage.TheVariants as stages
use Rattle.hd_gen.specs.Tables.{next_stage, is_complete}

-- how far a source is read behind these statements, if each may stand where it stands
abbrev pub stage_behind : Stage → List Operation → Option Stage
stage_behind s [] = Some s
stage_behind s (o ∷ os) = option_and_then (λ t. stage_behind t os) (next_stage s o)

-- each of the statements may stand where it stands behind a stage, and the source may end behind them
abbrev pub is_read_from : Stage → List Operation → Bool
is_read_from s os = option_map_or (λ t. is_complete t) (stage_behind s os) false

-- a statement of the segment types: SEGM, FIELD or LCHILD
abbrev pub is_of_types : Operation → Bool
is_of_types operations.Segm = true
is_of_types operations.Field = true
is_of_types operations.Lchild = true
is_of_types operation = false

-- a statement of the PCBs: PCB or SENSEG
abbrev pub is_of_pcbs : Operation → Bool
is_of_pcbs operations.Pcb = true
is_of_pcbs operations.Senseg = true
is_of_pcbs operation = false

-- one statement, or none
abbrev pub IsOptional : Operation → List Operation → Type 0
IsOptional o os = (os ≡ []) ⊎ (os ≡ o ∷ [])

-- What stands behind DBDGEN or PSBGEN: FINISH, if it stands there, and END, if it stands there. A PSB source has no FINISH.
pub record IsEnd (os : List Operation) : Type 0 where
  pub finish : List Operation
  pub last : List Operation
  pub are : os ≡ finish ++ last
  pub finish_is : IsOptional operations.Finish finish
  pub last_is : IsOptional operations.End last

-- A DBD source: DBD; DATASET, if it stands there; one or more SEGM, each with its FIELDs and LCHILDs behind it; DBDGEN; and its end.
pub record IsDbdOrder (os : List Operation) : Type 0 where
  pub dataset : List Operation
  pub types : List Operation
  pub behind : List Operation
  pub are : os ≡ operations.Dbd ∷ dataset ++ (operations.Segm ∷ types ++ operations.Dbdgen ∷ behind)
  pub dataset_is : IsOptional operations.Dataset dataset
  pub types_are : list_all is_of_types types ≡ true
  pub ends : IsEnd behind

-- A PSB source: one or more PCB, each with its SENSEGs behind it; PSBGEN; and its end.
pub record IsPsbOrder (os : List Operation) : Type 0 where
  pub pcbs : List Operation
  pub behind : List Operation
  pub are : os ≡ operations.Pcb ∷ pcbs ++ operations.Psbgen ∷ behind
  pub pcbs_are : list_all is_of_pcbs pcbs ≡ true
  pub ends : IsEnd behind

-- Statements are read as a whole source just where they stand in the order of a DBD's or a PSB's.
abbrev pub StatementsStandInOrder : Type 0
StatementsStandInOrder = (os : List Operation) → (is_read_from stages.Start os ≡ true) ↔ (IsDbdOrder os ⊎ IsPsbOrder os)
