-- What the operands of one statement say, read from left to right.
use Rattle.std.specs.Prelude.{ℕ, List, [], ◌∷◌, ◌++◌, Bool, true, false, ◌&&◌, cond, Option, Some, None, is_some, Result, Ok, Err, bytes_eq, codes}
use Rattle.std.specs.Option.{option_map_or}
use Rattle.std.specs.List.{list_any}
use Rattle.std.specs.Result.{result_map_both}
use Rattle.hd_macro.specs.Statements.{OperandText}
use Rattle.hd_dbd.specs.declared.hierarchy.DataType.{DataType}
use Rattle.hd_dbd.specs.declared.hierarchy.FreeSpace.{FreeSpace}
use Rattle.hd_dbd.specs.declared.hierarchy.Rule.{Rule}
use Rattle.hd_dbd.specs.declared.hierarchy.Rule.TheVariants.{Last}
use Rattle.hd_gen.specs.declared.fault.GenFault.{GenFault}
use Rattle.hd_gen.specs.declared.fault.GenFault.TheVariants.{G3, G4}
use Rattle.hd_gen.specs.declared.given.Context.{Context}
use Rattle.hd_gen.specs.declared.operand.FieldName.{FieldName}
use Rattle.hd_gen.specs.declared.operand.Parent.{Parent}
use Rattle.hd_gen.specs.declared.table.Operation.{Operation}
use Rattle.hd_gen.specs.declared.table.Meaning.{Meaning}
use Rattle.hd_gen.specs.declared.table.Meaning.TheVariants as meanings
use Rattle.hd_gen.specs.declared.value.Wrong.{Wrong}
use Rattle.hd_gen.specs.declared.value.Wrong.TheVariants.{NotSupported, IllFormed}
use Rattle.hd_gen.specs.Tables.{look_up, operands_of, main_keyword, positionings, usual_block_size}
use Rattle.hd_gen.specs.Values.{Value, value_in, only_if, name_in, number_in, bytes_in, is_access, block_size_in, free_space_in, parent_in, seen_parent_in, twins_in, rule_in, field_in, data_type_in, index_in, is_word, database_in, letters_in}
use Rattle.hd_lines.specs.Reading.{then}

-- What the operands of a statement give. Without them POINTER is TWIN, RULES is LAST, a PARENT is 0, the child pointer is
-- SNGL, the block size is 2,048 bytes, and no space is left free.
pub record Given : Type 0 where
  pub name : Option (List ℕ)
  pub has_access : Bool
  pub block_size : ℕ
  pub frspc : FreeSpace
  pub parent : Parent
  -- the bytes, or of a SEGM whose segments vary the most of them, and the least
  pub length : Option ℕ
  pub least : Option ℕ
  pub backward : Bool
  pub rule : Rule
  -- for a sequence field, whether it is unique
  pub unique : Option Bool
  pub start : Option ℕ
  pub data_type : Option DataType
  -- TYPE=DB stands in a PCB
  pub has_type : Bool
  pub has_database_name : Bool
  pub procopt : Option (List ℕ)

abbrev pub nothing_given : Given
nothing_given =
    record {
      name = None;
      has_access = false;
      block_size = usual_block_size;
      frspc = record { fbff = 0; fspf = 0 };
      parent = record { name = None; last_pointer = false };
      length = None;
      least = None;
      backward = false;
      rule = Last;
      unique = None;
      start = None;
      data_type = None;
      has_type = false;
      has_database_name = false;
      procopt = None;
    }

-- a field's name, and whether it is a sequence field; a second one of a type is ill-formed
abbrev pub with_field : Bool → Given → FieldName → Result Given Wrong
with_field has_key g f = cond (has_key && is_some f.unique) (Err IllFormed) (Ok (record g { name = Some f.name; unique = f.unique }))

-- what is given, with the value of an operand of this meaning
abbrev pub with_value : Context → Meaning → Given → Value → Result Given Wrong
with_value c meanings.Name g v = then (name_in v) (λ x. Ok (record g { name = Some x }))
with_value c meanings.Access g v = then (only_if (is_access v)) (λ _. Ok (record g { has_access = true }))
with_value c meanings.BlockSize g v = then (block_size_in v) (λ x. Ok (record g { block_size = x }))
with_value c meanings.FreeSpace g v = then (free_space_in v) (λ x. Ok (record g { frspc = x }))
with_value c meanings.Parent g v = then (parent_in v) (λ x. Ok (record g { parent = x }))
with_value c meanings.SeenParent g v = then (seen_parent_in v) (λ x. Ok (record g { parent = x }))
with_value c meanings.Length g v = then (number_in v) (λ x. Ok (record g { length = Some x }))
with_value c meanings.SegmentBytes g v = then (bytes_in v) (λ x. Ok (record g { length = Some x.length; least = x.least }))
with_value c meanings.Twins g v = then (twins_in c.is_root v) (λ x. Ok (record g { backward = x }))
with_value c meanings.Rules g v = then (rule_in v) (λ x. Ok (record g { rule = x }))
with_value c meanings.FieldName g v = then (field_in v) (λ f. with_field c.has_key g f)
with_value c meanings.Start g v = then (number_in v) (λ x. Ok (record g { start = Some x }))
with_value c meanings.DataType g v = then (data_type_in v) (λ k. Ok (record g { data_type = Some k }))
with_value c meanings.IndexSegment g v = then (index_in v) (λ x. Ok (record g { name = Some x }))
with_value c meanings.IndexPointer g v = then (only_if (is_word (codes "INDX" ∷ []) v)) (λ _. Ok g)
with_value c meanings.DatabaseType g v = then (only_if (is_word (codes "DB" ∷ []) v)) (λ _. Ok (record g { has_type = true }))
with_value c meanings.DatabaseName g v = then (database_in c.database v) (λ _. Ok (record g { has_database_name = true }))
with_value c meanings.Procopt g v = then (letters_in v) (λ x. Ok (record g { procopt = Some x }))
with_value c meanings.Positioning g v = then (only_if (is_word positionings v)) (λ _. Ok g)
with_value c meanings.NotUsed g v = Ok g

-- the fault of a statement's line
abbrev pub fault_at : ℕ → Wrong → GenFault
fault_at line NotSupported = G3 line
fault_at line IllFormed = G4 line

-- the operand stands among these already, by this or its other keyword
abbrev pub is_given : Operation → List OperandText → OperandText → Bool
is_given operation before o =
    list_any (λ p. bytes_eq (main_keyword operation p.keyword) (main_keyword operation o.keyword)) before

-- One operand more: G3 where the statement has no such operand, G4 where it is given twice, then as its value says.
abbrev pub with_operand : Context → Operation → ℕ → List OperandText → Given → OperandText → Result Given GenFault
with_operand c operation line before g o =
    option_map_or (λ meaning.
    cond (is_given operation before o) (Err (G4 line)) (result_map_both (λ h. h) (λ wrong. fault_at line wrong) (with_value c meaning g (value_in o.value))))
    (look_up (operands_of operation) o.keyword) (Err (G3 line))

-- what the operands give behind those that stand before them, from left to right; or the first fault
abbrev pub given_from : Context → Operation → ℕ → List OperandText → Given → List OperandText → Result Given GenFault
given_from c operation line before g [] = Ok g
given_from c operation line before g (o ∷ os) =
    then (with_operand c operation line before g o) (λ h. given_from c operation line (before ++ o ∷ []) h os)

abbrev pub given : Context → Operation → ℕ → List OperandText → Result Given GenFault
given c operation line os = given_from c operation line [] nothing_given os
