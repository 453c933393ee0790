-- The rules are kept just where there is no fault.
use Rattle.std.proofs.Common.{◌≡◌, ℕ, ◌+◌, List, [], ◌∷◌, length, Bool, true, false, not, ◌&&◌, cond, Option, Some, None, refl, ap, ◌∙◌, sym}
use Rattle.std.specs.Prelude.{nat_lt, nat_le, is_none}
use Rattle.std.specs.Option.{option_or}
use Rattle.std.specs.List.{list_all}
use Rattle.hd_dbd.specs.declared.database.DbdFault.TheVariants.{B1, B2, B3, B4, B5, B6, B7, B8, B9, B10}
use Rattle.hd_dbd.specs.declared.hierarchy.FreeSpace.{FreeSpace}
use Rattle.hd_dbd.specs.Types.{SegmentType}
use Rattle.hd_dbd.specs.Types.{View}
use Rattle.hd_dbd.specs.declared.program.PsbFault.TheVariants.{P1, P2, P3, P4, P5, P6}
use Rattle.hd_dbd.specs.declared.program.TypeName.{TypeName}
use Rattle.hd_dbd.specs.DatabaseRules.{block_size_fits, free_space_fits, level_fits, parent_fits, parts_fit, root_key_fits, names_fit, sizes_fit, key_length_fits, type_fits, types_fit_from, well_formed}
use Rattle.hd_dbd.specs.DatabaseFaults.{type_fault, types_fault_from, size_fault, database_fault}
use Rattle.hd_dbd.specs.ProgramRules.{seen_names_fit, parents_fit, order_fits, procopts_fit, load_fits, has_sens, pcb_fits, program_fits}
use Rattle.hd_dbd.specs.ProgramFaults.{pcb_fault, fault_from, program_fault}

-- Where the rules before it are kept, a rule is kept just where its fault does not come.
next : {F : Type 0} (before rule : Bool) (fault : F) (later : Option F) (all : Bool) → ((before && rule) && is_none later) ≡ all
    → (before && is_none (cond (not rule) (Some fault) later)) ≡ all
next true true fault later all is = is
next true false fault later all is = is
next false rule fault later all is = is

-- behind the last rule no fault is left
last : {F : Type 0} (before rule : Bool) (fault : F) → (before && is_none (cond (not rule) (Some fault) None)) ≡ (before && rule)
last true true fault = refl
last true false fault = refl
last false rule fault = refl

-- the first of two faults is none where both are none
either : {F : Type 0} (a b : Option F) → is_none (option_or a b) ≡ (is_none a && is_none b)
either None b = refl
either (Some f) b = refl

-- where there is no fault, the test passed
pub passes : {F : Type 0} (fault : Option F) (all : Bool) → is_none fault ≡ all → fault ≡ None → all ≡ true
passes None all same none = sym same
passes (Some f) all same none = cc

-- a type keeps B3 to B9 just where it has no fault
type_agrees : (block_size : ℕ) (types : List SegmentType) (c : ℕ) (t : SegmentType) → is_none (type_fault block_size types c t) ≡ type_fits block_size types c t
type_agrees block_size types c t =
    next true (level_fits types c t) (B3 c) _ _
    (next _ (parent_fits c t) (B4 c) _ _
    (next _ (parts_fit t) (B5 c) _ _
    (next _ (root_key_fits c t) (B6 c) _ _
    (next _ (names_fit types c t) (B7 c) _ _
    (next _ (sizes_fit block_size types c t) (B8 c) _ _
    (last _ (key_length_fits t) (B9 c)))))))

-- and so do the last types of a list
pub types_agree : (block_size : ℕ) (types : List SegmentType) (c : ℕ) (ts : List SegmentType) → is_none (types_fault_from block_size types c ts) ≡ types_fit_from block_size types c ts
types_agree block_size types c [] = refl
types_agree block_size types c (t ∷ ts) =
    either (type_fault block_size types c t) (types_fault_from block_size types (c + 1) ts)
    ∙ ap (λ (b : Bool). b && is_none (types_fault_from block_size types (c + 1) ts)) (type_agrees block_size types c t)
    ∙ ap (λ (b : Bool). type_fits block_size types c t && b) (types_agree block_size types (c + 1) ts)

-- block size, FRSPC and number of types are right just where they have no fault
size_agrees : (block_size : ℕ) (frspc : FreeSpace) (types : List SegmentType)
    → is_none (size_fault block_size frspc types) ≡ (block_size_fits block_size && free_space_fits frspc && nat_lt 0 (length types) && nat_le (length types) 255)
size_agrees block_size frspc types =
    next true (block_size_fits block_size && free_space_fits frspc) B10 _ _
    (next _ (nat_lt 0 (length types)) B1 _ _
    (last _ (nat_le (length types) 255) B2))

-- a database keeps all rules just where it has no fault
pub database_agrees : (block_size : ℕ) (frspc : FreeSpace) (types : List SegmentType) → is_none (database_fault block_size frspc types) ≡ well_formed block_size frspc types
database_agrees block_size frspc types =
    either (size_fault block_size frspc types) (types_fault_from block_size types 1 types)
    ∙ ap (λ (b : Bool). b && is_none (types_fault_from block_size types 1 types)) (size_agrees block_size frspc types)
    ∙ ap (λ (b : Bool). block_size_fits block_size && free_space_fits frspc && nat_lt 0 (length types) && nat_le (length types) 255 && b)
    (types_agree block_size types 1 types)

-- a PCB keeps P1 to P6 just where it has no fault
pcb_agrees : (names : List TypeName) (count number : ℕ) (pcb : View) → is_none (pcb_fault names count number pcb) ≡ pcb_fits names count pcb
pcb_agrees names count number pcb =
    next true (seen_names_fit names pcb) (P1 number) _ _
    (next _ (parents_fit names pcb) (P2 number) _ _
    (next _ (order_fits names pcb) (P3 number) _ _
    (next _ (procopts_fit pcb) (P4 number) _ _
    (next _ (load_fits count pcb) (P5 number) _ _
    (last _ (has_sens pcb) (P6 number))))))

-- and so do the PCBs behind it
pcbs_agree : (names : List TypeName) (count number : ℕ) (pcbs : List View) → is_none (fault_from names count number pcbs) ≡ list_all (λ pcb. pcb_fits names count pcb) pcbs
pcbs_agree names count number [] = refl
pcbs_agree names count number (pcb ∷ pcbs) =
    either (pcb_fault names count number pcb) (fault_from names count (number + 1) pcbs)
    ∙ ap (λ (b : Bool). b && is_none (fault_from names count (number + 1) pcbs)) (pcb_agrees names count number pcb)
    ∙ ap (λ (b : Bool). pcb_fits names count pcb && b) (pcbs_agree names count (number + 1) pcbs)

-- PCBs keep all rules just where they have no fault
pub program_agrees : (names : List TypeName) (pcbs : List View) → is_none (program_fault names pcbs) ≡ program_fits names pcbs
program_agrees names pcbs =
    next true (nat_lt 0 (length pcbs) && nat_le (length pcbs) 255) (P6 0) _ _
    (ap (λ (b : Bool). nat_lt 0 (length pcbs) && nat_le (length pcbs) 255 && b) (pcbs_agree names (length pcbs) 1 pcbs))
