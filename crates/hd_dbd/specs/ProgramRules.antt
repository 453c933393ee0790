-- What the PCBs of a well-formed program keep to. Each rule stands beside the number of its fault.
use Rattle.std.specs.Prelude.{ℕ, ◌+◌, ◌-◌, List, [], ◌∷◌, length, map, Bool, true, false, not, ◌&&◌, ◌||◌, nat_le, nat_lt, ◌==◌, cond, Option, is_some, option_map, option_and_then, slice_get, find, position, bytes_eq}
use Rattle.std.specs.Option.{option_map_or, option_eq}
use Rattle.std.specs.List.{list_any, list_all}
use Rattle.hd_dbd.specs.Types.{SegmentType}
use Rattle.hd_dbd.specs.Types.{SeenType}
use Rattle.hd_dbd.specs.Types.{View}
use Rattle.hd_dbd.specs.declared.program.TypeName.{TypeName}
use Rattle.hd_dbd.specs.Letters.{gives_load, is_procopt}

-- What callers see of a program: the names and parents of the types that it was made for, and its PCBs.
pub record Program : Type 0 where
  pub made_for : List TypeName
  pub pcbs : List View

-- the names and parents of a database's types
abbrev pub type_names : List SegmentType → List TypeName
type_names types = map (λ t. record { name = t.name; parent = t.parent }) types

-- the code of the type of a name
abbrev pub code_named : List TypeName → List ℕ → Option ℕ
code_named names name = option_map (λ i. i + 1) (position (λ t. bytes_eq t.name name) names)

-- the name of the parent of the type of a name
abbrev pub parent_named : List TypeName → List ℕ → Option (List ℕ)
parent_named names name =
    option_and_then (λ t. option_and_then (λ p. option_map (λ q. q.name) (slice_get names (p - 1))) t.parent)
    (find (λ t. bytes_eq t.name name) names)

-- the PCB sees the type of a name
abbrev pub sees : View → List ℕ → Bool
sees pcb name = list_any (λ s. bytes_eq s.name name) pcb.sens

-- P1: each SENSEG names a type of the database
abbrev pub seen_names_fit : List TypeName → View → Bool
seen_names_fit names pcb = list_all (λ s. is_some (code_named names s.name)) pcb.sens

-- P2: each SENSEG has the parent that its type has in the database, and the PCB sees it
abbrev pub parents_fit : List TypeName → View → Bool
parents_fit names pcb =
    list_all (λ s. option_eq bytes_eq s.parent (parent_named names s.name) && option_map_or (λ q. sees pcb q) s.parent true) pcb.sens

-- each SENSEG's type has a greater code than the one before it
abbrev pub ascends_from : List TypeName → ℕ → List SeenType → Bool
ascends_from names c [] = true
ascends_from names c (s ∷ ss) = option_map_or (λ d. nat_lt c d && ascends_from names d ss) (code_named names s.name) false

-- P3: the SENSEGs stand in the order of the database's types, and none stands twice
abbrev pub order_fits : List TypeName → View → Bool
order_fits names pcb = ascends_from names 0 pcb.sens

-- a SENSEG's own PROCOPT is one, and loads just where the PCB's does
abbrev pub own_procopt_fits : View → SeenType → Bool
own_procopt_fits pcb s =
    option_map_or (λ own. is_procopt own
    && cond (gives_load own) (gives_load pcb.procopt) (not (gives_load pcb.procopt))) s.procopt true

-- P4: each PROCOPT is one, and all of them load or none
abbrev pub procopts_fit : View → Bool
procopts_fit pcb = is_procopt pcb.procopt && list_all (λ s. own_procopt_fits pcb s) pcb.sens

-- P5: a PCB that loads stands alone
abbrev pub load_fits : ℕ → View → Bool
load_fits count pcb = not (gives_load pcb.procopt) || count == 1

-- P6: a PCB sees a type
abbrev pub has_sens : View → Bool
has_sens pcb = nat_lt 0 (length pcb.sens)

-- P1 to P6 for one PCB of so many
abbrev pub pcb_fits : List TypeName → ℕ → View → Bool
pcb_fits names count pcb =
    seen_names_fit names pcb && parents_fit names pcb && order_fits names pcb && procopts_fit pcb && load_fits count pcb && has_sens pcb

-- P6: at least one PCB, and at most 255; then each PCB's rules
abbrev pub program_fits : List TypeName → List View → Bool
program_fits names pcbs =
    nat_lt 0 (length pcbs) && nat_le (length pcbs) 255 && list_all (λ pcb. pcb_fits names (length pcbs) pcb) pcbs
