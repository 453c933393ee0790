-- The first fault of a program: P6 for too few or too many PCBs, and then, of the first PCB that breaks a rule, the rule of
-- the least number.
use Rattle.std.specs.Prelude.{◌≡◌, ℕ, ◌+◌, List, [], ◌∷◌, length, not, ◌&&◌, nat_lt, nat_le, cond, Option, Some, None, is_none}
use Rattle.std.specs.Option.{option_or}
use Rattle.hd_dbd.specs.Types.{View}
use Rattle.hd_dbd.specs.declared.program.PsbFault.{PsbFault}
use Rattle.hd_dbd.specs.declared.program.PsbFault.TheVariants.{P1, P2, P3, P4, P5, P6}
use Rattle.hd_dbd.specs.declared.program.TypeName.{TypeName}
use Rattle.hd_dbd.specs.ProgramRules.{seen_names_fit, parents_fit, order_fits, procopts_fit, load_fits, has_sens, program_fits}

-- the first of the rules P1 to P6 that a PCB breaks, one of so many, with its number
abbrev pub pcb_fault : List TypeName → ℕ → ℕ → View → Option PsbFault
pcb_fault names count number pcb =
    cond (not (seen_names_fit names pcb)) (Some (P1 number)) (cond (not (parents_fit names pcb)) (Some (P2 number))
    (cond (not (order_fits names pcb)) (Some (P3 number)) (cond (not (procopts_fit pcb)) (Some (P4 number))
    (cond (not (load_fits count pcb)) (Some (P5 number)) (cond (not (has_sens pcb)) (Some (P6 number)) None)))))

-- the same of the first that breaks one, of PCBs whose numbers begin with the given one
abbrev pub fault_from : List TypeName → ℕ → ℕ → List View → Option PsbFault
fault_from names count number [] = None
fault_from names count number (pcb ∷ pcbs) = option_or (pcb_fault names count number pcb) (fault_from names count (number + 1) pcbs)

-- why these PCBs are no program: number 0 where there is none, or more than 255
abbrev pub program_fault : List TypeName → List View → Option PsbFault
program_fault names pcbs =
    cond (not (nat_lt 0 (length pcbs) && nat_le (length pcbs) 255)) (Some (P6 0)) (fault_from names (length pcbs) 1 pcbs)

-- A program is well formed just where no fault stands.
abbrev pub ProgramsHaveNoFault : Type 0
ProgramsHaveNoFault =
    (names : List TypeName) (pcbs : List View) → is_none (program_fault names pcbs) ≡ program_fits names pcbs
