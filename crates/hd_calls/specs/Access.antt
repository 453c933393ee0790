-- What one PCB sees, and whether it loads.
use Rattle.std.specs.Prelude.{ℕ, List, Bool, Option, option_and_then}
use Rattle.hd_dbd.specs.Types.{View}
use Rattle.hd_dbd.specs.Letters.{gives_load}
use Rattle.hd_dbd.specs.ProgramRules.{type_names, code_named}
use Rattle.hd_dbd.specs.Views.{Setting, letters_for}

-- the code of the type of this name, where the PCB sees it
abbrev pub seen_code : Setting → List ℕ → Option ℕ
seen_code s name = option_and_then (λ _. code_named (type_names s.types) name) (letters_for s.pcb name)

-- the PCB loads
abbrev pub loads : View → Bool
loads pcb = gives_load pcb.procopt
