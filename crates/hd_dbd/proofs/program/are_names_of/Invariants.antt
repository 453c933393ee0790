use Rattle.std.proofs.Common.{◌≡◌, take}
use Rattle.hd_dbd.specs.ProgramRules.{type_names}
use Rattle.hd_dbd.proofs.program.are_names_of.Given as goal

-- the types so far have the names
abbrev pub invariant-loop-place : goal.invariant-loop-place
invariant-loop-place l = take l.place l.names ≡ take l.place (type_names l.types)
