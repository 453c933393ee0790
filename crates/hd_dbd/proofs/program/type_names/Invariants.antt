use Rattle.std.proofs.Common.{◌≡◌, take}
use Rattle.hd_dbd.specs.ProgramRules.{type_names}
use Rattle.hd_dbd.proofs.program.type_names.Given as goal

-- the names of the types so far
abbrev pub invariant-loop-segment : goal.invariant-loop-segment
invariant-loop-segment l = l.names.items ≡ type_names (take l.segment-index l.types)
