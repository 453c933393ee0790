use Rattle.std.proofs.Common.{◌≡◌, drop}
use Rattle.std.specs.List.{list_all}
use Rattle.hd_calls.specs.Steps.{path_allowed}
use Rattle.hd_session.proofs.permissions.paths_allowed.Given as goal

-- the arguments that are left give the answer of all
abbrev pub invariant-loop-ssa : goal.invariant-loop-ssa
invariant-loop-ssa l =
    list_all (λ a. path_allowed (record { types = l.dbd.types; pcb = l.pcb }) a) (drop l.ssa-index l.ssas)
    ≡ list_all (λ a. path_allowed (record { types = l.dbd.types; pcb = l.pcb }) a) l.ssas
