use Rattle.std.proofs.Common.{◌≡◌, drop}
use Rattle.std.specs.List.{list_all}
use Rattle.hd_dbd.specs.Views.{may}
use Rattle.hd_dbd.specs.Letters.{gives_insert}
use Rattle.hd_session.proofs.permissions.all_insertable.Given as goal

-- the arguments that are left give the answer of all
abbrev pub invariant-loop-ssa : goal.invariant-loop-ssa
invariant-loop-ssa l =
    list_all (λ a. may (record { types = l.dbd.types; pcb = l.pcb }) gives_insert a.code) (drop l.ssa-index l.ssas)
    ≡ list_all (λ a. may (record { types = l.dbd.types; pcb = l.pcb }) gives_insert a.code) l.ssas
