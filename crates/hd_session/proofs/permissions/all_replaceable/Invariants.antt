use Rattle.std.proofs.Common.{◌≡◌, drop}
use Rattle.hd_session.specs.Tests.{all_replaceable}
use Rattle.hd_session.proofs.permissions.all_replaceable.Given as goal

-- the rows that are left give the answer of all
abbrev pub invariant-loop-row : goal.invariant-loop-row
invariant-loop-row l =
    all_replaceable (record { types = l.dbd.types; pcb = l.pcb }) l.ssas (drop l.row-index l.held)
    ≡ all_replaceable (record { types = l.dbd.types; pcb = l.pcb }) l.ssas l.held
