use Rattle.std.specs.Prelude.{map}
use Rattle.hd_calls.proofs.Admitting.{resolved_descend}
use Rattle.hd_session_tests.proofs.calls.call.Goals as goal

pub get-requires-in-Get-clause-descend : goal.get-requires-in-Get-clause-descend
get-requires-in-Get-clause-descend c =
    rw (c.ssas-ssas.ensures)
    (resolved_descend (record { types = c.args.trial.now.dbd.now.types; pcb = c.in-Some.pcb.now }) c.in-Some-function_of.function (map (λ s. s.items) c.deref-2.result.now) c.in-Ok-resolve.resolved c.in-Ok-resolve.ensures.ok)
