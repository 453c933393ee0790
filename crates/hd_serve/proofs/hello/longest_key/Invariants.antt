use Rattle.std.proofs.Common.{◌≡◌, drop, map, max}
use Rattle.hd_dbd.specs.Hierarchy.{greatest}
use Rattle.hd_serve.specs.Hello.{length_for, longest_key}
use Rattle.hd_serve.proofs.hello.longest_key.Given as goal

abbrev pub invariant-loop-sens : goal.invariant-loop-sens
invariant-loop-sens l = max l.most (greatest (map (λ s. length_for l.types l.lengths s.name) (drop l.sens-index l.pcb.sens))) ≡ longest_key l.types l.pcb
