use Rattle.std.proofs.Common.{◌≡◌, ◌-◌, map}
use Rattle.hd_serve.specs.Frames.{ssas_in}
use Rattle.hd_serve.proofs.Ssas.{behind}
use Rattle.hd_serve.proofs.call.read_ssas.Given as goal

-- the arguments so far and those in the rest are those of all bytes
abbrev pub invariant-ssas : goal.invariant-ssas
invariant-ssas l = behind (map (λ s. s.items) l.ssas.items) (ssas_in (l.count - l.counter) l.rest) ≡ ssas_in l.count l.bytes
