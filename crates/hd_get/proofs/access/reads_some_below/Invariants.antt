use Rattle.std.proofs.Common.{◌≡◌, ◌+◌, length}
use Rattle.std.specs.Prelude.{◌&&◌}
use Rattle.hd_dbd.specs.Letters.{gives_get}
use Rattle.hd_dbd.specs.Views.{may}
use Rattle.hd_calls.specs.Admits.{NonePass, is_on_way}
use Rattle.hd_get.proofs.access.reads_some_below.Given as goal

-- none of the types looked at is one
abbrev pub invariant-loop-place : goal.invariant-loop-place
invariant-loop-place l =
    (l.count ≡ length l.dbd.types)
    × NonePass (λ c. is_on_way l.dbd.types c l.code && may (record { types = l.dbd.types; pcb = l.pcb }) gives_get c) 1 (l.place + 1)
