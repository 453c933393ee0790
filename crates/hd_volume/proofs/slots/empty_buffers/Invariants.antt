use Rattle.std.proofs.Common.{◌≡◌, ◌≤◌, false, vec_len, max}
use Rattle.std.specs.List.{AllByRecursion}
use Rattle.hd_volume.specs.declared.slots.TheConstants.{LEAST_ASIDE}
use Rattle.hd_volume.specs.Buffers.{IsBlockLong}
use Rattle.hd_volume.proofs.slots.empty_buffers.Given as goal

abbrev pub invariant-loop : goal.invariant-loop
invariant-loop l =
    AllByRecursion (IsBlockLong l.block_size) l.buffers.items × AllByRecursion (λ b. b.holds ≡ false) l.buffers.items × (vec_len l.buffers ≡ l.counter)

abbrev pub invariant-loop-2 : goal.invariant-loop-2
invariant-loop-2 l =
    AllByRecursion (IsBlockLong l.block_size) l.buffers.items × AllByRecursion (λ b. b.holds ≡ false) l.buffers.items × (LEAST_ASIDE ≤ vec_len l.buffers) × (vec_len l.buffers ≡ l.counter) × (vec_len l.buffers ≤ max LEAST_ASIDE l.kept)
