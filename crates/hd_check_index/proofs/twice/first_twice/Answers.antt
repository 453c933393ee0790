use Rattle.std.proofs.Common.{◌≡◌, ◌-◌, ℕ, List, slice_index, sym, arith}
use Rattle.hd_check_index.proofs.TwiceNumbers.{least-twice}
use Rattle.hd_check_index.proofs.twice.first_twice.Goals as goal

pub returns-then-names-i-clause-some : goal.returns-then-names-i-clause-some
returns-then-names-i-clause-some c = λ up.
    let xs : List ℕ = c.args.names.now in
    let i : ℕ = c.loop-i.i in
    let inv = c.loop-i.invariant in
    let first = inv.first in
    let within = c.loop-i-test.true in
    let some = c.if-names-i-ne0.true in
    let same : slice_index xs i ≡ slice_index xs (i - 1) = c.if-names-i.true in
    (omega arith, (i - 1, i, omega arith, omega arith, sym same, λ j. slice_index xs i), least-twice xs i up first within same inv.none)
