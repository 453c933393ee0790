use Rattle.std.proofs.Common.{◌≤◌, ◌+◌, ◌∙◌, sym, arith}
use Rattle.hd_dbd.specs.Prefixes.{pointers_at}
use Rattle.hd_prefix.proofs.Places.{pointers_low}
use Rattle.hd_prefix.proofs.layout.Layout.last_place.Goals as goal

pub overflow_add-result : goal.overflow_add-result
overflow_add-result c =
    let d = c.args.self.now.dbd.now in
    let low : pointers_at d.types c.args.child + 4 ≤ 65535 =
    pointers_low d.block_size d.frspc d.types c.args.self.now.code c.args.child c.is_child.ensures.fit (sym c.is_child.ensures.value ∙ c.if-is_child.true) in
    omega (arith, low, c.pointers_at.ensures)
