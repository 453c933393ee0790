use Rattle.std.proofs.Common.{◌≤◌, arith}
use Rattle.hd_changes.proofs.Holes.{hole_small}
use Rattle.hd_changes.proofs.room.has_hole.Goals as goal

pub returns-then-size-gt65535-clause-none : goal.returns-then-size-gt65535-clause-none
returns-then-size-gt65535-clause-none g c sound is hole =
    let most : c.args.size ≤ c.args.volume.now.size = hole_small c.args.volume.now c.args.size (c.requires.formatted sound) hole in
    let small : c.args.volume.now.size ≤ 32768 = c.requires.small in
    let large = c.if-size-gt65535.true in
    omega arith
