use Rattle.std.proofs.Common.{ℕ, List, subst}
use Rattle.hd_dbd.specs.Types.{SegmentType}
use Rattle.hd_forest.proofs.Laying.{AreLaid, laid-leaf}
use Rattle.hd_forest.proofs.leaf.lay_out.Goals as goal

pub returns-clause-leaf : goal.returns-clause-leaf
returns-clause-leaf c =
    let d = c.args.dbd.now in
    let s0 : List ℕ = c.write_new.new.segment in
    let s1 : List ℕ = c.write.new.segment in
    let s2 : List ℕ = c.write-2.new.segment in
    let laid : AreLaid c.of-layout.result.dbd.now.types c.of-layout.result.code c.args.bytes.now c.args.after c.args.behind s0 s1 s2
    = record { new = c.write_new.ensures; forward = c.write.ensures.set; same = c.write-2.ensures.changes; backward = c.write-2.ensures.set } in
    laid-leaf d.block_size d.frspc d.types c.args.code c.args.bytes.now c.args.after c.args.behind s0 s1 s2 c.types.ensures.fit c.requires.fits
    (subst (λ (k : ℕ). AreLaid d.types k c.args.bytes.now c.args.after c.args.behind s0 s1 s2) c.of-layout.ensures.code
    (subst (λ (ts : List SegmentType). AreLaid ts c.of-layout.result.code c.args.bytes.now c.args.after c.args.behind s0 s1 s2) c.of-layout.ensures.types laid))
