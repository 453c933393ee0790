use Rattle.std.proofs.Common.{ap, sym, ◌∙◌}
use Rattle.hd_prefix.specs.Fields.{code_of}
use Rattle.hd_forest.proofs.Reading.{found-there, lent, forward-lent}
use Rattle.hd_forest.proofs.FirstChildren.{below-found}
use Rattle.hd_forest.proofs.walk.ahead_of.Goals as goal

pub returns : goal.returns
returns c v a of found =
    let d = c.args.dbd.now in
    let s = c.args.segment.now in
    let there = found-there d v a s of found in
    let l = lent d v a s of.fit of there found in
    record {
      below = below-found d v a s of there found c.child_in.result c.code_in-code.result c.children_of.result.now c.child_in.ensures c.children_of.ensures c.code_in-code.ensures;
      twin = forward-lent d.types v a s l c.twin_in.result c.twin_in.ensures.twin;
      code = c.code_in-code.ensures ∙ ap code_of (sym l.stored);
    }
