use Rattle.std.proofs.Common.{◌≢◌, ℕ, ◌<◌, sym, ap, ◌∙◌, arith}
use Rattle.hd_dbd.specs.Prefixes.{children_of}
use Rattle.hd_links.specs.Steps.{later_than}
use Rattle.hd_forest.specs.Children.{child_in}
use Rattle.hd_forest.proofs.Reading.{lent}
use Rattle.hd_forest.proofs.FirstChildren.{child-stored, types-stored}
use Rattle.hd_forest.proofs.children.below_later.Goals as goal

pub returns-clause-value : goal.returns-clause-value
returns-clause-value g c sound =
    let d = c.args.dbd.now in
    let v = c.args.volume.now in
    let a : ℕ = c.args.address in
    let s = c.in_ok-segment.segment.now in
    let there = c.requires.there sound in
    let l = lent d v a s (c.requires.of sound).fit (c.requires.of sound) there (c.in_ok-segment.ensures.value sound) in
    let ne : a ≢ 0 = λ e. (let some : 0 < a = there.some in omega arith) in
    c.child_in.ensures l.prefix
    ∙ ap (child_in d.types s) (c.later_than-types.ensures ∙ ap (later_than c.args.code) (c.children_of.ensures ∙ ap (children_of d.types) c.code_in.ensures ∙ sym (types-stored d v a s (c.requires.of sound).fit (c.requires.of sound) there l.stored)))
    ∙ sym (child-stored d.types v a s _ ne l.stored)
