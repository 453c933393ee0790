use Rattle.std.proofs.Common.{ap, sym, ◌∙◌}
use Rattle.hd_prefix.specs.Fields.{code_of, pointer_of}
use Rattle.hd_forest.proofs.Reading.{lent}
use Rattle.hd_forest.proofs.read.read_pointer.Goals as goal

pub returns-clause-value : goal.returns-clause-value
returns-clause-value g c sound =
    let d = c.args.dbd.now in
    let s = c.in_ok-segment.segment.now in
    let fit = (c.requires.of sound).fit in
    let of = c.requires.of sound in
    let there = c.requires.there sound in
    let found = c.in_ok-segment.ensures.value sound in
    let l = lent d c.args.volume.now c.args.address s fit of there found in
    c.pointer_in.ensures l.prefix ∙ ap (λ x. pointer_of d.types (code_of x) c.args.pointer x) (sym l.stored)
