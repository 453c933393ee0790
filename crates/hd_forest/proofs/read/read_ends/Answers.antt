use Rattle.std.proofs.Common.{ap, sym, ◌∙◌}
use Rattle.hd_prefix.specs.declared.pointer.Pointer.TheVariants.{FirstChild, LastChild}
use Rattle.hd_prefix.specs.Fields.{code_of, pointer_of}
use Rattle.hd_forest.proofs.Reading.{lent}
use Rattle.hd_forest.proofs.read.read_ends.Goals as goal

pub returns-clause-first : goal.returns-clause-first
returns-clause-first g c sound =
    let d = c.args.dbd.now in
    let of = c.requires.of sound in
    let l = lent d c.args.volume.now c.args.address c.in_ok-segment.segment.now of.fit of (c.requires.there sound) (c.in_ok-segment.ensures.value sound) in
    c.ends_in.ensures.first l.prefix ∙ ap (λ x. pointer_of d.types (code_of x) (FirstChild c.args.code) x) (sym l.stored)

pub returns-clause-last : goal.returns-clause-last
returns-clause-last g c sound =
    let d = c.args.dbd.now in
    let of = c.requires.of sound in
    let l = lent d c.args.volume.now c.args.address c.in_ok-segment.segment.now of.fit of (c.requires.there sound) (c.in_ok-segment.ensures.value sound) in
    c.ends_in.ensures.last l.prefix ∙ ap (λ x. pointer_of d.types (code_of x) (LastChild c.args.code) x) (sym l.stored)
