use Rattle.std.proofs.Common.{ap, sym, ◌∙◌}
use Rattle.hd_prefix.specs.Fields.{code_of, bytes_of}
use Rattle.hd_forest.proofs.Reading.{lent}
use Rattle.hd_get.specs.Asking.{look_of}
use Rattle.hd_get.proofs.look.look_at.Goals as goal

pub returns-clause-value : goal.returns-clause-value
returns-clause-value g c sound =
    let d = c.args.dbd.now in
    let of = c.requires.of sound in
    let l = lent d c.args.volume.now c.args.address c.in_ok-segment.segment.now of.fit of (c.requires.there sound) (c.in_ok-segment.ensures.value sound) in
    c.look_in.ensures l.whole ∙ ap (λ x. look_of d.types c.args.ssas.now (record { code = code_of x; bytes = bytes_of d.types (code_of x) x })) (sym l.stored)
