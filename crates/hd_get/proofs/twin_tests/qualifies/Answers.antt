use Rattle.std.proofs.Common.{ap, sym, ◌∙◌}
use Rattle.hd_prefix.specs.Fields.{code_of, bytes_of}
use Rattle.hd_image.specs.Records.{links_of}
use Rattle.hd_forest.proofs.Reading.{lent}
use Rattle.hd_calls.specs.Satisfies.{qualifies}
use Rattle.hd_get.proofs.twin_tests.qualifies.Goals as goal

pub returns-clause-value : goal.returns-clause-value
returns-clause-value g c sound =
    let d = c.args.dbd.now in
    let m = links_of d.types c.args.volume.now in
    let of = c.requires.of sound in
    let l = lent d c.args.volume.now c.args.address c.in_ok-segment.segment.now of.fit of (c.requires.there sound) (c.in_ok-segment.ensures.value sound) in
    c.holds.ensures (m.code c.args.address)
    ∙ ap (λ b. qualifies c.args.ssa.now (record { code = m.code c.args.address; bytes = b })) (c.bytes_in.ensures l.whole ∙ ap (λ x. bytes_of d.types (code_of x) x) (sym l.stored))
