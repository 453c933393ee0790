use Rattle.std.proofs.Common.{◌<◌, length, sym, ◌∙◌, arith}
use Rattle.hd_dbd.proofs.Names.{names_more, names_differ}
use Rattle.hd_dbd.proofs.program.are_names_of.Goals as goal

pub returns-then-ne : goal.returns-then-ne
returns-then-ne c =
    let below : c.loop-place.place < length c.args.types.now = omega arith in (
      λ h. cc,
      λ all. absurd (names_differ c.args.names.now c.args.types.now c.loop-place.place c.index-names-place.result c.type_name.result c.index-types-place.result below c.index-names-place.is c.index-types-place.is c.type_name.ensures (sym c.if-ne.true ∙ c.ne.ensures) all),
    )

pub loop-place-preserved : goal.loop-place-preserved
loop-place-preserved c =
    let in_types : c.loop-place.place < length c.args.types.now = omega arith in
    let in_names : c.loop-place.place < length c.args.names.now = omega arith in
    names_more c.args.names.now c.args.types.now c.loop-place.place c.index-names-place.result c.type_name.result c.index-types-place.result in_names in_types c.index-names-place.is c.index-types-place.is c.type_name.ensures c.if-ne.ensures c.loop-place.invariant
