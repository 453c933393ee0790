use Rattle.std.proofs.Common.{◌≡◌, true, Some, None, sym, subst, ◌∙◌}
use Rattle.hd_links.specs.Links.{is_child_type}
use Rattle.hd_links.specs.Steps.{rows_of}
use Rattle.hd_image.specs.Records.{links_of}
use Rattle.hd_get.proofs.Grounds.{grounds, tip_code}
use Rattle.hd_get.proofs.Descents.{admits_key, child_type_is, from_parts, stayed, stepped_to_key}
use Rattle.hd_get.proofs.by_key.step_to_key.Goals as goal

pub go_below-requires-clause-typed : goal.go_below-requires-clause-typed
go_below-requires-clause-typed g c sound =
    let d = c.args.dbd.now in
    let u = c.args.volume.now in
    let of = c.requires.of sound in
    let T = c.requires.there sound in
    subst (λ k. is_child_type d.types k c.args.code ≡ true) (sym (tip_code d.types (links_of d.types u) T.0 (grounds d u T.0 of T.2.holds) c.args.path.now T.1 T.2))
    (child_type_is d u of T.0 c.args.path.now T.1 c.args.code T.2 (c.requires.parent sound))

pub returns-in_default-clause-value : goal.returns-in_default-clause-value
returns-in_default-clause-value g c f i at way =
    stayed c.args.dbd.now.types (links_of c.args.dbd.now.types c.args.volume.now) f c.args.ssas.now i c.args.code c.args.path.now c.go_below.new.path at.row ((c.in_ok-is_equal.ensures.value f i at).stays c.in_default.is)

pub returns-then-not-is_equal-clause-value : goal.returns-then-not-is_equal-clause-value
returns-then-not-is_equal-clause-value g c f i at way =
    let J = (c.in_ok-is_equal.ensures.value f i at).below c.in-Some.is_equal c.in-Some.is in
    stepped_to_key c.args.dbd.now c.args.volume.now (c.requires.of at.sound) f c.args.path.now i c.args.code at.row (c.requires.parent at.sound) c.args.ssas.now way c.args.key.now c.requires.least
    J.0 J.1 c.go_below.new.path J.2 None tt

pub returns-clause-value : goal.returns-clause-value
returns-clause-value g c f i at way =
    let d = c.args.dbd.now in
    let J = (c.in_ok-is_equal.ensures.value f i at).below c.in-Some.is_equal c.in-Some.is in
    stepped_to_key d c.args.volume.now (c.requires.of at.sound) f c.args.path.now i c.args.code at.row (c.requires.parent at.sound) c.args.ssas.now way c.args.key.now c.requires.least
    J.0 J.1 c.go_below.new.path J.2 (Some c.ask_for.result)
    (λ e. admits_key d.types (rows_of f) J.0 c.args.code c.args.ssas.now c.args.key.now (from_parts d.types (rows_of f) i c.args.code at.row.within c.args.key.now J.1.first J.0 J.1.is_first J.1.from).code_is
    (J.3 c.if-not-is_equal.false) (sym c.ask_for.ensures ∙ e))
