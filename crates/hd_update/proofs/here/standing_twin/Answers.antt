use Rattle.std.proofs.Common.{ℕ, true, false, Option, sym, ap, subst, ◌∙◌}
use Rattle.hd_dbd.specs.Segment.{Segment}
use Rattle.hd_links.specs.Links.{IsSegment}
use Rattle.hd_image.specs.Records.{links_of}
use Rattle.hd_get.proofs.Grounds.{tip_there}
use Rattle.hd_update.specs.Places.{is_equal_at, standing_twin}
use Rattle.hd_update.proofs.TwinGaps.{ground}
use Rattle.hd_update.proofs.PlaceStanding.{standing_row, standing_none, other_parent, same_parent}
use Rattle.hd_update.proofs.here.standing_twin.Goals as goal

pub returns-in_default-clause-value : goal.returns-in_default-clause-value
returns-in_default-clause-value g c f q parent at at_parent =
    let d = c.args.dbd.now in
    let new : Segment = record { code = c.args.code; bytes = c.args.bytes.now } in
    sym (ap (λ (o : Option ℕ). standing_twin d.types f parent o new) (standing_none d c.args.volume.now f c.args.position.now q at (sym c.in_default.is ∙ c.standing_path.ensures)))

pub returns-then-parent_on-tip_of-clause-value : goal.returns-then-parent_on-tip_of-clause-value
returns-then-parent_on-tip_of-clause-value g c f q parent at at_parent =
    let d = c.args.dbd.now in
    let v = c.args.volume.now in
    let new : Segment = record { code = c.args.code; bytes = c.args.bytes.now } in
    let X = standing_row d v f c.args.position.now q at c.in-Some.path (sym c.in-Some.is ∙ c.standing_path.ensures) in
    sym (other_parent d v f c.args.position.now q at parent c.args.parent.now at_parent c.in-Some.path X.0 X.1 X.2 new
    (λ e. (let other = c.if-parent_on-tip_of.true in other (c.parent_on.ensures ∙ e ∙ sym c.tip_of.ensures))))

pub is_equal_at-requires-clause-there : goal.is_equal_at-requires-clause-there
is_equal_at-requires-clause-there g c sound =
    let d = c.args.dbd.now in
    let v = c.args.volume.now in
    let T = c.requires.there sound in
    let X = standing_row d v T.0 c.args.position.now T.1 T.3 c.in-Some.path (sym c.in-Some.is ∙ c.standing_path.ensures) in
    subst (IsSegment (links_of d.types v)) (sym c.tip_of-2.ensures) (tip_there d.types (links_of d.types v) T.0 (ground d v T.0 T.3.holds) c.in-Some.path X.0 X.1)

pub returns-then-branch-clause-value : goal.returns-then-branch-clause-value
returns-then-branch-clause-value g c f q parent at at_parent =
    let d = c.args.dbd.now in
    let v = c.args.volume.now in
    let new : Segment = record { code = c.args.code; bytes = c.args.bytes.now } in
    let X = standing_row d v f c.args.position.now q at c.in-Some.path (sym c.in-Some.is ∙ c.standing_path.ensures) in
    sym (same_parent d v f c.args.position.now q at parent c.args.parent.now at_parent c.in-Some.path X.0 X.1 X.2 new
    (sym c.parent_on.ensures ∙ c.if-parent_on-tip_of.false ∙ c.tip_of.ensures) true
    (sym c.if-branch.true ∙ c.in_ok-is_equal_at.ensures.value at.sound ∙ ap (is_equal_at d.types (links_of d.types v) new) c.tip_of-2.ensures))

pub returns-clause-value : goal.returns-clause-value
returns-clause-value g c f q parent at at_parent =
    let d = c.args.dbd.now in
    let v = c.args.volume.now in
    let new : Segment = record { code = c.args.code; bytes = c.args.bytes.now } in
    let X = standing_row d v f c.args.position.now q at c.in-Some.path (sym c.in-Some.is ∙ c.standing_path.ensures) in
    sym (same_parent d v f c.args.position.now q at parent c.args.parent.now at_parent c.in-Some.path X.0 X.1 X.2 new
    (sym c.parent_on.ensures ∙ c.if-parent_on-tip_of.false ∙ c.tip_of.ensures) false
    (sym c.if-branch.false ∙ c.in_ok-is_equal_at.ensures.value at.sound ∙ ap (is_equal_at d.types (links_of d.types v) new) c.tip_of-2.ensures))
