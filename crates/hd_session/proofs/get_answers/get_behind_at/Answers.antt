use Rattle.std.proofs.Common.{◌≡◌, ℕ, List, [], ◌∷◌, None, length, refl, ap, sym, subst, ◌∙◌}
use Rattle.hd_volume.proofs.CallSteps.{if-ok}
use Rattle.hd_calls.specs.Admits.{Descend}
use Rattle.hd_calls.specs.Ssas.{Ssa}
use Rattle.hd_calls.specs.Gets.{path_rows}
use Rattle.hd_links.specs.Steps.{rows_of}
use Rattle.hd_image.specs.Records.{links_of}
use Rattle.hd_forest.specs.Rows.{IsOnRow}
use Rattle.hd_position.specs.Kept.{Kept}
use Rattle.hd_get.specs.Gets.{GetCall, levels_taken}
use Rattle.hd_session.specs.LastGiven.{Given, IsJustBelow}
use Rattle.hd_session.proofs.GotRows.{found_row, row_on_path, rows_given, get_reply, given_alone}
use Rattle.hd_session.proofs.get_answers.get_behind_at.Goals as goal

pub give_below-requires-clause-of : goal.give_below-requires-clause-of
give_below-requires-clause-of g c sound = (c.requires.there sound).2.holds.volume

pub give_below-requires-clause-there : goal.give_below-requires-clause-there
give_below-requires-clause-there g c sound =
    let d = c.args.dbd.now in
    let u = c.args.volume.now in
    let call : GetCall = c.args.call.now in
    let old : Kept = c.args.position.now in
    let new : Kept = c.get_behind-status.new.position in
    let T = c.requires.there sound in
    let got = c.get_behind-status.ensures.value T.0 T.1 T.2 in
    let F = found_row d u call old new T.0 T.1 T.2 c.get_behind-status.result got.0 got.1 in (
      T.0,
      F.0,
      subst (λ (path : List ℕ). IsOnRow d.types (links_of d.types u) T.0 path F.0) (sym c.path.ensures) (row_on_path d u call old new T.0 T.1 T.2 c.get_behind-status.result got.0 got.1 F.0 F.1),
    )

pub give_below-requires-clause-below : goal.give_below-requires-clause-below
give_below-requires-clause-below g c =
    let above : Given = c.args.last_given.now in
    subst (λ (path : List ℕ). IsJustBelow path above) (sym (c.path.ensures ∙ c.get_behind-status.ensures.path)) c.requires.below

pub returns-clause-value : goal.returns-clause-value
returns-clause-value g c = if-ok c.give_below.result c.give_below.ensures.given (λ a given f q at.
    let d = c.args.dbd.now in
    let u = c.args.volume.now in
    let call : GetCall = c.args.call.now in
    let old : Kept = c.args.position.now in
    let new : Kept = c.get_behind-status.new.position in
    let got = c.get_behind-status.ensures.value f q at in
    let F = found_row d u call old new f q at c.get_behind-status.result got.0 got.1 in
    let own : length new.path ∷ [] ≡ levels_taken d.types call.ssas (length new.path) = ap (λ (ssas : List Ssa). levels_taken d.types ssas (length new.path)) (sym c.requires.bare) in
    let descend = subst (Descend d.types None) (sym c.requires.bare) tt in
    let rows = rows_given d u call old new f q at c.get_behind-status.result got.0 got.1 F.0 F.1 u (length new.path ∷ []) at.sound refl descend own in
    let there = given_alone d u c.path.result.now new.path c.get_behind-status.result c.path.ensures given in
    (get_reply d u call old new f q at c.get_behind-status.result got.0 got.1 F.0 F.1 _ (there f F.0 (path_rows d.types (rows_of f) call.ssas F.0) call.pcb rows), got.1))
