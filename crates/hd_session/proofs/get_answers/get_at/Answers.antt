use Rattle.std.proofs.Common.{ℕ, List, length, refl, ap, sym, subst, ◌∙◌}
use Rattle.hd_volume.proofs.CallSteps.{if-ok, reads-join}
use Rattle.hd_calls.specs.Gets.{path_rows}
use Rattle.hd_links.specs.Links.{Links}
use Rattle.hd_links.specs.Steps.{rows_of}
use Rattle.hd_image.specs.Records.{links_of}
use Rattle.hd_forest.specs.Rows.{IsOnRow}
use Rattle.hd_forest.proofs.Reading.{after-read, sound-before}
use Rattle.hd_position.specs.Kept.{Kept}
use Rattle.hd_get.specs.declared.outcome.Outcome.{Outcome}
use Rattle.hd_get.specs.Gets.{GetCall, IsOutcomeOf, answer_to, levels_taken}
use Rattle.hd_session.proofs.KeysKnown.{keys_kept}
use Rattle.hd_session.proofs.GotRows.{found_row, row_on_path, rows_given, get_reply, missed_reply, given_taken, given_asked}
use Rattle.hd_session.proofs.get_answers.get_at.Goals as goal

pub give_found-requires-clause-of : goal.give_found-requires-clause-of
give_found-requires-clause-of g c now =
    let d = c.args.dbd.now in
    let u = c.args.volume.now in
    let mid = c.get.new.volume in
    let sound = sound-before u mid c.in_ok-status.ensures.read now in
    let T = c.requires.there sound in
    (after-read d u mid c.in_ok-status.ensures.read sound).volume T.2.holds.volume

pub give_found-requires-clause-there : goal.give_found-requires-clause-there
give_found-requires-clause-there g c now =
    let d = c.args.dbd.now in
    let u = c.args.volume.now in
    let mid = c.get.new.volume in
    let call : GetCall = c.args.call.now in
    let old : Kept = c.args.position.now in
    let new : Kept = c.get.new.position in
    let sound = sound-before u mid c.in_ok-status.ensures.read now in
    let same = after-read d u mid c.in_ok-status.ensures.read sound in
    let T = c.requires.there sound in
    let got = c.in_ok-status.ensures.value T.0 T.1 T.2 in
    let outcome = subst (λ (o : Outcome). IsOutcomeOf o (answer_to call d.types (rows_of T.0) T.1).0) c.in-Found.is got.0 in
    let F = found_row d u call old new T.0 T.1 T.2 c.in-Found.status outcome got.1 in (
      T.0,
      F.0,
      subst (λ (path : List ℕ). IsOnRow d.types (links_of d.types mid) T.0 path F.0) (sym c.path.ensures)
          (subst (λ (m : Links). IsOnRow d.types m T.0 new.path F.0) (sym same.links) (row_on_path d u call old new T.0 T.1 T.2 c.in-Found.status outcome got.1 F.0 F.1)),
    )

pub give_found-requires-clause-known : goal.give_found-requires-clause-known
give_found-requires-clause-known g c = keys_kept c.args.dbd.now c.args.volume.now c.get.new.volume c.in_ok-status.ensures.read c.args.last_given.now c.requires.known

pub returns-in-Missing-clause-known : goal.returns-in-Missing-clause-known
returns-in-Missing-clause-known g c = keys_kept c.args.dbd.now c.args.volume.now c.get.new.volume c.in_ok-status.ensures.read c.args.last_given.now c.requires.known

pub returns-in-Found-clause-read : goal.returns-in-Found-clause-read
returns-in-Found-clause-read g c = reads-join c.give_found.result c.in_ok-status.ensures.read c.give_found.ensures.read

pub returns-in-Found-clause-value : goal.returns-in-Found-clause-value
returns-in-Found-clause-value g c = if-ok c.give_found.result c.give_found.ensures.given (λ a given f q at.
    let d = c.args.dbd.now in
    let u = c.args.volume.now in
    let mid = c.get.new.volume in
    let call : GetCall = c.args.call.now in
    let old : Kept = c.args.position.now in
    let new : Kept = c.get.new.position in
    let same = after-read d u mid c.in_ok-status.ensures.read at.sound in
    let got = c.in_ok-status.ensures.value f q at in
    let outcome = subst (λ (o : Outcome). IsOutcomeOf o (answer_to call d.types (rows_of f) q).0) c.in-Found.is got.0 in
    let F = found_row d u call old new f q at c.in-Found.status outcome got.1 in
    let there = given_taken d mid c.path.result.now new.path call.ssas c.in-Found.status c.path.ensures
    (given_asked d mid c.path.result.now c.call.inside.ssas.now call.ssas c.in-Found.status (ap (λ (x : GetCall). x.ssas) c.call.view_is) given) in
    let rows = rows_given d u call old new f q at c.in-Found.status outcome got.1 F.0 F.1 mid (levels_taken d.types call.ssas (length new.path)) same.sound same.links c.requires.descend refl in
    (get_reply d u call old new f q at c.in-Found.status outcome got.1 F.0 F.1 _ (there f F.0 (path_rows d.types (rows_of f) call.ssas F.0) call.pcb rows), got.1))

pub returns-in-Missing-clause-value : goal.returns-in-Missing-clause-value
returns-in-Missing-clause-value g c f q at =
    let d = c.args.dbd.now in
    let call : GetCall = c.args.call.now in
    let got = c.in_ok-status.ensures.value f q at in
    let outcome = subst (λ (o : Outcome). IsOutcomeOf o (answer_to call d.types (rows_of f) q).0) c.in-Missing.is got.0 in
    (c.give_none.ensures.reply ∙ missed_reply call d f q c.in-Missing.status outcome.0 outcome.1, got.1)
