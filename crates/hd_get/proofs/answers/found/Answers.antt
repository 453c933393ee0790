use Rattle.std.proofs.Common.{◌≡◌, ◌<◌, length, sym, ap, subst, ◌∙◌, arith, inl, inr}
use Rattle.std.specs.Prelude.{◌==◌}
use Rattle.std.proofs.lemmas.Bool.{cases_lt, and_parts, eqb-true, eq-eqb, false≢true}
use Rattle.hd_dbd.specs.Paths.{row_at}
use Rattle.hd_forest.specs.Rows.{IsOnRow}
use Rattle.hd_calls.specs.Ssas.{target_code}
use Rattle.hd_calls.specs.Satisfies.{is_named}
use Rattle.hd_links.specs.Links.{Links, IsSegment}
use Rattle.hd_links.specs.Steps.{rows_of}
use Rattle.hd_image.specs.Records.{links_of}
use Rattle.hd_forest.specs.Walks.{tip}
use Rattle.hd_forest.proofs.Reading.{after-read, sound-before}
use Rattle.hd_get.specs.Gets.{GetCall}
use Rattle.hd_get.specs.Found.{sought_by}
use Rattle.hd_get.proofs.Grounds.{grounds, tip_there, tip_code}
use Rattle.hd_get.proofs.Seeking.{path_found, found_by, satisfies_named, position_told, position_back, position_kept}
use Rattle.hd_get.proofs.answers.found.Goals as goal

-- the row is of the last argument's type
pub leave_on-requires-clause-code : goal.leave_on-requires-clause-code
leave_on-requires-clause-code g c sound =
    let d = c.args.dbd.now in
    let u = c.args.volume.now in
    let call : GetCall = c.args.call.now in
    let T = c.requires.there sound in
    let rows = rows_of T.0 in
    let P = path_found d.types T.0 c.args.path (sought_by call d.types rows T.1) (c.requires.sought T.0 T.1 T.2) in
    let F = found_by call d.types rows T.1 P.0 P.1 in
    let on : IsOnRow d.types (links_of d.types u) T.0 c.args.path P.0 = record { holds = T.2.holds.records; within = F.within; is = P.2 } in
    let some : 0 < length call.ssas = elim (cases_lt 0 (length call.ssas)) [
      | inl w ↦ w
      | inr w ↦ absurd (let z : length call.ssas ≡ 0 = omega arith in false≢true (sym c.if-not-is_empty.true ∙ c.is_empty.ensures ∙ ap (λ (x : GetCall). length x.ssas == 0) c.call.view_is ∙ eq-eqb (length call.ssas) 0 z))
    ] in
    let named = (and_parts (is_named d.types rows call.ssas P.0) _ (sym (satisfies_named (record { types = d.types; pcb = call.pcb }) rows call.ssas P.0 some) ∙ F.passes)).0 in
    let code = eqb-true (row_at rows P.0).code (target_code call.ssas) (and_parts ((row_at rows P.0).code == target_code call.ssas) _ named).0 in
    c.target_code-code.ensures ∙ ap (λ (x : GetCall). target_code x.ssas) c.call.view_is ∙ sym code ∙ sym (tip_code d.types (links_of d.types u) T.0 (grounds d u T.0 T.2.holds.volume T.2.holds.records) c.args.path P.0 on)

pub code_at-requires-clause-there : goal.code_at-requires-clause-there
code_at-requires-clause-there g c sound =
    let d = c.args.dbd.now in
    let u = c.args.volume.now in
    let call : GetCall = c.args.call.now in
    let T = c.requires.there sound in
    let P = path_found d.types T.0 c.args.path (sought_by call d.types (rows_of T.0) T.1) (c.requires.sought T.0 T.1 T.2) in
    subst (IsSegment (links_of d.types u)) (sym c.tip_of.ensures)
    (tip_there d.types (links_of d.types u) T.0 (grounds d u T.0 T.2.holds.volume T.2.holds.records) c.args.path P.0
    (record { holds = T.2.holds.records; within = (found_by call d.types (rows_of T.0) T.1 P.0 P.1).within; is = P.2 }))

pub leave_on-requires-2-clause-there : goal.leave_on-requires-2-clause-there
leave_on-requires-2-clause-there g c = position_kept c.args.dbd.now c.args.volume.now c.code_at.new.volume c.in_ok-code.ensures.read c.args.position.now c.requires.there

pub leave_on-requires-2-clause-sought : goal.leave_on-requires-2-clause-sought
leave_on-requires-2-clause-sought g c f q at = c.requires.sought f q (position_back c.args.dbd.now c.args.volume.now c.code_at.new.volume c.in_ok-code.ensures.read f c.args.position.now q at)

pub leave_on-requires-2-clause-code : goal.leave_on-requires-2-clause-code
leave_on-requires-2-clause-code g c now =
    let d = c.args.dbd.now in
    let u = c.args.volume.now in
    let v = c.code_at.new.volume in
    let sound = sound-before u v c.in_ok-code.ensures.read now in
    c.in_ok-code.ensures.value sound ∙ ap (links_of d.types u).code c.tip_of.ensures
    ∙ ap (λ (m : Links). m.code (tip c.args.path)) (sym (after-read d u v c.in_ok-code.ensures.read sound).links)

pub returns-clause-value : goal.returns-clause-value
returns-clause-value g c f q at = c.leave_on-2.ensures.value f q (position_told c.args.dbd.now c.args.volume.now c.code_at.new.volume c.in_ok-code.ensures.read f c.args.position.now q at)
