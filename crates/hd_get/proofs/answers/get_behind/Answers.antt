use Rattle.std.proofs.Common.{◌≡◌, ℕ, List, [], None, Option, IsTrue, cond, length, sym, ap, ap₂, subst, ◌∙◌}
use Rattle.hd_dbd.specs.Positions.{Position, Place}
use Rattle.hd_dbd.specs.Calls.{Reply}
use Rattle.hd_links.specs.Steps.{rows_of}
use Rattle.hd_image.specs.Records.{links_of, IsVolumeOf}
use Rattle.hd_forest.specs.Rows.{IsOnRow}
use Rattle.hd_forest.specs.Onward.{onward}
use Rattle.hd_calls.specs.Admits.{Descend}
use Rattle.hd_calls.specs.Ssas.{Ssa}
use Rattle.hd_calls.specs.NoLostUpdate.{is_done}
use Rattle.hd_calls.specs.Gets.{onto, path_rows}
use Rattle.hd_position.specs.Kept.{Kept, StandsFor}
use Rattle.hd_position.specs.Behind.{own_level}
use Rattle.hd_position.specs.Gets.{AreTaken}
use Rattle.hd_get.specs.Gets.{GetCall, levels_taken}
use Rattle.hd_get.specs.Found.{sought_by, status_between}
use Rattle.hd_get.proofs.Seeking.{path_found, found_by, keeps_parent, taken_are, status_is, status_done, answer_found}
use Rattle.hd_get.proofs.RowsBehind.{sought_behind}
use Rattle.hd_get.proofs.answers.get_behind.Goals as goal

pub stand_behind-requires-clause-parent : goal.stand_behind-requires-clause-parent
stand_behind-requires-clause-parent g c sound kind =
    let d = c.args.dbd.now in
    let call : GetCall = c.args.call.now in
    let path : List ℕ = onward d.types c.args.position.now.path c.args.address c.args.code in
    let T = c.requires.there sound in
    let of : IsTrue c.args.volume.now.is_sound → IsVolumeOf d c.args.volume.now = λ now. (c.requires.there now).2.holds.volume in
    let sought = sought_behind d c.args.volume.now c.args.position.now c.args.address c.args.code of c.requires.behind call c.requires.bare c.requires.begins c.requires.may in
    let P = path_found d.types T.0 path (sought_by call d.types (rows_of T.0) T.1) (sought T.0 T.1 T.2) in
    keeps_parent d c.args.volume.now T.0 c.args.position.now T.1 T.2 call P.0 (found_by call d.types (rows_of T.0) T.1 P.0 P.1) (ap (λ (x : GetCall). x.kind) (sym c.call.view_is) ∙ kind) path P.2

pub stand_behind-requires-clause-code : goal.stand_behind-requires-clause-code
stand_behind-requires-clause-code g c sound = (c.requires.behind sound).1

pub returns : goal.returns
returns g c = record {
  path = c.stand_behind.ensures.path;
  value = λ f q at.
      let d = c.args.dbd.now in
      let v = c.args.volume.now in
      let k : Kept = c.args.position.now in
      let call : GetCall = c.args.call.now in
      let path : List ℕ = onward d.types k.path c.args.address c.args.code in
      let of : IsTrue v.is_sound → IsVolumeOf d v = λ now. (c.requires.there now).2.holds.volume in
      let sought = sought_behind d v k c.args.address c.args.code of c.requires.behind call c.requires.bare c.requires.begins c.requires.may in
      let P = path_found d.types f path (sought_by call d.types (rows_of f) q) (sought f q at) in
      let F = found_by call d.types (rows_of f) q P.0 P.1 in
      let on : IsOnRow d.types (links_of d.types v) f path P.0 = record { holds = at.holds.records; within = F.within; is = P.2 } in
      let levels : own_level call.hold path ≡ cond call.hold (levels_taken d.types call.ssas (length path)) []
      = ap (λ (ssas : List Ssa). cond call.hold (levels_taken d.types ssas (length path)) []) (sym c.requires.bare) in
      let taken = taken_are d v f k q at call P.0 F (subst (Descend d.types None) (sym c.requires.bare) tt) path (own_level call.hold path) on levels in
      let new : Kept = c.stand_behind.new.position in
      let stands : StandsFor d.types f new (onto d.types (rows_of f) q call.kind call.hold (path_rows d.types (rows_of f) call.ssas P.0) P.0)
      = subst (λ (x : GetCall). AreTaken d.types f path (own_level x.hold path) P.0 call.hold (path_rows d.types (rows_of f) call.ssas P.0) →
      StandsFor d.types f new (onto d.types (rows_of f) q x.kind call.hold (path_rows d.types (rows_of f) call.ssas P.0) P.0)) c.call.view_is
      (λ taken. c.stand_behind.ensures.value at.sound f q P.0 call.hold (path_rows d.types (rows_of f) call.ssas P.0) (record { holds = at.holds.records; stands = at.stands }) on taken) taken in
      let is = answer_found call d.types (rows_of f) q P.0 P.1 in
      let status : c.status_between.result ≡ status_between call.kind call.ssas q.last (onto d.types (rows_of f) q call.kind call.hold (path_rows d.types (rows_of f) call.ssas P.0) P.0).last
      = c.status_between.ensures
      ∙ ap₂ (λ (a b : Option Place). status_between call.kind call.ssas a b) (c.last-last.ensures ∙ sym at.stands.last) (c.last.ensures ∙ sym stands.last) in (
        (
          ap (λ (r : Reply × Position). r.0.status) is ∙ status_is d.types (rows_of f) q call.kind call.ssas P.0 ∙ sym status,
          ap is_done c.status_between.ensures ∙ status_done call.kind call.ssas _ _,
        ),
        subst (λ (r : Reply × Position). StandsFor d.types f new r.1) (sym is) stands,
      );
}
