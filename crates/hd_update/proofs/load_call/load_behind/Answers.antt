use Rattle.std.proofs.Common.{◌≡◌, ℕ, ◌-◌, ◌++◌, List, [], ◌∷◌, length, take, IsTrue, Ok, None, ap, subst, arith, ◌∙◌}
use Rattle.hd_dbd.specs.Segment.{Segment}
use Rattle.hd_dbd.specs.Rows.{level}
use Rattle.hd_dbd.specs.Forest.{Forest}
use Rattle.hd_dbd.specs.Loads.{load_fault}
use Rattle.hd_volume.proofs.CallSteps.{sound-back, call-ok}
use Rattle.hd_volume.proofs.JoinLemmas.{calls-join}
use Rattle.hd_links.specs.Placed.{Placed}
use Rattle.hd_links.specs.LastRows.{last_on, segments_of}
use Rattle.hd_links.specs.Steps.{rows_of}
use Rattle.hd_position.specs.Kept.{kept_start}
use Rattle.std.proofs.lemmas.List.{get_or_default}
use Rattle.hd_update.specs.Loading.{IsLastPath}
use Rattle.hd_update.proofs.LastPaths.{one_forest}
use Rattle.hd_update.proofs.LoadedStates.{on_new, row_loaded_from}
use Rattle.hd_update.proofs.load_call.load_behind.Goals as goal

pub stand_on_new-requires-clause-of : goal.stand_on_new-requires-clause-of
stand_on_new-requires-clause-of g c now =
    let sound = sound-back (Ok c.in_ok-address.address) c.args.volume.now.is_sound c.put_last.new.volume.is_sound c.in_ok-address.ensures.call.sound now in
    let T = c.requires.may sound in
    (c.in_ok-address.ensures.put_in T.0 T.1).is_in.holds.volume

pub stand_on_new-requires-clause-there : goal.stand_on_new-requires-clause-there
stand_on_new-requires-clause-there g c now =
    let d = c.args.dbd.now in
    let v = c.args.volume.now in
    let row : Segment = record { code = c.args.code; bytes = c.args.bytes.now } in
    let sound = sound-back (Ok c.in_ok-address.address) v.is_sound c.put_last.new.volume.is_sound c.in_ok-address.ensures.call.sound now in
    let T = c.requires.may sound in
    let P = c.in_ok-address.ensures.put_in T.0 T.1 in
    let own : c.step.new.self ≡ take (level d.types row - 1) c.args.path.now ++ c.in_ok-address.address ∷ []
    = c.step.ensures ∙ ap (λ (n : ℕ). take (n - 1) c.copy-own.result ++ c.in_ok-address.address ∷ []) c.level.ensures.level
    ∙ ap (λ (xs : List ℕ). take (level d.types row - 1) xs ++ c.in_ok-address.address ∷ []) c.copy-own.ensures in
    (_, length (rows_of T.0), on_new d v T.0 c.args.path.now row T.1.is c.requires.fits T.2 c.in_ok-address.address c.put_last.new.volume P c.step.new.self own)

pub returns-clause-call : goal.returns-clause-call
returns-clause-call g c = call-ok _ (calls-join _ c.in_ok-address.ensures.call c.in_ok-stand_on_new.ensures.read.call)

pub returns-clause-done : goal.returns-clause-done
returns-clause-done g c pcb st sound R =
    let d = c.args.dbd.now in
    let v = c.args.volume.now in
    let w = c.put_last.new.volume in
    let row : Segment = record { code = c.args.code; bytes = c.args.bytes.now } in
    let T = c.requires.may sound in
    let same : T.0 ≡ R.placed = one_forest d v T.0 R.placed T.1.holds R.holds in
    let L : IsLastPath d v c.args.path.now R.placed = subst (λ (f : Forest Placed). IsLastPath d v c.args.path.now f) same T.1 in
    let may : load_fault d.types (segments_of (last_on R.placed)) row ≡ None = subst (λ (f : Forest Placed). load_fault d.types (segments_of (last_on f)) row ≡ None) same T.2 in
    let P = c.in_ok-address.ensures.put_in R.placed L in
    let now : IsTrue w.is_sound = rw c.in_ok-address.ensures.call.sound sound in
    let own : c.step.new.self ≡ take (level d.types row - 1) c.args.path.now ++ c.in_ok-address.address ∷ []
    = c.step.ensures ∙ ap (λ (n : ℕ). take (n - 1) c.copy-own.result ++ c.in_ok-address.address ∷ []) c.level.ensures.level
    ∙ ap (λ (xs : List ℕ). take (level d.types row - 1) xs ++ c.in_ok-address.address ∷ []) c.copy-own.ensures in
    row_loaded_from d pcb v c.args.positions.now st c.args.number R c.requires.number.0 c.requires.number.1 c.args.path.now row L.is c.requires.fits may c.in_ok-address.address w P
    c.stand_on_new.new.volume c.stand_on_new.new.position _ c.step.new.self own c.in_ok-stand_on_new.ensures.read now (c.in_ok-stand_on_new.ensures.value now)
    (get_or_default c.args.positions.now (c.args.number - 1) c.index-positions-number.result kept_start (let low = c.requires.number.0 in let high = c.requires.number.1 in omega arith))
