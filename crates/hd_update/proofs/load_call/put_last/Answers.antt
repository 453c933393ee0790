use Rattle.std.proofs.Common.{◌≡◌, ℕ, List, [], ◌∷◌, sym, subst, ◌∙◌}
use Rattle.hd_dbd.specs.Segment.{Segment}
use Rattle.hd_calls.specs.Runs.{LacksRoom, has_root}
use Rattle.hd_volume.proofs.CallSteps.{if-ok}
use Rattle.hd_volume.proofs.JoinLemmas.{if-err-map}
use Rattle.hd_links.specs.LastRows.{last_on, parent_on_path, twin_on_path}
use Rattle.hd_forest.proofs.Reading.{after-read, sound-before}
use Rattle.hd_changes.specs.VolumeImages.{images_of}
use Rattle.hd_update.specs.Putting.{IsPutIn}
use Rattle.hd_update.proofs.LastPaths.{last_read}
use Rattle.hd_update.proofs.LoadedStates.{may_put, parent_is, root_parent_none, parent_there}
use Rattle.hd_update.proofs.PutRoots.{put_before}
use Rattle.hd_update.proofs.Reading.{held_read, later_read}
use Rattle.hd_update.proofs.load_call.put_last.Goals as goal

pub put_row-requires-clause-root : goal.put_row-requires-clause-root
put_row-requires-clause-root g c now is =
    let v = c.args.volume.now in
    let T = c.requires.may (sound-before v c.last_twin.new.volume c.in_ok-twin.ensures.read now) in
    c.last_parent-parent.ensures ∙ root_parent_none c.args.dbd.now v T.0 c.args.path.now c.args.code T.1.holds is

pub put_row-requires-clause-below : goal.put_row-requires-clause-below
put_row-requires-clause-below g c now other none =
    let d = c.args.dbd.now in
    let v = c.args.volume.now in
    let row : Segment = record { code = c.args.code; bytes = c.args.bytes.now } in
    let T = c.requires.may (sound-before v c.last_twin.new.volume c.in_ok-twin.ensures.read now) in
    parent_there d v T.0 row T.1.holds c.requires.fits T.2 other (sym (parent_is d.types c.args.path.now (last_on T.0) row T.1.is) ∙ sym c.last_parent-parent.ensures ∙ none)

pub put_row-requires-clause-may : goal.put_row-requires-clause-may
put_row-requires-clause-may g c now =
    let d = c.args.dbd.now in
    let v = c.args.volume.now in
    let w = c.last_twin.new.volume in
    let row : Segment = record { code = c.args.code; bytes = c.args.bytes.now } in
    let T = c.requires.may (sound-before v w c.in_ok-twin.ensures.read now) in
    let L = last_read d v w c.in_ok-twin.ensures.read c.args.path.now T.0 T.1 in
    may_put d w T.0 row c.last_parent-parent.result c.in_ok-twin.twin L.holds L.later c.requires.fits T.2
    (c.last_parent-parent.ensures ∙ parent_is d.types c.args.path.now (last_on T.0) row T.1.is)
    (c.in_ok-twin.ensures.value T.0 T.1)

pub returns-clause-put_in : goal.returns-clause-put_in
returns-clause-put_in g c = if-ok c.put_row.result c.put_row.ensures.put_in (λ a put f L.
    let d = c.args.dbd.now in
    let v = c.args.volume.now in
    let w = c.last_twin.new.volume in
    let x = c.put_row.new.volume in
    let row : Segment = record { code = c.args.code; bytes = c.args.bytes.now } in
    let read = c.in_ok-twin.ensures.read in
    let same = after-read d v w read L.sound in
    let parent : c.last_parent-parent.result ≡ parent_on_path d.types (last_on f) row = c.last_parent-parent.ensures ∙ parent_is d.types c.args.path.now (last_on f) row L.is in
    let twin : c.in_ok-twin.twin ≡ twin_on_path d.types (last_on f) row = c.in_ok-twin.ensures.value f L in
    subst (λ (h : ℕ). IsPutIn d v f h (twin_on_path d.types (last_on f) row) row a x) parent
    (subst (λ (y : ℕ). IsPutIn d v f c.last_parent-parent.result y row a x) twin
    (put_before d v w x f c.last_parent-parent.result c.in_ok-twin.twin row a (record { same = record { size = read.call.size; sizes = read.call.sizes }; image = same.image }) L.holds
    (put f same.sound (held_read d v w read L.sound f L.holds)))))

pub returns-clause-full : goal.returns-clause-full
returns-clause-full g c = if-err-map c.put_row.result (λ e full is sound.
    (let d = c.args.dbd.now in
    let v = c.args.volume.now in
    let w = c.last_twin.new.volume in
    let row : Segment = record { code = c.args.code; bytes = c.args.bytes.now } in
    let read = c.in_ok-twin.ensures.read in
    let same = after-read d v w read sound in
    let T = c.requires.may sound in
    subst (λ (x : List ℕ). LacksRoom (images_of d) d.types x (row ∷ []) (has_root (row ∷ []))) same.image
    (full is same.sound (λ _. (T.0, held_read d v w read sound T.0 T.1.holds, later_read d v w read sound T.1.later))))) c.put_row.ensures.full
