use Rattle.std.proofs.Common.{◌≡◌, ℕ, List, length, sym, subst}
use Rattle.hd_dbd.specs.declared.answer.Status.TheVariants.{Blank}
use Rattle.hd_calls.specs.Steps.{position_at, delete_row}
use Rattle.hd_volume.proofs.CallSteps.{call-ok}
use Rattle.hd_volume.proofs.JoinLemmas.{calls-join}
use Rattle.hd_forest.specs.Walks.{tip}
use Rattle.hd_forest.proofs.Reading.{after-read, sound-before}
use Rattle.hd_position.specs.Kept.{Kept, path_before}
use Rattle.hd_get.specs.declared.outcome.Outcome.TheVariants.{Found}
use Rattle.hd_update.specs.Deleting.{IsPlacedOn}
use Rattle.hd_update.specs.Positions.{all_without_row, unheld_at}
use Rattle.hd_update.specs.States.{IsAnswered}
use Rattle.hd_update.proofs.Answering.{row_deleted}
use Rattle.hd_update.proofs.Unlinked.{placed_read}
use Rattle.hd_update.proofs.dlet_call.delete_row.Goals as goal

pub delete_span-requires : goal.delete_span-requires
delete_span-requires g c = record {
  there = λ now.
      (let sound = sound-before c.args.volume.now c.row_before.new.volume c.in_ok-before.ensures.read now in
      let T = c.requires.state sound in
      (T.2.placed, T.1, placed_read c.args.dbd.now c.args.volume.now c.row_before.new.volume c.in_ok-before.ensures.read T.2.placed c.args.path.now T.1 (record { sound = sound; later = T.2.later; holds = T.2.holds; row = T.3 })));
}

pub returns-clause-done : goal.returns-clause-done
returns-clause-done g c pcb st i sound R on =
    let d = c.args.dbd.now in
    let v = c.args.volume.now in
    let mid = c.row_before.new.volume in
    let w = c.delete_span.new.volume in
    let path : List ℕ = c.args.path.now in
    let old : List Kept = c.args.positions.now in
    let same = after-read d v mid c.in_ok-before.ensures.read sound in
    let now : IsPlacedOn d mid R.placed path i = placed_read d v mid c.in_ok-before.ensures.read R.placed path i (record { sound = sound; later = R.later; holds = R.holds; row = on }) in
    let before : c.in_ok-before.before ≡ path_before d.types R.placed i = c.in_ok-before.ensures.value sound R.placed i on in
    let left : c.leave_spans.new.positions ≡ all_without_row (tip path) (length path) (path_before d.types R.placed i) old
    = subst (λ (b : List ℕ). c.leave_spans.new.positions ≡ all_without_row (tip path) (length path) b old) before c.leave_spans.ensures in
    subst (λ (kept : List Kept). IsAnswered d v st c.args.number (delete_row (record { types = d.types; pcb = pcb }) st.rows (position_at st c.args.number) i) (Found Blank) w kept)
    (sym (subst (λ (kept : List Kept). c.end_hold.new.positions ≡ unheld_at c.args.number kept) left c.end_hold.ensures))
    (row_deleted d pcb v old st c.args.number i R c.requires.number.0 c.requires.number.1 path mid w same.image (c.in_ok-delete_span.ensures.taken_out R.placed i now))

pub returns-clause-call : goal.returns-clause-call
returns-clause-call g c = call-ok (Found Blank) (calls-join _ c.in_ok-before.ensures.read.call c.in_ok-delete_span.ensures.call)
