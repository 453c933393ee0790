use Rattle.std.proofs.Common.{◌≡◌, ℕ, ◌+◌, ◌<◌, ◌≤◌, [], List, length, take, drop, true, Ok, Err, IsTrue, IfErr, Result, sym, ap, subst, ◌∙◌, arith}
use Rattle.std.specs.Prelude.{map, slice_index_or}
use Rattle.std.proofs.lemmas.List.{length-append}
use Rattle.std.proofs.lemmas.Result.{err_from_is_err_and}
use Rattle.hd_dbd.specs.declared.answer.Refused.{Refused}
use Rattle.hd_dbd.specs.declared.answer.Refused.TheVariants.{Device}
use Rattle.hd_dbd.specs.Rows.{row_fits}
use Rattle.hd_calls.specs.Moves.{Rewrite}
use Rattle.hd_dbd.specs.Prefixes.{size_with}
use Rattle.hd_volume.specs.Rooms.{spare, HasHole}
use Rattle.hd_forest.specs.Walks.{tip}
use Rattle.hd_forest.specs.Replacing.{Outgrows}
use Rattle.hd_volume.proofs.CallSteps.{call-ok, call-none, sound-back}
use Rattle.hd_volume.proofs.JoinLemmas.{calls-join}
use Rattle.hd_links.specs.Moves.{moved_to}
use Rattle.hd_update.specs.Paths.{path_up_to}
use Rattle.hd_update.specs.Replacing.{AreReplaced, MayReplace, IsReplacedTo, part_for}
use Rattle.hd_update.specs.declared.rewrites.NewBytes.{NewBytes}
use Rattle.hd_update.specs.declared.replaced.ReplacedRow.{ReplacedRow}
use Rattle.hd_update.specs.declared.replaced.ReplacedRows.{ReplacedRows}
use Rattle.hd_update.proofs.Rewritten.{IsSoFar, next_of, none_left, none_so_far, may_be_replaced, row_refused, one_more, in_area}
use Rattle.hd_update.proofs.replacements.replace_rows.Goals as goal

abbrev none : NewBytes
none = record { address = 0; code = 0; had = 0; start = 0; length = 0 }

pub loop-place-init : goal.loop-place-init
loop-place-init g c = record {
  call = call-none c.args.volume.now 0;
  few = ap (λ (rs : List ReplacedRow). length rs) c.new-rows.ensures;
  done = λ f ws sound C.
      (let d = c.args.dbd.now in
      let v = c.args.volume.now in
      let area : List ℕ = c.args.area.now in
      let news : List NewBytes = c.args.news.now in
      subst (λ (own : List ℕ). IsSoFar d v c.args.path.now area news f ws C v own c.new-rows.result [] ws) (sym c.copy-own.ensures)
      (subst (λ (rows : List ReplacedRow). IsSoFar d v c.args.path.now area news f ws C v c.args.path.now rows [] ws) (sym c.new-rows.ensures)
      (none_so_far d v c.args.path.now area news f ws C)));
}

pub replace_row-requires-clause-fits : goal.replace_row-requires-clause-fits
replace_row-requires-clause-fits g c =
    let n : NewBytes = slice_index_or c.args.news.now c.loop-place.place none in
    let A = in_area c.args.dbd.now.types c.args.area.now c.args.news.now c.loop-place.place none c.requires.fit c.loop-place-test.true in
    subst (λ (b : List ℕ). row_fits c.args.dbd.now.types (record { code = n.code; bytes = b }) ≡ true) (sym (c.part_for.ensures A.within)) A.fits

pub replace_row-requires-clause-may : goal.replace_row-requires-clause-may
replace_row-requires-clause-may g c sound =
    let d = c.args.dbd.now in
    let v = c.args.volume.now in
    let x = c.loop-place.volume in
    let area : List ℕ = c.args.area.now in
    let news : List NewBytes = c.args.news.now in
    let place : ℕ = c.loop-place.place in
    let first : IsTrue v.is_sound = sound-back {A = ℕ} (Ok 0) v.is_sound x.is_sound c.loop-place.invariant.call.sound sound in
    let T = c.requires.may first in
    let n : NewBytes = slice_index_or news place none in
    let N = next_of d.types T.0 area news T.1 place none T.2.are c.loop-place-test.true in
    let S = c.loop-place.invariant.done T.0 T.1 first T.2 in
    subst (λ (p : List ℕ). MayReplace d x p (record { code = n.code; bytes = c.part_for.result.now })) (sym c.path_up_to-part.ensures)
    (subst (λ (b : List ℕ). MayReplace d x (path_up_to n.address c.loop-place.own) (record { code = n.code; bytes = b })) (sym (c.part_for.ensures N.of.within))
    (may_be_replaced d v x c.args.path.now area news T.0 T.1 place n T.2 N c.loop-place.own c.loop-place.rows S))

pub returns-in_err-to-clause-only : goal.returns-in_err-to-clause-only
returns-in_err-to-clause-only g c =
    let d = c.args.dbd.now in
    let v = c.args.volume.now in
    let x = c.loop-place.volume in
    let area : List ℕ = c.args.area.now in
    let news : List NewBytes = c.args.news.now in
    let place : ℕ = c.loop-place.place in
    let n : NewBytes = slice_index_or news place none in
    let o = c.in_err-to.ensures in
    let p = err_from_is_err_and c.from_residual.result c.from_residual.ensures.1 in
    subst (λ (r : Result ReplacedRows Refused). IfErr r (λ e. IsTrue v.is_sound → e ≡ Device)) (sym (p.1 ∙ ap Err p.2))
    (λ first.
    let sound : IsTrue x.is_sound = rw c.loop-place.invariant.call.sound first in
    let T = c.requires.may first in
    let N = next_of d.types T.0 area news T.1 place none T.2.are c.loop-place-test.true in
    let S = c.loop-place.invariant.done T.0 T.1 first T.2 in
    let part : c.path_up_to-part.result ≡ path_up_to n.address c.loop-place.own = c.path_up_to-part.ensures in
    let bytes : c.part_for.result.now ≡ part_for area n = c.part_for.ensures N.of.within in
    row_refused d v x c.args.path.now area news T.0 T.1 place n T.2 N c.loop-place.own c.loop-place.rows S _ o.refusal
    (λ is. subst (λ (b : List ℕ). (spare x ≡ 0) × (HasHole x (size_with d.types n.code (length b)) → ⊥)) bytes (o.full is sound))
    (λ is. o.memory is)
    (λ is. subst (λ (b : List ℕ). HasHole x (size_with d.types n.code (length b)) → ⊥) bytes (o.no_hole is sound))
    (λ other. subst (λ (q : List ℕ). Outgrows d x (tip q) (record { code = n.code; bytes = part_for area n })) part
    (subst (λ (b : List ℕ). Outgrows d x (tip c.path_up_to-part.result) (record { code = n.code; bytes = b })) bytes (o.outgrown other sound))))

pub loop-place-preserved : goal.loop-place-preserved
loop-place-preserved g c =
    let d = c.args.dbd.now in
    let v = c.args.volume.now in
    let x = c.loop-place.volume in
    let y = c.replace_row.new.volume in
    let area : List ℕ = c.args.area.now in
    let news : List NewBytes = c.args.news.now in
    let place : ℕ = c.loop-place.place in
    let n : NewBytes = slice_index_or news place none in
    let o = c.in_ok-to.ensures in
    let to : ℕ = c.in_ok-to.to in
    let many : length c.loop-place.rows ≡ place = c.loop-place.invariant.few in
    let most : length news ≤ 15 = c.requires.few in
    let here : place < length news = c.loop-place-test.true in
    let pushed = c.push.ensures (omega arith) in
    record {
      call = call-ok 0 (calls-join (Ok to) c.loop-place.invariant.call o.call);
      few = ap (λ (rs : List ReplacedRow). length rs) pushed ∙ length-append c.loop-place.rows _ ∙ (omega arith);
      done = λ f ws first C.
          (let sound : IsTrue x.is_sound = rw c.loop-place.invariant.call.sound first in
          let now : IsTrue y.is_sound = rw o.call.sound sound in
          let N = next_of d.types f area news ws place none C.are here in
          let S = c.loop-place.invariant.done f ws first C in
          let part : c.path_up_to-part.result ≡ path_up_to n.address c.loop-place.own = c.path_up_to-part.ensures in
          let bytes : c.part_for.result.now ≡ part_for area n = c.part_for.ensures N.of.within in
          let I : IsReplacedTo d x (path_up_to n.address c.loop-place.own) (record { code = n.code; bytes = part_for area n }) to y
          = subst (λ (q : List ℕ). IsReplacedTo d x q (record { code = n.code; bytes = part_for area n }) to y) part
          (subst (λ (b : List ℕ). IsReplacedTo d x c.path_up_to-part.result (record { code = n.code; bytes = b }) to y) bytes (o.replaced sound)) in
          let M = one_more d v x c.args.path.now area news f ws place n C N c.loop-place.own c.loop-place.rows S to y I (o.room now)
          (λ is. o.still (is ∙ ap tip (sym part)) now) in
          subst (λ (own : List ℕ). IsSoFar d v c.args.path.now area news f ws C y own c.push.new.self (take (place + 1) ws) (drop (place + 1) ws)) (sym c.move_row.ensures)
          (subst (λ (rs : List ReplacedRow). IsSoFar d v c.args.path.now area news f ws C y (map (λ b. moved_to n.address to b) c.loop-place.own) rs (take (place + 1) ws) (drop (place + 1) ws)) (sym pushed) M));
    }

pub returns-clause-replaced : goal.returns-clause-replaced
returns-clause-replaced g c f ws sound C =
    let d = c.args.dbd.now in
    let N = none_left d.types f c.args.area.now c.args.news.now ws c.loop-place.place C.are c.loop-place-test.false in
    subst (λ (xs : List Rewrite). AreReplaced d c.args.volume.now f xs c.loop-place.volume c.loop-place.rows) N.1 (c.loop-place.invariant.done f ws sound C).replaced
