use Rattle.std.proofs.Common.{ℕ, List, Ok, IsTrue, None, length, sym, subst, refl, ◌∙◌, arith}
use Rattle.hd_volume.specs.Volumes.{VolumeState}
use Rattle.hd_volume.proofs.CallSteps.{read-none, read-ok, reads-join}
use Rattle.hd_check_index.specs.declared.extents.Extent.{Extent}
use Rattle.hd_check_index.specs.EntryOrders.{IsLeastOf}
use Rattle.hd_check_index.proofs.RowOrders.{forms-same, level-same, least-as, least-joins}
use Rattle.hd_check_index.proofs.RowsUp.{AreJudged, judged-none, next-row, next-levels, judged-read, judged-all, found-none, found-some}
use Rattle.hd_check_index.proofs.order.entry_out_of_order.Goals as goal

pub loop-end-init : goal.loop-end-init
loop-end-init g c = record {
  read = read-none c.args.volume.now 0;
  within = omega arith;
  judged = λ sound. subst (λ (t : List Extent). AreJudged c.args.key_length c.args.volume.now c.args.rows.now (length c.args.rows.now) t (λ P. IsLeastOf P None)) (sym c.new-below.ensures.items)
      (judged-none c.args.key_length c.args.volume.now c.args.rows.now (λ P. IsLeastOf P None) (λ P none. none) (c.requires.rows sound));
}

pub judge_row-requires-clause-forms : goal.judge_row-requires-clause-forms
judge_row-requires-clause-forms g c = λ now.
    let v : VolumeState = c.args.volume.now in
    let i = c.loop-end.invariant in
    let sound : IsTrue v.is_sound = rw (← i.read.call.sound) now in
    forms-same c.args.key_length v c.loop-end.volume i.read.call.size (i.read.image now) (c.requires.forms sound)

pub judge_row-requires-clause-level : goal.judge_row-requires-clause-level
judge_row-requires-clause-level g c = λ now x less.
    let v : VolumeState = c.args.volume.now in
    let k : ℕ = c.args.key_length in
    let i = c.loop-end.invariant in
    let sound : IsTrue v.is_sound = rw (← i.read.call.sound) now in
    let f = c.requires.forms sound in
    let next = next-row k v c.args.rows.now c.loop-end.end c.loop-end.below.items (λ P. IsLeastOf P c.loop-end.least) c.row_start-start.result _ _ f (i.judged sound) c.loop-end-test.true i.within
    c.row_start-start.ensures.before c.row_start-start.ensures.same c.row_start-start.ensures.other refl refl in
    level-same v c.loop-end.volume _ i.read.call.size (i.read.image now) ∙ next-levels k v c.args.rows.now c.loop-end.end c.loop-end.below.items (λ P. IsLeastOf P c.loop-end.least) c.row_start-start.result _ _ f next x less

pub loop-end-preserved : goal.loop-end-preserved
loop-end-preserved g c =
    let v : VolumeState = c.args.volume.now in
    let w : VolumeState = c.loop-end.volume in
    let k : ℕ = c.args.key_length in
    let i = c.loop-end.invariant in
    record {
      read = read-ok 0 (reads-join (Ok c.in_ok-found.found) i.read c.in_ok-found.ensures.read);
      within = (let before = c.row_start-start.ensures.before in let all = i.within in omega arith);
      judged = λ sound.
          (let now : IsTrue w.is_sound = rw i.read.call.sound sound in
          let J : List Extent → Type 0 = λ t. AreJudged k v c.args.rows.now c.loop-end.end t (λ P. IsLeastOf P c.loop-end.least) in
          let judged : AreJudged k v c.args.rows.now c.loop-end.end c.deref.result.now (λ P. IsLeastOf P c.loop-end.least) = subst J (sym c.deref.ensures.value) (i.judged sound) in
          let next = next-row k v c.args.rows.now c.loop-end.end c.deref.result.now (λ P. IsLeastOf P c.loop-end.least) c.row_start-start.result _ _ (c.requires.forms sound) judged c.loop-end-test.true i.within
          c.row_start-start.ensures.before c.row_start-start.ensures.same c.row_start-start.ensures.other refl refl in
          judged-read k v w c.args.rows.now c.loop-end.end c.deref.result.now c.judge_row.new.own.items (λ P. IsLeastOf P c.loop-end.least) (λ P. IsLeastOf P c.in_ok-found.found) (λ P. IsLeastOf P c.lesser-least.result) c.row_start-start.result _ _
          i.read.call.size (i.read.image now) next (c.in_ok-found.ensures.own now) (c.in_ok-found.ensures.found now) (least-joins c.loop-end.least c.in_ok-found.found c.lesser-least.result c.lesser-least.ensures));
    }

pub returns-clause-none : goal.returns-clause-none
returns-clause-none g c = λ sound.
    let v : VolumeState = c.args.volume.now in
    let done = c.loop-end-test.false in
    found-none c.args.key_length v c.loop-end.least (judged-all c.args.key_length v c.args.rows.now c.loop-end.end c.loop-end.below.items (λ P. IsLeastOf P c.loop-end.least) (λ P Q to from h. least-as P Q c.loop-end.least to from h) (omega arith) (c.loop-end.invariant.judged sound))

pub returns-clause-some : goal.returns-clause-some
returns-clause-some g c = λ sound.
    let v : VolumeState = c.args.volume.now in
    let done = c.loop-end-test.false in
    found-some c.args.key_length v c.loop-end.least (judged-all c.args.key_length v c.args.rows.now c.loop-end.end c.loop-end.below.items (λ P. IsLeastOf P c.loop-end.least) (λ P Q to from h. least-as P Q c.loop-end.least to from h) (omega arith) (c.loop-end.invariant.judged sound))
