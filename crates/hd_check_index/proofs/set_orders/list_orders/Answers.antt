use Rattle.std.proofs.Common.{ℕ, List, Ok, IsTrue, length, sym, subst, refl, ◌∙◌, arith}
use Rattle.hd_volume.specs.Volumes.{VolumeState}
use Rattle.hd_volume.proofs.CallSteps.{read-none, read-ok, reads-join}
use Rattle.hd_check_index.specs.declared.extents.Extent.{Extent}
use Rattle.hd_check_index.specs.Listed.{AtAddress, AreOrdersListed}
use Rattle.hd_check_index.proofs.RowOrders.{forms-same, level-same}
use Rattle.hd_check_index.proofs.RowsUp.{AreJudged, judged-none, next-row, next-levels, judged-read, judged-all}
use Rattle.hd_check_index.proofs.RowLists.{at-keeps, listed-none, listed-joins, all-orders}
use Rattle.hd_check_index.proofs.set_orders.list_orders.Goals as goal

pub loop-end-init : goal.loop-end-init
loop-end-init g c = record {
  read = read-none c.args.volume.now 0;
  within = omega arith;
  judged = λ sound. subst (λ (t : List Extent). AreJudged c.args.key_length c.args.volume.now c.args.rows.now (length c.args.rows.now) t (λ P. AreOrdersListed (AtAddress c.args.size P) c.args.faults.now.items c.args.faults.now.items)) (sym c.new-below.ensures.items)
      (judged-none c.args.key_length c.args.volume.now c.args.rows.now (λ P. AreOrdersListed (AtAddress c.args.size P) c.args.faults.now.items c.args.faults.now.items) (λ P none. listed-none c.args.size c.args.faults.now.items c.args.faults.now.items refl P none) (c.requires.rows sound));
}

pub list_row-requires-clause-forms : goal.list_row-requires-clause-forms
list_row-requires-clause-forms g c = λ now.
    let v : VolumeState = c.args.volume.now in
    let i = c.loop-end.invariant in
    let sound : IsTrue v.is_sound = rw (← i.read.call.sound) now in
    forms-same c.args.key_length v c.loop-end.volume i.read.call.size (i.read.image now) (c.requires.forms sound)

pub list_row-requires-clause-level : goal.list_row-requires-clause-level
list_row-requires-clause-level g c = λ now x less.
    let v : VolumeState = c.args.volume.now in
    let k : ℕ = c.args.key_length in
    let i = c.loop-end.invariant in
    let sound : IsTrue v.is_sound = rw (← i.read.call.sound) now in
    let f = c.requires.forms sound in
    let next = next-row k v c.args.rows.now c.loop-end.end c.loop-end.below.items (λ P. AreOrdersListed (AtAddress c.args.size P) c.args.faults.now.items c.loop-end.faults.items) c.row_start-start.result _ _ f (i.judged sound) c.loop-end-test.true i.within
    c.row_start-start.ensures.before c.row_start-start.ensures.same c.row_start-start.ensures.other refl refl in
    level-same v c.loop-end.volume _ i.read.call.size (i.read.image now) ∙ next-levels k v c.args.rows.now c.loop-end.end c.loop-end.below.items (λ P. AreOrdersListed (AtAddress c.args.size P) c.args.faults.now.items c.loop-end.faults.items) c.row_start-start.result _ _ f next x less

pub loop-end-preserved : goal.loop-end-preserved
loop-end-preserved g c =
    let v : VolumeState = c.args.volume.now in
    let w : VolumeState = c.loop-end.volume in
    let k : ℕ = c.args.key_length in
    let i = c.loop-end.invariant in
    record {
      read = read-ok 0 (reads-join (Ok c.in_ok-list_row.field-0) i.read c.in_ok-list_row.ensures.read);
      within = (let before = c.row_start-start.ensures.before in let all = i.within in omega arith);
      judged = λ sound.
          (let now : IsTrue w.is_sound = rw i.read.call.sound sound in
          let J : List Extent → Type 0 = λ t. AreJudged k v c.args.rows.now c.loop-end.end t (λ P. AreOrdersListed (AtAddress c.args.size P) c.args.faults.now.items c.loop-end.faults.items) in
          let judged : AreJudged k v c.args.rows.now c.loop-end.end c.deref.result.now (λ P. AreOrdersListed (AtAddress c.args.size P) c.args.faults.now.items c.loop-end.faults.items) = subst J (sym c.deref.ensures.value) (i.judged sound) in
          let next = next-row k v c.args.rows.now c.loop-end.end c.deref.result.now (λ P. AreOrdersListed (AtAddress c.args.size P) c.args.faults.now.items c.loop-end.faults.items) c.row_start-start.result _ _ (c.requires.forms sound) judged c.loop-end-test.true i.within
          c.row_start-start.ensures.before c.row_start-start.ensures.same c.row_start-start.ensures.other refl refl in
          judged-read k v w c.args.rows.now c.loop-end.end c.deref.result.now c.list_row.new.own.items (λ P. AreOrdersListed (AtAddress c.args.size P) c.args.faults.now.items c.loop-end.faults.items)
          (λ P. AreOrdersListed (AtAddress c.args.size P) c.loop-end.faults.items c.list_row.new.faults.items) (λ P. AreOrdersListed (AtAddress c.args.size P) c.args.faults.now.items c.list_row.new.faults.items) c.row_start-start.result _ _
          i.read.call.size (i.read.image now) next (c.in_ok-list_row.ensures.own now) (c.in_ok-list_row.ensures.faults now) (listed-joins c.args.size c.args.faults.now.items c.loop-end.faults.items c.list_row.new.faults.items));
    }

pub list_row-requires-clause-fits : goal.list_row-requires-clause-fits
list_row-requires-clause-fits g c = λ now n l is.
    let v : VolumeState = c.args.volume.now in
    let i = c.loop-end.invariant in
    let sound : IsTrue v.is_sound = rw (← i.read.call.sound) now in
    c.requires.fits sound n l (sym (level-same v c.loop-end.volume n i.read.call.size (i.read.image now)) ∙ is)

pub returns-clause-faults : goal.returns-clause-faults
returns-clause-faults g c = λ sound.
    let v : VolumeState = c.args.volume.now in
    let done = c.loop-end-test.false in
    all-orders c.args.key_length v c.args.size c.args.faults.now.items c.loop-end.faults.items c.requires.size
    (judged-all c.args.key_length v c.args.rows.now c.loop-end.end c.loop-end.below.items (λ P. AreOrdersListed (AtAddress c.args.size P) c.args.faults.now.items c.loop-end.faults.items)
    (λ P Q to from h. at-keeps c.args.size c.args.faults.now.items c.loop-end.faults.items P Q to from h) (omega arith) (c.loop-end.invariant.judged sound))
