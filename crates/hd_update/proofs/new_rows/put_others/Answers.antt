use Rattle.std.proofs.Common.{◌≡◌, ℕ, ◌+◌, ◌-◌, ◌≤◌, List, [], ◌∷◌, ◌++◌, length, drop, Ok, IsTrue, sym, ap, subst, ◌∙◌, arith}
use Rattle.std.proofs.lemmas.List.{length-append, length-drop, at_drop_all}
use Rattle.hd_dbd.specs.Segment.{Segment}
use Rattle.hd_calls.specs.Ssas.{Ssa}
use Rattle.hd_volume.proofs.CallSteps.{call-ok}
use Rattle.hd_volume.proofs.JoinLemmas.{calls-join}
use Rattle.hd_forest.specs.Walks.{tip}
use Rattle.hd_update.specs.NewRows.{codes_of, rows_in, TakeMore, GoesInBelow, GoInBelow}
use Rattle.hd_update.proofs.RowsIn.{turn, go_in, go_in_none, take_others}
use Rattle.hd_update.proofs.new_rows.put_others.Goals as goal

pub put_next-requires-clause-fits : goal.put_next-requires-clause-fits
put_next-requires-clause-fits g c =
    (turn c.args.dbd.now.types c.args.ssas.now c.args.area.now c.loop-place.place c.loop-place.start c.code-code.result c.front-row.result.now c.index-ssas-place.result c.loop-place-test.true
    c.loop-place.invariant.within c.index-ssas-place.is c.code-code.ensures c.front-row.ensures c.loop-place.invariant.are).fits

pub put_next-requires-clause-more : goal.put_next-requires-clause-more
put_next-requires-clause-more g c sound =
    let T = turn c.args.dbd.now.types c.args.ssas.now c.args.area.now c.loop-place.place c.loop-place.start c.code-code.result c.front-row.result.now c.index-ssas-place.result c.loop-place-test.true
    c.loop-place.invariant.within c.index-ssas-place.is c.code-code.ensures c.front-row.ensures c.loop-place.invariant.are in (
      _,
      subst (λ (a : ℕ). TakeMore c.args.dbd.now c.loop-place.volume a (record { code = c.code-code.result; bytes = c.front-row.result.now } ∷ rows_in c.args.dbd.now.types (codes_of (drop (c.loop-place.place + 1) c.args.ssas.now)) (drop (c.loop-place.start + length c.front-row.result.now) c.args.area.now))) (sym c.tip_of.ensures)
          (subst (TakeMore c.args.dbd.now c.loop-place.volume (tip c.loop-place.path)) T.rows (c.loop-place.invariant.more sound)),
    )

pub loop-place-preserved : goal.loop-place-preserved
loop-place-preserved g c =
    let d = c.args.dbd.now in
    let v = c.loop-place.volume in
    let x = c.put_next.new.volume in
    let path : List ℕ = c.loop-place.path in
    let row : Segment = record { code = c.code-code.result; bytes = c.front-row.result.now } in
    let rows : List Segment = rows_in d.types (codes_of (drop (c.loop-place.place + 1) c.args.ssas.now)) (drop (c.loop-place.start + length c.front-row.result.now) c.args.area.now) in
    let T = turn d.types c.args.ssas.now c.args.area.now c.loop-place.place c.loop-place.start c.code-code.result c.front-row.result.now c.index-ssas-place.result c.loop-place-test.true
    c.loop-place.invariant.within c.index-ssas-place.is c.code-code.ensures c.front-row.ensures c.loop-place.invariant.are in
    let a : ℕ = c.in_ok-address.address in
    let left : length (drop c.loop-place.place c.args.ssas.now) ≡ length c.args.ssas.now - c.loop-place.place = length-drop c.loop-place.place c.args.ssas.now in
    let fewer : length (drop (c.loop-place.place + 1) c.args.ssas.now) ≡ length c.args.ssas.now - (c.loop-place.place + 1) = length-drop (c.loop-place.place + 1) c.args.ssas.now in
    let there = c.loop-place-test.true in
    let pushed : IsTrue v.is_sound → c.push.new.self ≡ path ++ a ∷ [] =
    (λ sound. (let few : length path + length (drop c.loop-place.place c.args.ssas.now) ≤ 15 = c.loop-place.invariant.few sound in c.push.ensures (omega arith))) in
    let goes : GoesInBelow d v (tip path) row a x = subst (λ (t : ℕ). GoesInBelow d v t row a x) c.tip_of.ensures c.in_ok-address.ensures.put_in in
    let same = c.in_ok-address.ensures.call.sound in
    record {
      within = T.within;
      few = λ now.
          (let sound : IsTrue v.is_sound = subst IsTrue same now in
          let few : length path + length (drop c.loop-place.place c.args.ssas.now) ≤ 15 = c.loop-place.invariant.few sound in
          let long : length c.push.new.self ≡ length path + 1 = ap (λ (xs : List ℕ). length xs) (pushed sound) ∙ length-append path (a ∷ []) in omega arith);
      are = T.rest;
      call = call-ok 0 (calls-join (Ok a) c.loop-place.invariant.call c.in_ok-address.ensures.call);
      more = λ now.
          (let sound : IsTrue v.is_sound = subst IsTrue same now in
          subst (λ (p : List ℕ). TakeMore d x (tip p) rows) (sym (pushed sound))
          (take_others d v x path row rows a sound goes c.in_ok-address.ensures.lasts (subst (TakeMore d v (tip path)) T.rows (c.loop-place.invariant.more sound))));
      all = λ w down below.
          c.loop-place.invariant.all w down
          (subst (λ (rs : List Segment). GoInBelow d v path rs w down) (sym T.rows)
          (λ u f n front last sound.
          go_in d v x w path row rows a down (λ sound. subst IsTrue (sym same) sound) goes
          (subst (λ (p : List ℕ). GoInBelow d x p rows w down) (pushed sound) below) u f n front last sound));
    }

pub returns-clause-put_in : goal.returns-clause-put_in
returns-clause-put_in g c =
    let d = c.args.dbd.now in
    let left : rows_in d.types (codes_of (drop c.loop-place.place c.args.ssas.now)) (drop c.loop-place.start c.args.area.now) ≡ []
    = at_drop_all (λ (xs : List Ssa). rows_in d.types (codes_of xs) (drop c.loop-place.start c.args.area.now)) c.args.ssas.now c.loop-place.place c.loop-place-test.false in
    c.loop-place.invariant.all c.loop-place.volume c.loop-place.path
    (subst (λ (rs : List Segment). GoInBelow d c.loop-place.volume c.loop-place.path rs c.loop-place.volume c.loop-place.path) (sym left) (go_in_none d c.loop-place.volume c.loop-place.path))
