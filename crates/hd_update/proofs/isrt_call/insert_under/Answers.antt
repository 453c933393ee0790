use Rattle.std.proofs.Common.{◌≡◌, ℕ, ◌+◌, ◌≤◌, ◌∷◌, List, length, drop, true, Option, refl, sym, ap, subst, ◌∙◌, arith}
use Rattle.std.specs.Prelude.{slice_index}
use Rattle.hd_dbd.specs.declared.answer.Status.TheVariants.{II}
use Rattle.hd_dbd.specs.Hierarchy.{Database}
use Rattle.hd_dbd.specs.Segment.{Segment}
use Rattle.hd_calls.specs.Ssas.{Ssa}
use Rattle.hd_calls.specs.Runs.{LacksRoom, has_root}
use Rattle.hd_calls.specs.Steps.{State, position_at, bare_answer, insert_at}
use Rattle.hd_calls.specs.Places.{insertion_point, is_key_taken}
use Rattle.hd_volume.specs.Volumes.{VolumeState}
use Rattle.hd_volume.proofs.CallSteps.{if-ok}
use Rattle.hd_volume.proofs.JoinLemmas.{if-err-map, calls-join}
use Rattle.hd_links.specs.Steps.{rows_of}
use Rattle.hd_forest.specs.Walks.{tip}
use Rattle.hd_forest.proofs.Reading.{after-read, sound-before}
use Rattle.hd_changes.specs.VolumeImages.{images_of}
use Rattle.hd_position.specs.Kept.{Kept}
use Rattle.hd_get.specs.declared.outcome.Outcome.TheVariants.{Missing}
use Rattle.hd_update.specs.Inserting.{IsUnder, StepDown, insert_under}
use Rattle.hd_update.specs.NewRows.{codes_of, first_code, rows_in}
use Rattle.hd_update.specs.Places.{IsPlaceFound, IsPlaceOf}
use Rattle.hd_update.specs.Positions.{unheld_at}
use Rattle.hd_update.specs.States.{IsAnswered}
use Rattle.hd_update.proofs.Answering.{answered_as, answered_before, bare_answered, represented}
use Rattle.hd_update.proofs.PathRows.{first_and_others}
use Rattle.hd_update.proofs.PlacedUnder.{go_down}
use Rattle.hd_update.proofs.UnderCalls.{found, own_at, under_taken, under_free, few, placed, lacks}
use Rattle.hd_update.proofs.isrt_call.insert_under.Goals as goal

first_is : (ssas : List Ssa) (code : ℕ) → codes_of ssas ≡ code ∷ drop 1 (codes_of ssas) → first_code ssas ≡ code
first_is ssas code is = ap (λ (cs : List ℕ). slice_index cs 0) is

under : (d : Database) (v : VolumeState) (old : List Kept) (st : State) (above : List ℕ) (ssas : List Ssa) (code : ℕ) (parent : Option ℕ) → codes_of ssas ≡ code ∷ drop 1 (codes_of ssas)
    → IsUnder d v old st above (first_code ssas) parent → IsUnder d v old st above code parent
under d v old st above ssas code parent is U = subst (λ (k : ℕ). IsUnder d v old st above k parent) (first_is ssas code is) U

pub place_below-requires-clause-fits : goal.place_below-requires-clause-fits
place_below-requires-clause-fits g c = (first_and_others c.args.dbd.now.types c.args.ssas.now c.args.area.now c.index-ssas-0.result c.code-code.result c.front-bytes.result.now c.requires.some c.index-ssas-0.is
    c.code-code.ensures c.front-bytes.ensures c.requires.long).fits

pub place_below-requires-clause-there : goal.place_below-requires-clause-there
place_below-requires-clause-there g c sound =
    let d = c.args.dbd.now in
    let F = first_and_others c.args.dbd.now.types c.args.ssas.now c.args.area.now c.index-ssas-0.result c.code-code.result c.front-bytes.result.now c.requires.some c.index-ssas-0.is
    c.code-code.ensures c.front-bytes.ensures c.requires.long in
    let T = c.requires.parent sound in
    let row : Segment = record { code = c.code-code.result; bytes = c.front-bytes.result.now } in
    let rest : List Segment = rows_in d.types (drop 1 (codes_of c.args.ssas.now)) (drop (length c.front-bytes.result.now) c.args.area.now) in
    let U = under d c.args.volume.now c.args.positions.now T.0 c.args.parent.now c.args.ssas.now c.code-code.result T.1 F.codes T.2 in (
      U.represents.placed,
      position_at T.0 c.args.number,
      T.1,
      own_at d c.args.volume.now c.args.positions.now T.0 c.args.number c.requires.number.0 c.requires.number.1 c.args.parent.now c.args.rule row rest (row ∷ rest) refl F.fits (go_down d.types c.code-code.result (drop 1 (codes_of c.args.ssas.now)) (drop (length c.front-bytes.result.now) c.args.area.now)
          (subst (λ (k : ℕ). StepDown d.types k (drop 1 (codes_of c.args.ssas.now))) (first_is c.args.ssas.now c.code-code.result F.codes) c.requires.down) F.rest) T.1 U c.index-positions-number.result,
      U.path,
      U.typed,
    )

pub returns-in_default-clause-done : goal.returns-in_default-clause-done
returns-in_default-clause-done g c pcb st parent U0 =
    let d = c.args.dbd.now in
    let v = c.args.volume.now in
    let w = c.place_below.new.volume in
    let old : List Kept = c.args.positions.now in
    let F = first_and_others c.args.dbd.now.types c.args.ssas.now c.args.area.now c.index-ssas-0.result c.code-code.result c.front-bytes.result.now c.requires.some c.index-ssas-0.is
    c.code-code.ensures c.front-bytes.ensures c.requires.long in
    let row : Segment = record { code = c.code-code.result; bytes = c.front-bytes.result.now } in
    let rest : List Segment = rows_in d.types (drop 1 (codes_of c.args.ssas.now)) (drop (length c.front-bytes.result.now) c.args.area.now) in
    let rows : List Segment = rows_in d.types (codes_of c.args.ssas.now) c.args.area.now in
    let U = under d v old st c.args.parent.now c.args.ssas.now c.code-code.result parent F.codes U0 in
    let at = own_at d v old st c.args.number c.requires.number.0 c.requires.number.1 c.args.parent.now c.args.rule row rest rows F.rows F.fits (go_down d.types c.code-code.result (drop 1 (codes_of c.args.ssas.now)) (drop (length c.front-bytes.result.now) c.args.area.now)
    (subst (λ (k : ℕ). StepDown d.types k (drop 1 (codes_of c.args.ssas.now))) (first_is c.args.ssas.now c.code-code.result F.codes) c.requires.down) F.rest) parent U c.index-positions-number.result in
    let F2 = found d v old st c.args.number c.requires.number.0 c.requires.number.1 c.args.parent.now c.args.rule row rest rows F.rows F.fits (go_down d.types c.code-code.result (drop 1 (codes_of c.args.ssas.now)) (drop (length c.front-bytes.result.now) c.args.area.now)
    (subst (λ (k : ℕ). StepDown d.types k (drop 1 (codes_of c.args.ssas.now))) (first_is c.args.ssas.now c.code-code.result F.codes) c.requires.down) F.rest) parent U _ c.in_ok-place.place at c.in_ok-place.ensures.value in
    let taken : is_key_taken d.types (rows_of U.represents.placed) parent row ≡ true
    = subst (λ (o : Option ℕ). IsPlaceFound d v U.represents.placed parent (position_at st c.args.number).standing c.args.rule row (tip c.args.parent.now) o) c.in_default.is F2 in
    let effect = under_taken d v old st c.args.number c.requires.number.0 c.requires.number.1 c.args.parent.now c.args.rule row rest rows F.rows F.fits (go_down d.types c.code-code.result (drop 1 (codes_of c.args.ssas.now)) (drop (length c.front-bytes.result.now) c.args.area.now)
    (subst (λ (k : ℕ). StepDown d.types k (drop 1 (codes_of c.args.ssas.now))) (first_is c.args.ssas.now c.code-code.result F.codes) c.requires.down) F.rest) parent U pcb taken in
    subst (λ (kept : List Kept). IsAnswered d v st c.args.number (insert_under (record { types = d.types; pcb = pcb }) st.rows (position_at st c.args.number) c.args.rule parent rows) (Missing II) w kept) (sym c.end_hold.ensures)
    (answered_as d v st c.args.number (bare_answer (position_at st c.args.number) II) (insert_under (record { types = d.types; pcb = pcb }) st.rows (position_at st c.args.number) c.args.rule parent rows) (Missing II) w (unheld_at c.args.number old) effect
    (bare_answered d v w old st c.args.number II c.in_ok-place.ensures.read U.sound U.represents c.requires.number.0 c.requires.number.1 refl))

pub insert_rows-requires-clause-levels : goal.insert_rows-requires-clause-levels
insert_rows-requires-clause-levels g c now =
    let d = c.args.dbd.now in
    let v = c.args.volume.now in
    let sound = sound-before v c.place_below.new.volume c.in_ok-place.ensures.read now in
    let F = first_and_others c.args.dbd.now.types c.args.ssas.now c.args.area.now c.index-ssas-0.result c.code-code.result c.front-bytes.result.now c.requires.some c.index-ssas-0.is
    c.code-code.ensures c.front-bytes.ensures c.requires.long in
    let T = c.requires.parent sound in
    let row : Segment = record { code = c.code-code.result; bytes = c.front-bytes.result.now } in
    let rest : List Segment = rows_in d.types (drop 1 (codes_of c.args.ssas.now)) (drop (length c.front-bytes.result.now) c.args.area.now) in
    let U = under d v c.args.positions.now T.0 c.args.parent.now c.args.ssas.now c.code-code.result T.1 F.codes T.2 in
    let most : length c.args.parent.now + length (row ∷ rest) ≤ 15
    = few d v c.args.positions.now T.0 c.args.number c.requires.number.0 c.requires.number.1 c.args.parent.now c.args.rule row rest (row ∷ rest) refl F.fits (go_down d.types c.code-code.result (drop 1 (codes_of c.args.ssas.now)) (drop (length c.front-bytes.result.now) c.args.area.now)
    (subst (λ (k : ℕ). StepDown d.types k (drop 1 (codes_of c.args.ssas.now))) (first_is c.args.ssas.now c.code-code.result F.codes) c.requires.down) F.rest) T.1 U in
    let many : length c.args.ssas.now ≡ length (row ∷ rest) = sym F.many ∙ ap (λ (rows : List Segment). length rows) F.rows in
    omega arith

pub insert_rows-requires-clause-place : goal.insert_rows-requires-clause-place
insert_rows-requires-clause-place g c now =
    let d = c.args.dbd.now in
    let v = c.args.volume.now in
    let w = c.place_below.new.volume in
    let old : List Kept = c.args.positions.now in
    let read = c.in_ok-place.ensures.read in
    let sound = sound-before v w read now in
    let F = first_and_others c.args.dbd.now.types c.args.ssas.now c.args.area.now c.index-ssas-0.result c.code-code.result c.front-bytes.result.now c.requires.some c.index-ssas-0.is
    c.code-code.ensures c.front-bytes.ensures c.requires.long in
    let T = c.requires.parent sound in
    let row : Segment = record { code = c.code-code.result; bytes = c.front-bytes.result.now } in
    let rest : List Segment = rows_in d.types (drop 1 (codes_of c.args.ssas.now)) (drop (length c.front-bytes.result.now) c.args.area.now) in
    let rows : List Segment = rows_in d.types (codes_of c.args.ssas.now) c.args.area.now in
    let U = under d v old T.0 c.args.parent.now c.args.ssas.now c.code-code.result T.1 F.codes T.2 in
    let at = own_at d v old T.0 c.args.number c.requires.number.0 c.requires.number.1 c.args.parent.now c.args.rule row rest rows F.rows F.fits (go_down d.types c.code-code.result (drop 1 (codes_of c.args.ssas.now)) (drop (length c.front-bytes.result.now) c.args.area.now)
    (subst (λ (k : ℕ). StepDown d.types k (drop 1 (codes_of c.args.ssas.now))) (first_is c.args.ssas.now c.code-code.result F.codes) c.requires.down) F.rest) T.1 U c.index-positions-number.result in
    let F2 = found d v old T.0 c.args.number c.requires.number.0 c.requires.number.1 c.args.parent.now c.args.rule row rest rows F.rows F.fits (go_down d.types c.code-code.result (drop 1 (codes_of c.args.ssas.now)) (drop (length c.front-bytes.result.now) c.args.area.now)
    (subst (λ (k : ℕ). StepDown d.types k (drop 1 (codes_of c.args.ssas.now))) (first_is c.args.ssas.now c.code-code.result F.codes) c.requires.down) F.rest) T.1 U _ c.in_ok-place.place at c.in_ok-place.ensures.value in
    let P : IsPlaceOf d v U.represents.placed T.1 (position_at T.0 c.args.number).standing c.args.rule row (tip c.args.parent.now) c.in-Some.after
    = subst (λ (o : Option ℕ). IsPlaceFound d v U.represents.placed T.1 (position_at T.0 c.args.number).standing c.args.rule row (tip c.args.parent.now) o) c.in-Some.is F2 in (
      T.0,
      T.1,
      insertion_point d.types (rows_of U.represents.placed) T.1 (position_at T.0 c.args.number).standing c.args.rule row,
      represented d v w old T.0 read sound U.represents,
      placed d v old T.0 c.args.number c.requires.number.0 c.requires.number.1 c.args.parent.now c.args.rule row rest rows F.rows F.fits (go_down d.types c.code-code.result (drop 1 (codes_of c.args.ssas.now)) (drop (length c.front-bytes.result.now) c.args.area.now)
          (subst (λ (k : ℕ). StepDown d.types k (drop 1 (codes_of c.args.ssas.now))) (first_is c.args.ssas.now c.code-code.result F.codes) c.requires.down) F.rest) T.1 U w c.in-Some.after read P,
    )

pub returns-clause-call : goal.returns-clause-call
returns-clause-call g c = calls-join c.insert_rows.result c.in_ok-place.ensures.read.call c.insert_rows.ensures.call

pub returns-clause-done : goal.returns-clause-done
returns-clause-done g c = if-ok c.insert_rows.result c.insert_rows.ensures.done (λ o done pcb st parent U0.
    let d = c.args.dbd.now in
    let v = c.args.volume.now in
    let w = c.place_below.new.volume in
    let x = c.insert_rows.new.volume in
    let new : List Kept = c.insert_rows.new.positions in
    let old : List Kept = c.args.positions.now in
    let read = c.in_ok-place.ensures.read in
    let F = first_and_others c.args.dbd.now.types c.args.ssas.now c.args.area.now c.index-ssas-0.result c.code-code.result c.front-bytes.result.now c.requires.some c.index-ssas-0.is
    c.code-code.ensures c.front-bytes.ensures c.requires.long in
    let row : Segment = record { code = c.code-code.result; bytes = c.front-bytes.result.now } in
    let rest : List Segment = rows_in d.types (drop 1 (codes_of c.args.ssas.now)) (drop (length c.front-bytes.result.now) c.args.area.now) in
    let rows : List Segment = rows_in d.types (codes_of c.args.ssas.now) c.args.area.now in
    let U = under d v old st c.args.parent.now c.args.ssas.now c.code-code.result parent F.codes U0 in
    let at = own_at d v old st c.args.number c.requires.number.0 c.requires.number.1 c.args.parent.now c.args.rule row rest rows F.rows F.fits (go_down d.types c.code-code.result (drop 1 (codes_of c.args.ssas.now)) (drop (length c.front-bytes.result.now) c.args.area.now)
    (subst (λ (k : ℕ). StepDown d.types k (drop 1 (codes_of c.args.ssas.now))) (first_is c.args.ssas.now c.code-code.result F.codes) c.requires.down) F.rest) parent U c.index-positions-number.result in
    let F2 = found d v old st c.args.number c.requires.number.0 c.requires.number.1 c.args.parent.now c.args.rule row rest rows F.rows F.fits (go_down d.types c.code-code.result (drop 1 (codes_of c.args.ssas.now)) (drop (length c.front-bytes.result.now) c.args.area.now)
    (subst (λ (k : ℕ). StepDown d.types k (drop 1 (codes_of c.args.ssas.now))) (first_is c.args.ssas.now c.code-code.result F.codes) c.requires.down) F.rest) parent U _ c.in_ok-place.place at c.in_ok-place.ensures.value in
    let P : IsPlaceOf d v U.represents.placed parent (position_at st c.args.number).standing c.args.rule row (tip c.args.parent.now) c.in-Some.after
    = subst (λ (o : Option ℕ). IsPlaceFound d v U.represents.placed parent (position_at st c.args.number).standing c.args.rule row (tip c.args.parent.now) o) c.in-Some.is F2 in
    let n : ℕ = insertion_point d.types (rows_of U.represents.placed) parent (position_at st c.args.number).standing c.args.rule row in
    let effect = under_free d v old st c.args.number c.requires.number.0 c.requires.number.1 c.args.parent.now c.args.rule row rest rows F.rows F.fits (go_down d.types c.code-code.result (drop 1 (codes_of c.args.ssas.now)) (drop (length c.front-bytes.result.now) c.args.area.now)
    (subst (λ (k : ℕ). StepDown d.types k (drop 1 (codes_of c.args.ssas.now))) (first_is c.args.ssas.now c.code-code.result F.codes) c.requires.down) F.rest) parent U pcb P.free in
    let same = after-read d v w read U.sound in
    answered_as d v st c.args.number (insert_at (record { types = d.types; pcb = pcb }) st.rows (position_at st c.args.number) rows n)
    (insert_under (record { types = d.types; pcb = pcb }) st.rows (position_at st c.args.number) c.args.rule parent rows) o x new effect
    (answered_before d v w st c.args.number (insert_at (record { types = d.types; pcb = pcb }) st.rows (position_at st c.args.number) rows n) o x new same.image
    (done pcb st parent n same.sound (represented d v w old st read U.sound U.represents)
    (placed d v old st c.args.number c.requires.number.0 c.requires.number.1 c.args.parent.now c.args.rule row rest rows F.rows F.fits (go_down d.types c.code-code.result (drop 1 (codes_of c.args.ssas.now)) (drop (length c.front-bytes.result.now) c.args.area.now)
    (subst (λ (k : ℕ). StepDown d.types k (drop 1 (codes_of c.args.ssas.now))) (first_is c.args.ssas.now c.code-code.result F.codes) c.requires.down) F.rest) parent U w c.in-Some.after read P))))

pub returns-clause-full : goal.returns-clause-full
returns-clause-full g c = if-err-map c.insert_rows.result (λ e full pcb st parent is U0.
    (let d = c.args.dbd.now in
    let v = c.args.volume.now in
    let w = c.place_below.new.volume in
    let old : List Kept = c.args.positions.now in
    let read = c.in_ok-place.ensures.read in
    let F = first_and_others c.args.dbd.now.types c.args.ssas.now c.args.area.now c.index-ssas-0.result c.code-code.result c.front-bytes.result.now c.requires.some c.index-ssas-0.is
    c.code-code.ensures c.front-bytes.ensures c.requires.long in
    let row : Segment = record { code = c.code-code.result; bytes = c.front-bytes.result.now } in
    let rest : List Segment = rows_in d.types (drop 1 (codes_of c.args.ssas.now)) (drop (length c.front-bytes.result.now) c.args.area.now) in
    let rows : List Segment = rows_in d.types (codes_of c.args.ssas.now) c.args.area.now in
    let U = under d v old st c.args.parent.now c.args.ssas.now c.code-code.result parent F.codes U0 in
    let at = own_at d v old st c.args.number c.requires.number.0 c.requires.number.1 c.args.parent.now c.args.rule row rest rows F.rows F.fits (go_down d.types c.code-code.result (drop 1 (codes_of c.args.ssas.now)) (drop (length c.front-bytes.result.now) c.args.area.now)
    (subst (λ (k : ℕ). StepDown d.types k (drop 1 (codes_of c.args.ssas.now))) (first_is c.args.ssas.now c.code-code.result F.codes) c.requires.down) F.rest) parent U c.index-positions-number.result in
    let F2 = found d v old st c.args.number c.requires.number.0 c.requires.number.1 c.args.parent.now c.args.rule row rest rows F.rows F.fits (go_down d.types c.code-code.result (drop 1 (codes_of c.args.ssas.now)) (drop (length c.front-bytes.result.now) c.args.area.now)
    (subst (λ (k : ℕ). StepDown d.types k (drop 1 (codes_of c.args.ssas.now))) (first_is c.args.ssas.now c.code-code.result F.codes) c.requires.down) F.rest) parent U _ c.in_ok-place.place at c.in_ok-place.ensures.value in
    let P : IsPlaceOf d v U.represents.placed parent (position_at st c.args.number).standing c.args.rule row (tip c.args.parent.now) c.in-Some.after
    = subst (λ (o : Option ℕ). IsPlaceFound d v U.represents.placed parent (position_at st c.args.number).standing c.args.rule row (tip c.args.parent.now) o) c.in-Some.is F2 in
    let same = after-read d v w read U.sound in
    let R = represented d v w old st read U.sound U.represents in
    lacks d v old st c.args.number c.requires.number.0 c.requires.number.1 c.args.parent.now c.args.rule row rest rows F.rows F.fits (go_down d.types c.code-code.result (drop 1 (codes_of c.args.ssas.now)) (drop (length c.front-bytes.result.now) c.args.area.now)
    (subst (λ (k : ℕ). StepDown d.types k (drop 1 (codes_of c.args.ssas.now))) (first_is c.args.ssas.now c.code-code.result F.codes) c.requires.down) F.rest) parent U pcb P.free
    (subst (λ (image : List ℕ). LacksRoom (images_of d) d.types image rows (has_root rows)) same.image (full is same.sound (λ _. (R.placed, R.holds, R.later)))))) c.insert_rows.ensures.full
