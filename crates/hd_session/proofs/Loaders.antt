-- A call leaves each PCB that loads behind all rows.
use Rattle.std.proofs.Common.{◌≡◌, ℕ, zero, suc, ◌+◌, ◌-◌, ◌<◌, List, [], ◌∷◌, length, map, Bool, true, false, cond, Ok, Err, Option, Some, None, IsTrue, refl, sym, ap, ◌∙◌, subst, arith}
use Rattle.std.specs.Prelude.{Result, ◌==◌, ◌&&◌, ◌||◌, not, nat_le, nat_lt, slice_get}
use Rattle.std.specs.Option.{option_map_or}
use Rattle.std.specs.List.{list_all}
use Rattle.std.proofs.lemmas.Bool.{and_parts, cond-true, eqb-true, false≢true}
use Rattle.std.proofs.lemmas.List.{get_or-set_same, length-map}
use Rattle.std.proofs.lemmas.Option.{slice_get_within}
use Rattle.hd_dbd.specs.Types.{SegmentType, View}
use Rattle.hd_dbd.specs.Segment.{Segment}
use Rattle.hd_dbd.specs.Loads.{last_path, load_fault, status_of_load}
use Rattle.hd_dbd.specs.Logs.{Outcome, replied, area, full, memory}
use Rattle.hd_dbd.specs.Positions.{Position, at_start}
use Rattle.hd_dbd.specs.ProgramRules.{pcb_fits, load_fits, procopts_fit, has_sens, seen_names_fit, parents_fit, order_fits, program_fits}
use Rattle.hd_dbd.specs.Views.{Setting}
use Rattle.hd_dbd.specs.Calls.{CallText}
use Rattle.hd_dbd.specs.declared.answer.LoadFault.{LoadFault}
use Rattle.hd_dbd.specs.declared.answer.Status.{Status}
use Rattle.hd_dbd.specs.declared.program.TypeName.{TypeName}
use Rattle.hd_calls.specs.declared.call.Function.{Function}
use Rattle.hd_calls.specs.declared.call.Function.TheVariants.{Get, Insert, Replace, Delete}
use Rattle.hd_calls.specs.Access.{loads}
use Rattle.hd_calls.specs.Moves.{put_in, rows_after, position_after}
use Rattle.hd_calls.specs.Runs.{view_of, effect_by, state_after_outcome}
use Rattle.hd_calls.specs.Ssas.{Ssa}
use Rattle.hd_calls.specs.Steps.{State, Effect, answered, wrong_area, AcceptedCall, accepted_call, after_tests, effect_of, own_step, is_allowed, position_at, state_after, step, bare_answer, divide, new_rows, inserted_codes, insert_at, insert_or_load, insert_rows, insert_step, load_step, new_row, with_parts}
use Rattle.hd_calls.proofs.Moving.{length-put_in}
use Rattle.hd_session.specs.Opening.{LoadersArePastAll}
use Rattle.hd_session.proofs.LoadArguments.{is_some_number}
use Rattle.hd_session.proofs.TestedCalls.{accepted_ok}
use Rattle.hd_calls.specs.declared.call.AreaFault.{AreaFault}
use Rattle.hd_calls.specs.declared.call.AreaFault.TheVariants.{Length, Bytes}

-- ---- a PCB that loads stands alone

passes_at : {A : Type 0} (p : A → Bool) (xs : List A) (i : ℕ) (x : A) → list_all p xs ≡ true → slice_get xs i ≡ Some x → p x ≡ true
passes_at p [] i x all is = cc
passes_at p (y ∷ ys) zero x all is = (let same : y ≡ x = cc in ap p (sym same) ∙ (and_parts (p y) (list_all p ys) all).0)
passes_at p (y ∷ ys) (suc i) x all is = passes_at p ys i x (and_parts (p y) (list_all p ys) all).1 is

-- the PCB of a number is there
is_there : (pcbs : List View) (number : ℕ) (pcb : View) → view_of pcbs number ≡ Some pcb → (0 < number) × (slice_get pcbs (number - 1) ≡ Some pcb)
is_there pcbs number pcb is = by (number == 0) refl is
  where
    by : (b : Bool) → (number == 0) ≡ b → cond b None (slice_get pcbs (number - 1)) ≡ Some pcb → (0 < number) × (slice_get pcbs (number - 1) ≡ Some pcb)
    by true same e = cc
    by false same e = (is_some_number number false (sym same) refl, e)

alone : (names : List TypeName) (pcbs : List View) (number : ℕ) (pcb : View) → IsTrue (program_fits names pcbs) → view_of pcbs number ≡ Some pcb → loads pcb ≡ true → length pcbs ≡ 1
alone names pcbs number pcb fits is loader =
    let many : Bool = nat_lt 0 (length pcbs) && nat_le (length pcbs) 255 in
    let each : list_all (λ p. pcb_fits names (length pcbs) p) pcbs ≡ true = (and_parts many (list_all (λ p. pcb_fits names (length pcbs) p) pcbs) fits).1 in
    let one : pcb_fits names (length pcbs) pcb ≡ true = passes_at (λ p. pcb_fits names (length pcbs) p) pcbs (number - 1) pcb each (is_there pcbs number pcb is).1 in
    let rules = and_parts (seen_names_fit names pcb && parents_fit names pcb && order_fits names pcb && procopts_fit pcb && load_fits (length pcbs) pcb) (has_sens pcb) one in
    let own = and_parts (seen_names_fit names pcb && parents_fit names pcb && order_fits names pcb && procopts_fit pcb) (load_fits (length pcbs) pcb) rules.0 in
    by (loads pcb) loader (length pcbs == 1) refl own.1
  where
    by : (l : Bool) → l ≡ true → (b : Bool) → (length pcbs == 1) ≡ b → (not l || b) ≡ true → length pcbs ≡ 1
    by true l_is true same e = eqb-true (length pcbs) 1 same
    by true l_is false same e = cc
    by false l_is b same e = absurd (false≢true l_is)

-- so its number is 1
pub own_number : (names : List TypeName) (pcbs : List View) (number other : ℕ) (pcb any : View) → IsTrue (program_fits names pcbs) → view_of pcbs number ≡ Some pcb → loads pcb ≡ true
    → view_of pcbs other ≡ Some any → other ≡ number
own_number names pcbs number other pcb any fits is loader other_is =
    let one : length pcbs ≡ 1 = alone names pcbs number pcb fits is loader in
    let here = is_there pcbs number pcb is in
    let there = is_there pcbs other any other_is in
    let within : number - 1 < length pcbs = slice_get_within pcbs (number - 1) pcb here.1 in
    let inside : other - 1 < length pcbs = slice_get_within pcbs (other - 1) any there.1 in
    let some : 0 < number = here.0 in
    let more : 0 < other = there.0 in
    omega arith

-- ---- what its calls do

-- an effect leaves the caller behind all rows
abbrev StaysPast : List Segment → Effect → Type 0
StaysPast rows (answered reply change own) = own.passed ≡ length (rows_after change rows)
StaysPast rows wrong_area = Unit {0}

module _ (s : Setting) (rows : List Segment) (p : Position) (past : p.passed ≡ length rows) where
  -- a row behind all others
  behind_past : (new : Segment) → StaysPast rows (insert_at s rows p (new ∷ []) (length rows))
  behind_past new =
      let many : length (put_in (length rows) (new ∷ []) rows) ≡ length rows + 1 = length-put_in (length rows) (new ∷ []) rows in
      let own : length rows + 1 - 1 + 1 ≡ length rows + 1 = omega arith in
      own ∙ sym many

  load_past : (new : Segment) → StaysPast rows (load_step s rows p new)
  load_past new = by (load_fault s.types (last_path s.types rows) new)
    where
      by : (o : Option LoadFault) → StaysPast rows (option_map_or (λ fault. bare_answer p (status_of_load fault)) o (insert_at s rows p (new ∷ []) (length rows)))
      by None = behind_past new
      by (Some fault) = past

  rows_past : loads s.pcb ≡ true → (ssas : List Ssa) (new : List Segment) → StaysPast rows (insert_or_load s rows p ssas new)
  rows_past loader ssas [] = tt
  rows_past loader ssas (r ∷ rs) = subst (StaysPast rows) (sym (cond-true (loads s.pcb) (load_step s rows p r) (insert_rows s rows p ssas (r ∷ rs) r) loader)) (load_past r)

  insert_past : loads s.pcb ≡ true → (ssas : List Ssa) (bytes : List ℕ) → StaysPast rows (insert_step s rows p ssas bytes)
  insert_past loader ssas bytes = by (divide s.types (map (λ c. new_row c) (inserted_codes ssas)) bytes)
    where
      by : (r : Result (List (List ℕ)) AreaFault) → StaysPast rows (with_parts p r (λ parts. insert_or_load s rows p ssas (new_rows (inserted_codes ssas) parts)))
      by (Err Length) = past
      by (Err Bytes) = tt
      by (Ok parts) = rows_past loader ssas (new_rows (inserted_codes ssas) parts)

  -- no other function passes its tests
  forbidden : (l x : Bool) → l ≡ true → (not l && x) ≡ true → ⊥
  forbidden true x loader e = cc
  forbidden false x loader e = false≢true loader

  own_past : loads s.pcb ≡ true → (f : Function) (ssas : List Ssa) (bytes : List ℕ) → is_allowed s rows p.held f ssas ≡ true → StaysPast rows (own_step s rows p bytes f ssas)
  own_past loader (Get kind hold) ssas bytes allowed = absurd (forbidden (loads s.pcb) _ loader allowed)
  own_past loader Insert ssas bytes allowed = insert_past loader ssas bytes
  own_past loader Replace ssas bytes allowed = absurd (forbidden (loads s.pcb) _ loader allowed)
  own_past loader Delete ssas bytes allowed = absurd (forbidden (loads s.pcb) _ loader allowed)

  effect_past : loads s.pcb ≡ true → (call : CallText) → StaysPast rows (effect_of s rows p call)
  effect_past loader call = by (accepted_call s rows p call) refl
    where
      by : (r : Result AcceptedCall Status) → accepted_call s rows p call ≡ r → StaysPast rows (after_tests s rows p call.area r)
      by (Err status) is = past
      by (Ok a) is = own_past loader a.function a.ssas call.area (accepted_ok s rows p call a is).allowed

-- ---- the state behind a call

state_past : (types : List SegmentType) (st : State) (number : ℕ) (effect : Effect) → StaysPast st.rows effect → number - 1 < length st.positions → (position_at st number).passed ≡ length st.rows
    → (position_at (state_after types st number effect) number).passed ≡ length (state_after types st number effect).rows
state_past types st number (answered reply change own) stays within past =
    let moved : List Position = map (λ q. position_after types st.rows change q) st.positions in
    let many : length moved ≡ length st.positions = length-map st.positions (λ q. position_after types st.rows change q) in
    let less : number - 1 < length moved = omega arith in
    ap (λ (q : Position). q.passed) (get_or-set_same moved (number - 1) own at_start less) ∙ stays
state_past types st number wrong_area stays within past = past

-- an answered call of any PCB leaves each PCB that loads behind all rows
answered_stay : (names : List TypeName) (types : List SegmentType) (pcbs : List View) (st : State) (number : ℕ) (call : CallText) → IsTrue (program_fits names pcbs) → length st.positions ≡ length pcbs
    → LoadersArePastAll pcbs st → LoadersArePastAll pcbs (state_after types st number (effect_by types pcbs st number call))
answered_stay names types pcbs st number call fits many past = λ m pcb is loader. by m pcb is loader (view_of pcbs number) refl
  where
    by_some : (pcb any : View) → Some pcb ≡ Some any → pcb ≡ any
    by_some pcb any e = cc

    by : (m : ℕ) (pcb : View) → view_of pcbs m ≡ Some pcb → loads pcb ≡ true → (o : Option View) → view_of pcbs number ≡ o
        → (position_at (state_after types st number (option_map_or (λ x. step types x st number call) o wrong_area)) m).passed
        ≡ length (state_after types st number (option_map_or (λ x. step types x st number call) o wrong_area)).rows
    by m pcb is loader None view = past m pcb is loader
    by m pcb is loader (Some any) view =
        let same : number ≡ m = own_number names pcbs m number pcb any fits is loader view in
        let mine : view_of pcbs number ≡ Some pcb = ap (view_of pcbs) same ∙ is in
        let one : pcb ≡ any = by_some pcb any (sym mine ∙ view) in
        let here : (position_at st number).passed ≡ length st.rows = past number pcb mine loader in
        let within : number - 1 < length pcbs = slice_get_within pcbs (number - 1) pcb (is_there pcbs number pcb mine).1 in
        subst (λ (n : ℕ). (position_at (state_after types st number (step types any st number call)) n).passed ≡ length (state_after types st number (step types any st number call)).rows) same
        (state_past types st number (step types any st number call)
        (effect_past (record { types = types; pcb = any }) st.rows (position_at st number) here (ap loads (sym one) ∙ loader) call) (omega arith) here)

-- so does any, whatever it came to
pub loaders_stay : (names : List TypeName) (types : List SegmentType) (pcbs : List View) (st : State) (number : ℕ) (call : CallText) (outcome : Outcome) → IsTrue (program_fits names pcbs)
    → length st.positions ≡ length pcbs → LoadersArePastAll pcbs st → LoadersArePastAll pcbs (state_after_outcome types st number (effect_by types pcbs st number call) outcome)
loaders_stay names types pcbs st number call (replied r) fits many past = answered_stay names types pcbs st number call fits many past
loaders_stay names types pcbs st number call area fits many past = past
loaders_stay names types pcbs st number call full fits many past = past
loaders_stay names types pcbs st number call memory fits many past = past
