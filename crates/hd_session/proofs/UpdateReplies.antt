-- What REPL and DLET answer.
use Rattle.std.proofs.Common.{◌≡◌, ℕ, ◌-◌, ◌<◌, ◌≤◌, List, [], length, Bool, true, false, cond, Ok, Option, Some, None, refl, sym, ap, ◌∙◌, subst, Err}
use Rattle.std.specs.Prelude.{map, slice_index_or, Result}
use Rattle.std.specs.Option.{option_map_or}
use Rattle.std.specs.List.{list_all}
use Rattle.hd_dbd.specs.Hierarchy.{Database}
use Rattle.hd_dbd.specs.Segment.{Segment}
use Rattle.hd_dbd.specs.Positions.{Position}
use Rattle.hd_dbd.specs.Calls.{Reply, bare, row_reply}
use Rattle.hd_dbd.specs.Views.{Setting}
use Rattle.hd_dbd.specs.declared.answer.Status.{Status}
use Rattle.hd_dbd.specs.declared.answer.Status.TheVariants.{Blank, DA, DJ, V1}
use Rattle.hd_calls.specs.Ssas.{Ssa}
use Rattle.hd_calls.specs.Gets.{unheld}
use Rattle.hd_calls.specs.Moves.{Change, Rewrite, rewritten}
use Rattle.hd_calls.specs.Steps.{State, Effect, answered, wrong_area, bare_answer, position_at, lowest, divide, rewrites_of, rewrites_asked, keeps_key, replace_rows, replace_step, deleted_row, delete_row, delete_step, held_part, with_parts}
use Rattle.hd_calls.specs.NoLostUpdate.{is_done}
use Rattle.hd_volume.specs.Volumes.{VolumeState}
use Rattle.hd_volume.specs.Calls.{IsRead}
use Rattle.hd_links.specs.Steps.{rows_of}
use Rattle.hd_forest.proofs.Reading.{after-read}
use Rattle.hd_position.specs.Kept.{Kept, row_on, path_passed}
use Rattle.hd_get.specs.declared.outcome.Outcome.{Outcome}
use Rattle.hd_get.specs.declared.outcome.Outcome.TheVariants.{Found, Missing}
use Rattle.hd_update.specs.States.{IsAnswered}
use Rattle.hd_update.specs.Calls.{replace_effect, delete_effect, IsReplaceDone, IsDeleteDone}
use Rattle.hd_update.proofs.Answering.{answered_before, represented}
use Rattle.hd_update.proofs.Standing.{own_position}
use Rattle.hd_session.specs.Sessions.{IsStep, IsTold, IsLevelGiven, IsReplaceStep, IsDeleteStep, lowest_level, deleted_level}
use Rattle.hd_session.proofs.HeldLevels.{lowest_at, deleted_at}
use Rattle.hd_calls.specs.declared.call.AreaFault.{AreaFault}
use Rattle.hd_calls.specs.declared.call.AreaFault.TheVariants.{Length, Bytes}

true_false : true ≡ false → ⊥
true_false e = cc

-- ---- effects

-- An effect answers a row, or a status alone.
record GivesRow (e : Effect) (row : Reply) : Type 0 where
  done : (reply : Reply) (change : Change) (own : Position) → e ≡ answered reply change own → is_done reply.status ≡ true → reply ≡ row
  undone : (reply : Reply) (change : Change) (own : Position) → e ≡ answered reply change own → is_done reply.status ≡ false → reply ≡ bare reply.status

one_reply : (r s : Reply) (c b : Change) (p q : Position) → answered r c p ≡ answered s b q → r ≡ s
one_reply r s c b p q e = cc

-- one that answers the row
gives : (row : Reply) (c : Change) (p : Position) → is_done row.status ≡ true → GivesRow (answered row c p) row
gives row c p is = record {
  done = λ reply change own e d. sym (one_reply row reply c change p own e);
  undone = λ reply change own e d. absurd (true_false (sym is ∙ ap (λ (r : Reply). is_done r.status) (one_reply row reply c change p own e) ∙ d));
}

-- one that answers a status alone
gives_none : (status : Status) (row : Reply) (c : Change) (p : Position) → is_done status ≡ false → GivesRow (answered (bare status) c p) row
gives_none status row c p is = record {
  done = λ reply change own e d. absurd (true_false (sym d ∙ ap (λ (r : Reply). is_done r.status) (sym (one_reply (bare status) reply c change p own e)) ∙ is));
  undone = λ reply change own e d. (let same = one_reply (bare status) reply c change p own e in sym same ∙ ap (λ (r : Reply). bare r.status) same);
}

-- one that answers nothing
gives_area : (row : Reply) → GivesRow wrong_area row
gives_area row = record { done = λ reply change own e d. cc; undone = λ reply change own e d. cc }

rows_reply : (s : Setting) (rows : List Segment) (p : Position) (ws : List Rewrite) → GivesRow (replace_rows s rows p ws) (row_reply s rows (lowest p.held) Blank [])
rows_reply s rows p ws = by (list_all (λ w. keeps_key s.types rows w) ws)
  where
    by : (b : Bool) → GivesRow (cond b (answered (row_reply s rows (lowest p.held) Blank []) (rewritten ws) (unheld p)) (bare_answer p DA)) (row_reply s rows (lowest p.held) Blank [])
    by true = gives (row_reply s rows (lowest p.held) Blank []) (rewritten ws) (unheld p) refl
    by false = gives_none DA (row_reply s rows (lowest p.held) Blank []) _ (unheld p) refl

replace_reply : (s : Setting) (rows : List Segment) (p : Position) (ssas : List Ssa) (area : List ℕ) → GivesRow (replace_step s rows p ssas area) (row_reply s rows (lowest p.held) Blank [])
replace_reply s rows p ssas area = by (divide s.types (map (λ i. held_part rows ssas i) p.held) area)
  where
    by : (r : Result (List (List ℕ)) AreaFault) → GivesRow (with_parts p r (λ parts. replace_rows s rows p (rewrites_asked rows ssas (rewrites_of p.held parts)))) (row_reply s rows (lowest p.held) Blank [])
    by (Err Length) = gives_none V1 (row_reply s rows (lowest p.held) Blank []) _ (unheld p) refl
    by (Err Bytes) = gives_area (row_reply s rows (lowest p.held) Blank [])
    by (Ok parts) = rows_reply s rows p (rewrites_asked rows ssas (rewrites_of p.held parts))

delete_reply : (s : Setting) (rows : List Segment) (p : Position) (ssas : List Ssa) (row : Reply)
    → ((i : ℕ) → deleted_row rows ssas p.held ≡ Some i → row ≡ row_reply s rows i Blank []) → GivesRow (delete_step s rows p ssas) row
delete_reply s rows p ssas row own = by (deleted_row rows ssas p.held) refl
  where
    by : (o : Option ℕ) → deleted_row rows ssas p.held ≡ o → GivesRow (option_map_or (λ d. delete_row s rows p d) o (bare_answer p DJ)) row
    by None e = gives_none DJ row _ (unheld p) refl
    by (Some i) e = subst (GivesRow (delete_row s rows p i)) (sym (own i e)) (gives (row_reply s rows i Blank []) _ _ refl)

-- ---- steps

-- what came to an outcome, and was told so, is a step
told_step : (d : Database) (v : VolumeState) (st : State) (number : ℕ) (e : Effect) (o : Outcome) (w : VolumeState) (new : List Kept) (given reply : Reply) → IsAnswered d v st number e o w new
    → IsTold o given reply → GivesRow e given → IsStep d v st number e reply w new
told_step d v st number e (Found status) w new given reply A told G = record {
  change = A.change;
  own = A.own;
  is = A.is ∙ ap (λ (r : Reply). answered r A.change A.own) (G.done A.reply A.change A.own A.is (ap is_done A.outcome_is.0 ∙ A.outcome_is.1) ∙ sym told);
  represents = A.represents;
  follows = A.follows;
}
told_step d v st number e (Missing status) w new given reply A told G = record {
  change = A.change;
  own = A.own;
  is = A.is ∙ ap (λ (r : Reply). answered r A.change A.own) (G.undone A.reply A.change A.own A.is (ap is_done A.outcome_is.0 ∙ A.outcome_is.1) ∙ ap bare A.outcome_is.0 ∙ sym told);
  represents = A.represents;
  follows = A.follows;
}

module _ {A : Type 0} {x : A} (d : Database) (v mid w : VolumeState) (old new : List Kept) (number : ℕ) (ssas : List Ssa) (k : Kept) (level : ℕ) (given reply : Reply) (o : Outcome)
    (read : IsRead {T = A} v (Ok x) mid) (some : 0 < number) (within : number ≤ length old) (row : IsLevelGiven d v (slice_index_or old (number - 1) k) level given) (told : IsTold o given reply) where
  pub replaced_step : (area : List ℕ) → level ≡ lowest_level (slice_index_or old (number - 1) k).held → 0 < length (slice_index_or old (number - 1) k).held
      → IsReplaceDone d mid old number ssas area o w new → IsReplaceStep d v old number ssas area reply w new
  replaced_step area at_level held done pcb st sound R =
      let s : Setting = record { types = d.types; pcb = pcb } in
      let q : Position = position_at st number in
      let at = own_position d v old st number R some within sound k in
      let same = after-read d v mid read sound in
      let own : given ≡ row_reply s st.rows (lowest q.held) Blank []
      = row R.placed q (lowest q.held) pcb at (ap (row_on (path_passed d.types (rows_of R.placed) q.passed)) at_level ∙ lowest_at d v R.placed (slice_index_or old (number - 1) k) q at held)
      ∙ ap (λ (rows : List Segment). row_reply s rows (lowest q.held) Blank []) R.rows in
      told_step d v st number (replace_effect d pcb number ssas area st) o w new given reply
      (answered_before d v mid st number (replace_effect d pcb number ssas area st) o w new same.image (done pcb st same.sound (represented d v mid old st read sound R)))
      told (subst (GivesRow (replace_effect d pcb number ssas area st)) (sym own) (replace_reply s st.rows q ssas area))

  pub deleted_step : level ≡ deleted_level d.types ssas (slice_index_or old (number - 1) k).held → IsDeleteDone d mid old number ssas o w new → IsDeleteStep d v old number ssas reply w new
  deleted_step at_level done pcb st sound R =
      let s : Setting = record { types = d.types; pcb = pcb } in
      let q : Position = position_at st number in
      let at = own_position d v old st number R some within sound k in
      let same = after-read d v mid read sound in
      told_step d v st number (delete_effect d pcb number ssas st) o w new given reply
      (answered_before d v mid st number (delete_effect d pcb number ssas st) o w new same.image (done pcb st same.sound (represented d v mid old st read sound R)))
      told (delete_reply s st.rows q ssas given (λ i is.
      row R.placed q i pcb at (ap (row_on (path_passed d.types (rows_of R.placed) q.passed)) at_level ∙ deleted_at d v R.placed (slice_index_or old (number - 1) k) q at ssas i (ap (λ (rows : List Segment). deleted_row rows ssas q.held) R.rows ∙ is))
      ∙ ap (λ (rows : List Segment). row_reply s rows i Blank []) R.rows))
