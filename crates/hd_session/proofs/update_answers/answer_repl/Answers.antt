use Rattle.std.proofs.Common.{◌≡◌, ℕ, ◌-◌, ◌<◌, List, length, ap, sym, subst, ◌∙◌, arith}
use Rattle.std.specs.Prelude.{slice_index_or}
use Rattle.std.proofs.lemmas.Bool.{eqb-true}
use Rattle.std.proofs.lemmas.List.{get_or_default}
use Rattle.hd_position.specs.Kept.{Kept, kept_start}
use Rattle.hd_session.proofs.update_answers.answer_repl.Goals as goal

pub returns-then-is_empty-clause-done : goal.returns-then-is_empty-clause-done
returns-then-is_empty-clause-done g c pcb st sound R =
    let old : List Kept = c.args.positions.now in
    let n : ℕ = c.args.number in
    let within : n - 1 < length old = omega (arith, c.requires.number.0, c.requires.number.1) in
    let some : 0 < length (slice_index_or old (n - 1) kept_start).held = c.requires.held sound in
    let held : c.as_slice.result.now ≡ (slice_index_or old (n - 1) kept_start).held
    = c.as_slice.ensures.value ∙ c.held.ensures ∙ ap (λ (x : Kept). x.held) (get_or_default old (n - 1) c.index-positions-number.result kept_start within) in
    let none : length c.as_slice.result.now ≡ 0 = eqb-true (length c.as_slice.result.now) 0 (sym c.is_empty.ensures ∙ c.if-is_empty.true) in
    let many : 0 < length c.as_slice.result.now = subst (λ (xs : List ℕ). 0 < length xs) (sym held) some in
    absurd (omega arith)
