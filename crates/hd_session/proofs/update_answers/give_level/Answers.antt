use Rattle.std.proofs.Common.{◌≡◌, ℕ, ◌<◌, ◌≤◌, [], List, length, take, Some, ap, sym, subst, ◌∙◌, refl, arith, inl, inr}
use Rattle.std.proofs.lemmas.Bool.{cases_lt}
use Rattle.hd_dbd.specs.declared.answer.Status.TheVariants.{Blank}
use Rattle.hd_volume.proofs.CallSteps.{if-ok}
use Rattle.hd_links.specs.Steps.{rows_of}
use Rattle.hd_image.specs.Records.{links_of}
use Rattle.hd_forest.specs.Rows.{IsOnRow}
use Rattle.hd_position.specs.Kept.{Kept, row_on, path_passed}
use Rattle.hd_session.proofs.GotRows.{given_same}
use Rattle.hd_session.proofs.HeldLevels.{down_to, some_at, at_most}
use Rattle.hd_session.proofs.update_answers.give_level.Goals as goal
use Rattle.hd_session.proofs.update_answers.give_level.Goals.{then-level-eq0-via-then-level-eq0, then-level-eq0-via-else-level-eq0+then-level}

none_on : (path : List ℕ) (i : ℕ) → row_on path 0 ≡ Some i → ⊥
none_on path i e = cc

-- a number that is not 0
some : (n : ℕ) → (n ≡ 0 → ⊥) → 0 < n
some n ne = elim (cases_lt 0 n) [ inl w ↦ w | inr w ↦ absurd (ne (let z : n ≡ 0 = omega arith in z)) ]

pub returns-then-level-eq0-clause-given : goal.returns-then-level-eq0-clause-given
returns-then-level-eq0-clause-given g c f q i pcb at on = absurd (elim c.then-level-eq0.branch [
  | then-level-eq0-via-then-level-eq0 w ↦
      none_on (path_passed c.args.dbd.now.types (rows_of f) q.passed) i (subst (λ l. row_on (path_passed c.args.dbd.now.types (rows_of f) q.passed) l ≡ Some i) w.if-level-eq0.true on)
  | then-level-eq0-via-else-level-eq0+then-level w ↦
      (let k : Kept = c.args.position.now in
      let low : w.level.result < c.args.level = w.if-level.true in
      let size : w.level.result ≡ length k.path = w.level.ensures.value ∙ ap (λ (xs : List ℕ). length xs) w.path.ensures in
      let most : c.args.level ≤ length k.path = at_most c.args.dbd.now c.args.volume.now f k q at c.args.level i on in
      omega arith)
])

pub give-requires-clause-there : goal.give-requires-clause-there
give-requires-clause-there g c sound =
    let d = c.args.dbd.now in
    let u = c.args.volume.now in
    let k : Kept = c.args.position.now in
    let l : ℕ = c.args.level in
    let T = c.requires.there sound in
    let size : c.level.result ≡ length k.path = c.level.ensures.value ∙ ap (λ (xs : List ℕ). length xs) c.path.ensures in
    let most : l ≤ c.level.result = c.if-level.false in
    let S = some_at d u T.0 k T.1 T.2 l (some l c.if-level-eq0.false) (omega arith) in (
      T.0,
      S.0,
      subst (λ (path : List ℕ). IsOnRow d.types (links_of d.types u) T.0 path S.0) (sym (c.path_down_to-path.ensures ∙ ap (take l) c.path-2.ensures)) (down_to d u T.0 k T.1 T.2 l S.0 S.1),
    )

pub returns-clause-given : goal.returns-clause-given
returns-clause-given g c = if-ok c.give.result c.give.ensures.given (λ a given f q i pcb at on.
    let d = c.args.dbd.now in
    let u = c.args.volume.now in
    let k : Kept = c.args.position.now in
    let l : ℕ = c.args.level in
    let there = given_same d u c.path_down_to-path.result (take l k.path) c.new.result [] Blank (c.path_down_to-path.ensures ∙ ap (take l) c.path-2.ensures) c.new.ensures given in
    there f i [] pcb (record { sound = at.sound; row = down_to d u f k q at l i on; rows = refl; ascend = tt }))
