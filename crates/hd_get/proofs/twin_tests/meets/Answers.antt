use Rattle.std.proofs.Common.{◌≡◌, ℕ, ◌||◌, ◌==◌, List, Bool, true, false, refl, sym, ap, ap₂, subst, ◌∙◌}
use Rattle.std.specs.Prelude.{◌&&◌, not}
use Rattle.std.proofs.lemmas.Bool.{eq-eqb, ne_eqb}
use Rattle.hd_dbd.specs.Hierarchy.{Database}
use Rattle.hd_dbd.specs.Paths.{row_at}
use Rattle.hd_dbd.specs.Forest.{Forest}
use Rattle.hd_volume.specs.Volumes.{VolumeState}
use Rattle.hd_volume.proofs.CallSteps.{if-ok}
use Rattle.hd_links.specs.Links.{IsSegment, segment_at}
use Rattle.hd_links.specs.Placed.{Placed}
use Rattle.hd_links.specs.Steps.{rows_of}
use Rattle.hd_image.specs.Records.{links_of, IsVolumeOf}
use Rattle.hd_forest.specs.Walks.{tip}
use Rattle.hd_forest.specs.Rows.{IsOnSomeRow}
use Rattle.hd_forest.proofs.Reading.{links-kept, volume-kept}
use Rattle.hd_calls.specs.Ssas.{Ssa}
use Rattle.hd_calls.specs.Satisfies.{qualifies, is_last_so}
use Rattle.hd_get.specs.Searches.{IsPathOf}
use Rattle.hd_get.proofs.Grounds.{grounds, tip_is, tip_there, told_before}
use Rattle.hd_get.proofs.twin_tests.meets.Goals as goal
use Rattle.hd_get.proofs.twin_tests.meets.Goals.{then-not-commands-via-then-not-commands, then-not-commands-via-else-not-commands+then-code-eq1}

pub qualifies-requires-clause-there : goal.qualifies-requires-clause-there
qualifies-requires-clause-there g c sound =
    let d = c.args.dbd.now in
    let u = c.args.volume.now in
    let T = c.requires.there sound in
    subst (IsSegment (links_of d.types u)) (sym c.tip_of.ensures) (tip_there d.types (links_of d.types u) T.0 (grounds d u T.0 (c.requires.of sound) T.2.holds) c.args.path.now T.1 T.2)

-- what was told of the segment at the path's end is told of its row
of_row : (d : Database) (v : VolumeState) (ssa : Ssa) → IsVolumeOf d v → (path : List ℕ) (f : Forest Placed) (i : ℕ) → IsPathOf d v f path i → (tip_ : ℕ) → tip_ ≡ tip path → (r : Bool)
    → r ≡ qualifies ssa (segment_at (links_of d.types v) tip_) → qualifies ssa (row_at (rows_of f) i) ≡ r
of_row d v ssa of path f i at tip_ is r e =
    let G = grounds d v f of at.row.holds in
    ap (qualifies ssa) (sym (ap (segment_at (links_of d.types v)) (is ∙ tip_is d.types (links_of d.types v) f G path i at.row) ∙ G.addressed.same i at.row.within)) ∙ sym e

or_true : (b x : Bool) → (b || true || x) ≡ true
or_true true x = refl
or_true false x = refl

pub returns-then-not-branch-clause-value : goal.returns-then-not-branch-clause-value
returns-then-not-branch-clause-value g c f i at =
    sym (ap (λ b. b && (not c.args.ssa.now.commands.last || c.args.ssa.now.code == 1 || is_last_so c.args.dbd.now.types (rows_of f) c.args.ssa.now i))
    (of_row c.args.dbd.now c.args.volume.now c.args.ssa.now (c.requires.of at.sound) c.args.path.now f i at c.tip_of.result c.tip_of.ensures c.in_ok-qualifies.field-0 (c.in_ok-qualifies.ensures.value at.sound)
    ∙ c.if-not-branch.true))

pub returns-then-not-commands-clause-value : goal.returns-then-not-commands-clause-value
returns-then-not-commands-clause-value g c f i at =
    let types = c.args.dbd.now.types in
    let a : Ssa = c.args.ssa.now in
    let has : qualifies a (row_at (rows_of f) i) ≡ true
    = of_row c.args.dbd.now c.args.volume.now a (c.requires.of at.sound) c.args.path.now f i at c.tip_of.result c.tip_of.ensures c.in_ok-qualifies.field-0 (c.in_ok-qualifies.ensures.value at.sound)
    ∙ c.if-not-branch.false in
    sym (ap₂ (λ x y. x && y) has (elim c.then-not-commands.branch [
      | then-not-commands-via-then-not-commands w ↦
          ap (λ b. not b || a.code == 1 || is_last_so types (rows_of f) a i) (ap (λ k. k.last) (sym c.commands.ensures) ∙ w.if-not-commands.true)
      | then-not-commands-via-else-not-commands+then-code-eq1 w ↦
          ap (λ b. not a.commands.last || b || is_last_so types (rows_of f) a i) (eq-eqb a.code 1 (sym w.code.ensures ∙ w.if-code-eq1.true)) ∙ or_true (not a.commands.last) (is_last_so types (rows_of f) a i)
    ]))

pub is_last_so-requires-clause-of : goal.is_last_so-requires-clause-of
is_last_so-requires-clause-of g c = volume-kept c.args.dbd.now c.args.volume.now c.qualifies.new.volume c.in_ok-qualifies.ensures.read c.requires.of

pub is_last_so-requires-clause-there : goal.is_last_so-requires-clause-there
is_last_so-requires-clause-there g c =
    links-kept c.args.dbd.now (λ m. IsOnSomeRow c.args.dbd.now.types m c.args.path.now) c.args.volume.now c.qualifies.new.volume c.in_ok-qualifies.ensures.read c.requires.there

pub returns-clause-value : goal.returns-clause-value
returns-clause-value g c =
    if-ok c.is_last_so.result c.is_last_so.ensures.value (λ r value f i at.
    let types = c.args.dbd.now.types in
    let a : Ssa = c.args.ssa.now in
    let has : qualifies a (row_at (rows_of f) i) ≡ true
    = of_row c.args.dbd.now c.args.volume.now a (c.requires.of at.sound) c.args.path.now f i at c.tip_of.result c.tip_of.ensures c.in_ok-qualifies.field-0 (c.in_ok-qualifies.ensures.value at.sound)
    ∙ c.if-not-branch.false in
    value f i (told_before c.args.dbd.now c.args.volume.now c.qualifies.new.volume c.in_ok-qualifies.ensures.read f c.args.path.now i at)
    ∙ sym (ap₂ (λ x y. x && y) has
    (ap (λ b. not b || a.code == 1 || is_last_so types (rows_of f) a i) (ap (λ k. k.last) (sym c.commands.ensures) ∙ c.if-not-commands.false)
    ∙ ap (λ b. b || is_last_so types (rows_of f) a i) (ne_eqb a.code 1 (λ z. c.if-code-eq1.false (c.code.ensures ∙ z))))))
