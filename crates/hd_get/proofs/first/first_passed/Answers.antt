use Rattle.std.proofs.Common.{◌≡◌, ℕ, ◌+◌, Bool, true, Ok, None, sym, ap, ◌∙◌}
use Rattle.std.specs.Prelude.{option_map, cond}
use Rattle.hd_dbd.specs.Hierarchy.{Database}
use Rattle.hd_dbd.specs.Paths.{row_at}
use Rattle.hd_dbd.specs.Positions.{Position}
use Rattle.hd_dbd.specs.Forest.{Forest}
use Rattle.hd_volume.specs.Volumes.{VolumeState}
use Rattle.hd_volume.proofs.CallSteps.{read-ok, reads-join}
use Rattle.hd_volume.proofs.JoinLemmas.{if-ok-map}
use Rattle.hd_links.specs.Links.{is_child_type}
use Rattle.hd_links.specs.Placed.{Placed}
use Rattle.hd_links.specs.Steps.{rows_of, path_at}
use Rattle.hd_image.specs.Records.{links_of, IsVolumeOf}
use Rattle.hd_forest.proofs.Reading.{links-kept, volume-kept}
use Rattle.hd_position.specs.Kept.{Kept}
use Rattle.hd_position.specs.Gets.{IsAt, IsSomewhere}
use Rattle.hd_calls.specs.SearchStarts.{has_first}
use Rattle.hd_calls.specs.Ssas.{Ssa}
use Rattle.hd_calls.specs.Gets.{first_child}
use Rattle.hd_get.specs.First.{first_passed, parent_level, is_level_from}
use Rattle.hd_get.proofs.Asking.{child_of}
use Rattle.hd_get.proofs.KeptPaths.{kept_rows, kept_told}
use Rattle.hd_get.proofs.Lowering.{IsParentOn, parent_on, passed_none, kept_parent, passed_is, parent_some}
use Rattle.hd_get.proofs.first.first_passed.Goals as goal

pub returns-in_default-clause-value : goal.returns-in_default-clause-value
returns-in_default-clause-value g c f q at =
    let d = c.args.dbd.now in
    sym (ap (option_map (λ j. path_at d.types f j)) (passed_none d.types (rows_of f) q c.args.ssa.now c.requires.first
    (ap (parent_level d.types (rows_of f) q) (sym c.code-code.ensures) ∙ sym (c.in_ok-level.ensures.value f q at) ∙ c.in_default.is)))

pub is_level_from-requires-clause-of : goal.is_level_from-requires-clause-of
is_level_from-requires-clause-of g c = volume-kept c.args.dbd.now c.args.volume.now c.parent_level.new.volume c.in_ok-level.ensures.read c.requires.of

pub is_level_from-requires-clause-there : goal.is_level_from-requires-clause-there
is_level_from-requires-clause-there g c =
    links-kept c.args.dbd.now (λ m. IsSomewhere c.args.dbd.now.types m c.args.position.now) c.args.volume.now c.parent_level.new.volume c.in_ok-level.ensures.read c.requires.there

pub returns-then-not-branch-clause-read : goal.returns-then-not-branch-clause-read
returns-then-not-branch-clause-read g c = reads-join (Ok None) c.in_ok-level.ensures.read (read-ok None c.in_ok-is_level_from.ensures.read)

-- the first occurrence among the rows passed, by what was read
passed_by : (d : Database) (v : VolumeState) (f : Forest Placed) (k : Kept) (q : Position) (of : IsVolumeOf d v) (at : IsAt d.types (links_of d.types v) f k q)
    (a : Ssa) (code l : ℕ) (b : Bool) (P : IsParentOn d.types (rows_of f) q a.code l) → has_first a ≡ true → code ≡ a.code
    → b ≡ is_level_from d.types (rows_of f) q (l + 1) code → first_passed d.types (rows_of f) q a ≡ cond b (first_child d.types (rows_of f) a.code P.row) None
passed_by d v f k q of at a code l b P first same is =
    passed_is d.types (rows_of f) (kept_rows d v f k q of at) q at.stands.within k.standing at.stands.standing a l P first
    ∙ ap (λ r. cond r (first_child d.types (rows_of f) a.code P.row) None) (sym (is ∙ ap (is_level_from d.types (rows_of f) q (l + 1)) same))

pub returns-then-not-branch-clause-value : goal.returns-then-not-branch-clause-value
returns-then-not-branch-clause-value g c f q at =
    let d = c.args.dbd.now in
    let u = c.args.volume.now in
    let k : Kept = c.args.position.now in
    let a : Ssa = c.args.ssa.now in
    let of = c.requires.of at.sound in
    let P = parent_on d.types (rows_of f) q a.code c.in-Some.level
    (ap (parent_level d.types (rows_of f) q) (sym c.code-code.ensures) ∙ sym (c.in_ok-level.ensures.value f q at) ∙ c.in-Some.is) in
    sym (ap (option_map (λ j. path_at d.types f j))
    (passed_by d u f k q of at.at a c.code-code.result c.in-Some.level c.in_ok-is_level_from.field-0 P c.requires.first c.code-code.ensures
    (c.in_ok-is_level_from.ensures.value f q (kept_told d u c.parent_level.new.volume c.in_ok-level.ensures.read f k q at))
    ∙ ap (λ r. cond r (first_child d.types (rows_of f) a.code P.row) None) c.if-not-branch.true))

pub child_below-requires-clause-of : goal.child_below-requires-clause-of
child_below-requires-clause-of g c =
    volume-kept c.args.dbd.now c.parent_level.new.volume c.is_level_from.new.volume c.in_ok-is_level_from.ensures.read
    (volume-kept c.args.dbd.now c.args.volume.now c.parent_level.new.volume c.in_ok-level.ensures.read c.requires.of)

pub child_below-requires-clause-there : goal.child_below-requires-clause-there
child_below-requires-clause-there g c =
    links-kept c.args.dbd.now (λ m. IsSomewhere c.args.dbd.now.types m c.args.position.now) c.parent_level.new.volume c.is_level_from.new.volume c.in_ok-is_level_from.ensures.read
    (links-kept c.args.dbd.now (λ m. IsSomewhere c.args.dbd.now.types m c.args.position.now) c.args.volume.now c.parent_level.new.volume c.in_ok-level.ensures.read c.requires.there)

pub returns-clause-value : goal.returns-clause-value
returns-clause-value g c = if-ok-map c.child_below.result (λ path made f q at.
    let d = c.args.dbd.now in
    let u = c.args.volume.now in
    let k : Kept = c.args.position.now in
    let a : Ssa = c.args.ssa.now in
    let of = c.requires.of at.sound in
    let P = parent_on d.types (rows_of f) q a.code c.in-Some.level
    (ap (parent_level d.types (rows_of f) q) (sym c.code-code.ensures) ∙ sym (c.in_ok-level.ensures.value f q at) ∙ c.in-Some.is) in
    let told = kept_told d u c.parent_level.new.volume c.in_ok-level.ensures.read f k q at in
    let K = kept_parent d.types (rows_of f) (kept_rows d u f k q of at.at) q at.at.stands.within k.standing at.at.stands.standing a.code c.in-Some.level P in
    made f q P.row (kept_told d c.parent_level.new.volume c.is_level_from.new.volume c.in_ok-is_level_from.ensures.read f k q told) K.at
    (ap (is_child_type d.types (row_at (rows_of f) P.row).code) c.code-code.ensures
    ∙ child_of d.types (row_at (rows_of f) P.row).code a.code (parent_some d.types (rows_of f) (kept_rows d u f k q of at.at) q at.at.stands.within k.standing at.at.stands.standing a.code c.in-Some.level P) K.code_is)
    ∙ ap (λ code. option_map (λ j. path_at d.types f j) (first_child d.types (rows_of f) code P.row)) c.code-code.ensures
    ∙ sym (ap (option_map (λ j. path_at d.types f j))
    (passed_by d u f k q of at.at a c.code-code.result c.in-Some.level c.in_ok-is_level_from.field-0 P c.requires.first c.code-code.ensures (c.in_ok-is_level_from.ensures.value f q told)
    ∙ ap (λ r. cond r (first_child d.types (rows_of f) a.code P.row) None) c.if-not-branch.false))) c.child_below.ensures.value
