use Rattle.std.proofs.Common.{◌≡◌, ℕ, ◌<◌, ◌≤◌, arith, Some, ap, sym, ◌∙◌}
use Rattle.std.specs.Prelude.{option_map}
use Rattle.hd_dbd.specs.Hierarchy.{level_of}
use Rattle.hd_links.specs.Steps.{rows_of}
use Rattle.hd_position.specs.Kept.{Kept, path_passed, row_on}
use Rattle.hd_get.proofs.KeptPaths.{kept_rows, kept_row, kept_none, kept_there, kept_code, standing_short, read_there, read_none}
use Rattle.hd_get.proofs.Lowering.{none_deeper, none_at, none_other, found_at}
use Rattle.hd_get.proofs.type_paths.type_level.Goals as goal

pub returns-then-level-standing-clause-value : goal.returns-then-level-standing-clause-value
returns-then-level-standing-clause-value g c f q at =
    let d = c.args.dbd.now in
    let over = kept_rows d c.args.volume.now f c.args.position.now q (c.requires.of at.sound) at.at in
    let level : c.level-level.result ≡ level_of d.types c.args.code = c.level-level.ensures.level in
    let standing : c.standing.result ≡ c.args.position.now.standing = c.standing.ensures in
    let less : c.standing.result < c.level-level.result = c.if-level-standing.true in
    sym (ap (option_map (λ r. level_of d.types c.args.code))
    (none_deeper d.types (rows_of f) over q at.at.stands.within c.args.position.now.standing at.at.stands.standing c.args.code (omega arith)))

pub returns-in_default-clause-value : goal.returns-in_default-clause-value
returns-in_default-clause-value g c f q at =
    let d = c.args.dbd.now in
    let k : Kept = c.args.position.now in
    let of = c.requires.of at.sound in
    let over = kept_rows d c.args.volume.now f k q of at.at in
    let none = read_none k c.path.result.now c.level-level.result c.row_on.result c.path.ensures c.row_on.ensures c.in_default.is in
    sym (ap (option_map (λ r. level_of d.types c.args.code))
    (none_at d.types (rows_of f) over q at.at.stands.within k.standing at.at.stands.standing c.args.code
    (ap (row_on (path_passed d.types (rows_of f) q.passed)) (sym c.level-level.ensures.level) ∙ kept_none d c.args.volume.now f k q of at.at c.level-level.result none)))

pub code_at-requires-clause-there : goal.code_at-requires-clause-there
code_at-requires-clause-there g c sound =
    let T = c.requires.there sound in
    kept_there c.args.dbd.now c.args.volume.now T.0 c.args.position.now T.1 (c.requires.of sound) T.2 c.level-level.result c.in-Some.address
    (read_there c.args.position.now c.path.result.now c.level-level.result c.in-Some.address c.row_on.result c.path.ensures c.row_on.ensures c.in-Some.is)

pub returns-then-branch-code-clause-value : goal.returns-then-branch-code-clause-value
returns-then-branch-code-clause-value g c f q at =
    let d = c.args.dbd.now in
    let v = c.args.volume.now in
    let k : Kept = c.args.position.now in
    let of = c.requires.of at.sound in
    let over = kept_rows d v f k q of at.at in
    let e = read_there k c.path.result.now c.level-level.result c.in-Some.address c.row_on.result c.path.ensures c.row_on.ensures c.in-Some.is in
    let K = kept_row d v f k q of at.at c.level-level.result c.in-Some.address e in
    let code = c.in_ok-code_at.ensures.value at.sound ∙ kept_code d v f k q of at.at c.level-level.result c.in-Some.address K.0 K.1 in
    sym (ap (option_map (λ r. level_of d.types c.args.code))
    (none_other d.types (rows_of f) over q at.at.stands.within k.standing at.at.stands.standing c.args.code K.0
    (ap (row_on (path_passed d.types (rows_of f) q.passed)) (sym c.level-level.ensures.level) ∙ K.1.on) (λ same. c.if-branch-code.true (code ∙ same))))

pub returns-clause-value : goal.returns-clause-value
returns-clause-value g c f q at =
    let d = c.args.dbd.now in
    let v = c.args.volume.now in
    let k : Kept = c.args.position.now in
    let of = c.requires.of at.sound in
    let over = kept_rows d v f k q of at.at in
    let e = read_there k c.path.result.now c.level-level.result c.in-Some.address c.row_on.result c.path.ensures c.row_on.ensures c.in-Some.is in
    let K = kept_row d v f k q of at.at c.level-level.result c.in-Some.address e in
    let code = c.in_ok-code_at.ensures.value at.sound ∙ kept_code d v f k q of at.at c.level-level.result c.in-Some.address K.0 K.1 in
    let level : c.level-level.result ≡ level_of d.types c.args.code = c.level-level.ensures.level in
    let standing : c.standing.result ≡ k.standing = c.standing.ensures in
    ap (λ (l : ℕ). Some l) c.level-level.ensures.level
    ∙ sym (ap (option_map (λ r. level_of d.types c.args.code))
    (found_at d.types (rows_of f) over q at.at.stands.within k.standing at.at.stands.standing c.args.code K.0 (standing_short d v f k q of at.at)
    (let low : c.level-level.result ≤ c.standing.result = omega (arith, c.if-level-standing.false) in omega arith)
    (ap (row_on (path_passed d.types (rows_of f) q.passed)) (sym c.level-level.ensures.level) ∙ K.1.on)
    (sym code ∙ c.if-branch-code.false)))
