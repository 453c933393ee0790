use Rattle.std.proofs.Common.{ℕ, false, Option, ap, sym, ◌∙◌}
use Rattle.std.specs.Prelude.{nat_le}
use Rattle.std.specs.Option.{option_map_or}
use Rattle.hd_dbd.specs.Paths.{row_at}
use Rattle.hd_links.specs.Steps.{rows_of}
use Rattle.hd_position.specs.Kept.{Kept}
use Rattle.hd_get.proofs.KeptPaths.{kept_row, kept_none, kept_there, kept_code, read_there, read_none}
use Rattle.hd_get.proofs.first.is_level_from.Goals as goal

pub returns-in_default-clause-value : goal.returns-in_default-clause-value
returns-in_default-clause-value g c f q at =
    let d = c.args.dbd.now in
    let k : Kept = c.args.position.now in
    let none = read_none k c.path.result.now c.args.level c.row_on.result c.path.ensures c.row_on.ensures c.in_default.is in
    sym (ap (λ (o : Option ℕ). option_map_or (λ x. nat_le c.args.code (row_at (rows_of f) x).code) o false) (kept_none d c.args.volume.now f k q (c.requires.of at.sound) at.at c.args.level none))

pub code_at-requires-clause-there : goal.code_at-requires-clause-there
code_at-requires-clause-there g c sound =
    let T = c.requires.there sound in
    kept_there c.args.dbd.now c.args.volume.now T.0 c.args.position.now T.1 (c.requires.of sound) T.2 c.args.level c.in-Some.address
    (read_there c.args.position.now c.path.result.now c.args.level c.in-Some.address c.row_on.result c.path.ensures c.row_on.ensures c.in-Some.is)

pub returns-clause-value : goal.returns-clause-value
returns-clause-value g c f q at =
    let d = c.args.dbd.now in
    let v = c.args.volume.now in
    let k : Kept = c.args.position.now in
    let of = c.requires.of at.sound in
    let e = read_there k c.path.result.now c.args.level c.in-Some.address c.row_on.result c.path.ensures c.row_on.ensures c.in-Some.is in
    let K = kept_row d v f k q of at.at c.args.level c.in-Some.address e in
    ap (nat_le c.args.code) (c.in_ok-code_at.ensures.value at.sound ∙ kept_code d v f k q of at.at c.args.level c.in-Some.address K.0 K.1)
    ∙ sym (ap (λ (o : Option ℕ). option_map_or (λ x. nat_le c.args.code (row_at (rows_of f) x).code) o false) K.1.on)
