use Rattle.std.proofs.Common.{◌≡◌, ℕ, ◌-◌, ◌<◌, List, [], length, take, Option, Some, None, refl, ap, ◌∙◌, arith}
use Rattle.std.specs.Option.{option_map_or}
use Rattle.hd_dbd.specs.Types.{SegmentType}
use Rattle.hd_dbd.specs.Paths.{parent_row}
use Rattle.hd_links.specs.Steps.{rows_of, path_at}
use Rattle.hd_image.specs.Records.{links_of}
use Rattle.hd_index.proofs.CallLemmas.{on-ok-map}
use Rattle.hd_get.specs.Searches.{parent_path, GoesOn}
use Rattle.hd_get.proofs.Spans.{parent_span}
use Rattle.hd_get.proofs.Climbs.{up_is, some_path, empty_is, full_path, parent_at, parent_there}
use Rattle.hd_get.proofs.Turns.{turned_up, turned_out}
use Rattle.hd_get.proofs.steps.rest.Goals as goal

pub returns-then-is_empty-clause-value : goal.returns-then-is_empty-clause-value
returns-then-is_empty-clause-value g c f i at test admits end E inside up rest across = by (parent_row types (rows_of f) i) refl
  where
    types : List SegmentType
    types = c.args.dbd.now.types

    above : c.up.new.self ≡ parent_path types f i
    above = c.up.ensures.value ∙ ap (λ (xs : List ℕ). take (length xs - 1) xs) at.row.is ∙ up_is types f i

    none : length c.up.new.self ≡ 0
    none = empty_is c.up.new.self c.addresses.result.now c.is_empty.result c.addresses.ensures.value c.is_empty.ensures c.if-is_empty.true

    by : (o : Option ℕ) → parent_row types (rows_of f) i ≡ o → GoesOn test admits types f end i c.up.new.self
    by None e = turned_out test admits types f c.args.parent i end E inside up c.up.new.self e rest (above ∙ ap (λ (o : Option ℕ). option_map_or (λ q. path_at types f q) o []) e)
    by (Some p) e = absurd (
        let some : 0 < length (path_at types f p) = some_path types f p in
        let is : length c.up.new.self ≡ length (path_at types f p) = ap (λ (xs : List ℕ). length xs) (above ∙ ap (λ (o : Option ℕ). option_map_or (λ q. path_at types f q) o []) e) in
        let z : length c.up.new.self ≡ 0 = none in omega arith)

pub across-requires-clause-there : goal.across-requires-clause-there
across-requires-clause-there g c sound =
    let d = c.args.dbd.now in
    let T = c.requires.there sound in
    parent_there d.types (links_of d.types c.args.volume.now) T.0 T.1 T.2.holds T.2.within c.up.new.self
    (c.up.ensures.value ∙ ap (λ (xs : List ℕ). take (length xs - 1) xs) T.2.is ∙ up_is d.types T.0 T.1)
    (full_path c.up.new.self c.addresses.result.now c.is_empty.result c.addresses.ensures.value c.is_empty.ensures c.if-is_empty.false)

pub returns-clause-value : goal.returns-clause-value
returns-clause-value g c =
    on-ok-map c.across.result (λ goes f i at test admits end E inside up rest across.
    let types : List SegmentType = c.args.dbd.now.types in
    let above : c.up.new.self ≡ parent_path types f i = c.up.ensures.value ∙ ap (λ (xs : List ℕ). take (length xs - 1) xs) at.row.is ∙ up_is types f i in
    let some : 0 < length c.up.new.self = full_path c.up.new.self c.addresses.result.now c.is_empty.result c.addresses.ensures.value c.is_empty.ensures c.if-is_empty.false in
    let P = parent_at types f i c.up.new.self above some in
    let w : P.0 < i = (parent_span types (rows_of f) i P.0 at.row.within P.1).0 in
    let l : i < length (rows_of f) = at.row.within in
    turned_up test admits types f c.args.parent i end E inside up P.0 c.across.new.path P.1 rest across
    (goes f P.0 (record { sound = at.sound; row = record { holds = at.row.holds; within = omega arith; is = P.2 } }))) c.across.ensures.value
