use Rattle.std.proofs.Common.{◌≡◌, ℕ, ◌-◌, ◌<◌, List, [], length, take, Option, ap, ◌∙◌, arith}
use Rattle.std.specs.Option.{option_map_or}
use Rattle.hd_dbd.specs.Types.{SegmentType}
use Rattle.hd_links.specs.Steps.{rows_of, path_at}
use Rattle.hd_image.specs.Records.{links_of}
use Rattle.hd_index.proofs.CallLemmas.{on-ok-map}
use Rattle.hd_get.specs.Searches.{parent_path}
use Rattle.hd_get.proofs.Spans.{parent_span}
use Rattle.hd_get.proofs.Climbs.{up_is, some_path, empty_is, full_path, parent_there}
use Rattle.hd_get.proofs.LastChildren.{turned_beside_to_last}
use Rattle.hd_get.proofs.steps.beside_to_last.Goals as goal

pub returns-then-is_empty-clause-value : goal.returns-then-is_empty-clause-value
returns-then-is_empty-clause-value g c f i at test admits end E inside up W = absurd (
    let some : 0 < length (path_at types f W.parent) = some_path types f W.parent in
    let is : length c.up.new.self ≡ length (path_at types f W.parent) = ap (λ (xs : List ℕ). length xs) (above ∙ ap (λ (o : Option ℕ). option_map_or (λ q. path_at types f q) o []) W.is) in
    let z : length c.up.new.self ≡ 0 = none in omega arith)
  where
    types : List SegmentType
    types = c.args.dbd.now.types

    above : c.up.new.self ≡ parent_path types f i
    above = c.up.ensures.value ∙ ap (λ (xs : List ℕ). take (length xs - 1) xs) at.row.is ∙ up_is types f i

    none : length c.up.new.self ≡ 0
    none = empty_is c.up.new.self c.addresses.result.now c.is_empty.result c.addresses.ensures.value c.is_empty.ensures c.if-is_empty.true

pub down_to_last-requires-clause-there : goal.down_to_last-requires-clause-there
down_to_last-requires-clause-there g c sound =
    let d = c.args.dbd.now in
    let T = c.requires.there sound in
    parent_there d.types (links_of d.types c.args.volume.now) T.0 T.1 T.2.holds T.2.within c.up.new.self
    (c.up.ensures.value ∙ ap (λ (xs : List ℕ). take (length xs - 1) xs) T.2.is ∙ up_is d.types T.0 T.1)
    (full_path c.up.new.self c.addresses.result.now c.is_empty.result c.addresses.ensures.value c.is_empty.ensures c.if-is_empty.false)

pub returns-clause-value : goal.returns-clause-value
returns-clause-value g c =
    on-ok-map c.down_to_last.result (λ goes f i at test admits end E inside up W.
    let types : List SegmentType = c.args.dbd.now.types in
    let above : c.up.new.self ≡ path_at types f W.parent
    = c.up.ensures.value ∙ ap (λ (xs : List ℕ). take (length xs - 1) xs) at.row.is ∙ up_is types f i ∙ ap (λ (o : Option ℕ). option_map_or (λ q. path_at types f q) o []) W.is in
    let w : W.parent < i = (parent_span types (rows_of f) i W.parent at.row.within W.is).0 in
    let l : i < length (rows_of f) = at.row.within in
    turned_beside_to_last test admits types f c.args.parent i end E inside up c.args.code c.down_to_last.new.path W
    (goes f W.parent (record { sound = at.sound; row = record { holds = at.row.holds; within = omega arith; is = above } }))) c.down_to_last.ensures.value
