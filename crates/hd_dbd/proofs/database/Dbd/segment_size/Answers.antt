use Rattle.std.proofs.Common.{◌≡◌, ℕ, arith, ap, sym, ◌∙◌, Option, Some}
use Rattle.std.specs.Option.{option_map_or}
use Rattle.hd_dbd.specs.Hierarchy.{Database}
use Rattle.hd_dbd.specs.Types.{SegmentType}
use Rattle.hd_dbd.specs.Lengths.{least_length}
use Rattle.hd_dbd.proofs.TypeLengths.{type-lengths, type-room}
use Rattle.hd_dbd.proofs.database.Dbd.segment_size.Goals as goal

pub overflow_cast-result : goal.overflow_cast-result
overflow_cast-result c =
    let d : Database = c.args.self.now in
    let has = type-lengths d.block_size d.frspc d.types c.args.code c.in-Some.segment.now c.type_of.ensures.fit (sym c.in-Some.ensures.value) in
    let room = type-room d.block_size d.frspc d.types c.args.code c.in-Some.segment.now c.type_of.ensures.fit (sym c.in-Some.ensures.value) in
    let varies : c.in-Some.segment.now.least ≡ Some c.in-Some-least.least = ap (λ (t : SegmentType). t.least) (sym c.segment.view_is) ∙ c.in-Some-least.is in
    let least : least_length c.in-Some.segment.now ≡ c.in-Some-least.least = ap (λ (o : Option ℕ). option_map_or (λ l. l) o c.in-Some.segment.now.length) varies in
    omega (arith, has.most, room, least)

pub overflow_cast-result-in-Some-least : goal.overflow_cast-result-in-Some-least
overflow_cast-result-in-Some-least c =
    let d : Database = c.args.self.now in
    let room = type-room d.block_size d.frspc d.types c.args.code c.in-Some.segment.now c.type_of.ensures.fit (sym c.in-Some.ensures.value) in
    let same : c.in-Some.segment.now.length ≡ c.segment.inside.length = ap (λ (t : SegmentType). t.length) (sym c.segment.view_is) in
    omega (arith, room, same)
