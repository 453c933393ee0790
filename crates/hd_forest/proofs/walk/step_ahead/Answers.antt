use Rattle.std.proofs.Common.{◌≢◌, ℕ, ◌-◌, ◌∷◌, [], ◌++◌, length, take, ap, ◌∙◌, refl, arith}
use Rattle.hd_dbd.proofs.LevelLaw.{leveled}
use Rattle.hd_dbd.proofs.Fitting.{types_fit, level_of-at_most}
use Rattle.hd_links.specs.Links.{Links}
use Rattle.hd_image.specs.Records.{links_of}
use Rattle.hd_forest.specs.Walks.{tip}
use Rattle.hd_forest.proofs.Held.{held}
use Rattle.hd_forest.proofs.Climbs.{next-deeper, next-twin}
use Rattle.hd_forest.proofs.walk.step_ahead.Goals as goal

pub returns-then-ahead-ne0-clause-next : goal.returns-then-ahead-ne0-clause-next
returns-then-ahead-ne0-clause-next c chosen v of holds there one names =
    let d = c.args.dbd.now in
    let m : Links = links_of d.types v in
    let path = c.args.path.now in
    let H = held d v of.fit of holds in
    let some : tip path ≢ 0 = λ e. absurd (omega (arith, one, e)) in
    let deeper = next-deeper d.types m path (tip path) c.args.ahead.below refl names.below (length v.image) H.ordered (leveled d.block_size d.frspc d.types of.fit) H.graph H.linked.typed
    there some c.args.ahead.code names.code (λ e. (let f = c.if-ahead-ne0.true in f e)) in
    let most = level_of-at_most d.block_size d.types (m.code c.args.ahead.below) (types_fit d.block_size d.frspc d.types of.fit) in
    let level = c.level-level.ensures.level in
    c.step_below.ensures (omega (arith, deeper.1, most, level)) ∙ ap (λ (l : ℕ). take l path ++ c.args.ahead.below ∷ []) level ∙ deeper.0

pub returns-then-ahead-ne0-2-clause-next : goal.returns-then-ahead-ne0-2-clause-next
returns-then-ahead-ne0-2-clause-next c chosen v of holds there one names =
    let d = c.args.dbd.now in
    let m : Links = links_of d.types v in
    let path = c.args.path.now in
    let H = held d v of.fit of holds in
    let twin : ℕ = c.args.ahead.twin in
    let some : tip path ≢ 0 = λ e. absurd (omega (arith, one, e)) in
    c.step.ensures
    ∙ ap (λ (l : ℕ). take (l - 1) path ++ twin ∷ []) c.level-level.ensures.level
    ∙ next-twin d.types m path (tip path) c.args.ahead.below refl names.below H.linked.typed there some
    twin c.args.ahead.code names.twin names.code c.if-ahead-ne0.false (λ e. (let f = c.if-ahead-ne0-2.true in f e))
