use Rattle.std.proofs.Common.{ℕ, List, sym, subst}
use Rattle.hd_image.specs.Records.{links_of}
use Rattle.hd_forest.specs.Walks.{IsAhead, tip}
use Rattle.hd_forest.proofs.Climbs.{nothing-ahead}
use Rattle.hd_forest.proofs.walk.go_on.Goals as goal

pub returns-then-step_ahead-clause-value : goal.returns-then-step_ahead-clause-value
returns-then-step_ahead-clause-value g c sound =
    c.step_ahead.ensures.next c.if-step_ahead.true c.args.volume.now (c.requires.of sound) (c.requires.holds sound) (c.requires.there sound) c.requires.some (c.requires.ahead sound)

pub step_behind-requires-clause-last : goal.step_behind-requires-clause-last
step_behind-requires-clause-last g c sound =
    let types = c.args.dbd.now.types in
    let none = c.step_ahead.ensures.none c.if-step_ahead.false in
    subst (λ (path : List ℕ). IsAhead types (links_of types c.args.volume.now) (tip path) (record { below = 0; twin = 0; code = c.args.ahead.code })) (sym none.0)
    (nothing-ahead _ _ _ c.args.ahead (c.requires.ahead sound) none.1 none.2)
