use Rattle.std.proofs.Common.{◌≢◌, ℕ, ◌<◌, refl, sym, ap, subst, ◌∙◌, arith}
use Rattle.hd_links.specs.Links.{Links}
use Rattle.hd_image.specs.Records.{links_of}
use Rattle.hd_forest.specs.Walks.{tip}
use Rattle.hd_forest.proofs.Held.{held}
use Rattle.hd_forest.proofs.Climbs.{a-path, next-twin}
use Rattle.hd_forest.proofs.walk.twin_ahead.Goals as goal

pub returns : goal.returns
returns c = λ d v path of holds there one is.
    let m : Links = links_of d.types v in
    let H = held d v of.fit of holds in
    let twin : ℕ = c.args.ahead.twin in
    let some : tip path ≢ 0 = λ e. absurd (omega (arith, one, e)) in
    let more : twin ≢ 0 = λ e. (let f = c.if-ahead-eq0.false in f e) in
    let behind : 0 < m.forward (tip path) = subst (λ (x : ℕ). 0 < x) is.twin (omega (arith, more)) in (
      next-twin d.types m path (tip path) c.args.ahead.below refl is.below H.linked.typed there some twin c.args.ahead.code is.twin is.code c.if-ahead-ne0.false more,
      is.code ∙ sym (H.linked.typed.forward (tip path) (a-path m path there some).1 behind).1 ∙ ap m.code (sym is.twin),
    )
