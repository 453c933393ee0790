use Rattle.std.proofs.Common.{◌≡◌, ℕ, ◌<◌, List, length, get_or, max, ap, ◌∙◌, subst}
use Rattle.hd_dbd.specs.Types.{SeenType, View}
use Rattle.hd_serve.specs.Hello.{length_for}
use Rattle.hd_serve.proofs.LongestKeys.{greatest-more}
use Rattle.hd_serve.proofs.hello.longest_key.Goals as goal

pub loop-sens-preserved : goal.loop-sens-preserved
loop-sens-preserved c =
    let f : SeenType → ℕ = λ s. length_for c.args.types.now c.args.lengths.now s.name in
    let seen : c.deref-sens-items.result.now ≡ c.args.pcb.now.sens = c.deref-sens-items.ensures.value ∙ ap (λ (p : View). p.sens) c.pcb.view_is in
    let more : c.greater-most.result ≡ max c.loop-sens.most (f c.sens-item.result) = c.greater-most.ensures ∙ ap (max c.loop-sens.most) c.length_seen.ensures in
    greatest-more f c.args.pcb.now.sens c.loop-sens.sens-index c.sens-item.result c.loop-sens.most c.greater-most.result (subst (λ (xs : List SeenType). c.loop-sens.sens-index < length xs) seen c.loop-sens-test.true)
    (subst (λ (xs : List SeenType). c.sens-item.result ≡ get_or xs c.loop-sens.sens-index c.sens-item.result) seen c.sens-item.is) more ∙ c.loop-sens.invariant
