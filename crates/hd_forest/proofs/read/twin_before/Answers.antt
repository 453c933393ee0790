use Rattle.std.proofs.Common.{◌≡◌, ◌≢◌, ◌-◌, ◌+◌, ◌<◌, ℕ, suc, IsTrue, Ok, ap, sym, subst, ◌∙◌, arith}
use Rattle.hd_links.specs.Links.{Links, IsSegment}
use Rattle.hd_image.specs.Records.{links_of}
use Rattle.hd_forest.specs.Twins.{IsTwinWithin, IsBehind}
use Rattle.hd_volume.proofs.CallSteps.{read-ok, reads-join}
use Rattle.hd_forest.proofs.Reading.{after-read, sound-before}
use Rattle.hd_forest.proofs.Chains.{nearer, none-left, passed}
use Rattle.hd_forest.proofs.read.twin_before.Goals as goal

pub returns-then-twin-address-clause-value : goal.returns-then-twin-address-clause-value
returns-then-twin-address-clause-value g c sound =
    let m : Links = links_of c.args.dbd.now.types c.args.volume.now in
    let e : c.loop.twin ≡ c.args.address = c.if-twin-address.true in subst (IsBehind m c.args.first c.loop.before) e (c.loop.invariant.behind sound)

pub returns-clause-value : goal.returns-clause-value
returns-clause-value g c sound =
    let m : Links = links_of c.args.dbd.now.types c.args.volume.now in
    let inv = c.loop.invariant in
    let over = c.loop-test.false in
    let none : c.length-most.result - c.loop.counter ≡ 0 = omega arith in
    subst (IsBehind m c.args.first c.loop.before) (none-left m c.loop.twin c.args.address (subst (λ n. IsTwinWithin m n c.loop.twin c.args.address) none (inv.left sound))) (inv.behind sound)

nearer-now : (m : Links) (most counter p a : ℕ) → counter < most → IsTwinWithin m (most - counter) p a → IsTwinWithin m (suc (most - (counter + 1))) p a
nearer-now m most counter p a low w = subst (λ n. IsTwinWithin m n p a) (omega arith) w

pub next_twin-requires-clause-there : goal.next_twin-requires-clause-there
next_twin-requires-clause-there g c now =
    let d = c.args.dbd.now in
    let u = c.args.volume.now in
    let v = c.loop.volume in
    let m : Links = links_of d.types u in
    let inv = c.loop.invariant in
    let sound = sound-before u v inv.read now in
    let same = after-read d u v inv.read sound in
    let ne : c.loop.twin ≢ c.args.address = λ e. (let f = c.if-twin-address.false in f e) in
    let low : c.loop.counter < c.length-most.result = c.loop-test.true in
    subst (λ (k : Links). IsSegment k c.loop.twin) (sym same.links)
    (nearer m _ c.loop.twin c.args.address (nearer-now m c.length-most.result c.loop.counter c.loop.twin c.args.address low (inv.left sound)) ne).there

pub loop-preserved : goal.loop-preserved
loop-preserved g c =
    let d = c.args.dbd.now in
    let u = c.args.volume.now in
    let v = c.loop.volume in
    let m : Links = links_of d.types u in
    let inv = c.loop.invariant in
    let ne : c.loop.twin ≢ c.args.address = λ e. (let f = c.if-twin-address.false in f e) in
    let low : c.loop.counter < c.length-most.result = c.loop-test.true in
    let near = λ (sound : IsTrue u.is_sound). nearer m (c.length-most.result - (c.loop.counter + 1)) c.loop.twin c.args.address
    (nearer-now m c.length-most.result c.loop.counter c.loop.twin c.args.address low (inv.left sound)) ne in
    let next = λ (sound : IsTrue u.is_sound).
    (let same = after-read d u v inv.read sound in
    let e : c.in_ok-twin.twin ≡ m.forward c.loop.twin = c.in_ok-twin.ensures.value same.sound ∙ ap (λ (k : Links). k.forward c.loop.twin) same.links in e) in
    record {
      read = read-ok 0 (reads-join (Ok c.in_ok-twin.twin) inv.read c.in_ok-twin.ensures.read);
      left = λ sound. subst (λ x. IsTwinWithin m (c.length-most.result - (c.loop.counter + 1)) x c.args.address) (sym (next sound)) (near sound).next;
      behind = λ sound. subst (IsBehind m c.args.first c.loop.twin) (sym (next sound)) (passed m c.args.first c.loop.before c.loop.twin (inv.behind sound) (near sound).there);
    }
