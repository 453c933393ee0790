use Rattle.std.proofs.Common.{◌≡◌, ◌+◌, ◌-◌, ℕ, suc, IsTrue, Ok, length, refl, sym, subst, ◌∙◌, arith}
use Rattle.hd_volume.proofs.JoinLemmas.{calls-join}
use Rattle.hd_volume.proofs.CallSteps.{call-ok, call-none}
use Rattle.hd_index.specs.Comings.{MayCome, HasComeTo}
use Rattle.hd_index.proofs.Comings.{coming-kind, come-none, come-join}
use Rattle.hd_index.proofs.enter.come_down.Goals as goal

pub loop-init : goal.loop-init
loop-init g c =
    let v = c.args.volume.now in
    let key = c.args.key.now in
    let e : c.args.levels - 0 ≡ c.args.levels = omega arith in
    let M : ℕ → Type 0 = λ l. HasComeTo (length key) v key c.args.by.now l c.args.n v in
    record {
      call = call-none v 0;
      room = refl;
      come = λ sound. subst M (sym e) (come-none (length key) v key c.args.by.now c.args.levels c.args.n (c.requires.may sound));
    }

pub step_by-requires-clause-index : goal.step_by-requires-clause-index
step_by-requires-clause-index g c sound =
    let v = c.args.volume.now in
    let inv = c.loop.invariant in
    let was : IsTrue v.is_sound = rw (← inv.call.sound) sound in
    (inv.come was).may.index

pub step_by-requires-clause-block : goal.step_by-requires-clause-block
step_by-requires-clause-block g c sound =
    let v = c.args.volume.now in
    let key = c.args.key.now in
    let inv = c.loop.invariant in
    let was : IsTrue v.is_sound = rw (← inv.call.sound) sound in
    coming-kind (length key) c.loop.volume key c.args.by.now (c.args.levels - c.loop.counter) c.loop.below (inv.come was).may

pub loop-preserved : goal.loop-preserved
loop-preserved g c =
    let v = c.args.volume.now in
    let w = c.loop.volume in
    let u = c.step_by.new.volume in
    let key = c.args.key.now in
    let by = c.args.by.now in
    let inv = c.loop.invariant in
    let less : ℕ = c.args.levels - (c.loop.counter + 1) in
    let more : c.args.levels - c.loop.counter ≡ suc less = (let t = c.loop-test.true in omega arith) in
    record {
      call = call-ok 0 (calls-join (Ok c.in_ok-below.below) inv.call c.in_ok-below.ensures.call);
      room = c.step_by.ensures.room ∙ inv.room;
      come = λ sound.
          let now : IsTrue w.is_sound = rw inv.call.sound sound in
          let was = inv.come sound in
          let M : ℕ → Type 0 = λ l. MayCome (length key) w key by l c.loop.below in
          come-join (length key) v w u key by (c.args.levels - c.loop.counter) c.loop.below less c.in_ok-below.below (c.requires.may sound).index c.requires.some was
          (c.in_ok-below.ensures.come now less (subst M more was.may));
    }

pub returns-clause-come : goal.returns-clause-come
returns-clause-come g c sound =
    let key = c.args.key.now in
    let done : c.args.levels - c.loop.counter ≡ 0 = (let t = c.loop-test.false in omega arith) in
    let M : ℕ → Type 0 = λ l. HasComeTo (length key) c.args.volume.now key c.args.by.now l c.loop.below c.loop.volume in
    subst M done (c.loop.invariant.come sound)
