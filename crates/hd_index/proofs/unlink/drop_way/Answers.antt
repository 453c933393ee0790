use Rattle.std.proofs.Common.{◌≡◌, ◌+◌, ◌-◌, ℕ, suc, IsTrue, Ok, refl, sym, subst, ◌∙◌, arith}
use Rattle.hd_volume.proofs.CallSteps.{call-ok, call-none}
use Rattle.hd_volume.proofs.JoinLemmas.{calls-join, read-call, read-one, one-formatted, one-kind}
use Rattle.hd_index.specs.Removals.{IsCut}
use Rattle.hd_index.proofs.Cuts.{stand-apart, block-in-order, left-in-order, cut-on, cut-end}
use Rattle.hd_index.proofs.Drops.{order-index, index-block-one, dropped-before}
use Rattle.hd_index.proofs.unlink.drop_way.Goals as goal

pub loop-init : goal.loop-init
loop-init g c =
    let v = c.args.volume.now in
    let e : c.args.levels - 0 ≡ c.args.levels = omega arith in
    record {
      call = call-none v 0;
      room = refl;
      cut = λ sound old gone kept_top h. (let C : ℕ → Type 0 = λ l. IsCut c.args.key_length old gone kept_top v l c.args.start in subst C (sym e) h);
    }

pub drop_block-requires-clause-formatted : goal.drop_block-requires-clause-formatted
drop_block-requires-clause-formatted g c now =
    let inv = c.loop.invariant in
    let read = c.in_ok-below.ensures.read in
    let here : IsTrue c.loop.volume.is_sound = rw (← read.call.sound) now in
    let sound : IsTrue c.args.volume.now.is_sound = rw (← inv.call.sound) here in
    let off = c.requires.cut sound in
    let cut = inv.cut sound off.0 off.1 off.2 off.3 in
    one-formatted (read-one read now) cut.rest.formatted

pub drop_block-requires-clause-block : goal.drop_block-requires-clause-block
drop_block-requires-clause-block g c now =
    let inv = c.loop.invariant in
    let read = c.in_ok-below.ensures.read in
    let here : IsTrue c.loop.volume.is_sound = rw (← read.call.sound) now in
    let sound : IsTrue c.args.volume.now.is_sound = rw (← inv.call.sound) here in
    let off = c.requires.cut sound in
    let cut = inv.cut sound off.0 off.1 off.2 off.3 in
    one-kind (read-one read now) 2 c.loop.stand.block (block-in-order cut).is

pub drop_block-requires-clause-left : goal.drop_block-requires-clause-left
drop_block-requires-clause-left g c now some =
    let inv = c.loop.invariant in
    let read = c.in_ok-below.ensures.read in
    let here : IsTrue c.loop.volume.is_sound = rw (← read.call.sound) now in
    let sound : IsTrue c.args.volume.now.is_sound = rw (← inv.call.sound) here in
    let off = c.requires.cut sound in
    let cut = inv.cut sound off.0 off.1 off.2 off.3 in (
      c.args.key_length,
      index-block-one c.args.key_length c.loop.volume c.only_below.new.volume c.loop.stand.left (read-one read now)
          (order-index c.args.key_length c.loop.volume c.loop.stand.left (left-in-order cut some)),
    )

pub drop_block-requires-clause-apart : goal.drop_block-requires-clause-apart
drop_block-requires-clause-apart g c now =
    let inv = c.loop.invariant in
    let read = c.in_ok-below.ensures.read in
    let here : IsTrue c.loop.volume.is_sound = rw (← read.call.sound) now in
    let sound : IsTrue c.args.volume.now.is_sound = rw (← inv.call.sound) here in
    let off = c.requires.cut sound in
    stand-apart (inv.cut sound off.0 off.1 off.2 off.3)

pub loop-preserved : goal.loop-preserved
loop-preserved g c =
    let inv = c.loop.invariant in
    let k : ℕ = c.args.key_length in
    let v = c.loop.volume in
    let x = c.only_below.new.volume in
    let w = c.drop_block.new.volume in
    let read = c.in_ok-below.ensures.read in
    let less : ℕ = c.args.levels - (c.loop.counter + 1) in
    let more : c.args.levels - c.loop.counter ≡ suc less = (let t = c.loop-test.true in omega arith) in
    record {
      call = call-ok 0 (calls-join (Ok c.in_ok-drop_block.field-0) (calls-join (Ok c.in_ok-below.below) inv.call (read-call read)) c.in_ok-drop_block.ensures.call);
      room = c.drop_block.ensures.room ∙ read.room ∙ inv.room;
      cut = λ sound old gone kept_top h.
          let here : IsTrue v.is_sound = rw inv.call.sound sound in
          let now : IsTrue x.is_sound = rw read.call.sound here in
          let C : ℕ → Type 0 = λ l. IsCut k old gone kept_top v l c.loop.stand in
          let cut = subst C more (inv.cut sound old gone kept_top h) in
          let one = read-one read now in
          let order = block-in-order cut in
          let drop = dropped-before k v x w c.loop.stand one (c.in_ok-drop_block.ensures.dropped now k (λ some. index-block-one k v x c.loop.stand.left one (order-index k v c.loop.stand.left (left-in-order cut some)))) in
          cut-on k old gone kept_top v less c.loop.stand w c.in_ok-below.below cut drop (c.in_ok-below.ensures.block here order) (c.in_ok-below.ensures.left here (left-in-order cut));
    }

pub drop_block-requires-2-clause-formatted : goal.drop_block-requires-2-clause-formatted
drop_block-requires-2-clause-formatted g c here =
    let inv = c.loop.invariant in
    let sound : IsTrue c.args.volume.now.is_sound = rw (← inv.call.sound) here in
    let off = c.requires.cut sound in
    (inv.cut sound off.0 off.1 off.2 off.3).rest.formatted

pub drop_block-requires-2-clause-block : goal.drop_block-requires-2-clause-block
drop_block-requires-2-clause-block g c here =
    let inv = c.loop.invariant in
    let sound : IsTrue c.args.volume.now.is_sound = rw (← inv.call.sound) here in
    let off = c.requires.cut sound in
    (block-in-order (inv.cut sound off.0 off.1 off.2 off.3)).is

pub drop_block-requires-2-clause-left : goal.drop_block-requires-2-clause-left
drop_block-requires-2-clause-left g c here some =
    let inv = c.loop.invariant in
    let sound : IsTrue c.args.volume.now.is_sound = rw (← inv.call.sound) here in
    let off = c.requires.cut sound in
    (c.args.key_length, order-index c.args.key_length c.loop.volume c.loop.stand.left (left-in-order (inv.cut sound off.0 off.1 off.2 off.3) some))

pub drop_block-requires-2-clause-apart : goal.drop_block-requires-2-clause-apart
drop_block-requires-2-clause-apart g c here =
    let inv = c.loop.invariant in
    let sound : IsTrue c.args.volume.now.is_sound = rw (← inv.call.sound) here in
    let off = c.requires.cut sound in
    stand-apart (inv.cut sound off.0 off.1 off.2 off.3)

pub returns-clause-call : goal.returns-clause-call
returns-clause-call g c = calls-join (Ok c.in_ok-drop_block-2.field-0) c.loop.invariant.call c.in_ok-drop_block-2.ensures.call

pub returns-clause-changed : goal.returns-clause-changed
returns-clause-changed g c sound old gone kept_top h =
    let inv = c.loop.invariant in
    let k : ℕ = c.args.key_length in
    let v = c.loop.volume in
    let here : IsTrue v.is_sound = rw inv.call.sound sound in
    let done : c.args.levels - c.loop.counter ≡ 0 = (let t = c.loop-test.false in omega arith) in
    let C : ℕ → Type 0 = λ l. IsCut k old gone kept_top v l c.loop.stand in
    let cut = subst C done (inv.cut sound old gone kept_top h) in
    cut-end k old gone kept_top v c.loop.stand c.drop_block-2.new.volume cut (c.in_ok-drop_block-2.ensures.dropped here k (λ some. order-index k v c.loop.stand.left (left-in-order cut some)))
