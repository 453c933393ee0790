use Rattle.std.proofs.Common.{◌≡◌, ◌+◌, ◌-◌, ◌<◌, ℕ, suc, IsTrue, Result, Ok, Err, refl, sym, ap, ◌∙◌, subst, arith}
use Rattle.std.specs.Prelude.{IfErr}
use Rattle.std.proofs.lemmas.Result.{err_from_is_err_and}
use Rattle.hd_dbd.specs.declared.answer.Refused.{Refused}
use Rattle.hd_dbd.specs.declared.answer.Refused.TheVariants.{Device}
use Rattle.hd_volume.specs.Calls.{IsCall}
use Rattle.hd_volume.proofs.JoinLemmas.{calls-join}
use Rattle.hd_volume.proofs.CallSteps.{call-ok, call-none, sound-back}
use Rattle.hd_index_blocks.specs.IndexSets.{index_entries}
use Rattle.hd_index_blocks.specs.Needs.{needed_by}
use Rattle.hd_index.specs.Changes.{IsChanged}
use Rattle.hd_index.specs.Rooms.{IsReady}
use Rattle.hd_index.proofs.Inserting.{unchanged, changed-on, ready-step, ready-device}
use Rattle.hd_index.proofs.insertion.make_rooms.Goals as goal

pub loop-init : goal.loop-init
loop-init g c =
    let v = c.args.volume.now in
    record {
      call = call-none v 0;
      room = λ s. omega arith;
      changed = λ s. unchanged c.args.key_length v v (c.requires.index s) (record { same = record { size = refl; sizes = refl }; image = refl });
      some = c.requires.some;
      needed = λ s. (let e : needed_by c.args.key_length v c.args.by.now + 0 ≡ needed_by c.args.key_length v c.args.by.now = omega arith in e);
      ready = c.requires.ready;
    }

pub make_room-requires-clause-index : goal.make_room-requires-clause-index
make_room-requires-clause-index g c now =
    let inv = c.loop.invariant in
    let s : IsTrue c.args.volume.now.is_sound = rw (← inv.call.sound) now in
    (inv.changed s).index

pub make_room-requires-clause-some : goal.make_room-requires-clause-some
make_room-requires-clause-some g c now =
    let inv = c.loop.invariant in
    let s : IsTrue c.args.volume.now.is_sound = rw (← inv.call.sound) now in
    inv.some s

pub make_room-requires-clause-needed : goal.make_room-requires-clause-needed
make_room-requires-clause-needed g c now =
    let inv = c.loop.invariant in
    let s : IsTrue c.args.volume.now.is_sound = rw (← inv.call.sound) now in
    let n = inv.needed s in
    let most = c.requires.taken s in
    let t = c.loop-test.true in
    omega arith

pub make_room-requires-clause-high : goal.make_room-requires-clause-high
make_room-requires-clause-high g c now =
    let inv = c.loop.invariant in
    let s : IsTrue c.args.volume.now.is_sound = rw (← inv.call.sound) now in
    let n = inv.needed s in
    let f = c.requires.few s in
    omega arith

pub make_room-requires-clause-three : goal.make_room-requires-clause-three
make_room-requires-clause-three g c =
    let z = c.loop.invariant.call.size in
    let t = c.requires.three in
    omega arith

pub returns-in_err-make_room-clause-call : goal.returns-in_err-make_room-clause-call
returns-in_err-make_room-clause-call g c =
    let p = err_from_is_err_and c.from_residual.result c.from_residual.ensures.1 in
    subst (λ (r : Result (Unit {0}) Refused). IsCall c.args.volume.now r c.make_room.new.volume) (sym (p.1 ∙ ap Err p.2))
    (calls-join (Err c.in_err-make_room.field-0.0) c.loop.invariant.call c.in_err-make_room.ensures.call)

pub returns-in_err-make_room-clause-device : goal.returns-in_err-make_room-clause-device
returns-in_err-make_room-clause-device g c =
    let v = c.args.volume.now in
    let inv = c.loop.invariant in
    let t = c.loop-test.true in
    let p = err_from_is_err_and c.from_residual.result c.from_residual.ensures.1 in
    subst (λ (r : Result (Unit {0}) Refused). IfErr r (λ e. IsTrue v.is_sound → e ≡ Device)) (sym (p.1 ∙ ap Err p.2))
    (λ s.
    let now : IsTrue c.loop.volume.is_sound = rw inv.call.sound s in
    let R : ℕ → Type 0 = λ i. IsReady i c.loop.volume in
    let all = inv.needed s in
    let most = c.requires.taken s in
    let some : ℕ = needed_by c.args.key_length c.loop.volume c.args.by.now in
    let e : some ≡ suc (some - 1) = omega arith in
    ready-device (some - 1) c.loop.volume c.make_room.new.volume c.in_err-make_room.field-0.0 (inv.changed s).index.formatted (subst R e (inv.ready s)) now c.in_err-make_room.ensures.refused)

pub returns-in_err-make_room-clause-room : goal.returns-in_err-make_room-clause-room
returns-in_err-make_room-clause-room g c now =
    let inv = c.loop.invariant in
    let t = c.loop-test.true in
    let one = c.make_room.ensures.room now in
    let before : IsTrue c.loop.volume.is_sound = sound-back {A = Unit {0}} (Err c.in_err-make_room.field-0.0) c.loop.volume.is_sound c.make_room.new.volume.is_sound c.in_err-make_room.ensures.call.sound now in
    let all = inv.room before in
    omega arith

pub loop-preserved : goal.loop-preserved
loop-preserved g c =
    let v = c.args.volume.now in
    let u = c.loop.volume in
    let w = c.make_room.new.volume in
    let k : ℕ = c.args.key_length in
    let inv = c.loop.invariant in
    let t = c.loop-test.true in
    let o = c.in_ok-make_room.ensures in
    let left : ℕ = needed_by k w c.args.by.now in
    let R : ℕ → Type 0 = λ i. IsReady i u in
    let some : 0 < v.size = (let three = c.requires.three in omega arith) in
    record {
      call = call-ok 0 (calls-join (Ok c.in_ok-make_room.field-0) inv.call o.call);
      room = λ now. (let before : IsTrue u.is_sound = rw (← o.call.sound) now in let one = o.room now in let all = inv.room before in omega arith);
      changed = λ s. (let now : IsTrue u.is_sound = rw inv.call.sound s in
          changed-on k v u w (index_entries k v) c.loop.counter (c.requires.index s) some (inv.changed s) (o.changed now));
      some = λ s. (let now : IsTrue u.is_sound = rw inv.call.sound s in o.some now);
      needed = λ s. (let now : IsTrue u.is_sound = rw inv.call.sound s in let n = inv.needed s in let m = o.less now in omega arith);
      ready = λ s. (let now : IsTrue u.is_sound = rw inv.call.sound s in
          let last : IsTrue w.is_sound = rw o.call.sound now in
          let m = o.less now in
          let e : needed_by k u c.args.by.now ≡ suc left = omega arith in
          ready-step k u w (index_entries k u) left (subst R e (inv.ready s)) (o.changed now) (o.room last));
    }

pub returns-clause-call : goal.returns-clause-call
returns-clause-call g c = call-ok tt c.loop.invariant.call

pub returns-clause-changed : goal.returns-clause-changed
returns-clause-changed g c s =
    let k : ℕ = c.args.key_length in
    let t = c.loop-test.false in
    let inv = c.loop.invariant in
    let end = c.loop.auto.counter-end in
    let C : ℕ → Type 0 = λ i. IsChanged k c.args.volume.now (index_entries k c.args.volume.now) i c.loop.volume in
    let e : c.loop.counter ≡ c.args.taken = omega arith in
    subst C e (inv.changed s)

pub returns-clause-left : goal.returns-clause-left
returns-clause-left g c s =
    let t = c.loop-test.false in
    let end = c.loop.auto.counter-end in
    let n = c.loop.invariant.needed s in
    omega arith

pub returns-clause-room : goal.returns-clause-room
returns-clause-room g c now =
    let inv = c.loop.invariant in
    let t = c.loop-test.false in
    let all = inv.room now in
    let end = c.loop.auto.counter-end in
    omega arith
