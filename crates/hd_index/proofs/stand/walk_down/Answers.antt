use Rattle.std.proofs.Common.{◌≡◌, ◌+◌, ◌-◌, ℕ, suc, IsTrue, Ok, sym, subst, arith}
use Rattle.hd_index.specs.Stands.{IsStand}
use Rattle.hd_volume.proofs.CallSteps.{reads-join, read-ok, read-none}
use Rattle.hd_volume.proofs.JoinLemmas.{read-one}
use Rattle.hd_index.proofs.Searching.{set-same, one-turned}
use Rattle.hd_index.proofs.Standing.{stand-same}
use Rattle.hd_index.proofs.stand.walk_down.Goals as goal

pub loop-init : goal.loop-init
loop-init g c =
    let v = c.args.volume.now in
    let k : ℕ = c.args.key_length in
    let e : c.args.levels - 0 ≡ c.args.levels = omega arith in
    let S : ℕ → Type 0 = λ l. IsStand k v c.args.key.now l c.args.start in
    record { read = read-none v 0; stands = λ s x h. subst S (sym e) h }

pub loop-preserved : goal.loop-preserved
loop-preserved g c =
    let v = c.args.volume.now in
    let w = c.loop.volume in
    let k : ℕ = c.args.key_length in
    let key = c.args.key.now in
    let inv = c.loop.invariant in
    let less : ℕ = c.args.levels - (c.loop.counter + 1) in
    let more : c.args.levels - c.loop.counter ≡ suc less = (let t = c.loop-test.true in omega arith) in
    let S : ℕ → Type 0 = λ l. IsStand k v key l c.loop.stand in
    record {
      read = read-ok 0 (reads-join (Ok c.in_ok-stand.stand) inv.read c.in_ok-stand.ensures.read);
      stands = λ s x h.
          let now : IsTrue w.is_sound = rw inv.read.call.sound s in
          let one = read-one inv.read now in
          let same = set-same k v w one x in
          let up = stand-same k v w key (suc less) c.loop.stand one (subst S more (inv.stands s x h)) in
          stand-same k w v key less c.in_ok-stand.stand (one-turned one) (c.in_ok-stand.ensures.stand now same.0 less up);
    }

pub returns-clause-stand : goal.returns-clause-stand
returns-clause-stand g c sound x h =
    let done : c.args.levels - c.loop.counter ≡ 0 = (let t = c.loop-test.false in omega arith) in
    let S : ℕ → Type 0 = λ l. IsStand c.args.key_length c.args.volume.now c.args.key.now l c.loop.stand in
    subst S done (c.loop.invariant.stands sound x h)
