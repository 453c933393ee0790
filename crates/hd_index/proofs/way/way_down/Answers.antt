use Rattle.std.proofs.Common.{◌≡◌, ◌+◌, ◌-◌, ℕ, suc, cond, length, IsTrue, Ok, inl, refl, sym, ap, subst, ◌∙◌, arith}
use Rattle.std.specs.Prelude.{nat_lt}
use Rattle.hd_volume.specs.Volumes.{block_at}
use Rattle.hd_volume.specs.Entries.{entries_in}
use Rattle.hd_volume.proofs.CallSteps.{reads-join, read-ok, read-none}
use Rattle.hd_volume.proofs.JoinLemmas.{read-one}
use Rattle.hd_index_blocks.specs.IndexSets.{index_blocks, HasIndexSet}
use Rattle.hd_index.specs.declared.way.Fork.{Fork}
use Rattle.hd_index.specs.Removals.{IsThin, IsOnWayIn}
use Rattle.hd_index.proofs.Searching.{set-same, one-turned, order-same}
use Rattle.hd_index.proofs.Standing.{stand-same}
use Rattle.hd_index.proofs.WaysUp.{on-down}
use Rattle.hd_index.proofs.Forks.{IsForkOver, on-stand, on-order, below-one, fork-step, fork-end}
use Rattle.hd_index.proofs.way.way_down.Goals as goal

pub loop-steps-init : goal.loop-steps-init
loop-steps-init g c =
    let v = c.args.volume.now in
    let k : ℕ = c.args.key_length in
    let e : c.args.levels - 0 ≡ c.args.levels = omega arith in
    let S : ℕ → Type 0 = λ l. IsOnWayIn k v c.args.key.now l c.args.start in
    let T : ℕ → Type 0 = λ l. IsThin (index_blocks k v) l c.args.start.block in
    record {
      read = read-none v 0;
      way = λ s x h. subst S (sym e) h;
      fork = λ s x h. inl (refl, (λ t. subst T e t));
    }

pub loop-steps-preserved : goal.loop-steps-preserved
loop-steps-preserved g c =
    let v = c.args.volume.now in
    let w = c.loop-steps.volume in
    let y = c.lower_fork.new.volume in
    let k : ℕ = c.args.key_length in
    let key = c.args.key.now in
    let inv = c.loop-steps.invariant in
    let n : ℕ = c.loop-steps.stand.block in
    let less : ℕ = c.args.levels - (c.loop-steps.steps + 1) in
    let more : c.args.levels - c.loop-steps.steps ≡ suc less = (let t = c.loop-steps-test.true in omega arith) in
    let S : ℕ → Type 0 = λ l. IsOnWayIn k v key l c.loop-steps.stand in
    let F : ℕ → Type 0 = λ l. IsForkOver k v key c.args.levels c.args.start.block (IsThin (index_blocks k v) l n) c.loop-steps.fork in
    let both = read-ok {B = ℕ} 0 (reads-join (Ok c.in_ok-fork.fork) inv.read c.in_ok-fork.ensures.read) in
    let up = λ (s : IsTrue v.is_sound) (x : HasIndexSet k v) (h : IsOnWayIn k v key c.args.levels c.args.start). subst S more (inv.way s x h) in
    let below = λ (s : IsTrue v.is_sound) (x : HasIndexSet k v) (h : IsOnWayIn k v key c.args.levels c.args.start).
    (let now : IsTrue y.is_sound = rw both.call.sound s in
    let one = read-one both now in
    let same = set-same k v y one x in
    let st = stand-same k v y key (suc less) c.loop-steps.stand one (on-stand k v key (suc less) c.loop-steps.stand x (up s x h)) in
    below-one k y v key c.loop-steps.stand c.in_ok-stand.stand (one-turned one) (c.in_ok-stand.ensures.below now same.0 less st)) in
    record {
      read = read-ok 0 (reads-join (Ok c.in_ok-stand.stand) both c.in_ok-stand.ensures.read);
      way = λ s x h.
          let b = below s x h in
          on-down (index_blocks k v) _ _ _ key less c.loop-steps.stand c.in_ok-stand.stand refl (up s x h) b.block_is b.left_is;
      fork = λ s x h.
          let here : IsTrue w.is_sound = rw inv.read.call.sound s in
          let one = read-one inv.read here in
          let on = up s x h in
          let order = order-same k v w n one.same.size one.image (on-order k v key (suc less) c.loop-steps.stand x on) in
          let f = c.in_ok-fork.ensures.value here order in
          let bytes : nat_lt 1 (length (entries_in k (block_at w n))) ≡ nat_lt 1 (length (entries_in k (block_at v n))) = rw (one.same.size, one.image) refl in
          let L : ℕ → Fork = λ l. record { level = l; stand = c.loop-steps.stand } in
          fork-step k v key c.args.levels c.args.start.block less c.loop-steps.stand c.in_ok-stand.stand.block c.loop-steps.fork c.in_ok-fork.fork on (subst F more (inv.fork s x h))
          (f ∙ ap (λ b. cond b (L (c.args.levels - c.loop-steps.steps)) c.loop-steps.fork) bytes ∙ ap (λ (l : ℕ). cond (nat_lt 1 (length (entries_in k (block_at v n)))) (L l) c.loop-steps.fork) more)
          (below s x h).block_is;
    }

pub returns-clause-way : goal.returns-clause-way
returns-clause-way g c sound x h =
    let v = c.args.volume.now in
    let w = c.loop-steps.volume in
    let k : ℕ = c.args.key_length in
    let key = c.args.key.now in
    let inv = c.loop-steps.invariant in
    let n : ℕ = c.loop-steps.stand.block in
    let done : c.args.levels - c.loop-steps.steps ≡ 0 = (let t = c.loop-steps-test.false in omega arith) in
    let S : ℕ → Type 0 = λ l. IsOnWayIn k v key l c.loop-steps.stand in
    let F : ℕ → Type 0 = λ l. IsForkOver k v key c.args.levels c.args.start.block (IsThin (index_blocks k v) l n) c.loop-steps.fork in
    let on = subst S done (inv.way sound x h) in
    let here : IsTrue w.is_sound = rw inv.read.call.sound sound in
    let one = read-one inv.read here in
    let order = order-same k v w n one.same.size one.image (on-order k v key 0 c.loop-steps.stand x on) in
    let bytes : nat_lt 1 (length (entries_in k (block_at w n))) ≡ nat_lt 1 (length (entries_in k (block_at v n))) = rw (one.same.size, one.image) refl in
    let L : Fork = record { level = 0; stand = c.loop-steps.stand } in
    record {
      leaf = on;
      fork = fork-end k v key c.args.levels c.args.start.block c.loop-steps.stand c.loop-steps.fork c.in_ok-lowest.lowest on (subst F done (inv.fork sound x h))
          (c.in_ok-lowest.ensures.value here order ∙ ap (λ b. cond b L c.loop-steps.fork) bytes);
    }
