use Rattle.std.proofs.Common.{◌≡◌, ◌+◌, ◌-◌, ℕ, List, cond, suc, IsTrue, Ok, ap, refl, sym, subst, ◌∙◌, arith}
use Rattle.hd_volume.specs.Volumes.{block_at}
use Rattle.hd_volume.specs.Entries.{entries_in}
use Rattle.hd_volume.specs.Indexes.{entry_room}
use Rattle.hd_index_blocks.specs.Ways.{child_of}
use Rattle.hd_index_blocks.specs.IndexSets.{index_blocks, HasIndexSet}
use Rattle.hd_index_blocks.specs.Needs.{is_full, full_blocks}
use Rattle.hd_index_blocks.specs.VolumeLaws.{IsRightBlock}
use Rattle.hd_index_blocks.proofs.Volumes.{children-right}
use Rattle.hd_volume.proofs.CallSteps.{reads-join, read-ok, read-none}
use Rattle.hd_index.proofs.Searching.{right-order, order-same}
use Rattle.hd_index.proofs.Filling.{with_run, full-step, full-end, full-top}
use Rattle.hd_index.proofs.need.full_blocks.Goals as goal

pub loop-init : goal.loop-init
loop-init g c =
    let v = c.args.volume.now in
    let k : ℕ = c.args.key_length in
    let e : c.args.levels - 0 ≡ c.args.levels = omega arith in
    let R : ℕ → Type 0 = λ l. IsRightBlock k v l c.args.n in
    record {
      read = read-none v 0;
      few = omega arith;
      right = λ s x h. subst R (sym e) h;
      same = λ s x h.
          ap (λ (l : ℕ). with_run (full_blocks (index_blocks k v) (entry_room k v.size) c.args.key.now l c.args.n) l 0) e
          ∙ full-top (full_blocks (index_blocks k v) (entry_room k v.size) c.args.key.now c.args.levels c.args.n) c.args.levels;
    }

pub loop-preserved : goal.loop-preserved
loop-preserved g c =
    let v = c.args.volume.now in
    let w = c.loop.volume in
    let u = c.full_run.new.volume in
    let k : ℕ = c.args.key_length in
    let key = c.args.key.now in
    let inv = c.loop.invariant in
    let n : ℕ = c.loop.below in
    let less : ℕ = c.args.levels - (c.loop.counter + 1) in
    let more : c.args.levels - c.loop.counter ≡ suc less = (let t = c.loop-test.true in omega arith) in
    let R : ℕ → Type 0 = λ l. IsRightBlock k v l n in
    let both = read-ok {B = ℕ} 0 (reads-join (Ok c.in_ok-run.run') inv.read c.in_ok-run.ensures.read) in
    let up = λ (s : IsTrue v.is_sound) (x : HasIndexSet k v) (h : IsRightBlock k v c.args.levels c.args.n). subst R more (inv.right s x h) in
    let next = λ (s : IsTrue v.is_sound) (x : HasIndexSet k v) (h : IsRightBlock k v c.args.levels c.args.n).
    (let now : IsTrue u.is_sound = rw both.call.sound s in
    let size = both.call.size in
    let image = both.image now in
    let same : block_at u n ≡ block_at v n = rw (size, image) refl in
    let e : c.in_ok-below.below ≡ child_of key (entries_in k (block_at v n)) =
    c.in_ok-below.ensures.value now (order-same k v u n size image (right-order k v (suc less) n (up s x h))) ∙ ap (λ (b : List ℕ). child_of key (entries_in k b)) same in e) in
    let run = λ (s : IsTrue v.is_sound) (x : HasIndexSet k v) (h : IsRightBlock k v c.args.levels c.args.n).
    (let now : IsTrue w.is_sound = rw inv.read.call.sound s in
    let size = inv.read.call.size in
    let image = inv.read.image now in
    let same : is_full (index_blocks k w) (entry_room k w.size) n ≡ is_full (index_blocks k v) (entry_room k v.size) n = rw (size, image) refl in
    let e : c.in_ok-run.run' ≡ cond (is_full (index_blocks k v) (entry_room k v.size) n) (c.loop.run + 1) 0 =
    c.in_ok-run.ensures.value now (order-same k v w n size image (right-order k v (suc less) n (up s x h))) ∙ ap (λ b. cond b (c.loop.run + 1) 0) same in e) in
    record {
      read = read-ok 0 (reads-join (Ok c.in_ok-below.below) both c.in_ok-below.ensures.read);
      few = (let m = c.in_ok-run.ensures.most in let f = inv.few in omega arith);
      right = λ s x h. (let N : ℕ → Type 0 = λ i. IsRightBlock k v less i in subst N (sym (next s x h)) (children-right k v key less n x (up s x h)));
      same = λ s x h.
          ap (λ (i : ℕ). with_run (full_blocks (index_blocks k v) (entry_room k v.size) key less i) less c.in_ok-run.run') (next s x h)
          ∙ ap (λ (i : ℕ). with_run (full_blocks (index_blocks k v) (entry_room k v.size) key less (child_of key (entries_in k (block_at v n)))) less i) (run s x h)
          ∙ sym (full-step (index_blocks k v) (entry_room k v.size) key less n c.loop.run)
          ∙ ap (λ (l : ℕ). with_run (full_blocks (index_blocks k v) (entry_room k v.size) key l n) l c.loop.run) (sym more)
          ∙ inv.same s x h;
    }

pub returns-clause-value : goal.returns-clause-value
returns-clause-value g c sound x h =
    let v = c.args.volume.now in
    let w = c.loop.volume in
    let k : ℕ = c.args.key_length in
    let key = c.args.key.now in
    let inv = c.loop.invariant in
    let n : ℕ = c.loop.below in
    let done : c.args.levels - c.loop.counter ≡ 0 = (let t = c.loop-test.false in omega arith) in
    let R : ℕ → Type 0 = λ l. IsRightBlock k v l n in
    let right = subst R done (inv.right sound x h) in
    let now : IsTrue w.is_sound = rw inv.read.call.sound sound in
    let size = inv.read.call.size in
    let image = inv.read.image now in
    let same : is_full (index_blocks k w) (entry_room k w.size) n ≡ is_full (index_blocks k v) (entry_room k v.size) n = rw (size, image) refl in
    c.in_ok-full.ensures.value now (order-same k v w n size image (right-order k v 0 n right)) ∙ ap (λ b. cond b (c.loop.run + 1) 0) same
    ∙ sym (full-end (index_blocks k v) (entry_room k v.size) key n c.loop.run)
    ∙ ap (λ (l : ℕ). with_run (full_blocks (index_blocks k v) (entry_room k v.size) key l n) l c.loop.run) (sym done) ∙ inv.same sound x h
