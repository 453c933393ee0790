use Rattle.std.proofs.Common.{◌≡◌, ◌+◌, ◌-◌, ℕ, List, suc, IsTrue, Ok, ap, refl, sym, subst, ◌∙◌, arith}
use Rattle.hd_volume.specs.Volumes.{block_at}
use Rattle.hd_volume.specs.Entries.{entries_in}
use Rattle.hd_index_blocks.specs.Ways.{child_of, leaf_of}
use Rattle.hd_index_blocks.specs.IndexSets.{index_blocks, HasIndexSet}
use Rattle.hd_index_blocks.specs.VolumeLaws.{IsRightBlock}
use Rattle.hd_index_blocks.proofs.Volumes.{children-right}
use Rattle.hd_volume.proofs.CallSteps.{reads-join, read-ok, read-none}
use Rattle.hd_index.proofs.Searching.{right-order, order-same}
use Rattle.hd_index.proofs.descend.descend.Goals as goal

pub loop-init : goal.loop-init
loop-init g c =
    let v = c.args.volume.now in
    let k = c.args.key_length in
    let key = c.args.key.now in
    let e : c.args.levels - 0 ≡ c.args.levels = omega arith in
    record {
      read = read-none v 0;
      right = λ s x above h. (let R : ℕ → Type 0 = λ l. IsRightBlock k v (l + above) c.args.n in subst R (sym e) h);
      same = λ s x above h. ap (λ (l : ℕ). leaf_of (index_blocks k v) key l c.args.n) e;
    }

pub loop-preserved : goal.loop-preserved
loop-preserved g c =
    let v = c.args.volume.now in
    let w = c.loop.volume in
    let k = c.args.key_length in
    let key = c.args.key.now in
    let inv = c.loop.invariant in
    let n : ℕ = c.loop.below in
    let less : ℕ = c.args.levels - (c.loop.counter + 1) in
    let more : c.args.levels - c.loop.counter ≡ suc less = (let t = c.loop-test.true in omega arith) in
    let up = λ (s : IsTrue v.is_sound) (x : HasIndexSet k v) (above : ℕ) (h : IsRightBlock k v (c.args.levels + above) c.args.n).
    (let R : ℕ → Type 0 = λ l. IsRightBlock k v l n in
    let one : c.args.levels - c.loop.counter + above ≡ suc (less + above) = omega arith in
    subst R one (inv.right s x above h)) in
    let next = λ (s : IsTrue v.is_sound) (x : HasIndexSet k v) (above : ℕ) (h : IsRightBlock k v (c.args.levels + above) c.args.n).
    (let now : IsTrue w.is_sound = rw inv.read.call.sound s in
    let size = inv.read.call.size in
    let image = inv.read.image now in
    let same : block_at w n ≡ block_at v n = rw (size, image) refl in
    let e : c.in_ok-below.below ≡ child_of key (entries_in k (block_at v n)) =
    c.in_ok-below.ensures.value now (order-same k v w n size image (right-order k v (suc (less + above)) n (up s x above h))) ∙ ap (λ (b : List ℕ). child_of key (entries_in k b)) same in e) in
    record {
      read = read-ok 0 (reads-join (Ok c.in_ok-below.below) inv.read c.in_ok-below.ensures.read);
      right = λ s x above h.
          (let N : ℕ → Type 0 = λ i. IsRightBlock k v (less + above) i in
          subst N (sym (next s x above h)) (children-right k v key (less + above) n x (up s x above h)));
      same = λ s x above h.
          ap (λ (i : ℕ). leaf_of (index_blocks k v) key less i) (next s x above h)
          ∙ ap (λ (l : ℕ). leaf_of (index_blocks k v) key l n) (sym more)
          ∙ inv.same s x above h;
    }

pub returns-clause-value : goal.returns-clause-value
returns-clause-value g c sound x above h =
    let v = c.args.volume.now in
    let k = c.args.key_length in
    let done : c.args.levels - c.loop.counter ≡ 0 = (let t = c.loop-test.false in omega arith) in
    let R : ℕ → Type 0 = λ l. IsRightBlock k v l c.loop.below in
    let end : c.args.levels - c.loop.counter + above ≡ above = omega arith in (
      ap (λ (l : ℕ). leaf_of (index_blocks k v) c.args.key.now l c.loop.below) (sym done) ∙ c.loop.invariant.same sound x above h,
      subst R end (c.loop.invariant.right sound x above h),
    )
