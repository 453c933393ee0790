use Rattle.std.proofs.Common.{◌≡◌, ◌≢◌, inl, inr, ℕ, List, IsTrue, refl, sym, ap, ◌∙◌}
use Rattle.hd_volume.specs.Volumes.{block_at}
use Rattle.hd_volume.specs.Entries.{entries_in}
use Rattle.hd_index_blocks.specs.Levels.{named}
use Rattle.hd_index_blocks.specs.Neighbours.{last_of, last_child}
use Rattle.hd_index_blocks.specs.IndexSets.{index_blocks}
use Rattle.hd_index.specs.Stands.{front_of}
use Rattle.hd_index.proofs.Searching.{order-same}
use Rattle.hd_index.proofs.Standing.{block-order, left-order, stand-down, front-none, last-other, no-child, some-child}
use Rattle.hd_index.proofs.stand.step_down.Goals as goal

pub returns-then-below-ne0-clause-stand : goal.returns-then-below-ne0-clause-stand
returns-then-below-ne0-clause-stand g c sound x l s =
    let v = c.args.volume.now in
    let k : ℕ = c.args.key_length in
    let key = c.args.key.now in
    let n : ℕ = c.args.stand.block in
    let front : List ℕ = named (front_of key (entries_in k (block_at v n))) in
    let left = c.in_ok-below.ensures.left sound (block-order x s) in
    let m : ℕ = last_child (index_blocks k v) c.args.stand.left in
    stand-down k v key l c.args.stand c.in_ok-below.below s (c.in_ok-below.ensures.block sound (block-order x s))
    (elim c.then-below-ne0.either [
      | inl some ↦ left ∙ sym (last-other m front (λ z. some (left ∙ z)))
      | inr none ↦ left ∙ ap (λ (i : ℕ). last_of i front) (sym (no-child (index_blocks k v) c.args.stand.left none.1))
    ])

pub returns-clause-stand : goal.returns-clause-stand
returns-clause-stand g c sound x l s =
    let v = c.args.volume.now in
    let w = c.children.new.volume in
    let k : ℕ = c.args.key_length in
    let key = c.args.key.now in
    let n : ℕ = c.args.stand.block in
    let beside : ℕ = c.args.stand.left in
    let read = c.in_ok-below.ensures.read in
    let now : IsTrue w.is_sound = rw read.call.sound sound in
    let size = read.call.size in
    let image = read.image now in
    let same : block_at w beside ≡ block_at v beside = rw (size, image) refl in
    let some : beside ≢ 0 = λ z. (let f = c.if-stand-eq0.false in f z) in
    let left = c.in_ok-below.ensures.left sound (block-order x s) in
    let m : ℕ = last_child (index_blocks k v) beside in
    let none : c.in_ok-below.below.left ≡ 0 = c.if-below-ne0.false in
    let last : c.in_ok-left.left ≡ m =
    c.in_ok-left.ensures.value now (order-same k v w beside size image (left-order x s some)) ∙ ap (λ (b : List ℕ). last_of 0 (named (entries_in k b))) same ∙ sym (some-child (index_blocks k v) beside some) in
    stand-down k v key l c.args.stand (record { left = c.in_ok-left.left; block = c.in_ok-below.below.block }) s (c.in_ok-below.ensures.block sound (block-order x s))
    (last ∙ sym (front-none k v key l c.args.stand s m (sym left ∙ none)))

pub returns-then-below-ne0-clause-below : goal.returns-then-below-ne0-clause-below
returns-then-below-ne0-clause-below g c sound x l s =
    let v = c.args.volume.now in
    let k : ℕ = c.args.key_length in
    let key = c.args.key.now in
    let n : ℕ = c.args.stand.block in
    let front : List ℕ = named (front_of key (entries_in k (block_at v n))) in
    let left = c.in_ok-below.ensures.left sound (block-order x s) in
    let m : ℕ = last_child (index_blocks k v) c.args.stand.left in
    record {
      block_is = c.in_ok-below.ensures.block sound (block-order x s);
      left_is = elim c.then-below-ne0.either [
        | inl some ↦ left ∙ sym (last-other m front (λ z. some (left ∙ z)))
        | inr none ↦ left ∙ ap (λ (i : ℕ). last_of i front) (sym (no-child (index_blocks k v) c.args.stand.left none.1))
      ];
    }

pub returns-clause-below : goal.returns-clause-below
returns-clause-below g c sound x l s =
    let v = c.args.volume.now in
    let w = c.children.new.volume in
    let k : ℕ = c.args.key_length in
    let key = c.args.key.now in
    let n : ℕ = c.args.stand.block in
    let beside : ℕ = c.args.stand.left in
    let read = c.in_ok-below.ensures.read in
    let now : IsTrue w.is_sound = rw read.call.sound sound in
    let size = read.call.size in
    let image = read.image now in
    let same : block_at w beside ≡ block_at v beside = rw (size, image) refl in
    let some : beside ≢ 0 = λ z. (let f = c.if-stand-eq0.false in f z) in
    let left = c.in_ok-below.ensures.left sound (block-order x s) in
    let m : ℕ = last_child (index_blocks k v) beside in
    let none : c.in_ok-below.below.left ≡ 0 = c.if-below-ne0.false in
    let last : c.in_ok-left.left ≡ m =
    c.in_ok-left.ensures.value now (order-same k v w beside size image (left-order x s some)) ∙ ap (λ (b : List ℕ). last_of 0 (named (entries_in k b))) same ∙ sym (some-child (index_blocks k v) beside some) in
    record { block_is = c.in_ok-below.ensures.block sound (block-order x s); left_is = last ∙ sym (front-none k v key l c.args.stand s m (sym left ∙ none)) }
