use Rattle.std.proofs.Common.{◌≡◌, ℕ, List, IsTrue, ap, sym, subst, ◌∙◌}
use Rattle.hd_volume.specs.Volumes.{VolumeState}
use Rattle.hd_index_blocks.specs.Maps.{greatest_below}
use Rattle.hd_volume.proofs.JoinLemmas.{AreOne, read-one}
use Rattle.hd_index.specs.Greatest.{lower_key, IsKnownLeaf}
use Rattle.hd_index.proofs.Searching.{set-same, one-turned}
use Rattle.hd_index.proofs.Leaves.{known-same}
use Rattle.hd_index.proofs.greatest.greatest.Goals as goal

pub returns-clause-value : goal.returns-clause-value
returns-clause-value g c sound x =
    let v = c.args.volume.now in
    let w = c.note_block.new.self in
    let k : ℕ = c.args.key_length in
    let key = c.args.key.now in
    let noted : w ≡ c.copy_greatest_at_end.new.volume = c.note_block.ensures.same in
    let O : VolumeState → Type 0 = λ t. AreOne v t in
    let read = c.in_ok-is_some.ensures.read in
    let after : IsTrue c.copy_greatest_at_end.new.volume.is_sound = rw read.call.sound sound in
    let one = subst O (sym noted) (read-one read after) in
    let S : VolumeState → Type 0 = λ t. IsTrue t.is_sound in
    let same = set-same k v w one x in
    c.in_ok-lower.ensures.value (subst S (sym noted) after) same.0 ∙ ap (greatest_below key key) same.1

pub returns-clause-leaf : goal.returns-clause-leaf
returns-clause-leaf g c sound x =
    let v = c.args.volume.now in
    let w = c.note_block.new.self in
    let k : ℕ = c.args.key_length in
    let key = c.args.key.now in
    let noted : w ≡ c.copy_greatest_at_end.new.volume = c.note_block.ensures.same in
    let O : VolumeState → Type 0 = λ t. AreOne v t in
    let read = c.in_ok-is_some.ensures.read in
    let after : IsTrue c.copy_greatest_at_end.new.volume.is_sound = rw read.call.sound sound in
    let one = subst O (sym noted) (read-one read after) in
    let S : VolumeState → Type 0 = λ t. IsTrue t.is_sound in
    let same = set-same k v w one x in
    let N : List ℕ → Type 0 = λ b. IsKnownLeaf k v b c.in_ok-lower.lower.leaf in
    subst N (ap (greatest_below key key) same.1)
    (known-same k w v (lower_key k w key) c.in_ok-lower.lower.leaf (one-turned one) (c.in_ok-lower.ensures.leaf (subst S (sym noted) after) same.0))
