use Rattle.std.proofs.Common.{ℕ, List, IsTrue, ap, sym, subst, ◌∙◌}
use Rattle.hd_index_blocks.specs.Needs.{needed_by}
use Rattle.hd_volume.proofs.JoinLemmas.{read-one}
use Rattle.hd_index.proofs.Searching.{set-same, one-turned}
use Rattle.hd_index.proofs.Filling.{needed-same}
use Rattle.hd_index.specs.Greatest.{IsKnownLeaf}
use Rattle.hd_index.proofs.Leaves.{known-same}
use Rattle.hd_index.proofs.need.blocks_for.Goals as goal

pub returns-clause-value : goal.returns-clause-value
returns-clause-value g c sound x =
    let v = c.args.volume.now in
    let w = c.greatest.new.volume in
    let k : ℕ = c.args.key_length in
    let now : IsTrue w.is_sound = rw c.in_ok-below.ensures.read.call.sound sound in
    let one = read-one c.in_ok-below.ensures.read now in
    let by = c.key_or-by.ensures ∙ c.in_ok-below.ensures.value sound x in
    c.in_ok-needed.ensures.value now (set-same k v w one x).0 ∙ needed-same k v w c.key_or-by.result.now one ∙ ap (needed_by k v) by

pub needed_at-requires-clause-leaf : goal.needed_at-requires-clause-leaf
needed_at-requires-clause-leaf g c now x =
    let v = c.args.volume.now in
    let w = c.greatest.new.volume in
    let k : ℕ = c.args.key_length in
    let read = c.in_ok-below.ensures.read in
    let sound : IsTrue v.is_sound = rw (← read.call.sound) now in
    let one = read-one read now in
    let before = (set-same k w v (one-turned one) x).0 in
    let by = c.key_or-by.ensures ∙ c.in_ok-below.ensures.value sound before in
    let N : List ℕ → Type 0 = λ b. IsKnownLeaf k v b c.in_ok-below.below.leaf in
    known-same k v w c.key_or-by.result.now c.in_ok-below.below.leaf one (subst N (sym by) (c.in_ok-below.ensures.leaf sound before))
