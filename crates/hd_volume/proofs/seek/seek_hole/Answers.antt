use Rattle.std.proofs.Common.{◌≡◌, ◌<◌, IsTrue, ◌/◌, vec_len, refl, sym, ap, ◌∙◌, arith}
use Rattle.hd_volume.specs.Spaces.{IsSpaceOf, blocks_in, content_at}
use Rattle.hd_volume.specs.declared.space.Content.{Content}
use Rattle.hd_volume.proofs.CallLemmas.{lowest-space}
use Rattle.hd_volume.proofs.seek.seek_hole.Goals as goal

pub returns-then-branch-clause-space : goal.returns-then-branch-clause-space
returns-then-branch-clause-space g c sound =
    let inv = c.loop-n.invariant in
    let mid : IsTrue c.loop-n.blocks.is_sound = rw (← c.in_ok-try_block.ensures.fetch.sound) sound in
    let before : IsTrue c.args.blocks.now.is_sound = rw (← inv.is_sound) mid in
    let kept : IsSpaceOf c.args.blocks.now.size c.args.sizes.now c.args.blocks.now.image c.try_block.new.space = rw (inv.size, inv.image before) at (c.try_block.ensures.space sound) in
    let old = inv.space before in
    lowest-space c.args.blocks.now.size c.args.sizes.now c.args.blocks.now.image c.try_block.new.space _ (c.args.size / 8) c.loop-n.n kept refl c.set_lowest.ensures.value refl refl
    (λ m some below under is-data.
    let same : content_at c.try_block.new.space m ≡ content_at c.loop-n.space m = c.try_block.ensures.others m (λ e. omega arith) in
    let passed : (content_at c.loop-n.space m).hole < c.args.size = inv.passed before m some below under (ap (λ (x : Content). x.kind) (sym same) ∙ is-data) in
    let hole : (content_at c.try_block.new.space m).hole ≡ (content_at c.loop-n.space m).hole = ap (λ (x : Content). x.hole) same in
    let whole = c.requires.whole in omega arith)

pub returns-clause-space : goal.returns-clause-space
returns-clause-space g c sound =
    let inv = c.loop-n.invariant in
    let before : IsTrue c.args.blocks.now.is_sound = rw (← inv.is_sound) sound in
    lowest-space c.args.blocks.now.size c.args.sizes.now c.args.blocks.now.image c.loop-n.space _ (c.args.size / 8) _ (inv.space before) refl c.set_lowest-2.ensures.value refl refl
    (λ m some below under is-data.
    let passed : (content_at c.loop-n.space m).hole < c.args.size = inv.passed before m some (omega (arith, c.loop-n-test.false)) under is-data in
    let whole = c.requires.whole in omega arith)

pub returns-clause-none : goal.returns-clause-none
returns-clause-none g c before n some below is-data =
    let inv = c.loop-n.invariant in
    let space = inv.space before in
    let first = c.requires.space_is before in
    let len : vec_len c.args.space.now.contents ≡ blocks_in c.args.blocks.now.size c.args.blocks.now.image = first.len in
    let content = space.contents n some below in
    let is : (content_at c.loop-n.space n).kind ≡ 1 = content.kind_is ∙ is-data in
    let bound = content.bound is in
    let passed : (content_at c.loop-n.space n).hole < c.args.size = inv.passed before n some (omega (arith, c.loop-n-test.false, len, c.len-count.ensures)) below is in
    omega arith
