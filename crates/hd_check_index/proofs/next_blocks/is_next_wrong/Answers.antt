use Rattle.std.proofs.Common.{ℕ, refl, sym, ◌∙◌}
use Rattle.hd_check_index.specs.Tables.{noted}
use Rattle.hd_check_index.specs.NotedBlocks.{noted_at}
use Rattle.hd_check_index.specs.Standings.{standing_at}
use Rattle.hd_check_index.proofs.Followers.{test-other, test-same, next-at}
use Rattle.hd_check_index.proofs.next_blocks.is_next_wrong.Goals as goal

pub returns-in-None-clause-right : goal.returns-in-None-clause-right
returns-in-None-clause-right c = λ h v table kind.
    let n : ℕ = (standing_at c.args.rows.now c.args.i).number in
    absurd (c.in-None.ensures.none table.ascend (noted v n) (table.all n kind) refl)

pub returns-in-Some-clause-wrong : goal.returns-in-Some-clause-wrong
returns-in-Some-clause-wrong c = λ h v table same.
    let n : ℕ = (standing_at c.args.rows.now c.args.i).number in
    let next = next-at v c.args.blocks.now table c.in-Some.at n c.in-Some.ensures.some.0 c.in-Some.ensures.some.1 in
    test-other (noted_at c.args.blocks.now c.in-Some.at).next c.follower_of.result h (next ∙ same ∙ sym c.follower_of.ensures)

pub returns-in-Some-clause-right : goal.returns-in-Some-clause-right
returns-in-Some-clause-right c = λ h v table kind.
    let n : ℕ = (standing_at c.args.rows.now c.args.i).number in
    let next = next-at v c.args.blocks.now table c.in-Some.at n c.in-Some.ensures.some.0 c.in-Some.ensures.some.1 in
    sym next ∙ test-same (noted_at c.args.blocks.now c.in-Some.at).next c.follower_of.result h ∙ c.follower_of.ensures
