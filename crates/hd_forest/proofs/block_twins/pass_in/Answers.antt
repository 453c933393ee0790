use Rattle.std.proofs.Common.{sym, ◌∙◌, inl, inr}
use Rattle.std.proofs.lemmas.Bool.{false≢true}
use Rattle.hd_forest.proofs.Passing.{walk-on, walk-ends}
use Rattle.hd_forest.proofs.block_twins.pass_in.Goals.{then-part-via-then-part, then-part-via-else-part+then-not-has_twin}
use Rattle.hd_forest.proofs.block_twins.pass_in.Goals as goal

pub returns-then-part : goal.returns-then-part
returns-then-part c =
    walk-ends c.args.places c.args.block.now c.args.start c.args.key.now c.args.behind c.args.address c.pass_by_number-part.result c.pass_by_number-part.ensures
    (elim c.then-part.branch [
      | then-part-via-then-part w ↦ inl w.if-part.true
      | then-part-via-else-part+then-not-has_twin w ↦ inr (λ there. false≢true (sym w.if-not-has_twin.true ∙ w.has_twin.ensures.1 there))
    ])

pub returns : goal.returns
returns c =
    walk-on c.args.places c.args.block.now c.args.start c.args.key.now c.args.behind c.args.address c.pass_by_number-part.result c.pass_by_key-2.result c.pass_by_number-part.ensures c.pass_by_key-2.ensures
