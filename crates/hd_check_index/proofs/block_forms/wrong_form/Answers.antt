use Rattle.std.proofs.Common.{◌≡◌, ℕ, List, inl, inr, refl, sym, subst, arith}
use Rattle.std.proofs.lemmas.Bool.{cases_lt}
use Rattle.hd_check_index.specs.declared.noted_blocks.ChainedBlock.{ChainedBlock}
use Rattle.hd_check_index.specs.IndexPhases.{IsRightIndexBlock, index_block_at}
use Rattle.hd_check_index.proofs.IndexTables.{among, form-is, own-block}
use Rattle.hd_check_index.proofs.FormFaults.{first-wrong, all-forms}
use Rattle.hd_check_index.proofs.block_forms.wrong_form.Goals as goal

pub returns-then-not-is_block_right-clause-some : goal.returns-then-not-is_block_right-clause-some
returns-then-not-is_block_right-clause-some c = λ k v h f height room.
    let bs : List ChainedBlock = c.args.blocks.now in
    let i : ℕ = c.loop-i.i in
    first-wrong k v bs i h c.loop-i-test.true (c.loop-i.invariant k v h f height room)
    (c.if-not-is_block_right.ensures.wrong refl k v h f height room (own-block v bs (index_block_at bs i) h (among bs i c.loop-i-test.true)) (form-is v bs c.args.forms.now i f c.loop-i-test.true))

pub loop-i-preserved : goal.loop-i-preserved
loop-i-preserved c = λ k v h f height room j low.
    let bs : List ChainedBlock = c.args.blocks.now in
    let i : ℕ = c.loop-i.i in
    elim (cases_lt j i) [
      | inl before ↦ c.loop-i.invariant k v h f height room j before
      | inr high ↦
          (let at : j ≡ i = omega arith in
          subst (λ (x : ℕ). IsRightIndexBlock k v (index_block_at bs x).number) (sym at)
          (c.if-not-is_block_right.ensures.right refl k v h f height room (own-block v bs (index_block_at bs i) h (among bs i c.loop-i-test.true)) (form-is v bs c.args.forms.now i f c.loop-i-test.true)))
    ]

pub returns-clause-none : goal.returns-clause-none
returns-clause-none c = λ k v h f height room.
    let end = c.loop-i-test.false in
    all-forms k v c.args.blocks.now h (λ j low. c.loop-i.invariant k v h f height room j (omega arith))
