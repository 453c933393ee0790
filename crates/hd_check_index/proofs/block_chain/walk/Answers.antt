use Rattle.std.proofs.Common.{rules, ◌≡◌, ◌+◌, ℕ, List, ◌∷◌, [], ◌++◌, true, slice_set, length-set, sym, subst, ◌∙◌, arith}
use Rattle.hd_check_index.specs.declared.noted_blocks.ChainedBlock.{ChainedBlock}
use Rattle.hd_check_index.specs.IndexPhases.{index_block_at}
use Rattle.hd_check_index.proofs.Walks.{IsWalking, walk-goes-on, walk-stops, walk-ends}
use Rattle.hd_check_index.proofs.block_chain.walk.Goals as goal

pub returns-in-None-clause-walked : goal.returns-in-None-clause-walked
returns-in-None-clause-walked c = λ k v h.
    let i = c.loop-turn.invariant in
    let low = c.loop-turn-test.true in
    walk-stops k v c.args.blocks.now c.args.top h c.loop-turn.chain.items c.loop-turn.marks.items c.loop-turn.next c.loop-turn._turn i.as_many (i.walking k v h) (omega arith) (c.in-None.ensures.none h.table.ascend)

pub loop-turn-preserved : goal.loop-turn-preserved
loop-turn-preserved c =
    let i = c.loop-turn.invariant in
    let bs : List ChainedBlock = c.args.blocks.now in
    let pushed : c.push.new.self.items ≡ c.loop-turn.chain.items ++ (c.loop-turn.next ∷ []) = search rules in
    record {
      as_many = length-set c.loop-turn.marks.items c.in-Some.at true ∙ i.as_many;
      walking = λ k v h.
          subst (λ (ns : List ℕ). IsWalking v c.args.top bs ns (slice_set c.loop-turn.marks.items c.in-Some.at true) (index_block_at bs c.in-Some.at).next (c.loop-turn._turn + 1)) (sym pushed)
          (walk-goes-on k v bs c.args.top h c.loop-turn.chain.items c.loop-turn.marks.items c.loop-turn.next c.loop-turn._turn i.as_many (i.walking k v h) c.in-Some.at c.in-Some.ensures.some.0 c.in-Some.ensures.some.1);
    }

pub returns-clause-walked : goal.returns-clause-walked
returns-clause-walked c = λ k v h.
    let i = c.loop-turn.invariant in
    let high = c.loop-turn-test.false in
    let low = c.loop-turn.auto._turn-end in
    walk-ends k v c.args.blocks.now c.args.top h c.loop-turn.chain.items c.loop-turn.marks.items c.loop-turn.next c.loop-turn._turn i.as_many (i.walking k v h) (omega arith)
