use Rattle.std.proofs.lemmas.List.Sorted.{IsNonDecreasingBy-from_sort}
use Rattle.hd_check_index.proofs.Sequences.{chain-sequence}
use Rattle.hd_check_index.proofs.sequence.sort_chain.Goals as goal

pub returns : goal.returns
returns c = λ k v one formed is.
    chain-sequence k v c.args.chain.now.items c.sort_unstable.new.self.items one formed is c.sort_unstable.ensures.permutation
    (IsNonDecreasingBy-from_sort (λ x. x) c.sort_unstable.new.self.items c.sort_unstable.ensures.sorted)
