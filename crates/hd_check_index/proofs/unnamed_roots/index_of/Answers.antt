use Rattle.std.proofs.Common.{Ok, Err}
use Rattle.std.proofs.lemmas.List.Sorted.{searched}
use Rattle.hd_check_index.proofs.UnnamedRoots.{at-among, not-between}
use Rattle.hd_check_index.proofs.unnamed_roots.index_of.Goals as goal

pub returns-then-named-near-clause-right : goal.returns-then-named-near-clause-right
returns-then-named-near-clause-right c = λ up. at-among c.args.named.now c.args.address c.args.near c.if-near-named.true c.if-named-near.true

pub returns-in-Ok-clause-some : goal.returns-in-Ok-clause-some
returns-in-Ok-clause-some c = c.in-Ok.ensures.bound

pub returns-in-Ok-clause-right : goal.returns-in-Ok-clause-right
returns-in-Ok-clause-right c = λ up.
    let s = searched c.args.named.now c.args.address (Ok c.in-Ok.index) c.in-Ok.ensures.position (λ i j l m. up i j 0 l m) in
    at-among c.args.named.now c.args.address c.in-Ok.index s.0 s.1

pub returns-in-Err-clause-wrong : goal.returns-in-Err-clause-wrong
returns-in-Err-clause-wrong c = λ up.
    let s = searched c.args.named.now c.args.address (Err c.in-Err.field-0) c.in-Err.ensures.position (λ i j l m. up i j 0 l m) in
    not-between c.args.named.now c.args.address c.in-Err.field-0 s.1 s.2
