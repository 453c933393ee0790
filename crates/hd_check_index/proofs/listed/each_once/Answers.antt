use Rattle.std.proofs.Common.{◌++◌, ℕ, List, None, ap, arith}
use Rattle.std.proofs.lemmas.List.{drop_more}
use Rattle.hd_check_blocks.specs.declared.fault.Fault.{Fault}
use Rattle.hd_check_index.specs.Listed.{each_once}
use Rattle.hd_check_index.proofs.InOrder.{once-more, once-end}
use Rattle.hd_check_index.proofs.listed.each_once.Goals as goal

pub loop-fault-init : goal.loop-fault-init
loop-fault-init c = ap (λ (l : List Fault). l ++ each_once None c.args.sorted.now) c.new-faults.ensures.items

pub loop-fault-preserved : goal.loop-fault-preserved
loop-fault-preserved c =
    let fs : List Fault = c.args.sorted.now in
    let i : ℕ = c.loop-fault.fault-index in
    once-more fs i c.loop-fault.before c.loop-fault.faults.items c.list_fault.new.faults.items _ c.unless_repeated.result (drop_more fs i _ c.loop-fault-test.true)
    c.unless_repeated.ensures c.in_ok-list_fault.ensures.faults c.loop-fault.invariant

pub returns-clause-value : goal.returns-clause-value
returns-clause-value c = once-end c.args.sorted.now c.loop-fault.fault-index c.loop-fault.before c.loop-fault.faults.items (let end = c.loop-fault-test.false in omega arith) c.loop-fault.invariant
