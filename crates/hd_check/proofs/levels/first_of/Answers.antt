use Rattle.std.proofs.Common.{ℕ, Option, IfSome, ◌≤◌, subst}
use Rattle.hd_volume.specs.Indexes.{root_key_length}
use Rattle.hd_volume.proofs.PutLemmas.{if-some-map}
use Rattle.hd_index_blocks.specs.LevelFaults as level
use Rattle.hd_check_index.specs.Judging.{IsFoundAt}
use Rattle.hd_check.proofs.LevelsFound.{next-fault, order-alone, order-before}
use Rattle.hd_check.proofs.levels.first_of.Goals as goal

pub returns-then-is_first-clause-some : goal.returns-then-is_first-clause-some
returns-then-is_first-clause-some c = λ d v of later forms same at none some.
    let F : Option ℕ → Type 0 = λ o. IsFoundAt v (level.IsWrongNext (root_key_length d.types) v) o in
    let low : IfSome c.args.order (λ x. c.in-Some.n ≤ x.0) = if-some-map c.args.order (λ x h. h.0 c.if-is_first.true) c.is_first.ensures.some in
    next-fault d v of later forms c.args.size c.in-Some.n c.block_address.result c.args.order c.at.result same (subst F c.in-Some.is at).1 low none some c.block_address.ensures c.at.ensures

pub returns-in-None-clause-none : goal.returns-in-None-clause-none
returns-in-None-clause-none c = λ d v of later forms same at none some.
    let F : Option ℕ → Type 0 = λ o. IsFoundAt v (level.IsWrongNext (root_key_length d.types) v) o in
    (order-alone d v of later forms c.args.size c.args.order c.order_fault.result same (subst F c.in-None.is at).0 none some (record { none = c.order_fault.ensures.none; some = c.order_fault.ensures.some })).0

pub returns-in-None-clause-some : goal.returns-in-None-clause-some
returns-in-None-clause-some c = λ d v of later forms same at none some.
    let F : Option ℕ → Type 0 = λ o. IsFoundAt v (level.IsWrongNext (root_key_length d.types) v) o in
    (order-alone d v of later forms c.args.size c.args.order c.order_fault.result same (subst F c.in-None.is at).0 none some (record { none = c.order_fault.ensures.none; some = c.order_fault.ensures.some })).1

pub returns-else-is_first-clause-none : goal.returns-else-is_first-clause-none
returns-else-is_first-clause-none c = λ d v of later forms same at none some.
    let F : Option ℕ → Type 0 = λ o. IsFoundAt v (level.IsWrongNext (root_key_length d.types) v) o in
    (order-before d v of later forms c.args.size c.in-Some.n c.args.order c.order_fault-in-Some.result c.is_first.result c.if-is_first.false same (subst F c.in-Some.is at).1 c.is_first.ensures.none c.is_first.ensures.some none some
    (record { none = c.order_fault-in-Some.ensures.none; some = c.order_fault-in-Some.ensures.some })).0

pub returns-else-is_first-clause-some : goal.returns-else-is_first-clause-some
returns-else-is_first-clause-some c = λ d v of later forms same at none some.
    let F : Option ℕ → Type 0 = λ o. IsFoundAt v (level.IsWrongNext (root_key_length d.types) v) o in
    (order-before d v of later forms c.args.size c.in-Some.n c.args.order c.order_fault-in-Some.result c.is_first.result c.if-is_first.false same (subst F c.in-Some.is at).1 c.is_first.ensures.none c.is_first.ensures.some none some
    (record { none = c.order_fault-in-Some.ensures.none; some = c.order_fault-in-Some.ensures.some })).1
