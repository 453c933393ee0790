use Rattle.std.proofs.Common.{◌+◌, ℕ, List, sym, subst, arith}
use Rattle.std.specs.Prelude.{not}
use Rattle.hd_volume.specs.Indexes.{root_key_length}
use Rattle.hd_image.specs.declared.line.Line.TheVariants.{WrongNext}
use Rattle.hd_check_index.specs.declared.rows.Standing.{Standing}
use Rattle.hd_check_index.specs.Standings.{standing_at}
use Rattle.hd_check_index.proofs.FormFaults.{place-fits}
use Rattle.hd_check_index.proofs.Followers.{standing-kind}
use Rattle.hd_check_index.proofs.PassedBlocks.{one-more, unless-at}
use Rattle.hd_check_index.proofs.RowLists.{AreNextsTo, nexts-none, nexts-more, nexts-all}
use Rattle.hd_check_index.proofs.set_orders.next_faults.Goals as goal

pub loop-i-init : goal.loop-i-init
loop-i-init c = λ d v of later table forms are size. subst (AreNextsTo d v c.args.rows.now 0) (sym c.new-faults.ensures.items) (nexts-none d v c.args.rows.now)

pub loop-i-preserved : goal.loop-i-preserved
loop-i-preserved c = λ d v of later table forms are size.
    let rows : List Standing = c.args.rows.now in
    let i : ℕ = c.loop-i.i in
    let n : ℕ = (standing_at rows i).number in
    let within = c.loop-i-test.true in
    let wrong = c.is_next_wrong-wrong.result in
    let kind = standing-kind (root_key_length d.types) v forms rows are i within in
    let found = unless-at (not wrong) WrongNext n c.args.size v.size c.fault_unless.result size (place-fits d v n of kind.there) c.fault_unless.ensures in
    subst (AreNextsTo d v rows (i + 1)) (sym (one-more c.loop-i.faults.items _ c.fault_unless.result _ c.in_ok-list_fault.ensures.faults found))
    (nexts-more d v later forms rows are i wrong c.loop-i.faults.items within (λ e. c.is_next_wrong-wrong.ensures.wrong e v table) (λ e. c.is_next_wrong-wrong.ensures.right e v table kind)
    (c.loop-i.invariant d v of later table forms are size))

pub returns-clause-stand : goal.returns-clause-stand
returns-clause-stand c = λ d v of later table forms are size. (c.loop-i.invariant d v of later table forms are size).stand

pub returns-clause-all : goal.returns-clause-all
returns-clause-all c = λ d v of later table forms are size.
    let end = c.loop-i-test.false in
    nexts-all d v later forms c.args.rows.now are c.loop-i.i c.loop-i.faults.items (omega arith) (c.loop-i.invariant d v of later table forms are size)
