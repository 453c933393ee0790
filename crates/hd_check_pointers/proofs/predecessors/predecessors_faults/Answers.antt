use Rattle.std.proofs.Common.{◌≡◌, ◌++◌, List, sym, ap, subst, ◌∙◌}
use Rattle.hd_check_blocks.specs.declared.fault.Fault.{Fault}
use Rattle.hd_check_blocks.specs.Listing.{AreStanding}
use Rattle.hd_check_pointers.specs.Listed.{all_unmatched}
use Rattle.hd_check_pointers.proofs.OneEach.{unmatched-standing}
use Rattle.hd_check_pointers.proofs.predecessors.predecessors_faults.Goals as goal

pub returns-clause-faults : goal.returns-clause-faults
returns-clause-faults c = λ old sorted d v of places typed are.
    let listed : c.list_unmatched.new.faults.items ≡ all_unmatched c.args.places.now c.args.namings.now =
    c.in_ok-list_unmatched.ensures.faults ∙ ap (λ (l : List Fault). l ++ all_unmatched c.args.places.now c.args.namings.now) c.new-faults.ensures.items in
    subst (AreStanding d v 4) (sym listed) (unmatched-standing d v of c.args.places.now places typed old are c.args.namings.now sorted.order sorted.stable)
