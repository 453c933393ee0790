use Rattle.std.proofs.Common.{◌+◌, ℕ, List, sym, subst, arith}
use Rattle.hd_check_blocks.specs.declared.places.Place.{Place}
use Rattle.hd_check_index.proofs.NameLists.{AreRootsTo, roots-none, roots-more, roots-all}
use Rattle.hd_check_index.proofs.unnamed_roots.root_faults.Goals as goal

pub loop-place-init : goal.loop-place-init
loop-place-init c = λ up old d v places named moved. subst (AreRootsTo d v c.args.places.now 0) (sym c.new-faults.ensures.items) (roots-none d v c.args.places.now places)

pub loop-place-preserved : goal.loop-place-preserved
loop-place-preserved c = λ up old d v places named moved.
    let ps : List Place = c.args.places.now in
    let i : ℕ = c.loop-place.place-index in
    subst (AreRootsTo d v ps (i + 1)) (sym c.in_ok-list_fault.ensures.faults)
    (roots-more d v ps places old c.args.named.now named moved i c.root_fault.result c.loop-place.faults.items c.loop-place-test.true (c.root_fault.ensures.none up) (c.root_fault.ensures.some up)
    (c.loop-place.invariant up old d v places named moved))

pub returns-clause-faults : goal.returns-clause-faults
returns-clause-faults c = λ up old d v places named moved.
    let end = c.loop-place-test.false in
    roots-all d v c.args.places.now places c.loop-place.place-index c.loop-place.faults.items (omega arith) (c.loop-place.invariant up old d v places named moved)
