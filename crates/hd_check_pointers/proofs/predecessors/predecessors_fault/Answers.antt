use Rattle.std.proofs.Common.{◌≡◌, List, Option, IfNone, IfSome, sym, subst, ap, ◌∙◌}
use Rattle.std.specs.declared.vec.Vec.{Vec}
use Rattle.std.specs.declared.alloc.Global.{Global}
use Rattle.hd_links.specs.Pointers.{PredecessorsAreOne}
use Rattle.hd_image.specs.Records.{links_of}
use Rattle.hd_check_blocks.specs.declared.fault.Fault.{Fault}
use Rattle.hd_check_pointers.specs.declared.namings.Naming.{Naming}
use Rattle.hd_check_blocks.specs.Phases.{IsLeastOf}
use Rattle.hd_check_pointers.specs.Tables.{ArePredecessors}
use Rattle.hd_check_pointers.specs.Namings.{first_unmatched, NameTheirPlaces, HaveSameHolders}
use Rattle.hd_check_pointers.proofs.OneEach.{named-one, named-table, unmatched-none, unmatched-table, unmatched-least}
use Rattle.hd_check_pointers.proofs.predecessors.predecessors_fault.Goals as goal

pub returns-in-Some-clause-none : goal.returns-in-Some-clause-none
returns-in-Some-clause-none c = λ d v of places typed are.
    let P : Option (Vec Naming Global) → Type 0 = λ o. IfSome o (λ t. NameTheirPlaces c.args.places.now t.items) in
    let Q : Option (Vec Naming Global) → Type 0 = λ o. IfSome o (λ t. HaveSameHolders c.args.places.now c.args.namings.now.items t.items) in
    named-one d v of c.args.places.now places typed c.args.namings.now.items are c.in-Some.arranged.items (subst P c.in-Some.is c.in_ok-arranged.ensures.places)
    (subst Q c.in-Some.is (rw c.deref.ensures.value at c.in_ok-arranged.ensures.holders))

pub returns-in-Some-clause-table : goal.returns-in-Some-clause-table
returns-in-Some-clause-table c = λ d v of places typed are.
    let P : Option (Vec Naming Global) → Type 0 = λ o. IfSome o (λ t. NameTheirPlaces c.args.places.now t.items) in
    let Q : Option (Vec Naming Global) → Type 0 = λ o. IfSome o (λ t. HaveSameHolders c.args.places.now c.args.namings.now.items t.items) in
    named-table d v of c.args.places.now places typed c.args.namings.now.items are c.in-Some.arranged.items (subst P c.in-Some.is c.in_ok-arranged.ensures.places)
    (subst Q c.in-Some.is (rw c.deref.ensures.value at c.in_ok-arranged.ensures.holders))

pub returns-clause-none : goal.returns-clause-none
returns-clause-none c = λ d v of places typed are.
    let new : List Naming = c.sort_namings.new.namings.items in
    let found : c.first_unmatched.result ≡ first_unmatched c.args.places.now new = c.first_unmatched.ensures ∙ ap (first_unmatched c.args.places.now) c.deref-2.ensures.value in
    subst (λ (o : Option Fault). IfNone o (PredecessorsAreOne d.types (links_of d.types v))) (sym found)
    (unmatched-none d v of c.args.places.now places typed c.args.namings.now.items are new c.in_ok-sort_namings.ensures.sorted c.in_ok-sort_namings.ensures.stable)

pub returns-clause-table : goal.returns-clause-table
returns-clause-table c = λ d v of places typed are.
    let new : List Naming = c.sort_namings.new.namings.items in
    let found : c.first_unmatched.result ≡ first_unmatched c.args.places.now new = c.first_unmatched.ensures ∙ ap (first_unmatched c.args.places.now) c.deref-2.ensures.value in
    subst (λ (o : Option Fault). IfNone o (ArePredecessors d.types (links_of d.types v) c.args.places.now new)) (sym found)
    (unmatched-table d v of c.args.places.now places typed c.args.namings.now.items are new c.in_ok-sort_namings.ensures.sorted c.in_ok-sort_namings.ensures.stable)

pub returns-clause-some : goal.returns-clause-some
returns-clause-some c = λ d v of places typed are.
    let new : List Naming = c.sort_namings.new.namings.items in
    let found : c.first_unmatched.result ≡ first_unmatched c.args.places.now new = c.first_unmatched.ensures ∙ ap (first_unmatched c.args.places.now) c.deref-2.ensures.value in
    subst (λ (o : Option Fault). IfSome o (λ f. IsLeastOf d v 4 f)) (sym found)
    (unmatched-least d v of c.args.places.now places typed c.args.namings.now.items are new c.in_ok-sort_namings.ensures.sorted c.in_ok-sort_namings.ensures.stable)
