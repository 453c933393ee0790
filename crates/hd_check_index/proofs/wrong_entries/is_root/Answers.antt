use Rattle.std.proofs.Common.{ℕ, List, subst}
use Rattle.hd_check_blocks.specs.declared.places.Place.{Place}
use Rattle.hd_check_blocks.specs.Places.{IsPlaceOf, place_at}
use Rattle.hd_check_blocks.proofs.Lookups.{among}
use Rattle.hd_check_index.proofs.EntrySteps.{placed-root, unplaced-root}
use Rattle.hd_check_index.proofs.wrong_entries.is_root.Goals as goal

pub returns-in-Some : goal.returns-in-Some
returns-in-Some c = λ d v h.
    let ps : List Place = c.args.places.now in
    let code : ℕ = (place_at ps c.in-Some.number).code in
    let n = c.in-Some.ensures.some in
    placed-root d.types v ps h c.args.address code (subst (λ (a : ℕ). IsPlaceOf (record { address = a; code = code }) ps) n.1 (among ps c.in-Some.number n.0))

pub returns-in-None : goal.returns-in-None
returns-in-None c = λ d v h. unplaced-root d.types v c.args.places.now h c.args.address (c.in-None.ensures.none h.ascend)
