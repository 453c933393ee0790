use Rattle.std.proofs.Common.{ℕ, subst}
use Rattle.hd_check_blocks.specs.Places.{IsPlaceOf, place_at}
use Rattle.hd_check_blocks.proofs.Lookups.{among}
use Rattle.hd_check_blocks.proofs.lookup.code_near.Goals as goal

pub returns-in-Some-clause-some : goal.returns-in-Some-clause-some
returns-in-Some-clause-some c =
    let n = c.in-Some.ensures.some in
    subst (λ (a : ℕ). IsPlaceOf (record { address = a; code = (place_at c.args.places.now c.in-Some.number).code }) c.args.places.now) n.1 (among c.args.places.now c.in-Some.number n.0)
