use Rattle.std.proofs.Common.{◌≡◌, ℕ, List, subst, arith}
use Rattle.std.proofs.lemmas.Bool.{eqb-true}
use Rattle.hd_check_blocks.specs.declared.places.Place.{Place}
use Rattle.hd_check_blocks.specs.Places.{IsPlaceOf, place_at}
use Rattle.hd_check_blocks.proofs.Lookups.{among}
use Rattle.hd_check_index.proofs.wrong_entries.is_root_at.Goals as goal

pub returns : goal.returns
returns c = λ yes.
    let ps : List Place = c.args.places.now in
    let n : ℕ = c.args.number in
    let at : (place_at ps n).address ≡ c.args.address = c.if-place-address.false in
    let code : (place_at ps n).code ≡ 1 = eqb-true (place_at ps n).code 1 yes in
    subst (λ (p : Place). IsPlaceOf p ps) (λ j. record { address = at j; code = code j }) (among ps n (let low = c.if-number-places.false in omega arith))
