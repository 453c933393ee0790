use Rattle.std.proofs.Common.{◌≡◌, ◌<◌, ℕ, subst, rules, w64}
use Rattle.std.specs.Int.{from_be_bytes}
use Rattle.std.proofs.lemmas.Bool.{ltb-true}
use Rattle.hd_check_walk.proofs.Numbers.{numbers-tell}
use Rattle.hd_check_walk.proofs.twins.is_less.Goals as goal

pub returns : goal.returns
returns c = λ yes.
    let one : c.from_be_bytes.result ≡ from_be_bytes w64 c.args.one = c.from_be_bytes.ensures in
    let other : c.from_be_bytes-2.result ≡ from_be_bytes w64 c.args.other = c.from_be_bytes-2.ensures in
    numbers-tell c.args.one c.args.other (search rules) (search rules) (search rules) (search rules)
    (subst (λ (x : ℕ). x < from_be_bytes w64 c.args.other) one (subst (λ (x : ℕ). c.from_be_bytes.result < x) other (ltb-true c.from_be_bytes.result c.from_be_bytes-2.result yes)))
