use Rattle.std.proofs.Common.{◌≡◌, arith}
use Rattle.std.specs.Prelude.{option_copied}
use Rattle.std.proofs.lemmas.Grind.{common_steps}
use Rattle.hd_ssa.specs.LeastKeys.{least_key}
use Rattle.hd_ssa.proofs.Bounds.{if_below}
use Rattle.hd_ssa.proofs.resolution.ResolvedSsa.least_key.Goals as goal

pub returns-in-Some-clause-below : goal.returns-in-Some-clause-below
returns-in-Some-clause-below c =
    let value : option_copied c.least_bound.result ≡ least_key c.args.key c.args.self.now = grind (arith, common_steps) in
    if_below c.args.key c.args.self.now c.least_bound.result value
