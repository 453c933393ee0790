use Rattle.std.proofs.Common.{◌≡◌, arith}
use Rattle.std.specs.Prelude.{option_copied}
use Rattle.std.proofs.lemmas.Grind.{common_steps}
use Rattle.hd_ssa.specs.EqualKeys.{key_asked}
use Rattle.hd_ssa.proofs.EqualKeys.{if_asked}
use Rattle.hd_ssa.proofs.resolution.ResolvedSsa.key_asked.Goals as goal

pub returns-in-Some-clause-qualifies : goal.returns-in-Some-clause-qualifies
returns-in-Some-clause-qualifies c =
    let value : option_copied c.key_asked.result ≡ key_asked c.args.key c.args.self.now = grind (arith, common_steps) in
    if_asked c.args.key c.args.self.now c.key_asked.result value
