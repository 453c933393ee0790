use Rattle.std.proofs.Common.{◌≡◌, arith, sym, None}
use Rattle.std.proofs.lemmas.Grind.{common_steps}
use Rattle.hd_dbd.specs.DatabaseFaults.{types_fault_from}
use Rattle.hd_dbd.proofs.Faults.{passes, types_agree}
use Rattle.hd_dbd.proofs.rules.types_fault.Goals as goal

pub returns-clause-none : goal.returns-clause-none
returns-clause-none c =
    let none : None ≡ types_fault_from c.args.block_size c.args.types.now 1 c.args.types.now = grind (arith, common_steps) in
    λ h. passes _ _ (types_agree c.args.block_size c.args.types.now 1 c.args.types.now) (sym none)
