use Rattle.std.proofs.Common.{◌≡◌}
use Rattle.hd_check_index.specs.IndexPhases.{OfFormed}
use Rattle.hd_check_index.proofs.ChainLists.{AreListedTo}
use Rattle.hd_check_index.proofs.block_forms.form_faults.Given as goal

-- what is wrong with the header and the blocks before is listed
abbrev pub invariant-loop-i : goal.invariant-loop-i
invariant-loop-i l = OfFormed l.blocks l.forms l.top l.height l.room (λ d v. l.size ≡ v.size → AreListedTo d v 8 l.blocks l.i l.faults.items)
