use Rattle.hd_prefix.proofs.Numbers.{has_pointers}
use Rattle.hd_prefix.proofs.law.law_pointers_are_numbers.Goals as goal

pub returns : goal.returns
returns c = has_pointers
