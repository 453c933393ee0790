use Rattle.hd_macro.proofs.OneSpelling.{one-list-is-spelled}
use Rattle.hd_macro.proofs.law.law_one_list_is_spelled.Goals as goal

pub returns : goal.returns
returns c = one-list-is-spelled
