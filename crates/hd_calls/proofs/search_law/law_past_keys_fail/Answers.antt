use Rattle.hd_calls.proofs.SearchKeys.{past_keys_fail}
use Rattle.hd_calls.proofs.search_law.law_past_keys_fail.Goals as goal

pub returns : goal.returns
returns c = past_keys_fail
