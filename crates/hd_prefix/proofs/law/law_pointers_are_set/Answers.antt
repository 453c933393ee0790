use Rattle.std.proofs.Common.{Some, sym}
use Rattle.hd_prefix.proofs.Places.{inside_some, apart_some}
use Rattle.hd_prefix.proofs.Writes.{pointer_with}
use Rattle.hd_prefix.proofs.law.law_pointers_are_set.Goals as goal

pub returns : goal.returns
returns c = λ block_size frspc types code pointer place bytes segment fit is long four.
    pointer_with types code pointer place bytes segment is
    (inside_some block_size frspc types code pointer (Some place) fit (sym is))
    (apart_some block_size frspc types code pointer (Some place) fit (sym is))
    long four
