use Rattle.hd_serve.proofs.ToldApart.{foretold-apart}
use Rattle.hd_serve.proofs.law.law_foretold_is_told_apart.Goals as goal

pub returns : goal.returns
returns c = foretold-apart
