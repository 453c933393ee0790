use Rattle.hd_commands.proofs.Headline.{headline}
use Rattle.hd_commands.proofs.law.law_headline.Goals as goal

pub returns : goal.returns
returns c = headline
