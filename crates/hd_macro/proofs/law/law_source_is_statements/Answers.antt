use Rattle.hd_macro.proofs.StatementLines.{source-is-statements}
use Rattle.hd_macro.proofs.law.law_source_is_statements.Goals as goal

pub returns : goal.returns
returns c = source-is-statements
