use Rattle.std.proofs.Common.{length}
use Rattle.hd_macro.proofs.Columns.{blanks_behind}
use Rattle.hd_macro.proofs.card.card.Goals as goal

pub returns-clause-value : goal.returns-clause-value
returns-clause-value c = let behind = blanks_behind (length c.args.line.now) in cc
