use Rattle.hd_macro.proofs.Spellings.{operand-text-is-spelled}
use Rattle.hd_macro.proofs.law.law_operand_text_is_spelled.Goals as goal

pub returns : goal.returns
returns c = operand-text-is-spelled
