-- What is asked of each comparison of a group.
use Rattle.std.specs.Prelude.{Bool, not}
use Rattle.hd_calls.specs.Ssas.{Comparison}
use Rattle.hd_calls.specs.Satisfies.{is_true_of}
use Rattle.hd_calls.specs.SearchKeys.{is_comparison_past}
use Rattle.hd_ssa.specs.declared.question.Question.{Question}
use Rattle.hd_ssa.specs.declared.question.Question.TheVariants.{IsTrue, IsNotPast}

-- the comparison is true of the bytes, or their key is not past it
abbrev pub passes : Question → Comparison → Bool
passes (IsTrue bytes) c = is_true_of bytes.now c
passes (IsNotPast key bytes) c = not (is_comparison_past key bytes.now c)
