use Rattle.hd_changes.proofs.RootRows.{index-answers, follow-lesser}
use Rattle.hd_changes.proofs.law.law_the_index_answers_roots.Goals as goal

pub returns-clause-answers : goal.returns-clause-answers
returns-clause-answers c = index-answers

pub returns-clause-lesser : goal.returns-clause-lesser
returns-clause-lesser c = follow-lesser
