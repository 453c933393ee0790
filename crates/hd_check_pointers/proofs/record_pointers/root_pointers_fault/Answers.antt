use Rattle.std.proofs.Common.{refl}
use Rattle.hd_image.specs.Records.{links_of}
use Rattle.hd_check_pointers.proofs.RecordFaults.{right-none, wrong-some}
use Rattle.hd_check_pointers.proofs.record_pointers.root_pointers_fault.Goals as goal

pub returns-clause-none : goal.returns-clause-none
returns-clause-none c = λ d v h first last.
    right-none d.types (links_of d.types v) 0 c.judge_roots.result c.pointer_fault.result (λ z. absurd (z refl)) (c.judge_roots.ensures d v h first last) c.pointer_fault.ensures.none

pub returns-clause-some : goal.returns-clause-some
returns-clause-some c = λ d v h first last.
    wrong-some d.types (links_of d.types v) 0 c.judge_roots.result c.pointer_fault.result (λ z. absurd (z refl)) (c.judge_roots.ensures d v h first last) c.pointer_fault.ensures.some
