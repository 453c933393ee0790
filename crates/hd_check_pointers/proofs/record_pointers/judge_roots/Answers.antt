use Rattle.std.proofs.Common.{◌∷◌, [], ap, ◌∙◌}
use Rattle.hd_image.specs.Records.{links_of}
use Rattle.hd_check_pointers.specs.Judging.{wrong_among, wrong_or}
use Rattle.hd_check_pointers.specs.declared.record_pointers.Wrong.{Wrong}
use Rattle.hd_check_pointers.proofs.RecordFaults.{root-pointers}
use Rattle.hd_check_pointers.proofs.record_pointers.judge_roots.Goals as goal

pub returns : goal.returns
returns c = λ d v h first last.
    root-pointers d.types v c.args.first c.args.last c.wrong_or.result first last
    (c.wrong_or.ensures ∙ ap (λ (w : Wrong). wrong_or w c.wrong_of-2.result) (c.wrong_of.ensures d v h) ∙ ap (λ (w : Wrong). wrong_or (wrong_among (links_of d.types v) (record { address = c.args.first; type_code = 1 } ∷ [])) w) (c.wrong_of-2.ensures d v h))
