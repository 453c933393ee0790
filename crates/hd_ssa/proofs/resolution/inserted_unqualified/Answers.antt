use Rattle.std.proofs.Common.{ℕ, List, length, drop, min, ap, ◌∙◌}
use Rattle.std.proofs.lemmas.List.{take_rest}
use Rattle.hd_calls.specs.Ssas.{unqualified, first_inserted_head}
use Rattle.hd_ssa.specs.Named.{Named, heads_in}
use Rattle.hd_ssa.proofs.Heads.{unqualified_from}
use Rattle.hd_ssa.proofs.resolution.inserted_unqualified.Goals as goal

pub returns : goal.returns
returns c =
    c.unqualified.ensures
    ∙ ap (λ (ns : List Named). unqualified (heads_in ns)) (take_rest c.args.heads.now c.min-place.result)
    ∙ ap (λ (n : ℕ). unqualified (heads_in (drop n c.args.heads.now))) (c.min-place.ensures ∙ ap (λ (m : ℕ). min m (length c.args.heads.now)) c.first_inserted.ensures)
    ∙ unqualified_from c.args.heads.now (first_inserted_head (heads_in c.args.heads.now))
