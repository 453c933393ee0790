use Rattle.std.proofs.Common.{Bool, ◌&&◌, ap, ap₂, sym, ◌∙◌}
use Rattle.std.specs.List.{list_all}
use Rattle.hd_dbd.specs.declared.program.TypeName.{TypeName}
use Rattle.hd_dbd.proofs.SeenParents.{is_kept, parents_agree}
use Rattle.hd_dbd.proofs.program_rules.parents_fit.Goals as goal

pub returns-then-have_own_parents : goal.returns-then-have_own_parents
returns-then-have_own_parents c =
    ap₂ (λ (a b : Bool). a && b) (sym c.if-have_own_parents.true ∙ c.have_own_parents.ensures) c.sees_parents.ensures
    ∙ parents_agree c.args.names.now c.args.pcb.now c.requires

pub returns-else-have_own_parents : goal.returns-else-have_own_parents
returns-else-have_own_parents c =
    let none = c.if-have_own_parents.false in
    let rest : Bool = list_all (λ (t : TypeName). is_kept c.args.names.now c.args.pcb.now t.name) c.args.names.now in
    none ∙ ap (λ (a : Bool). a && rest) (sym none ∙ c.have_own_parents.ensures) ∙ parents_agree c.args.names.now c.args.pcb.now c.requires
