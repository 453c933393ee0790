use Rattle.std.proofs.Common.{◌≡◌, ◌-◌, ◌≤◌, List, cond, arith, ap, ◌∙◌}
use Rattle.std.specs.Prelude.{◌==◌, slice_index_or}
use Rattle.hd_dbd.specs.declared.facts.TypeFacts.{TypeFacts}
use Rattle.hd_dbd.specs.Hierarchy.{Database, level_of}
use Rattle.hd_dbd.specs.Facts.{facts_at}
use Rattle.hd_dbd.proofs.Fitting.{types_fit, level_of-at_most}
use Rattle.hd_dbd.proofs.Kept.{no_facts, facts_found}
use Rattle.hd_dbd.proofs.database.Dbd.facts_of.Goals as goal

pub returns-clause-value : goal.returns-clause-value
returns-clause-value c =
    c.facts_in.ensures
    ∙ ap (λ (table : List TypeFacts). cond (c.args.code == 0) no_facts (slice_index_or table (c.args.code - 1) no_facts)) (c.deref.ensures.value ∙ c.self.invariant.1)
    ∙ facts_found c.self.inside.types.items c.args.code
    ∙ ap (λ (d : Database). facts_at d.types c.args.code) c.self.view_is

pub returns-clause-level : goal.returns-clause-level
returns-clause-level c =
    let low : level_of c.self.inside.types.items c.args.code ≤ 15 =
    level_of-at_most c.self.inside.block_size c.self.inside.types.items c.args.code (types_fit c.self.inside.block_size c.self.inside.frspc c.self.inside.types.items c.self.invariant.0) in
    let same : c.facts_in.result.level ≡ level_of c.self.inside.types.items c.args.code =
    ap (λ (f : TypeFacts). f.level) (c.facts_in.ensures
    ∙ ap (λ (table : List TypeFacts). cond (c.args.code == 0) no_facts (slice_index_or table (c.args.code - 1) no_facts)) (c.deref.ensures.value ∙ c.self.invariant.1)
    ∙ facts_found c.self.inside.types.items c.args.code) in
    omega arith
