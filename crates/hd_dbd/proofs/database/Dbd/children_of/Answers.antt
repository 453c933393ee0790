use Rattle.std.proofs.Common.{ℕ, ◌-◌, List, [], cond, map, ap, ◌∙◌, Vec, Global}
use Rattle.std.specs.Prelude.{◌==◌, slice_index_or}
use Rattle.hd_dbd.specs.Hierarchy.{Database}
use Rattle.hd_dbd.specs.Prefixes.{children_of}
use Rattle.hd_dbd.proofs.Fitting.{types_fit}
use Rattle.hd_dbd.proofs.Kept.{children_found}
use Rattle.hd_dbd.proofs.database.Dbd.children_of.Goals as goal

pub returns : goal.returns
returns c =
    c.children_in.ensures
    ∙ ap (λ (lists : List (List ℕ)). cond (c.args.code == 0) [] (slice_index_or lists (c.args.code - 1) []))
    (ap (λ (lists : List (Vec ℕ Global)). map (λ v. v.items) lists) c.deref.ensures.value ∙ c.self.invariant.2)
    ∙ children_found c.self.inside.block_size c.self.inside.types.items c.args.code (types_fit c.self.inside.block_size c.self.inside.frspc c.self.inside.types.items c.self.invariant.0)
    ∙ ap (λ (d : Database). children_of d.types c.args.code) c.self.view_is
