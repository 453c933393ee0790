use Rattle.std.proofs.Common.{◌≡◌, ℕ, true, Option, Some, ap, ◌∙◌, sym}
use Rattle.std.specs.Option.{option_map_or}
use Rattle.hd_dbd.specs.Hierarchy.{parent_of, is_under}
use Rattle.hd_dbd.proofs.LevelLaw.{leveled}
use Rattle.hd_dbd.proofs.Names.{option_eq-Decides}
use Rattle.hd_calls.proofs.SearchWays.{parent_under}
use Rattle.hd_ssa.proofs.at_once.is_below.Goals as goal

pub returns-then-eq : goal.returns-then-eq
returns-then-eq c =
    let d = c.args.dbd.now in
    let parent : parent_of d.types c.args.code ≡ Some c.in-Some.above
    = sym c.parent_of.ensures ∙ (option_eq-Decides c.parent_of.result (Some c.in-Some.above)).0 (sym c.eq.ensures ∙ c.if-eq.true) in
    c.if-eq.true
    ∙ sym (ap (λ (o : Option ℕ). option_map_or (λ p. is_under d.types c.args.code p) o true) c.in-Some.is
    ∙ parent_under d.types (leveled d.block_size d.frspc d.types c.types-types.ensures.fit) c.args.code c.in-Some.above parent)
