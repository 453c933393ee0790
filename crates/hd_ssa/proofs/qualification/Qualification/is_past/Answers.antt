use Rattle.std.proofs.Common.{List, ap, sym, ◌∙◌}
use Rattle.std.specs.Prelude.{not}
use Rattle.hd_calls.specs.Ssas.{Comparison}
use Rattle.hd_calls.specs.SearchKeys.{is_comparison_past, are_groups_past}
use Rattle.hd_ssa.specs.declared.qualification.Comparisons.{Comparisons}
use Rattle.hd_ssa.specs.Comparisons.{groups_of}
use Rattle.hd_ssa.specs.Texts.{groups_in}
use Rattle.hd_ssa.proofs.Past.{all_past}
use Rattle.hd_ssa.proofs.qualification.Qualification.is_past.Goals as goal

pub returns-in-More : goal.returns-in-More
returns-in-More c =
    ap not c.some_group_passes.ensures
    ∙ all_past (is_comparison_past c.args.key c.args.bytes.now) (groups_in c.in-More.segment.now c.in-More.text.now)
    ∙ ap (λ (kept : Comparisons). are_groups_past c.args.key c.args.bytes.now (groups_of kept)) (sym c.in-More.is)
    ∙ ap (λ (groups : List (List Comparison)). are_groups_past c.args.key c.args.bytes.now groups) c.self.view_is
