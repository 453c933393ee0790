use Rattle.std.proofs.Common.{◌≡◌, ℕ, ◌≤◌, List, true, ap, sym, ◌∙◌, subst, is_some}
use Rattle.hd_dbd.specs.Types.{SegmentType}
use Rattle.hd_dbd.specs.Prefixes.{stored_size}
use Rattle.hd_dbd.specs.DatabaseRules.{block_size_fits, types_fit_from}
use Rattle.hd_dbd.proofs.Fitting.{size_bound}
use Rattle.hd_dbd.proofs.database.Dbd.new.Goals as goal

pub facts_of-requires-clause-sizes : goal.facts_of-requires-clause-sizes
facts_of-requires-clause-sizes c =
    let fit : types_fit_from c.args.block_size c.args.types.items 1 c.args.types.items ≡ true =
    ap (λ (ts : List SegmentType). types_fit_from c.args.block_size ts 1 ts) (sym c.deref-2.ensures.value) ∙ c.in_ok-fault.ensures.none (ap is_some c.in_default.is) in
    let size : block_size_fits c.args.block_size ≡ true = cc in
    λ (k : ℕ). subst (λ (ts : List SegmentType). stored_size ts k ≤ 65535) (sym c.deref-4.ensures.value) (size_bound c.args.block_size c.args.types.items k fit size)
