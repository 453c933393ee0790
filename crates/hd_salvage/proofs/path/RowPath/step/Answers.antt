use Rattle.std.proofs.Common.{ℕ, ◌-◌, List, [], ◌∷◌, ◌++◌, take, ap, ◌∙◌}
use Rattle.hd_dbd.specs.Segment.{Segment}
use Rattle.hd_salvage.specs.declared.path.Row.{Row}
use Rattle.hd_salvage.specs.Paths.{row_of}
use Rattle.hd_salvage.proofs.PathRows.{stepped}
use Rattle.hd_salvage.proofs.path.RowPath.step.Goals as goal

pub returns : goal.returns
returns c =
    let row : Row = record { code = c.args.code; bytes = c.in_ok-bytes.bytes } in
    let segment : Segment = record { code = c.args.code; bytes = c.args.bytes.now } in
    stepped c.self.inside.rows.items c.push.new.self.items c.args.self.now c.saturating_sub-above.result row segment c.self.view_is
    (c.in_ok-push.ensures.items ∙ ap (λ (xs : List Row). xs ++ row ∷ []) c.truncate.ensures.items)
    (ap (λ (bs : List ℕ). record { code = c.args.code; bytes = bs }) c.in_ok-bytes.ensures)
    ∙ ap (λ (n : ℕ). take n c.args.self.now ++ segment ∷ []) (c.saturating_sub-above.ensures ∙ ap (λ (l : ℕ). l - 1) c.level.ensures.level)
