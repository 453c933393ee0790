use Rattle.std.proofs.Common.{arith, ◌≡◌, ◌+◌, sym, subst, List}
use Rattle.std.specs.Str.Lines.{lines}
use Rattle.hd_macro.specs.Statements.{StatementText}
use Rattle.hd_macro.specs.Source.{source, statements_from}
use Rattle.hd_lines.specs.Reading.{before}
use Rattle.hd_macro.specs.Views.{open_of, step_of}
use Rattle.hd_macro.proofs.Sources.{one_more_line}
use Rattle.hd_macro.proofs.source.statements.Goals as goal

pub lines-preserved : goal.lines-preserved
lines-preserved c =
    let step = step_of c.in_ok-step.step in
    let total = source c.args.bytes.now in
    let so_far = one_more_line (open_of c.lines.standing) c.lines.number c.lines.statements.items (lines c.lines.rest.now) c.next_line.result.0.now (lines c.next_line.result.1.now) step total
    c.next_line.ensures.value c.in_ok-step.ensures.step c.lines.invariant.so_far in
    record {
      so_far = subst (λ (items : List StatementText). before items (statements_from step.open_behind (c.lines.number + 1) (lines c.next_line.result.1.now)) ≡ total) (sym c.in_ok-keep.ensures.statements) so_far;
      numbered = omega arith;
    }
