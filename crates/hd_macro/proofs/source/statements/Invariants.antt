use Rattle.std.proofs.Common.{◌≡◌, ◌+◌, ◌≤◌, length}
use Rattle.std.specs.Str.Lines.{lines}
use Rattle.hd_macro.specs.Source.{source, statements_from}
use Rattle.hd_lines.specs.Reading.{before}
use Rattle.hd_macro.specs.Views.{open_of}
use Rattle.hd_macro.proofs.source.statements.Given as goal

abbrev pub invariant-lines : goal.invariant-lines
invariant-lines l = record {
  so_far : before l.statements.items (statements_from (open_of l.standing) l.number (lines l.rest)) ≡ source l.bytes;
  numbered : l.number + length l.rest ≤ 1 + length l.bytes;
}

abbrev pub decreases-lines : goal.decreases-lines
decreases-lines l = length l.rest
