use Rattle.std.proofs.Common.{take, map, flat_map}
use Rattle.std.specs.Io.KnownBytes.{Appends}
use Rattle.hd_explain.specs.Entries.{plain, list_line}
use Rattle.hd_explain.proofs.writing.write_lines.Given as goal

abbrev pub invariant-loop-entry : goal.invariant-loop-entry
invariant-loop-entry g l =
    Appends (g.W.Write.contents l.fn.out) (g.W.Write.contents l.out)
    (flat_map list_line (map (λ entry. plain entry (λ text. text.now)) (take l.entry-index l.entries)))
