use Rattle.std.proofs.Common.{arith, ◌+◌, ◌-◌, ◌∷◌, ◌∙◌, List, ℕ, length, drop, ap, sym, length-drop}
use Rattle.std.proofs.lemmas.List.{take_all}
use Rattle.std.specs.Str.Lines.{lines}
use Rattle.hd_lines.proofs.LineCuts.{line_to_feed, line_to_end}
use Rattle.hd_lines.proofs.cut.next_line.Goals as goal

pub returns-in-Some-clause-value : goal.returns-in-Some-clause-value
returns-in-Some-clause-value c =
    let bytes = c.args.bytes.now in
    let end = c.in-Some.end in
    let same = length-drop (end + 1) bytes in
    line_to_feed bytes end c.in-Some.ensures
    ∙ ap (λ (line : List ℕ). line ∷ lines (drop (end + 1) bytes)) (sym c.without_return.ensures)
    ∙ ap (λ (rest : List ℕ). c.without_return.result.now ∷ lines rest) (sym (take_all (length bytes - (end + 1)) (drop (end + 1) bytes) (omega arith)))

pub returns-in-None-clause-value : goal.returns-in-None-clause-value
returns-in-None-clause-value c = line_to_end c.args.bytes.now (omega arith) c.in-None.ensures
