-- A source, from one line to the next.
use Rattle.std.proofs.Common.{◌≡◌, ℕ, ◌+◌, List, ◌∷◌, ◌++◌, Result, Ok, ◌∙◌, ap, sym}
use Rattle.hd_lines.specs.Reading.{then, before}
use Rattle.hd_lines.proofs.Parts.{before_both}
use Rattle.hd_macro.specs.Statements.{StatementText}
use Rattle.hd_macro.specs.Source.{Open, Step, read_line, statements_from}
use Rattle.hd_macro.specs.declared.source.LineFault.{LineFault}

-- the statements of a source are those of its lines so far, of one more line, and of the others
pub one_more_line : (o : Open) (n : ℕ) (done : List StatementText) (lines : List (List ℕ)) (line : List ℕ) (more : List (List ℕ)) (s : Step) (total : Result (List StatementText) LineFault) → lines ≡ line ∷ more → read_line o n line ≡ Ok s → before done (statements_from o n lines) ≡ total → before (done ++ s.done) (statements_from s.open_behind (n + 1) more) ≡ total
one_more_line o n done lines line more s total split gives so_far =
    let first : statements_from o n lines ≡ before s.done (statements_from s.open_behind (n + 1) more) =
    ap (statements_from o n) split ∙ ap (λ (r : Result Step LineFault). then r (λ (t : Step). before t.done (statements_from t.open_behind (n + 1) more))) gives in
    sym (before_both done s.done (statements_from s.open_behind (n + 1) more)) ∙ ap (before done) (sym first) ∙ so_far
