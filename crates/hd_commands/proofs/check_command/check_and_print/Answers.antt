use Rattle.std.proofs.Common.{ℕ, List, inr, refl, subst, ◌∙◌}
use Rattle.std.specs.Io.KnownBytes.{Appends}
use Rattle.hd_links.specs.Steps.{rows_of}
use Rattle.hd_commands.specs.Lines.{passed_line}
use Rattle.hd_commands.proofs.check_command.check_and_print.Goals as goal

pub returns-in-Ok-print_passed-clause-passed : goal.returns-in-Ok-print_passed-clause-passed
returns-in-Ok-print_passed-clause-passed g c = λ sound.
    let P : List ℕ → Type 0 = λ n. Appends (g.O.Write.contents c.args.out.now) (g.O.Write.contents c.print_passed.new.out) (passed_line n c.in-Ok.passed) in
    record {
      passed = c.in-Ok.passed;
      passes = c.in-Ok.ensures.passed sound;
      line = subst P (c.bytes.ensures.bytes ∙ c.name.ensures) c.in-Ok-print_passed.ensures;
    }

pub returns-in-Err-print_passed-clause-refused : goal.returns-in-Err-print_passed-clause-refused
returns-in-Err-print_passed-clause-refused g c = inr (λ sound. let p = c.in-Ok.ensures.passed sound in (rows_of p.placed, (p.placed, refl, p.holds)))
