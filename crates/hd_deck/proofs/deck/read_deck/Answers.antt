use Rattle.std.proofs.Common.{arith, Ok, ◌≡◌, ◌<◌, ◌≤◌, ◌+◌, ◌∙◌, sym, ap, subst, refl, Bool, length, All}
use Rattle.std.specs.Str.Lines.{lines}
use Rattle.hd_deck.specs.StepText.{StepFits}
use Rattle.hd_deck.specs.Deck.{Reading, deck, read_line}
use Rattle.hd_deck.specs.Lines.{kind_in}
use Rattle.hd_deck.proofs.Decks.{one_more_line, after_fits, after_pcb_fits, one_step, no_lines, all_read}
use Rattle.hd_deck.proofs.deck.read_deck.Goals as goal

pub lines-preserved : goal.lines-preserved
lines-preserved c =
    let k = c.in_ok-statement.statement in
    let r = c.lines.reader in
    let pcbs = c.args.pcbs in
    let ls = lines c.lines.rest.now in
    let next = c.in_ok-follow.ensures.next in
    let i = c.lines.invariant in
    let fit = c.in_ok-statement.ensures.fit in
    let pcb = after_pcb_fits pcbs ls r k i.some_pcb i.known_pcb fit in
    let few = one_step ls r k in
    let long = ap (λ (q : Reading). length q.steps) next in
    record {
      so_far = one_more_line pcbs c.lines.number r c.follow.new.self ls c.next_line.result.0.now (lines c.next_line.result.1.now) k (deck pcbs c.args.bytes.now)
          c.next_line.ensures.value (ap (λ (o : Bool). kind_in (read_line pcbs c.lines.number o c.next_line.result.0.now)) (sym c.is_open.ensures) ∙ c.in_ok-statement.ensures.says) next i.so_far;
      fit = subst (λ (q : Reading). All (StepFits pcbs) q.steps) (sym next) (after_fits pcbs ls r k i.some_pcb i.known_pcb i.fit fit);
      some_pcb = subst (λ (q : Reading). 0 < q.pcb) (sym next) pcb.0;
      known_pcb = subst (λ (q : Reading). q.pcb ≤ pcbs) (sym next) pcb.1;
      few = omega arith;
      numbered = omega arith;
    }

pub returns-clause-steps : goal.returns-clause-steps
returns-clause-steps c =
    let none : length c.lines.rest.now ≡ 0 = grind (arith, c.is_empty.ensures, c.lines-test.false) in
    all_read c.args.pcbs c.lines.number c.lines.reader (lines c.lines.rest.now) (deck c.args.pcbs c.args.bytes.now) (no_lines c.lines.rest.now none) c.lines.invariant.so_far
    ∙ ap Ok (sym c.into_steps.ensures)
