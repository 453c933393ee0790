use Rattle.std.proofs.Common.{List, ℕ, sym, ap, ◌∙◌}
use Rattle.std.proofs.lemmas.List.{take_all}
use Rattle.std.specs.List.{list_all}
use Rattle.hd_deck.specs.Printing.{is_plain}
use Rattle.hd_deck.proofs.Plain.{plain_bytes}
use Rattle.hd_deck.proofs.lines.are_plain.Goals as goal

pub returns-clause-same : goal.returns-clause-same
returns-clause-same c h =
    let bytes : List ℕ = c.args.bytes.now in
    plain_bytes bytes (ap (λ (bs : List ℕ). list_all is_plain bs) (sym (take_all c.loop-byte.byte-index bytes c.loop-byte-test.false)) ∙ sym c.loop-byte.invariant ∙ h)
