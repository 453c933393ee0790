use Rattle.std.proofs.Common.{◌+◌, ◌∷◌, take, drop, ◌==◌, arith, ap, sym, ◌∙◌}
use Rattle.std.specs.List.{slice_split}
use Rattle.hd_gen.proofs.Cuts.{one_word, first_word}
use Rattle.hd_gen.proofs.value.cut.Goals as goal

-- src/value.rt:115:9
pub returns-then-end-text : goal.returns-then-end-text
returns-then-end-text c = one_word c.args.text.now (sym c.comma_or_end-end.ensures.value ∙ c.if-end-text.true)

-- src/value.rt:110:1
pub returns : goal.returns
returns c =
    first_word c.args.text.now (omega arith)
    ∙ ap (λ n. take n c.args.text.now ∷ slice_split (λ b. b == 44) (drop (n + 1) c.args.text.now)) (sym c.comma_or_end-end.ensures.value)
    ∙ ap (λ rest. take c.comma_or_end-end.result c.args.text.now ∷ slice_split (λ b. b == 44) rest) (sym c.behind.ensures)
