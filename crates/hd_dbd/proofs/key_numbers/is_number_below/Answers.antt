use Rattle.std.proofs.Common.{ℕ, ◌∙◌, ap, sym, subst, ◌+◌, ◌<◌, drop, get_or, ltb, arith, rules}
use Rattle.std.proofs.lemmas.List.{length-drop, get_or-drop}
use Rattle.hd_dbd.proofs.KeyNumbers.{number-below}
use Rattle.hd_dbd.proofs.key_numbers.is_number_below.Goals as goal

pub returns : goal.returns
returns c =
    let small : (i : ℕ) → get_or c.args.bytes.now i 0 < 256 = search rules in
    ap (λ (n : ℕ). ltb n c.args.number) c.number_at.ensures
    ∙ number-below (drop c.args.place c.args.bytes.now) c.args.key.now c.args.count c.args.number c.requires.number (let w = c.requires.within in omega (arith, length-drop c.args.place c.args.bytes.now))
    (λ i. subst (λ (x : ℕ). x < 256) (sym (get_or-drop c.args.place c.args.bytes.now i 0)) (small (c.args.place + i))) (search rules)
