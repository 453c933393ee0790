use Rattle.std.proofs.Common.{ℕ, ◌+◌, ◌*◌, ◌-◌, ◌^◌, ◌%◌, length, ap₂, ◌∙◌, rules}
use Rattle.hd_dbd.proofs.KeyNumbers.{ends-number}
use Rattle.hd_dbd.proofs.key_numbers.number_of_ends.Goals as goal

pub returns : goal.returns
returns c =
    ap₂ (λ (x y : ℕ). x * 2 ^ 32 % 2 ^ 64 + y * 2 ^ (8 * (8 - length c.args.key.now)) % 2 ^ 64 % 2 ^ 32) c.number_of_four-first.ensures c.number_of_four-last.ensures
    ∙ ends-number c.args.key.now c.requires.four c.requires.eight (search rules)
