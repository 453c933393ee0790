use Rattle.std.proofs.Common.{◌≡◌, length, rules}
use Rattle.hd_deck.proofs.Fixed.{short-head}
use Rattle.hd_deck.proofs.lines.short_head.Goals as goal

pub returns : goal.returns
returns c =
    let four : length c.args.function.now ≡ 4 = search rules in
    short-head c.args.pcb c.args.function.now c.requires four
