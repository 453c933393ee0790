use Rattle.std.proofs.Common.{◌≡◌, ◌++◌, List, ℕ, drop, take, length, sym, ap, ◌∙◌, arith, rules}
use Rattle.std.specs.Prelude.{replicate}
use Rattle.std.proofs.lemmas.List.{take_all}
use Rattle.hd_check_walk.proofs.Fronts.{copied-front, number-front}
use Rattle.hd_check_walk.proofs.segments.key_front.Goals as goal

pub returns-in-Some : goal.returns-in-Some
returns-in-Some c = c.to_be_bytes.ensures ∙ number-front c.args.key.now c.in-Some.number (omega arith) (search rules) c.in-Some.ensures

pub returns-in_default : goal.returns-in_default
returns-in_default c =
    let key : List ℕ = c.args.key.now in
    let all : take (length key) key ≡ key = take_all (length key) key (omega arith) in
    ap (λ (xs : List ℕ). xs ++ drop (length key) (replicate 8 0)) (c.copy_from_slice-in_default.ensures.after ∙ sym all)
    ∙ copied-front (length key) key (omega arith) (omega arith) (λ l. omega arith)
