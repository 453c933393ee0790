use Rattle.std.proofs.Common.{◌≡◌, ◌+◌, ◌-◌, ℕ, List, length, take, drop, min, Some, refl, sym, ap, ◌∙◌, arith}
use Rattle.std.proofs.lemmas.List.{take_all, length-drop}
use Rattle.hd_block.specs.Sizes.{size_at}
use Rattle.hd_check_blocks.proofs.DataBlocks.{read-there}
use Rattle.hd_check_blocks.proofs.begun.bytes_from.Goals as goal

pub returns : goal.returns
returns c = λ v n is begins formatted there.
    let b : List ℕ = c.args.bytes.now in
    let at : ℕ = c.args.address - c.args.first in
    let end : ℕ = min (at + size_at v.sizes b at) (length b) in
    let place : c.args.address ≡ c.args.first + at = (let low = c.if-address-first.false in omega arith) in
    let all : take (length b - at) (drop at b) ≡ drop at b = take_all (length b - at) (drop at b) (let long = length-drop at b in omega arith) in (
      end - at,
      read-there v n c.args.address c.args.first at end b formatted there is begins place (let low = c.if-at-bytes.false in omega arith) refl ∙ ap (λ (xs : List ℕ). Some (take (end - at) xs)) (sym all),
    )
