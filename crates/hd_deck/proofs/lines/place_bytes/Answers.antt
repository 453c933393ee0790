use Rattle.std.proofs.Common.{ℕ, List, ◌≡◌, length, rules}
use Rattle.hd_deck.proofs.Fixed.{place-bytes}
use Rattle.hd_deck.proofs.lines.place_bytes.Goals as goal

pub returns : goal.returns
returns c =
    let s : List ℕ = c.status_text.result.now in
    let d : List ℕ = c.two_digits.result in
    let n : List ℕ = c.segment_text.result in
    let two : length s ≡ 2 = search rules in
    let two' : length d ≡ 2 = search rules in
    let eight : length n ≡ 8 = search rules in
    place-bytes s d n _ _ _ two two' eight c.status_text.ensures c.two_digits.ensures c.segment_text.ensures
