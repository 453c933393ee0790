-- What stands of the bytes that are gathered when the first of them were handed on.
use Rattle.std.proofs.Common.{◌≡◌, ℕ, ◌+◌, ◌-◌, ◌≤◌, List, [], ◌++◌, take, drop, sym, ap, ◌∙◌, arith, take-append-drop, drop-drop, drop_of_length-le, length-take}
use Rattle.std.proofs.lemmas.List.{drop-take}

-- from s to e: the first n, as a slice of the room has them, and the others
pub held-split : (s n e : ℕ) (xs : List ℕ) → s + n ≤ e → drop s (take e xs) ≡ take n (take (e - s) (drop s xs)) ++ drop (s + n) (take e xs)
held-split s n e xs fits =
    let held = drop s (take e xs) in
    let whole : e ≡ s + (e - s) = omega arith in
    let same : held ≡ take (e - s) (drop s xs) = ap (λ k. drop s (take k xs)) whole ∙ drop-take s (e - s) xs in
    sym (take-append-drop n held) ∙ ap (λ l. take n l ++ drop n held) same ∙ ap (λ l. take n (take (e - s) (drop s xs)) ++ l) (drop-drop n s (take e xs))

-- the same where those n are all
pub held-all : (s n e : ℕ) (xs : List ℕ) → s + n ≡ e → drop s (take e xs) ≡ take n (take (e - s) (drop s xs)) ++ []
held-all s n e xs all =
    let most = length-take e xs in
    let none : drop (s + n) (take e xs) ≡ [] = drop_of_length-le (take e xs) (omega arith) in
    held-split s n e xs (omega arith) ∙ ap (λ l. take n (take (e - s) (drop s xs)) ++ l) none
