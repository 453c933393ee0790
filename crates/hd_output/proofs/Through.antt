-- Bytes that go straight to the writer behind.
use Rattle.std.proofs.Common.{◌≡◌, ℕ, List, [], ◌++◌, None, Some, Option, Result, Ok, Err, OnErr, sym, ap, ◌∙◌, append-nil}
use Rattle.std.specs.Io.KnownBytes.{Keeps, Appends, append_known}

-- nothing was gathered, and the writer took bs
pub through : (a b c : Option (List ℕ)) (held bs : List ℕ) → Keeps a (append_known b held) → held ≡ [] → Appends b c bs → Appends a (append_known c held) bs
through None b c held bs kept none took = tt
through (Some x) None c held bs kept none took = absurd kept
through (Some x) (Some y) None held bs kept none took = absurd took
through (Some x) (Some y) (Some z) held bs kept none took =
    let same = sym (append-nil y) ∙ ap (λ l. y ++ l) (sym none) ∙ kept in
    ap (λ l. z ++ l) none ∙ append-nil z ∙ took ∙ ap (λ l. l ++ bs) same

pub on_err : {X E P : Type 0} (r : Result X E) → P → OnErr r P
on_err (Ok x) p = tt
on_err (Err e) p = p
