-- The arguments of a call's frame, from one to the next.
use Rattle.std.proofs.Common.{◌≡◌, ℕ, suc, ◌+◌, ◌<◌, List, [], ◌∷◌, ◌++◌, length, take, drop, Option, Some, None, refl, sym, ap, ◌∙◌, append_assoc, append-nil}
use Rattle.std.specs.Prelude.{nat_lt, option_map}
use Rattle.std.specs.Int.{w16, from_be_bytes}
use Rattle.std.proofs.lemmas.Bool.{cond-true, cond-false, le-ltb, lt-ltb}
use Rattle.hd_serve.specs.Frames.{IsSsaSplit, ssas_in}

-- some arguments and those behind them
abbrev pub behind : List (List ℕ) → Option (List (List ℕ) × List ℕ) → Option (List (List ℕ) × List ℕ)
behind done o = option_map (λ r. (done ++ r.0, r.1)) o

between : (done : List (List ℕ)) (ssa : List ℕ) (o : Option (List (List ℕ) × List ℕ)) → behind (done ++ ssa ∷ []) o ≡ behind done (option_map (λ r. (ssa ∷ r.0, r.1)) o)
between done ssa None = refl
between done ssa (Some r) = ap (λ (xs : List (List ℕ)). Some (xs, r.1)) (append_assoc done (ssa ∷ []) r.0)

-- with one argument more the arguments are still those of all bytes
pub one-more : (done : List (List ℕ)) (bytes ssa rest : List ℕ) (n k : ℕ) (total : Option (List (List ℕ) × List ℕ)) → n ≡ suc k → IsSsaSplit bytes ssa rest
    → behind done (ssas_in n bytes) ≡ total → behind (done ++ ssa ∷ []) (ssas_in k rest) ≡ total
one-more done bytes ssa rest n k total is split so_far =
    let size : ℕ = from_be_bytes w16 bytes in
    between done ssa (ssas_in k rest)
    ∙ ap (λ (x : List ℕ). behind done (option_map (λ r. (x ∷ r.0, r.1)) (ssas_in k rest))) split.front
    ∙ ap (λ (x : List ℕ). behind done (option_map (λ r. (take size (drop 2 bytes) ∷ r.0, r.1)) (ssas_in k x))) split.behind
    ∙ sym (ap (behind done) (ap (λ (m : ℕ). ssas_in m bytes) is ∙ cond-false (nat_lt (length bytes) (2 + size)) _ _ (le-ltb (length bytes) (2 + size) split.long)))
    ∙ so_far

-- bytes that end inside an argument have no more
pub none-there : (done : List (List ℕ)) (bytes : List ℕ) (n k : ℕ) (total : Option (List (List ℕ) × List ℕ)) → n ≡ suc k → length bytes < 2 + from_be_bytes w16 bytes
    → behind done (ssas_in n bytes) ≡ total → None ≡ total
none-there done bytes n k total is short so_far =
    sym (ap (behind done) (ap (λ (m : ℕ). ssas_in m bytes) is ∙ cond-true (nat_lt (length bytes) (2 + from_be_bytes w16 bytes)) _ _ (lt-ltb (length bytes) (2 + from_be_bytes w16 bytes) short)))
    ∙ so_far

-- none are left
pub no-more : (done : List (List ℕ)) (bytes : List ℕ) (n : ℕ) (total : Option (List (List ℕ) × List ℕ)) → n ≡ 0 → behind done (ssas_in n bytes) ≡ total → Some (done, bytes) ≡ total
no-more done bytes n total is so_far =
    ap (λ (xs : List (List ℕ)). Some (xs, bytes)) (sym (append-nil done)) ∙ sym (ap (λ (m : ℕ). behind done (ssas_in m bytes)) is) ∙ so_far
