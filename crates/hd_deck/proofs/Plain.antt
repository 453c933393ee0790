-- Bytes that are shown as they are.
use Rattle.std.proofs.Common.{◌≡◌, ◌≤◌, ◌+◌, ◌-◌, ◌*◌, ℕ, List, [], ◌∷◌, ◌++◌, length, take, drop, Bool, true, false, cond, refl, sym, ap, ap₂, ◌∙◌, arith, append_assoc, drop-drop}
use Rattle.std.specs.Prelude.{not, nat_le, ◌&&◌, ◌==◌}
use Rattle.std.specs.List.{list_all}
use Rattle.std.proofs.Math.Seq.{take-add}
use Rattle.std.proofs.lemmas.Bool.{and_parts}
use Rattle.std.proofs.lemmas.List.{drop-take, drop_at}
use Rattle.std.proofs.lemmas.List.Folds.{list_all-append}
use Rattle.hd_deck.specs.Printing.{is_plain, shown, shown_byte}

plain_byte : (b : ℕ) → is_plain b ≡ true → shown_byte b ≡ b ∷ []
plain_byte b h = formula (b == 92) (nat_le 32 b && nat_le b 126) _ h
  where
    formula : (e m : Bool) (x : List ℕ) → (not e && m) ≡ true → cond e (92 ∷ 92 ∷ []) (cond m (b ∷ []) x) ≡ b ∷ []
    formula true m x h = cc
    formula false true x h = refl
    formula false false x h = cc

-- plain bytes are shown as they are
pub plain_bytes : (bytes : List ℕ) → list_all is_plain bytes ≡ true → shown bytes ≡ bytes
plain_bytes [] h = refl
plain_bytes (b ∷ bytes) h =
    let P = and_parts (is_plain b) (list_all is_plain bytes) h in ap₂ (λ (x y : List ℕ). x ++ y) (plain_byte b P.0) (plain_bytes bytes P.1)

-- where so many bytes of a line are plain, and those of the block behind them, all these are
pub plain_more : (line : List ℕ) (start first : ℕ) → start ≤ first → list_all is_plain (take (first - start) (drop start line)) ≡ true → list_all is_plain (take 32 (drop first line)) ≡ true
    → list_all is_plain (take (first + 32 - start) (drop start line)) ≡ true
plain_more line start first low before block =
    let n : ℕ = first - start in
    let rest : List ℕ = drop start line in
    let e : first + 32 - start ≡ n + 32 = omega (arith, low) in
    ap (λ (k : ℕ). list_all is_plain (take k rest)) e
    ∙ ap (list_all is_plain) (take-add n 32 rest)
    ∙ list_all-append is_plain (take n rest) (take 32 (drop n rest))
    ∙ ap₂ (λ (x y : Bool). x && y) before (ap (λ (xs : List ℕ). list_all is_plain (take 32 xs)) (drop-drop n start line ∙ ap (λ (k : ℕ). drop k line) (let f : start + n ≡ first = omega (arith, low) in f)) ∙ block)

-- where so many bytes are plain, fewer of them are
pub plain_fewer : (bytes : List ℕ) (n k : ℕ) → n ≤ k → list_all is_plain (take k bytes) ≡ true → list_all is_plain (take n bytes) ≡ true
plain_fewer bytes n k less plain =
    let e : n + (k - n) ≡ k = omega (arith, less) in
    (and_parts (list_all is_plain (take n bytes)) (list_all is_plain (take (k - n) (drop n bytes)))
    (sym (list_all-append is_plain (take n bytes) (take (k - n) (drop n bytes))) ∙ ap (list_all is_plain) (sym (take-add n (k - n) bytes)) ∙ ap (λ (m : ℕ). list_all is_plain (take m bytes)) e ∙ plain)).0

-- where a line is some bytes and a key and an area behind them, and all behind the first bytes is plain, key and area are shown as they are
pub shown_there : (line front key word area : List ℕ) (start end : ℕ) → length front ≡ start → start ≤ end
    → take end line ≡ ((front ++ key) ++ word) ++ area → list_all is_plain (take (end - start) (drop start line)) ≡ true → (shown key ≡ key) × (shown area ≡ area)
shown_there line front key word area start end long low is plain =
    let e : start + (end - start) ≡ end = omega (arith, low) in
    let behind : take (end - start) (drop start line) ≡ (key ++ word) ++ area
    = sym (drop-take start (end - start) line) ∙ ap (λ (n : ℕ). drop start (take n line)) e ∙ ap (drop start) (is ∙ ap (λ (xs : List ℕ). xs ++ area) (append_assoc front key word) ∙ append_assoc front (key ++ word) area)
    ∙ drop_at front ((key ++ word) ++ area) start long in
    let all = ap (list_all is_plain) (sym behind) ∙ plain in
    let A = and_parts (list_all is_plain (key ++ word)) (list_all is_plain area) (sym (list_all-append is_plain (key ++ word) area) ∙ all) in
    let K = and_parts (list_all is_plain key) (list_all is_plain word) (sym (list_all-append is_plain key word) ∙ A.0) in
    (plain_bytes key K.0, plain_bytes area A.1)
