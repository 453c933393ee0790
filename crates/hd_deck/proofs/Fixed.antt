-- The parts of a line that have a fixed length, as their bytes.
use Rattle.std.proofs.Common.{◌≡◌, ℕ, ◌+◌, ◌-◌, ◌<◌, ◌≤◌, List, [], ◌∷◌, ◌++◌, length, take, drop, get_or, codes, decimal, refl, sym, ap, ap₂, ◌∙◌, arith, append_assoc}
use Rattle.std.proofs.Math.Seq.{take-append-add}
use Rattle.std.proofs.lemmas.List.{drop-take, drop_at}
use Rattle.std.proofs.lemmas.Slice.Eq.{text_from_reads}
use Rattle.std.proofs.lemmas.Fmt.{decimal_digit}

two_items : (xs : List ℕ) → length xs ≡ 2 → xs ≡ get_or xs 0 0 ∷ get_or xs 1 0 ∷ []
two_items xs h = text_from_reads xs _ h (refl, (refl, tt))

four_items : (xs : List ℕ) → length xs ≡ 4 → xs ≡ get_or xs 0 0 ∷ get_or xs 1 0 ∷ get_or xs 2 0 ∷ get_or xs 3 0 ∷ []
four_items xs h = text_from_reads xs _ h (refl, (refl, (refl, (refl, tt))))

eight_items : (xs : List ℕ) → length xs ≡ 8 → xs ≡ get_or xs 0 0 ∷ get_or xs 1 0 ∷ get_or xs 2 0 ∷ get_or xs 3 0 ∷ get_or xs 4 0 ∷ get_or xs 5 0 ∷ get_or xs 6 0 ∷ get_or xs 7 0 ∷ []
eight_items xs h = text_from_reads xs _ h (refl, (refl, (refl, (refl, (refl, (refl, (refl, (refl, tt))))))))

-- a PCB of one digit, and a function
pub short-head : (pcb : ℕ) (f : List ℕ) → pcb < 10 → length f ≡ 4
    → 32 ∷ (48 + pcb) ∷ 32 ∷ get_or f 0 0 ∷ get_or f 1 0 ∷ get_or f 2 0 ∷ get_or f 3 0 ∷ [] ≡ codes " " ++ decimal pcb ++ codes " " ++ f
short-head pcb f small four =
    ap (λ l. 32 ∷ (48 + pcb) ∷ 32 ∷ l) (sym (four_items f four)) ∙ ap (λ l. codes " " ++ l ++ codes " " ++ f) (sym (decimal_digit pcb small))

status-bytes : (s d n : List ℕ) → length s ≡ 2 → length d ≡ 2 → length n ≡ 8
    → 32 ∷ 91 ∷ get_or s 0 0 ∷ get_or s 1 0 ∷ 93 ∷ 32 ∷ get_or d 0 0 ∷ get_or d 1 0 ∷ 32 ∷ get_or n 0 0 ∷ get_or n 1 0 ∷ get_or n 2 0 ∷ get_or n 3 0 ∷ get_or n 4 0 ∷ get_or n 5 0 ∷ get_or n 6 0 ∷ get_or n 7 0 ∷ 32 ∷ 107 ∷ 101 ∷ 121 ∷ 61 ∷ []
    ≡ (codes " [" ++ s ++ codes "] ") ++ (d ++ codes " " ++ n) ++ codes " key="
status-bytes s d n two two' eight =
    let d' = get_or d 0 0 ∷ get_or d 1 0 ∷ [] in
    let n' = get_or n 0 0 ∷ get_or n 1 0 ∷ get_or n 2 0 ∷ get_or n 3 0 ∷ get_or n 4 0 ∷ get_or n 5 0 ∷ get_or n 6 0 ∷ get_or n 7 0 ∷ [] in
    ap (λ l. (codes " [" ++ l ++ codes "] ") ++ (d' ++ codes " " ++ n') ++ codes " key=") (sym (two_items s two))
    ∙ ap (λ l. (codes " [" ++ s ++ codes "] ") ++ (l ++ codes " " ++ n') ++ codes " key=") (sym (two_items d two'))
    ∙ ap (λ l. (codes " [" ++ s ++ codes "] ") ++ (d ++ codes " " ++ l) ++ codes " key=") (sym (eight_items n eight))

-- a status, a level, a name
pub place-bytes : (s d n s' d' n' : List ℕ) → length s ≡ 2 → length d ≡ 2 → length n ≡ 8 → s ≡ s' → d ≡ d' → n ≡ n'
    → 32 ∷ 91 ∷ get_or s 0 0 ∷ get_or s 1 0 ∷ 93 ∷ 32 ∷ get_or d 0 0 ∷ get_or d 1 0 ∷ 32 ∷ get_or n 0 0 ∷ get_or n 1 0 ∷ get_or n 2 0 ∷ get_or n 3 0 ∷ get_or n 4 0 ∷ get_or n 5 0 ∷ get_or n 6 0 ∷ get_or n 7 0 ∷ 32 ∷ 107 ∷ 101 ∷ 121 ∷ 61 ∷ []
    ≡ (codes " [" ++ s' ++ codes "] ") ++ (d' ++ codes " " ++ n') ++ codes " key="
place-bytes s d n s' d' n' two two' eight es ed en =
    status-bytes s d n two two' eight
    ∙ ap (λ l. (codes " [" ++ l ++ codes "] ") ++ (d ++ codes " " ++ n) ++ codes " key=") es
    ∙ ap (λ l. (codes " [" ++ s' ++ codes "] ") ++ (l ++ codes " " ++ n) ++ codes " key=") ed
    ∙ ap (λ l. (codes " [" ++ s' ++ codes "] ") ++ (d' ++ codes " " ++ l) ++ codes " key=") en

-- what is appended behind two lists goes behind both
push : (front middle xs ys : List ℕ) → front ++ (middle ++ (xs ++ ys)) ≡ (front ++ (middle ++ xs)) ++ ys
push front middle xs ys = ap (λ l. front ++ l) (sym (append_assoc middle xs ys)) ∙ sym (append_assoc front (middle ++ xs) ys)

-- the number goes before the rest of a head
head-joined : (number s c f : List ℕ) → number ++ (((s ++ c) ++ s) ++ f) ≡ (((number ++ s) ++ c) ++ s) ++ f
head-joined number s c f =
    sym (append_assoc number ((s ++ c) ++ s) f)
    ∙ ap (λ l. l ++ f) (sym (append_assoc number (s ++ c) s) ∙ ap (λ l. l ++ s) (sym (append_assoc number s c)))

-- a short line is the head, and the outcome behind it
pub short-line : (number h c f place b key key' area area' : List ℕ) → h ≡ codes " " ++ c ++ codes " " ++ f → place ≡ b ++ codes " key=" → key' ≡ key → area' ≡ area
    → number ++ h ++ place ++ key ++ codes " area=" ++ area ++ codes "\n" ≡ (number ++ codes " " ++ c ++ codes " " ++ f) ++ (b ++ (codes " key=" ++ key' ++ codes " area=" ++ area' ++ codes "\n"))
short-line number h c f place b key key' area area' eh ep ek ea =
    let s : List ℕ = codes " " in
    let word : List ℕ = codes " key=" in
    let next : List ℕ = codes " area=" in
    let end : List ℕ = codes "\n" in
    let front : List ℕ = (((number ++ s) ++ c) ++ s) ++ f in
    ap₂ (λ (x y : List ℕ). (number ++ x) ++ y ++ key ++ next ++ area ++ end) eh ep
    ∙ ap (λ (l : List ℕ). l ++ (b ++ word) ++ key ++ next ++ area ++ end) (head-joined number s c f)
    ∙ sym (push front b (((word ++ key) ++ next) ++ area) end
    ∙ ap (λ (l : List ℕ). l ++ end) (push front b ((word ++ key) ++ next) area
    ∙ ap (λ (l : List ℕ). l ++ area) (push front b (word ++ key) next ∙ ap (λ (l : List ℕ). l ++ next) (push front b word key))))
    ∙ ap₂ (λ (k a : List ℕ). front ++ (b ++ (word ++ k ++ next ++ a ++ end))) (sym ek) (sym ea)

-- bytes in front of six parts stand in front of all of them
in-front : (xs a b c d e f : List ℕ) → (((((xs ++ a) ++ b) ++ c) ++ d) ++ e) ++ f ≡ xs ++ (((((a ++ b) ++ c) ++ d) ++ e) ++ f)
in-front xs a b c d e f =
    let two = append_assoc xs a b in
    let three = ap (λ (l : List ℕ). l ++ c) two ∙ append_assoc xs (a ++ b) c in
    let four = ap (λ (l : List ℕ). l ++ d) three ∙ append_assoc xs ((a ++ b) ++ c) d in
    let five = ap (λ (l : List ℕ). l ++ e) four ∙ append_assoc xs (((a ++ b) ++ c) ++ d) e in
    ap (λ (l : List ℕ). l ++ f) five ∙ append_assoc xs ((((a ++ b) ++ c) ++ d) ++ e) f

-- a line whose first bytes were blank, in which a number is written that ends where they ended
pub numbered : (line before blank number a b c d e f : List ℕ) (from at to : ℕ) → length blank ≡ at → from + length number ≡ at → at ≤ to → drop from line ≡ number ++ drop at before
    → take to before ≡ (((((blank ++ a) ++ b) ++ c) ++ d) ++ e) ++ f → take (to - from) (drop from line) ≡ (((((number ++ a) ++ b) ++ c) ++ d) ++ e) ++ f
numbered line before blank number a b c d e f from at to blanks begins fits is text =
    let rest : List ℕ = ((((a ++ b) ++ c) ++ d) ++ e) ++ f in
    let long : to - from ≡ length number + (to - at) = omega (arith, begins, fits) in
    let all : at + (to - at) ≡ to = omega (arith, fits) in
    let behind : take (to - at) (drop at before) ≡ rest
    = sym (drop-take at (to - at) before) ∙ ap (λ (n : ℕ). drop at (take n before)) all ∙ ap (drop at) (text ∙ in-front blank a b c d e f) ∙ drop_at blank rest at blanks in
    ap₂ (λ (n : ℕ) (l : List ℕ). take n l) long is
    ∙ take-append-add number (drop at before) (to - at)
    ∙ ap (λ (l : List ℕ). number ++ l) behind
    ∙ sym (in-front number a b c d e f)
