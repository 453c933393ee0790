-- Chains of blocks.
use Rattle.std.proofs.Common.{◌≡◌, ◌≢◌, inl, inr, ℕ, suc, ◌<◌, List, [], ◌∷◌, ◌++◌, length, refl, sym, ap, ◌∙◌, subst, arith}
use Rattle.hd_volume.specs.Indexes.{IsAmong}
use Rattle.hd_index_blocks.specs.Chains.{IsLinked}

one-length : (next : ℕ → ℕ) (s : ℕ) (xs ys : List ℕ) → IsLinked next s xs → IsLinked next s ys → length xs ≡ length ys
one-length next s [] [] h g = refl
one-length next s [] (y ∷ ys) h g = absurd (g.1 (sym g.0 ∙ h))
one-length next s (x ∷ xs) [] h g = absurd (h.1 (sym h.0 ∙ g))
one-length next s (x ∷ xs) (y ∷ ys) h g =
    let L : ℕ → Type 0 = λ i. IsLinked next (next i) ys in
    ap (λ (i : ℕ). suc i) (one-length next (next x) xs ys h.2 (subst L (sym g.0 ∙ h.0) g.2))

linked-away : (next : ℕ → ℕ) (n bound : ℕ) → ((ys : List ℕ) → IsLinked next n ys → length ys ≡ bound) → (s : ℕ) (xs : List ℕ) → IsLinked next s xs → length xs < bound → IsAmong n xs → ⊥
linked-away next n bound one s [] h less among = among
linked-away next n bound one s (x ∷ xs) h less (inl e) =
    let L : ℕ → Type 0 = λ i. IsLinked next i (x ∷ xs) in
    let l = one (x ∷ xs) (subst L (h.0 ∙ sym e) h) in absurd (omega arith)
linked-away next n bound one s (x ∷ xs) h less (inr more) = linked-away next n bound one (next x) xs h.2 (omega arith) more

-- no block behind one is the same
linked-right : (next : ℕ → ℕ) (s n : ℕ) (ns : List ℕ) → IsLinked next s (n ∷ ns) → IsAmong n ns → ⊥
linked-right next s n ns h =
    let L : ℕ → Type 0 = λ i. IsLinked next i (n ∷ ns) in
    linked-away next n (length (n ∷ ns)) (λ ys g. one-length next n ys (n ∷ ns) g (subst L h.0 h)) (next n) ns h.2 (omega arith)

-- each block of a chain that ends stands in it once
pub linked-once : (next : ℕ → ℕ) (s : ℕ) (left : List ℕ) (n : ℕ) (right : List ℕ) → IsLinked next s (left ++ (n ∷ right)) → (IsAmong n left → ⊥) × (IsAmong n right → ⊥)
linked-once next s [] n right h = ((λ a. a), linked-right next s n right h)
linked-once next s (x ∷ left) n right h =
    let rest = linked-once next (next x) left n right h.2 in
    ((λ among. by-case among rest.0), rest.1)
  where
    meets : (xs : List ℕ) → IsAmong n (xs ++ (n ∷ right))
    meets [] = inl refl
    meets (y ∷ ys) = inr (meets ys)

    by-case : IsAmong n (x ∷ left) → (IsAmong n left → ⊥) → ⊥
    by-case (inl e) away = let A : ℕ → Type 0 = λ i. IsAmong i (left ++ (n ∷ right)) in linked-right next s x (left ++ (n ∷ right)) h (subst A e (meets left))
    by-case (inr more) away = away more

-- blocks that name what they named
pub linked-same : (old new : ℕ → ℕ) (s : ℕ) (ns : List ℕ) → ((x : ℕ) → IsAmong x ns → new x ≡ old x) → IsLinked old s ns → IsLinked new s ns
linked-same old new s [] same h = h
linked-same old new s (n ∷ ns) same h =
    let L : ℕ → Type 0 = λ i. IsLinked new i ns in
    (h.0, h.1, subst L (sym (same n (inl refl))) (linked-same old new (old n) ns (λ x a. same x (inr a)) h.2))

-- a new block behind one
pub linked-new : (old new : ℕ → ℕ) (s : ℕ) (left : List ℕ) (n m : ℕ) (right : List ℕ) → IsLinked old s (left ++ (n ∷ right)) → m ≢ 0 → new n ≡ m → new m ≡ old n
    → ((x : ℕ) → IsAmong x (left ++ (n ∷ right)) → x ≢ n → new x ≡ old x) → IsLinked new s (left ++ (n ∷ m ∷ right))
linked-new old new s [] n m right h some to from others =
    let away = (linked-once old s [] n right h).1 in
    let L : ℕ → Type 0 = λ i. IsLinked new i right in
    (h.0, h.1, (to, some, subst L (sym from) (linked-same old new (old n) right (λ x a. others x (inr a) (λ e. away (subst (λ (i : ℕ). IsAmong i right) e a))) h.2)))
linked-new old new s (x ∷ left) n m right h some to from others =
    let away = (linked-once old s (x ∷ left) n right h).0 in
    let L : ℕ → Type 0 = λ i. IsLinked new i (left ++ (n ∷ m ∷ right)) in
    (h.0, h.1, subst L (sym (others x (inl refl) (λ e. away (inl (sym e))))) (linked-new old new (old x) left n m right h.2 some to from (λ y a. others y (inr a))))

-- a block that is taken out behind another
pub linked-out : (old new : ℕ → ℕ) (s : ℕ) (left : List ℕ) (q n : ℕ) (right : List ℕ) → IsLinked old s (left ++ (q ∷ n ∷ right)) → new q ≡ old n
    → ((x : ℕ) → IsAmong x (left ++ (q ∷ right)) → x ≢ q → new x ≡ old x) → IsLinked new s (left ++ (q ∷ right))
linked-out old new s [] q n right h to others =
    let away = (linked-once old s [] q (n ∷ right) h).1 in
    let L : ℕ → Type 0 = λ i. IsLinked new i right in
    (h.0, h.1, subst L (sym to) (linked-same old new (old n) right (λ x a. others x (inr a) (λ e. away (inr (subst (λ (i : ℕ). IsAmong i right) e a)))) h.2.2))
linked-out old new s (x ∷ left) q n right h to others =
    let away = (linked-once old s (x ∷ left) q (n ∷ right) h).0 in
    let L : ℕ → Type 0 = λ i. IsLinked new i (left ++ (q ∷ right)) in
    (h.0, h.1, subst L (sym (others x (inl refl) (λ e. away (inl (sym e))))) (linked-out old new (old x) left q n right h.2 to (λ y a. others y (inr a))))
