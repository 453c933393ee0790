-- The chains of an index from which blocks go.
use Rattle.std.proofs.Common.{◌≡◌, ◌≢◌, ◌⊎◌, inl, inr, ℕ, zero, suc, List, [], ◌∷◌, ◌++◌, refl, sym, ap, ◌∙◌, subst}
use Rattle.hd_volume.specs.Indexes.{IsAmong}
use Rattle.hd_index_blocks.specs.Levels.{IndexBlocks, across, named, IsIndexSet}
use Rattle.hd_index_blocks.specs.Ways.{IsNamed}
use Rattle.hd_index_blocks.specs.Changes.{OthersStay, IsLeft, entry_left}
use Rattle.hd_index_blocks.specs.Neighbours.{last_of}
use Rattle.hd_index_blocks.specs.Chains.{IsLinked, first_of, AreLevelsLinked}
use Rattle.hd_index_blocks.specs.Linking.{IsRelinked, ChainsStayLinked, LevelsStayLinked}
use Rattle.hd_index_blocks.proofs.Chains.{linked-same, linked-once}
use Rattle.hd_index_blocks.proofs.Leaving.{names-left}
use Rattle.hd_index_blocks.proofs.Downs.{among-left, among-right}

-- a chain begins at its first block
linked-first : (next : ℕ → ℕ) (start : ℕ) (ns : List ℕ) → IsLinked next start ns → IsLinked next (first_of ns) ns
linked-first next start [] h = refl
linked-first next start (n ∷ ns) h = (refl, h.1, h.2)

last-among : (x : ℕ) (xs : List ℕ) → IsAmong (last_of x xs) (x ∷ xs)
last-among x [] = inl refl
last-among x (y ∷ ys) = inr (last-among y ys)

-- block n goes from behind the last of some blocks
linked-gone : (old new : ℕ → ℕ) (start x : ℕ) (xs : List ℕ) (n : ℕ) (right : List ℕ) → IsLinked old start (x ∷ (xs ++ (n ∷ right))) → new (last_of x xs) ≡ old n
    → ((y : ℕ) → IsAmong y (x ∷ (xs ++ right)) → y ≢ last_of x xs → new y ≡ old y) → IsLinked new start (x ∷ (xs ++ right))
linked-gone old new start x [] n right h gone others =
    let away = (linked-once old start [] x (n ∷ right) h).1 in
    let L : ℕ → Type 0 = λ i. IsLinked new i right in
    let A : ℕ → Type 0 = λ i. IsAmong i right in
    (h.0, h.1, subst L (sym gone) (linked-same old new (old n) right (λ y a. others y (inr a) (λ e. away (inr (subst A e a)))) h.2.2))
linked-gone old new start x (z ∷ zs) n right h gone others =
    let away = (linked-once old start [] x ((z ∷ zs) ++ (n ∷ right)) h).1 in
    let L : ℕ → Type 0 = λ i. IsLinked new i (z ∷ (zs ++ right)) in
    let A : ℕ → Type 0 = λ i. IsAmong i ((z ∷ zs) ++ (n ∷ right)) in
    let same : new x ≡ old x = others x (inl refl) (λ e. away (subst A (sym e) (among-left (last_of z zs) (z ∷ zs) (n ∷ right) (last-among z zs)))) in
    (h.0, h.1, subst L (sym same) (linked-gone old new (old x) z zs n right h.2 gone (λ y a. others y (inr a))))

-- no block of a chain is 0
linked-some : (next : ℕ → ℕ) (start n : ℕ) (ns : List ℕ) → IsLinked next start ns → IsAmong n ns → n ≢ 0
linked-some next start n [] h a = absurd a
linked-some next start n (m ∷ ms) h (inl e) = λ z. h.1 (sym e ∙ z)
linked-some next start n (m ∷ ms) h (inr a) = linked-some next (next m) n ms h.2 a

-- the chain without block n
chain-gone : (old new : ℕ → ℕ) (start : ℕ) (left : List ℕ) (n : ℕ) (right : List ℕ) → IsLinked old start (left ++ (n ∷ right)) → (left ≢ [] → new (last_of 0 left) ≡ old n)
    → ((y : ℕ) → IsAmong y (left ++ right) → y ≢ last_of 0 left → new y ≡ old y)
    → IsLinked new (first_of (left ++ right)) (left ++ right)
chain-gone old new start [] n right h gone others =
    linked-first new (old n) right (linked-same old new (old n) right (λ y a. others y a (linked-some old (old n) y right h.2 a)) h.2)
chain-gone old new start (x ∷ xs) n right h gone others = linked-first new start (x ∷ (xs ++ right)) (linked-gone old new start x xs n right h (gone (λ e. cc)) others)

pub chains-linked : ChainsStayLinked
chains-linked old new start left n right kept r h = by-kept r.left_is
  where
    by-kept : (kept ≡ []) ⊎ (kept ≡ n ∷ []) → IsLinked new (first_of (left ++ (kept ++ right))) (left ++ (kept ++ right))
    by-kept (inl none) =
        let K : List ℕ → Type 0 = λ ks. IsLinked new (first_of (left ++ (ks ++ right))) (left ++ (ks ++ right)) in
        let A : ℕ → List ℕ → Type 0 = λ y ks. IsAmong y (left ++ (ks ++ right)) in
        subst K (sym none)
        (chain-gone old new start left n right h (r.gone none) (λ y a other. r.others y (subst (A y) (sym none) a) (λ e. other)))
    by-kept (inr one) =
        let K : List ℕ → Type 0 = λ ks. IsLinked new (first_of (left ++ (ks ++ right))) (left ++ (ks ++ right)) in
        let A : ℕ → List ℕ → Type 0 = λ y ks. IsAmong y (left ++ (ks ++ right)) in
        subst K (sym one)
        (linked-first new start (left ++ (n ∷ right))
        (linked-same old new start (left ++ (n ∷ right)) (λ y a. r.others y (subst (A y) (sym one) a) (λ none. absurd (let e : n ∷ [] ≡ [] = sym one ∙ none in cc))) h))

pub levels-linked : LevelsStayLinked
levels-linked c d old new l start left n right kept left_up p right_up kept_up s own up others set r h low =
    let L : List ℕ → Type 0 = λ t. AreLevelsLinked d new l t in (
      chains-linked old new start left_up p right_up kept_up r h,
      subst L (sym (names-left c d l left n right kept left_up p right_up kept_up s own up others set)) low,
    )
