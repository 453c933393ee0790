-- A change of a level and of what is below it that leaves the entries of the sequence set: all above it stands as it stood.
use Rattle.std.proofs.Common.{◌≡◌, ℕ, zero, suc, List, [], ◌∷◌, ◌++◌, refl, sym, ap, ◌∙◌, subst, arith}
use Rattle.hd_volume.specs.Entries.{Entry}
use Rattle.hd_index_blocks.specs.Levels.{IndexBlocks, across, named, AreBelow, AreBounds, IsIndexSet}
use Rattle.hd_index_blocks.specs.Ways.{IsNamed, IsWayDown}
use Rattle.hd_index_blocks.specs.Changes.{UpperStay, KeepsIndexSet}
use Rattle.hd_index_blocks.proofs.Levels.{AllStay, stay-across, stay-parts, stay-level, same-up, bounds-same, upper-stay}
use Rattle.hd_index_blocks.proofs.Descents.{names-of}

-- one level up
pub keeps-up : (c d : IndexBlocks) (l : ℕ) (ns : List ℕ) → AllStay c d (suc l) ns → IsIndexSet c (suc l) ns → KeepsIndexSet c d l (named (across c ns)) → KeepsIndexSet c d (suc l) ns
keeps-up c d l ns stay old k =
    let same : across d ns ≡ across c ns = stay-across c d (suc l) ns stay in
    let D : List Entry → Type 0 = λ t. AreBounds d l t in
    let N : List Entry → Type 0 = λ t. IsIndexSet d l (named t) in
    ((stay-level c d (suc l) ns stay old.0, subst D (sym same) (bounds-same c d l (across c ns) k.1 old.1), subst N (sym same) k.0), same-up c d l (suc l) ns stay k.1)

-- a block of a level that stays names what it named
pub named-stays : (c d : IndexBlocks) (i : ℕ) (left : List ℕ) (n : ℕ) (right left_up : List ℕ) (p : ℕ) (right_up : List ℕ) → AllStay c d i (left_up ++ (p ∷ right_up))
    → IsNamed c left n right left_up p right_up → IsNamed d left n right left_up p right_up
named-stays c d i left n right left_up p right_up stay s =
    let parts = stay-parts c d i left_up (p ∷ right_up) stay in
    record {
      front = s.front;
      entry = s.entry;
      back = s.back;
      is = parts.1.0.1 ∙ s.is;
      child = s.child;
      left_is = s.left_is ∙ ap (λ (t : List Entry). named (t ++ s.front)) (sym (stay-across c d i left_up parts.0));
      right_is = s.right_is ∙ ap (λ (t : List Entry). named (s.back ++ t)) (sym (stay-across c d i right_up parts.1.1));
    }

-- the way down to a block still is one, and the index set at the top too
pub way-stays : (c d : IndexBlocks) (h top : ℕ) (key : List ℕ) (steps l : ℕ) (left : List ℕ) (n : ℕ) (right : List ℕ) → IsWayDown c h top key steps l left n right → UpperStay c d l
    → KeepsIndexSet c d l (left ++ (n ∷ right)) → IsWayDown d h top key steps l left n right × KeepsIndexSet c d h (top ∷ [])
unfolding named-stays
way-stays c d h top key zero l left n right way upper k =
    let e0 = way.0 in let e1 = way.1 in let e2 = way.2 in let e3 = way.3 in
    let whole : left ++ (n ∷ right) ≡ top ∷ [] = rw (e1, e2, e3) refl in
    let K : List ℕ → Type 0 = λ ns. KeepsIndexSet c d l ns in
    let L : ℕ → Type 0 = λ i. KeepsIndexSet c d i (top ∷ []) in
    (way, subst L e0 (subst K whole k))
way-stays c d h top key (suc steps) l left n right way upper k =
    let left_up = way.0 in let p = way.1 in let right_up = way.2 in
    let s = way.3 in let below = way.4 in let own = way.5 in let old = way.6 in let rest = way.7 in
    let stay = upper-stay c d l (suc l) (left_up ++ (p ∷ right_up)) upper (omega arith) old.0 in
    let parts = stay-parts c d (suc l) left_up (p ∷ right_up) stay in
    let K : List ℕ → Type 0 = λ ns. KeepsIndexSet c d l ns in
    let up = keeps-up c d l (left_up ++ (p ∷ right_up)) stay old (subst K (sym (names-of c left n right left_up p right_up s)) k) in
    let more = way-stays c d h top key steps (suc l) left_up p right_up rest (λ x j is less. upper x j is (omega arith)) up in
    let A : List Entry → Type 0 = λ t. AreBelow key (t ++ s.front) in (
      (left_up, p, right_up, named-stays c d (suc l) left n right left_up p right_up stay s, subst A (sym (stay-across c d (suc l) left_up parts.0)) below, own, up.0, more.0),
      more.1,
    )
