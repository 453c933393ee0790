-- The way of a key down to a leaf, where keys of upper blocks change.
use Rattle.std.proofs.Common.{◌≡◌, inl, ℕ, zero, suc, ◌+◌, ◌==◌, ◌&&◌, Bool, true, false, List, ◌∷◌, ◌++◌, Some, refl, sym, ap, ◌∙◌, subst, arith}
use Rattle.hd_volume.specs.Rooms.{one_if}
use Rattle.hd_volume.specs.Entries.{Entry}
use Rattle.hd_volume.specs.Indexes.{key_less, is_below_first}
use Rattle.hd_index_blocks.specs.Levels.{IndexBlocks, across, AreBelow, IsIndexSet}
use Rattle.hd_index_blocks.specs.Ways.{child_of, leaf_of, IsAround, IsNamed, IsWayDown}
use Rattle.hd_index_blocks.specs.Changes.{LowerStay, OthersStay}
use Rattle.hd_index_blocks.specs.Needs.{is_full, full_blocks}
use Rattle.hd_index_blocks.proofs.Keys.{less-self}
use Rattle.hd_index_blocks.proofs.Levels.{same-below, same-parts, on-parts, stay-across, set-stays}
use Rattle.hd_index_blocks.proofs.Sets.{blocks-once}
use Rattle.hd_index_blocks.proofs.Entering.{beside}
use Rattle.hd_index_blocks.proofs.Downs.{of-level, among-right}

-- no key is below itself
pub not-self : (k : List ℕ) → key_less k k ≡ false
not-self k = by-test (key_less k k) refl
  where
    by-test : (b : Bool) → key_less k k ≡ b → b ≡ false
    by-test true h = absurd (less-self k h)
    by-test false h = refl

-- ---- the way

-- as many steps as there are levels above
pub way-steps : (c : IndexBlocks) (h top : ℕ) (key : List ℕ) (steps l : ℕ) (left : List ℕ) (n : ℕ) (right : List ℕ) → IsWayDown c h top key steps l left n right → steps + l ≡ h
way-steps c h top key zero l left n right way = (let e = way.0 in omega arith)
way-steps c h top key (suc steps) l left n right way =
    let up = way-steps c h top key steps (suc l) way.0 way.1 way.2 way.7 in
    omega arith

-- the top of a way is of some level
pub way-top : (c : IndexBlocks) (h top : ℕ) (key : List ℕ) (steps l : ℕ) (left : List ℕ) (n : ℕ) (right : List ℕ) → IsWayDown c h top key steps l left n right → IsIndexSet c l (left ++ (n ∷ right))
    → (level : ℕ) × (c.level top ≡ Some level)
way-top c h top key zero l left n right way set =
    let o = of-level c l n (left ++ (n ∷ right)) set (among-right n left (n ∷ right) (inl refl)) in
    (l, ap c.level (sym way.2) ∙ o.level)
way-top c h top key (suc steps) l left n right way set = way-top c h top key steps (suc l) way.0 way.1 way.2 way.7 way.6

-- what stands about a key still does where its level and those below it stay
pub around-kept : (c d : IndexBlocks) (key : List ℕ) (l : ℕ) (left : List ℕ) (n : ℕ) (right : List ℕ) → LowerStay c d (suc l) → IsAround c key l left n right → IsAround d key l left n right
around-kept c d key l left n right lower a =
    let k = set-stays c d (suc l) lower l (omega arith) (left ++ (n ∷ right)) a.set in
    let parts = same-parts c d l left (n ∷ right) k.1 in
    let B : List Entry → Type 0 = λ t. AreBelow key t in
    record {
      set = k.0;
      below = subst B (sym (same-below c d l left parts.0)) a.below;
      above = ap (is_below_first key) (same-below c d l right parts.1.1) ∙ a.above;
    }

-- an upper block of which one key is another names what it named
pub named-kept : (c d : IndexBlocks) (l : ℕ) (before : List ℕ) (n : ℕ) (behind left : List ℕ) (p : ℕ) (right : List ℕ) → IsIndexSet c (suc l) (left ++ (p ∷ right)) → OthersStay c d (suc l) p
    → (s : IsNamed c before n behind left p right) → (key : List ℕ) → d.entries p ≡ s.front ++ (record { key = key; address = s.entry.address } ∷ s.back)
    → (across d left ≡ across c left) × (across d right ≡ across c right)
named-kept c d l before n behind left p right set others s key is =
    let on = on-parts c (suc l) left (p ∷ right) set.0 in
    let once = blocks-once c (suc l) left p right set in
    (stay-across c d (suc l) left (beside c d (suc l) p left others on.0 once.0), stay-across c d (suc l) right (beside c d (suc l) p right others on.1.2 once.1))

-- ---- the leaf

-- the leaf is not full where no block is counted
pub leaf-open : (c : IndexBlocks) (room : ℕ) (key : List ℕ) (l n : ℕ) → full_blocks c room key l n ≡ 0 → is_full c room (leaf_of c key l n) ≡ false
leaf-open c room key zero n none = by-test (is_full c room n) none
  where
    by-test : (b : Bool) → one_if b ≡ 0 → b ≡ false
    by-test true e = absurd (omega arith)
    by-test false e = refl
leaf-open c room key (suc l) n none =
    let one : ℕ = one_if (full_blocks c room key l (child_of key (c.entries n)) == suc l && is_full c room n) in
    let low : full_blocks c room key l (child_of key (c.entries n)) ≡ 0 = omega arith in
    leaf-open c room key l (child_of key (c.entries n)) low
