-- Another key for an upper entry, still between the keys of the sequence set below it and those behind: the index set still is one.
use Rattle.std.proofs.Common.{◌≡◌, ℕ, suc, true, List, [], ◌∷◌, ◌++◌, sym, ap, ◌∙◌, subst, arith, Some}
use Rattle.hd_volume.specs.Entries.{Entry}
use Rattle.hd_volume.specs.Indexes.{is_below_first}
use Rattle.hd_index_blocks.specs.Levels.{IndexBlocks, across, named, entries_below, AreUpTo, AreBounds, IsIndexSet}
use Rattle.hd_index_blocks.specs.Changes.{OthersStay, LowerStay, StayBelow, KeepsIndexSet}
use Rattle.hd_index_blocks.proofs.Levels.{nil, across-about, named-append, on-parts, on-both, same-below, same-both, same-parts, stay-across, stay-level, same-up, bounds-same, set-stays}
use Rattle.hd_index_blocks.proofs.Sets.{blocks-once}
use Rattle.hd_index_blocks.proofs.Entering.{beside}

bounds-raised : (c : IndexBlocks) (l : ℕ) (key : List ℕ) (e : Entry) (ys : List Entry) → AreUpTo key (entries_below c l (e.address ∷ [])) → is_below_first key (entries_below c l (named ys)) ≡ true
    → (xs : List Entry) → AreBounds c l (xs ++ (e ∷ ys)) → AreBounds c l (xs ++ (record { key = key; address = e.address } ∷ ys))
bounds-raised c l key e ys up first [] b = (up, first, b.2)
bounds-raised c l key e ys up first (x ∷ xs) b =
    let F : List ℕ → Type 0 = λ t. is_below_first x.key (entries_below c l t) ≡ true in
    let names : named (xs ++ (e ∷ ys)) ≡ named (xs ++ (record { key = key; address = e.address } ∷ ys)) =
    named-append xs (e ∷ ys) ∙ sym (named-append xs (record { key = key; address = e.address } ∷ ys)) in
    (b.0, subst F names b.1, bounds-raised c l key e ys up first xs b.2)

pub raised : (c d : IndexBlocks) (l : ℕ) (left : List ℕ) (p : ℕ) (right : List ℕ) (front : List Entry) (e : Entry) (back : List Entry) (key : List ℕ) → c.entries p ≡ front ++ (e ∷ back)
    → (d.level p ≡ Some (suc l)) × (d.entries p ≡ front ++ (record { key = key; address = e.address } ∷ back)) → OthersStay c d (suc l) p → LowerStay c d (suc l)
    → AreUpTo key (entries_below c l (e.address ∷ [])) → is_below_first key (entries_below c l (named (back ++ across c right))) ≡ true
    → IsIndexSet c (suc l) (left ++ (p ∷ right)) → KeepsIndexSet c d (suc l) (left ++ (p ∷ right))
raised c d l left p right front e back key was is others lower up first old =
    let X : List Entry = across c left ++ front in
    let Y : List Entry = back ++ across c right in
    let new : Entry = record { key = key; address = e.address } in
    let once = blocks-once c (suc l) left p right old in
    let on = on-parts c (suc l) left (p ∷ right) old.0 in
    let stay_left = beside c d (suc l) p left others on.0 once.0 in
    let stay_right = beside c d (suc l) p right others on.1.2 once.1 in
    let row = across-about c left p right front (e ∷ []) back was in
    let row2 : across d (left ++ (p ∷ right)) ≡ X ++ (new ∷ Y) =
    across-about d left p right front (new ∷ []) back is.1
    ∙ ap (λ (t : List Entry). (t ++ front) ++ (new ∷ (back ++ across d right))) (stay-across c d (suc l) left stay_left)
    ∙ ap (λ (t : List Entry). X ++ (new ∷ (back ++ t))) (stay-across c d (suc l) right stay_right) in
    let names : named (X ++ (new ∷ Y)) ≡ named (X ++ (e ∷ Y)) = named-append X (new ∷ Y) ∙ sym (named-append X (e ∷ Y)) in
    let low = set-stays c d (suc l) lower l (omega arith) (named (across c (left ++ (p ∷ right)))) old.2 in
    let B : List Entry → Type 0 = λ t. AreBounds c l t in
    let D : List Entry → Type 0 = λ t. AreBounds d l t in
    let N : List ℕ → Type 0 = λ t. IsIndexSet d l t in
    let S : List ℕ → Type 0 = λ t. StayBelow c d l t in
    let bounds = bounds-raised c l key e Y up first X (subst B row old.1) in
    let same2 : StayBelow c d l (named (X ++ (new ∷ Y))) = subst S (ap named row ∙ sym names) low.1 in
    let parts = same-parts c d l (named X) (e.address ∷ named Y) (subst S (named-append X (new ∷ Y)) same2) in
    let pres = same-parts c d l (named (across c left)) (named front) (subst S (named-append (across c left) front) parts.0) in
    let posts = same-parts c d l (named back) (named (across c right)) (subst S (named-append back (across c right)) parts.1.1) in
    let mine : StayBelow c d l (named (c.entries p ++ [])) =
    subst S (sym (ap named (nil (c.entries p) ∙ was) ∙ named-append front (e ∷ back))) (same-both c d l (named front) (e.address ∷ named back) pres.1 (parts.1.0, posts.0)) in
    let names2 : named (d.entries p ++ []) ≡ named (c.entries p ++ []) =
    ap named (nil (d.entries p) ∙ is.1) ∙ named-append front (new ∷ back) ∙ sym (named-append front (e ∷ back)) ∙ sym (ap named (nil (c.entries p) ∙ was)) in (
      (
        on-both d (suc l) left (p ∷ right) (stay-level c d (suc l) left stay_left on.0) (is.0, (λ none. some front (sym is.1 ∙ none)), stay-level c d (suc l) right stay_right on.1.2),
        subst D (sym row2) (bounds-same c d l (X ++ (new ∷ Y)) same2 bounds),
        subst N (sym (ap named row2 ∙ names ∙ sym (ap named row))) low.0,
      ),
      same-both c d (suc l) left (p ∷ right) (same-up c d l (suc l) left stay_left pres.0)
          (ap (entries_below d l) names2 ∙ same-below c d l (named (c.entries p ++ [])) mine, same-up c d l (suc l) right stay_right posts.1),
    )
  where
    some : (fs : List Entry) → fs ++ (record { key = key; address = e.address } ∷ back) ≡ [] → ⊥
    some [] e = cc
    some (x ∷ fs) e = cc
