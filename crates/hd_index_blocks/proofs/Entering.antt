-- A new entry in the sequence set: all above it still is an index set.
use Rattle.std.proofs.Common.{◌≡◌, inl, inr, ℕ, zero, suc, true, false, List, [], ◌∷◌, ◌++◌, refl, sym, ap, ◌∙◌, subst, arith, Some, None}
use Rattle.std.proofs.lemmas.List.{append_assoc}
use Rattle.hd_volume.specs.Entries.{Entry}
use Rattle.hd_volume.specs.Indexes.{key_less, is_below_first, keys_ascend, IsAmong}
use Rattle.hd_index_blocks.specs.Maps.{address_of, with_entry}
use Rattle.hd_index_blocks.specs.Levels.{IndexBlocks, across, named, entries_below, AreUpTo, AreBelow, AreBounds, AreOnLevel, IsIndexSet}
use Rattle.hd_index_blocks.specs.Ways.{IsNamed, IsAround, IsWayDown}
use Rattle.hd_index_blocks.specs.Changes.{OthersStay, UpperStay, StayBelow}
use Rattle.hd_index_blocks.proofs.Keys.{below-append, ascend-new, with-between, parted}
use Rattle.hd_index_blocks.proofs.Levels.{nil, AllStay, across-about, named-append, entries-append, entries-none, on-parts, on-both, same-below, same-parts, stay-across, stay-parts, stay-same, stay-level, same-up, bounds-same, upper-stay}
use Rattle.hd_index_blocks.proofs.Sets.{blocks-once}
use Rattle.hd_index_blocks.proofs.Descents.{names-of, way-around}

-- The new entry has come into the entries below block n of a level, and nowhere else below the level.
pub record IsEntered (c d : IndexBlocks) (new : Entry) (l : ℕ) (left : List ℕ) (n : ℕ) (right : List ℕ) : Type 0 where
  pub left_same : StayBelow c d l left
  pub right_same : StayBelow c d l right
  pub front : List Entry
  pub back : List Entry
  pub was : entries_below c l (n ∷ []) ≡ front ++ back
  pub is : entries_below d l (n ∷ []) ≡ front ++ (new ∷ back)
  pub below : AreBelow new.key (entries_below c l left ++ front)
  pub above : is_below_first new.key (back ++ entries_below c l right) ≡ true

upto-with : (k : List ℕ) (new : Entry) (xs ys : List Entry) → key_less k new.key ≡ false → AreUpTo k (xs ++ ys) → AreUpTo k (xs ++ (new ∷ ys))
upto-with k new [] ys own h = (own, h)
upto-with k new (x ∷ xs) ys own h = (h.0, upto-with k new xs ys own h.1)

first-new : (k : List ℕ) (new : Entry) (xs ys : List Entry) → key_less k new.key ≡ true → is_below_first k (xs ++ ys) ≡ true → is_below_first k (xs ++ (new ∷ ys)) ≡ true
first-new k new [] ys less h = less
first-new k new (x ∷ xs) ys less h = h

module _ (c d : IndexBlocks) (new : Entry) (l : ℕ) (e : Entry) (ys : List Entry) (front back : List Entry)
    (was : entries_below c l (e.address ∷ []) ≡ front ++ back) (is : entries_below d l (e.address ∷ []) ≡ front ++ (new ∷ back)) (post : StayBelow c d l (named ys)) (own : key_less e.key new.key ≡ false) where
  -- what stands below some entries up to the one below which the new one comes, and the rest
  entered-below : (xs : List Entry) → StayBelow c d l (named xs)
      → (entries_below c l (named (xs ++ (e ∷ ys))) ≡ (entries_below c l (named xs) ++ front) ++ (back ++ entries_below c l (named ys)))
      × (entries_below d l (named (xs ++ (e ∷ ys))) ≡ (entries_below c l (named xs) ++ front) ++ (new ∷ (back ++ entries_below c l (named ys))))
  entered-below xs pre =
      let A : List Entry = entries_below c l (named xs) in
      let W : List Entry = entries_below c l (named ys) in
      let old : entries_below c l (named (xs ++ (e ∷ ys))) ≡ A ++ (entries_below c l (e.address ∷ []) ++ W) =
      ap (entries_below c l) (named-append xs (e ∷ ys)) ∙ entries-append c l (named xs) (e.address ∷ named ys) ∙ ap (λ (t : List Entry). A ++ t) (entries-append c l (e.address ∷ []) (named ys)) in
      let next : entries_below d l (named (xs ++ (e ∷ ys))) ≡ entries_below d l (named xs) ++ (entries_below d l (e.address ∷ []) ++ entries_below d l (named ys)) =
      ap (entries_below d l) (named-append xs (e ∷ ys)) ∙ entries-append d l (named xs) (e.address ∷ named ys)
      ∙ ap (λ (t : List Entry). entries_below d l (named xs) ++ t) (entries-append d l (e.address ∷ []) (named ys)) in
      let one : (front ++ back) ++ W ≡ front ++ (back ++ W) = append_assoc front back W in
      let two : (front ++ (new ∷ back)) ++ W ≡ front ++ (new ∷ (back ++ W)) = append_assoc front (new ∷ back) W in (
        old ∙ ap (λ (t : List Entry). A ++ (t ++ W)) was ∙ ap (λ (t : List Entry). A ++ t) one ∙ sym (append_assoc A front (back ++ W)),
        next ∙ ap (λ (t : List Entry). t ++ (entries_below d l (e.address ∷ []) ++ entries_below d l (named ys))) (same-below c d l (named xs) pre)
            ∙ ap (λ (t : List Entry). A ++ (entries_below d l (e.address ∷ []) ++ t)) (same-below c d l (named ys) post)
            ∙ ap (λ (t : List Entry). A ++ (t ++ W)) is ∙ ap (λ (t : List Entry). A ++ t) two ∙ sym (append_assoc A front (new ∷ (back ++ W))),
      )

  -- the bounds still stand
  bounds-entered : (xs : List Entry) → StayBelow c d l (named xs) → AreBelow new.key xs → AreBounds c l (xs ++ (e ∷ ys)) → AreBounds d l (xs ++ (e ∷ ys))
  bounds-entered [] pre less b =
      let U : List Entry → Type 0 = λ t. AreUpTo e.key t in
      let F : List Entry → Type 0 = λ t. is_below_first e.key t ≡ true in (
        subst U (sym is) (upto-with e.key new front back own (subst U was b.0)),
        subst F (sym (same-below c d l (named ys) post)) b.1,
        bounds-same c d l ys post b.2,
      )
  bounds-entered (x ∷ xs) pre less b =
      let U : List Entry → Type 0 = λ t. AreUpTo x.key t in
      let F : List Entry → Type 0 = λ t. is_below_first x.key t ≡ true in
      let both = entered-below xs pre.1 in (
        subst U (sym pre.0) b.0,
        subst F (sym both.1) (first-new x.key new (entries_below c l (named xs) ++ front) (back ++ entries_below c l (named ys)) less.0 (subst F both.0 b.1)),
        bounds-entered xs pre.1 less.1 b.2,
      )

module _ (c d : IndexBlocks) (new : Entry) (l : ℕ) (left : List ℕ) (n : ℕ) (right left_up : List ℕ) (p : ℕ) (right_up : List ℕ)
    (s : IsNamed c left n right left_up p right_up) (stay : AllStay c d (suc l) (left_up ++ (p ∷ right_up))) (h : IsEntered c d new l left n right) (own : key_less s.entry.key new.key ≡ false) where
  -- one level up
  step-entered : IsEntered c d new (suc l) left_up p right_up
  step-entered =
      let ks = stay-parts c d (suc l) left_up (p ∷ right_up) stay in
      let S : List ℕ → Type 0 = λ t. StayBelow c d l t in
      let B : List ℕ → Type 0 = λ t. AreBelow new.key (entries_below c l t ++ h.front) in
      let P : List ℕ → Type 0 = λ t. is_below_first new.key (h.back ++ entries_below c l t) ≡ true in
      let pres = same-parts c d l (named (across c left_up)) (named s.front) (subst S (s.left_is ∙ named-append (across c left_up) s.front) h.left_same) in
      let posts = same-parts c d l (named s.back) (named (across c right_up)) (subst S (s.right_is ∙ named-append s.back (across c right_up)) h.right_same) in
      let W : ℕ → Type 0 = λ i. entries_below c l (i ∷ []) ≡ h.front ++ h.back in
      let I : ℕ → Type 0 = λ i. entries_below d l (i ∷ []) ≡ h.front ++ (new ∷ h.back) in
      let eu = entered-below c d new l s.entry s.back h.front h.back (subst W (sym s.child) h.was) (subst I (sym s.child) h.is) posts.0 own s.front pres.1 in
      let F : List Entry = entries_below c l (named s.front) in
      let K : List Entry = entries_below c l (named s.back) in
      let low : AreBelow new.key ((entries_below c l (named (across c left_up)) ++ F) ++ h.front) =
      subst (λ (t : List Entry). AreBelow new.key (t ++ h.front)) (entries-append c l (named (across c left_up)) (named s.front)) (subst B (s.left_is ∙ named-append (across c left_up) s.front) h.below) in
      let high : is_below_first new.key (h.back ++ (K ++ entries_below c l (named (across c right_up)))) ≡ true =
      subst (λ (t : List Entry). is_below_first new.key (h.back ++ t) ≡ true) (entries-append c l (named s.back) (named (across c right_up))) (subst P (s.right_is ∙ named-append s.back (across c right_up)) h.above) in
      record {
        left_same = same-up c d l (suc l) left_up ks.0 pres.0;
        right_same = same-up c d l (suc l) right_up ks.1.1 posts.1;
        front = F ++ h.front;
        back = h.back ++ K;
        was = ap (λ (t : List Entry). entries_below c l (named t)) (nil (c.entries p) ∙ s.is) ∙ eu.0;
        is = ap (λ (t : List Entry). entries_below d l (named t)) (nil (d.entries p) ∙ ks.1.0.1 ∙ s.is) ∙ eu.1;
        below = subst (λ (t : List Entry). AreBelow new.key t) (append_assoc (entries_below c l (named (across c left_up))) F h.front) low;
        above = subst (λ (t : List Entry). is_below_first new.key t ≡ true) (sym (append_assoc h.back K (entries_below c l (named (across c right_up))))) high;
      }

  -- the level above still is one of an index set
  step-set : AreBelow new.key (across c left_up ++ s.front) → IsIndexSet c (suc l) (left_up ++ (p ∷ right_up)) → IsIndexSet d l (left ++ (n ∷ right)) → IsIndexSet d (suc l) (left_up ++ (p ∷ right_up))
  step-set below old set =
      let S : List ℕ → Type 0 = λ t. StayBelow c d l t in
      let W : ℕ → Type 0 = λ i. entries_below c l (i ∷ []) ≡ h.front ++ h.back in
      let I : ℕ → Type 0 = λ i. entries_below d l (i ∷ []) ≡ h.front ++ (new ∷ h.back) in
      let row = across-about c left_up p right_up s.front (s.entry ∷ []) s.back s.is in
      let same : across d (left_up ++ (p ∷ right_up)) ≡ across c (left_up ++ (p ∷ right_up)) = stay-across c d (suc l) (left_up ++ (p ∷ right_up)) stay in
      let names = names-of c left n right left_up p right_up s in
      let B : List Entry → Type 0 = λ t. AreBounds c l t in
      let D : List Entry → Type 0 = λ t. AreBounds d l t in
      let N : List ℕ → Type 0 = λ t. IsIndexSet d l t in
      let bounds =
      bounds-entered c d new l s.entry (s.back ++ across c right_up) h.front h.back (subst W (sym s.child) h.was) (subst I (sym s.child) h.is) (subst S s.right_is h.right_same) own
      (across c left_up ++ s.front) (subst S s.left_is h.left_same) below (subst B row old.1) in
      (stay-level c d (suc l) (left_up ++ (p ∷ right_up)) stay old.0, subst D (sym (same ∙ row)) bounds, subst N (sym (ap named same ∙ names)) set)

-- up to the top
enter-up : (c d : IndexBlocks) (new : Entry) (h top : ℕ) → UpperStay c d 0 → (steps l : ℕ) (left : List ℕ) (n : ℕ) (right : List ℕ)
    → IsWayDown c h top new.key steps l left n right → IsEntered c d new l left n right → IsIndexSet d l (left ++ (n ∷ right))
    → IsIndexSet d h (top ∷ []) × (entries_below d h (top ∷ []) ≡ with_entry new (entries_below c h (top ∷ [])))
enter-up c d new h top upper zero l left n right way ent set =
    let e0 = way.0 in let e1 = way.1 in let e2 = way.2 in let e3 = way.3 in
    let whole : left ++ (n ∷ right) ≡ top ∷ [] = rw (e1, e2, e3) refl in
    let T : List ℕ → Type 0 = λ t. IsIndexSet d l t in
    let L : ℕ → Type 0 = λ i. IsIndexSet d i (top ∷ []) in
    let X : ℕ → Type 0 = λ i. entries_below d i (top ∷ []) ≡ with_entry new (entries_below c i (top ∷ [])) in
    let low : AreBelow new.key ent.front = subst (λ (t : List Entry). AreBelow new.key (t ++ ent.front)) (ap (entries_below c l) e1 ∙ entries-none c l) ent.below in
    let high : is_below_first new.key ent.back ≡ true =
    subst (λ (t : List Entry). is_below_first new.key t ≡ true)
    (ap (λ (t : List ℕ). ent.back ++ entries_below c l t) e3 ∙ ap (λ (t : List Entry). ent.back ++ t) (entries-none c l) ∙ nil ent.back) ent.above in
    let one : entries_below d l (top ∷ []) ≡ with_entry new (entries_below c l (top ∷ [])) =
    ap (λ (i : ℕ). entries_below d l (i ∷ [])) (sym e2) ∙ ent.is ∙ sym (with-between new ent.front ent.back low high) ∙ ap (with_entry new) (sym ent.was)
    ∙ ap (λ (i : ℕ). with_entry new (entries_below c l (i ∷ []))) e2 in
    (subst L e0 (subst T whole set), subst X e0 one)
enter-up c d new h top upper (suc steps) l left n right way ent set =
    let left_up = way.0 in let p = way.1 in let right_up = way.2 in
    let s = way.3 in let below = way.4 in let own = way.5 in let old = way.6 in let rest = way.7 in
    let stay = upper-stay c d 0 (suc l) (left_up ++ (p ∷ right_up)) upper (omega arith) old.0 in
    enter-up c d new h top upper steps (suc l) left_up p right_up rest (step-entered c d new l left n right left_up p right_up s stay ent own)
    (step-set c d new l left n right left_up p right_up s stay ent own below old set)

-- the blocks beside one stay
pub beside : (c d : IndexBlocks) (l n : ℕ) (ns : List ℕ) → OthersStay c d l n → AreOnLevel c l ns → (IsAmong n ns → ⊥) → AllStay c d l ns
beside c d l n [] others at away = tt
beside c d l n (m ∷ ns) others at away = (others m at.0 (λ e. away (inl (sym e))), beside c d l n ns others at.2 (λ a. away (inr a)))

-- the sequence set with the new entry
leaf-entered : (c d : IndexBlocks) (new : Entry) (left : List ℕ) (n : ℕ) (right : List ℕ) → IsAround c new.key 0 left n right → address_of new.key (c.entries n) ≡ None
    → (d.level n ≡ Some 0) × (d.entries n ≡ with_entry new (c.entries n)) → OthersStay c d 0 n
    → IsEntered c d new 0 left n right × IsIndexSet d 0 (left ++ (n ∷ right))
leaf-entered c d new left n right a none is others =
    let p = parted new (c.entries n) none in
    let on = on-parts c 0 left (n ∷ right) a.set.0 in
    let once = blocks-once c 0 left n right a.set in
    let stay_left = beside c d 0 n left others on.0 once.0 in
    let stay_right = beside c d 0 n right others on.1.2 once.1 in
    let A : List Entry → Type 0 = λ t. keys_ascend t ≡ true in
    let now : d.entries n ≡ p.low ++ (new ∷ p.high) = is.1 ∙ p.is in
    let row = across-about c left n right p.low [] p.high p.was in
    let row2 : across d (left ++ (n ∷ right)) ≡ (across c left ++ p.low) ++ (new ∷ (p.high ++ across c right)) =
    across-about d left n right p.low (new ∷ []) p.high now
    ∙ ap (λ (t : List Entry). (t ++ p.low) ++ (new ∷ (p.high ++ across d right))) (stay-across c d 0 left stay_left)
    ∙ ap (λ (t : List Entry). (across c left ++ p.low) ++ (new ∷ (p.high ++ t))) (stay-across c d 0 right stay_right) in
    let less : AreBelow new.key (across c left ++ p.low) = below-append new.key (across c left) p.low a.below p.below in
    let first : is_below_first new.key (p.high ++ across c right) ≡ true = by-high p.high p.above in (
      record {
        left_same = stay-same c d left stay_left;
        right_same = stay-same c d right stay_right;
        front = p.low;
        back = p.high;
        was = nil (c.entries n) ∙ p.was;
        is = nil (d.entries n) ∙ now;
        below = less;
        above = first;
      },
      (
        on-both d 0 left (n ∷ right) (stay-level c d 0 left stay_left on.0) (is.0, (λ e. some p.low p.high (sym now ∙ e)), stay-level c d 0 right stay_right on.1.2),
        subst A (sym row2) (ascend-new new (across c left ++ p.low) (p.high ++ across c right) (subst A row a.set.1) less first),
      ),
    )
  where
    some : (fs gs : List Entry) → fs ++ (new ∷ gs) ≡ [] → ⊥
    some [] gs e = cc
    some (x ∷ fs) gs e = cc

    by-high : (hs : List Entry) → is_below_first new.key hs ≡ true → is_below_first new.key (hs ++ across c right) ≡ true
    by-high [] h = a.above
    by-high (x ∷ hs) h = h

-- a new entry at the end of its way down
pub entered : (c d : IndexBlocks) (h top : ℕ) (new : Entry) (left : List ℕ) (n : ℕ) (right : List ℕ) → IsIndexSet c 0 (left ++ (n ∷ right)) → IsWayDown c h top new.key h 0 left n right
    → address_of new.key (c.entries n) ≡ None → (d.level n ≡ Some 0) × (d.entries n ≡ with_entry new (c.entries n)) → OthersStay c d 0 n → UpperStay c d 0
    → IsIndexSet d h (top ∷ []) × (entries_below d h (top ∷ []) ≡ with_entry new (entries_below c h (top ∷ [])))
entered c d h top new left n right set way none is others upper =
    let e = leaf-entered c d new left n right (way-around c h top new.key h 0 left n right way set) none is others in
    enter-up c d new h top upper h 0 left n right way e.0 e.1
