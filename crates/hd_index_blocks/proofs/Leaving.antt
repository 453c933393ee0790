-- An entry of the sequence set goes, and with it each block that has no other entry: all above it still is an index set.
use Rattle.std.proofs.Common.{◌≡◌, ◌⊎◌, inl, inr, ℕ, zero, suc, true, List, [], ◌∷◌, ◌++◌, refl, sym, ap, ◌∙◌, subst}
use Rattle.std.proofs.lemmas.List.{append_assoc}
use Rattle.hd_volume.specs.Entries.{Entry}
use Rattle.hd_volume.specs.Indexes.{is_below_first, keys_ascend}
use Rattle.hd_index_blocks.specs.Maps.{without_key}
use Rattle.hd_index_blocks.specs.Levels.{IndexBlocks, across, named, entries_below, AreUpTo, AreBounds, AreOnLevel, IsIndexSet}
use Rattle.hd_index_blocks.specs.Ways.{IsNamed}
use Rattle.hd_index_blocks.specs.Changes.{OthersStay, StayBelow, IsLeft, entry_left, IsWayUp}
use Rattle.hd_index_blocks.proofs.Keys.{first-less, first-part, ascend-below, ascend-above, ascend-gone, without-between}
use Rattle.hd_index_blocks.proofs.Levels.{nil, AllStay, across-append, across-about, named-append, entries-append, on-parts, on-both, same-below, same-parts, stay-across, stay-same, stay-level, same-up, bounds-same}
use Rattle.hd_index_blocks.proofs.Sets.{set-ascends, blocks-once}
use Rattle.hd_index_blocks.proofs.Entering.{beside}

-- Of the entries below block n of a level one is gone; of the block this is left.
pub record IsThinned (c d : IndexBlocks) (gone : Entry) (l : ℕ) (left : List ℕ) (n : ℕ) (right kept : List ℕ) : Type 0 where
  pub left_same : StayBelow c d l left
  pub right_same : StayBelow c d l right
  pub front : List Entry
  pub back : List Entry
  pub was : entries_below c l (n ∷ []) ≡ front ++ (gone ∷ back)
  pub is : entries_below d l kept ≡ front ++ back
  pub above : is_below_first gone.key (back ++ entries_below c l right) ≡ true

-- the block itself is left, or nothing
abbrev pub IsKept : ℕ → List ℕ → Type 0
IsKept n kept = (kept ≡ []) ⊎ (kept ≡ n ∷ [])

kept-is : (d : IndexBlocks) (l n : ℕ) (es : List Entry) (kept : List ℕ) → IsLeft d l n es kept → IsKept n kept
kept-is d l n [] kept h = inl h
kept-is d l n (e ∷ es) kept h = inr h.0

kept-names : (e : Entry) (kept : List ℕ) → IsKept e.address kept → named (entry_left kept e) ≡ kept
kept-names e kept (inl h) = ap (λ (t : List ℕ). named (entry_left t e)) h ∙ sym h
kept-names e kept (inr h) = ap (λ (t : List ℕ). named (entry_left t e)) h ∙ sym h

-- the entries of what is left
kept-across : (d : IndexBlocks) (l n : ℕ) (es : List Entry) (kept : List ℕ) → IsLeft d l n es kept → across d kept ≡ es
kept-across d l n [] kept h = ap (across d) h
kept-across d l n (e ∷ es) kept h = ap (across d) h.0 ∙ nil (d.entries n) ∙ h.2

kept-level : (d : IndexBlocks) (l n : ℕ) (es : List Entry) (kept : List ℕ) → IsLeft d l n es kept → AreOnLevel d l kept
kept-level d l n [] kept h = let A : List ℕ → Type 0 = λ t. AreOnLevel d l t in subst A (sym h) tt
kept-level d l n (e ∷ es) kept h = let A : List ℕ → Type 0 = λ t. AreOnLevel d l t in let one : AreOnLevel d l (n ∷ []) = (h.1, (λ none. no (sym h.2 ∙ none)), tt) in subst A (sym h.0) one
  where
    no : e ∷ es ≡ [] → ⊥
    no h = cc

upto-gone : (k : List ℕ) (gone : Entry) (xs ys : List Entry) → AreUpTo k (xs ++ (gone ∷ ys)) → AreUpTo k (xs ++ ys)
upto-gone k gone [] ys h = h.1
upto-gone k gone (x ∷ xs) ys h = (h.0, upto-gone k gone xs ys h.1)

first-gone : (k : List ℕ) (gone : Entry) (xs ys : List Entry) → is_below_first gone.key ys ≡ true → is_below_first k (xs ++ (gone ∷ ys)) ≡ true → is_below_first k (xs ++ ys) ≡ true
first-gone k gone [] ys a h = first-less k gone.key ys h a
first-gone k gone (x ∷ xs) ys a h = h

module _ (c d : IndexBlocks) (gone : Entry) (l : ℕ) (e : Entry) (ys : List Entry) (kept : List ℕ) (front back : List Entry) (own : IsKept e.address kept)
    (was : entries_below c l (e.address ∷ []) ≡ front ++ (gone ∷ back)) (is : entries_below d l kept ≡ front ++ back) (rest : StayBelow c d l (named ys)) (above : is_below_first gone.key (back ++ entries_below c l (named ys)) ≡ true) where
  thin-below : (xs : List Entry) → StayBelow c d l (named xs)
      → (entries_below c l (named (xs ++ (e ∷ ys))) ≡ (entries_below c l (named xs) ++ front) ++ (gone ∷ (back ++ entries_below c l (named ys))))
      × (entries_below d l (named (xs ++ (entry_left kept e ++ ys))) ≡ (entries_below c l (named xs) ++ front) ++ (back ++ entries_below c l (named ys)))
  thin-below xs pre =
      let A : List Entry = entries_below c l (named xs) in
      let W : List Entry = entries_below c l (named ys) in
      let old : entries_below c l (named (xs ++ (e ∷ ys))) ≡ A ++ (entries_below c l (e.address ∷ []) ++ W) =
      ap (entries_below c l) (named-append xs (e ∷ ys)) ∙ entries-append c l (named xs) (e.address ∷ named ys) ∙ ap (λ (t : List Entry). A ++ t) (entries-append c l (e.address ∷ []) (named ys)) in
      let ee : List Entry = entry_left kept e in
      let next : entries_below d l (named (xs ++ (ee ++ ys))) ≡ entries_below d l (named xs) ++ (entries_below d l (named ee) ++ entries_below d l (named ys)) =
      ap (entries_below d l) (named-append xs (ee ++ ys)) ∙ entries-append d l (named xs) (named (ee ++ ys))
      ∙ ap (λ (t : List Entry). entries_below d l (named xs) ++ t) (ap (entries_below d l) (named-append ee ys) ∙ entries-append d l (named ee) (named ys)) in (
        old ∙ ap (λ (t : List Entry). A ++ (t ++ W)) was ∙ ap (λ (t : List Entry). A ++ t) (append_assoc front (gone ∷ back) W) ∙ sym (append_assoc A front (gone ∷ (back ++ W))),
        next ∙ ap (λ (t : List Entry). t ++ (entries_below d l (named ee) ++ entries_below d l (named ys))) (same-below c d l (named xs) pre)
            ∙ ap (λ (t : List Entry). A ++ (entries_below d l (named ee) ++ t)) (same-below c d l (named ys) rest)
            ∙ ap (λ (t : List Entry). A ++ (t ++ W)) (ap (entries_below d l) (kept-names e kept own) ∙ is)
            ∙ ap (λ (t : List Entry). A ++ t) (append_assoc front back W) ∙ sym (append_assoc A front (back ++ W)),
      )

  bounds-thin : (xs : List Entry) → StayBelow c d l (named xs) → AreBounds c l (xs ++ (e ∷ ys)) → AreBounds d l (xs ++ (entry_left kept e ++ ys))
  bounds-thin [] pre b = by-kept own
    where
      by-kept : IsKept e.address kept → AreBounds d l (entry_left kept e ++ ys)
      by-kept (inl h) = let D : List ℕ → Type 0 = λ t. AreBounds d l (entry_left t e ++ ys) in subst D (sym h) (bounds-same c d l ys rest b.2)
      by-kept (inr h) =
          let U : List Entry → Type 0 = λ t. AreUpTo e.key t in
          let F : List Entry → Type 0 = λ t. is_below_first e.key t ≡ true in
          let D : List ℕ → Type 0 = λ t. AreBounds d l (entry_left t e ++ ys) in
          let mine : entries_below d l (e.address ∷ []) ≡ front ++ back = ap (entries_below d l) (sym h) ∙ is in
          let whole : AreBounds d l (e ∷ ys) = (subst U (sym mine) (upto-gone e.key gone front back (subst U was b.0)), subst F (sym (same-below c d l (named ys) rest)) b.1, bounds-same c d l ys rest b.2) in
          subst D (sym h) whole
  bounds-thin (x ∷ xs) pre b =
      let U : List Entry → Type 0 = λ t. AreUpTo x.key t in
      let F : List Entry → Type 0 = λ t. is_below_first x.key t ≡ true in
      let both = thin-below xs pre.1 in (
        subst U (sym pre.0) b.0,
        subst F (sym both.1) (first-gone x.key gone (entries_below c l (named xs) ++ front) (back ++ entries_below c l (named ys)) above (subst F both.0 b.1)),
        bounds-thin xs pre.1 b.2,
      )

module _ (c d : IndexBlocks) (l : ℕ) (left : List ℕ) (n : ℕ) (right kept left_up : List ℕ) (p : ℕ) (right_up kept_up : List ℕ)
    (s : IsNamed c left n right left_up p right_up) (own : IsKept n kept) (up : IsLeft d (suc l) p (s.front ++ (entry_left kept s.entry ++ s.back)) kept_up) (others : OthersStay c d (suc l) p)
    (old : IsIndexSet c (suc l) (left_up ++ (p ∷ right_up))) where
  pub stays : AllStay c d (suc l) left_up × AllStay c d (suc l) right_up
  stays =
      let on = on-parts c (suc l) left_up (p ∷ right_up) old.0 in
      let once = blocks-once c (suc l) left_up p right_up old in
      (beside c d (suc l) p left_up others on.0 once.0, beside c d (suc l) p right_up others on.1.2 once.1)

  pub own-entry : IsKept s.entry.address kept
  own-entry = let K : ℕ → Type 0 = λ i. IsKept i kept in subst K (sym s.child) own

  pub row-left : across d (left_up ++ (kept_up ++ right_up)) ≡ (across c left_up ++ s.front) ++ (entry_left kept s.entry ++ (s.back ++ across c right_up))
  row-left =
      let es : List Entry = s.front ++ (entry_left kept s.entry ++ s.back) in
      across-append d left_up (kept_up ++ right_up) ∙ ap (λ (t : List Entry). t ++ across d (kept_up ++ right_up)) (stay-across c d (suc l) left_up stays.0)
      ∙ ap (λ (t : List Entry). across c left_up ++ t)
      (across-append d kept_up right_up ∙ ap (λ (t : List Entry). t ++ across d right_up) (kept-across d (suc l) p es kept_up up) ∙ ap (λ (t : List Entry). es ++ t) (stay-across c d (suc l) right_up stays.1)
      ∙ append_assoc s.front (entry_left kept s.entry ++ s.back) (across c right_up) ∙ ap (λ (t : List Entry). s.front ++ t) (append_assoc (entry_left kept s.entry) s.back (across c right_up)))
      ∙ sym (append_assoc (across c left_up) s.front (entry_left kept s.entry ++ (s.back ++ across c right_up)))

  -- what the blocks of the level above name now
  pub names-left : named (across d (left_up ++ (kept_up ++ right_up))) ≡ left ++ (kept ++ right)
  names-left =
      let X : List Entry = across c left_up ++ s.front in
      let Y : List Entry = s.back ++ across c right_up in
      ap named row-left ∙ named-append X (entry_left kept s.entry ++ Y)
      ∙ ap (λ (t : List ℕ). named X ++ t) (named-append (entry_left kept s.entry) Y ∙ ap (λ (t : List ℕ). t ++ named Y) (kept-names s.entry kept own-entry))
      ∙ ap (λ (t : List ℕ). t ++ (kept ++ named Y)) (sym s.left_is) ∙ ap (λ (t : List ℕ). left ++ (kept ++ t)) (sym s.right_is)

module _ (c d : IndexBlocks) (gone : Entry) (l : ℕ) (left : List ℕ) (n : ℕ) (right kept left_up : List ℕ) (p : ℕ) (right_up kept_up : List ℕ)
    (s : IsNamed c left n right left_up p right_up) (own : IsKept n kept) (up : IsLeft d (suc l) p (s.front ++ (entry_left kept s.entry ++ s.back)) kept_up) (others : OthersStay c d (suc l) p)
    (old : IsIndexSet c (suc l) (left_up ++ (p ∷ right_up))) (h : IsThinned c d gone l left n right kept) where
  beside-stays : AllStay c d (suc l) left_up × AllStay c d (suc l) right_up
  beside-stays = stays c d l left n right kept left_up p right_up kept_up s own up others old

  kept-entry : IsKept s.entry.address kept
  kept-entry = own-entry c d l left n right kept left_up p right_up kept_up s own up others old

  thin-set : IsIndexSet d l (left ++ (kept ++ right)) → IsIndexSet d (suc l) (left_up ++ (kept_up ++ right_up))
  thin-set set =
      let S : List ℕ → Type 0 = λ t. StayBelow c d l t in
      let W : ℕ → Type 0 = λ i. entries_below c l (i ∷ []) ≡ h.front ++ (gone ∷ h.back) in
      let P : List ℕ → Type 0 = λ t. is_below_first gone.key (h.back ++ entries_below c l t) ≡ true in
      let X : List Entry = across c left_up ++ s.front in
      let Y : List Entry = s.back ++ across c right_up in
      let row = across-about c left_up p right_up s.front (s.entry ∷ []) s.back s.is in
      let B : List Entry → Type 0 = λ t. AreBounds c l t in
      let D : List Entry → Type 0 = λ t. AreBounds d l t in
      let N : List ℕ → Type 0 = λ t. IsIndexSet d l t in
      let bounds =
      bounds-thin c d gone l s.entry Y kept h.front h.back kept-entry (subst W (sym s.child) h.was) h.is (subst S s.right_is h.right_same) (subst P s.right_is h.above) X (subst S s.left_is h.left_same) (subst B row old.1) in
      let on = on-parts c (suc l) left_up (p ∷ right_up) old.0 in (
        on-both d (suc l) left_up (kept_up ++ right_up) (stay-level c d (suc l) left_up beside-stays.0 on.0)
            (on-both d (suc l) kept_up right_up (kept-level d (suc l) p (s.front ++ (entry_left kept s.entry ++ s.back)) kept_up up) (stay-level c d (suc l) right_up beside-stays.1 on.1.2)),
        subst D (sym (row-left c d l left n right kept left_up p right_up kept_up s own up others old)) bounds,
        subst N (sym (names-left c d l left n right kept left_up p right_up kept_up s own up others old)) set,
      )

  thin-up : IsThinned c d gone (suc l) left_up p right_up kept_up
  thin-up =
      let S : List ℕ → Type 0 = λ t. StayBelow c d l t in
      let W : ℕ → Type 0 = λ i. entries_below c l (i ∷ []) ≡ h.front ++ (gone ∷ h.back) in
      let P : List ℕ → Type 0 = λ t. is_below_first gone.key (h.back ++ entries_below c l t) ≡ true in
      let pres = same-parts c d l (named (across c left_up)) (named s.front) (subst S (s.left_is ∙ named-append (across c left_up) s.front) h.left_same) in
      let posts = same-parts c d l (named s.back) (named (across c right_up)) (subst S (s.right_is ∙ named-append s.back (across c right_up)) h.right_same) in
      let F : List Entry = entries_below c l (named s.front) in
      let K : List Entry = entries_below c l (named s.back) in
      let Z : List Entry = entries_below c l (named (across c right_up)) in
      let high : is_below_first gone.key (h.back ++ (K ++ Z)) ≡ true =
      subst (λ (t : List Entry). is_below_first gone.key (h.back ++ t) ≡ true) (entries-append c l (named s.back) (named (across c right_up))) (subst P (s.right_is ∙ named-append s.back (across c right_up)) h.above) in
      let whole : is_below_first gone.key ((h.back ++ K) ++ Z) ≡ true = subst (λ (t : List Entry). is_below_first gone.key t ≡ true) (sym (append_assoc h.back K Z)) high in
      let first : is_below_first gone.key (h.back ++ K) ≡ true = first-part gone.key (h.back ++ K) Z whole in
      let both = thin-below c d gone l s.entry s.back kept h.front h.back kept-entry (subst W (sym s.child) h.was) h.is posts.0 first s.front pres.1 in
      record {
        left_same = same-up c d l (suc l) left_up beside-stays.0 pres.0;
        right_same = same-up c d l (suc l) right_up beside-stays.1 posts.1;
        front = F ++ h.front;
        back = h.back ++ K;
        was = ap (λ (t : List Entry). entries_below c l (named t)) (nil (c.entries p) ∙ s.is) ∙ both.0;
        is = ap (λ (t : List Entry). entries_below d l (named t)) (kept-across d (suc l) p (s.front ++ (entry_left kept s.entry ++ s.back)) kept_up up) ∙ both.1;
        above = whole;
      }

-- up to the top
leave-up : (c d : IndexBlocks) (gone : Entry) (h top : ℕ) (kept_top : List ℕ) → IsIndexSet c h (top ∷ []) → (steps l : ℕ) (left : List ℕ) (n : ℕ) (right kept : List ℕ)
    → IsWayUp c d h top steps l left n right kept kept_top → IsKept n kept → IsThinned c d gone l left n right kept → IsIndexSet d l (left ++ (kept ++ right))
    → IsIndexSet d h kept_top × (entries_below d h kept_top ≡ without_key gone.key (entries_below c h (top ∷ [])))
leave-up c d gone h top kept_top all zero l left n right kept way own thin set =
    let e0 = way.0 in let e1 = way.1 in let e2 = way.2 in let e3 = way.3 in
    let end : left ++ (kept ++ right) ≡ kept_top = rw (e1, e3) (no-more kept ∙ sym way.4) in
    let T : List ℕ → Type 0 = λ t. IsIndexSet d l t in
    let L : ℕ → Type 0 = λ i. IsIndexSet d i kept_top in
    let A : List Entry → Type 0 = λ t. keys_ascend t ≡ true in
    let top_was : entries_below c h (top ∷ []) ≡ thin.front ++ (gone ∷ thin.back) = ap (λ (i : ℕ). entries_below c i (top ∷ [])) (sym e0) ∙ ap (λ (i : ℕ). entries_below c l (i ∷ [])) (sym e2) ∙ thin.was in
    let low = ascend-below thin.front gone thin.back (subst A top_was (set-ascends c h (top ∷ []) all)) in
    let top_is : entries_below d h kept_top ≡ thin.front ++ thin.back = ap (λ (i : ℕ). entries_below d i kept_top) (sym e0) ∙ ap (entries_below d l) way.4 ∙ thin.is in
    (subst L e0 (subst T end set), top_is ∙ sym (without-between gone thin.front thin.back low) ∙ ap (without_key gone.key) (sym top_was))
  where
    no-more : (x : List ℕ) → x ++ [] ≡ x
    no-more [] = refl
    no-more (x ∷ xs) = ap (λ (t : List ℕ). x ∷ t) (no-more xs)
leave-up c d gone h top kept_top all (suc steps) l left n right kept way own thin set =
    let left_up = way.0 in let p = way.1 in let right_up = way.2 in let kept_up = way.3 in
    let s = way.4 in let up = way.5 in let others = way.6 in let old = way.7 in let rest = way.8 in
    leave-up c d gone h top kept_top all steps (suc l) left_up p right_up kept_up rest (kept-is d (suc l) p (s.front ++ (entry_left kept s.entry ++ s.back)) kept_up up)
    (thin-up c d gone l left n right kept left_up p right_up kept_up s own up others old thin) (thin-set c d gone l left n right kept left_up p right_up kept_up s own up others old thin set)

-- an entry that goes, at the end of its way down
pub left_out : (c d : IndexBlocks) (h top : ℕ) (gone : Entry) (left : List ℕ) (n : ℕ) (right kept kept_top : List ℕ) (front back : List Entry) → IsIndexSet c h (top ∷ []) → IsIndexSet c 0 (left ++ (n ∷ right))
    → c.entries n ≡ front ++ (gone ∷ back) → IsLeft d 0 n (front ++ back) kept → OthersStay c d 0 n → IsWayUp c d h top h 0 left n right kept kept_top
    → IsIndexSet d h kept_top × (entries_below d h kept_top ≡ without_key gone.key (entries_below c h (top ∷ [])))
left_out c d h top gone left n right kept kept_top front back all set was is others way =
    let on = on-parts c 0 left (n ∷ right) set.0 in
    let once = blocks-once c 0 left n right set in
    let stay_left = beside c d 0 n left others on.0 once.0 in
    let stay_right = beside c d 0 n right others on.1.2 once.1 in
    let A : List Entry → Type 0 = λ t. keys_ascend t ≡ true in
    let row : across c (left ++ (n ∷ right)) ≡ (across c left ++ front) ++ (gone ∷ (back ++ across c right)) = across-about c left n right front (gone ∷ []) back was in
    let row2 : across d (left ++ (kept ++ right)) ≡ (across c left ++ front) ++ (back ++ across c right) =
    across-append d left (kept ++ right) ∙ ap (λ (t : List Entry). t ++ across d (kept ++ right)) (stay-across c d 0 left stay_left)
    ∙ ap (λ (t : List Entry). across c left ++ t)
    (across-append d kept right ∙ ap (λ (t : List Entry). t ++ across d right) (kept-across d 0 n (front ++ back) kept is) ∙ ap (λ (t : List Entry). (front ++ back) ++ t) (stay-across c d 0 right stay_right) ∙ append_assoc front back (across c right))
    ∙ sym (append_assoc (across c left) front (back ++ across c right)) in
    let ascend = subst A row set.1 in
    let thin : IsThinned c d gone 0 left n right kept = record {
      left_same = stay-same c d left stay_left;
      right_same = stay-same c d right stay_right;
      front = front;
      back = back;
      was = nil (c.entries n) ∙ was;
      is = kept-across d 0 n (front ++ back) kept is;
      above = ascend-above (across c left ++ front) gone (back ++ across c right) ascend;
    } in
    leave-up c d gone h top kept_top all h 0 left n right kept way (kept-is d 0 n (front ++ back) kept is) thin (
      on-both d 0 left (kept ++ right) (stay-level c d 0 left stay_left on.0) (on-both d 0 kept right (kept-level d 0 n (front ++ back) kept is) (stay-level c d 0 right stay_right on.1.2)),
      subst A (sym row2) (ascend-gone gone (across c left ++ front) (back ++ across c right) ascend),
    )
