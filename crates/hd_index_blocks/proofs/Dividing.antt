-- A block is divided under a parent that has room: the index set still is one, with the same entries of the sequence set. A new top.
use Rattle.std.proofs.Common.{◌≡◌, ◌≢◌, ℕ, zero, suc, true, List, [], ◌∷◌, ◌++◌, refl, sym, ap, ◌∙◌, subst, arith, Some}
use Rattle.std.proofs.lemmas.List.{append_assoc}
use Rattle.hd_volume.specs.Entries.{Entry}
use Rattle.hd_volume.specs.Indexes.{is_below_first, keys_ascend}
use Rattle.hd_index_blocks.specs.Levels.{IndexBlocks, across, named, entries_below, AreUpTo, AreBounds, AreOnLevel, IsIndexSet}
use Rattle.hd_index_blocks.specs.Changes.{LowerStay, StayBelow, KeepsIndexSet, IsDivided}
use Rattle.hd_index_blocks.proofs.Keys.{below-upto, upto-append, upto-parts, ascend-parts, ascend-below, ascend-above}
use Rattle.hd_index_blocks.proofs.Levels.{nil, AllStay, across-append, across-about, named-append, entries-append, entries-none, on-parts, on-both, set-level, bounds-behind, same-below, same-both, same-parts, stay-across, stay-same, stay-level, same-up, bounds-same, set-stays}
use Rattle.hd_index_blocks.proofs.Sets.{set-behind, level-ascends, blocks-once, last-upto}
use Rattle.hd_index_blocks.proofs.Descents.{below-under}
use Rattle.hd_index_blocks.proofs.Entering.{beside}

-- ---- the last key of a block

-- The key is at least all below a block, and less than all below the blocks behind it.
abbrev pub IsBetween : IndexBlocks → ℕ → List ℕ → ℕ → List ℕ → Type 0
IsBetween c l key n right = AreUpTo key (entries_below c l (n ∷ [])) × (is_below_first key (entries_below c l right) ≡ true)

pub last-between : (c : IndexBlocks) (l : ℕ) (left : List ℕ) (n : ℕ) (right : List ℕ) (before : List Entry) (last : Entry) → c.entries n ≡ before ++ (last ∷ [])
    → IsIndexSet c l (left ++ (n ∷ right)) → IsBetween c l last.key n right
last-between c zero left n right before last is set =
    let own = set-behind c zero left (n ∷ right) set in
    let A : List Entry → Type 0 = λ t. keys_ascend t ≡ true in
    let U : List Entry → Type 0 = λ t. AreUpTo last.key t in
    let row : across c (n ∷ right) ≡ before ++ (last ∷ across c right) = ap (λ (t : List Entry). t ++ across c right) is ∙ append_assoc before (last ∷ []) (across c right) in
    let ascend = subst A row own.1 in (
      subst U (sym (nil (c.entries n) ∙ is)) (last-upto before last (subst A is (ascend-front (c.entries n) (across c right) own.1))),
      ascend-above before last (across c right) ascend,
    )
  where
    ascend-front : (xs ys : List Entry) → keys_ascend (xs ++ ys) ≡ true → keys_ascend xs ≡ true
    ascend-front xs ys a = (ascend-parts xs ys a).0
last-between c (suc l) left n right before last is set =
    let own = set-behind c (suc l) left (n ∷ right) set in
    let A : List Entry → Type 0 = λ t. keys_ascend t ≡ true in
    let B : List Entry → Type 0 = λ t. AreBounds c l t in
    let U : List Entry → Type 0 = λ t. AreUpTo last.key t in
    let rest : List Entry = last ∷ across c right in
    let row : across c (n ∷ right) ≡ before ++ rest = ap (λ (t : List Entry). t ++ across c right) is ∙ append_assoc before (last ∷ []) (across c right) in
    let ascend = subst A row (level-ascends c (suc l) (n ∷ right) own) in
    let bounds = subst B row own.1 in
    let low = below-upto last.key (entries_below c l (named before)) (below-under c l last.key before rest bounds (ascend-below before last (across c right) ascend)) in
    let tail = bounds-behind c l before rest bounds in
    let below : entries_below c (suc l) (n ∷ []) ≡ entries_below c l (named before) ++ entries_below c l (last.address ∷ []) =
    ap (λ (t : List Entry). entries_below c l (named t)) (nil (c.entries n) ∙ is) ∙ ap (entries_below c l) (named-append before (last ∷ [])) ∙ entries-append c l (named before) (last.address ∷ []) in
    (subst U (sym below) (upto-append last.key (entries_below c l (named before)) (entries_below c l (last.address ∷ [])) low tail.0), tail.1)

-- ---- a divided block

module _ (c d : IndexBlocks) (l n m : ℕ) (k s : List ℕ) (ys : List Entry) (same : entries_below d l (n ∷ m ∷ []) ≡ entries_below c l (n ∷ [])) (rest : StayBelow c d l (named ys)) where
  -- below the entries nothing has changed
  below-divided : (xs : List Entry) → StayBelow c d l (named xs)
      → entries_below d l (named (xs ++ (record { key = s; address = n } ∷ record { key = k; address = m } ∷ ys))) ≡ entries_below c l (named (xs ++ (record { key = k; address = n } ∷ ys)))
  below-divided xs h =
      ap (entries_below d l) (named-append xs (record { key = s; address = n } ∷ record { key = k; address = m } ∷ ys)) ∙ entries-append d l (named xs) (n ∷ m ∷ named ys)
      ∙ ap (λ (t : List Entry). t ++ entries_below d l (n ∷ m ∷ named ys)) (same-below c d l (named xs) h)
      ∙ ap (λ (t : List Entry). entries_below c l (named xs) ++ t)
      (entries-append d l (n ∷ m ∷ []) (named ys) ∙ ap (λ (t : List Entry). t ++ entries_below d l (named ys)) same ∙ ap (λ (t : List Entry). entries_below c l (n ∷ []) ++ t) (same-below c d l (named ys) rest)
      ∙ sym (entries-append c l (n ∷ []) (named ys)))
      ∙ sym (ap (entries_below c l) (named-append xs (record { key = k; address = n } ∷ ys)) ∙ entries-append c l (named xs) (n ∷ named ys))

  -- the parent's bounds
  bounds-divided : AreUpTo s (entries_below d l (n ∷ [])) → is_below_first s (entries_below d l (m ∷ named ys)) ≡ true → (xs : List Entry) → StayBelow c d l (named xs)
      → AreBounds c l (xs ++ (record { key = k; address = n } ∷ ys)) → AreBounds d l (xs ++ (record { key = s; address = n } ∷ record { key = k; address = m } ∷ ys))
  bounds-divided up first [] h b =
      let U : List Entry → Type 0 = λ t. AreUpTo k t in
      let Q : List Entry → Type 0 = λ t. is_below_first k t ≡ true in (
        up,
        first,
        (
          (upto-parts k (entries_below d l (n ∷ [])) (entries_below d l (m ∷ [])) (subst U (sym same ∙ entries-append d l (n ∷ []) (m ∷ [])) b.0)).1,
          subst Q (sym (same-below c d l (named ys) rest)) b.1,
          bounds-same c d l ys rest b.2,
        ),
      )
  bounds-divided up first (x ∷ xs) h b =
      let U : List Entry → Type 0 = λ t. AreUpTo x.key t in
      let Q : List Entry → Type 0 = λ t. is_below_first x.key t ≡ true in
      (subst U (sym h.0) b.0, subst Q (sym (below-divided xs h.1)) b.1, bounds-divided up first xs h.1 b.2)

module _ (c d : IndexBlocks) (l n m p : ℕ) (h : IsDivided c d l n m p) where
  -- the entries of the level are the same
  pub across-divided : (i : ℕ) (xs ys : List ℕ) → AllStay c d i xs → AllStay c d i ys → across d (xs ++ (n ∷ m ∷ ys)) ≡ across c (xs ++ (n ∷ ys))
  across-divided i [] ys kx ky =
      ap (λ (t : List Entry). t ++ (d.entries m ++ across d ys)) h.low
      ∙ ap (λ (t : List Entry). (h.before ++ (h.last ∷ [])) ++ (t ++ across d ys)) h.high
      ∙ ap (λ (t : List Entry). (h.before ++ (h.last ∷ [])) ++ (h.behind ++ t)) (stay-across c d i ys ky)
      ∙ append_assoc h.before (h.last ∷ []) (h.behind ++ across c ys)
      ∙ sym (append_assoc h.before (h.last ∷ h.behind) (across c ys))
      ∙ ap (λ (t : List Entry). t ++ across c ys) (sym h.was)
  across-divided i (x ∷ xs) ys kx ky =
      ap (λ (t : List Entry). t ++ across d (xs ++ (n ∷ m ∷ ys))) kx.0.1 ∙ ap (λ (t : List Entry). c.entries x ++ t) (across-divided i xs ys kx.1 ky)

  some-low : d.entries n ≢ []
  some-low none = no h.before (sym h.low ∙ none)
    where
      no : (fs : List Entry) → fs ++ (h.last ∷ []) ≡ [] → ⊥
      no [] e = cc
      no (x ∷ fs) e = cc

  -- the level with the new block
  level-divided : (i : ℕ) → i ≡ l → (xs ys : List ℕ) → AllStay c d i xs → AllStay c d i ys → AreOnLevel c i (xs ++ (n ∷ ys)) → AreOnLevel d i (xs ++ (n ∷ m ∷ ys))
  level-divided i e xs ys kx ky r =
      let on = on-parts c i xs (n ∷ ys) r in
      let here = h.levels.0 ∙ ap (λ (t : ℕ). Some t) (sym e) in
      let there = h.levels.1 ∙ ap (λ (t : ℕ). Some t) (sym e) in
      on-both d i xs (n ∷ m ∷ ys) (stay-level c d i xs kx on.0) (here, some-low, (there, (λ none. h.some (sym h.high ∙ none)), stay-level c d i ys ky on.1.2))

  -- the level and all below it
  set-divided : (i : ℕ) → i ≡ l → (xs ys : List ℕ) → AllStay c d i xs → AllStay c d i ys → IsIndexSet c i (xs ++ (n ∷ ys))
      → IsIndexSet d i (xs ++ (n ∷ m ∷ ys)) × (entries_below d i (n ∷ m ∷ []) ≡ entries_below c i (n ∷ [])) × StayBelow c d i xs × StayBelow c d i ys
  set-divided zero e xs ys kx ky old =
      let A : List Entry → Type 0 = λ t. keys_ascend t ≡ true in (
        (level-divided zero e xs ys kx ky old.0, subst A (sym (across-divided zero xs ys kx ky)) old.1),
        across-divided zero [] [] tt tt,
        stay-same c d xs kx,
        stay-same c d ys ky,
      )
  set-divided (suc j) e xs ys kx ky old =
      let same = across-divided (suc j) xs ys kx ky in
      let low = set-stays c d l h.lower j (omega (arith, e)) (named (across c (xs ++ (n ∷ ys)))) old.2 in
      let D : List Entry → Type 0 = λ t. AreBounds d j t in
      let N : List Entry → Type 0 = λ t. IsIndexSet d j (named t) in
      let S : List ℕ → Type 0 = λ t. StayBelow c d j t in
      let names : named (across c (xs ++ (n ∷ ys))) ≡ named (across c xs) ++ (named (c.entries n) ++ named (across c ys)) =
      ap named (across-append c xs (n ∷ ys)) ∙ named-append (across c xs) (c.entries n ++ across c ys) ∙ ap (λ (t : List ℕ). named (across c xs) ++ t) (named-append (c.entries n) (across c ys)) in
      let parts = same-parts c d j (named (across c xs)) (named (c.entries n) ++ named (across c ys)) (subst S names low.1) in
      let mine = same-parts c d j (named (c.entries n)) (named (across c ys)) parts.1 in
      let own : StayBelow c d j (named (c.entries n ++ [])) = subst S (ap named (sym (nil (c.entries n)))) mine.0 in (
        (level-divided (suc j) e xs ys kx ky old.0, subst D (sym same) (bounds-same c d j (across c (xs ++ (n ∷ ys))) low.1 old.1), subst N (sym same) low.0),
        ap (λ (t : List Entry). entries_below d j (named t)) (across-divided (suc j) [] [] tt tt) ∙ same-below c d j (named (c.entries n ++ [])) own,
        same-up c d j (suc j) xs kx parts.0,
        same-up c d j (suc j) ys ky mine.1,
      )

  -- the level of the parent
  pub divided : (left right : List ℕ) → IsIndexSet c (suc l) (left ++ (p ∷ right)) → KeepsIndexSet c d (suc l) (left ++ (p ∷ right))
  divided left right old =
      let X : List Entry = across c left ++ h.front in
      let Y : List Entry = h.back ++ across c right in
      let one : Entry = record { key = h.last.key; address = n } in
      let two : Entry = record { key = h.entry.key; address = m } in
      let same_entry : Entry = record { key = h.entry.key; address = n } in
      let entry : h.entry ≡ same_entry = ap (λ (i : ℕ). record { key = h.entry.key; address = i }) h.child in
      let named_was : c.entries p ≡ h.front ++ (same_entry ∷ h.back) = h.named_was ∙ ap (λ (t : Entry). h.front ++ (t ∷ h.back)) entry in
      let was : across c (left ++ (p ∷ right)) ≡ X ++ (same_entry ∷ Y) = across-about c left p right h.front (same_entry ∷ []) h.back named_was in
      let on = on-parts c (suc l) left (p ∷ right) old.0 in
      let once = blocks-once c (suc l) left p right old in
      let kl = beside c d (suc l) p left h.above on.0 once.0 in
      let kr = beside c d (suc l) p right h.above on.1.2 once.1 in
      let is : across d (left ++ (p ∷ right)) ≡ X ++ (one ∷ two ∷ Y) =
      across-about d left p right h.front (one ∷ two ∷ []) h.back h.named_is
      ∙ ap (λ (t : List Entry). (t ++ h.front) ++ (one ∷ two ∷ (h.back ++ across d right))) (stay-across c d (suc l) left kl)
      ∙ ap (λ (t : List Entry). X ++ (one ∷ two ∷ (h.back ++ t))) (stay-across c d (suc l) right kr) in
      let names_was : named (across c (left ++ (p ∷ right))) ≡ named X ++ (n ∷ named Y) = ap named was ∙ named-append X (same_entry ∷ Y) in
      let names_is : named (across d (left ++ (p ∷ right))) ≡ named X ++ (n ∷ m ∷ named Y) = ap named is ∙ named-append X (one ∷ two ∷ Y) in
      let S : List ℕ → Type 0 = λ t. IsIndexSet c l t in
      let N : List ℕ → Type 0 = λ t. IsIndexSet d l t in
      let below = subst S names_was old.2 in
      let on_below = on-parts c l (named X) (n ∷ named Y) (set-level c l (named X ++ (n ∷ named Y)) below) in
      let once_below = blocks-once c l (named X) n (named Y) below in
      let low = set-divided l refl (named X) (named Y) (beside c d l n (named X) h.beside on_below.0 once_below.0) (beside c d l n (named Y) h.beside on_below.1.2 once_below.1) below in
      let B : List Entry → Type 0 = λ t. AreBounds c l t in
      let D : List Entry → Type 0 = λ t. AreBounds d l t in
      let A : List ℕ → Type 0 = λ t. StayBelow c d l t in
      let between = last-between d l (named X) n (m ∷ named Y) h.before h.last h.low low.0 in
      let lefts = same-parts c d l (named (across c left)) (named h.front) (subst A (named-append (across c left) h.front) low.2) in
      let rights = same-parts c d l (named h.back) (named (across c right)) (subst A (named-append h.back (across c right)) low.3) in
      let mid : entries_below d (suc l) (p ∷ []) ≡ entries_below c (suc l) (p ∷ []) =
      ap (λ (t : List Entry). entries_below d l (named t)) (nil (d.entries p) ∙ h.named_is) ∙ below-divided c d l n m h.entry.key h.last.key h.back low.1 rights.0 h.front lefts.1
      ∙ sym (ap (λ (t : List Entry). entries_below c l (named t)) (nil (c.entries p) ∙ named_was)) in
      let bounds = bounds-divided c d l n m h.entry.key h.last.key Y low.1 low.3 between.0 between.1 X low.2 (subst B was old.1) in (
        (
          on-both d (suc l) left (p ∷ right) (stay-level c d (suc l) left kl on.0) (h.levels.2, (λ none. some h.front (sym h.named_is ∙ none)), stay-level c d (suc l) right kr on.1.2),
          subst D (sym is) bounds,
          subst N (sym names_is) low.0,
        ),
        same-both c d (suc l) left (p ∷ right) (same-up c d l (suc l) left kl lefts.0) (mid, same-up c d l (suc l) right kr rights.1),
      )
    where
      some : (fs : List Entry) → fs ++ (record { key = h.last.key; address = n } ∷ record { key = h.entry.key; address = m } ∷ h.back) ≡ [] → ⊥
      some [] e = cc
      some (x ∷ fs) e = cc

-- ---- a new top

pub topped : (c d : IndexBlocks) (h top new : ℕ) (before : List Entry) (last : Entry) → IsIndexSet c h (top ∷ []) → c.entries top ≡ before ++ (last ∷ [])
    → (d.level new ≡ Some (suc h)) × (d.entries new ≡ record { key = last.key; address = top } ∷ []) → LowerStay c d (suc h)
    → IsIndexSet d (suc h) (new ∷ []) × (entries_below d (suc h) (new ∷ []) ≡ entries_below c h (top ∷ []))
topped c d h top new before last old was is lower =
    let low = set-stays c d (suc h) lower h (omega arith) (top ∷ []) old in
    let between = last-between c h [] top [] before last was old in
    let e : Entry = record { key = last.key; address = top } in
    let row : across d (new ∷ []) ≡ e ∷ [] = ap (λ (t : List Entry). t ++ []) is.1 in
    let U : List Entry → Type 0 = λ t. AreUpTo last.key t in
    let D : List Entry → Type 0 = λ t. AreBounds d h t in
    let N : List Entry → Type 0 = λ t. IsIndexSet d h (named t) in
    let one : AreBounds d h (e ∷ []) = (subst U (sym low.1.0) between.0, ap (is_below_first last.key) (entries-none d h), tt) in (
      ((is.0, (λ none. some e (sym is.1 ∙ none)), tt), subst D (sym row) one, subst N (sym row) low.0),
      ap (λ (t : List Entry). entries_below d h (named t)) row ∙ low.1.0,
    )
  where
    some : (e : Entry) → e ∷ [] ≡ [] → ⊥
    some e h = cc
