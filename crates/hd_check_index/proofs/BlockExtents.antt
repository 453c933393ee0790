-- The extents of entries and of blocks, put together.
use Rattle.std.proofs.Common.{◌≡◌, ℕ, zero, suc, ◌<◌, ◌≤◌, ◌&&◌, not, cond, min, Bool, true, false, List, [], ◌∷◌, ◌++◌, length, take, drop, slice_index, slice_index_or, Option, None, Some, refl, sym, ap, ◌∙◌, subst, arith}
use Rattle.std.specs.Option.{option_map_or}
use Rattle.std.proofs.lemmas.Bool.{and_parts}
use Rattle.hd_volume.specs.Entries.{Entry}
use Rattle.hd_volume.specs.Indexes.{key_less, keys_ascend}
use Rattle.hd_volume.proofs.KeyLemmas.{less-trans}
use Rattle.hd_index_blocks.specs.Levels.{IndexBlocks, named, entries_below}
use Rattle.hd_index_blocks.specs.LevelFaults.{is_up_to, is_below_all, last_entry}
use Rattle.hd_index_blocks.proofs.Keys.{less-upto}
use Rattle.hd_index_blocks.proofs.Levels.{nil, named-append}
use Rattle.hd_check_index.specs.declared.extents.Extent.{Extent}
use Rattle.hd_check_index.specs.Extents.{IsExtent}
use Rattle.hd_check_index.specs.BlockExtents.{AreExtents, AreBelow, IsExtentBelow}

-- ---- tests of two parts

and-right : (p q : Bool) → (q ≡ true → p ≡ true) → (p && q) ≡ q
and-right true q f = refl
and-right false true f = f refl
and-right false false f = refl

and-left : (p q : Bool) → (p ≡ true → q ≡ true) → (p && q) ≡ p
and-left true q f = f refl
and-left false q f = refl

and-true : (p : Bool) → (p && true) ≡ p
and-true true = refl
and-true false = refl

and-assoc : (p q r : Bool) → ((p && q) && r) ≡ (p && (q && r))
and-assoc true q r = refl
and-assoc false q r = refl

nor-right : (p q : Bool) → (p ≡ true → q ≡ true) → (not p && not q) ≡ not q
nor-right true q f = ap not (sym (f refl))
nor-right false q f = refl

nor-left : (p q : Bool) → (q ≡ true → p ≡ true) → (not p && not q) ≡ not p
nor-left true q f = refl
nor-left false true f = let z = f refl in cc
nor-left false false f = refl

-- no key of two parts is above one
up-append : (key : List ℕ) (es fs : List Entry) → is_up_to key (es ++ fs) ≡ (is_up_to key es && is_up_to key fs)
up-append key [] fs = refl
up-append key (e ∷ es) fs = ap (λ (b : Bool). not (key_less key e.key) && b) (up-append key es fs) ∙ sym (and-assoc (not (key_less key e.key)) (is_up_to key es) (is_up_to key fs))

-- each key of two parts is above one
below-append : (key : List ℕ) (es fs : List Entry) → is_below_all key (es ++ fs) ≡ (is_below_all key es && is_below_all key fs)
below-append key [] fs = refl
below-append key (e ∷ es) fs = ap (λ (b : Bool). key_less key e.key && b) (below-append key es fs) ∙ sym (and-assoc (key_less key e.key) (is_below_all key es) (is_below_all key fs))

-- ---- the lesser and the greater of two keys

-- a key is below two just where it is below the lesser
below-both : (key a b : List ℕ) (less : Bool) → key_less a b ≡ less → (key_less key a && key_less key b) ≡ cond less (key_less key a) (key_less key b)
below-both key a b true h = and-left (key_less key a) (key_less key b) (λ k. less-trans key a b k h)
below-both key a b false h = and-right (key_less key a) (key_less key b) (λ k. less-upto key b a k h)

-- and is not below one of two just where it is not below the greater
up-both : (key a b : List ℕ) (less : Bool) → key_less a b ≡ less → (not (key_less key a) && not (key_less key b)) ≡ not (cond less (key_less key b) (key_less key a))
up-both key a b true h = nor-right (key_less key a) (key_less key b) (λ k. less-trans key a b k h)
up-both key a b false h = nor-left (key_less key a) (key_less key b) (λ k. less-upto key b a k h)

cond-less : (k : ℕ) (key one other : List ℕ) (b : Bool) → cond b (key_less key (take k one)) (key_less key (take k other)) ≡ key_less key (take k (cond b one other))
cond-less k key one other true = refl
cond-less k key one other false = refl

-- ---- extents

-- the extent of an entry
pub extent-one : (k : ℕ) (x : Extent) (e : Entry) → take k x.least ≡ e.key → take k x.greatest ≡ e.key → IsExtent k x (e ∷ [])
extent-one k x e least greatest = record {
  greatest = λ key. and-true (not (key_less key e.key)) ∙ ap (λ (t : List ℕ). not (key_less key t)) (sym greatest);
  least = λ key. and-true (key_less key e.key) ∙ ap (λ (t : List ℕ). key_less key t) (sym least);
}

-- of two parts
pub extent-both : (k : ℕ) (x y : Extent) (es fs : List Entry) (least greatest : List ℕ) → least ≡ cond (key_less (take k x.least) (take k y.least)) x.least y.least
    → greatest ≡ cond (key_less (take k x.greatest) (take k y.greatest)) y.greatest x.greatest → IsExtent k x es → IsExtent k y fs
    → IsExtent k (record { least = least; greatest = greatest }) (es ++ fs)
extent-both k x y es fs least greatest low high ex ey = record {
  greatest = λ key.
      (let less : Bool = key_less (take k x.greatest) (take k y.greatest) in
      let both : is_up_to key (es ++ fs) ≡ (not (key_less key (take k x.greatest)) && not (key_less key (take k y.greatest))) =
      up-append key es fs ∙ ap (λ (b : Bool). b && is_up_to key fs) (ex.greatest key) ∙ ap (λ (b : Bool). not (key_less key (take k x.greatest)) && b) (ey.greatest key) in
      both ∙ up-both key (take k x.greatest) (take k y.greatest) less refl
      ∙ ap not (cond-less k key y.greatest x.greatest less ∙ ap (λ (t : List ℕ). key_less key (take k t)) (sym high)));
  least = λ key.
      (let less : Bool = key_less (take k x.least) (take k y.least) in
      let both : is_below_all key (es ++ fs) ≡ (key_less key (take k x.least) && key_less key (take k y.least)) =
      below-append key es fs ∙ ap (λ (b : Bool). b && is_below_all key fs) (ex.least key) ∙ ap (λ (b : Bool). key_less key (take k x.least) && b) (ey.least key) in
      both ∙ below-both key (take k x.least) (take k y.least) less refl
      ∙ cond-less k key x.least y.least less ∙ ap (λ (t : List ℕ). key_less key (take k t)) (sym low));
}

-- an extent is told by its keys alone
extent-same : (k : ℕ) (x z : Extent) (es : List Entry) → take k z.least ≡ take k x.least → take k z.greatest ≡ take k x.greatest → IsExtent k x es → IsExtent k z es
extent-same k x z es least greatest h = record {
  greatest = λ key. h.greatest key ∙ ap (λ (t : List ℕ). not (key_less key t)) (sym greatest);
  least = λ key. h.least key ∙ ap (λ (t : List ℕ). key_less key t) (sym least);
}

take-cond : (k : ℕ) (b : Bool) (one other : List ℕ) → cond b (take k one) (take k other) ≡ take k (cond b one other)
take-cond k true one other = refl
take-cond k false one other = refl

-- of a part and one more, or of that alone
pub extent-wider : (k : ℕ) (x y z : Extent) (es fs : List Entry) (least greatest : List ℕ) (first : Bool) → take k y.least ≡ least → take k y.greatest ≡ greatest
    → take k z.least ≡ cond first least (cond (key_less (take k x.least) least) (take k x.least) least)
    → take k z.greatest ≡ cond first greatest (cond (key_less (take k x.greatest) greatest) greatest (take k x.greatest))
    → (first ≡ true → es ≡ []) → (first ≡ false → IsExtent k x es) → IsExtent k y fs → IsExtent k z (es ++ fs)
extent-wider k x y z es fs least greatest true own_least own_greatest low high none some more =
    subst (λ (t : List Entry). IsExtent k z (t ++ fs)) (sym (none refl)) (extent-same k y z fs (low ∙ sym own_least) (high ∙ sym own_greatest) more)
extent-wider k x y z es fs least greatest false own_least own_greatest low high none some more =
    let below : Bool = key_less (take k x.least) (take k y.least) in
    let above : Bool = key_less (take k x.greatest) (take k y.greatest) in
    let both : Extent = record { least = cond below x.least y.least; greatest = cond above y.greatest x.greatest } in
    let l : take k z.least ≡ take k both.least = low ∙ ap (λ (t : List ℕ). cond (key_less (take k x.least) t) (take k x.least) t) (sym own_least) ∙ take-cond k below x.least y.least in
    let g : take k z.greatest ≡ take k both.greatest = high ∙ ap (λ (t : List ℕ). cond (key_less (take k x.greatest) t) t (take k x.greatest)) (sym own_greatest) ∙ take-cond k above y.greatest x.greatest in
    extent-same k both z (es ++ fs) l g (extent-both k x y es fs both.least both.greatest refl refl (some refl) more)

-- ---- entries whose keys ascend

-- one more with a key above the last
pub ascend-more : (es : List Entry) (e : Entry) → keys_ascend es ≡ true → option_map_or (λ l. key_less l.key e.key) (last_entry None es) true ≡ true → keys_ascend (es ++ (e ∷ [])) ≡ true
ascend-more [] e h less = refl
ascend-more (x ∷ []) e h less = rw less refl
ascend-more (x ∷ y ∷ ys) e h less =
    let parts = and_parts (key_less x.key y.key) (keys_ascend (y ∷ ys)) h in
    let more = ascend-more (y ∷ ys) e parts.1 less in
    rw (parts.0, more) refl

-- a key is below all just where it is below the first
below-ascending : (key : List ℕ) (e : Entry) (es : List Entry) → keys_ascend (e ∷ es) ≡ true → is_below_all key (e ∷ es) ≡ key_less key e.key
below-ascending key e [] h = and-true (key_less key e.key)
below-ascending key e (f ∷ fs) h =
    let parts = and_parts (key_less e.key f.key) (keys_ascend (f ∷ fs)) h in
    ap (λ (b : Bool). key_less key e.key && b) (below-ascending key f fs parts.1)
    ∙ and-left (key_less key e.key) (key_less key f.key) (λ less. less-trans key e.key f.key less parts.0)

-- and none is above it just where the last is not
up-ascending : (key : List ℕ) (e : Entry) (es : List Entry) (l : Entry) → keys_ascend (e ∷ es) ≡ true → last_entry (Some e) es ≡ Some l → is_up_to key (e ∷ es) ≡ not (key_less key l.key)
up-ascending key e [] l h last = and-true (not (key_less key e.key)) ∙ ap (λ (o : Option Entry). not (key_less key (option_map_or (λ x. x.key) o []))) last
up-ascending key e (f ∷ fs) l h last =
    let parts = and_parts (key_less e.key f.key) (keys_ascend (f ∷ fs)) h in
    let behind : is_up_to key (f ∷ fs) ≡ not (key_less key l.key) = up-ascending key f fs l parts.1 last in
    ap (λ (b : Bool). not (key_less key e.key) && b) behind
    ∙ nor-right (key_less key e.key) (key_less key l.key) (λ less. above-last (key_less key f.key) (is_up_to key fs) (key_less key l.key) (less-trans key e.key f.key less parts.0) behind)
  where
    above-last : (p q r : Bool) → p ≡ true → (not p && q) ≡ not r → r ≡ true
    above-last true q true a b = refl
    above-last true q false a b = b
    above-last false q r a b = cc

-- their extent is from the first to the last
pub extent-ascending : (k : ℕ) (x : Extent) (e : Entry) (es : List Entry) (l : Entry) → keys_ascend (e ∷ es) ≡ true → last_entry (Some e) es ≡ Some l → take k x.least ≡ e.key → take k x.greatest ≡ l.key
    → IsExtent k x (e ∷ es)
extent-ascending k x e es l h last least greatest = record {
  greatest = λ key. up-ascending key e es l h last ∙ ap (λ (t : List ℕ). not (key_less key t)) (sym greatest);
  least = λ key. below-ascending key e es h ∙ ap (λ (t : List ℕ). key_less key t) (sym least);
}

-- ---- the extents of blocks

-- there is one for each
pub extents-length : (k : ℕ) (c : IndexBlocks) (l : ℕ) (ns : List ℕ) (xs : List Extent) → AreExtents k c l ns xs → length xs ≡ length ns
extents-length k c l [] [] h = refl
extents-length k c l [] (x ∷ xs) h = absurd h
extents-length k c l (n ∷ ns) [] h = absurd h
extents-length k c l (n ∷ ns) (x ∷ xs) h = ap suc (extents-length k c l ns xs h.1)

-- that of one of them
pub extents-at : (k : ℕ) (c : IndexBlocks) (l : ℕ) (ns : List ℕ) (xs : List Extent) (i : ℕ) (d : Extent) → AreExtents k c l ns xs → i < length xs → IsExtent k (slice_index_or xs i d) (entries_below c l (slice_index ns i ∷ []))
extents-at k c l [] [] i d h less = absurd (omega arith)
extents-at k c l [] (x ∷ xs) i d h less = absurd h
extents-at k c l (n ∷ ns) [] i d h less = absurd h
extents-at k c l (n ∷ ns) (x ∷ xs) zero d h less = h.0
extents-at k c l (n ∷ ns) (x ∷ xs) (suc i) d h less = extents-at k c l ns xs i d h.1 (omega arith)

-- those of some of them, and of those behind
pub extents-parts : (k : ℕ) (c : IndexBlocks) (l : ℕ) (ms ns : List ℕ) (xs : List Extent) → AreExtents k c l (ms ++ ns) xs
    → AreExtents k c l ms (take (length ms) xs) × AreExtents k c l ns (drop (length ms) xs)
extents-parts k c l [] ns xs h = (tt, h)
extents-parts k c l (m ∷ ms) ns [] h = absurd h
extents-parts k c l (m ∷ ms) ns (x ∷ xs) h = let r = extents-parts k c l ms ns xs h.1 in ((h.0, r.0), r.1)

-- one more
pub extents-more : (k : ℕ) (c : IndexBlocks) (l : ℕ) (ns : List ℕ) (xs : List Extent) (n : ℕ) (x : Extent) → AreExtents k c l ns xs → IsExtent k x (entries_below c l (n ∷ []))
    → AreExtents k c l (ns ++ (n ∷ [])) (xs ++ (x ∷ []))
extents-more k c l [] [] n x h e = (e, tt)
extents-more k c l [] (y ∷ xs) n x h e = absurd h
extents-more k c l (m ∷ ns) [] n x h e = absurd h
extents-more k c l (m ∷ ns) (y ∷ xs) n x h e = (h.0, extents-more k c l ns xs n x h.1 e)

pub named-length : (es : List Entry) → length (named es) ≡ length es
named-length [] = refl
named-length (e ∷ es) = ap suc (named-length es)

-- above level 0 there is an extent for each entry, and others for those behind
pub below-parts : (k : ℕ) (c : IndexBlocks) (l : ℕ) (es rs : List Entry) (below : List Extent) → AreBelow k c (suc l) (es ++ rs) below
    → AreExtents k c l (named es) (take (length es) below) × AreExtents k c l (named rs) (drop (length es) below)
below-parts k c l es rs below h =
    let X : List ℕ → Type 0 = λ t. AreExtents k c l t below in
    let P : ℕ → Type 0 = λ i. AreExtents k c l (named es) (take i below) × AreExtents k c l (named rs) (drop i below) in
    subst P (named-length es) (extents-parts k c l (named es) (named rs) below (subst X (named-append es rs) h))

-- the extent of a block of level 0
pub extent-lowest : (k level : ℕ) (es : List Entry) (below : List Extent) (x : Extent) → level ≡ 0 → IsExtent k x es → IsExtentBelow k level es below x
extent-lowest k zero es below x z e = λ c n rs is h. (let E : List Entry → Type 0 = λ t. IsExtent k x t in subst E (sym (nil (c.entries n) ∙ is)) e)
extent-lowest k (suc l) es below x z e = absurd (omega arith)

-- of one above
pub extent-upper : (k level count : ℕ) (es : List Entry) (below : List Extent) (x : Extent) → 0 < level → 0 < length es → count ≡ min (length es) (length below)
    → ((c : IndexBlocks) (l : ℕ) (ns : List ℕ) → 0 < length (take count below) → AreExtents k c l ns (take count below) → IsExtent k x (entries_below c l ns))
    → IsExtentBelow k level es below x
extent-upper k zero count es below x up some is f = absurd (omega arith)
extent-upper k (suc l) count es below x up some is f = λ c n rs own h.
    let parts = below-parts k c l es rs below h in
    let len = extents-length k c l (named es) (take (length es) below) parts.0 in
    let all : count ≡ length es = all-there k c l es rs below count len is in
    let first : AreExtents k c l (named es) (take count below) = (let X : ℕ → Type 0 = λ i. AreExtents k c l (named es) (take i below) in subst X (sym all) parts.0) in
    let long : length (take count below) ≡ length es = ap (λ (i : ℕ). length (take i below)) all ∙ len ∙ named-length es in
    let e = f c l (named es) (omega arith) first in
    let E : List Entry → Type 0 = λ t. IsExtent k x (entries_below c l (named t)) in
    subst E (sym (nil (c.entries n) ∙ own)) e
  where
    take-length : (i : ℕ) (xs : List Extent) → length (take i xs) ≤ length xs
    take-length zero xs = omega arith
    take-length (suc i) [] = omega arith
    take-length (suc i) (x ∷ xs) = let r = take-length i xs in omega arith

    all-there : (k : ℕ) (c : IndexBlocks) (l : ℕ) (es rs : List Entry) (below : List Extent) (count : ℕ) → length (take (length es) below) ≡ length (named es) → count ≡ min (length es) (length below) → count ≡ length es
    all-there k c l es rs below count len is = let a = take-length (length es) below in let b = named-length es in omega arith
