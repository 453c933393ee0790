-- The order of keys, and entries parted at a key.
use Rattle.std.proofs.Common.{◌≡◌, ℕ, Bool, true, false, cond, List, [], ◌∷◌, ◌++◌, Some, None, Ordering, Less, Equal, Greater, refl, sym, ap, ◌∙◌}
use Rattle.std.specs.Prelude.{bytes_eq, ◌&&◌}
use Rattle.std.specs.Ordering.{nat_cmp, is_lt, is_eq, ordering_reverse}
use Rattle.std.specs.Cmp.Lexicographic.{slice_cmp}
use Rattle.std.proofs.lemmas.Cmp.{nat_list_cmp_total}
use Rattle.std.proofs.lemmas.Bool.{and_parts}
use Rattle.std.proofs.lemmas.Map.Text.{is_eq-slice_cmp}
use Rattle.hd_volume.specs.Entries.{Entry}
use Rattle.hd_volume.specs.Indexes.{key_less, is_below_first, keys_ascend}
use Rattle.hd_volume.proofs.KeyLemmas.{less-trans, less-not}
use Rattle.hd_index_blocks.specs.Maps.{address_of, address_from, with_entry, without_key}
use Rattle.hd_index_blocks.specs.Levels.{AreUpTo, AreBelow}

-- ---- two keys, and three

-- no key is below itself
pub less-self : (x : List ℕ) → key_less x x ≡ true → ⊥
less-self x h = let k = less-not x x h in cc

-- a lesser key is no equal one
pub less-other : (x y : List ℕ) → key_less x y ≡ true → bytes_eq x y ≡ false
less-other x y h = sym (is_eq-slice_cmp x y) ∙ by-test (slice_cmp nat_cmp x y) h
  where
    by-test : (o : Ordering) → is_lt o ≡ true → is_eq o ≡ false
    by-test Less e = refl
    by-test Equal e = cc
    by-test Greater e = refl

-- nor is a greater one
pub greater-other : (x y : List ℕ) → key_less y x ≡ true → bytes_eq x y ≡ false
greater-other x y h = sym (is_eq-slice_cmp x y) ∙ ap is_eq (nat_list_cmp_total.antisymm x y) ∙ by-test (slice_cmp nat_cmp y x) h
  where
    by-test : (o : Ordering) → is_lt o ≡ true → is_eq (ordering_reverse o) ≡ false
    by-test Less e = refl
    by-test Equal e = cc
    by-test Greater e = cc

-- a key that is neither below another nor equal to it is above it
pub not-less : (x y : List ℕ) → key_less x y ≡ false → bytes_eq x y ≡ false → key_less y x ≡ true
not-less x y h k = ap is_lt (nat_list_cmp_total.antisymm y x) ∙ by-order (slice_cmp nat_cmp x y) h (is_eq-slice_cmp x y ∙ k)
  where
    by-order : (o : Ordering) → is_lt o ≡ false → is_eq o ≡ false → is_lt (ordering_reverse o) ≡ true
    by-order Less h k = cc
    by-order Equal h k = cc
    by-order Greater h k = refl

-- a key that is not above a second, which is below a third, is below that
pub upto-less : (x y z : List ℕ) → key_less y x ≡ false → key_less y z ≡ true → key_less x z ≡ true
upto-less x y z h k = by-order (slice_cmp nat_cmp x y) refl
  where
    by-order : (o : Ordering) → slice_cmp nat_cmp x y ≡ o → key_less x z ≡ true
    by-order Less e = less-trans x y z (ap is_lt e) k
    by-order Equal e = ap is_lt (nat_list_cmp_total.congr x y z e) ∙ k
    by-order Greater e = absurd (no (ap is_lt (nat_list_cmp_total.antisymm y x ∙ ap ordering_reverse e)) h)
      where
        no : key_less y x ≡ true → key_less y x ≡ false → ⊥
        no p q = cc

-- a key below a second that is not above a third is below that
pub less-upto : (x y z : List ℕ) → key_less x y ≡ true → key_less z y ≡ false → key_less x z ≡ true
less-upto x y z h k = by-order (slice_cmp nat_cmp z y) refl
  where
    by-order : (o : Ordering) → slice_cmp nat_cmp z y ≡ o → key_less x z ≡ true
    by-order Less e = let one : key_less z y ≡ true = ap is_lt e in absurd (cc)
    by-order Equal e = ap is_lt (nat_list_cmp_total.antisymm x z ∙ ap ordering_reverse (nat_list_cmp_total.congr z y x e) ∙ sym (nat_list_cmp_total.antisymm x y)) ∙ h
    by-order Greater e = less-trans x y z h (ap is_lt (nat_list_cmp_total.antisymm y z ∙ ap ordering_reverse e))

-- ---- a key and entries

-- entries up to a key are below each greater one
pub upto-below : (k t : List ℕ) (es : List Entry) → AreUpTo k es → key_less k t ≡ true → AreBelow t es
upto-below k t [] h less = tt
upto-below k t (e ∷ es) h less = (upto-less e.key k t h.0 less, upto-below k t es h.1 less)

-- entries below a key are up to it
pub below-upto : (k : List ℕ) (es : List Entry) → AreBelow k es → AreUpTo k es
below-upto k [] h = tt
below-upto k (e ∷ es) h = (less-not e.key k h.0, below-upto k es h.1)

-- entries below a key are below each greater one
pub below-less : (k t : List ℕ) (es : List Entry) → AreBelow k es → key_less k t ≡ true → AreBelow t es
below-less k t [] h less = tt
below-less k t (e ∷ es) h less = (less-trans e.key k t h.0 less, below-less k t es h.1 less)

pub below-append : (k : List ℕ) (xs ys : List Entry) → AreBelow k xs → AreBelow k ys → AreBelow k (xs ++ ys)
below-append k [] ys h g = g
below-append k (x ∷ xs) ys h g = (h.0, below-append k xs ys h.1 g)

pub below-parts : (k : List ℕ) (xs ys : List Entry) → AreBelow k (xs ++ ys) → AreBelow k xs × AreBelow k ys
below-parts k [] ys h = (tt, h)
below-parts k (x ∷ xs) ys h = let rest = below-parts k xs ys h.1 in ((h.0, rest.0), rest.1)

pub upto-append : (k : List ℕ) (xs ys : List Entry) → AreUpTo k xs → AreUpTo k ys → AreUpTo k (xs ++ ys)
upto-append k [] ys h g = g
upto-append k (x ∷ xs) ys h g = (h.0, upto-append k xs ys h.1 g)

pub upto-parts : (k : List ℕ) (xs ys : List Entry) → AreUpTo k (xs ++ ys) → AreUpTo k xs × AreUpTo k ys
upto-parts k [] ys h = (tt, h)
upto-parts k (x ∷ xs) ys h = let rest = upto-parts k xs ys h.1 in ((h.0, rest.0), rest.1)

-- a lesser key is below the first entry too
pub first-less : (t k : List ℕ) (es : List Entry) → key_less t k ≡ true → is_below_first k es ≡ true → is_below_first t es ≡ true
first-less t k [] h b = refl
first-less t k (e ∷ es) h b = less-trans t k e.key h b

-- so is a key that is not above it
pub first-upto : (k t : List ℕ) (es : List Entry) → key_less k t ≡ false → is_below_first k es ≡ true → is_below_first t es ≡ true
first-upto k t [] h b = refl
first-upto k t (e ∷ es) h b = upto-less t k e.key h b

pub first-part : (k : List ℕ) (xs ys : List Entry) → is_below_first k (xs ++ ys) ≡ true → is_below_first k xs ≡ true
first-part k [] ys b = refl
first-part k (x ∷ xs) ys b = b

-- ---- keys that ascend

pub ascend-parts : (xs ys : List Entry) → keys_ascend (xs ++ ys) ≡ true → (keys_ascend xs ≡ true) × (keys_ascend ys ≡ true)
ascend-parts [] ys a = (refl, a)
ascend-parts (x ∷ xs) ys a =
    let parts = and_parts (is_below_first x.key (xs ++ ys)) (keys_ascend (xs ++ ys)) a in
    let rest = ascend-parts xs ys parts.1 in
    let both : is_below_first x.key xs && keys_ascend xs ≡ true = rw (first-part x.key xs ys parts.0, rest.0) refl in (both, rest.1)

-- where keys ascend, a key below the first is below those behind an entry too
pub first-behind : (k : List ℕ) (xs : List Entry) (e : Entry) (ys : List Entry) → is_below_first k (xs ++ (e ∷ ys)) ≡ true → keys_ascend (xs ++ (e ∷ ys)) ≡ true → key_less k e.key ≡ true
first-behind k [] e ys b a = b
first-behind k (x ∷ xs) e ys b a =
    let parts = and_parts (is_below_first x.key (xs ++ (e ∷ ys))) (keys_ascend (xs ++ (e ∷ ys))) a in
    first-behind k xs e ys (first-less k x.key (xs ++ (e ∷ ys)) b parts.0) parts.1

-- the entries before one whose keys ascend are below it
pub ascend-below : (xs : List Entry) (e : Entry) (ys : List Entry) → keys_ascend (xs ++ (e ∷ ys)) ≡ true → AreBelow e.key xs
ascend-below [] e ys a = tt
ascend-below (x ∷ xs) e ys a =
    let parts = and_parts (is_below_first x.key (xs ++ (e ∷ ys))) (keys_ascend (xs ++ (e ∷ ys))) a in
    (first-behind x.key xs e ys parts.0 parts.1, ascend-below xs e ys parts.1)

-- those behind it are above it
pub ascend-above : (xs : List Entry) (e : Entry) (ys : List Entry) → keys_ascend (xs ++ (e ∷ ys)) ≡ true → is_below_first e.key ys ≡ true
ascend-above xs e ys a = let tail = ascend-parts xs (e ∷ ys) a in (and_parts (is_below_first e.key ys) (keys_ascend ys) tail.1).0

-- keys with a new one between those below it and those above it
pub ascend-new : (new : Entry) (xs ys : List Entry) → keys_ascend (xs ++ ys) ≡ true → AreBelow new.key xs → is_below_first new.key ys ≡ true → keys_ascend (xs ++ (new ∷ ys)) ≡ true
ascend-new new [] ys a less first = rw (first, a) refl
ascend-new new (x ∷ xs) ys a less first =
    let parts = and_parts (is_below_first x.key (xs ++ ys)) (keys_ascend (xs ++ ys)) a in
    let rest = ascend-new new xs ys parts.1 less.1 first in
    let head : is_below_first x.key (xs ++ (new ∷ ys)) ≡ true = by-front xs parts.0 in
    rw (head, rest) refl
  where
    by-front : (zs : List Entry) → is_below_first x.key (zs ++ ys) ≡ true → is_below_first x.key (zs ++ (new ∷ ys)) ≡ true
    by-front [] h = less.0
    by-front (z ∷ zs) h = h

-- keys without one of them
pub ascend-gone : (gone : Entry) (xs ys : List Entry) → keys_ascend (xs ++ (gone ∷ ys)) ≡ true → keys_ascend (xs ++ ys) ≡ true
ascend-gone gone [] ys a = (and_parts (is_below_first gone.key ys) (keys_ascend ys) a).1
ascend-gone gone (x ∷ xs) ys a =
    let parts = and_parts (is_below_first x.key (xs ++ (gone ∷ ys))) (keys_ascend (xs ++ (gone ∷ ys))) a in
    let rest = ascend-gone gone xs ys parts.1 in
    let head : is_below_first x.key (xs ++ ys) ≡ true = first-gone x.key gone xs ys (ascend-above xs gone ys parts.1) parts.0 in
    rw (head, rest) refl
  where
    first-gone : (k : List ℕ) (gone : Entry) (xs ys : List Entry) → is_below_first gone.key ys ≡ true → is_below_first k (xs ++ (gone ∷ ys)) ≡ true → is_below_first k (xs ++ ys) ≡ true
    first-gone k gone [] ys a h = first-less k gone.key ys h a
    first-gone k gone (x ∷ xs) ys a h = h

-- ---- look-ups and changes at a key

-- a key is sought behind the entries that are below it
pub address-behind : (k : List ℕ) (xs ys : List Entry) → AreBelow k xs → address_of k (xs ++ ys) ≡ address_of k ys
address-behind k [] ys h = refl
address-behind k (x ∷ xs) ys h = rw (less-other x.key k h.0) (address-behind k xs ys h.1)

-- a key below the first entry is not there
pub address-above : (k : List ℕ) (es : List Entry) → is_below_first k es ≡ true → keys_ascend es ≡ true → address_of k es ≡ None
address-above k [] h a = refl
address-above k (e ∷ es) h a =
    let parts = and_parts (is_below_first e.key es) (keys_ascend es) a in
    rw (greater-other e.key k h) (address-above k es (first-less k e.key es h parts.0) parts.1)

-- a key is sought before the entries that are above it
pub address-before : (k : List ℕ) (xs ys : List Entry) → is_below_first k ys ≡ true → keys_ascend ys ≡ true → address_of k (xs ++ ys) ≡ address_of k xs
address-before k [] ys h a = address-above k ys h a
address-before k (x ∷ xs) ys h a = by-test (bytes_eq x.key k) (address-before k xs ys h a)
  where
    by-test : (b : Bool) → address_of k (xs ++ ys) ≡ address_of k xs → cond b (Some x.address) (address_of k (xs ++ ys)) ≡ cond b (Some x.address) (address_of k xs)
    by-test true rest = refl
    by-test false rest = rest

-- the least key that is not below one is sought behind the entries that are below it
pub from-behind : (k : List ℕ) (xs ys : List Entry) → AreBelow k xs → address_from k (xs ++ ys) ≡ address_from k ys
from-behind k [] ys h = refl
from-behind k (x ∷ xs) ys h = rw h.0 (from-behind k xs ys h.1)

-- a new entry goes between those below it and those above it
pub with-between : (new : Entry) (xs ys : List Entry) → AreBelow new.key xs → is_below_first new.key ys ≡ true → with_entry new (xs ++ ys) ≡ xs ++ (new ∷ ys)
with-between new [] [] less first = refl
with-between new [] (y ∷ ys) less first = rw first refl
with-between new (x ∷ xs) ys less first = rw (less-not x.key new.key less.0) (ap (λ (t : List Entry). x ∷ t) (with-between new xs ys less.1 first))

-- an entry is taken out behind those that are below it
pub without-between : (gone : Entry) (xs ys : List Entry) → AreBelow gone.key xs → without_key gone.key (xs ++ (gone ∷ ys)) ≡ xs ++ ys
without-between gone [] ys h = rw (self gone.key) refl
  where
    self : (k : List ℕ) → bytes_eq k k ≡ true
    self k = sym (is_eq-slice_cmp k k) ∙ by-turn (slice_cmp nat_cmp k k) (nat_list_cmp_total.antisymm k k)
      where
        by-turn : (o : Ordering) → o ≡ ordering_reverse o → is_eq o ≡ true
        by-turn Less e = cc
        by-turn Equal e = refl
        by-turn Greater e = cc
without-between gone (x ∷ xs) ys h = rw (less-other x.key gone.key h.0) (ap (λ (t : List Entry). x ∷ t) (without-between gone xs ys h.1))

-- Entries parted where a new key goes in.
pub record IsParted (new : Entry) (es : List Entry) : Type 0 where
  pub low : List Entry
  pub high : List Entry
  pub was : es ≡ low ++ high
  pub is : with_entry new es ≡ low ++ (new ∷ high)
  pub below : AreBelow new.key low
  pub above : is_below_first new.key high ≡ true

pub parted : (new : Entry) (es : List Entry) → address_of new.key es ≡ None → IsParted new es
parted new [] none = record { low = []; high = []; was = refl; is = refl; below = tt; above = refl }
parted new (e ∷ es) none = by-equal (bytes_eq e.key new.key) refl none (parted new es)
  where
    turned : bytes_eq e.key new.key ≡ false → bytes_eq new.key e.key ≡ false
    turned h = sym (is_eq-slice_cmp new.key e.key) ∙ ap is_eq (nat_list_cmp_total.antisymm new.key e.key) ∙ by-turn (slice_cmp nat_cmp e.key new.key) (is_eq-slice_cmp e.key new.key ∙ h)
      where
        by-turn : (o : Ordering) → is_eq o ≡ false → is_eq (ordering_reverse o) ≡ false
        by-turn Less e = refl
        by-turn Equal e = cc
        by-turn Greater e = refl

    by-test : (b : Bool) → key_less new.key e.key ≡ b → bytes_eq e.key new.key ≡ false → IsParted new es → IsParted new (e ∷ es)
    by-test true is other rest = record { low = []; high = e ∷ es; was = refl; is = rw is refl; below = tt; above = is }
    by-test false is other rest = record {
      low = e ∷ rest.low;
      high = rest.high;
      was = ap (λ (t : List Entry). e ∷ t) rest.was;
      is = rw is (ap (λ (t : List Entry). e ∷ t) rest.is);
      below = (not-less new.key e.key is (turned other), rest.below);
      above = rest.above;
    }

    by-equal : (q : Bool) → bytes_eq e.key new.key ≡ q → cond q (Some e.address) (address_of new.key es) ≡ None → (address_of new.key es ≡ None → IsParted new es) → IsParted new (e ∷ es)
    by-equal true is none rest = absurd (cc)
    by-equal false is none rest = by-test (key_less new.key e.key) refl is (rest none)
