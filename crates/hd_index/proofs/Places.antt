-- What the entry at the place of a key says of the key, and where it leads.
use Rattle.std.proofs.Common.{◌≡◌, ℕ, suc, ◌-◌, ◌≤◌, Bool, true, false, cond, List, [], ◌∷◌, length, Some, None, refl, sym, ap, ◌∙◌, subst, arith}
use Rattle.std.specs.Prelude.{slice_get, bytes_eq, min}
use Rattle.std.proofs.lemmas.Bool.{and_parts}
use Rattle.hd_volume.specs.Entries.{Entry}
use Rattle.hd_volume.specs.Indexes.{key_less, is_below_first, keys_ascend}
use Rattle.hd_index_blocks.specs.Fields.{below_count}
use Rattle.hd_index_blocks.specs.Maps.{address_of, address_from}
use Rattle.hd_index_blocks.specs.Levels.{AreBelow}
use Rattle.hd_index_blocks.specs.Ways.{child_of}
use Rattle.hd_index_blocks.proofs.Keys.{less-other, not-less, first-less, address-above}

-- no more are below a key than there are
pub below-most : (k : List ℕ) (es : List Entry) → below_count k es ≤ length es
below-most k [] = omega arith
below-most k (e ∷ es) = by-test (key_less e.key k) (below-most k es)
  where
    by-test : (b : Bool) → below_count k es ≤ length es → cond b (suc (below_count k es)) 0 ≤ suc (length es)
    by-test true h = omega arith
    by-test false h = omega arith

-- where as many are below a key as there are, all are
pub below-all : (k : List ℕ) (es : List Entry) → length es ≤ below_count k es → AreBelow k es
below-all k [] h = tt
below-all k (e ∷ es) h = by-test (key_less e.key k) refl h (below-all k es)
  where
    by-test : (b : Bool) → key_less e.key k ≡ b → suc (length es) ≤ cond b (suc (below_count k es)) 0 → (length es ≤ below_count k es → AreBelow k es)
        → (key_less e.key k ≡ true) × AreBelow k es
    by-test true is l rest = (is, rest (omega arith))
    by-test false is l rest = absurd (omega arith)

-- a key above all is not there
pub address-past : (k : List ℕ) (es : List Entry) → AreBelow k es → address_of k es ≡ None
address-past k [] h = refl
address-past k (e ∷ es) h = rw (less-other e.key k h.0) (address-past k es h.1)

-- nor is one that is not below it
pub from-past : (k : List ℕ) (es : List Entry) → AreBelow k es → address_from k es ≡ None
from-past k [] h = refl
from-past k (e ∷ es) h = rw h.0 (from-past k es h.1)

-- the entry at the place of a key is the first that is not below it
pub from-here : (k : List ℕ) (es : List Entry) (x : Entry) → slice_get es (below_count k es) ≡ Some x → address_from k es ≡ Some x.address
from-here k [] x there = cc
from-here k (e ∷ es) x there = by-test (key_less e.key k) there (from-here k es x)
  where
    by-test : (b : Bool) → slice_get (e ∷ es) (cond b (suc (below_count k es)) 0) ≡ Some x → (slice_get es (below_count k es) ≡ Some x → address_from k es ≡ Some x.address)
        → cond b (address_from k es) (Some e.address) ≡ Some x.address
    by-test true is rest = rest is
    by-test false is rest = let one : e ≡ x = cc in ap (λ (t : Entry). Some t.address) one

-- where it has the key, that is found
pub address-here : (k : List ℕ) (es : List Entry) (x : Entry) → slice_get es (below_count k es) ≡ Some x → bytes_eq x.key k ≡ true → address_of k es ≡ Some x.address
address-here k [] x there same = cc
address-here k (e ∷ es) x there same = by-test (key_less e.key k) refl there (address-here k es x)
  where
    by-test : (b : Bool) → key_less e.key k ≡ b → slice_get (e ∷ es) (cond b (suc (below_count k es)) 0) ≡ Some x
        → (slice_get es (below_count k es) ≡ Some x → bytes_eq x.key k ≡ true → address_of k es ≡ Some x.address) → address_of k (e ∷ es) ≡ Some x.address
    by-test true is there rest = rw (less-other e.key k is) (rest there same)
    by-test false is there rest =
        let one : e ≡ x = cc in
        let eq : bytes_eq e.key k ≡ true = ap (λ (t : Entry). bytes_eq t.key k) one ∙ same in
        rw eq (ap (λ (t : Entry). Some t.address) one)

-- where it has another, the key is not there
pub address-none : (k : List ℕ) (es : List Entry) (x : Entry) → slice_get es (below_count k es) ≡ Some x → bytes_eq x.key k ≡ false → keys_ascend es ≡ true → address_of k es ≡ None
address-none k [] x there apart ascend = cc
address-none k (e ∷ es) x there apart ascend = by-test (key_less e.key k) refl there (address-none k es x)
  where
    parts : (is_below_first e.key es ≡ true) × (keys_ascend es ≡ true)
    parts = and_parts (is_below_first e.key es) (keys_ascend es) ascend

    by-test : (b : Bool) → key_less e.key k ≡ b → slice_get (e ∷ es) (cond b (suc (below_count k es)) 0) ≡ Some x
        → (slice_get es (below_count k es) ≡ Some x → bytes_eq x.key k ≡ false → keys_ascend es ≡ true → address_of k es ≡ None) → address_of k (e ∷ es) ≡ None
    by-test true is there rest = rw (less-other e.key k is) (rest there apart parts.1)
    by-test false is there rest =
        let one : e ≡ x = cc in
        let other : bytes_eq e.key k ≡ false = ap (λ (t : Entry). bytes_eq t.key k) one ∙ apart in
        let less = not-less e.key k is other in
        rw other (address-above k es (first-less k e.key es less parts.0) parts.1)

-- a key leads to what the entry at its place names, or the last one
pub child-here : (key : List ℕ) (es : List Entry) (i : ℕ) (x : Entry) → i ≡ min (below_count key es) (length es - 1) → slice_get es i ≡ Some x → x.address ≡ child_of key es
child-here key [] i x e h = absurd (cc)
child-here key (a ∷ []) i x e h = by-test (key_less a.key key) e h
  where
    one : (j : ℕ) → j ≡ 0 → slice_get (a ∷ []) j ≡ Some x → x.address ≡ a.address
    one j z h = let G : ℕ → Type 0 = λ t. slice_get (a ∷ []) t ≡ Some x in let s = subst G z h in let same : a ≡ x = cc in sym (ap (λ (t : Entry). t.address) same)

    by-test : (b : Bool) → i ≡ min (cond b 1 0) (1 - 1) → slice_get (a ∷ []) i ≡ Some x → x.address ≡ a.address
    by-test true e h = one i (omega (arith, e)) h
    by-test false e h = one i (omega (arith, e)) h
child-here key (a ∷ f ∷ es) i x e h = by-test (key_less a.key key) e h (λ j e2 h2. child-here key (f ∷ es) j x e2 h2)
  where
    zero-case : (j : ℕ) → j ≡ 0 → slice_get (a ∷ f ∷ es) j ≡ Some x → x.address ≡ a.address
    zero-case j z h =
        let G : ℕ → Type 0 = λ t. slice_get (a ∷ f ∷ es) t ≡ Some x in let s = subst G z h in let same : a ≡ x = cc in sym (ap (λ (t : Entry). t.address) same)

    suc-case : (j m : ℕ) → j ≡ suc m → slice_get (a ∷ f ∷ es) j ≡ Some x → slice_get (f ∷ es) m ≡ Some x
    suc-case j m z h = let G : ℕ → Type 0 = λ t. slice_get (a ∷ f ∷ es) t ≡ Some x in subst G z h

    by-test : (b : Bool) → i ≡ min (cond b (suc (below_count key (f ∷ es))) 0) (suc (suc (length es)) - 1) → slice_get (a ∷ f ∷ es) i ≡ Some x
        → ((j : ℕ) → j ≡ min (below_count key (f ∷ es)) (suc (length es) - 1) → slice_get (f ∷ es) j ≡ Some x → x.address ≡ child_of key (f ∷ es))
        → x.address ≡ cond b (child_of key (f ∷ es)) a.address
    by-test true e h rest =
        let m : ℕ = min (below_count key (f ∷ es)) (suc (length es) - 1) in
        rest m refl (suc-case i m (omega (arith, e)) h)
    by-test false e h rest = zero-case i (omega (arith, e)) h
