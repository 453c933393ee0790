-- An entry of the sequence set with another address: its key stays, and so all above it stands as it stood.
use Rattle.std.proofs.Common.{◌≡◌, inl, inr, ℕ, zero, suc, Bool, true, false, cond, List, [], ◌∷◌, ◌++◌, Some, None, refl, sym, ap, ◌∙◌, subst, arith}
use Rattle.std.specs.Prelude.{bytes_eq}
use Rattle.std.proofs.lemmas.Bool.{cases_eq}
use Rattle.hd_volume.specs.Entries.{Entry}
use Rattle.hd_volume.specs.Indexes.{is_below_first, keys_ascend}
use Rattle.hd_index_blocks.specs.Maps.{address_of, with_address}
use Rattle.hd_index_blocks.specs.Levels.{IndexBlocks, across, named, sequence_set, entries_below, AreUpTo, AreBelow, AreBounds, AreOnLevel, IsIndexSet}
use Rattle.hd_index_blocks.specs.Ways.{leaf_of}
use Rattle.hd_index_blocks.specs.Changes.{OthersStay, UpperStay}
use Rattle.hd_index_blocks.proofs.Keys.{less-other, address-above}
use Rattle.hd_index_blocks.proofs.Levels.{across-append, named-append, on-parts, stay-across, stay-level, upper-stay}
use Rattle.hd_index_blocks.proofs.Sets.{set-behind, blocks-once}
use Rattle.hd_index_blocks.proofs.Descents.{leaf-is}
use Rattle.hd_index_blocks.proofs.Entering.{beside}

-- ---- the address at a key

-- a key that is not there has none
pub addressed-none : (key : List ℕ) (address : ℕ) (es : List Entry) → address_of key es ≡ None → with_address key address es ≡ es
addressed-none key address [] none = refl
addressed-none key address (e ∷ es) none = by-test (bytes_eq e.key key) none (addressed-none key address es)
  where
    by-test : (b : Bool) → cond b (Some e.address) (address_of key es) ≡ None → (address_of key es ≡ None → with_address key address es ≡ es)
        → cond b (record { key = e.key; address = address } ∷ es) (e ∷ with_address key address es) ≡ e ∷ es
    by-test true none rest = absurd (cc)
    by-test false none rest = ap (λ (t : List Entry). e ∷ t) (rest none)

-- it is sought behind the entries that are below it
pub addressed-behind : (key : List ℕ) (address : ℕ) (xs ys : List Entry) → AreBelow key xs → with_address key address (xs ++ ys) ≡ xs ++ with_address key address ys
addressed-behind key address [] ys h = refl
addressed-behind key address (x ∷ xs) ys h = rw (less-other x.key key h.0) (ap (λ (t : List Entry). x ∷ t) (addressed-behind key address xs ys h.1))

-- and before those that are above it
pub addressed-before : (key : List ℕ) (address : ℕ) (xs ys : List Entry) → is_below_first key ys ≡ true → keys_ascend ys ≡ true → with_address key address (xs ++ ys) ≡ with_address key address xs ++ ys
addressed-before key address [] ys first ascend = addressed-none key address ys (address-above key ys first ascend)
addressed-before key address (x ∷ xs) ys first ascend = by-test (bytes_eq x.key key) (addressed-before key address xs ys first ascend)
  where
    by-test : (b : Bool) → with_address key address (xs ++ ys) ≡ with_address key address xs ++ ys
        → cond b (record { key = x.key; address = address } ∷ (xs ++ ys)) (x ∷ with_address key address (xs ++ ys)) ≡ cond b (record { key = x.key; address = address } ∷ xs) (x ∷ with_address key address xs) ++ ys
    by-test true rest = refl
    by-test false rest = ap (λ (t : List Entry). x ∷ t) rest

-- ---- keys alone

-- entries without their addresses
abbrev pub bare : List Entry → List Entry
bare [] = []
bare (e ∷ es) = record { key = e.key; address = 0 } ∷ bare es

bare-append : (xs ys : List Entry) → bare (xs ++ ys) ≡ bare xs ++ bare ys
bare-append [] ys = refl
bare-append (x ∷ xs) ys = ap (λ (t : List Entry). record { key = x.key; address = 0 } ∷ t) (bare-append xs ys)

bare-none : (es : List Entry) → bare es ≡ [] → es ≡ []
bare-none [] h = refl
bare-none (e ∷ es) h = absurd (cc)

bare-first : (key : List ℕ) (es : List Entry) → is_below_first key (bare es) ≡ is_below_first key es
bare-first key [] = refl
bare-first key (e ∷ es) = refl

bare-ascend : (es : List Entry) → keys_ascend (bare es) ≡ keys_ascend es
bare-ascend [] = refl
bare-ascend (e ∷ es) = rw (bare-first e.key es, bare-ascend es) refl

bare-upto : (key : List ℕ) (es : List Entry) → AreUpTo key es → AreUpTo key (bare es)
bare-upto key [] h = tt
bare-upto key (e ∷ es) h = (h.0, bare-upto key es h.1)

upto-bare : (key : List ℕ) (es : List Entry) → AreUpTo key (bare es) → AreUpTo key es
upto-bare key [] h = tt
upto-bare key (e ∷ es) h = (h.0, upto-bare key es h.1)

-- what is known of keys is known of the same keys
pub ascend-same : (xs ys : List Entry) → bare ys ≡ bare xs → keys_ascend xs ≡ true → keys_ascend ys ≡ true
ascend-same xs ys same h = sym (bare-ascend ys) ∙ ap keys_ascend same ∙ bare-ascend xs ∙ h

first-same : (key : List ℕ) (xs ys : List Entry) → bare ys ≡ bare xs → is_below_first key xs ≡ true → is_below_first key ys ≡ true
first-same key xs ys same h = sym (bare-first key ys) ∙ ap (is_below_first key) same ∙ bare-first key xs ∙ h

upto-same : (key : List ℕ) (xs ys : List Entry) → bare ys ≡ bare xs → AreUpTo key xs → AreUpTo key ys
upto-same key xs ys same h = let U : List Entry → Type 0 = λ t. AreUpTo key t in upto-bare key ys (subst U (sym same) (bare-upto key xs h))

-- another address at a key leaves the keys
pub bare-addressed : (key : List ℕ) (address : ℕ) (es : List Entry) → bare (with_address key address es) ≡ bare es
bare-addressed key address [] = refl
bare-addressed key address (e ∷ es) = by-test (bytes_eq e.key key) (bare-addressed key address es)
  where
    by-test : (b : Bool) → bare (with_address key address es) ≡ bare es → bare (cond b (record { key = e.key; address = address } ∷ es) (e ∷ with_address key address es)) ≡ bare (e ∷ es)
    by-test true rest = refl
    by-test false rest = ap (λ (t : List Entry). record { key = e.key; address = 0 } ∷ t) rest

-- ---- blocks that keep their keys

-- Each of these blocks of a level, and of those below them, is of its level.
abbrev pub AreLevels : IndexBlocks → ℕ → List ℕ → Type 0
AreLevels c zero ns = AreOnLevel c 0 ns
AreLevels c (suc l) ns = AreOnLevel c (suc l) ns × AreLevels c l (named (across c ns))

set-levels : (c : IndexBlocks) (l : ℕ) (ns : List ℕ) → IsIndexSet c l ns → AreLevels c l ns
set-levels c zero ns s = s.0
set-levels c (suc l) ns s = (s.0, set-levels c l (named (across c ns)) s.2)

levels-parts : (c : IndexBlocks) (l : ℕ) (xs ys : List ℕ) → AreLevels c l (xs ++ ys) → AreLevels c l xs × AreLevels c l ys
levels-parts c zero xs ys h = on-parts c 0 xs ys h
levels-parts c (suc l) xs ys h =
    let L : List ℕ → Type 0 = λ t. AreLevels c l t in
    let on = on-parts c (suc l) xs ys h.0 in
    let rest = levels-parts c l (named (across c xs)) (named (across c ys)) (subst L (ap named (across-append c xs ys) ∙ named-append (across c xs) (across c ys)) h.1) in
    ((on.0, rest.0), (on.1, rest.1))

-- the sequence set below is of level 0
sequence-on : (c : IndexBlocks) (l : ℕ) (ns : List ℕ) → AreLevels c l ns → AreOnLevel c 0 (sequence_set c l ns)
sequence-on c zero ns h = h
sequence-on c (suc l) ns h = sequence-on c l (named (across c ns)) h.1

-- The blocks above the sequence set stay, and each of its blocks keeps its keys.
pub record KeepKeys (c d : IndexBlocks) : Type 0 where
  pub upper : UpperStay c d 0
  pub own : (x : ℕ) → c.level x ≡ Some 0 → (d.level x ≡ Some 0) × (bare (d.entries x) ≡ bare (c.entries x))

module _ (c d : IndexBlocks) (k : KeepKeys c d) where
  across-bare : (ns : List ℕ) → AreOnLevel c 0 ns → bare (across d ns) ≡ bare (across c ns)
  across-bare [] on = refl
  across-bare (n ∷ ns) on =
      bare-append (d.entries n) (across d ns)
      ∙ ap (λ (t : List Entry). t ++ bare (across d ns)) (k.own n on.0).1
      ∙ ap (λ (t : List Entry). bare (c.entries n) ++ t) (across-bare ns on.2)
      ∙ sym (bare-append (c.entries n) (across c ns))

  on-bare : (ns : List ℕ) → AreOnLevel c 0 ns → AreOnLevel d 0 ns
  on-bare [] on = tt
  on-bare (n ∷ ns) on = ((k.own n on.0).0, (λ none. on.1 (bare-none (c.entries n) (sym (k.own n on.0).1 ∙ ap bare none))), on-bare ns on.2)

  -- the sequence set below is the same
  sequence-same : (l : ℕ) (ns : List ℕ) → AreLevels c l ns → sequence_set d l ns ≡ sequence_set c l ns
  sequence-same zero ns h = refl
  sequence-same (suc l) ns h =
      ap (λ (t : List Entry). sequence_set d l (named t)) (stay-across c d (suc l) ns (upper-stay c d 0 (suc l) ns k.upper (omega arith) h.0)) ∙ sequence-same l (named (across c ns)) h.1

  below-bare : (l : ℕ) (ns : List ℕ) → AreLevels c l ns → bare (entries_below d l ns) ≡ bare (entries_below c l ns)
  below-bare l ns h = ap (λ (t : List ℕ). bare (across d t)) (sequence-same l ns h) ∙ across-bare (sequence_set c l ns) (sequence-on c l ns h)

  bounds-bare : (l : ℕ) (es : List Entry) → AreLevels c l (named es) → AreBounds c l es → AreBounds d l es
  bounds-bare l [] h b = tt
  bounds-bare l (e ∷ es) h b =
      let p = levels-parts c l (e.address ∷ []) (named es) h in (
        upto-same e.key (entries_below c l (e.address ∷ [])) (entries_below d l (e.address ∷ [])) (below-bare l (e.address ∷ []) p.0) b.0,
        first-same e.key (entries_below c l (named es)) (entries_below d l (named es)) (below-bare l (named es) p.1) b.1,
        bounds-bare l es p.1 b.2,
      )

  -- an index set stays one
  pub set-kept : (l : ℕ) (ns : List ℕ) → IsIndexSet c l ns → IsIndexSet d l ns
  set-kept zero ns s = (on-bare ns s.0, ascend-same (across c ns) (across d ns) (across-bare ns s.0) s.1)
  set-kept (suc l) ns s =
      let stay = upper-stay c d 0 (suc l) ns k.upper (omega arith) s.0 in
      let same : across d ns ≡ across c ns = stay-across c d (suc l) ns stay in
      let D : List Entry → Type 0 = λ t. AreBounds d l t in
      let N : List Entry → Type 0 = λ t. IsIndexSet d l (named t) in
      (stay-level c d (suc l) ns stay s.0, subst D (sym same) (bounds-bare l (across c ns) (set-levels c l (named (across c ns)) s.2) s.1), subst N (sym same) (set-kept l (named (across c ns)) s.2))

  -- over the same sequence set
  pub sequence-kept : (l : ℕ) (ns : List ℕ) → IsIndexSet c l ns → sequence_set d l ns ≡ sequence_set c l ns
  sequence-kept l ns s = sequence-same l ns (set-levels c l ns s)

-- ---- the whole

-- In the block of the sequence set that a key leads to, the entry of the key may have another address.
pub addressed : (c d : IndexBlocks) (h top : ℕ) (key : List ℕ) (address : ℕ) → IsIndexSet c h (top ∷ [])
    → (d.level (leaf_of c key h top) ≡ Some 0) × (d.entries (leaf_of c key h top) ≡ with_address key address (c.entries (leaf_of c key h top))) → OthersStay c d 0 (leaf_of c key h top) → UpperStay c d 0
    → IsIndexSet d h (top ∷ []) × (entries_below d h (top ∷ []) ≡ with_address key address (entries_below c h (top ∷ [])))
addressed c d h top key address set is others upper =
    let n : ℕ = leaf_of c key h top in
    let k : KeepKeys c d = record {
      upper = upper;
      own = λ x level. elim (cases_eq x n) [
        | inl e ↦ (ap d.level e ∙ is.0, ap (λ (i : ℕ). bare (d.entries i)) e ∙ ap bare is.1 ∙ bare-addressed key address (c.entries n) ∙ ap (λ (i : ℕ). bare (c.entries i)) (sym e))
        | inr other ↦ (let r = others x level other in (r.0, ap bare r.1))
      ];
    } in
    let f = leaf-is c key h top set in
    let a = f.around in
    let on = on-parts c 0 f.left (n ∷ f.right) a.set.0 in
    let once = blocks-once c 0 f.left n f.right a.set in
    let stay_left : across d f.left ≡ across c f.left = stay-across c d 0 f.left (beside c d 0 n f.left others on.0 once.0) in
    let stay_right : across d f.right ≡ across c f.right = stay-across c d 0 f.right (beside c d 0 n f.right others on.1.2 once.1) in
    let L : List Entry = across c f.left in
    let R : List Entry = across c f.right in
    let ascend : keys_ascend R ≡ true = (set-behind c 0 (n ∷ []) f.right (set-behind c 0 f.left (n ∷ f.right) a.set)).1 in
    let was : across c (f.left ++ (n ∷ f.right)) ≡ L ++ (c.entries n ++ R) = across-append c f.left (n ∷ f.right) in
    let now : across d (f.left ++ (n ∷ f.right)) ≡ L ++ (with_address key address (c.entries n) ++ R) =
    across-append d f.left (n ∷ f.right)
    ∙ ap (λ (t : List Entry). t ++ (d.entries n ++ across d f.right)) stay_left
    ∙ ap (λ (t : List Entry). L ++ (t ++ across d f.right)) is.1
    ∙ ap (λ (t : List Entry). L ++ (with_address key address (c.entries n) ++ t)) stay_right in
    let put : with_address key address (L ++ (c.entries n ++ R)) ≡ L ++ (with_address key address (c.entries n) ++ R) =
    addressed-behind key address L (c.entries n ++ R) a.below ∙ ap (λ (t : List Entry). L ++ t) (addressed-before key address (c.entries n) R a.above ascend) in (
      set-kept c d k h (top ∷ []) set,
      ap (across d) (sequence-kept c d k h (top ∷ []) set ∙ sym f.whole) ∙ now ∙ sym put ∙ ap (with_address key address) (sym was ∙ ap (across c) f.whole),
    )
