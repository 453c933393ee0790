-- An index set, and a volume of which nothing is wrong with the index.
use Rattle.std.proofs.Common.{◌≡◌, ◌≢◌, ◌⊎◌, inl, inr, ℕ, zero, suc, ◌+◌, ◌-◌, ◌<◌, ◌≤◌, ◌==◌, true, List, [], ◌∷◌, ◌++◌, Some, slice_index, refl, sym, ap, ◌∙◌, subst, arith, ne_eqb}
use Rattle.std.proofs.lemmas.Bool.{cases_eq, eq-eqb, and_parts}
use Rattle.hd_bytes.specs.Numbers.{number_at}
use Rattle.hd_volume.specs.Headers.{header_of}
use Rattle.hd_volume.specs.Volumes.{VolumeState, block_at, IsKind}
use Rattle.hd_volume.specs.Entries.{Entry, entries_in}
use Rattle.hd_volume.specs.Indexes.{key_less, is_below_first, keys_ascend, IsAmong}
use Rattle.hd_index_blocks.specs.Levels.{IndexBlocks, across, named, entries_below, blocks_down, AreUpTo, AreBounds, AreOnLevel, IsIndexSet}
use Rattle.hd_index_blocks.specs.Chains.{IsLinked, first_of, AreLevelsLinked}
use Rattle.hd_index_blocks.specs.IndexSets.{level_in, next_in, index_blocks, top_blocks, top_level, HasIndexSet}
use Rattle.hd_index_blocks.specs.Faultless.{IsFormRight, AreFormsRight, AreAbove, AreBetween, AreKeysRight, IsFaultless, IndexSetsAreFaultless}
use Rattle.hd_index_blocks.proofs.Keys.{first-less}
use Rattle.hd_index_blocks.proofs.Levels.{named-append, entries-append, entries-none}
use Rattle.hd_index_blocks.proofs.Sets.{set-behind, set-ascends, level-ascends, first-below}
use Rattle.hd_index_blocks.proofs.Downs.{among-parts, named-across, of-level, named-down}
use Rattle.hd_index_blocks.proofs.Places.{places-once}
use Rattle.hd_index_blocks.proofs.Volumes.{level-of, level-kind, some-count, top-is, index-blocks-right, tops-right}

-- ---- the bounds of neighbours

-- keys that ascend are all above what is below the first
first-above : (key : List ℕ) (xs ys : List Entry) → is_below_first key (xs ++ ys) ≡ true → keys_ascend (xs ++ ys) ≡ true → AreAbove key xs
first-above key [] ys first a = tt
first-above key (x ∷ xs) ys first a =
    let parts = and_parts (is_below_first x.key (xs ++ ys)) (keys_ascend (xs ++ ys)) a in
    (first, first-above key xs ys (first-less key x.key (xs ++ ys) first parts.0) parts.1)

bounds-between : (c : IndexBlocks) (l : ℕ) (es : List Entry) → AreBounds c l es → IsIndexSet c l (named es) → AreBetween c l es
bounds-between c l [] b s = tt
bounds-between c l (e ∷ []) b s = b.0
bounds-between c l (e ∷ f ∷ es) b s =
    let tail = set-behind c l (e.address ∷ []) (f.address ∷ named es) s in
    let parts = entries-append c l (f.address ∷ []) (named es) in
    let F : List Entry → Type 0 = λ t. is_below_first e.key t ≡ true in
    let A : List Entry → Type 0 = λ t. keys_ascend t ≡ true in
    let above = first-above e.key (entries_below c l (f.address ∷ [])) (entries_below c l (named es)) (subst F parts b.1) (subst A parts (set-ascends c l (f.address ∷ named es) tail)) in
    (b.0, above, bounds-between c l (f ∷ es) b.2 tail)

between-bounds : (c : IndexBlocks) (l : ℕ) (es : List Entry) → AreBetween c l es → IsIndexSet c l (named es) → AreBounds c l es
between-bounds c l [] b s = tt
between-bounds c l (e ∷ []) b s = (b, ap (is_below_first e.key) (entries-none c l), tt)
between-bounds c l (e ∷ f ∷ es) b s =
    let tail = set-behind c l (e.address ∷ []) (f.address ∷ named es) s in
    let x = first-below c l f.address (named es) tail in
    let A : List Entry → Type 0 = λ t. AreAbove e.key t in
    let F : List Entry → Type 0 = λ t. is_below_first e.key t ≡ true in
    let whole : entries_below c l (f.address ∷ named es) ≡ x.entry ∷ (x.rest ++ entries_below c l (named es)) =
    entries-append c l (f.address ∷ []) (named es) ∙ ap (λ (t : List Entry). t ++ entries_below c l (named es)) x.is in
    let above = subst A x.is b.1 in
    (b.0, subst F (sym whole) above.0, between-bounds c l (f ∷ es) b.2 tail)

-- ---- an index set has right keys, and so is one

keys-right : (c : IndexBlocks) (l : ℕ) (ns : List ℕ) → IsIndexSet c l ns → AreKeysRight c l ns
keys-right c zero ns s = s.1
keys-right c (suc l) ns s = (level-ascends c (suc l) ns s, bounds-between c l (across c ns) s.1 s.2, keys-right c l (named (across c ns)) s.2)

-- each of some blocks is of a level
abbrev pub AllOfLevel : IndexBlocks → ℕ → List ℕ → Type 0
AllOfLevel c l ns = (n : ℕ) → IsAmong n ns → c.level n ≡ Some l

-- Each block that has a level is right: it is not empty, and an upper one names blocks of the level below.
pub record AreNaming (c : IndexBlocks) : Type 0 where
  pub some : (n l : ℕ) → c.level n ≡ Some l → c.entries n ≢ []
  pub names : (n l m : ℕ) → c.level n ≡ Some (suc l) → IsAmong m (named (c.entries n)) → c.level m ≡ Some l

all-on : (c : IndexBlocks) (l : ℕ) (ns : List ℕ) → AreNaming c → AllOfLevel c l ns → AreOnLevel c l ns
all-on c l [] right all = tt
all-on c l (n ∷ ns) right all = (all n (inl refl), right.some n l (all n (inl refl)), all-on c l ns right (λ m a. all m (inr a)))

-- what blocks of a level name are blocks of the level below
across-names : (c : IndexBlocks) (l : ℕ) (ns : List ℕ) → AreNaming c → AllOfLevel c (suc l) ns → AllOfLevel c l (named (across c ns))
across-names c l [] right all m a = absurd a
across-names c l (n ∷ ns) right all m a =
    let A : List ℕ → Type 0 = λ t. IsAmong m t in
    elim (among-parts m (named (c.entries n)) (named (across c ns)) (subst A (named-append (c.entries n) (across c ns)) a)) [
      | inl here ↦ right.names n l m (all n (inl refl)) here
      | inr more ↦ across-names c l ns right (λ i b. all i (inr b)) m more
    ]

keys-set : (c : IndexBlocks) (l : ℕ) (ns : List ℕ) → AreNaming c → AllOfLevel c l ns → AreKeysRight c l ns → IsIndexSet c l ns
keys-set c zero ns right all keys = (all-on c 0 ns right all, keys)
keys-set c (suc l) ns right all keys =
    let low = keys-set c l (named (across c ns)) right (across-names c l ns right all) keys.2 in
    (all-on c (suc l) ns right all, between-bounds c l (across c ns) keys.1 low, low)

-- ---- the next blocks

next-among : (next : ℕ → ℕ) (start n : ℕ) (ns : List ℕ) → IsLinked next start ns → IsAmong n ns → (next n ≡ 0) ⊎ IsAmong (next n) ns
next-among next start n [] h a = absurd a
next-among next start n (m ∷ []) h (inl e) = inl (ap next e ∙ h.2)
next-among next start n (m ∷ []) h (inr a) = absurd a
next-among next start n (m ∷ i ∷ ns) h (inl e) = inr (inr (inl (ap next e ∙ h.2.0)))
next-among next start n (m ∷ i ∷ ns) h (inr a) = elim (next-among next (next m) n (i ∷ ns) h.2 a) [ inl last ↦ inl last | inr b ↦ inr (inr b) ]

next-on : (c : IndexBlocks) (next : ℕ → ℕ) (l j n : ℕ) (ns : List ℕ) → IsIndexSet c l ns → IsLinked next (first_of ns) ns → IsAmong n ns
    → c.level n ≡ Some j → (next n ≡ 0) ⊎ (c.level (next n) ≡ Some j)
next-on c next l j n ns s h among is =
    elim (next-among next (first_of ns) n ns h among) [
      | inl last ↦ inl last
      | inr more ↦ (let o = of-level c l n ns s among in let p = of-level c l (next n) ns s more in inr (p.level ∙ sym o.level ∙ is))
    ]

next-level : (c : IndexBlocks) (next : ℕ → ℕ) (l j n : ℕ) (ns : List ℕ) → IsIndexSet c l ns → AreLevelsLinked c next l ns → IsAmong n (blocks_down c l ns)
    → c.level n ≡ Some j → (next n ≡ 0) ⊎ (c.level (next n) ≡ Some j)
next-level c next zero j n ns s h among is = next-on c next 0 j n ns s h among is
next-level c next (suc l) j n ns s h among is =
    elim (among-parts n ns (blocks_down c l (named (across c ns))) among) [
      | inl here ↦ next-on c next (suc l) j n ns s h.0 here is
      | inr low ↦ next-level c next l j n (named (across c ns)) s.2 h.1 low is
    ]

-- ---- both ways

faultless : (k : ℕ) (v : VolumeState) → HasIndexSet k v → IsFaultless k v
faultless k v x = record {
  formatted = x.formatted;
  version = x.version;
  forms = record {
    height = x.height;
    top = λ some. (let t = tops-right k v x some in level-of v (header_of v.image).top t.is ∙ ap (λ (i : ℕ). Some i) t.level);
    blocks = forms;
  };
  once = places-once k v x;
  reached = x.reached;
  next = x.next;
  keys = keys-right (index_blocks k v) (top_level v) (top_blocks v) x.set;
}
  where
    forms : (n l : ℕ) → level_in v n ≡ Some l → IsFormRight k v l n
    forms n l is =
        let s = level-kind v n l is in
        let r = index-blocks-right k v n x s.0 in
        let low = r.0 in
        let own = s.1 in
        record {
          low = omega arith;
          some = r.1.some;
          count = r.1.count;
          next = next-level (index_blocks k v) (next_in v) (top_level v) l n (top_blocks v) x.set x.next (x.reached n s.0) is;
          names = λ j m e a.
              (let d = named-down (index_blocks k v) (top_level v) j m n (top_blocks v) x.set (x.reached n s.0) (is ∙ ap (λ (i : ℕ). Some i) e) a in d.1.level);
        }

has-set : (k : ℕ) (v : VolumeState) → IsFaultless k v → HasIndexSet k v
has-set k v x = record {
  formatted = x.formatted;
  version = x.version;
  height = x.forms.height;
  set = keys-set (index_blocks k v) (top_level v) (top_blocks v) naming tops x.keys;
  reached = x.reached;
  count = λ n i. (let f = x.forms.blocks n (slice_index (block_at v n) 3) (level-of v n i) in f.count);
  next = x.next;
}
  where
    naming : AreNaming (index_blocks k v)
    naming = record {
      some = λ n l is. (let f = x.forms.blocks n l is in some-count k (block_at v n) 12 (number_at 2 (block_at v n) 4) f.some);
      names = λ n l m is a. (let f = x.forms.blocks n (suc l) is in f.names l m refl a);
    }

    tops : AllOfLevel (index_blocks k v) (top_level v) (top_blocks v)
    tops n a =
        elim (cases_eq (header_of v.image).top 0) [
          | inl none ↦
              (let e : top_blocks v ≡ [] = rw (eq-eqb (header_of v.image).top 0 none) refl in
              let A : List ℕ → Type 0 = λ ns. IsAmong n ns in absurd (subst A e a))
          | inr some ↦
              (let A : List ℕ → Type 0 = λ ns. IsAmong n ns in
              let one : IsAmong n ((header_of v.image).top ∷ []) = subst A (top-is v (omega arith)) a in
              let L : ℕ → Type 0 = λ i. level_in v i ≡ Some (top_level v) in
              subst L (sym (only one)) (x.forms.top (omega arith)))
        ]
      where
        only : IsAmong n ((header_of v.image).top ∷ []) → n ≡ (header_of v.image).top
        only (inl e) = e
        only (inr b) = absurd b

pub sets-faultless : IndexSetsAreFaultless
sets-faultless k v = (faultless k v, has-set k v)
