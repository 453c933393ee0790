-- Down to where a new key comes in: by the greatest key below it.
use Rattle.std.proofs.Common.{◌≡◌, ◌⊎◌, inl, inr, ℕ, suc, Bool, true, false, cond, List, [], ◌∷◌, ◌++◌, refl, sym, ap, ◌∙◌, subst, None}
use Rattle.std.proofs.lemmas.Bool.{and_parts}
use Rattle.std.proofs.lemmas.List.{append_assoc, append-nil}
use Rattle.hd_volume.specs.Entries.{Entry}
use Rattle.hd_volume.specs.Indexes.{key_less, is_below_first, keys_ascend}
use Rattle.hd_volume.proofs.KeyLemmas.{less-trans, less-not}
use Rattle.hd_index_blocks.specs.Maps.{address_of, greatest_below, last_key}
use Rattle.hd_index_blocks.specs.Levels.{IndexBlocks, across, named, entries_below, AreUpTo, AreBelow, AreBounds, IsIndexSet}
use Rattle.hd_index_blocks.specs.Ways.{child_of, IsAround, IsNamed}
use Rattle.hd_index_blocks.proofs.Keys.{less-self, less-upto, upto-below, below-upto, below-less, below-append, below-parts, ascend-parts, first-behind, IsParted, parted}
use Rattle.hd_index_blocks.proofs.Levels.{across-append, across-about, named-append, entries-append, bounds-behind}
use Rattle.hd_index_blocks.proofs.Sets.{set-ascends, first-below, last-upto}
use Rattle.hd_index_blocks.proofs.Descents.{stepped, names-of}

-- ---- the greatest key below a key

greatest-behind : (other key : List ℕ) (xs ys : List Entry) → AreBelow key xs → greatest_below other key (xs ++ ys) ≡ greatest_below (last_key other xs) key ys
greatest-behind other key [] ys h = refl
greatest-behind other key (x ∷ xs) ys h = rw h.0 (greatest-behind x.key key xs ys h.1)

greatest-before : (other key : List ℕ) (xs ys : List Entry) → is_below_first key ys ≡ true → greatest_below other key (xs ++ ys) ≡ greatest_below other key xs
greatest-before other key [] [] h = refl
greatest-before other key [] (y ∷ ys) h = let no = less-not key y.key h in rw no refl
greatest-before other key (x ∷ xs) ys h = by-test (key_less x.key key) (greatest-before x.key key xs ys h)
  where
    by-test : (b : Bool) → greatest_below x.key key (xs ++ ys) ≡ greatest_below x.key key xs
        → cond b (greatest_below x.key key (xs ++ ys)) other ≡ cond b (greatest_below x.key key xs) other
    by-test true rest = rest
    by-test false rest = refl

pub greatest-near : (c : IndexBlocks) (key : List ℕ) (left : List ℕ) (n : ℕ) (right : List ℕ) → IsAround c key 0 left n right
    → greatest_below key key (across c (left ++ (n ∷ right))) ≡ greatest_below (last_key key (across c left)) key (c.entries n)
greatest-near c key left n right a =
    ap (greatest_below key key) (across-append c left (n ∷ right)) ∙ greatest-behind key key (across c left) (c.entries n ++ across c right) a.below
    ∙ greatest-before (last_key key (across c left)) key (c.entries n) (across c right) a.above

-- Entries parted at a new key, and the greatest key below it: that of the last entry in front, or itself where none is in front.
pub record IsGreatest (key by : List ℕ) (es : List Entry) : Type 0 where
  pub low : List Entry
  pub high : List Entry
  pub was : es ≡ low ++ high
  pub below : AreBelow key low
  pub above : is_below_first key high ≡ true
  pub upto : AreUpTo by low
  pub by_is : key_less key by ≡ false
  pub ends : (low ≡ []) ⊎ ((front : List Entry) × (e : Entry) × (low ≡ front ++ (e ∷ [])) × (e.key ≡ by))

-- Entries with their last one.
record HasLast (es : List Entry) : Type 0 where
  front : List Entry
  entry : Entry
  is : es ≡ front ++ (entry ∷ [])
  key_is : (other : List ℕ) → last_key other es ≡ entry.key

has-last : (x : Entry) (xs : List Entry) → HasLast (x ∷ xs)
has-last x [] = record { front = []; entry = x; is = refl; key_is = λ other. refl }
has-last x (y ∷ ys) = let rest = has-last y ys in record { front = x ∷ rest.front; entry = rest.entry; is = ap (λ (t : List Entry). x ∷ t) rest.is; key_is = λ other. rest.key_is x.key }

not-self : (k : List ℕ) → key_less k k ≡ false
not-self k = by-test (key_less k k) refl
  where
    by-test : (b : Bool) → key_less k k ≡ b → b ≡ false
    by-test true h = absurd (less-self k h)
    by-test false h = refl

greatest-is : (key : List ℕ) (es : List Entry) → address_of key es ≡ None → keys_ascend es ≡ true → IsGreatest key (greatest_below key key es) es
greatest-is key es none ascend = by-low p.low p.was p.below
  where
    p : IsParted (record { key = key; address = 0 }) es
    p = parted (record { key = key; address = 0 }) es none

    by-low : (low : List Entry) → es ≡ low ++ p.high → AreBelow key low → IsGreatest key (greatest_below key key es) es
    by-low [] was below =
        let by : greatest_below key key es ≡ key = ap (greatest_below key key) was ∙ greatest-before key key [] p.high p.above in
        record { low = []; high = p.high; was = was; below = tt; above = p.above; upto = tt; by_is = ap (key_less key) by ∙ not-self key; ends = inl refl }
    by-low (x ∷ xs) was below =
        let l = has-last x xs in
        let A : List Entry → Type 0 = λ t. keys_ascend t ≡ true in
        let B : List Entry → Type 0 = λ t. AreBelow key t in
        let by : greatest_below key key es ≡ l.entry.key =
        ap (greatest_below key key) was ∙ greatest-before key key (x ∷ xs) p.high p.above ∙ ap (greatest_below key key) (sym (append-nil (x ∷ xs))) ∙ greatest-behind key key (x ∷ xs) [] below ∙ l.key_is key in
        let low : keys_ascend (l.front ++ (l.entry ∷ [])) ≡ true = subst A l.is (ascend-parts (x ∷ xs) p.high (subst A was ascend)).0 in
        let up : AreUpTo l.entry.key (x ∷ xs) = subst (λ (t : List Entry). AreUpTo l.entry.key t) (sym l.is) (last-upto l.front l.entry low) in
        let own : AreBelow key (l.front ++ (l.entry ∷ [])) = subst B l.is below in
        let less : key_less l.entry.key key ≡ true = (below-parts key l.front (l.entry ∷ []) own).1.0 in
        record {
          low = x ∷ xs;
          high = p.high;
          was = was;
          below = below;
          above = p.above;
          upto = subst (λ (k : List ℕ). AreUpTo k (x ∷ xs)) (sym by) up;
          by_is = ap (key_less key) by ∙ less-not l.entry.key key less;
          ends = inr (l.front, l.entry, l.is, sym by);
        }

-- ---- where entries stand among all

-- an entry above the greatest key below a new one is above the new one
above-from : (key by : List ℕ) (low high ys : List Entry) (x : Entry) (xs : List Entry) → low ++ high ≡ ys ++ (x ∷ xs) → AreUpTo by low → key_less by x.key ≡ true
    → is_below_first key high ≡ true → keys_ascend (low ++ high) ≡ true → key_less key x.key ≡ true
above-from key by [] high ys x xs e upto less first a =
    let F : List Entry → Type 0 = λ t. is_below_first key t ≡ true in
    let A : List Entry → Type 0 = λ t. keys_ascend t ≡ true in
    first-behind key ys x xs (subst F e first) (subst A e a)
above-from key by (z ∷ low) high [] x xs e upto less first a =
    let same : z ≡ x = cc in
    let no : key_less by x.key ≡ false = ap (λ (t : Entry). key_less by t.key) (sym same) ∙ upto.0 in absurd (cc)
above-from key by (z ∷ low) high (y ∷ ys) x xs e upto less first a =
    let rest : low ++ high ≡ ys ++ (x ∷ xs) = cc in
    above-from key by low high ys x xs rest upto.1 less first (and_parts (is_below_first z.key (low ++ high)) (keys_ascend (low ++ high)) a).1

-- An entry that is not among those in front stands behind them.
record StandsBehind (e : Entry) (es : List Entry) : Type 0 where
  front : List Entry
  back : List Entry
  is : es ≡ front ++ (e ∷ back)

stands-behind : (e : Entry) (xs ys front back : List Entry) → xs ++ ys ≡ front ++ (e ∷ back) → AreBelow e.key xs → StandsBehind e ys
stands-behind e [] ys front back eq below = record { front = front; back = back; is = eq }
stands-behind e (x ∷ xs) ys [] back eq below =
    let same : x ≡ e = cc in
    absurd (less-self e.key (ap (λ (t : Entry). key_less t.key e.key) (sym same) ∙ below.0))
stands-behind e (x ∷ xs) ys (z ∷ front) back eq below = let rest : xs ++ ys ≡ front ++ (e ∷ back) = cc in stands-behind e xs ys front back rest below.1

-- upper keys to the left of an entry of the sequence set are below it
left-keys : (c : IndexBlocks) (l : ℕ) (e : Entry) (xs ys : List Entry) → AreBounds c l (xs ++ ys) → keys_ascend (entries_below c l (named (xs ++ ys))) ≡ true → StandsBehind e (entries_below c l (named ys)) → AreBelow e.key xs
left-keys c l e [] ys b a s = tt
left-keys c l e (x ∷ xs) ys b a s =
    let A : List Entry → Type 0 = λ t. keys_ascend t ≡ true in
    let F : List Entry → Type 0 = λ t. is_below_first x.key t ≡ true in
    let tail = (ascend-parts (entries_below c l (x.address ∷ [])) (entries_below c l (named (xs ++ ys))) (subst A (entries-append c l (x.address ∷ []) (named (xs ++ ys))) a)).1 in
    let U : List Entry = entries_below c l (named xs) in
    let whole : entries_below c l (named (xs ++ ys)) ≡ (U ++ s.front) ++ (e ∷ s.back) =
    ap (entries_below c l) (named-append xs ys) ∙ entries-append c l (named xs) (named ys) ∙ ap (λ (t : List Entry). U ++ t) s.is ∙ sym (append_assoc U s.front (e ∷ s.back)) in
    (first-behind x.key (U ++ s.front) e s.back (subst F whole b.1) (subst A whole tail), left-keys c l e xs ys b.2 tail s)

-- ---- one step down

below-upto-less : (by key : List ℕ) (es : List Entry) → AreBelow by es → key_less key by ≡ false → AreBelow key es
below-upto-less by key [] h up = tt
below-upto-less by key (e ∷ es) h up = (less-upto e.key by key h.0 up, below-upto-less by key es h.1 up)

module _ (c : IndexBlocks) (key by : List ℕ) (l : ℕ) (left : List ℕ) (p : ℕ) (right : List ℕ) (a : IsAround c by (suc l) left p right) (g : IsGreatest key by (entries_below c (suc l) (left ++ (p ∷ right)))) where
  -- the upper keys of the blocks to the left are below the new key
  left-below : AreBelow key (across c left)
  left-below = by-ends g.ends
    where
      whole : entries_below c (suc l) (left ++ (p ∷ right)) ≡ entries_below c (suc l) left ++ entries_below c (suc l) (p ∷ right)
      whole = entries-append c (suc l) left (p ∷ right)

      none : (ns : List ℕ) → IsIndexSet c (suc l) (ns ++ (p ∷ right)) → AreBelow by (entries_below c (suc l) ns) → is_below_first key (entries_below c (suc l) (ns ++ (p ∷ right))) ≡ true → AreBelow key (across c ns)
      none [] set below first = tt
      none (n ∷ ns) set below first =
          let x = first-below c (suc l) n (ns ++ (p ∷ right)) set in
          let B : List Entry → Type 0 = λ t. AreBelow by t in
          let F : List Entry → Type 0 = λ t. is_below_first key t ≡ true in
          let one : key_less x.entry.key by ≡ true = (subst B (entries-append c (suc l) (n ∷ []) ns ∙ ap (λ (t : List Entry). t ++ entries_below c (suc l) ns) x.is) below).0 in
          let two : key_less key x.entry.key ≡ true = subst F (entries-append c (suc l) (n ∷ []) (ns ++ (p ∷ right)) ∙ ap (λ (t : List Entry). t ++ entries_below c (suc l) (ns ++ (p ∷ right))) x.is) first in
          absurd (no (less-trans key x.entry.key by two one) g.by_is)
        where
          no : key_less key by ≡ true → key_less key by ≡ false → ⊥
          no h k = cc

      by-ends : (g.low ≡ []) ⊎ ((front : List Entry) × (e : Entry) × (g.low ≡ front ++ (e ∷ [])) × (e.key ≡ by)) → AreBelow key (across c left)
      by-ends (inl empty) =
          let F : List Entry → Type 0 = λ t. is_below_first key t ≡ true in
          none left a.set a.below (subst F (sym (g.was ∙ ap (λ (t : List Entry). t ++ g.high) empty)) g.above)
      by-ends (inr s) =
          let front = s.0 in let e = s.1 in
          let at : entries_below c (suc l) left ++ entries_below c (suc l) (p ∷ right) ≡ front ++ (e ∷ g.high) =
          sym whole ∙ g.was ∙ ap (λ (t : List Entry). t ++ g.high) s.2 ∙ append_assoc front (e ∷ []) g.high in
          let K : List ℕ → Type 0 = λ k. AreBelow k (entries_below c (suc l) left) in
          let behind = stands-behind e (entries_below c (suc l) left) (entries_below c (suc l) (p ∷ right)) front g.high at (subst K (sym s.3) a.below) in
          let B : List Entry → Type 0 = λ t. AreBounds c l t in
          let A : List Entry → Type 0 = λ t. keys_ascend (entries_below c l (named t)) ≡ true in
          let row = across-append c left (p ∷ right) in
          let keys = left-keys c l e (across c left) (across c (p ∷ right)) (subst B row a.set.1) (subst A row (set-ascends c (suc l) (left ++ (p ∷ right)) a.set)) behind in
          let X : List Entry → Type 0 = λ t. AreBelow key t in
          let own : AreBelow key (front ++ (e ∷ [])) = subst X s.2 g.below in
          below-less e.key key (across c left) keys (below-parts key front (e ∷ []) own).1.0

  pub come-in : (before behind : List ℕ) × (s : IsNamed c before (child_of by (c.entries p)) behind left p right)
      × AreBelow key (across c left ++ s.front) × (key_less s.entry.key key ≡ true → AreUpTo key (entries_below c l (child_of by (c.entries p) ∷ [])))
      × (is_below_first key (entries_below c l behind) ≡ true) × IsAround c by l before (child_of by (c.entries p)) behind
  come-in =
      let s = stepped c by l left p right a in
      let n = s.named_by in
      let child : ℕ = child_of by (c.entries p) in
      let B : List Entry → Type 0 = λ t. AreBounds c l t in
      let U : ℕ → Type 0 = λ i. AreUpTo n.entry.key (entries_below c l (i ∷ [])) in
      let bounds = bounds-behind c l (across c left ++ n.front) (n.entry ∷ (n.back ++ across c right)) (subst B (across-about c left p right n.front (n.entry ∷ []) n.back n.is) a.set.1) in
      let own : AreUpTo n.entry.key (entries_below c l (child ∷ [])) = subst U n.child bounds.0 in
      let all : g.low ++ g.high ≡ (entries_below c l s.before ++ entries_below c l (child ∷ [])) ++ entries_below c l s.behind =
      sym g.was ∙ ap (entries_below c l) (names-of c s.before child s.behind left p right n) ∙ entries-append c l s.before (child ∷ s.behind)
      ∙ ap (λ (t : List Entry). entries_below c l s.before ++ t) (entries-append c l (child ∷ []) s.behind)
      ∙ sym (append_assoc (entries_below c l s.before) (entries_below c l (child ∷ [])) (entries_below c l s.behind)) in
      let A : List Entry → Type 0 = λ t. keys_ascend t ≡ true in
      let ascend : keys_ascend (g.low ++ g.high) ≡ true = subst A g.was (set-ascends c (suc l) (left ++ (p ∷ right)) a.set) in (
        s.before,
        s.behind,
        n,
        below-append key (across c left) n.front left-below (below-upto-less by key n.front s.less g.by_is),
        (λ less. below-upto key (entries_below c l (child ∷ [])) (upto-below n.entry.key key (entries_below c l (child ∷ [])) own less)),
        first (entries_below c l s.behind) (entries_below c l s.before ++ entries_below c l (child ∷ [])) all ascend s.around.above,
        s.around,
      )
    where
      first : (zs ys : List Entry) → g.low ++ g.high ≡ ys ++ zs → keys_ascend (g.low ++ g.high) ≡ true → is_below_first by zs ≡ true → is_below_first key zs ≡ true
      first [] ys e ascend above = refl
      first (x ∷ xs) ys e ascend above = above-from key by g.low g.high ys x xs e g.upto above g.above ascend

pub comes-in : (c : IndexBlocks) (key by : List ℕ) (l : ℕ) (left : List ℕ) (p : ℕ) (right : List ℕ) → IsAround c by (suc l) left p right → address_of key (entries_below c (suc l) (left ++ (p ∷ right))) ≡ None
    → by ≡ greatest_below key key (entries_below c (suc l) (left ++ (p ∷ right))) → IsGreatest key by (entries_below c (suc l) (left ++ (p ∷ right)))
comes-in c key by l left p right a none is =
    let G : List ℕ → Type 0 = λ k. IsGreatest key k (entries_below c (suc l) (left ++ (p ∷ right))) in
    subst G (sym is) (greatest-is key (entries_below c (suc l) (left ++ (p ∷ right))) none (set-ascends c (suc l) (left ++ (p ∷ right)) a.set))
