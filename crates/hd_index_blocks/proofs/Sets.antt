-- What follows from an index set: its keys ascend, on every level, and each of its blocks stands in it once.
use Rattle.std.proofs.Common.{◌≡◌, ◌≢◌, inl, inr, ℕ, zero, suc, Bool, true, false, List, [], ◌∷◌, ◌++◌, refl, sym, ap, ◌∙◌, subst}
use Rattle.std.proofs.lemmas.List.{append_assoc}
use Rattle.hd_volume.specs.Entries.{Entry}
use Rattle.hd_volume.specs.Indexes.{key_less, is_below_first, keys_ascend, IsAmong}
use Rattle.hd_index_blocks.specs.Levels.{IndexBlocks, across, named, entries_below, AreUpTo, AreBounds, IsIndexSet}
use Rattle.hd_index_blocks.proofs.Keys.{less-self, less-upto, below-upto, upto-append, ascend-parts, ascend-below}
use Rattle.hd_index_blocks.proofs.Levels.{nil, across-append, named-append, entries-append, on-parts, bounds-behind}

-- the keys of the sequence set below ascend
pub set-ascends : (c : IndexBlocks) (l : ℕ) (ns : List ℕ) → IsIndexSet c l ns → keys_ascend (entries_below c l ns) ≡ true
set-ascends c zero ns s = s.1
set-ascends c (suc l) ns s = set-ascends c l (named (across c ns)) s.2

-- the right part of an index set is one
pub set-behind : (c : IndexBlocks) (l : ℕ) (xs ys : List ℕ) → IsIndexSet c l (xs ++ ys) → IsIndexSet c l ys
set-behind c zero xs ys s =
    let A : List Entry → Type 0 = λ t. keys_ascend t ≡ true in
    ((on-parts c zero xs ys s.0).1, (ascend-parts (across c xs) (across c ys) (subst A (across-append c xs ys) s.1)).1)
set-behind c (suc l) xs ys s =
    let B : List Entry → Type 0 = λ t. AreBounds c l t in
    let M : List ℕ → Type 0 = λ t. IsIndexSet c l t in (
      (on-parts c (suc l) xs ys s.0).1,
      bounds-behind c l (across c xs) (across c ys) (subst B (across-append c xs ys) s.1),
      set-behind c l (named (across c xs)) (named (across c ys)) (subst M (ap named (across-append c xs ys) ∙ named-append (across c xs) (across c ys)) s.2),
    )

-- Entries, of which there is one.
pub record HasFirst (es : List Entry) : Type 0 where
  pub entry : Entry
  pub rest : List Entry
  pub is : es ≡ entry ∷ rest

has-first : (es : List Entry) → es ≢ [] → HasFirst es
has-first [] some = absurd (some refl)
has-first (e ∷ es) some = record { entry = e; rest = es; is = refl }

-- below a block of an index set there is an entry
pub first-below : (c : IndexBlocks) (l n : ℕ) (ns : List ℕ) → IsIndexSet c l (n ∷ ns) → HasFirst (entries_below c l (n ∷ []))
first-below c zero n ns s = has-first (c.entries n ++ []) (λ none. s.0.1 (sym (nil (c.entries n)) ∙ none))
first-below c (suc l) n ns s = by-first (has-first (c.entries n) s.0.1) (λ m ms g. first-below c l m ms g)
  where
    by-first : HasFirst (c.entries n) → ((m : ℕ) (ms : List ℕ) → IsIndexSet c l (m ∷ ms) → HasFirst (entries_below c l (m ∷ []))) → HasFirst (entries_below c (suc l) (n ∷ []))
    by-first f below =
        let S : List Entry → Type 0 = λ t. IsIndexSet c l (named (t ++ across c ns)) in
        let low = below f.entry.address (named (f.rest ++ across c ns)) (subst S f.is s.2) in
        let more : List Entry = entries_below c l (named (f.rest ++ [])) in
        record {
          entry = low.entry;
          rest = low.rest ++ more;
          is = ap (λ (t : List Entry). entries_below c l (named (t ++ []))) f.is ∙ entries-append c l (f.entry.address ∷ []) (named (f.rest ++ [])) ∙ ap (λ (t : List Entry). t ++ more) low.is;
        }

-- upper keys ascend by their bounds
pub bounds-ascend : (c : IndexBlocks) (l : ℕ) (es : List Entry) → AreBounds c l es → IsIndexSet c l (named es) → keys_ascend es ≡ true
bounds-ascend c l [] b s = refl
bounds-ascend c l (e ∷ []) b s = refl
bounds-ascend c l (e ∷ f ∷ es) b s =
    let tail = set-behind c l (e.address ∷ []) (f.address ∷ named es) s in
    let x = first-below c l f.address (named es) tail in
    let F : List Entry → Type 0 = λ t. is_below_first e.key t ≡ true in
    let U : List Entry → Type 0 = λ t. AreUpTo f.key t in
    let below : key_less e.key x.entry.key ≡ true =
    subst F (entries-append c l (f.address ∷ []) (named es) ∙ ap (λ (t : List Entry). t ++ entries_below c l (named es)) x.is) b.1 in
    let upto : key_less f.key x.entry.key ≡ false = (subst U x.is b.2.0).0 in
    let one : key_less e.key f.key ≡ true = less-upto e.key x.entry.key f.key below upto in
    let two : keys_ascend (f ∷ es) ≡ true = bounds-ascend c l (f ∷ es) b.2 tail in
    rw (one, two) refl

-- the keys of a level ascend
pub level-ascends : (c : IndexBlocks) (l : ℕ) (ns : List ℕ) → IsIndexSet c l ns → keys_ascend (across c ns) ≡ true
level-ascends c zero ns s = s.1
level-ascends c (suc l) ns s = bounds-ascend c l (across c ns) s.1 s.2

-- no block to the right is this one, since entries stand below it once
once-right : (c : IndexBlocks) (l n : ℕ) (ns : List ℕ) → IsIndexSet c l (n ∷ ns) → IsAmong n ns → ⊥
once-right c l n ns s among =
    let x = first-below c l n ns s in
    let A : List Entry → Type 0 = λ t. keys_ascend t ≡ true in
    let whole : keys_ascend ((x.entry ∷ x.rest) ++ entries_below c l ns) ≡ true =
    subst A (entries-append c l (n ∷ []) ns ∙ ap (λ (t : List Entry). t ++ entries_below c l ns) x.is) (set-ascends c l (n ∷ ns) s) in
    again x.entry x.rest x.is ns among x.rest whole
  where
    -- behind the first entry comes the same again
    again : (e : Entry) (rest : List Entry) → entries_below c l (n ∷ []) ≡ e ∷ rest → (ms : List ℕ) → IsAmong n ms → (before : List Entry) → keys_ascend (e ∷ (before ++ entries_below c l ms)) ≡ true → ⊥
    again e rest is [] among before a = among
    again e rest is (m ∷ ms) (inl same) before a =
        let A : List Entry → Type 0 = λ t. keys_ascend (e ∷ (before ++ t)) ≡ true in
        let eq : entries_below c l (m ∷ ms) ≡ e ∷ (rest ++ entries_below c l ms) =
        entries-append c l (m ∷ []) ms ∙ ap (λ (t : List Entry). t ++ entries_below c l ms) (ap (λ (i : ℕ). entries_below c l (i ∷ [])) (sym same) ∙ is) in
        let low = ascend-below (e ∷ before) e (rest ++ entries_below c l ms) (subst A eq a) in
        less-self e.key low.0
    again e rest is (m ∷ ms) (inr more) before a =
        let A : List Entry → Type 0 = λ t. keys_ascend (e ∷ t) ≡ true in
        again e rest is ms more (before ++ entries_below c l (m ∷ []))
        (subst A (ap (λ (t : List Entry). before ++ t) (entries-append c l (m ∷ []) ms) ∙ sym (append_assoc before (entries_below c l (m ∷ [])) (entries_below c l ms))) a)

-- each block stands once on its level
pub blocks-once : (c : IndexBlocks) (l : ℕ) (left : List ℕ) (n : ℕ) (right : List ℕ) → IsIndexSet c l (left ++ (n ∷ right)) → (IsAmong n left → ⊥) × (IsAmong n right → ⊥)
blocks-once c l left n right s = ((λ among. to-left left s among), once-right c l n right (set-behind c l left (n ∷ right) s))
  where
    meets : (xs : List ℕ) → IsAmong n (xs ++ (n ∷ right))
    meets [] = inl refl
    meets (x ∷ xs) = inr (meets xs)

    to-left : (xs : List ℕ) → IsIndexSet c l (xs ++ (n ∷ right)) → IsAmong n xs → ⊥
    to-left [] s among = among
    to-left (x ∷ xs) s (inl same) =
        let A : ℕ → Type 0 = λ i. IsAmong i (xs ++ (n ∷ right)) in
        once-right c l x (xs ++ (n ∷ right)) s (subst A same (meets xs))
    to-left (x ∷ xs) s (inr more) = to-left xs (set-behind c l (x ∷ []) (xs ++ (n ∷ right)) s) more

-- ---- the last key of a block is at least all below it

pub last-upto : (xs : List Entry) (e : Entry) → keys_ascend (xs ++ (e ∷ [])) ≡ true → AreUpTo e.key (xs ++ (e ∷ []))
last-upto xs e a = upto-append e.key xs (e ∷ []) (below-upto e.key xs (ascend-below xs e [] a)) (self e.key, tt)
  where
    self : (k : List ℕ) → key_less k k ≡ false
    self k = by-test (key_less k k) refl
      where
        by-test : (b : Bool) → key_less k k ≡ b → b ≡ false
        by-test true h = absurd (less-self k h)
        by-test false h = refl
