-- Down from a block to the one below it that a key leads to, and the block of the sequence set at the end.
use Rattle.std.proofs.Common.{◌≡◌, ◌≢◌, ◌⊎◌, inl, inr, ℕ, zero, suc, Bool, true, false, List, [], ◌∷◌, ◌++◌, refl, sym, ap, ◌∙◌, subst}
use Rattle.std.proofs.lemmas.List.{append_assoc}
use Rattle.hd_volume.specs.Entries.{Entry}
use Rattle.hd_volume.specs.Indexes.{key_less, is_below_first}
use Rattle.hd_index_blocks.specs.Maps.{address_of, address_from}
use Rattle.hd_index_blocks.specs.Levels.{IndexBlocks, across, named, sequence_set, entries_below, AreBelow, AreBounds, IsIndexSet}
use Rattle.hd_index_blocks.specs.Ways.{child_of, leaf_of, IsAround, IsNamed, IsWayDown}
use Rattle.hd_index_blocks.proofs.Keys.{upto-below, below-append, below-parts, first-upto, address-behind, address-before, from-behind}
use Rattle.hd_index_blocks.proofs.Levels.{across-append, across-about, named-append, entries-append, entries-none, on-parts, set-level, bounds-behind}
use Rattle.hd_index_blocks.proofs.Sets.{set-behind}

-- what stands below entries that are below a key is below it
pub below-under : (c : IndexBlocks) (l : ℕ) (key : List ℕ) (xs ys : List Entry) → AreBounds c l (xs ++ ys) → AreBelow key xs → AreBelow key (entries_below c l (named xs))
below-under c l key [] ys b less = let A : List Entry → Type 0 = λ es. AreBelow key es in subst A (sym (entries-none c l)) tt
below-under c l key (x ∷ xs) ys b less =
    let A : List Entry → Type 0 = λ es. AreBelow key es in
    subst A (sym (entries-append c l (x.address ∷ []) (named xs)))
    (below-append key (entries_below c l (x.address ∷ [])) (entries_below c l (named xs)) (upto-below x.key key (entries_below c l (x.address ∷ [])) b.0 less.0) (below-under c l key xs ys b.2 less.1))

-- the blocks that those of a level name, about one of them
pub names-about : (c : IndexBlocks) (left : List ℕ) (p : ℕ) (right : List ℕ) (front : List Entry) (e : Entry) (back : List Entry) → c.entries p ≡ front ++ (e ∷ back)
    → named (across c (left ++ (p ∷ right))) ≡ named (across c left ++ front) ++ (e.address ∷ named (back ++ across c right))
names-about c left p right front e back is =
    ap named (across-about c left p right front (e ∷ []) back is) ∙ named-append (across c left ++ front) (e ∷ (back ++ across c right))

-- down to the first entry of the block whose key is not below the key, or its last
pub around-down : (c : IndexBlocks) (key : List ℕ) (l : ℕ) (left : List ℕ) (p : ℕ) (right : List ℕ) (front : List Entry) (e : Entry) (back : List Entry)
    → c.entries p ≡ front ++ (e ∷ back) → AreBelow key front → (key_less e.key key ≡ false) ⊎ (back ≡ []) → IsAround c key (suc l) left p right
    → IsAround c key l (named (across c left ++ front)) e.address (named (back ++ across c right))
around-down c key l left p right front e back is less here h =
    let B : List Entry → Type 0 = λ es. AreBounds c l es in
    let S : List ℕ → Type 0 = λ ns. IsIndexSet c l ns in
    let A : List Entry → Type 0 = λ es. AreBelow key es in
    let rest : List Entry = e ∷ (back ++ across c right) in
    let all : AreBounds c l ((across c left ++ front) ++ rest) = subst B (across-about c left p right front (e ∷ []) back is) h.set.1 in
    let bounds : AreBounds c l (front ++ rest) = bounds-behind c l (across c left) (front ++ rest) (subst B (append_assoc (across c left) front rest) all) in
    let own = bounds-behind c l front rest bounds in
    record {
      set = subst S (names-about c left p right front e back is) h.set.2;
      below = subst A (sym (ap (entries_below c l) (named-append (across c left) front) ∙ entries-append c l (named (across c left)) (named front)))
          (below-append key (entries_below c l (named (across c left))) (entries_below c l (named front)) h.below (below-under c l key front rest bounds less));
      above = by-end here own.1;
    }
  where
    by-end : (key_less e.key key ≡ false) ⊎ (back ≡ []) → is_below_first e.key (entries_below c l (named (back ++ across c right))) ≡ true
        → is_below_first key (entries_below c l (named (back ++ across c right))) ≡ true
    by-end (inl not) first = first-upto e.key key (entries_below c l (named (back ++ across c right))) not first
    by-end (inr last) first =
        let F : List Entry → Type 0 = λ es. is_below_first key (entries_below c l (named (es ++ across c right))) ≡ true in
        subst F (sym last) h.above

-- The entries of a block, parted at the one that a key leads to.
pub record IsParted (key : List ℕ) (es : List Entry) : Type 0 where
  pub front : List Entry
  pub entry : Entry
  pub back : List Entry
  pub is : es ≡ front ++ (entry ∷ back)
  pub less : AreBelow key front
  pub here : (key_less entry.key key ≡ false) ⊎ (back ≡ [])
  pub child : entry.address ≡ child_of key es

pub parted : (key : List ℕ) (es : List Entry) → es ≢ [] → IsParted key es
parted key [] some = absurd (some refl)
parted key (e ∷ []) some = record { front = []; entry = e; back = []; is = refl; less = tt; here = inr refl; child = refl }
parted key (e ∷ f ∷ es) some = by-test (key_less e.key key) refl (parted key (f ∷ es) (λ no. cc))
  where
    by-test : (b : Bool) → key_less e.key key ≡ b → IsParted key (f ∷ es) → IsParted key (e ∷ f ∷ es)
    by-test true is rest = record {
      front = e ∷ rest.front;
      entry = rest.entry;
      back = rest.back;
      is = ap (λ (x : List Entry). e ∷ x) rest.is;
      less = (is, rest.less);
      here = rest.here;
      child = rest.child ∙ rw is refl;
    }
    by-test false is rest = record { front = []; entry = e; back = f ∷ es; is = refl; less = tt; here = inl is; child = rw is refl }

-- one step down, to the block that the key leads to
pub record IsStepped (c : IndexBlocks) (key : List ℕ) (l : ℕ) (left : List ℕ) (p : ℕ) (right : List ℕ) : Type 0 where
  pub before : List ℕ
  pub behind : List ℕ
  pub named_by : IsNamed c before (child_of key (c.entries p)) behind left p right
  pub less : AreBelow key named_by.front
  pub around : IsAround c key l before (child_of key (c.entries p)) behind

pub stepped : (c : IndexBlocks) (key : List ℕ) (l : ℕ) (left : List ℕ) (p : ℕ) (right : List ℕ) → IsAround c key (suc l) left p right → IsStepped c key l left p right
stepped c key l left p right a =
    let some = (on-parts c (suc l) left (p ∷ right) (set-level c (suc l) (left ++ (p ∷ right)) a.set)).1.1 in
    let s = parted key (c.entries p) some in
    let A : ℕ → Type 0 = λ i. IsAround c key l (named (across c left ++ s.front)) i (named (s.back ++ across c right)) in
    record {
      before = named (across c left ++ s.front);
      behind = named (s.back ++ across c right);
      named_by = record { front = s.front; entry = s.entry; back = s.back; is = s.is; child = s.child; left_is = refl; right_is = refl };
      less = s.less;
      around = subst A s.child (around-down c key l left p right s.front s.entry s.back s.is s.less s.here a);
    }

-- the names of a level about a block that is named
pub names-of : (c : IndexBlocks) (left : List ℕ) (n : ℕ) (right left_up : List ℕ) (p : ℕ) (right_up : List ℕ) → IsNamed c left n right left_up p right_up
    → named (across c (left_up ++ (p ∷ right_up))) ≡ left ++ (n ∷ right)
names-of c left n right left_up p right_up s =
    names-about c left_up p right_up s.front s.entry s.back s.is
    ∙ ap (λ (t : List ℕ). t ++ (s.entry.address ∷ named (s.back ++ across c right_up))) (sym s.left_is)
    ∙ ap (λ (t : List ℕ). left ++ (s.entry.address ∷ t)) (sym s.right_is)
    ∙ ap (λ (i : ℕ). left ++ (i ∷ right)) s.child

-- A place of the sequence set about a key.
pub record HasLeaf (c : IndexBlocks) (key : List ℕ) (all : List ℕ) (n : ℕ) : Type 0 where
  pub left : List ℕ
  pub right : List ℕ
  pub around : IsAround c key 0 left n right
  pub whole : left ++ (n ∷ right) ≡ all

-- the walk down from a block
pub leaf-from : (c : IndexBlocks) (key : List ℕ) (l : ℕ) (left : List ℕ) (n : ℕ) (right : List ℕ) → IsAround c key l left n right
    → HasLeaf c key (sequence_set c l (left ++ (n ∷ right))) (leaf_of c key l n)
leaf-from c key zero left n right a = record { left = left; right = right; around = a; whole = refl }
leaf-from c key (suc l) left n right a =
    let s = stepped c key l left n right a in
    let rest = leaf-from c key l s.before (child_of key (c.entries n)) s.behind s.around in
    record { left = rest.left; right = rest.right; around = rest.around; whole = rest.whole ∙ ap (sequence_set c l) (sym (names-of c s.before (child_of key (c.entries n)) s.behind left n right s.named_by)) }

-- the top, which stands alone, is about each key
pub top-around : (c : IndexBlocks) (key : List ℕ) (h top : ℕ) → IsIndexSet c h (top ∷ []) → IsAround c key h [] top []
top-around c key h top set =
    let A : List Entry → Type 0 = λ es. AreBelow key es in
    record { set = set; below = subst A (sym (entries-none c h)) tt; above = ap (is_below_first key) (entries-none c h) }

pub leaf-is : (c : IndexBlocks) (key : List ℕ) (h top : ℕ) → IsIndexSet c h (top ∷ []) → HasLeaf c key (sequence_set c h (top ∷ [])) (leaf_of c key h top)
leaf-is c key h top set = leaf-from c key h [] top [] (top-around c key h top set)

-- both look-ups are those of the block and what stands to its right
pub around-answers : (c : IndexBlocks) (key : List ℕ) (left : List ℕ) (n : ℕ) (right : List ℕ) → IsAround c key 0 left n right
    → (address_of key (across c (left ++ (n ∷ right))) ≡ address_of key (c.entries n)) × (address_from key (across c (left ++ (n ∷ right))) ≡ address_from key (c.entries n ++ across c right))
around-answers c key left n right a =
    let e : across c (left ++ (n ∷ right)) ≡ across c left ++ (c.entries n ++ across c right) = across-append c left (n ∷ right) in (
      ap (address_of key) e ∙ address-behind key (across c left) (c.entries n ++ across c right) a.below
          ∙ address-before key (c.entries n) (across c right) a.above (set-behind c 0 (n ∷ []) right (set-behind c 0 left (n ∷ right) a.set)).1,
      ap (address_from key) e ∙ from-behind key (across c left) (c.entries n ++ across c right) a.below,
    )

-- a way down is about its key
pub way-around : (c : IndexBlocks) (h top : ℕ) (key : List ℕ) (steps l : ℕ) (left : List ℕ) (n : ℕ) (right : List ℕ) → IsWayDown c h top key steps l left n right
    → IsIndexSet c l (left ++ (n ∷ right)) → IsAround c key l left n right
way-around c h top key zero l left n right way set =
    let A : List ℕ → Type 0 = λ ns. AreBelow key (entries_below c l ns) in
    let B : List Entry → Type 0 = λ es. AreBelow key es in
    record {
      set = set;
      below = subst A (sym way.1) (subst B (sym (entries-none c l)) tt);
      above = ap (λ (t : List ℕ). is_below_first key (entries_below c l t)) way.3 ∙ ap (is_below_first key) (entries-none c l);
    }
way-around c h top key (suc steps) l left n right way set =
    let left_up = way.0 in let p = way.1 in let right_up = way.2 in let s = way.3 in let below = way.4 in let own = way.5 in
    let up = way-around c h top key steps (suc l) left_up p right_up way.7 way.6 in
    let down = around-down c key l left_up p right_up s.front s.entry s.back s.is (below-parts key (across c left_up) s.front below).1 (inl own) up in
    let B : List ℕ → Type 0 = λ ns. AreBelow key (entries_below c l ns) in
    let F : List ℕ → Type 0 = λ ns. is_below_first key (entries_below c l ns) ≡ true in
    record { set = set; below = subst B (sym s.left_is) down.below; above = subst F (sym s.right_is) down.above }
