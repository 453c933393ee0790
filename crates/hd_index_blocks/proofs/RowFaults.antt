-- What the phase of a check that judges the levels finds of an index set: the order of the blocks and of the entries on each.
use Rattle.std.proofs.Common.{◌≡◌, ◌≢◌, ◌⊎◌, inl, inr, ℕ, zero, suc, ◌+◌, ◌-◌, ◌*◌, ◌<◌, ◌≤◌, ◌==◌, ◌&&◌, not, cond, Bool, true, false, List, [], ◌∷◌, ◌++◌, Option, Some, None, refl, sym, ap, ◌∙◌, subst, arith, ne_eqb}
use Rattle.std.specs.Prelude.{option_map}
use Rattle.std.specs.Option.{option_map_or}
use Rattle.std.proofs.lemmas.Bool.{cases_eq, eq-eqb, and_parts, and_from, false≢true}
use Rattle.hd_volume.specs.Headers.{header_of}
use Rattle.hd_volume.specs.Volumes.{VolumeState, block_at}
use Rattle.hd_volume.specs.Entries.{Entry, entries_in}
use Rattle.hd_volume.specs.Indexes.{key_less, keys_ascend, IsAmong}
use Rattle.hd_index_blocks.specs.Levels.{IndexBlocks, across, named, entries_below, AreUpTo}
use Rattle.hd_index_blocks.specs.Chains.{IsLinked, first_of, AreLevelsLinked}
use Rattle.hd_index_blocks.specs.IndexSets.{level_in, next_in, index_blocks, top_blocks, top_level, HasIndexSet}
use Rattle.hd_index_blocks.specs.Faultless.{AreFormsRight, AreAbove, AreBetween, AreKeysRight}
use Rattle.hd_index_blocks.specs.LevelFaults.{row_below, StandsBetween, IsWrongNext, last_entry, first_entry, is_up_to, is_below_all, keeps_bounds, is_right_entry, first_wrong, first_wrong_in, HasEntryOutOfOrder, StandsNowhere, HasNoFault, LevelsAreJudged, FaultsAreAll}
use Rattle.hd_index_blocks.proofs.Levels.{across-append}
use Rattle.hd_index_blocks.proofs.Volumes.{level-kind}
use Rattle.hd_index_blocks.proofs.Parents.{named-by}
use Rattle.hd_index_blocks.proofs.Faultless.{sets-faultless}
use Rattle.hd_index_blocks.proofs.LevelFaults.{names-judged, reach-judged}
use Rattle.hd_index_blocks.proofs.FormFaults.{forms-judged}

-- ---- the rows from one down

-- of each level from one down, what holds of the level and the row of its blocks
abbrev pub OnRows : IndexBlocks → (ℕ → List ℕ → Type 0) → ℕ → List ℕ → Type 0
OnRows c P zero ns = P 0 ns
OnRows c P (suc l) ns = P (suc l) ns × OnRows c P l (named (across c ns))

pub rows-each : (c : IndexBlocks) (P : ℕ → List ℕ → Type 0) (h : ℕ) (ns : List ℕ) → OnRows c P h ns → (steps l : ℕ) → steps + l ≡ h → P l (row_below c steps ns)
rows-each c P zero ns o zero l e = subst (λ (i : ℕ). P i ns) (let z : 0 ≡ l = omega arith in z) o
rows-each c P zero ns o (suc steps) l e = absurd (omega arith)
rows-each c P (suc h) ns o zero l e = subst (λ (i : ℕ). P i ns) (let z : suc h ≡ l = omega arith in z) o.0
rows-each c P (suc h) ns o (suc steps) l e = rows-each c P h (named (across c ns)) o.1 steps l (omega arith)

pub rows-all : (c : IndexBlocks) (P : ℕ → List ℕ → Type 0) (h : ℕ) (ns : List ℕ) → ((steps l : ℕ) → steps + l ≡ h → P l (row_below c steps ns)) → OnRows c P h ns
rows-all c P zero ns f = f 0 0 (omega arith)
rows-all c P (suc h) ns f = (f 0 (suc h) (omega arith), rows-all c P h (named (across c ns)) (λ steps l e. f (suc steps) l (omega arith)))

-- ---- the blocks of a row

-- each block of a row names the one that follows
linked-follows : (next : ℕ → ℕ) (start : ℕ) (left : List ℕ) (n : ℕ) (right : List ℕ) → IsLinked next start (left ++ (n ∷ right)) → next n ≡ first_of right
linked-follows next start [] n [] h = h.2
linked-follows next start [] n (r ∷ right) h = h.2.0
linked-follows next start (x ∷ left) n right h = linked-follows next (next x) left n right h.2

followed-linked : (next : ℕ → ℕ) (start : ℕ) (ns : List ℕ) → ((n : ℕ) → IsAmong n ns → n ≢ 0)
    → ((left : List ℕ) (n : ℕ) (right : List ℕ) → ns ≡ left ++ (n ∷ right) → next n ≡ first_of right) → start ≡ first_of ns → IsLinked next start ns
followed-linked next start [] some f e = e
followed-linked next start (n ∷ ns) some f e =
    (e, some n (inl refl), followed-linked next (next n) ns (λ m a. some m (inr a)) (λ left m right is. f (n ∷ left) m right (ap (λ (t : List ℕ). n ∷ t) is)) (f [] n ns refl))

-- the levels are chains just where each row is
linked-rows : (c : IndexBlocks) (next : ℕ → ℕ) (h : ℕ) (ns : List ℕ) → AreLevelsLinked c next h ns → OnRows c (λ l ms. IsLinked next (first_of ms) ms) h ns
linked-rows c next zero ns a = a
linked-rows c next (suc h) ns a = (a.0, linked-rows c next h (named (across c ns)) a.1)

rows-linked : (c : IndexBlocks) (next : ℕ → ℕ) (h : ℕ) (ns : List ℕ) → OnRows c (λ l ms. IsLinked next (first_of ms) ms) h ns → AreLevelsLinked c next h ns
rows-linked c next zero ns a = a
rows-linked c next (suc h) ns a = (a.0, rows-linked c next h (named (across c ns)) a.1)

-- ---- the first entry that is not right

cond-none : (b : Bool) (x : Option Entry) (e : Entry) → cond b x (Some e) ≡ None → (b ≡ true) × (x ≡ None)
cond-none true x e h = (refl, h)
cond-none false x e h = cc

pub first-append : (xs ys : List Entry) (right : Option Entry) → first_entry (xs ++ ys) right ≡ first_entry xs (first_entry ys right)
first-append [] ys right = refl
first-append (x ∷ xs) ys right = refl

pub last-append : (left : Option Entry) (xs ys : List Entry) → last_entry left (xs ++ ys) ≡ last_entry (last_entry left xs) ys
last-append left [] ys = refl
last-append left (x ∷ xs) ys = last-append (Some x) xs ys

wrong-parts : (c : IndexBlocks) (l : ℕ) (left : Option Entry) (xs ys : List Entry) (right : Option Entry) → first_wrong c l left (xs ++ ys) right ≡ None
    → (first_wrong c l left xs (first_entry ys right) ≡ None) × (first_wrong c l (last_entry left xs) ys right ≡ None)
wrong-parts c l left [] ys right h = (refl, h)
wrong-parts c l left (x ∷ xs) ys right h =
    let d = cond-none (is_right_entry c l left x (first_entry (xs ++ ys) right)) (first_wrong c l (Some x) (xs ++ ys) right) x h in
    let rest = wrong-parts c l (Some x) xs ys right d.1 in
    let own : is_right_entry c l left x (first_entry xs (first_entry ys right)) ≡ true = ap (is_right_entry c l left x) (sym (first-append xs ys right)) ∙ d.0 in
    (ap (λ (b : Bool). cond b (first_wrong c l (Some x) xs (first_entry ys right)) (Some x)) own ∙ rest.0, rest.1)

wrong-both : (c : IndexBlocks) (l : ℕ) (left : Option Entry) (xs ys : List Entry) (right : Option Entry) → first_wrong c l left xs (first_entry ys right) ≡ None
    → first_wrong c l (last_entry left xs) ys right ≡ None → first_wrong c l left (xs ++ ys) right ≡ None
wrong-both c l left [] ys right h g = g
wrong-both c l left (x ∷ xs) ys right h g =
    let d = cond-none (is_right_entry c l left x (first_entry xs (first_entry ys right))) (first_wrong c l (Some x) xs (first_entry ys right)) x h in
    let own : is_right_entry c l left x (first_entry (xs ++ ys) right) ≡ true = ap (is_right_entry c l left x) (first-append xs ys right) ∙ d.0 in
    ap (λ (b : Bool). cond b (first_wrong c l (Some x) (xs ++ ys) right) (Some x)) own ∙ wrong-both c l (Some x) xs ys right d.1 g

-- of a row none is wrong just where none is of a block
row-wrong : (c : IndexBlocks) (l : ℕ) (left : List ℕ) (n : ℕ) (right : List ℕ) → first_wrong c l None (across c (left ++ (n ∷ right))) None ≡ None → first_wrong_in c l left n right ≡ None
row-wrong c l left n right h =
    let one = wrong-parts c l None (across c left) (c.entries n ++ across c right) None (ap (λ (es : List Entry). first_wrong c l None es None) (sym (across-append c left (n ∷ right))) ∙ h) in
    (wrong-parts c l (last_entry None (across c left)) (c.entries n) (across c right) None one.1).0

wrong-row : (c : IndexBlocks) (l : ℕ) (o : Option Entry) (ns : List ℕ)
    → ((left : List ℕ) (n : ℕ) (right : List ℕ) → ns ≡ left ++ (n ∷ right) → first_wrong c l (last_entry o (across c left)) (c.entries n) (first_entry (across c right) None) ≡ None)
    → first_wrong c l o (across c ns) None ≡ None
wrong-row c l o [] f = refl
wrong-row c l o (n ∷ ns) f =
    wrong-both c l o (c.entries n) (across c ns) None (f [] n ns refl)
    (wrong-row c l (last_entry o (c.entries n)) ns
    (λ left m right is.
    ap (λ (p : Option Entry). first_wrong c l p (c.entries m) (first_entry (across c right) None)) (sym (last-append o (c.entries n) (across c left)))
    ∙ f (n ∷ left) m right (ap (λ (t : List ℕ). n ∷ t) is)))

-- ---- what a right entry says

-- the key of the entry to the left, if there is one, is below this one
abbrev pub is_above : Option Entry → Entry → Bool
is_above left e = option_map_or (λ (f : Entry). key_less f.key e.key) left true

-- the entries keep their bounds
abbrev pub KeepAll : IndexBlocks → ℕ → List Entry → Type 0
KeepAll c l [] = Unit {0}
KeepAll c l (e ∷ es) = (keeps_bounds c l e (first_entry es None) ≡ true) × KeepAll c l es

-- the entries ascend behind one to their left
abbrev pub Ascend : Option Entry → List Entry → Type 0
Ascend left [] = Unit {0}
Ascend left (e ∷ es) = (is_above left e ≡ true) × Ascend (Some e) es

right-all : (c : IndexBlocks) (l : ℕ) (left : Option Entry) (es : List Entry) → first_wrong c l left es None ≡ None → Ascend left es × KeepAll c l es
right-all c l left [] h = (tt, tt)
right-all c l left (e ∷ es) h =
    let d = cond-none (is_right_entry c l left e (first_entry es None)) (first_wrong c l (Some e) es None) e h in
    let own = and_parts (is_above left e) (keeps_bounds c l e (first_entry es None)) d.0 in
    let rest = right-all c l (Some e) es d.1 in
    ((own.0, rest.0), (own.1, rest.1))

all-right : (c : IndexBlocks) (l : ℕ) (left : Option Entry) (es : List Entry) → Ascend left es → KeepAll c l es → first_wrong c l left es None ≡ None
all-right c l left [] a k = refl
all-right c l left (e ∷ es) a k =
    let own : is_right_entry c l left e (first_entry es None) ≡ true = and_from (is_above left e) (keeps_bounds c l e (first_entry es None)) a.0 k.0 in
    ap (λ (b : Bool). cond b (first_wrong c l (Some e) es None) (Some e)) own ∙ all-right c l (Some e) es a.1 k.1

ascend-behind : (e : Entry) (es : List Entry) → keys_ascend (e ∷ es) ≡ true → Ascend (Some e) es
ascend-behind e [] h = tt
ascend-behind e (f ∷ es) h = let d = and_parts (key_less e.key f.key) (keys_ascend (f ∷ es)) h in (d.0, ascend-behind f es d.1)

ascend-all : (es : List Entry) → keys_ascend es ≡ true → Ascend None es
ascend-all [] h = tt
ascend-all (e ∷ es) h = (refl, ascend-behind e es h)

behind-ascend : (e : Entry) (es : List Entry) → Ascend (Some e) es → keys_ascend (e ∷ es) ≡ true
behind-ascend e [] h = refl
behind-ascend e (f ∷ es) h = and_from (key_less e.key f.key) (keys_ascend (f ∷ es)) h.0 (behind-ascend f es h.1)

all-ascend : (es : List Entry) → Ascend None es → keys_ascend es ≡ true
all-ascend [] h = refl
all-ascend (e ∷ es) h = behind-ascend e es h.1

-- ---- bounds

not-false : (b : Bool) → not b ≡ true → b ≡ false
not-false true h = cc
not-false false h = refl

up-to : (key : List ℕ) (es : List Entry) → is_up_to key es ≡ true → AreUpTo key es
up-to key [] h = tt
up-to key (e ∷ es) h = let d = and_parts (not (key_less key e.key)) (is_up_to key es) h in (not-false (key_less key e.key) d.0, up-to key es d.1)

to-up : (key : List ℕ) (es : List Entry) → AreUpTo key es → is_up_to key es ≡ true
to-up key [] h = refl
to-up key (e ∷ es) h = and_from (not (key_less key e.key)) (is_up_to key es) (ap not h.0) (to-up key es h.1)

below-all : (key : List ℕ) (es : List Entry) → is_below_all key es ≡ true → AreAbove key es
below-all key [] h = tt
below-all key (e ∷ es) h = let d = and_parts (key_less key e.key) (is_below_all key es) h in (d.0, below-all key es d.1)

all-below : (key : List ℕ) (es : List Entry) → AreAbove key es → is_below_all key es ≡ true
all-below key [] h = refl
all-below key (e ∷ es) h = and_from (key_less key e.key) (is_below_all key es) h.0 (all-below key es h.1)

keep-none : (c : IndexBlocks) (es : List Entry) → KeepAll c 0 es
keep-none c [] = tt
keep-none c (e ∷ es) = (refl, keep-none c es)

keep-between : (c : IndexBlocks) (l : ℕ) (es : List Entry) → KeepAll c (suc l) es → AreBetween c l es
keep-between c l [] k = tt
keep-between c l (e ∷ []) k = up-to e.key (entries_below c l (e.address ∷ [])) (and_parts (is_up_to e.key (entries_below c l (e.address ∷ []))) true k.0).0
keep-between c l (e ∷ f ∷ es) k =
    let d = and_parts (is_up_to e.key (entries_below c l (e.address ∷ []))) (is_below_all e.key (entries_below c l (f.address ∷ []))) k.0 in
    (up-to e.key (entries_below c l (e.address ∷ [])) d.0, below-all e.key (entries_below c l (f.address ∷ [])) d.1, keep-between c l (f ∷ es) k.1)

between-keep : (c : IndexBlocks) (l : ℕ) (es : List Entry) → AreBetween c l es → KeepAll c (suc l) es
between-keep c l [] b = tt
between-keep c l (e ∷ []) b = (and_from (is_up_to e.key (entries_below c l (e.address ∷ []))) true (to-up e.key (entries_below c l (e.address ∷ [])) b) refl, tt)
between-keep c l (e ∷ f ∷ es) b = (
  and_from (is_up_to e.key (entries_below c l (e.address ∷ []))) (is_below_all e.key (entries_below c l (f.address ∷ [])))
      (to-up e.key (entries_below c l (e.address ∷ [])) b.0) (all-below e.key (entries_below c l (f.address ∷ [])) b.1),
  between-keep c l (f ∷ es) b.2,
)

-- ---- the keys of all levels

-- none of a row is wrong
abbrev pub IsRowRight : IndexBlocks → ℕ → List ℕ → Type 0
IsRowRight c l ns = first_wrong c l None (across c ns) None ≡ None

keys-rows : (c : IndexBlocks) (h : ℕ) (ns : List ℕ) → AreKeysRight c h ns → OnRows c (IsRowRight c) h ns
keys-rows c zero ns a = all-right c 0 None (across c ns) (ascend-all (across c ns) a) (keep-none c (across c ns))
keys-rows c (suc h) ns a = (all-right c (suc h) None (across c ns) (ascend-all (across c ns) a.0) (between-keep c h (across c ns) a.1), keys-rows c h (named (across c ns)) a.2)

rows-keys : (c : IndexBlocks) (h : ℕ) (ns : List ℕ) → OnRows c (IsRowRight c) h ns → AreKeysRight c h ns
rows-keys c zero ns o = all-ascend (across c ns) (right-all c 0 None (across c ns) o).0
rows-keys c (suc h) ns o =
    let r = right-all c (suc h) None (across c ns) o.0 in
    (all-ascend (across c ns) r.0, keep-between c h (across c ns) r.1, rows-keys c h (named (across c ns)) o.1)

-- ---- of a volume

-- the blocks of a row are of its level
rows-level : (c : IndexBlocks) (h : ℕ) (ns : List ℕ) → ((n l m : ℕ) → c.level n ≡ Some (suc l) → IsAmong m (named (c.entries n)) → c.level m ≡ Some l) → ((n : ℕ) → IsAmong n ns → c.level n ≡ Some h)
    → OnRows c (λ l ms. (n : ℕ) → IsAmong n ms → c.level n ≡ Some l) h ns
rows-level c zero ns names own = own
rows-level c (suc h) ns names own = (own, rows-level c h (named (across c ns)) names (λ m a. (let by = named-by c m ns a in names by.0 h m (own by.0 by.1) by.2)))

top-among : (v : VolumeState) (n : ℕ) → IsAmong n (top_blocks v) → (0 < (header_of v.image).top) × (n ≡ (header_of v.image).top)
top-among v n a = elim (cases_eq (header_of v.image).top 0) [
  | inl none ↦ (let A : List ℕ → Type 0 = λ t. IsAmong n t in let e : top_blocks v ≡ [] = rw (eq-eqb (header_of v.image).top 0 none) refl in absurd (subst A e a))
  | inr some ↦
      (let A : List ℕ → Type 0 = λ t. IsAmong n t in
      let e : top_blocks v ≡ (header_of v.image).top ∷ [] = rw (ne_eqb (header_of v.image).top 0 some) refl in
      elim (subst A e a) [ inl is ↦ (omega arith, is) | inr none ↦ absurd none ])
]

module _ (k : ℕ) (v : VolumeState) (f : AreFormsRight k v) where
  abbrev c : IndexBlocks
  c = index_blocks k v

  pub row-level : (steps l : ℕ) → steps + l ≡ top_level v → (n : ℕ) → IsAmong n (row_below c steps (top_blocks v)) → level_in v n ≡ Some l
  row-level = rows-each c (λ l ms. (n : ℕ) → IsAmong n ms → level_in v n ≡ Some l) (top_level v) (top_blocks v)
      (rows-level c (top_level v) (top_blocks v) (λ n l m is a. (f.blocks n (suc l) is).names l m refl a)
      (λ n a. (let t = top-among v n a in ap (level_in v) t.1 ∙ f.top t.0)))

  -- where a block stands on its level
  between : (steps l : ℕ) → steps + l ≡ top_level v → (left : List ℕ) (n : ℕ) (right : List ℕ) → row_below c steps (top_blocks v) ≡ left ++ (n ∷ right) → StandsBetween k v l left n right
  between steps l e left n right is = record { low = omega arith; row = ap (λ (s : ℕ). row_below c s (top_blocks v)) (let z : top_level v - l ≡ steps = omega arith in z) ∙ is }

  next-none : AreLevelsLinked c (next_in v) (top_level v) (top_blocks v) → StandsNowhere (IsWrongNext k v)
  next-none linked a o t =
      let l : ℕ = t.0 in
      let s = t.4 in
      let low = s.low in
      let row = rows-each c (λ i ms. IsLinked (next_in v) (first_of ms) ms) (top_level v) (top_blocks v) (linked-rows c (next_in v) (top_level v) (top_blocks v) linked) (top_level v - l) l (omega arith) in
      let L : List ℕ → Type 0 = λ ms. IsLinked (next_in v) (first_of ms) ms in
      t.5 (linked-follows (next_in v) (first_of (t.2 ++ (t.1 ∷ t.3))) t.2 t.1 t.3 (subst L s.row row))

  none-next : StandsNowhere (IsWrongNext k v) → AreLevelsLinked c (next_in v) (top_level v) (top_blocks v)
  none-next nowhere =
      rows-linked c (next_in v) (top_level v) (top_blocks v)
      (rows-all c (λ i ms. IsLinked (next_in v) (first_of ms) ms) (top_level v) (top_blocks v)
      (λ steps l e.
      followed-linked (next_in v) (first_of (row_below c steps (top_blocks v))) (row_below c steps (top_blocks v))
      (λ n a z. (let s = level-kind v n l (row-level steps l e n a) in let later = s.0.later in omega arith))
      (λ left n right is. elim (cases_eq (next_in v n) (first_of right)) [
        | inl same ↦ same
        | inr other ↦ absurd (nowhere (n * v.size) 0 (l, n, left, right, between steps l e left n right is, other, refl, refl))
      ]) refl))

  order-none : AreKeysRight c (top_level v) (top_blocks v) → StandsNowhere (HasEntryOutOfOrder k v)
  order-none keys a o t =
      let l : ℕ = t.0 in
      let s = t.4 in
      let low = s.low in
      let row = rows-each c (IsRowRight c) (top_level v) (top_blocks v) (keys-rows c (top_level v) (top_blocks v) keys) (top_level v - l) l (omega arith) in
      let R : List ℕ → Type 0 = λ ms. IsRowRight c l ms in
      let none = row-wrong c l t.2 t.1 t.3 (subst R s.row row) in
      let no : None ≡ Some o = ap (option_map (λ (e : Entry). e.address)) (sym none) ∙ t.5 in
      absurd (cc)

  none-order : StandsNowhere (HasEntryOutOfOrder k v) → AreKeysRight c (top_level v) (top_blocks v)
  none-order nowhere =
      rows-keys c (top_level v) (top_blocks v)
      (rows-all c (IsRowRight c) (top_level v) (top_blocks v)
      (λ steps l e. wrong-row c l None (row_below c steps (top_blocks v))
      (λ left n right is. by-case steps l e left n right is (first_wrong_in c l left n right) refl)))
    where
      by-case : (steps l : ℕ) → steps + l ≡ top_level v → (left : List ℕ) (n : ℕ) (right : List ℕ) → row_below c steps (top_blocks v) ≡ left ++ (n ∷ right)
          → (o : Option Entry) → first_wrong_in c l left n right ≡ o → first_wrong_in c l left n right ≡ None
      by-case steps l e left n right is None h = h
      by-case steps l e left n right is (Some x) h = absurd (nowhere (n * v.size) x.address (l, n, left, right, between steps l e left n right is, ap (option_map (λ (y : Entry). y.address)) h, refl))

pub levels-judged : LevelsAreJudged
levels-judged k v f = ((next-none k v f, none-next k v f), (order-none k v f, none-order k v f))

-- ---- all lines

pub faults-all : FaultsAreAll
faults-all k v formatted version = (to, from)
  where
    to : HasIndexSet k v → HasNoFault k v
    to x =
        let f = (sets-faultless k v).0 x in
        let forms = (forms-judged k v).0 f.forms in
        let levels = levels-judged k v f.forms in
        record {
          top = forms.0;
          form = forms.1;
          once = (names-judged k v).0 f.once;
          reached = (reach-judged k v).0 f.reached;
          next = levels.0.0 f.next;
          order = levels.1.0 f.keys;
        }

    from : HasNoFault k v → HasIndexSet k v
    from n =
        let forms = (forms-judged k v).1 (n.top, n.form) in
        let levels = levels-judged k v forms in
        (sets-faultless k v).1 (record {
          formatted = formatted;
          version = version;
          forms = forms;
          once = (names-judged k v).1 n.once;
          reached = (reach-judged k v).1 n.reached;
          next = levels.0.1 n.next;
          keys = levels.1.1 n.order;
        })
