-- What is found of the entries of a block, one by one.
use Rattle.std.proofs.Common.{◌≡◌, ℕ, zero, suc, ◌+◌, ◌*◌, ◌-◌, ◌<◌, ◌≤◌, ◌&&◌, not, cond, Bool, true, false, List, [], ◌∷◌, ◌++◌, length, take, drop, slice_index_or, Option, None, Some, refl, sym, ap, ◌∙◌, subst, arith}
use Rattle.std.specs.Prelude.{option_map}
use Rattle.std.specs.Option.{option_map_or}
use Rattle.std.proofs.lemmas.Bool.{and_parts}
use Rattle.std.proofs.lemmas.List.{drop_more, drop_all}
use Rattle.hd_volume.specs.Entries.{Entry, entries_at}
use Rattle.hd_volume.specs.Indexes.{key_less, is_below_first, keys_ascend}
use Rattle.hd_bytes.specs.Ranges.{bytes_at}
use Rattle.hd_index_blocks.specs.Fields.{entry_in, entry_place}
use Rattle.hd_index_blocks.proofs.EntryLemmas.{entries-drop, entries-more}
use Rattle.hd_index_blocks.specs.Levels.{IndexBlocks, named}
use Rattle.hd_index_blocks.specs.LevelFaults.{last_entry, first_entry, first_wrong, is_right_entry, keeps_bounds}
use Rattle.hd_index_blocks.proofs.RowFaults.{first-append, last-append}
use Rattle.hd_check_index.specs.declared.extents.Extent.{Extent}
use Rattle.hd_check_index.specs.BlockExtents.{AreExtents, AreBelow}
use Rattle.hd_check_index.specs.EntryOrders.{is_below_least, found_with, address_wrong}

-- ---- bounds

-- the extents from one on
extents-drop : (k : ℕ) (c : IndexBlocks) (l : ℕ) (fs : List Entry) (xs : List Extent) (i : ℕ) → AreExtents k c l (named fs) xs → AreExtents k c l (named (drop i fs)) (drop i xs)
extents-drop k c l fs xs zero h = h
extents-drop k c l [] [] (suc i) h = tt
extents-drop k c l [] (x ∷ xs) (suc i) h = absurd h
extents-drop k c l (f ∷ fs) [] (suc i) h = absurd h
extents-drop k c l (f ∷ fs) (x ∷ xs) (suc i) h = extents-drop k c l fs xs i h.1

-- the bounds of an entry, by the extents below it and below those to its right
bounds-first : (k : ℕ) (c : IndexBlocks) (l : ℕ) (e : Entry) (rest : List Entry) (x : Extent) (ys : List Extent) → AreExtents k c l (e.address ∷ named rest) (x ∷ ys)
    → keeps_bounds c (suc l) e (first_entry rest None) ≡ (not (key_less e.key (take k x.greatest)) && is_below_least k e.key ys)
bounds-first k c l e [] x [] h = ap (λ (b : Bool). b && true) (h.0.greatest e.key)
bounds-first k c l e [] x (y ∷ ys) h = absurd h.1
bounds-first k c l e (f ∷ rest) x [] h = absurd h.1
bounds-first k c l e (f ∷ rest) x (y ∷ ys) h = rw (h.0.greatest e.key, h.1.0.least e.key) refl

pub bounds-at : (k : ℕ) (c : IndexBlocks) (level : ℕ) (fs : List Entry) (below : List Extent) (i : ℕ) (e : Entry) (rest : List Entry) (d : Extent) → 0 < level → AreBelow k c level fs below
    → drop i fs ≡ e ∷ rest → i < length below
    → keeps_bounds c level e (first_entry rest None) ≡ (not (key_less e.key (take k (slice_index_or below i d).greatest)) && is_below_least k e.key (drop (i + 1) below))
bounds-at k c zero fs below i e rest d up h is less = absurd (omega arith)
bounds-at k c (suc l) fs below i e rest d up h is less =
    let X : List Entry → Type 0 = λ t. AreExtents k c l (named t) (drop i below) in
    let Y : List Extent → Type 0 = λ t. AreExtents k c l (e.address ∷ named rest) t in
    bounds-first k c l e rest (slice_index_or below i d) (drop (i + 1) below) (subst Y (drop_more below i d less) (subst X is (extents-drop k c l fs below i h)))

-- what is judged of them
pub bounds-judged : (k : ℕ) (c : IndexBlocks) (level : ℕ) (fs : List Entry) (below : List Extent) (i : ℕ) (e : Entry) (rest : List Entry) (d : Extent) (key : List ℕ) (less : Bool) → 0 < level
    → AreBelow k c level fs below → drop i fs ≡ e ∷ rest → i < length below → key ≡ e.key → less ≡ key_less key (take k (slice_index_or below i d).greatest)
    → (not less && is_below_least k key (drop (i + 1) below)) ≡ keeps_bounds c level e (first_entry rest None)
bounds-judged k c level fs below i e rest d key less up h is within same own =
    let greatest : List ℕ = take k (slice_index_or below i d).greatest in
    let behind : List Extent = drop (i + 1) below in
    ap (λ (b : Bool). not b && is_below_least k key behind) own
    ∙ ap (λ (t : List ℕ). not (key_less t greatest) && is_below_least k t behind) same
    ∙ sym (bounds-at k c level fs below i e rest d up h is within)

-- each entry has an extent below it
pub bounds-short : (k : ℕ) (c : IndexBlocks) (level : ℕ) (fs : List Entry) (below : List Extent) (i : ℕ) (e : Entry) (rest : List Entry) → 0 < level → AreBelow k c level fs below
    → drop i fs ≡ e ∷ rest → length below ≤ i → ⊥
bounds-short k c zero fs below i e rest up h is less = absurd (omega arith)
bounds-short k c (suc l) fs below i e rest up h is less =
    let X : List Entry → Type 0 = λ t. AreExtents k c l (named t) (drop i below) in
    let Y : List Extent → Type 0 = λ t. AreExtents k c l (e.address ∷ named rest) t in
    subst Y (drop_all i below less) (subst X is (extents-drop k c l fs below i h))

-- on level 0 there is none
pub bounds-lowest : (c : IndexBlocks) (level : ℕ) (e : Entry) (right : Option Entry) → level ≡ 0 → keeps_bounds c level e right ≡ true
bounds-lowest c zero e right z = refl
bounds-lowest c (suc l) e right z = absurd (omega arith)

-- ---- an entry more

abbrev pub address : Option Entry → Option ℕ
address o = option_map (λ (e : Entry). e.address) o

one-more : (b : Bool) (e : Entry) → address (cond b None (Some e)) ≡ cond b None (Some e.address)
one-more true e = refl
one-more false e = refl

one-before : (b : Bool) (p q : Option Entry) (r : Bool) (x : Entry) (a : ℕ) → address p ≡ found_with (address q) r a → address (cond b p (Some x)) ≡ found_with (address (cond b q (Some x))) r a
one-before true p q r x a h = h
one-before false p q r x a h = refl

pub wrong-more : (c : IndexBlocks) (l : ℕ) (o : Option Entry) (es : List Entry) (e : Entry) (right : Option Entry)
    → address_wrong c l o (es ++ (e ∷ [])) right ≡ found_with (address_wrong c l o es (Some e)) (is_right_entry c l (last_entry o es) e right) e.address
wrong-more c l o [] e right = one-more (is_right_entry c l o e right) e
wrong-more c l o (x ∷ es) e right =
    ap (λ (q : Option Entry). address (cond (is_right_entry c l o x q) (first_wrong c l (Some x) (es ++ (e ∷ [])) right) (Some x))) (first-append es (e ∷ []) right)
    ∙ one-before (is_right_entry c l o x (first_entry es (Some e))) (first_wrong c l (Some x) (es ++ (e ∷ [])) right) (first_wrong c l (Some x) es (Some e))
    (is_right_entry c l (last_entry (Some x) es) e right) x e.address (wrong-more c l (Some x) es e right)

-- ---- entries of level 0 whose keys ascend

-- none of them is not right
pub right-ascending : (c : IndexBlocks) (o : Option Entry) (es : List Entry) (right : Option Entry) → option_map_or (λ l. is_below_first l.key es) o true ≡ true → keys_ascend es ≡ true
    → first_wrong c 0 o es right ≡ None
right-ascending c o [] right above h = refl
right-ascending c o (e ∷ es) right above h =
    let parts = and_parts (is_below_first e.key es) (keys_ascend es) h in
    let here : is_right_entry c 0 o e (first_entry es right) ≡ true = rw above refl in
    rw here (right-ascending c (Some e) es right parts.0 parts.1)

-- a key that is above that of the last is above the last
pub above-last : (o : Option Entry) (before key : List ℕ) → option_map_or (λ (e : Entry). e.key) o before ≡ before → key_less before key ≡ true → option_map_or (λ (l : Entry). key_less l.key key) o true ≡ true
above-last None before key is less = refl
above-last (Some l) before key is less = ap (λ (t : List ℕ). key_less t key) is ∙ less

-- ---- the entries of a block

-- those from one on are it and those behind it
pub entries-from : (k : ℕ) (b : List ℕ) (n i : ℕ) → i < n → drop i (entries_at k b 12 n) ≡ entry_in k b i ∷ drop (i + 1) (entries_at k b 12 n)
entries-from k b n i less =
    let here : entries_at k b (12 + i * (k + 4)) (n - i) ≡ entries_at k b (12 + i * (k + 4)) (suc (n - (i + 1))) = ap (entries_at k b (12 + i * (k + 4))) (let e : n - i ≡ suc (n - (i + 1)) = omega arith in e) in
    let behind : entries_at k b (12 + i * (k + 4) + k + 4) (n - (i + 1)) ≡ drop (i + 1) (entries_at k b 12 n) =
    ap (λ (p : ℕ). entries_at k b p (n - (i + 1))) (let e : 12 + i * (k + 4) + k + 4 ≡ 12 + (i + 1) * (k + 4) = omega arith in e) ∙ sym (entries-drop k b 12 (i + 1) n (omega arith)) in
    entries-drop k b 12 i n (omega arith) ∙ here ∙ ap (λ (t : List Entry). entry_in k b i ∷ t) behind

-- the last of them
pub last-in : (k : ℕ) (b : List ℕ) (count m : ℕ) (o : Option Entry) → count ≡ suc m → last_entry o (entries_at k b 12 count) ≡ Some (entry_in k b m)
last-in k b count m o number =
    ap (λ (n : ℕ). last_entry o (entries_at k b 12 n)) (let e : count ≡ m + 1 = omega arith in e)
    ∙ ap (last_entry o) (entries-more k b 12 m) ∙ last-append o (entries_at k b 12 m) (entry_in k b m ∷ [])

-- the key of the first
pub first-key : (k : ℕ) (b : List ℕ) → bytes_at b (entry_place k 0) k ≡ bytes_at b 12 k
first-key k b = ap (λ (p : ℕ). bytes_at b p k) (let e : entry_place k 0 ≡ 12 = omega arith in e)

-- so it is where others stand behind the block
pub drop-front : (i : ℕ) (es rs : List Entry) → i ≤ length es → drop i (es ++ rs) ≡ drop i es ++ rs
drop-front zero es rs less = refl
drop-front (suc i) [] rs less = absurd (omega arith)
drop-front (suc i) (e ∷ es) rs less = drop-front i es rs (omega arith)
