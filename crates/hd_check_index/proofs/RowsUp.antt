-- The rows of an index set, judged from the lowest up.
use Rattle.std.proofs.Common.{◌≡◌, ◌≢◌, ◌⊎◌, inl, inr, ℕ, zero, suc, ◌+◌, ◌-◌, ◌*◌, ◌<◌, ◌≤◌, List, [], ◌∷◌, ◌++◌, length, take, drop, slice_index, slice_index_or, Option, None, Some, IfNone, IfSome, refl, sym, ap, ◌∙◌, subst, arith}
use Rattle.std.specs.Prelude.{option_map}
use Rattle.std.proofs.lemmas.Bool.{cases_lt, cases_eq}
use Rattle.std.proofs.lemmas.Nat.{mul-le}
use Rattle.std.proofs.lemmas.List.{append-nil, append_assoc, length-append, length-take, take_at, drop_at, take-take, drop-drop, drop-take, take_all, take-append-drop, drop_more}
use Rattle.hd_bytes.specs.Numbers.{number_at}
use Rattle.hd_volume.specs.Volumes.{VolumeState, block_at}
use Rattle.hd_volume.specs.Entries.{Entry, entries_in}
use Rattle.hd_volume.specs.Indexes.{IsAmong}
use Rattle.hd_index_blocks.proofs.BlockLemmas.{length-entries}
use Rattle.hd_index_blocks.specs.Levels.{IndexBlocks, across, named}
use Rattle.hd_index_blocks.specs.IndexSets.{level_in, index_blocks, top_blocks, top_level}
use Rattle.hd_index_blocks.specs.Faultless.{AreFormsRight}
use Rattle.hd_index_blocks.specs.LevelFaults.{row_below, HasEntryOutOfOrder, StandsNowhere, first_wrong_in}
use Rattle.hd_index_blocks.proofs.RowFaults.{row-level}
use Rattle.hd_check_index.specs.declared.extents.Extent.{Extent}
use Rattle.hd_check_index.specs.declared.rows.Standing.{Standing}
use Rattle.hd_check_index.specs.Rows.{row_of, rows_of, AreRows}
use Rattle.hd_check_index.specs.BlockExtents.{AreExtents, AreBelow}
use Rattle.hd_check_index.specs.EntryOrders.{wrong_at, IsWrongUpTo, IsLeastOf, standing_at}
use Rattle.hd_check_index.specs.Judging.{IsFirst}
use Rattle.hd_check_index.proofs.BlockExtents.{named-length}
use Rattle.hd_check_index.proofs.RowOrders.{Known, Joins, blocks-same, row-length, row-at, row-number}

-- ---- rows

-- the first rows from the top down
abbrev pub rows_above : IndexBlocks → ℕ → ℕ → List ℕ → List Standing
rows_above c zero h ns = []
rows_above c (suc s) h ns = rows_above c s h ns ++ row_of (h - s) (row_below c s ns)

above-more : (c : IndexBlocks) (s h : ℕ) (ns : List ℕ) → rows_above c (suc s) (suc h) ns ≡ row_of (suc h) ns ++ rows_above c s h (named (across c ns))
above-more c zero h ns = ap (λ (l : ℕ). row_of l ns) (let e : suc h - 0 ≡ suc h = omega arith in e) ∙ sym (append-nil (row_of (suc h) ns))
above-more c (suc s) h ns =
    let more : List ℕ = named (across c ns) in
    ap (λ (t : List Standing). t ++ row_of (suc h - suc s) (row_below c s more)) (above-more c s h ns)
    ∙ ap (λ (l : ℕ). (row_of (suc h) ns ++ rows_above c s h more) ++ row_of l (row_below c s more)) (let e : suc h - suc s ≡ h - s = omega arith in e)
    ∙ append_assoc (row_of (suc h) ns) (rows_above c s h more) (row_of (h - s) (row_below c s more))

-- all rows are so many
rows-all : (c : IndexBlocks) (h : ℕ) (ns : List ℕ) → rows_of c h ns ≡ rows_above c (suc h) h ns
rows-all c zero ns = refl
rows-all c (suc h) ns = ap (λ (t : List Standing). row_of (suc h) ns ++ t) (rows-all c h (named (across c ns))) ∙ sym (above-more c (suc h) h ns)

-- the next row is what the entries of one name
row-next : (c : IndexBlocks) (s : ℕ) (ns : List ℕ) → row_below c (suc s) ns ≡ named (across c (row_below c s ns))
row-next c zero ns = refl
row-next c (suc s) ns = row-next c s (named (across c ns))

-- below no blocks there is none
row-none : (c : IndexBlocks) (s : ℕ) → row_below c s [] ≡ []
row-none c zero = refl
row-none c (suc s) = row-none c s

above-none : (c : IndexBlocks) (s h : ℕ) → rows_above c s h [] ≡ []
above-none c zero h = refl
above-none c (suc s) h = ap (λ (t : List Standing). t ++ row_of (h - s) (row_below c s [])) (above-none c s h) ∙ ap (row_of (h - s)) (row-none c s)

no-parts : (xs ys : List Standing) → xs ++ ys ≡ [] → (xs ≡ []) × (ys ≡ [])
no-parts [] ys h = (refl, h)
no-parts (x ∷ xs) ys h = cc

no-row : (l : ℕ) (ns : List ℕ) → row_of l ns ≡ [] → ns ≡ []
no-row l [] h = refl
no-row l (n ∷ ns) h = cc

-- where the first rows have no block, none of them has
above-empty : (c : IndexBlocks) (steps h : ℕ) (ns : List ℕ) (s : ℕ) → rows_above c steps h ns ≡ [] → s < steps → row_below c s ns ≡ []
above-empty c zero h ns s none less = absurd (omega arith)
above-empty c (suc steps) h ns s none less =
    let parts = no-parts (rows_above c steps h ns) (row_of (h - steps) (row_below c steps ns)) none in
    elim (cases_lt s steps) [
      | inl low ↦ above-empty c steps h ns s parts.0 low
      | inr high ↦ (let e : s ≡ steps = omega arith in ap (λ (i : ℕ). row_below c i ns) e ∙ no-row (h - steps) (row_below c steps ns) parts.1)
    ]

-- ---- elements of lists put together

at-left : (xs ys : List Standing) (i : ℕ) (d : Standing) → i < length xs → slice_index_or (xs ++ ys) i d ≡ slice_index_or xs i d
at-left [] ys i d less = absurd (omega arith)
at-left (x ∷ xs) ys zero d less = refl
at-left (x ∷ xs) ys (suc i) d less = at-left xs ys i d (omega arith)

at-right : (xs ys : List Standing) (i : ℕ) (d : Standing) → length xs ≤ i → slice_index_or (xs ++ ys) i d ≡ slice_index_or ys (i - length xs) d
at-right [] ys i d less = ap (λ (j : ℕ). slice_index_or ys j d) (let e : i ≡ i - 0 = omega arith in e)
at-right (x ∷ xs) ys zero d less = absurd (omega arith)
at-right (x ∷ xs) ys (suc i) d less = at-right xs ys i d (omega arith) ∙ ap (λ (j : ℕ). slice_index_or ys j d) (let e : i - length xs ≡ suc i - suc (length xs) = omega arith in e)

at-take : (xs : List Standing) (n i : ℕ) (d : Standing) → i < n → slice_index_or (take n xs) i d ≡ slice_index_or xs i d
at-take xs zero i d less = absurd (omega arith)
at-take [] (suc n) i d less = refl
at-take (x ∷ xs) (suc n) zero d less = refl
at-take (x ∷ xs) (suc n) (suc i) d less = at-take xs n i d (omega arith)

-- the first rows are of higher levels
above-level : (c : IndexBlocks) (s h : ℕ) (ns : List ℕ) (i : ℕ) (d : Standing) → s ≤ h → i < length (rows_above c s h ns) → h - s < (slice_index_or (rows_above c s h ns) i d).level
above-level c zero h ns i d low less = absurd (omega arith)
above-level c (suc s) h ns i d low less =
    let xs : List Standing = rows_above c s h ns in
    let row : List ℕ = row_below c s ns in
    elim (cases_lt i (length xs)) [
      | inl here ↦
          (let own = above-level c s h ns i d (omega arith) here in
          let same : (slice_index_or (xs ++ row_of (h - s) row) i d).level ≡ (slice_index_or xs i d).level = ap (λ (t : Standing). t.level) (at-left xs (row_of (h - s) row) i d here) in
          omega arith)
      | inr past ↦
          (let all = length-append xs (row_of (h - s) row) in
          let len = row-length (h - s) row in
          let same : (slice_index_or (xs ++ row_of (h - s) row) i d).level ≡ h - s =
          ap (λ (t : Standing). t.level) (at-right xs (row_of (h - s) row) i d past ∙ row-at (h - s) row (i - length xs) d (omega arith)) in
          omega arith)
    ]

-- ---- the row that is judged next

-- the blocks of a row, by how many rows stand above it
abbrev pub row-at-step : ℕ → VolumeState → ℕ → List ℕ
row-at-step k v s = row_below (index_blocks k v) s (top_blocks v)

-- each row has a block, where there is one at all
rows-some : (k : ℕ) (v : VolumeState) (s : ℕ) → AreFormsRight k v → top_blocks v ≢ [] → s ≤ top_level v → 0 < length (row-at-step k v s)
rows-some k v zero f some low = by (top_blocks v) some
  where
    by : (ns : List ℕ) → ns ≢ [] → 0 < length ns
    by [] none = absurd (none refl)
    by (n ∷ ns) none = omega arith
rows-some k v (suc s) f some low =
    let own = rows-some k v s f some (omega arith) in
    let named_here = by (row-at-step k v s) own (λ n a. row-level k v f s (top_level v - s) (omega arith) n a) in
    let same : length (row-at-step k v (suc s)) ≡ length (named (across (index_blocks k v) (row-at-step k v s))) = ap (λ (t : List ℕ). length t) (row-next (index_blocks k v) s (top_blocks v)) in
    omega arith
  where
    by : (ns : List ℕ) → 0 < length ns → ((n : ℕ) → IsAmong n ns → level_in v n ≡ Some (top_level v - s)) → 0 < length (named (across (index_blocks k v) ns))
    by [] none level = absurd (omega arith)
    by (n ∷ ns) none level =
        let form = (f.blocks n (top_level v - s) (level n (inl refl))).some in
        let rest : List Entry = across (index_blocks k v) ns in
        let len = length-entries k (block_at v n) 12 (number_at 2 (block_at v n) 4) in
        let both = length-append (entries_in k (block_at v n)) rest in
        let whole = named-length (entries_in k (block_at v n) ++ rest) in
        omega arith

-- the rows so far down to an index have a block, so there is one at the top
tops-some : (k : ℕ) (v : VolumeState) (steps end : ℕ) (rows : List Standing) → 0 < end → end ≤ length rows → take end rows ≡ rows_above (index_blocks k v) steps (top_level v) (top_blocks v) → top_blocks v ≢ []
tops-some k v steps end rows some within is none =
    let gone : take end rows ≡ [] = is ∙ ap (rows_above (index_blocks k v) steps (top_level v)) none ∙ above-none (index_blocks k v) steps (top_level v) in
    let zero_length : length (take end rows) ≡ 0 = ap (λ (t : List Standing). length t) gone in
    let len = length-take end rows in
    omega arith

-- where the last row of some begins
start-is : (rows xs : List Standing) (end start l : ℕ) (ns : List ℕ) → end ≤ length rows → take end rows ≡ xs ++ row_of l ns → 0 < length ns
    → ((i : ℕ) → i < length xs → l < (standing_at xs i).level) → start < end
    → ((i : ℕ) → start ≤ i → i < end → (standing_at rows i).level ≡ (standing_at rows (end - 1)).level)
    → (start ≡ 0) ⊎ ((standing_at rows (start - 1)).level ≢ (standing_at rows (end - 1)).level) → start ≡ length xs
start-is rows xs end start l ns within is some above before same other =
    let d : Standing = record { number = 0; level = 0 } in
    let total : length (take end rows) ≡ length (xs ++ row_of l ns) = ap (λ (t : List Standing). length t) is in
    let all = length-append xs (row_of l ns) in
    let len = row-length l ns in
    let size = length-take end rows in
    let low = λ (i : ℕ) (less : i < length xs). (let e : standing_at rows i ≡ standing_at xs i = sym (at-take rows end i d (omega arith)) ∙ ap (λ (t : List Standing). standing_at t i) is ∙ at-left xs (row_of l ns) i d less in ap (λ (t : Standing). t.level) e) in
    let high = λ (i : ℕ) (past : length xs ≤ i) (less : i < end).
    (let e : standing_at rows i ≡ record { number = slice_index ns (i - length xs); level = l } =
    sym (at-take rows end i d less) ∙ ap (λ (t : List Standing). standing_at t i) is ∙ at-right xs (row_of l ns) i d past ∙ row-at l ns (i - length xs) d (omega arith) in
    ap (λ (t : Standing). t.level) e) in
    let last = high (end - 1) (omega arith) (omega arith) in
    elim (cases_lt start (length xs)) [
      | inl early ↦
          (let one = low (length xs - 1) (omega arith) in
          let up = above (length xs - 1) (omega arith) in
          let is_same = same (length xs - 1) (omega arith) (omega arith) in
          absurd (omega arith))
      | inr late ↦ elim (cases_eq start (length xs)) [
        | inl e ↦ e
        | inr past ↦ elim other [
          | inl none ↦ absurd (omega arith)
          | inr differs ↦ (let one = high (start - 1) (omega arith) (omega arith) in absurd (differs (one ∙ sym last)))
        ]
      ]
    ]

-- one of the blocks of the rows from a step on has an entry that is not right, and what it names
abbrev pub IsWrongFrom : ℕ → VolumeState → ℕ → ℕ → ℕ → Type 0
IsWrongFrom k v steps n o = (s : ℕ) × (steps ≤ s) × (s ≤ top_level v) × IsWrongUpTo (index_blocks k v) (top_level v - s) (row-at-step k v s) (length (row-at-step k v s)) n o

-- The rows behind an index were judged.
pub record AreJudged (k : ℕ) (v : VolumeState) (rows : List Standing) (end : ℕ) (below : List Extent) (K : Known) : Type 0 where
  -- so many rows are left
  pub steps : ℕ
  pub few : steps ≤ suc (top_level v)
  pub rest : take end rows ≡ rows_above (index_blocks k v) steps (top_level v) (top_blocks v)
  -- the extents of the last row that was judged
  pub below_is : (s : ℕ) → steps ≡ suc s → AreBelow k (index_blocks k v) (top_level v - s) (across (index_blocks k v) (row-at-step k v s)) below
  -- what is known of the rows behind
  pub known : K (IsWrongFrom k v steps)

-- none was
pub judged-none : (k : ℕ) (v : VolumeState) (rows : List Standing) (K : Known) → ((P : ℕ → ℕ → Type 0) → ((n o : ℕ) → P n o → ⊥) → K P) → AreRows k v rows → AreJudged k v rows (length rows) [] K
judged-none k v rows K none are = record {
  steps = suc (top_level v);
  few = omega arith;
  rest = take_all (length rows) rows (omega arith) ∙ are ∙ rows-all (index_blocks k v) (top_level v) (top_blocks v);
  below_is = λ s is. (let e : 0 ≡ top_level v - s = omega arith in let B : ℕ → Type 0 = λ i. AreBelow k (index_blocks k v) i (across (index_blocks k v) (row-at-step k v s)) [] in subst B e tt);
  known = none (IsWrongFrom k v (suc (top_level v))) (λ n o w. (let low = w.1 in let high = w.2 in omega arith));
}

-- The last row of those that are left, from an index on.
pub record IsNextRow (k : ℕ) (v : VolumeState) (rows : List Standing) (end : ℕ) (below : List Extent) (K : Known) (start level : ℕ) (row : List Standing) : Type 0 where
  pub s : ℕ
  pub low : s ≤ top_level v
  pub level_is : level ≡ top_level v - s
  pub row_is : row ≡ row_of level (row-at-step k v s)
  pub rest : take start rows ≡ rows_above (index_blocks k v) s (top_level v) (top_blocks v)
  pub below_is : AreBelow k (index_blocks k v) level (across (index_blocks k v) (row-at-step k v s)) below
  pub known : K (IsWrongFrom k v (suc s))

pub next-row : (k : ℕ) (v : VolumeState) (rows : List Standing) (end : ℕ) (below : List Extent) (K : Known) (start level : ℕ) (row : List Standing) → AreFormsRight k v
    → AreJudged k v rows end below K → 0 < end → end ≤ length rows → start < end
    → ((i : ℕ) → start ≤ i → i < end → (standing_at rows i).level ≡ (standing_at rows (end - 1)).level)
    → (start ≡ 0) ⊎ ((standing_at rows (start - 1)).level ≢ (standing_at rows (end - 1)).level)
    → level ≡ (standing_at rows start).level → row ≡ take (end - start) (drop start rows) → IsNextRow k v rows end below K start level row
next-row k v rows end below K start level row f j some within before same other level_is row_is = by j.steps j.few j.rest j.below_is j.known
  where
    c : IndexBlocks
    c = index_blocks k v

    by : (steps : ℕ) → steps ≤ suc (top_level v) → take end rows ≡ rows_above c steps (top_level v) (top_blocks v)
        → ((s : ℕ) → steps ≡ suc s → AreBelow k c (top_level v - s) (across c (row-at-step k v s)) below) → K (IsWrongFrom k v steps) → IsNextRow k v rows end below K start level row
    by zero few rest below_is known =
        let gone : length (take end rows) ≡ 0 = ap (λ (t : List Standing). length t) rest in
        let len = length-take end rows in
        absurd (omega arith)
    by (suc s) few rest below_is known =
        let xs : List Standing = rows_above c s (top_level v) (top_blocks v) in
        let l : ℕ = top_level v - s in
        let ns : List ℕ = row-at-step k v s in
        let d : Standing = record { number = 0; level = 0 } in
        let tops = tops-some k v (suc s) end rows some within rest in
        let filled = rows-some k v s f tops (omega arith) in
        let start_is : start ≡ length xs = start-is rows xs end start l ns within rest filled (λ i less. above-level c s (top_level v) (top_blocks v) i d (omega arith) less) before same other in
        let front : take start rows ≡ xs =
        sym (take-take start end rows (omega arith)) ∙ ap (take start) rest ∙ take_at xs (row_of l ns) start (sym start_is) in
        let back : take (end - start) (drop start rows) ≡ row_of l ns =
        sym (drop-take start (end - start) rows) ∙ ap (λ (i : ℕ). drop start (take i rows)) (let e : start + (end - start) ≡ end = omega arith in e) ∙ ap (drop start) rest ∙ drop_at xs (row_of l ns) start (sym start_is) in
        let own : (standing_at rows start).level ≡ l =
        ap (λ (t : Standing). t.level) (sym (at-take rows end start d before) ∙ ap (λ (t : List Standing). standing_at t start) rest ∙ at-right xs (row_of l ns) start d (omega arith) ∙ row-at l ns (start - length xs) d (omega arith)) in
        let is : level ≡ l = level_is ∙ own in
        let B : ℕ → Type 0 = λ i. AreBelow k c i (across c ns) below in
        record {
          s = s;
          low = omega arith;
          level_is = is;
          row_is = row_is ∙ back ∙ ap (λ (i : ℕ). row_of i ns) (sym is);
          rest = front;
          below_is = subst B (sym is) (below_is s refl);
          known = known;
        }

-- the blocks of the next row are of its level
pub next-levels : (k : ℕ) (v : VolumeState) (rows : List Standing) (end : ℕ) (below : List Extent) (K : Known) (start level : ℕ) (row : List Standing) → AreFormsRight k v
    → IsNextRow k v rows end below K start level row → (i : ℕ) → i < length row → level_in v (standing_at row i).number ≡ Some level
next-levels k v rows end below K start level row f next i less =
    let ns : List ℕ = row-at-step k v next.s in
    let low = next.low in
    let same : length row ≡ length (row_of level ns) = ap (λ (t : List Standing). length t) next.row_is in
    let len = row-length level ns in
    ap (level_in v) (row-number level ns row i _ next.row_is less)
    ∙ row-level k v f next.s (top_level v - next.s) (omega arith) (slice_index ns i) (among-at ns i (omega arith))
    ∙ ap (λ (l : ℕ). Some l) (sym next.level_is)
  where
    among-at : (ns : List ℕ) (i : ℕ) → i < length ns → IsAmong (slice_index ns i) ns
    among-at [] i less = absurd (omega arith)
    among-at (n ∷ ns) zero less = inl refl
    among-at (n ∷ ns) (suc i) less = inr (among-at ns i (omega arith))

-- it is judged
pub judged-next : (k : ℕ) (v : VolumeState) (rows : List Standing) (end : ℕ) (below own : List Extent) (K F L : Known) (start level : ℕ) (row : List Standing)
    → IsNextRow k v rows end below K start level row
    → ((ns : List ℕ) → row ≡ row_of level ns → AreBelow k (index_blocks k v) level (across (index_blocks k v) ns) below → AreExtents k (index_blocks k v) level ns own)
    → ((ns : List ℕ) → row ≡ row_of level ns → AreBelow k (index_blocks k v) level (across (index_blocks k v) ns) below → F (IsWrongUpTo (index_blocks k v) level ns (length ns)))
    → Joins K F L → AreJudged k v rows start own L
judged-next k v rows end below own K F L start level row next owns finds joins =
    let c : IndexBlocks = index_blocks k v in
    let s : ℕ = next.s in
    let low = next.low in
    let ns : List ℕ = row-at-step k v s in
    let extents : AreExtents k c level ns own = owns ns next.row_is next.below_is in
    record {
      steps = s;
      few = omega arith;
      rest = next.rest;
      below_is = λ r e.
          (let up : suc level ≡ top_level v - r = (let l = next.level_is in omega arith) in
          let named_is : ns ≡ named (across c (row-at-step k v r)) = ap (λ (i : ℕ). row-at-step k v i) e ∙ row-next c r (top_blocks v) in
          let B : ℕ → Type 0 = λ i. AreBelow k c i (across c (row-at-step k v r)) own in
          let N : List ℕ → Type 0 = λ t. AreExtents k c level t own in
          subst B up (subst N named_is extents));
      known =
          joins (IsWrongFrom k v (suc s)) (IsWrongUpTo c level ns (length ns)) (IsWrongFrom k v s)
          (λ n o w. elim w [
            | inl later ↦ (later.0, (let l = later.1 in omega arith), later.2, later.3)
            | inr own_row ↦ (let W : ℕ → Type 0 = λ i. IsWrongUpTo c i ns (length ns) n o in (s, omega arith, low, subst W next.level_is own_row))
          ])
          (λ n o w. elim (cases_lt s w.0) [
            | inl later ↦ inl (w.0, omega arith, w.2, w.3)
            | inr same ↦
                (let first = w.1 in
                let e : w.0 ≡ s = omega arith in
                let W : ℕ → Type 0 = λ i. IsWrongUpTo c (top_level v - i) (row-at-step k v i) (length (row-at-step k v i)) n o in
                let V : ℕ → Type 0 = λ i. IsWrongUpTo c i ns (length ns) n o in
                inr (subst V (sym next.level_is) (subst W e w.3)))
          ])
          next.known (finds ns next.row_is next.below_is);
    }

-- so it is by what was read of it
pub judged-read : (k : ℕ) (v w : VolumeState) (rows : List Standing) (end : ℕ) (below own : List Extent) (K F L : Known) (start level : ℕ) (row : List Standing)
    → w.size ≡ v.size → w.image ≡ v.image → IsNextRow k v rows end below K start level row
    → ((ns : List ℕ) → row ≡ row_of level ns → AreBelow k (index_blocks k w) level (across (index_blocks k w) ns) below → AreExtents k (index_blocks k w) level ns own)
    → ((ns : List ℕ) → row ≡ row_of level ns → AreBelow k (index_blocks k w) level (across (index_blocks k w) ns) below → F (IsWrongUpTo (index_blocks k w) level ns (length ns)))
    → Joins K F L → AreJudged k v rows start own L
judged-read k v w rows end below own K F L start level row size image next owns finds joins =
    let same : index_blocks k w ≡ index_blocks k v = blocks-same k v w size image in
    judged-next k v rows end below own K F L start level row next
    (λ ns row_is b.
    (let B : IndexBlocks → Type 0 = λ c. AreBelow k c level (across c ns) below in
    let X : IndexBlocks → Type 0 = λ c. AreExtents k c level ns own in
    subst X same (owns ns row_is (subst B (sym same) b))))
    (λ ns row_is b.
    (let B : IndexBlocks → Type 0 = λ c. AreBelow k c level (across c ns) below in
    let X : IndexBlocks → Type 0 = λ c. F (IsWrongUpTo c level ns (length ns)) in
    subst X same (finds ns row_is (subst B (sym same) b))))
    joins

-- all are
pub judged-all : (k : ℕ) (v : VolumeState) (rows : List Standing) (end : ℕ) (below : List Extent) (K : Known) → ((P Q : ℕ → ℕ → Type 0) → ((n o : ℕ) → P n o → Q n o) → ((n o : ℕ) → Q n o → P n o) → K P → K Q)
    → end ≡ 0 → AreJudged k v rows end below K → K (IsWrongFrom k v 0)
judged-all k v rows end below K keeps none j =
    let gone : rows_above (index_blocks k v) j.steps (top_level v) (top_blocks v) ≡ [] = sym j.rest ∙ ap (λ (i : ℕ). take i rows) none in
    keeps (IsWrongFrom k v j.steps) (IsWrongFrom k v 0) (λ n o w. (w.0, omega arith, w.2, w.3))
    (λ n o w. elim (cases_lt w.0 j.steps) [
      | inl above ↦
          (let empty : row-at-step k v w.0 ≡ [] = above-empty (index_blocks k v) j.steps (top_level v) (top_blocks v) w.0 gone above in
          let len : length (row-at-step k v w.0) ≡ 0 = ap (λ (t : List ℕ). length t) empty in
          let place = w.3 in
          let less = place.1 in
          absurd (omega arith))
      | inr low ↦ (w.0, low, w.2, w.3)
    ])
    j.known

-- ---- what was found

front-is : (left : List ℕ) (n : ℕ) (right : List ℕ) → take (length left) (left ++ (n ∷ right)) ≡ left
front-is left n right = take_at left (n ∷ right) (length left) refl

back-is : (left : List ℕ) (n : ℕ) (right : List ℕ) → drop (length left + 1) (left ++ (n ∷ right)) ≡ right
back-is left n right = sym (drop-drop 1 (length left) (left ++ (n ∷ right))) ∙ ap (drop 1) (drop_at left (n ∷ right) (length left) refl)

here-is : (left : List ℕ) (n : ℕ) (right : List ℕ) → slice_index (left ++ (n ∷ right)) (length left) ≡ n
here-is [] n right = refl
here-is (x ∷ left) n right = here-is left n right

short-is : (left : List ℕ) (n : ℕ) (right : List ℕ) → length left < length (left ++ (n ∷ right))
short-is [] n right = omega arith
short-is (x ∷ left) n right = (let r = short-is left n right in omega arith)

-- a block with an entry out of order is one of a row
pub wrong-of : (k : ℕ) (v : VolumeState) (a o : ℕ) → (t : HasEntryOutOfOrder k v a o) → IsWrongFrom k v 0 t.1 o × (a ≡ t.1 * v.size)
wrong-of k v a o t =
    let c : IndexBlocks = index_blocks k v in
    let l : ℕ = t.0 in
    let n : ℕ = t.1 in
    let left : List ℕ = t.2 in
    let right : List ℕ = t.3 in
    let between = t.4 in
    let low = between.low in
    let s : ℕ = top_level v - l in
    let own : top_level v - s ≡ l = omega arith in
    let row : row-at-step k v s ≡ left ++ (n ∷ right) = between.row in
    let wrong : wrong_at c l (left ++ (n ∷ right)) (length left) ≡ Some o =
    ap (λ (x : List ℕ). option_map (λ (e : Entry). e.address) (first_wrong_in c l x (slice_index (left ++ (n ∷ right)) (length left)) (drop (length left + 1) (left ++ (n ∷ right))))) (front-is left n right)
    ∙ ap (λ (x : List ℕ). option_map (λ (e : Entry). e.address) (first_wrong_in c l left (slice_index (left ++ (n ∷ right)) (length left)) x)) (back-is left n right)
    ∙ ap (λ (x : ℕ). option_map (λ (e : Entry). e.address) (first_wrong_in c l left x right)) (here-is left n right)
    ∙ t.5 in
    let W : List ℕ → Type 0 = λ x. IsWrongUpTo c l x (length x) n o in
    let V : ℕ → Type 0 = λ i. IsWrongUpTo c i (row-at-step k v s) (length (row-at-step k v s)) n o in
    ((s, omega arith, omega arith, subst V (sym own) (subst W (sym row) (length left, short-is left n right, sym (here-is left n right), wrong))), t.6)

-- and one of a row has one
pub of-wrong : (k : ℕ) (v : VolumeState) (n o : ℕ) → IsWrongFrom k v 0 n o → HasEntryOutOfOrder k v (n * v.size) o
of-wrong k v n o w =
    let c : IndexBlocks = index_blocks k v in
    let s : ℕ = w.0 in
    let low = w.2 in
    let place = w.3 in
    let j : ℕ = place.0 in
    let l : ℕ = top_level v - s in
    let ns : List ℕ = row-at-step k v s in
    let split : ns ≡ take j ns ++ (slice_index ns j ∷ drop (j + 1) ns) = sym (take-append-drop j ns) ∙ ap (λ (t : List ℕ). take j ns ++ t) (drop_more ns j 0 place.1) in
    let back : top_level v - l ≡ s = omega arith in
    let row : row_below c (top_level v - l) (top_blocks v) ≡ take j ns ++ (slice_index ns j ∷ drop (j + 1) ns) = ap (λ (i : ℕ). row_below c i (top_blocks v)) back ∙ split in
    (l, slice_index ns j, take j ns, drop (j + 1) ns, record { low = omega arith; row = row }, place.3, ap (λ (x : ℕ). x * v.size) place.2)

pub found-none : (k : ℕ) (v : VolumeState) (least : Option (ℕ × ℕ)) → IsLeastOf (IsWrongFrom k v 0) least → IfNone least (StandsNowhere (HasEntryOutOfOrder k v))
found-none k v (Some x) h = tt
found-none k v None h = λ a o t. h t.1 o (wrong-of k v a o t).0

pub found-some : (k : ℕ) (v : VolumeState) (least : Option (ℕ × ℕ)) → IsLeastOf (IsWrongFrom k v 0) least → IfSome least (λ x. IsFirst v (HasEntryOutOfOrder k v) x.0 x.1)
found-some k v None h = tt
found-some k v (Some x) h = record {
  here = of-wrong k v x.0 x.1 h.0;
  least = λ a o t.
      (let w = wrong-of k v a o t in
      let low = h.1 t.1 o w.0 in
      let at_least : x.0 * v.size ≤ t.1 * v.size = mul-le x.0 v.size t.1 v.size low (omega arith) in
      let place = w.1 in
      omega arith);
}
