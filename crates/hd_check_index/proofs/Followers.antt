-- Which block follows another one on its level.
use Rattle.std.proofs.Common.{◌≡◌, ◌≢◌, ◌⊎◌, inl, inr, ℕ, zero, suc, ◌+◌, ◌-◌, ◌*◌, ◌<◌, ◌≤◌, ◌==◌, not, true, false, List, [], ◌∷◌, ◌++◌, length, drop, length-append, append_assoc, Option, Some, None, refl, sym, ap, subst, ◌∙◌, arith, ne_eqb}
use Rattle.std.specs.Prelude.{IfNone, IfSome, min}
use Rattle.std.specs.Option.{option_map_or}
use Rattle.std.proofs.lemmas.Bool.{cases_lt, cases_eq, eq-eqb, false≢true}
use Rattle.std.proofs.lemmas.Nat.{mul-le}
use Rattle.hd_volume.specs.Headers.{header_of}
use Rattle.hd_volume.specs.Volumes.{VolumeState, IsKind}
use Rattle.hd_volume.specs.Indexes.{IsAmong}
use Rattle.hd_index_blocks.specs.Levels.{IndexBlocks, across, named}
use Rattle.hd_index_blocks.specs.Chains.{first_of}
use Rattle.hd_index_blocks.specs.IndexSets.{level_in, next_in, index_blocks, top_blocks, top_level}
use Rattle.hd_index_blocks.specs.Faultless.{AreFormsRight}
use Rattle.hd_index_blocks.specs.LevelFaults.{row_below, IsWrongNext}
use Rattle.hd_index_blocks.proofs.Parents.{named-by}
use Rattle.hd_index_blocks.proofs.Volumes.{level-kind}
use Rattle.hd_check_index.specs.declared.rows.Standing.{Standing}
use Rattle.hd_check_index.specs.declared.table.NotedBlock.{NotedBlock}
use Rattle.hd_check_index.specs.Tables.{AreIndexBlocks}
use Rattle.hd_check_index.specs.Rows.{row_of, rows_of}
use Rattle.hd_check_index.specs.Judging.{IsFirst, IsFoundAt}
use Rattle.hd_check_index.specs.NotedBlocks.{noted_at}
use Rattle.hd_check_index.specs.Standings.{standing_at, all_rows, first_on, follower}
use Rattle.hd_check_index.proofs.NotedTables.{among}
use Rattle.hd_check_index.proofs.RowSteps.{row-append, none-behind, at-front, among-behind}

-- ---- parts of some rows

-- before an index, at it, and behind it
parts-at : (rows : List Standing) (i : ℕ) → i < length rows → (before : List Standing) × (rows ≡ before ++ (standing_at rows i ∷ drop (suc i) rows))
parts-at [] i l = absurd (omega arith)
parts-at (s ∷ rows) zero l = ([], refl)
parts-at (s ∷ rows) (suc i) l = (let r = parts-at rows i (omega arith) in (s ∷ r.0, ap (λ (t : List Standing). s ∷ t) r.1))

-- behind the last of some
drop-behind : (xs : List Standing) (y : Standing) (ys : List Standing) → drop (suc (length xs)) (xs ++ (y ∷ ys)) ≡ ys
drop-behind [] y ys = refl
drop-behind (x ∷ xs) y ys = drop-behind xs y ys

-- the parts about one of two lists
split-append : (xs ys before : List Standing) (s : Standing) (after : List Standing) → xs ++ ys ≡ before ++ (s ∷ after)
    → ((more : List Standing) × (xs ≡ before ++ (s ∷ more)) × (after ≡ more ++ ys)) ⊎ ((front : List Standing) × (ys ≡ front ++ (s ∷ after)))
split-append [] ys before s after h = inr (before, h)
split-append (x ∷ xs) ys [] s after h = inl (xs, (let e : x ≡ s = cc in ap (λ (t : Standing). t ∷ xs) e), (let e : xs ++ ys ≡ after = cc in sym e))
split-append (x ∷ xs) ys (b ∷ before) s after h =
    let same : x ≡ b = cc in
    let rest : xs ++ ys ≡ before ++ (s ∷ after) = cc in
    elim (split-append xs ys before s after rest) [
      | inl one ↦ inl (one.0, (ap (λ (t : Standing). t ∷ xs) same ∙ ap (λ (t : List Standing). b ∷ t) one.1), one.2)
      | inr two ↦ inr two
    ]

-- Block s stands in a row between others.
pub record IsInRow (l : ℕ) (ns : List ℕ) (s : Standing) (after : List Standing) : Type 0 where
  pub left : List ℕ
  pub right : List ℕ
  pub level_is : s.level ≡ l
  pub row : ns ≡ left ++ (s.number ∷ right)
  pub behind : after ≡ row_of l right

row-split : (l : ℕ) (ns : List ℕ) (before : List Standing) (s : Standing) (after : List Standing) → row_of l ns ≡ before ++ (s ∷ after) → IsInRow l ns s after
row-split l [] [] s after h = absurd (cc)
row-split l [] (b ∷ before) s after h = absurd (cc)
row-split l (n ∷ ns) [] s after h =
    let own : record { number = n; level = l } ≡ s = cc in
    let rest : row_of l ns ≡ after = cc in
    record {
      left = [];
      right = ns;
      level_is = sym (ap (λ (t : Standing). t.level) own);
      row = ap (λ (t : Standing). t.number ∷ ns) own;
      behind = sym rest;
    }
row-split l (n ∷ ns) (b ∷ before) s after h =
    let rest : row_of l ns ≡ before ++ (s ∷ after) = cc in
    let r = row-split l ns before s after rest in
    record { left = n ∷ r.left; right = r.right; level_is = r.level_is; row = ap (λ (t : List ℕ). n ∷ t) r.row; behind = r.behind }

-- ---- the first behind

-- no row below a level begins with a block of that level
below-none : (c : IndexBlocks) (l h : ℕ) (ns : List ℕ) → h < l → first_on l (rows_of c h ns) ≡ 0
below-none c l zero [] low = refl
below-none c l zero (n ∷ ns) low = rw (ne_eqb 0 l (λ z. omega arith)) refl
below-none c l (suc h) [] low = below-none c l h [] (omega arith)
below-none c l (suc h) (n ∷ ns) low = rw (ne_eqb (suc h) l (λ z. omega arith)) refl

-- what follows in a row is the first to its right
first-right : (l : ℕ) (right : List ℕ) (rest : List Standing) → first_on l rest ≡ 0 → first_on l (row_of l right ++ rest) ≡ first_of right
first-right l [] rest none = none
first-right l (n ∷ right) rest none = rw (eq-eqb l l refl) refl

-- ---- where a block stands

-- Block s stands on its level between others, and what is behind it in the rows begins with the one that follows, if there is one.
pub record StandsIn (c : IndexBlocks) (h : ℕ) (ns : List ℕ) (s : Standing) (after : List Standing) : Type 0 where
  pub steps : ℕ
  pub left : List ℕ
  pub right : List ℕ
  pub height : steps + s.level ≡ h
  pub row : row_below c steps ns ≡ left ++ (s.number ∷ right)
  pub follows : first_on s.level after ≡ first_of right
  pub on_level : c.level s.number ≡ Some s.level

module _ (c : IndexBlocks) (names : (n l m : ℕ) → c.level n ≡ Some (suc l) → IsAmong m (named (c.entries n)) → c.level m ≡ Some l) where
  here : (l : ℕ) (ns : List ℕ) (s : Standing) (more after rest : List Standing) → ((n : ℕ) → IsAmong n ns → c.level n ≡ Some l) → IsInRow l ns s more → after ≡ more ++ rest → first_on l rest ≡ 0
      → StandsIn c l ns s after
  here l ns s more after rest own r is none =
      let A : List ℕ → Type 0 = λ t. IsAmong s.number t in
      record {
        steps = 0;
        left = r.left;
        right = r.right;
        height = (let e = r.level_is in omega arith);
        row = r.row;
        follows = ap (λ (i : ℕ). first_on i after) r.level_is ∙ ap (first_on l) (is ∙ ap (λ (t : List Standing). t ++ rest) r.behind) ∙ first-right l r.right rest none;
        on_level = own s.number (subst A (sym r.row) (among-behind s.number r.left r.right)) ∙ ap (λ (i : ℕ). Some i) (sym r.level_is);
      }

  pub stands-in : (h : ℕ) (ns : List ℕ) (before : List Standing) (s : Standing) (after : List Standing) → ((n : ℕ) → IsAmong n ns → c.level n ≡ Some h) → rows_of c h ns ≡ before ++ (s ∷ after)
      → StandsIn c h ns s after
  stands-in zero ns before s after own is = here 0 ns s after after [] own (row-split 0 ns before s after is) (sym (none-behind after)) refl
  stands-in (suc h) ns before s after own is =
      elim (split-append (row_of (suc h) ns) (rows_of c h (named (across c ns))) before s after is) [
        | inl one ↦
            here (suc h) ns s one.0 after (rows_of c h (named (across c ns))) own (row-split (suc h) ns before s one.0 one.1) one.2 (below-none c (suc h) h (named (across c ns)) (omega arith))
        | inr two ↦
            (let r = stands-in h (named (across c ns)) two.0 s after (λ m a. (let by = named-by c m ns a in names by.0 h m (own by.0 by.1) by.2)) two.1 in
            let height = r.height in
            record { steps = suc r.steps; left = r.left; right = r.right; height = omega arith; row = r.row; follows = r.follows; on_level = r.on_level })
      ]

-- The block of a number stands in the rows, and what is behind it begins with the first to its right.
pub record StandsWith (rows : List Standing) (l n : ℕ) (right : List ℕ) : Type 0 where
  pub before : List Standing
  pub after : List Standing
  pub is : rows ≡ before ++ (record { number = n; level = l } ∷ after)
  pub follows : first_on l after ≡ first_of right

in-row : (l n : ℕ) (ns left right : List ℕ) (rest : List Standing) → ns ≡ left ++ (n ∷ right) → first_on l rest ≡ 0 → StandsWith (row_of l ns ++ rest) l n right
in-row l n ns left right rest is none =
    let own : Standing = record { number = n; level = l } in
    record {
      before = row_of l left;
      after = row_of l right ++ rest;
      is = ap (λ (t : List ℕ). row_of l t ++ rest) is ∙ ap (λ (t : List Standing). t ++ rest) (row-append l left (n ∷ right)) ∙ append_assoc (row_of l left) (own ∷ row_of l right) rest;
      follows = first-right l right rest none;
    }

stands-with : (c : IndexBlocks) (h : ℕ) (ns : List ℕ) (steps l n : ℕ) (left right : List ℕ) → steps + l ≡ h → row_below c steps ns ≡ left ++ (n ∷ right) → StandsWith (rows_of c h ns) l n right
stands-with c zero ns zero l n left right e is =
    let S : List Standing → Type 0 = λ t. StandsWith t l n right in
    let level : l ≡ 0 = omega arith in
    subst S (none-behind (row_of l ns) ∙ ap (λ (i : ℕ). row_of i ns) level) (in-row l n ns left right [] is refl)
stands-with c (suc h) ns zero l n left right e is =
    let S : List Standing → Type 0 = λ t. StandsWith t l n right in
    let below : List Standing = rows_of c h (named (across c ns)) in
    let level : l ≡ suc h = omega arith in
    subst S (ap (λ (i : ℕ). row_of i ns ++ below) level) (in-row l n ns left right below is (below-none c l h (named (across c ns)) (omega arith)))
stands-with c zero ns (suc steps) l n left right e is = absurd (omega arith)
stands-with c (suc h) ns (suc steps) l n left right e is =
    let r = stands-with c h (named (across c ns)) steps l n left right (omega arith) is in
    let own : Standing = record { number = n; level = l } in
    record {
      before = row_of (suc h) ns ++ r.before;
      after = r.after;
      is = ap (λ (t : List Standing). row_of (suc h) ns ++ t) r.is ∙ sym (append_assoc (row_of (suc h) ns) r.before (own ∷ r.after));
      follows = r.follows;
    }

-- ---- the least number

-- of some rows the block at an index names another one as the next than the one that follows
abbrev pub IsWrongAt : VolumeState → List Standing → ℕ → Type 0
IsWrongAt v rows i = next_in v (standing_at rows i).number ≢ follower rows i

-- of the wrong ones before an index this is the least number, if there is one
abbrev pub IsLeastTo : VolumeState → List Standing → ℕ → Option ℕ → Type 0
IsLeastTo v rows i found =
    IfNone found ((j : ℕ) → j < i → IsWrongAt v rows j → ⊥)
    × IfSome found (λ n. (j : ℕ) × (j < i) × (n ≡ (standing_at rows j).number) × IsWrongAt v rows j × ((m : ℕ) → m < i → IsWrongAt v rows m → n ≤ (standing_at rows m).number))

-- at first there is none
pub least-none : (v : VolumeState) (rows : List Standing) → IsLeastTo v rows 0 None
least-none v rows = ((λ j low w. omega arith), tt)

-- one more is right
pub least-past : (v : VolumeState) (rows : List Standing) (i : ℕ) (found : Option ℕ) → IsLeastTo v rows i found → (IsWrongAt v rows i → ⊥) → IsLeastTo v rows (i + 1) found
least-past v rows i None h right = (
  (λ j low w. elim (cases_eq j i) [
    | inl e ↦ right (subst (IsWrongAt v rows) e w)
    | inr ne ↦ h.0 j (omega arith) w
  ]),
  tt,
)
least-past v rows i (Some n) h right =
    let all = λ (m : ℕ) (low : m < i + 1) (w : IsWrongAt v rows m). (let r : n ≤ (standing_at rows m).number = elim (cases_eq m i) [
      | inl e ↦ absurd (right (subst (IsWrongAt v rows) e w))
      | inr ne ↦ h.1.4 m (omega arith) w
    ] in r) in
    (tt, (h.1.0, (let l = h.1.1 in omega arith), h.1.2, h.1.3, all))

-- or wrong
pub least-more : (v : VolumeState) (rows : List Standing) (i : ℕ) (found : Option ℕ) (n : ℕ) → IsLeastTo v rows i found → IsWrongAt v rows i
    → n ≡ option_map_or (λ (m : ℕ). min m (standing_at rows i).number) found (standing_at rows i).number → IsLeastTo v rows (i + 1) (Some n)
least-more v rows i None n h wrong is =
    let all = λ (m : ℕ) (low : m < i + 1) (w : IsWrongAt v rows m). (let r : n ≤ (standing_at rows m).number = elim (cases_eq m i) [
      | inl e ↦ (let z : (standing_at rows m).number ≡ (standing_at rows i).number = ap (λ (j : ℕ). (standing_at rows j).number) e in omega arith)
      | inr ne ↦ absurd (h.0 m (omega arith) w)
    ] in r) in
    (tt, (i, (omega arith), is, wrong, all))
least-more v rows i (Some o) n h wrong is =
    let x : ℕ = (standing_at rows i).number in
    let low_own : n ≤ x = omega arith in
    let low_old : n ≤ o = omega arith in
    let all = λ (m : ℕ) (low : m < i + 1) (w : IsWrongAt v rows m). (let r : n ≤ (standing_at rows m).number = elim (cases_eq m i) [
      | inl e ↦ (let z : (standing_at rows m).number ≡ x = ap (λ (j : ℕ). (standing_at rows j).number) e in omega arith)
      | inr ne ↦ (let l : o ≤ (standing_at rows m).number = h.1.4 m (omega arith) w in omega arith)
    ] in r) in
    elim (cases_lt o x) [
      | inl less ↦ (let own : n ≡ o = omega arith in (tt, (h.1.0, (let l = h.1.1 in omega arith), (own ∙ h.1.2), h.1.3, all)))
      | inr more ↦ (let own : n ≡ x = omega arith in (tt, (i, (omega arith), own, wrong, all)))
    ]

-- ---- the next block

-- two numbers that do not test as equal differ
pub test-other : (a b : ℕ) → not (a == b) ≡ true → a ≢ b
test-other a b h e = false≢true (sym (ap not (eq-eqb a b e)) ∙ h)

-- and two that do are the same
pub test-same : (a b : ℕ) → not (a == b) ≡ false → a ≡ b
test-same a b h = elim (cases_eq a b) [ inl e ↦ e | inr ne ↦ absurd (false≢true (sym h ∙ ap not (ne_eqb a b ne))) ]

-- what a block of the table names as the next
pub next-at : (v : VolumeState) (bs : List NotedBlock) (table : AreIndexBlocks v bs) (at n : ℕ) → at < length bs → (noted_at bs at).number ≡ n → (noted_at bs at).next ≡ next_in v n
next-at v bs table at n within is = ap (λ (b : NotedBlock). b.next) (table.there (noted_at bs at) (among bs at within)).1 ∙ ap (next_in v) is

-- ---- of a volume

top-level : (k : ℕ) (v : VolumeState) → AreFormsRight k v → (n : ℕ) → IsAmong n (top_blocks v) → level_in v n ≡ Some (top_level v)
top-level k v f n a = elim (cases_eq (header_of v.image).top 0) [
  | inl none ↦ (let A : List ℕ → Type 0 = λ t. IsAmong n t in let e : top_blocks v ≡ [] = rw (eq-eqb (header_of v.image).top 0 none) refl in absurd (subst A e a))
  | inr some ↦
      (let A : List ℕ → Type 0 = λ t. IsAmong n t in
      let e : top_blocks v ≡ (header_of v.image).top ∷ [] = rw (ne_eqb (header_of v.image).top 0 some) refl in
      elim (subst A e a) [ inl is ↦ ap (level_in v) is ∙ f.top (omega arith) | inr none ↦ absurd none ])
]

module _ (k : ℕ) (v : VolumeState) (f : AreFormsRight k v) (rows : List Standing) (is : rows ≡ all_rows k v) where
  stands-at : (i : ℕ) → i < length rows → StandsIn (index_blocks k v) (top_level v) (top_blocks v) (standing_at rows i) (drop (i + 1) rows)
  stands-at i l =
      let p = parts-at rows i l in
      let e : suc i ≡ i + 1 = omega arith in
      let S : ℕ → Type 0 = λ j. StandsIn (index_blocks k v) (top_level v) (top_blocks v) (standing_at rows i) (drop j rows) in
      subst S e (stands-in (index_blocks k v) (λ n l m on a. (f.blocks n (suc l) on).names l m refl a) (top_level v) (top_blocks v) p.0 (standing_at rows i) (drop (suc i) rows) (top-level k v f) (sym is ∙ p.1))

  -- each block of the rows is an index block
  pub standing-kind : (i : ℕ) → i < length rows → IsKind v 2 (standing_at rows i).number
  standing-kind i l = (level-kind v (standing_at rows i).number (standing_at rows i).level (stands-at i l).on_level).0

  -- what is wrong at an index is a fault
  pub wrong-fault : (i : ℕ) → i < length rows → IsWrongAt v rows i → IsWrongNext k v ((standing_at rows i).number * v.size) 0
  wrong-fault i l wrong =
      let s = stands-at i l in
      let height = s.height in
      let own = (standing_at rows i).level in
      let steps : top_level v - own ≡ s.steps = omega arith in (
        own,
        (standing_at rows i).number,
        s.left,
        s.right,
        record { low = omega arith; row = ap (λ (j : ℕ). row_below (index_blocks k v) j (top_blocks v)) steps ∙ s.row },
        (λ e. wrong (e ∙ sym s.follows)),
        refl,
        refl,
      )

  -- and each fault is wrong at an index
  pub fault-wrong : (address other : ℕ) → IsWrongNext k v address other → (i : ℕ) × (i < length rows) × IsWrongAt v rows i × (address ≡ (standing_at rows i).number * v.size)
  fault-wrong address other t =
      let l : ℕ = t.0 in
      let n : ℕ = t.1 in
      let low = t.4.low in
      let own : Standing = record { number = n; level = l } in
      let s = stands-with (index_blocks k v) (top_level v) (top_blocks v) (top_level v - l) l n t.2 t.3 (omega arith) t.4.row in
      let i : ℕ = length s.before in
      let parts : rows ≡ s.before ++ (own ∷ s.after) = is ∙ s.is in
      let at : standing_at rows i ≡ own = ap (λ (r : List Standing). standing_at r i) parts ∙ at-front s.before own s.after i refl in
      let behind : drop (i + 1) rows ≡ s.after =
      ap (λ (j : ℕ). drop j rows) (let e : i + 1 ≡ suc i = omega arith in e) ∙ ap (λ (r : List Standing). drop (suc i) r) parts ∙ drop-behind s.before own s.after in
      let follows : follower rows i ≡ first_of t.3 = ap (λ (x : Standing). first_on x.level (drop (i + 1) rows)) at ∙ ap (first_on l) behind ∙ s.follows in
      let number : (standing_at rows i).number ≡ n = ap (λ (x : Standing). x.number) at in
      let long : length rows ≡ i + suc (length s.after) = ap length parts ∙ length-append s.before (own ∷ s.after) in
      (i, omega arith, (λ e. t.5 (ap (next_in v) (sym number) ∙ e ∙ follows)), t.6 ∙ ap (λ (x : ℕ). x * v.size) (sym number))

  -- the least number of all that are wrong is the first fault
  pub next-found : (found : Option ℕ) → IsLeastTo v rows (length rows) found → IsFoundAt v (IsWrongNext k v) found
  next-found None h = ((λ a o t. (let w = fault-wrong a o t in h.0 w.0 w.1 w.2)), tt)
  next-found (Some n) h =
      let F : ℕ → Type 0 = λ m. IsFirst v (IsWrongNext k v) m 0 in (
        tt,
        record {
          here = (let W : ℕ → Type 0 = λ m. IsWrongNext k v (m * v.size) 0 in subst W (sym h.1.2) (wrong-fault h.1.0 h.1.1 h.1.3));
          least = λ a o t.
              (let w = fault-wrong a o t in
              let at : a ≡ (standing_at rows w.0).number * v.size = w.3 in
              let less : n * v.size ≤ (standing_at rows w.0).number * v.size = mul-le n v.size (standing_at rows w.0).number v.size (h.1.4 w.0 w.1 w.2) (omega arith) in
              omega arith);
        },
      )
