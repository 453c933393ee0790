-- The rows of an index set, noted block by block from the top down.
use Rattle.std.proofs.Common.{◌≡◌, inl, inr, ℕ, zero, suc, ◌+◌, ◌-◌, ◌<◌, ◌≤◌, List, [], ◌∷◌, ◌++◌, length, length-append, append_assoc, Some, slice_index_or, refl, sym, ap, ◌∙◌, subst, arith, ne_eqb}
use Rattle.hd_bytes.specs.Numbers.{number_at}
use Rattle.hd_volume.specs.Headers.{header_of}
use Rattle.hd_volume.specs.Volumes.{VolumeState, block_at, IsKind}
use Rattle.hd_volume.specs.Entries.{Entry, entries_in}
use Rattle.hd_volume.specs.Indexes.{entry_room, IsAmong}
use Rattle.hd_index_blocks.specs.Levels.{IndexBlocks, across, named}
use Rattle.hd_index_blocks.specs.IndexSets.{level_in, index_blocks, top_blocks, top_level}
use Rattle.hd_index_blocks.specs.Faultless.{AreFormsRight}
use Rattle.hd_index_blocks.proofs.Levels.{across-append, named-append}
use Rattle.hd_index_blocks.proofs.Parents.{named-by}
use Rattle.hd_index_blocks.proofs.Volumes.{level-kind}
use Rattle.hd_check_index.specs.declared.rows.Standing.{Standing}
use Rattle.hd_check_index.specs.Rows.{row_of, rows_of}
use Rattle.hd_check_index.specs.Standings.{standing_at, all_rows, AreNotedTo}

-- ---- rows

-- behind some there may be none
pub none-behind : {A : Type 0} (xs : List A) → xs ++ [] ≡ xs
none-behind [] = refl
none-behind (x ∷ xs) = ap (λ t. x ∷ t) (none-behind xs)

-- the parts of a row
pub row-append : (l : ℕ) (xs ys : List ℕ) → row_of l (xs ++ ys) ≡ row_of l xs ++ row_of l ys
row-append l [] ys = refl
row-append l (x ∷ xs) ys = ap (λ (t : List Standing). record { number = x; level = l } ∷ t) (row-append l xs ys)

row-length : (l : ℕ) (ns : List ℕ) → length (row_of l ns) ≡ length ns
row-length l [] = refl
row-length l (n ∷ ns) = ap suc (row-length l ns)

-- the block behind some
pub at-front : (xs : List Standing) (y : Standing) (ys : List Standing) (i : ℕ) → i ≡ length xs → standing_at (xs ++ (y ∷ ys)) i ≡ y
at-front [] y ys zero e = refl
at-front [] y ys (suc i) e = absurd (omega arith)
at-front (x ∷ xs) y ys zero e = absurd (omega arith)
at-front (x ∷ xs) y ys (suc i) e = at-front xs y ys i (omega arith)

-- and one of these
at-within : (xs ys : List Standing) (i : ℕ) → i < length xs → standing_at (xs ++ ys) i ≡ standing_at xs i
at-within [] ys i l = absurd (omega arith)
at-within (x ∷ xs) ys zero l = refl
at-within (x ∷ xs) ys (suc i) l = at-within xs ys i (omega arith)

-- ---- one row more

-- Of the last row of those that were noted the blocks before an index were read, and what they name stands behind.
pub record IsNoting (c : IndexBlocks) (whole : List Standing) (l i : ℕ) (old rows : List Standing) : Type 0 where
  pub front : List Standing
  pub left : List ℕ
  pub right : List ℕ
  pub turn : length front + length left ≡ i
  pub was : old ≡ front ++ row_of (suc l) (left ++ right)
  pub is : rows ≡ old ++ row_of l (named (across c left))
  pub on_level : (n : ℕ) → IsAmong n (left ++ right) → c.level n ≡ Some (suc l)
  pub goes_on : whole ≡ front ++ rows_of c (suc l) (left ++ right)

-- at first none was read
pub noting-starts : (c : IndexBlocks) (whole : List Standing) (l from : ℕ) (old : List Standing) → AreNotedTo c whole (suc l) from old → IsNoting c whole l from old old
noting-starts c whole l from old h = record {
  front = h.front;
  left = [];
  right = h.row;
  turn = (let b = h.begins in omega arith);
  was = h.is;
  is = sym (none-behind old);
  on_level = h.on_level;
  goes_on = h.goes_on;
}

-- Block n is the next that is read.
pub record IsNext (c : IndexBlocks) (whole : List Standing) (l i : ℕ) (old rows : List Standing) (n : ℕ) : Type 0 where
  pub at : standing_at rows i ≡ record { number = n; level = suc l }
  pub on_level : c.level n ≡ Some (suc l)
  pub read : (more : List Standing) → more ≡ rows ++ row_of l (named (c.entries n)) → IsNoting c whole l (i + 1) old more

-- a number between others is among them
pub among-behind : (n : ℕ) (left right : List ℕ) → IsAmong n (left ++ (n ∷ right))
among-behind n [] right = inl refl
among-behind n (x ∷ left) right = inr (among-behind n left right)

lengths : (l : ℕ) (old front : List Standing) (left right : List ℕ) → old ≡ front ++ row_of (suc l) (left ++ right) → length old ≡ length front + length left + length right
lengths l old front left right was =
    let a : length old ≡ length front + length (row_of (suc l) (left ++ right)) = ap length was ∙ length-append front (row_of (suc l) (left ++ right)) in
    let b : length (row_of (suc l) (left ++ right)) ≡ length (left ++ right) = row-length (suc l) (left ++ right) in
    let d : length (left ++ right) ≡ length left + length right = length-append left right in
    omega arith

pub noting-here : (c : IndexBlocks) (whole : List Standing) (l i : ℕ) (old rows : List Standing) → IsNoting c whole l i old rows → i < length old → (n : ℕ) × IsNext c whole l i old rows n
noting-here c whole l i old rows h within = by-right h.right refl
  where
    by-right : (right : List ℕ) → h.right ≡ right → (n : ℕ) × IsNext c whole l i old rows n
    by-right [] e =
        let len = lengths l old h.front h.left h.right h.was in
        let turn = h.turn in
        let z : length h.right ≡ 0 = ap length e in
        absurd (omega arith)
    by-right (n ∷ right) e =
        let own : Standing = record { number = n; level = suc l } in
        let was : old ≡ h.front ++ row_of (suc l) (h.left ++ (n ∷ right)) = h.was ∙ ap (λ (t : List ℕ). h.front ++ row_of (suc l) (h.left ++ t)) e in
        let parts : old ≡ (h.front ++ row_of (suc l) h.left) ++ (own ∷ row_of (suc l) right) =
        was ∙ ap (λ (t : List Standing). h.front ++ t) (row-append (suc l) h.left (n ∷ right)) ∙ sym (append_assoc h.front (row_of (suc l) h.left) (own ∷ row_of (suc l) right)) in
        let turn = h.turn in
        let len : length (h.front ++ row_of (suc l) h.left) ≡ length h.front + length (row_of (suc l) h.left) = length-append h.front (row_of (suc l) h.left) in
        let rl = row-length (suc l) h.left in
        let O : List ℕ → Type 0 = λ ns. (m : ℕ) → IsAmong m ns → c.level m ≡ Some (suc l) in
        let on = subst O (ap (λ (t : List ℕ). h.left ++ t) e) h.on_level in
        let more_left : (h.left ++ (n ∷ [])) ++ right ≡ h.left ++ (n ∷ right) = append_assoc h.left (n ∷ []) right in
        let one : across c (h.left ++ (n ∷ [])) ≡ across c h.left ++ c.entries n = across-append c h.left (n ∷ []) ∙ ap (λ (t : List Entry). across c h.left ++ t) (none-behind (c.entries n)) in
        let named_more : row_of l (named (across c (h.left ++ (n ∷ [])))) ≡ row_of l (named (across c h.left)) ++ row_of l (named (c.entries n)) =
        ap (λ (t : List Entry). row_of l (named t)) one ∙ ap (row_of l) (named-append (across c h.left) (c.entries n)) ∙ row-append l (named (across c h.left)) (named (c.entries n)) in (
          n,
          record {
            at = ap (λ (t : List Standing). standing_at t i) h.is ∙ at-within old (row_of l (named (across c h.left))) i within ∙ ap (λ (t : List Standing). standing_at t i) parts
                ∙ at-front (h.front ++ row_of (suc l) h.left) own (row_of (suc l) right) i (omega arith);
            on_level = on n (among-behind n h.left right);
            read = λ more is. record {
              front = h.front;
              left = h.left ++ (n ∷ []);
              right = right;
              turn = (let k : length (h.left ++ (n ∷ [])) ≡ length h.left + 1 = length-append h.left (n ∷ []) in omega arith);
              was = was ∙ ap (λ (t : List ℕ). h.front ++ row_of (suc l) t) (sym more_left);
              is = is ∙ ap (λ (t : List Standing). t ++ row_of l (named (c.entries n))) h.is ∙ append_assoc old (row_of l (named (across c h.left))) (row_of l (named (c.entries n)))
                  ∙ ap (λ (t : List Standing). old ++ t) (sym named_more);
              on_level = subst O (sym more_left) on;
              goes_on = h.goes_on ∙ ap (λ (t : List ℕ). h.front ++ rows_of c (suc l) (h.left ++ t)) e ∙ ap (λ (t : List ℕ). h.front ++ rows_of c (suc l) t) (sym more_left);
            };
          },
        )

-- after all were read the next row is noted
pub noting-ends : (c : IndexBlocks) (whole : List Standing) (l i : ℕ) (old rows : List Standing) → IsNoting c whole l i old rows → length old ≤ i
    → ((n m : ℕ) → c.level n ≡ Some (suc l) → IsAmong m (named (c.entries n)) → c.level m ≡ Some l) → AreNotedTo c whole l (length old) rows
noting-ends c whole l i old rows h past names = by-right h.right refl
  where
    by-right : (right : List ℕ) → h.right ≡ right → AreNotedTo c whole l (length old) rows
    by-right (n ∷ right) e =
        let len = lengths l old h.front h.left h.right h.was in
        let turn = h.turn in
        let z : length h.right ≡ suc (length right) = ap length e in
        absurd (omega arith)
    by-right [] e =
        let all : h.left ++ h.right ≡ h.left = ap (λ (t : List ℕ). h.left ++ t) e ∙ none-behind h.left in
        let O : List ℕ → Type 0 = λ ns. (m : ℕ) → IsAmong m ns → c.level m ≡ Some (suc l) in
        let on = subst O all h.on_level in
        let was : old ≡ h.front ++ row_of (suc l) h.left = h.was ∙ ap (λ (t : List ℕ). h.front ++ row_of (suc l) t) all in
        record {
          front = old;
          row = named (across c h.left);
          begins = refl;
          is = h.is;
          on_level = λ m a. (let by = named-by c m h.left a in names by.0 m (on by.0 by.1) by.2);
          goes_on = h.goes_on ∙ ap (λ (t : List ℕ). h.front ++ rows_of c (suc l) t) all ∙ sym (append_assoc h.front (row_of (suc l) h.left) (rows_of c l (named (across c h.left))))
              ∙ ap (λ (t : List Standing). t ++ rows_of c l (named (across c h.left))) (sym was);
        }

-- ---- of a volume

module _ (k : ℕ) (v w : VolumeState) (size : w.size ≡ v.size) (image : w.image ≡ v.image) where
  blocks-same : index_blocks k w ≡ index_blocks k v
  blocks-same = rw (size, image) refl

  all-same : all_rows k w ≡ all_rows k v
  all-same = rw (size, image) refl

  -- two states with one image have the same rows noted
  pub noted-same : (l from : ℕ) (rows : List Standing) → AreNotedTo (index_blocks k v) (all_rows k v) l from rows → AreNotedTo (index_blocks k w) (all_rows k w) l from rows
  noted-same l from rows h =
      let A : IndexBlocks → Type 0 = λ c. AreNotedTo c (all_rows k w) l from rows in
      let B : List Standing → Type 0 = λ t. AreNotedTo (index_blocks k v) t l from rows in
      subst A (sym blocks-same) (subst B (sym all-same) h)

  pub noted-back : (l from : ℕ) (rows : List Standing) → AreNotedTo (index_blocks k w) (all_rows k w) l from rows → AreNotedTo (index_blocks k v) (all_rows k v) l from rows
  noted-back l from rows h =
      let A : IndexBlocks → Type 0 = λ c. AreNotedTo c (all_rows k v) l from rows in
      let B : List Standing → Type 0 = λ t. AreNotedTo (index_blocks k w) t l from rows in
      subst A blocks-same (subst B all-same h)

  -- and the same forms
  pub forms-same : AreFormsRight k v → AreFormsRight k w
  forms-same f = record {
    height = rw image f.height;
    top = rw (size, image) f.top;
    blocks = λ n l on.
        (let e : level_in w n ≡ level_in v n = rw (size, image) refl in
        let h = f.blocks n l (sym e ∙ on) in
        record {
          low = rw image h.low;
          some = rw (size, image) h.some;
          count = rw (size, image) h.count;
          next = rw (size, image) h.next;
          names = rw (size, image) h.names;
        });
  }

  pub kind-same : (n : ℕ) → IsKind v 2 n → IsKind w 2 n
  kind-same n h = record { there = rw (size, image) h.there; later = h.later; kind_is = rw (size, image) h.kind_is }

  module _ (forms : AreFormsRight k v) (whole : List Standing) (l i : ℕ) (old rows : List Standing) (h : IsNoting (index_blocks k v) whole l i old rows) (within : i < length old)
      (s : Standing) (at : s ≡ standing_at rows i) where
    -- the next that is read is an index block
    pub noting-kind : IsKind w 2 s.number
    noting-kind =
        let here = noting-here (index_blocks k v) whole l i old rows h within in
        let is : s.number ≡ here.0 = ap (λ (t : Standing). t.number) (at ∙ here.1.at) in
        subst (IsKind w 2) (sym is) (kind-same here.0 (level-kind v here.0 (suc l) here.1.on_level).0)

    -- and what it names is noted
    pub noting-more : (more : List Standing) → (number_at 2 (block_at w s.number) 4 ≤ entry_room k w.size → more ≡ rows ++ row_of l (named (entries_in k (block_at w s.number))))
        → IsNoting (index_blocks k v) whole l (i + 1) old more
    noting-more more named_are =
        let here = noting-here (index_blocks k v) whole l i old rows h within in
        let is : s.number ≡ here.0 = ap (λ (t : Standing). t.number) (at ∙ here.1.at) in
        let same : block_at v here.0 ≡ block_at w s.number = (let e : block_at w s.number ≡ block_at v s.number = rw (size, image) refl in sym (e ∙ ap (block_at v) is)) in
        let P : List ℕ → Type 0 = λ b. number_at 2 b 4 ≤ entry_room k w.size in
        let Q : ℕ → Type 0 = λ z. number_at 2 (block_at v here.0) 4 ≤ entry_room k z in
        let count = subst P same (subst Q (sym size) (forms.blocks here.0 (suc l) here.1.on_level).count) in
        here.1.read more (named_are count ∙ ap (λ (b : List ℕ). rows ++ row_of l (named (entries_in k b))) (sym same))

-- a read at an index
pub read-at : (rows : List Standing) (i : ℕ) (s : Standing) → i < length rows → s ≡ slice_index_or rows i s → s ≡ standing_at rows i
read-at rows i s within is = is ∙ one rows i within
  where
    one : (xs : List Standing) (j : ℕ) → j < length xs → slice_index_or xs j s ≡ standing_at xs j
    one [] j l = absurd (omega arith)
    one (x ∷ xs) zero l = refl
    one (x ∷ xs) (suc j) l = one xs j (omega arith)

-- ---- the first row and the last

-- first the top is noted
pub top-noted : (k : ℕ) (v : VolumeState) (top height : ℕ) (rows : List Standing) → AreFormsRight k v → top ≡ (header_of v.image).top → height ≡ (header_of v.image).height → 0 < top
    → rows ≡ record { number = top; level = height - 1 } ∷ [] → AreNotedTo (index_blocks k v) (all_rows k v) (height - 1) 0 rows
top-noted k v top height rows f top_is height_is some is =
    let positive : 0 < (header_of v.image).top = omega arith in
    let tops : top_blocks v ≡ (header_of v.image).top ∷ [] = rw (ne_eqb (header_of v.image).top 0 (λ z. omega arith)) refl in
    let level : top_level v ≡ height - 1 = ap (λ (h : ℕ). h - 1) (sym height_is) in
    record {
      front = [];
      row = top ∷ [];
      begins = refl;
      is = is;
      on_level = λ n a. elim a [ inl own ↦ ap (level_in v) (own ∙ top_is) ∙ f.top positive ∙ ap (λ (h : ℕ). Some h) level | inr none ↦ absurd none ];
      goes_on = ap (λ (h : ℕ). rows_of (index_blocks k v) h (top_blocks v)) level ∙ ap (rows_of (index_blocks k v) (height - 1)) (tops ∙ ap (λ (n : ℕ). n ∷ []) (sym top_is));
    }

-- with the row of level 0 all are noted
pub noted-all : (c : IndexBlocks) (whole : List Standing) (l from : ℕ) (rows : List Standing) → AreNotedTo c whole l from rows → l ≡ 0 → rows ≡ whole
noted-all c whole l from rows h none =
    let N : ℕ → Type 0 = λ i. AreNotedTo c whole i from rows in
    let last : N 0 = subst N none h in
    last.is ∙ sym last.goes_on

-- ---- one entry more

-- the blocks that are named by some entries and one more
pub named-more : (l : ℕ) (old rows : List Standing) (es : List Entry) (e : Entry) → rows ≡ old ++ row_of l (named es)
    → rows ++ (record { number = e.address; level = l } ∷ []) ≡ old ++ row_of l (named (es ++ (e ∷ [])))
named-more l old rows es e is =
    let own : List Standing = record { number = e.address; level = l } ∷ [] in
    let more : row_of l (named (es ++ (e ∷ []))) ≡ row_of l (named es) ++ own = ap (row_of l) (named-append es (e ∷ [])) ∙ row-append l (named es) (e.address ∷ []) in
    ap (λ (t : List Standing). t ++ own) is ∙ append_assoc old (row_of l (named es)) own ∙ ap (λ (t : List Standing). old ++ t) (sym more)
