-- Which index blocks stand in a row.
use Rattle.std.proofs.Common.{◌≡◌, ◌⊎◌, inl, inr, ℕ, zero, suc, ◌+◌, ◌*◌, ◌<◌, ◌≤◌, List, [], ◌∷◌, ◌++◌, length, take, Bool, true, false, slice_set, replicate, get_or-set_other, get_or-set_same, Option, Some, None, refl, sym, ap, subst, ◌∙◌, arith}
use Rattle.std.specs.Prelude.{IfNone, IfSome}
use Rattle.std.proofs.lemmas.Bool.{cases_lt, cases_eq, false≢true}
use Rattle.std.proofs.lemmas.Nat.{mul-le}
use Rattle.hd_volume.specs.Volumes.{VolumeState}
use Rattle.hd_volume.specs.Indexes.{IsAmong}
use Rattle.hd_index_blocks.specs.Levels.{IndexBlocks, across, named, blocks_down}
use Rattle.hd_index_blocks.specs.IndexSets.{index_blocks, top_blocks, top_level}
use Rattle.hd_index_blocks.specs.LevelFaults.{IsUnreachedBlock}
use Rattle.hd_check_index.specs.declared.rows.Standing.{Standing}
use Rattle.hd_check_index.specs.declared.table.NotedBlock.{NotedBlock}
use Rattle.hd_check_index.specs.Tables.{noted, BlocksAscend, IsBlockOf, AreIndexBlocks}
use Rattle.hd_check_index.specs.Rows.{row_of, rows_of}
use Rattle.hd_check_index.specs.Judging.{IsFirst, IsFoundAt}
use Rattle.hd_check_index.specs.NotedBlocks.{noted_at}
use Rattle.hd_check_index.specs.Marks.{mark_at, AreMarkedBefore}
use Rattle.hd_check_index.specs.Standings.{standing_at, all_rows, numbers_of, AreMarks}
use Rattle.hd_check_index.proofs.NotedTables.{among, index-of, in-order, one-index}

-- ---- numbers

numbers-append : (xs ys : List Standing) → numbers_of (xs ++ ys) ≡ numbers_of xs ++ numbers_of ys
numbers-append [] ys = refl
numbers-append (x ∷ xs) ys = ap (λ (t : List ℕ). x.number ∷ t) (numbers-append xs ys)

numbers-row : (l : ℕ) (ns : List ℕ) → numbers_of (row_of l ns) ≡ ns
numbers-row l [] = refl
numbers-row l (n ∷ ns) = ap (λ (t : List ℕ). n ∷ t) (numbers-row l ns)

-- the numbers of the rows are those of the blocks down from some
numbers-down : (c : IndexBlocks) (h : ℕ) (ns : List ℕ) → numbers_of (rows_of c h ns) ≡ blocks_down c h ns
numbers-down c zero ns = numbers-row 0 ns
numbers-down c (suc h) ns =
    let below : List Standing = rows_of c h (named (across c ns)) in
    numbers-append (row_of (suc h) ns) below ∙ ap (λ (t : List ℕ). t ++ numbers_of below) (numbers-row (suc h) ns) ∙ ap (λ (t : List ℕ). ns ++ t) (numbers-down c h (named (across c ns)))

-- the numbers up to one more
numbers-suc : (rows : List Standing) (i : ℕ) → i < length rows → numbers_of (take (suc i) rows) ≡ numbers_of (take i rows) ++ ((standing_at rows i).number ∷ [])
numbers-suc [] i l = absurd (omega arith)
numbers-suc (s ∷ rows) zero l = refl
numbers-suc (s ∷ rows) (suc i) l = ap (λ (t : List ℕ). s.number ∷ t) (numbers-suc rows i (omega arith))

numbers-take : (rows : List Standing) (i : ℕ) → i < length rows → numbers_of (take (i + 1) rows) ≡ numbers_of (take i rows) ++ ((standing_at rows i).number ∷ [])
numbers-take rows i l = ap (λ (j : ℕ). numbers_of (take j rows)) (let e : i + 1 ≡ suc i = omega arith in e) ∙ numbers-suc rows i l

-- the last of some numbers is among them, and so are the others
among-more : (m : ℕ) (ns : List ℕ) (n : ℕ) → IsAmong m (ns ++ (n ∷ [])) → IsAmong m ns ⊎ (m ≡ n)
among-more m [] n (inl e) = inr e
among-more m [] n (inr i) = absurd i
among-more m (x ∷ xs) n (inl e) = inl (inl e)
among-more m (x ∷ xs) n (inr i) = elim (among-more m xs n i) [ inl j ↦ inl (inr j) | inr e ↦ inr e ]

among-front : (m : ℕ) (ns : List ℕ) (n : ℕ) → IsAmong m ns → IsAmong m (ns ++ (n ∷ []))
among-front m [] n i = absurd i
among-front m (x ∷ xs) n (inl e) = inl e
among-front m (x ∷ xs) n (inr i) = inr (among-front m xs n i)

among-last : (ns : List ℕ) (n : ℕ) → IsAmong n (ns ++ (n ∷ []))
among-last [] n = inl refl
among-last (x ∷ xs) n = inr (among-last xs n)

-- ---- marks

not-marked : (n i : ℕ) → mark_at (replicate n false) i ≡ false
not-marked zero i = refl
not-marked (suc n) zero = refl
not-marked (suc n) (suc i) = not-marked n i

-- at first nothing is marked
pub none-marked : (bs : List NotedBlock) (marks : List Bool) → marks ≡ replicate (length bs) false → AreMarks bs [] marks
none-marked bs marks is = record {
  passed = λ i l m. absurd (false≢true (sym (not-marked (length bs) i) ∙ ap (λ (t : List Bool). mark_at t i) (sym is) ∙ m));
  marked = λ i l a. absurd a;
}

module _ (bs : List NotedBlock) (up : BlocksAscend 0 bs) (rows : List Standing) (i : ℕ) (within : i < length rows) (marks : List Bool) (h : AreMarks bs (numbers_of (take i rows)) marks) where
  -- the block of one more number is marked
  pub mark-more : length marks ≡ length bs → (at : ℕ) → at < length bs → (noted_at bs at).number ≡ (standing_at rows i).number
      → AreMarks bs (numbers_of (take (i + 1) rows)) (slice_set marks at true)
  mark-more many at low is =
      let ns : List ℕ = numbers_of (take i rows) in
      let n : ℕ = (standing_at rows i).number in
      let M : List ℕ → Type 0 = λ t. AreMarks bs t (slice_set marks at true) in
      subst M (sym (numbers-take rows i within)) (record {
        passed = λ j l m. elim (cases_eq j at) [
          | inl e ↦ subst (λ (x : ℕ). IsAmong x (ns ++ (n ∷ []))) (sym (ap (λ (x : ℕ). (noted_at bs x).number) e ∙ is)) (among-last ns n)
          | inr ne ↦ among-front (noted_at bs j).number ns n (h.passed j l (sym (get_or-set_other marks at j true false ne) ∙ m))
        ];
        marked = λ j l a. elim (cases_eq j at) [
          | inl e ↦ ap (λ (x : ℕ). mark_at (slice_set marks at true) x) e ∙ get_or-set_same marks at true false (omega arith)
          | inr ne ↦ get_or-set_other marks at j true false ne ∙ elim (among-more (noted_at bs j).number ns n a) [
            | inl before ↦ h.marked j l before
            | inr same ↦ absurd (ne (one-index 0 bs j at up l low (same ∙ sym is)))
          ]
        ];
      })

  -- or no block has it
  pub mark-none : ((b : NotedBlock) → IsBlockOf b bs → b.number ≡ (standing_at rows i).number → ⊥) → AreMarks bs (numbers_of (take (i + 1) rows)) marks
  mark-none none =
      let ns : List ℕ = numbers_of (take i rows) in
      let n : ℕ = (standing_at rows i).number in
      let M : List ℕ → Type 0 = λ t. AreMarks bs t marks in
      subst M (sym (numbers-take rows i within)) (record {
        passed = λ j l m. among-front (noted_at bs j).number ns n (h.passed j l m);
        marked = λ j l a. elim (among-more (noted_at bs j).number ns n a) [
          | inl before ↦ h.marked j l before
          | inr same ↦ absurd (none (noted_at bs j) (among bs j l) same)
        ];
      })

-- ---- of a volume

module _ (k : ℕ) (v : VolumeState) (bs : List NotedBlock) (table : AreIndexBlocks v bs) (rows : List Standing) (is : rows ≡ all_rows k v) (marks : List Bool) (h : AreMarks bs (numbers_of rows) marks) where
  abbrev down : List ℕ
  down = blocks_down (index_blocks k v) (top_level v) (top_blocks v)

  numbers : numbers_of rows ≡ down
  numbers = ap numbers_of is ∙ numbers-down (index_blocks k v) (top_level v) (top_blocks v)

  -- a block that is not reached has an index, and no mark
  pub index-unreached : (address other : ℕ) → IsUnreachedBlock k v address other → (i : ℕ) × (i < length bs) × (mark_at marks i ≡ true → ⊥) × (address ≡ (noted_at bs i).number * v.size)
  index-unreached address other t =
      let i = index-of (noted v t.0) bs (table.all t.0 t.1) in
      let own : (noted_at bs i.0).number ≡ t.0 = ap (λ (b : NotedBlock). b.number) i.2 in
      let D : List ℕ → Type 0 = λ ns. IsAmong t.0 ns in
      let E : ℕ → Type 0 = λ n. IsAmong n (numbers_of rows) in
      (i.0, i.1, λ m. t.2 (subst D numbers (subst E own (h.passed i.0 i.1 m))), t.3 ∙ ap (λ (n : ℕ). n * v.size) (sym own))

  -- a block that has no mark is not reached
  pub unmarked-stands : (i : ℕ) → i < length bs → mark_at marks i ≡ false → IsUnreachedBlock k v ((noted_at bs i).number * v.size) 0
  unmarked-stands i within none =
      let D : List ℕ → Type 0 = λ ns. IsAmong (noted_at bs i).number ns in
      ((noted_at bs i).number, (table.there (noted_at bs i) (among bs i within)).0, (λ a. false≢true (sym none ∙ h.marked i within (subst D (sym numbers) a))), refl, refl)

  -- the first block that has no mark is the first that is not reached
  pub unreached-found : (found : Option ℕ) → IfNone found (AreMarkedBefore (length bs) marks)
      → IfSome found (λ n. (i : ℕ) × (i < length bs) × (n ≡ (noted_at bs i).number) × (mark_at marks i ≡ false) × AreMarkedBefore i marks) → IsFoundAt v (IsUnreachedBlock k v) found
  unreached-found None all some = ((λ a o t. (let i = index-unreached a o t in i.2 (all i.0 i.1))), tt)
  unreached-found (Some n) all some =
      let i : ℕ = some.0 in
      let within : i < length bs = some.1 in
      let own : n ≡ (noted_at bs i).number = some.2 in
      let F : ℕ → Type 0 = λ m. IsFirst v (IsUnreachedBlock k v) m 0 in (
        tt,
        subst F (sym own) (record {
          here = unmarked-stands i within some.3;
          least = λ a o t.
              (let j = index-unreached a o t in
              let at : a ≡ (noted_at bs j.0).number * v.size = j.3 in
              elim (cases_lt j.0 i) [
                | inl less ↦ absurd (j.2 (some.4 j.0 less))
                | inr past ↦ elim (cases_eq j.0 i) [
                  | inl same ↦ (let e : a ≡ (noted_at bs i).number * v.size = at ∙ ap (λ (x : ℕ). (noted_at bs x).number * v.size) same in omega arith)
                  | inr other ↦
                      (let up = in-order 0 bs i j.0 table.ascend (omega arith) j.1 in
                      let less : (noted_at bs i).number * v.size ≤ (noted_at bs j.0).number * v.size = mul-le (noted_at bs i).number v.size (noted_at bs j.0).number v.size (omega arith) (omega arith) in
                      omega arith)
                ]
              ]);
        }),
      )
