-- The index blocks of level 0, in order of their numbers, are the sequence set of an index set.
use Rattle.std.proofs.Common.{◌≡◌, ◌≢◌, inl, inr, ℕ, zero, suc, ◌+◌, ◌<◌, ◌==◌, cond, List, [], ◌∷◌, ◌++◌, length, take, slice_index, Some, refl, sym, ap, subst, ◌∙◌, arith}
use Rattle.std.proofs.lemmas.Bool.{cases_eq, eq-eqb, ne_eqb, cond-true, cond-false}
use Rattle.std.proofs.lemmas.List.{take_more, append_assoc}
use Rattle.hd_volume.specs.Headers.{header_of}
use Rattle.hd_volume.specs.Entries.{entry_blocks}
use Rattle.hd_volume.specs.Volumes.{VolumeState, block_at, IsKind}
use Rattle.hd_volume.specs.Indexes.{IsAmong}
use Rattle.hd_index_blocks.specs.Levels.{IndexBlocks, across, named, sequence_set, blocks_down}
use Rattle.hd_index_blocks.specs.LevelFaults.{row_below}
use Rattle.hd_index_blocks.specs.Faultless.{AreFormsRight}
use Rattle.hd_index_blocks.specs.IndexSets.{level_in, index_blocks, top_blocks, top_level, sequence_blocks}
use Rattle.hd_index_blocks.proofs.Downs.{among-parts}
use Rattle.hd_index_blocks.proofs.Volumes.{level-kind, level-of}
use Rattle.hd_index_blocks.proofs.RowFaults.{OnRows, rows-all, row-level}
use Rattle.hd_image.specs.Right.{SetIsFormed}
use Rattle.hd_check_index.specs.IndexPhases.{NumbersAscend, IsSequence}
use Rattle.hd_check_index.specs.declared.table.NotedBlock.{NotedBlock}
use Rattle.hd_check_index.specs.Tables.{noted, BlocksAscend, IsBlockOf, AreIndexBlocks}
use Rattle.hd_check_index.specs.NotedBlocks.{noted_at}

-- ---- the numbers of the blocks of level 0

-- a block's number, if it is of level 0
abbrev pub low_number : NotedBlock → List ℕ
low_number b = cond (b.level == 0) (b.number ∷ []) []

-- and those of some blocks
abbrev pub low_numbers : List NotedBlock → List ℕ
low_numbers [] = []
low_numbers (b ∷ bs) = low_number b ++ low_numbers bs

low-here : (b : NotedBlock) → b.level ≡ 0 → low_number b ≡ b.number ∷ []
low-here b e = cond-true (b.level == 0) (b.number ∷ []) [] (eq-eqb b.level 0 e)

high-none : (b : NotedBlock) → b.level ≢ 0 → low_number b ≡ []
high-none b ne = cond-false (b.level == 0) (b.number ∷ []) [] (ne_eqb b.level 0 ne)

low-append : (bs cs : List NotedBlock) → low_numbers (bs ++ cs) ≡ low_numbers bs ++ low_numbers cs
low-append [] cs = refl
low-append (b ∷ bs) cs = ap (λ (ns : List ℕ). low_number b ++ ns) (low-append bs cs) ∙ sym (append_assoc (low_number b) (low_numbers bs) (low_numbers cs))

-- one block more
low-next : (bs : List NotedBlock) (i : ℕ) → i < length bs → low_numbers (take (i + 1) bs) ≡ low_numbers (take i bs) ++ (low_number (noted_at bs i) ++ [])
low-next bs i less =
    ap (λ (t : List NotedBlock). low_numbers t) (take_more bs i (record { number = 0; level = 0; count = 0; next = 0 }) less) ∙ low-append (take i bs) (noted_at bs i ∷ [])

pub low-more : (bs : List NotedBlock) (i : ℕ) (ns more : List ℕ) → i < length bs → ns ≡ low_numbers (take i bs) → (noted_at bs i).level ≡ 0 → more ≡ ns ++ ((noted_at bs i).number ∷ []) → more ≡ low_numbers (take (i + 1) bs)
low-more bs i ns more less before low added =
    added ∙ ap (λ (t : List ℕ). t ++ ((noted_at bs i).number ∷ [])) before
    ∙ ap (λ (t : List ℕ). low_numbers (take i bs) ++ (t ++ [])) (sym (low-here (noted_at bs i) low)) ∙ sym (low-next bs i less)

append-nil : (ns : List ℕ) → ns ≡ ns ++ []
append-nil [] = refl
append-nil (n ∷ ns) = ap (λ (t : List ℕ). n ∷ t) (append-nil ns)

pub high-more : (bs : List NotedBlock) (i : ℕ) (ns : List ℕ) → i < length bs → ns ≡ low_numbers (take i bs) → (noted_at bs i).level ≢ 0 → ns ≡ low_numbers (take (i + 1) bs)
high-more bs i ns less before high =
    before ∙ append-nil (low_numbers (take i bs)) ∙ ap (λ (t : List ℕ). low_numbers (take i bs) ++ (t ++ [])) (sym (high-none (noted_at bs i) high)) ∙ sym (low-next bs i less)

-- ---- they are those of blocks

low-block : (n : ℕ) (bs : List NotedBlock) → IsAmong n (low_numbers bs) → (b : NotedBlock) × IsBlockOf b bs × (b.level ≡ 0) × (n ≡ b.number)
low-block n [] a = absurd a
low-block n (b ∷ bs) a =
    let A : List ℕ → Type 0 = λ ns. IsAmong n (ns ++ low_numbers bs) in
    elim (cases_eq b.level 0) [
      | inl low ↦ elim (subst A (low-here b low) a) [
        | inl is ↦ (b, inl refl, low, is)
        | inr i ↦ (let m = low-block n bs i in (m.0, inr m.1, m.2, m.3))
      ]
      | inr high ↦ (let m = low-block n bs (subst A (high-none b high) a) in (m.0, inr m.1, m.2, m.3))
    ]

block-low : (b : NotedBlock) (bs : List NotedBlock) → IsBlockOf b bs → b.level ≡ 0 → IsAmong b.number (low_numbers bs)
block-low b [] i low = absurd i
block-low b (c ∷ cs) i low =
    let A : List ℕ → Type 0 = λ ns. IsAmong b.number (ns ++ low_numbers cs) in
    elim (cases_eq c.level 0) [
      | inl own ↦ subst A (sym (low-here c own)) (elim i [ inl is ↦ inl (ap (λ (x : NotedBlock). x.number) is) | inr j ↦ inr (block-low b cs j low) ])
      | inr high ↦ subst A (sym (high-none c high)) (elim i [ inl is ↦ absurd (high (ap (λ (x : NotedBlock). x.level) (sym is) ∙ low)) | inr j ↦ block-low b cs j low ])
    ]

-- they ascend as the blocks do
from-lower : (n m : ℕ) (ns : List ℕ) → n < m → NumbersAscend m ns → NumbersAscend n ns
from-lower n m [] less h = tt
from-lower n m (x ∷ ns) less h = (let own = h.0 in (omega arith, h.1))

low-ascend : (n : ℕ) (bs : List NotedBlock) → BlocksAscend n bs → NumbersAscend n (low_numbers bs)
low-ascend n [] h = tt
low-ascend n (b ∷ bs) h =
    let A : List ℕ → Type 0 = λ ns. NumbersAscend n (ns ++ low_numbers bs) in
    let rest = low-ascend b.number bs h.1 in
    elim (cases_eq b.level 0) [
      | inl low ↦ subst A (sym (low-here b low)) (h.0, rest)
      | inr high ↦ subst A (sym (high-none b high)) (from-lower n b.number (low_numbers bs) h.0 rest)
    ]

-- ---- the sequence set

-- it is the lowest row
lowest-row : (c : IndexBlocks) (h : ℕ) (ns : List ℕ) → row_below c h ns ≡ sequence_set c h ns
lowest-row c zero ns = refl
lowest-row c (suc h) ns = lowest-row c h (named (across c ns))

-- a block from a row down that is of level 0 is one of it
down-low : (c : IndexBlocks) (h : ℕ) (ns : List ℕ) (n : ℕ) → OnRows c (λ l ms. (m : ℕ) → IsAmong m ms → c.level m ≡ Some l) h ns → IsAmong n (blocks_down c h ns) → c.level n ≡ Some 0 → IsAmong n (sequence_set c h ns)
down-low c zero ns n rows a low = a
down-low c (suc h) ns n rows a low = elim (among-parts n ns (blocks_down c h (named (across c ns))) a) [
  | inl own ↦ (let e : Some (suc h) ≡ Some 0 = sym (rows.0 n own) ∙ low in absurd (cc))
  | inr below ↦ down-low c h (named (across c ns)) n rows.1 below low
]

module _ (k : ℕ) (v : VolumeState) (forms : AreFormsRight k v) where
  abbrev c : IndexBlocks
  c = index_blocks k v

  rows : OnRows c (λ l ms. (m : ℕ) → IsAmong m ms → level_in v m ≡ Some l) (top_level v) (top_blocks v)
  rows = rows-all c (λ l ms. (m : ℕ) → IsAmong m ms → level_in v m ≡ Some l) (top_level v) (top_blocks v) (λ steps l e. row-level k v forms steps l e)

  sequence-level : (n : ℕ) → IsAmong n (sequence_set c (top_level v) (top_blocks v)) → level_in v n ≡ Some 0
  sequence-level n a = row-level k v forms (top_level v) 0 (omega arith) n (let A : List ℕ → Type 0 = λ ns. IsAmong n ns in subst A (sym (lowest-row c (top_level v) (top_blocks v))) a)

sequence-is : (k : ℕ) (v : VolumeState) → (header_of v.image).version ≢ 1 → sequence_blocks k v ≡ sequence_set (index_blocks k v) (top_level v) (top_blocks v)
sequence-is k v later =
    cond-false ((header_of v.image).version == 1) (entry_blocks v) (sequence_set (index_blocks k v) (top_level v) (top_blocks v)) (ne_eqb (header_of v.image).version 1 later)

-- the numbers of the blocks of level 0 are those of the sequence set
pub low-sequence : (k : ℕ) (v : VolumeState) (bs : List NotedBlock) (numbers : List ℕ) → numbers ≡ low_numbers bs → AreIndexBlocks v bs → (header_of v.image).version ≢ 1 → SetIsFormed k v → IsSequence k v numbers
low-sequence k v bs numbers is table later formed =
    let sequence = sequence-is k v later in
    subst (IsSequence k v) (sym is) (record {
      ascend = low-ascend 0 bs table.ascend;
      there = λ n a.
          (let b = kind n a in
          let A : List ℕ → Type 0 = λ ns. IsAmong n ns in
          subst A (sym sequence) (down-low (index_blocks k v) (top_level v) (top_blocks v) n (rows k v formed.forms) (formed.reached n b.0) (level n a)));
      all = λ n a.
          (let A : List ℕ → Type 0 = λ ns. IsAmong n ns in
          let own = level-kind v n 0 (sequence-level k v formed.forms n (subst A sequence a)) in
          block-low (noted v n) bs (table.all n own.0) own.1);
      bear = λ n a. (let b = kind n a in record { is = b.0; level = b.1; count = (formed.forms.blocks n 0 (level n a)).count });
    })
  where
    kind : (n : ℕ) → IsAmong n (low_numbers bs) → IsKind v 2 n × (slice_index (block_at v n) 3 ≡ 0)
    kind n a =
        let b = low-block n bs a in
        let there = table.there b.0 b.1 in
        let low : (noted v b.0.number).level ≡ 0 = ap (λ (x : NotedBlock). x.level) (sym there.1) ∙ b.2 in
        (subst (IsKind v 2) (sym b.3) there.0, ap (λ (m : ℕ). (noted v m).level) b.3 ∙ low)

    level : (n : ℕ) → IsAmong n (low_numbers bs) → level_in v n ≡ Some 0
    level n a = (let b = kind n a in level-of v n b.0 ∙ ap (λ (l : ℕ). Some l) b.1)
