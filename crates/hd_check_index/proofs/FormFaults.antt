-- What is wrong with the form of an index's blocks, by the tables of the blocks and their forms.
use Rattle.std.proofs.Common.{◌≡◌, inl, inr, ℕ, ◌*◌, ◌<◌, ◌≤◌, List, [], ◌∷◌, ◌++◌, length, true, false, slice_index, refl, sym, ap, subst, ◌∙◌, arith}
use Rattle.std.specs.Prelude.{nat_eq}
use Rattle.std.proofs.lemmas.Bool.{cases_lt, cases_eq, eqb-true, eq-eqb, false≢true}
use Rattle.hd_bytes.specs.Numbers.{number_at}
use Rattle.hd_volume.specs.Headers.{header_of}
use Rattle.hd_volume.specs.Volumes.{VolumeState, block_at, kind_of, IsKind}
use Rattle.hd_volume.specs.Indexes.{root_key_length, entry_room}
use Rattle.hd_image.specs.IndexFaults.{IsOfLevel, IsWrongTop, IsWrongForm}
use Rattle.hd_check_index.specs.declared.noted_blocks.ChainedBlock.{ChainedBlock}
use Rattle.hd_check_index.specs.declared.noted_blocks.Form.{Form}
use Rattle.hd_check_index.specs.IndexPhases.{IsBlockOf, AreIndexBlocks, AreForms, IsNotedBlock, index_block_of, index_block_at, form_at, IsTopRight, IsRightIndexBlock, IsFirstWrong, IsIndexRight}
use Rattle.std.proofs.lemmas.Nat.{mul-le}
use Rattle.hd_bytes.specs.Blocks.{HasBlock}
use Rattle.hd_dbd.specs.Hierarchy.{Database}
use Rattle.hd_dbd.proofs.StoredSizes.{block_size-bounds}
use Rattle.hd_volume.proofs.KindLemmas.{below-count}
use Rattle.hd_image.specs.Records.{IsVolumeOf}
use Rattle.hd_image.specs.declared.line.Line.TheVariants.{WrongTop, WrongForm}
use Rattle.hd_check_blocks.specs.Phases.{IsLeastOf}
use Rattle.hd_check_index.proofs.LateLines.{least-late, stands-8}
use Rattle.hd_check_index.proofs.IndexTables.{among, index-of, in-order, form-is}

-- the kinds of blocks are those of the image
pub kind-same : (v w : VolumeState) (kind n : ℕ) → w.image ≡ v.image → w.size ≡ v.size → IsKind w kind n → IsKind v kind n
kind-same v w kind n image size h = record {
  there = (let t = h.there in let l : length w.image ≡ length v.image = ap length image in rw (← size) (omega arith));
  later = h.later;
  kind_is = (let same : block_at w n ≡ block_at v n = rw (size, image) refl in ap kind_of (sym same) ∙ h.kind_is);
}

-- what is noted of a block is what the image says
pub noted-same : (v w : VolumeState) (n : ℕ) (bs : List ChainedBlock) (fs : List Form) (cs : List ChainedBlock) (gs : List Form) → w.image ≡ v.image → w.size ≡ v.size
    → IsNotedBlock w n bs fs cs gs → IsNotedBlock v n bs fs cs gs
noted-same v w n bs fs cs gs image size (inl (k, blocks, forms)) =
    let same : block_at w n ≡ block_at v n = rw (size, image) refl in
    inl (
      kind-same v w 2 n image size k,
      subst (λ (b : List ℕ). cs ≡ bs ++ (record { number = n; next = number_at 4 b 8 } ∷ [])) same blocks,
      subst (λ (b : List ℕ). gs ≡ fs ++ (record { level = slice_index b 3; count = number_at 2 b 4 } ∷ [])) same forms,
    )
noted-same v w n bs fs cs gs image size (inr (none, blocks, forms)) = inr (λ k. none (kind-same w v 2 n (sym image) (sym size) k), blocks, forms)

-- ---- levels

-- a block that is noted with a level is of that level
pub level-right : (v : VolumeState) (bs : List ChainedBlock) (fs : List Form) (n level i : ℕ) → AreIndexBlocks v bs → AreForms v bs fs → i < length bs → (index_block_at bs i).number ≡ n
    → nat_eq (form_at fs i).level level ≡ true → IsOfLevel v level n
level-right v bs fs n level i h f within is same =
    let t = h.there (index_block_at bs i) (among bs i within) in
    let own : (form_at fs i).level ≡ slice_index (block_at v (index_block_at bs i).number) 3 = ap (λ (x : Form). x.level) (form-is v bs fs i f within) in
    subst (λ (m : ℕ). IsOfLevel v level m) is (t.0, sym own ∙ eqb-true _ _ same)

-- one that is noted with another is not
pub level-wrong : (v : VolumeState) (bs : List ChainedBlock) (fs : List Form) (n level i : ℕ) → AreForms v bs fs → i < length bs → (index_block_at bs i).number ≡ n
    → nat_eq (form_at fs i).level level ≡ false → IsOfLevel v level n → ⊥
level-wrong v bs fs n level i f within is other o =
    let own : (form_at fs i).level ≡ slice_index (block_at v (index_block_at bs i).number) 3 = ap (λ (x : Form). x.level) (form-is v bs fs i f within) in
    let at : (form_at fs i).level ≡ level = own ∙ ap (λ (m : ℕ). slice_index (block_at v m) 3) is ∙ o.1 in
    false≢true (sym other ∙ eq-eqb _ _ at)

-- and one that is not noted is of no level
pub level-none : (v : VolumeState) (bs : List ChainedBlock) (n level : ℕ) → AreIndexBlocks v bs → ((b : ChainedBlock) → IsBlockOf b bs → b.number ≡ n → ⊥) → IsOfLevel v level n → ⊥
level-none v bs n level h none o = none (index_block_of v n) (h.all n o.0) refl

-- ---- the first wrong block

-- all index blocks are right where those of the table are
pub all-forms : (k : ℕ) (v : VolumeState) (bs : List ChainedBlock) → AreIndexBlocks v bs → ((j : ℕ) → j < length bs → IsRightIndexBlock k v (index_block_at bs j).number) → (n : ℕ) → IsKind v 2 n → IsRightIndexBlock k v n
all-forms k v bs h right n kind =
    let i = index-of (index_block_of v n) bs (h.all n kind) in
    subst (IsRightIndexBlock k v) (ap (λ (b : ChainedBlock). b.number) i.2) (right i.0 i.1)

-- a block is the first wrong one where those before it in the table are right
pub first-wrong : (k : ℕ) (v : VolumeState) (bs : List ChainedBlock) (i : ℕ) → AreIndexBlocks v bs → i < length bs → ((j : ℕ) → j < i → IsRightIndexBlock k v (index_block_at bs j).number)
    → (IsRightIndexBlock k v (index_block_at bs i).number → ⊥) → IsFirstWrong k v (index_block_at bs i).number
first-wrong k v bs i h within right wrong = (
  (h.there (index_block_at bs i) (among bs i within)).0,
  wrong,
  λ m less kind.
      (let j = index-of (index_block_of v m) bs (h.all m kind) in
      let at : (index_block_at bs j.0).number ≡ m = ap (λ (b : ChainedBlock). b.number) j.2 in
      let in-bs = j.1 in
      let before : j.0 < i = elim (cases_lt j.0 i) [
        | inl low ↦ low
        | inr high ↦ elim (cases_eq j.0 i) [
          | inl same ↦ (let e : (index_block_at bs j.0).number ≡ (index_block_at bs i).number = ap (λ (x : ℕ). (index_block_at bs x).number) same in absurd (omega arith))
          | inr other ↦ (let later = in-order 0 bs i j.0 h.ascend (omega arith) in-bs in absurd (omega arith))
        ]
      ] in
      subst (IsRightIndexBlock k v) at (right j.0 before)),
)

-- what a wrong block's form says
pub wrong-form-of : (k : ℕ) (v : VolumeState) (n : ℕ) → IsKind v 2 n → (IsRightIndexBlock k v n → ⊥) → IsWrongForm k v (n * v.size) 0
wrong-form-of k v n kind wrong =
    elim (cases_lt (slice_index (block_at v n) 3) (header_of v.image).height) [
      | inr high ↦ (n, kind, refl, refl, inl (λ low. omega arith))
      | inl low ↦ elim (cases_lt (entry_room k v.size) (number_at 2 (block_at v n) 4)) [
        | inl many ↦ (n, kind, refl, refl, inr (inl many))
        | inr few ↦ (
          n,
          kind,
          refl,
          refl,
          inr (inr (
            λ z. wrong (record { level = low; count = few; next = inl z }),
            λ o. wrong (record { level = low; count = few; next = inr o }),
          )),
        )
      ]
    ]

-- a right block's form is not wrong
pub form-not-wrong : (k : ℕ) (v : VolumeState) (a o : ℕ) (w : IsWrongForm k v a o) → IsRightIndexBlock k v w.0 → ⊥
form-not-wrong k v a o w r = elim w.4 [
  | inl high ↦ high r.level
  | inr (inl many) ↦ (let few = r.count in omega arith)
  | inr (inr next) ↦ elim r.next [ inl z ↦ next.0 z | inr own ↦ next.1 own ]
]

-- nor are a right top and height
pub top-not-wrong : (v : VolumeState) (a o : ℕ) → IsWrongTop v a o → IsTopRight v → ⊥
top-not-wrong v a o w r = elim r.height [
  | inl z ↦ elim w.2 [
    | inl c ↦ c.1 z.1
    | inr (inl c) ↦ c.0 z.0
    | inr (inr (inl c)) ↦ (let e = z.1 in omega arith)
    | inr (inr (inr c)) ↦ c.0 z.0
  ]
  | inr one ↦ elim w.2 [
    | inl c ↦ (let e = c.0 in let l = one.0 in omega arith)
    | inr (inl c) ↦ (let e = c.1 in let l = one.1 in omega arith)
    | inr (inr (inl c)) ↦ (let l = one.1 in omega arith)
    | inr (inr (inr c)) ↦ c.1 (r.top one.0)
  ]
]

-- where top and height are right and each block is, the index is
pub index-right : (k : ℕ) (v : VolumeState) → (header_of v.image).version ≡ 1 → IsTopRight v → ((n : ℕ) → IsKind v 2 n → IsRightIndexBlock k v n) → IsIndexRight k v
index-right k v one top blocks = record { version = one; height = top.height; top = top.top; blocks = blocks }

-- the header's fault is the least of its phase
pub top-least : (d : Database) (v : VolumeState) (top : ℕ) → (header_of v.image).version ≡ 1 → IsWrongTop v 0 top → IsLeastOf d v 8 (record { line = WrongTop; address = 0; other = top })
top-least d v top one w = least-late d v 8 (record { line = WrongTop; address = 0; other = top }) (omega arith) (λ e. omega arith) refl (inl (one, w)) (λ k a o is s. omega arith)

-- and so is that of the first block whose form is wrong
pub form-least : (d : Database) (v : VolumeState) (n : ℕ) → (header_of v.image).version ≡ 1 → IsTopRight v → IsFirstWrong (root_key_length d.types) v n → IsLeastOf d v 8 (record { line = WrongForm; address = n * v.size; other = 0 })
form-least d v n one top w =
    least-late d v 8 (record { line = WrongForm; address = n * v.size; other = 0 }) (omega arith) (λ e. omega arith) refl (inl (one, wrong-form-of (root_key_length d.types) v n w.0 w.1))
    (λ k a o is s. elim (stands-8 d v k a o one is s) [
      | inl t ↦ absurd (top-not-wrong v a o t top)
      | inr f ↦ elim (cases_lt f.0 n) [
        | inl less ↦ absurd (form-not-wrong (root_key_length d.types) v a o f (w.2 f.0 less f.1))
        | inr low ↦ (let at = f.2 in let m : ℕ = f.0 in let l : n * v.size ≤ m * v.size = mul-le n v.size m v.size low (omega arith) in omega arith)
      ]
    ])

-- ---- where blocks begin

-- a block of a volume begins at an address of four bytes
pub place-fits : (d : Database) (v : VolumeState) (n : ℕ) → IsVolumeOf d v → HasBlock v.size v.image n → n * v.size < 4294967296
place-fits d v n of there =
    let bounds = block_size-bounds d.block_size d.frspc d.types of.fit in
    let size = of.size in
    let least : 128 ≤ v.size = omega arith in
    let most : v.size ≤ 32768 = omega arith in
    let h = of.formatted.header in
    let low = below-count v n h (omega arith) there in
    let within = h.within in
    let bound = h.bound in
    let under : n ≤ 65535 = omega arith in
    let l : n * v.size ≤ 65535 * 32768 = mul-le n v.size 65535 32768 under most in
    omega arith
