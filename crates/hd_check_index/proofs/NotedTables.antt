-- Index blocks in order of their numbers.
use Rattle.std.proofs.Common.{◌≡◌, ◌⊎◌, inl, inr, ℕ, zero, suc, ◌+◌, ◌<◌, List, [], ◌∷◌, ◌++◌, length, refl, sym, ap, subst, ◌∙◌, arith}
use Rattle.std.proofs.lemmas.Bool.{cases_eq, cases_order}
use Rattle.hd_volume.specs.Volumes.{VolumeState, block_at, kind_of, IsKind}
use Rattle.hd_check_index.specs.declared.table.NotedBlock.{NotedBlock}
use Rattle.hd_check_index.specs.Tables.{noted, BlocksAscend, IsBlockOf, AreIndexBlocks}
use Rattle.hd_check_index.specs.NotedBlocks.{noted_at, IsNotedBehind}

-- a block of an index is one of the blocks
pub among : (bs : List NotedBlock) (j : ℕ) → j < length bs → IsBlockOf (noted_at bs j) bs
among [] j l = absurd (omega arith)
among (b ∷ bs) zero l = inl refl
among (b ∷ bs) (suc j) l = inr (among bs j (omega arith))

-- each of the blocks has an index
pub index-of : (b : NotedBlock) (bs : List NotedBlock) → IsBlockOf b bs → (j : ℕ) × (j < length bs) × (noted_at bs j ≡ b)
index-of b [] i = absurd i
index-of b (c ∷ cs) (inl e) = (0, omega arith, sym e)
index-of b (c ∷ cs) (inr i) = (let r = index-of b cs i in (suc r.0, (let l = r.1 in omega arith), r.2))

-- all blocks are behind the number from which they ascend
pub above-at : (a : ℕ) (bs : List NotedBlock) (j : ℕ) → BlocksAscend a bs → j < length bs → a < (noted_at bs j).number
above-at a [] j h l = absurd (omega arith)
above-at a (b ∷ bs) zero h l = h.0
above-at a (b ∷ bs) (suc j) h l = (let r = above-at b.number bs j h.1 (omega arith) in let f = h.0 in omega arith)

-- a later block has a greater number than an earlier one
pub in-order : (a : ℕ) (bs : List NotedBlock) (i j : ℕ) → BlocksAscend a bs → i < j → j < length bs → (noted_at bs i).number < (noted_at bs j).number
in-order a [] i j h less l = absurd (omega arith)
in-order a (b ∷ bs) zero zero h less l = absurd (omega arith)
in-order a (b ∷ bs) zero (suc j) h less l = above-at b.number bs j h.1 (omega arith)
in-order a (b ∷ bs) (suc i) zero h less l = absurd (omega arith)
in-order a (b ∷ bs) (suc i) (suc j) h less l = in-order b.number bs i j h.1 (omega arith) (omega arith)

-- blocks of one number stand at one index
pub one-index : (a : ℕ) (bs : List NotedBlock) (i j : ℕ) → BlocksAscend a bs → i < length bs → j < length bs → (noted_at bs i).number ≡ (noted_at bs j).number → i ≡ j
one-index a bs i j h l m e = elim (cases_order i j) [
  | inl same ↦ same
  | inr (inl less) ↦ (let o = in-order a bs i j h less m in absurd (omega arith))
  | inr (inr more) ↦ (let o = in-order a bs j i h more l in absurd (omega arith))
]

-- a block with a lesser number than another stands before it
pub before-of : (a : ℕ) (bs : List NotedBlock) (i j : ℕ) → BlocksAscend a bs → i < length bs → j < length bs → (noted_at bs j).number < (noted_at bs i).number → j < i
before-of a bs i j h l m less = elim (cases_order i j) [
  | inl same ↦ (let e : (noted_at bs i).number ≡ (noted_at bs j).number = ap (λ (x : ℕ). (noted_at bs x).number) same in absurd (omega arith))
  | inr (inl before) ↦ (let o = in-order a bs i j h before m in absurd (omega arith))
  | inr (inr behind) ↦ behind
]

-- ---- one block more

-- a block of the first blocks is one of all
in-front : (b : NotedBlock) (bs cs : List NotedBlock) → IsBlockOf b bs → IsBlockOf b (bs ++ cs)
in-front b [] cs i = absurd i
in-front b (x ∷ xs) cs (inl e) = inl e
in-front b (x ∷ xs) cs (inr i) = inr (in-front b xs cs i)

-- and so is one of the others
in-back : (b : NotedBlock) (bs cs : List NotedBlock) → IsBlockOf b cs → IsBlockOf b (bs ++ cs)
in-back b [] cs i = i
in-back b (x ∷ xs) cs i = inr (in-back b xs cs i)

-- a block is one of the first, or the last
in-parts : (b : NotedBlock) (bs : List NotedBlock) (c : NotedBlock) → IsBlockOf b (bs ++ (c ∷ [])) → IsBlockOf b bs ⊎ (b ≡ c)
in-parts b [] c (inl e) = inr e
in-parts b [] c (inr i) = absurd i
in-parts b (x ∷ xs) c (inl e) = inl (inl e)
in-parts b (x ∷ xs) c (inr i) = elim (in-parts b xs c i) [ inl j ↦ inl (inr j) | inr e ↦ inr e ]

-- blocks ascend with a last one that is behind them
ascend-more : (a : ℕ) (bs : List NotedBlock) (b : NotedBlock) → BlocksAscend a bs → a < b.number → ((c : NotedBlock) → IsBlockOf c bs → c.number < b.number) → BlocksAscend a (bs ++ (b ∷ []))
ascend-more a [] b h less all = (less, tt)
ascend-more a (x ∷ xs) b h less all = (h.0, ascend-more x.number xs b h.1 (all x (inl refl)) (λ c i. all c (inr i)))

-- The index blocks below a number are noted.
pub record AreNotedBelow (v : VolumeState) (n : ℕ) (bs : List NotedBlock) : Type 0 where
  pub ascend : BlocksAscend 0 bs
  pub there : (b : NotedBlock) → IsBlockOf b bs → IsKind v 2 b.number × (b ≡ noted v b.number) × (b.number < n)
  pub all : (m : ℕ) → m < n → IsKind v 2 m → IsBlockOf (noted v m) bs

-- none is below block 1
pub none-noted : (v : VolumeState) → AreNotedBelow v 1 []
none-noted v = record {
  ascend = tt;
  there = λ b i. absurd i;
  all = λ m less k. (let later = k.later in absurd (omega arith));
}

-- block n is noted, or none
pub noted-more : (v : VolumeState) (n : ℕ) (bs cs : List NotedBlock) → 0 < n → AreNotedBelow v n bs → IsNotedBehind v n bs cs → AreNotedBelow v (n + 1) cs
noted-more v n bs cs later h (inl (k, blocks)) =
    let own : NotedBlock = noted v n in
    let whole : AreNotedBelow v (n + 1) (bs ++ (own ∷ [])) = record {
      ascend = ascend-more 0 bs own h.ascend later (λ c i. (h.there c i).2);
      there = λ b i. elim (in-parts b bs own i) [
        | inl j ↦ (let t = h.there b j in let l = t.2 in (t.0, t.1, omega arith))
        | inr e ↦ (let B : NotedBlock → Type 0 = λ x. IsKind v 2 x.number × (x ≡ noted v x.number) × (x.number < n + 1) in subst B (sym e) (k, refl, omega arith))
      ];
      all = λ m less kind. elim (cases_eq m n) [
        | inl e ↦ (let B : ℕ → Type 0 = λ x. IsBlockOf (noted v x) (bs ++ (own ∷ [])) in subst B (sym e) (in-back own bs (own ∷ []) (inl refl)))
        | inr ne ↦ in-front (noted v m) bs (own ∷ []) (h.all m (omega arith) kind)
      ];
    } in
    subst (AreNotedBelow v (n + 1)) (sym blocks) whole
noted-more v n bs cs later h (inr (none, blocks)) =
    let whole : AreNotedBelow v (n + 1) bs = record {
      ascend = h.ascend;
      there = λ b i. (let t = h.there b i in let l = t.2 in (t.0, t.1, omega arith));
      all = λ m less kind. elim (cases_eq m n) [
        | inl e ↦ absurd (none (subst (IsKind v 2) e kind))
        | inr ne ↦ h.all m (omega arith) kind
      ];
    } in
    subst (AreNotedBelow v (n + 1)) (sym blocks) whole

-- all index blocks are noted where those below a number are that all are below
pub all-noted : (v : VolumeState) (n : ℕ) (bs : List NotedBlock) → AreNotedBelow v n bs → ((m : ℕ) → IsKind v 2 m → m < n) → AreIndexBlocks v bs
all-noted v n bs h below = record {
  ascend = h.ascend;
  there = λ b i. (let t = h.there b i in (t.0, t.1));
  all = λ m k. h.all m (below m k) k;
}

-- ---- one image

-- the kinds of blocks are those of the image
pub kind-same : (v w : VolumeState) (kind n : ℕ) → w.image ≡ v.image → w.size ≡ v.size → IsKind w kind n → IsKind v kind n
kind-same v w kind n image size h = record {
  there = (let t = h.there in let l : length w.image ≡ length v.image = ap length image in rw (← size) (omega arith));
  later = h.later;
  kind_is = (let same : block_at w n ≡ block_at v n = rw (size, image) refl in ap kind_of (sym same) ∙ h.kind_is);
}

-- what is noted of a block is what the image says
noted-is : (v w : VolumeState) (n : ℕ) → w.image ≡ v.image → w.size ≡ v.size → noted w n ≡ noted v n
noted-is v w n image size = rw (size, image) refl

pub noted-same : (v w : VolumeState) (n : ℕ) (bs cs : List NotedBlock) → w.image ≡ v.image → w.size ≡ v.size → IsNotedBehind w n bs cs → IsNotedBehind v n bs cs
noted-same v w n bs cs image size (inl (k, blocks)) =
    inl (kind-same v w 2 n image size k, subst (λ (b : NotedBlock). cs ≡ bs ++ (b ∷ [])) (noted-is v w n image size) blocks)
noted-same v w n bs cs image size (inr (none, blocks)) = inr (λ k. none (kind-same w v 2 n (sym image) (sym size) k), blocks)

-- the table of one image is that of the other
pub table-same : (v w : VolumeState) (bs : List NotedBlock) → w.image ≡ v.image → w.size ≡ v.size → AreIndexBlocks v bs → AreIndexBlocks w bs
table-same v w bs image size h = record {
  ascend = h.ascend;
  there = λ b i. (let t = h.there b i in (kind-same w v 2 b.number (sym image) (sym size) t.0, t.1 ∙ sym (noted-is v w b.number image size)));
  all = λ n k. subst (λ (b : NotedBlock). IsBlockOf b bs) (sym (noted-is v w n image size)) (h.all n (kind-same v w 2 n image size k));
}
