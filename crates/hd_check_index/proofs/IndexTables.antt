-- Index blocks in order of their numbers, and their forms.
use Rattle.std.proofs.Common.{◌≡◌, ◌⊎◌, inl, inr, ℕ, zero, suc, ◌+◌, ◌<◌, List, [], ◌∷◌, ◌++◌, length, refl, sym, ap, subst, arith}
use Rattle.std.proofs.lemmas.Bool.{cases_eq, cases_order}
use Rattle.hd_volume.specs.Volumes.{VolumeState, IsKind}
use Rattle.hd_check_index.specs.declared.noted_blocks.ChainedBlock.{ChainedBlock}
use Rattle.hd_check_index.specs.declared.noted_blocks.Form.{Form}
use Rattle.hd_check_index.specs.IndexPhases.{BlocksAscend, IsBlockOf, AreIndexBlocks, AreForms, IsNotedBlock, index_block_of, index_block_at, form_of, form_at}

-- a block of an index is one of the blocks
pub among : (bs : List ChainedBlock) (j : ℕ) → j < length bs → IsBlockOf (index_block_at bs j) bs
among [] j l = absurd (omega arith)
among (b ∷ bs) zero l = inl refl
among (b ∷ bs) (suc j) l = inr (among bs j (omega arith))

-- each of the blocks has an index
pub index-of : (b : ChainedBlock) (bs : List ChainedBlock) → IsBlockOf b bs → (j : ℕ) × (j < length bs) × (index_block_at bs j ≡ b)
index-of b [] i = absurd i
index-of b (c ∷ cs) (inl e) = (0, omega arith, sym e)
index-of b (c ∷ cs) (inr i) = (let r = index-of b cs i in (suc r.0, (let l = r.1 in omega arith), r.2))

-- all blocks are behind the number from which they ascend
pub above-at : (a : ℕ) (bs : List ChainedBlock) (j : ℕ) → BlocksAscend a bs → j < length bs → a < (index_block_at bs j).number
above-at a [] j h l = absurd (omega arith)
above-at a (b ∷ bs) zero h l = h.0
above-at a (b ∷ bs) (suc j) h l = (let r = above-at b.number bs j h.1 (omega arith) in let f = h.0 in omega arith)

-- a later block has a greater number than an earlier one
pub in-order : (a : ℕ) (bs : List ChainedBlock) (i j : ℕ) → BlocksAscend a bs → i < j → j < length bs → (index_block_at bs i).number < (index_block_at bs j).number
in-order a [] i j h less l = absurd (omega arith)
in-order a (b ∷ bs) zero zero h less l = absurd (omega arith)
in-order a (b ∷ bs) zero (suc j) h less l = above-at b.number bs j h.1 (omega arith)
in-order a (b ∷ bs) (suc i) zero h less l = absurd (omega arith)
in-order a (b ∷ bs) (suc i) (suc j) h less l = in-order b.number bs i j h.1 (omega arith) (omega arith)

-- blocks of one number stand at one index
pub one-index : (a : ℕ) (bs : List ChainedBlock) (i j : ℕ) → BlocksAscend a bs → i < length bs → j < length bs → (index_block_at bs i).number ≡ (index_block_at bs j).number → i ≡ j
one-index a bs i j h l m e = elim (cases_order i j) [
  | inl same ↦ same
  | inr (inl less) ↦ (let o = in-order a bs i j h less m in absurd (omega arith))
  | inr (inr more) ↦ (let o = in-order a bs j i h more l in absurd (omega arith))
]

-- the form at an index is that of the block there
pub form-is : (v : VolumeState) (bs : List ChainedBlock) (fs : List Form) (i : ℕ) → AreForms v bs fs → i < length bs → form_at fs i ≡ form_of v (index_block_at bs i).number
form-is v [] fs i h l = absurd (omega arith)
form-is v (b ∷ bs) [] i h l = absurd h
form-is v (b ∷ bs) (f ∷ fs) zero h l = h.0
form-is v (b ∷ bs) (f ∷ fs) (suc i) h l = form-is v bs fs i h.1 (omega arith)

-- ---- one block more

-- a block of the first blocks is one of all
pub in-front : (b : ChainedBlock) (bs cs : List ChainedBlock) → IsBlockOf b bs → IsBlockOf b (bs ++ cs)
in-front b [] cs i = absurd i
in-front b (x ∷ xs) cs (inl e) = inl e
in-front b (x ∷ xs) cs (inr i) = inr (in-front b xs cs i)

-- and so is one of the others
pub in-back : (b : ChainedBlock) (bs cs : List ChainedBlock) → IsBlockOf b cs → IsBlockOf b (bs ++ cs)
in-back b [] cs i = i
in-back b (x ∷ xs) cs i = inr (in-back b xs cs i)

-- a block is one of the first, or the last
pub in-parts : (b : ChainedBlock) (bs : List ChainedBlock) (c : ChainedBlock) → IsBlockOf b (bs ++ (c ∷ [])) → IsBlockOf b bs ⊎ (b ≡ c)
in-parts b [] c (inl e) = inr e
in-parts b [] c (inr i) = absurd i
in-parts b (x ∷ xs) c (inl e) = inl (inl e)
in-parts b (x ∷ xs) c (inr i) = elim (in-parts b xs c i) [ inl j ↦ inl (inr j) | inr e ↦ inr e ]

-- blocks ascend with a last one that is behind them
pub ascend-more : (a : ℕ) (bs : List ChainedBlock) (b : ChainedBlock) → BlocksAscend a bs → a < b.number → ((c : ChainedBlock) → IsBlockOf c bs → c.number < b.number) → BlocksAscend a (bs ++ (b ∷ []))
ascend-more a [] b h less all = (less, tt)
ascend-more a (x ∷ xs) b h less all = (h.0, ascend-more x.number xs b h.1 (all x (inl refl)) (λ c i. all c (inr i)))

-- and their forms are known with that of the last one
pub forms-more : (v : VolumeState) (bs : List ChainedBlock) (fs : List Form) (b : ChainedBlock) (f : Form) → AreForms v bs fs → f ≡ form_of v b.number → AreForms v (bs ++ (b ∷ [])) (fs ++ (f ∷ []))
forms-more v [] [] b f h e = (e, tt)
forms-more v [] (x ∷ xs) b f h e = absurd h
forms-more v (x ∷ xs) [] b f h e = absurd h
forms-more v (x ∷ xs) (y ∷ ys) b f h e = (h.0, forms-more v xs ys b f h.1 e)

-- The index blocks below a number are noted, with their forms.
pub record AreNotedBelow (v : VolumeState) (n : ℕ) (bs : List ChainedBlock) (fs : List Form) : Type 0 where
  pub ascend : BlocksAscend 0 bs
  pub there : (b : ChainedBlock) → IsBlockOf b bs → IsKind v 2 b.number × (b ≡ index_block_of v b.number) × (b.number < n)
  pub all : (m : ℕ) → m < n → IsKind v 2 m → IsBlockOf (index_block_of v m) bs
  pub forms : AreForms v bs fs

-- none is below block 1
pub none-noted : (v : VolumeState) → AreNotedBelow v 1 [] []
none-noted v = record {
  ascend = tt;
  there = λ b i. absurd i;
  all = λ m less k. (let later = k.later in absurd (omega arith));
  forms = tt;
}

-- block n is noted, or none
pub noted-more : (v : VolumeState) (n : ℕ) (bs : List ChainedBlock) (fs : List Form) (cs : List ChainedBlock) (gs : List Form) → 0 < n → AreNotedBelow v n bs fs → IsNotedBlock v n bs fs cs gs → AreNotedBelow v (n + 1) cs gs
noted-more v n bs fs cs gs later h (inl (k, blocks, forms)) =
    let own : ChainedBlock = index_block_of v n in
    let N : List ChainedBlock → List Form → Type 0 = λ xs ys. AreNotedBelow v (n + 1) xs ys in
    let whole : N (bs ++ (own ∷ [])) (fs ++ (form_of v n ∷ [])) = record {
      ascend = ascend-more 0 bs own h.ascend later (λ c i. (h.there c i).2);
      there = λ b i. elim (in-parts b bs own i) [
        | inl j ↦ (let t = h.there b j in let l = t.2 in (t.0, t.1, omega arith))
        | inr e ↦ (let B : ChainedBlock → Type 0 = λ x. IsKind v 2 x.number × (x ≡ index_block_of v x.number) × (x.number < n + 1) in subst B (sym e) (k, refl, omega arith))
      ];
      all = λ m less kind. elim (cases_eq m n) [
        | inl e ↦ (let B : ℕ → Type 0 = λ x. IsBlockOf (index_block_of v x) (bs ++ (own ∷ [])) in subst B (sym e) (in-back own bs (own ∷ []) (inl refl)))
        | inr ne ↦ in-front (index_block_of v m) bs (own ∷ []) (h.all m (omega arith) kind)
      ];
      forms = forms-more v bs fs own (form_of v n) h.forms refl;
    } in
    subst (λ (xs : List ChainedBlock). N xs gs) (sym blocks) (subst (λ (ys : List Form). N (bs ++ (own ∷ [])) ys) (sym forms) whole)
noted-more v n bs fs cs gs later h (inr (none, blocks, forms)) =
    let N : List ChainedBlock → List Form → Type 0 = λ xs ys. AreNotedBelow v (n + 1) xs ys in
    let whole : N bs fs = record {
      ascend = h.ascend;
      there = λ b i. (let t = h.there b i in let l = t.2 in (t.0, t.1, omega arith));
      all = λ m less kind. elim (cases_eq m n) [
        | inl e ↦ absurd (none (subst (IsKind v 2) e kind))
        | inr ne ↦ h.all m (omega arith) kind
      ];
      forms = h.forms;
    } in
    subst (λ (xs : List ChainedBlock). N xs gs) (sym blocks) (subst (λ (ys : List Form). N bs ys) (sym forms) whole)

-- all index blocks are noted where those below a number are that all are below
pub all-noted : (v : VolumeState) (n : ℕ) (bs : List ChainedBlock) (fs : List Form) → AreNotedBelow v n bs fs → ((m : ℕ) → IsKind v 2 m → m < n) → AreIndexBlocks v bs
all-noted v n bs fs h below = record {
  ascend = h.ascend;
  there = λ b i. (let t = h.there b i in (t.0, ap (λ (x : ChainedBlock). x.next) t.1));
  all = λ m k. h.all m (below m k) k;
}

-- a block of a table is that of its number
pub own-block : (v : VolumeState) (bs : List ChainedBlock) (b : ChainedBlock) → AreIndexBlocks v bs → IsBlockOf b bs → b ≡ index_block_of v b.number
own-block v bs b h i = (let e = (h.there b i).1 in λ j. record { number = b.number; next = e j })
