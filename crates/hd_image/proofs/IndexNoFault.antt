-- A volume with an index, whose entries are those of the roots of a held forest, has no fault of the index.
use Rattle.std.proofs.Common.{◌≡◌, inl, inr, ℕ, suc, ◌-◌, ◌<◌, ◌≤◌, List, [], ◌∷◌, ◌++◌, length, drop, Bool, true, false, Option, Some, None, refl, sym, ap, subst, ◌∙◌, arith}
use Rattle.std.specs.Prelude.{not, find, option_map}
use Rattle.std.specs.List.{list_all}
use Rattle.std.proofs.lemmas.Bool.{and_parts}
use Rattle.std.proofs.lemmas.List.Folds.{list_all-append}
use Rattle.hd_bytes.specs.Numbers.{number_at}
use Rattle.hd_volume.proofs.IndexLemmas.{entries-append}
use Rattle.hd_volume.specs.Headers.{header_of}
use Rattle.hd_volume.specs.Volumes.{VolumeState, block_at, IsKind}
use Rattle.hd_volume.specs.Entries.{Entry, entry_blocks, entries_in, entries_of, entries}
use Rattle.hd_volume.specs.Indexes.{IsEntryBlock, IsChain, IsAmong, key_less, keys_ascend, HasIndex}
use Rattle.hd_image.specs.IndexFaults.{IsWrongTop, IsWrongForm, NamesBlock, IsNamedTwice, IsUnreachedBlock, last_entry, first_not_above, HasEntryOutOfOrder}

-- ---- chains

-- a chain from a number on is one
one-chain : (k : ℕ) (v : VolumeState) (s : ℕ) (bs cs : List ℕ) → IsChain k v s bs → IsChain k v s cs → bs ≡ cs
one-chain k v s [] [] h j = refl
one-chain k v s [] (c ∷ cs) h j = (let z : s ≡ 0 = h in let e = j.0 in let l = j.1.is.later in absurd (omega arith))
one-chain k v s (b ∷ bs) [] h j = (let z : s ≡ 0 = j in let e = h.0 in let l = h.1.is.later in absurd (omega arith))
one-chain k v s (b ∷ bs) (c ∷ cs) h j =
    let same : b ≡ c = sym h.0 ∙ j.0 in
    let C : ℕ → Type 0 = λ n. IsChain k v (number_at 4 (block_at v n) 8) cs in
    let rest = one-chain k v (number_at 4 (block_at v b) 8) bs cs h.2 (subst C (sym same) j.2) in
    (λ i. same i ∷ rest i)

-- A block of a chain, and the chain behind it.
record Behind (k : ℕ) (v : VolumeState) (bs : List ℕ) (n : ℕ) : Type 0 where
  block : IsEntryBlock k v n
  rest : List ℕ
  chain : IsChain k v (number_at 4 (block_at v n) 8) rest
  short : suc (length rest) ≤ length bs
  is : drop (length bs - suc (length rest)) bs ≡ n ∷ rest

-- each block of a chain has the chain behind it
behind : (k : ℕ) (v : VolumeState) (s : ℕ) (bs : List ℕ) (n : ℕ) → IsChain k v s bs → IsAmong n bs → Behind k v bs n
behind k v s [] n h i = absurd i
behind k v s (b ∷ bs) n h (inl e) = record {
  block = subst (IsEntryBlock k v) (sym e) h.1;
  rest = bs;
  chain = (let C : ℕ → Type 0 = λ x. IsChain k v (number_at 4 (block_at v x) 8) bs in subst C (sym e) h.2);
  short = omega arith;
  is = ap (λ (x : ℕ). drop x (b ∷ bs)) (let z : suc (length bs) - suc (length bs) ≡ 0 = omega arith in z) ∙ ap (λ (x : ℕ). x ∷ bs) (sym e);
}
behind k v s (b ∷ bs) n h (inr i) =
    let r = behind k v (number_at 4 (block_at v b) 8) bs n h.2 i in
    let less = r.short in
    record {
      block = r.block;
      rest = r.rest;
      chain = r.chain;
      short = omega arith;
      is = ap (λ (x : ℕ). drop x (b ∷ bs)) (let z : suc (length bs) - suc (length r.rest) ≡ suc (length bs - suc (length r.rest)) = omega arith in z) ∙ r.is;
    }

-- equal lists begin alike
heads-same : (x y : ℕ) (xs ys : List ℕ) → x ∷ xs ≡ y ∷ ys → x ≡ y
heads-same x y xs ys h = cc

-- the first block of a chain that is not empty
first-block : (k : ℕ) (v : VolumeState) (s : ℕ) (bs : List ℕ) → IsChain k v s bs → 0 < s → IsEntryBlock k v s
first-block k v s [] h some = (let z : s ≡ 0 = h in absurd (omega arith))
first-block k v s (b ∷ bs) h some = subst (IsEntryBlock k v) (sym h.0) h.1

-- a chain with a block begins at one
chain-start : (k : ℕ) (v : VolumeState) (s n : ℕ) (bs : List ℕ) → IsChain k v s bs → IsAmong n bs → 0 < s
chain-start k v s n [] h i = absurd i
chain-start k v s n (b ∷ bs) h i = (let e = h.0 in let l = h.1.is.later in omega arith)

-- ---- the order of entries

-- the key is above that of the entry to its left, if there is one
abbrev pub IsAbove : Option Entry → Entry → Type 0
IsAbove None e = Unit {0}
IsAbove (Some l) e = key_less l.key e.key ≡ true

-- the entries ascend from the entry to their left on
abbrev pub Ascend : Option Entry → List Entry → Type 0
Ascend left [] = Unit {0}
Ascend left (e ∷ es) = IsAbove left e × Ascend (Some e) es

-- what ascends behind an entry ascends from it on
ascend-on : (l : Entry) (es : List Entry) → keys_ascend (l ∷ es) ≡ true → Ascend (Some l) es
ascend-on l [] h = tt
ascend-on l (e ∷ es) h = (let d = and_parts _ _ h in (d.0, ascend-on e es d.1))

-- what ascends ascends from nothing on
ascend-all : (es : List Entry) → keys_ascend es ≡ true → Ascend None es
ascend-all [] h = tt
ascend-all (e ∷ es) h = (tt, ascend-on e es h)

-- what comes behind some entries ascends from the last of them on
ascend-behind : (left : Option Entry) (xs ys : List Entry) → Ascend left (xs ++ ys) → Ascend (last_entry left xs) ys
ascend-behind left [] ys h = h
ascend-behind left (x ∷ xs) ys h = ascend-behind (Some x) xs ys h.1

-- where entries ascend none is out of order
none-not-above : (left : Option Entry) (xs ys : List Entry) → Ascend left (xs ++ ys) → first_not_above left xs ≡ None
none-not-above left [] ys h = refl
none-not-above None (x ∷ xs) ys h = none-not-above (Some x) xs ys h.1
none-not-above (Some l) (x ∷ xs) ys h = rw h.0 (none-not-above (Some x) xs ys h.1)

-- nothing was found, so nothing is named
no-entry-found : (o : Option Entry) (x : ℕ) → o ≡ None → option_map (λ e. e.address) o ≡ Some x → ⊥
no-entry-found o x none some = (let e : None ≡ Some x = ap (λ q. option_map (λ (y : Entry). y.address) q) (sym none) ∙ some in cc)

-- ---- the tests of entries, block by block

-- what is true of the entries of all blocks is true of those of one
all-of : (test : Entry → Bool) (k : ℕ) (v : VolumeState) (bs : List ℕ) (n : ℕ) → list_all test (entries_of k v bs) ≡ true → IsAmong n bs → list_all test (entries_in k (block_at v n)) ≡ true
all-of test k v [] n h i = absurd i
all-of test k v (b ∷ bs) n h i =
    let both = and_parts _ _ (sym (list_all-append test (entries_in k (block_at v b)) (entries_of k v bs)) ∙ h) in
    elim i [
      | inl e ↦ subst (λ (x : ℕ). list_all test (entries_in k (block_at v x)) ≡ true) (sym e) both.0
      | inr j ↦ all-of test k v bs n both.1 j
    ]

-- where a test is true of all, none fails it
find-none : (test : Entry → Bool) (es : List Entry) → list_all test es ≡ true → find (λ e. not (test e)) es ≡ None
find-none test [] h = refl
find-none test (e ∷ es) h = (let d = and_parts _ _ h in let x : not (test e) ≡ false = ap not d.0 in rw x (find-none test es d.1))

-- not in any block
pub none-found : (test : Entry → Bool) (k : ℕ) (v : VolumeState) (bs : List ℕ) (n x : ℕ) → list_all test (entries_of k v bs) ≡ true → IsAmong n bs
    → option_map (λ e. e.address) (find (λ e. not (test e)) (entries_in k (block_at v n))) ≡ Some x → ⊥
none-found test k v bs n x h i some = no-entry-found _ x (find-none test (entries_in k (block_at v n)) (all-of test k v bs n h i)) some

module _ (k : ℕ) (v : VolumeState) (h : HasIndex k v) where
  -- a block of the index bears entries, and so does the next one
  index-block : (n : ℕ) → IsKind v 2 n → Behind k v (entry_blocks v) n
  index-block n kind = behind k v (header_of v.image).top (entry_blocks v) n h.chain (h.reached n kind)

  -- the top is right
  pub none-wrong-top : (a x : ℕ) → IsWrongTop v a x → ⊥
  none-wrong-top a x f = elim h.height [
    | inl z ↦ elim f.2 [
      | inl c ↦ c.1 z.1
      | inr (inl c) ↦ c.0 z.0
      | inr (inr (inl c)) ↦ (let e = z.1 in absurd (omega arith))
      | inr (inr (inr c)) ↦ c.0 z.0
    ]
    | inr one ↦ elim f.2 [
      | inl c ↦ (let e = c.0 in let l = one.0 in absurd (omega arith))
      | inr (inl c) ↦ (let e = c.1 in let l = one.1 in absurd (omega arith))
      | inr (inr (inl c)) ↦ (let l = one.1 in absurd (omega arith))
      | inr (inr (inr c)) ↦ (let b = first-block k v (header_of v.image).top (entry_blocks v) h.chain one.0 in c.1 (b.is, b.level))
    ]
  ]

  -- the form of each block is right
  pub none-wrong-form : (a x : ℕ) → IsWrongForm k v a x → ⊥
  none-wrong-form a x (n, kind, at, other, wrong) =
      let b = index-block n kind in
      let level = b.block.level in
      elim wrong [
        | inl high ↦ (let start = chain-start k v (header_of v.image).top n (entry_blocks v) h.chain (h.reached n kind) in
            high (elim h.height [ inl z ↦ (let e = z.0 in absurd (omega arith)) | inr one ↦ (let e = one.1 in omega arith) ]))
        | inr (inl many) ↦ (let few = b.block.count in absurd (omega arith))
        | inr (inr next) ↦
            (let some : 0 < number_at 4 (block_at v n) 8 = (let ne = next.0 in omega arith) in
            let c = first-block k v (number_at 4 (block_at v n) 8) b.rest b.chain some in
            next.1 (c.is, c.level ∙ sym level))
      ]

  -- the top block is no other's next one
  top-and-next : (n i : ℕ) → IsKind v 2 n → (header_of v.image).top ≡ n → IsKind v 2 i × (number_at 4 (block_at v i) 8 ≡ n) → ⊥
  top-and-next n i kind top b =
      let q = index-block i b.0 in
      let C : ℕ → Type 0 = λ s. IsChain k v s q.rest in
      let same : entry_blocks v ≡ q.rest = one-chain k v (header_of v.image).top (entry_blocks v) q.rest h.chain (subst C (b.1 ∙ sym top) q.chain) in
      let less = q.short in
      let len : length (entry_blocks v) ≡ length q.rest = ap (λ (r : List ℕ). length r) same in
      absurd (omega arith)

  -- one holder alone names a block
  one-holder : (n g i : ℕ) → IsKind v 2 n → NamesBlock v g n → NamesBlock v i n → g ≡ i
  one-holder n g i kind (inl a) (inl b) = a.0 ∙ sym b.0
  one-holder n g i kind (inl a) (inr b) = absurd (top-and-next n i kind a.1 b)
  one-holder n g i kind (inr a) (inl b) = absurd (top-and-next n g kind b.1 a)
  one-holder n g i kind (inr a) (inr b) =
      let p = index-block g a.0 in
      let q = index-block i b.0 in
      let C : ℕ → Type 0 = λ s. IsChain k v s q.rest in
      let same : p.rest ≡ q.rest = one-chain k v (number_at 4 (block_at v g) 8) p.rest q.rest p.chain (subst C (b.1 ∙ sym a.1) q.chain) in
      heads-same g i p.rest q.rest (sym p.is ∙ ap (λ (r : List ℕ). drop (length (entry_blocks v) - suc (length r)) (entry_blocks v)) same ∙ q.is)

  -- no block is named twice
  pub none-twice : (a x : ℕ) → IsNamedTwice v a x → ⊥
  none-twice a x f = f.6 (one-holder f.0 f.1 f.2 f.3 f.4 f.5)

  -- each block is reached
  pub none-unreached : (a x : ℕ) → IsUnreachedBlock v a x → ⊥
  none-unreached a x f = f.2 (h.reached f.0 f.1)

  -- no entry is out of order
  pub none-out-of-order : (a x : ℕ) → HasEntryOutOfOrder k v a x → ⊥
  none-out-of-order a x f =
      let n : ℕ = f.0 in
      let before : List ℕ = f.1 in
      let later : List ℕ = f.2 in
      let E : List Entry → Type 0 = λ es. Ascend None es in
      let whole : Ascend None (entries_of k v before ++ (entries_in k (block_at v n) ++ entries_of k v later)) =
      subst E (ap (entries_of k v) f.3 ∙ entries-append k v before (n ∷ later)) (ascend-all (entries k v) h.ascend) in
      no-entry-found _ x (none-not-above (last_entry None (entries_of k v before)) (entries_in k (block_at v n)) (entries_of k v later)
      (ascend-behind None (entries_of k v before) (entries_in k (block_at v n) ++ entries_of k v later) whole)) f.4
