-- Blocks that are named twice, by the list of all names.
use Rattle.std.proofs.Common.{◌≡◌, ◌≢◌, ◌⊎◌, inl, inr, ℕ, zero, suc, ◌+◌, ◌-◌, ◌*◌, ◌<◌, ◌≤◌, List, [], ◌∷◌, ◌++◌, length, Bool, cond, Option, Some, None, IfNone, IfSome, take, slice_index, refl, sym, ap, subst, ◌∙◌, arith, ne_eqb, append_assoc}
use Rattle.std.specs.Prelude.{slice_get}
use Rattle.std.specs.List.Sorted.{IsPermutation}
use Rattle.std.proofs.lemmas.Bool.{cases_lt, cases_eq, cases_order, eq-eqb}
use Rattle.std.proofs.lemmas.Nat.{mul-le}
use Rattle.std.proofs.lemmas.List.Sorted.{IsPermutation-sym}
use Rattle.hd_volume.specs.Headers.{header_of}
use Rattle.hd_volume.specs.Volumes.{VolumeState, block_at, IsKind}
use Rattle.hd_volume.specs.Entries.{entries_at, entries_in}
use Rattle.hd_volume.specs.Indexes.{IsAmong}
use Rattle.hd_index_blocks.specs.Fields.{entry_in}
use Rattle.hd_index_blocks.proofs.EntryLemmas.{entries-more}
use Rattle.hd_index_blocks.specs.Levels.{named}
use Rattle.hd_index_blocks.specs.IndexSets.{level_in, top_level}
use Rattle.hd_index_blocks.specs.Faultless.{AreFormsRight, IsNamedAt}
use Rattle.hd_index_blocks.specs.LevelFaults.{IsNamedTwice, StandsNowhere}
use Rattle.hd_index_blocks.proofs.Levels.{named-append}
use Rattle.hd_index_blocks.proofs.Volumes.{level-kind}
use Rattle.hd_check_index.specs.declared.table.NotedBlock.{NotedBlock}
use Rattle.hd_check_index.specs.Tables.{noted, BlocksAscend, IsBlockOf, AreIndexBlocks}
use Rattle.hd_check_index.specs.Judging.{IsFirst, IsFoundAt}
use Rattle.hd_check_index.specs.NotedBlocks.{noted_at}
use Rattle.hd_check_index.specs.Marks.{IsTwice}
use Rattle.hd_check_index.specs.NamedBlocks.{names_in, upper_names, names_of}
use Rattle.hd_check_index.proofs.BlockForms.{level-own}
use Rattle.hd_check_index.proofs.TwiceNumbers.{twice-moved}

-- ---- elements of lists

-- the elements of the first of two lists
index-front : (xs ys : List ℕ) (i : ℕ) → i < length xs → slice_index (xs ++ ys) i ≡ slice_index xs i
index-front [] ys i l = absurd (omega arith)
index-front (x ∷ xs) ys zero l = refl
index-front (x ∷ xs) ys (suc i) l = index-front xs ys i (omega arith)

-- and those of the second
index-back : (xs ys : List ℕ) (i : ℕ) → slice_index (xs ++ ys) (length xs + i) ≡ slice_index ys i
index-back [] ys i = ap (λ (j : ℕ). slice_index ys j) (let e : 0 + i ≡ i = omega arith in e)
index-back (x ∷ xs) ys i = ap (λ (j : ℕ). slice_index (x ∷ (xs ++ ys)) j) (let e : suc (length xs) + i ≡ suc (length xs + i) = omega arith in e) ∙ index-back xs ys i

length-both : (xs ys : List ℕ) → length (xs ++ ys) ≡ length xs + length ys
length-both [] ys = omega arith
length-both (x ∷ xs) ys = (let r = length-both xs ys in omega arith)

-- a list has an element at an index just where that is within it
get-at : (xs : List ℕ) (i : ℕ) → i < length xs → slice_get xs i ≡ Some (slice_index xs i)
get-at [] i l = absurd (omega arith)
get-at (x ∷ xs) zero l = refl
get-at (x ∷ xs) (suc i) l = get-at xs i (omega arith)

at-get : (xs : List ℕ) (i n : ℕ) → slice_get xs i ≡ Some n → (i < length xs) × (slice_index xs i ≡ n)
at-get [] i n e = cc
at-get (x ∷ xs) zero n e = (omega arith, cc)
at-get (x ∷ xs) (suc i) n e = (let r = at-get xs i n e in let l = r.0 in (omega arith, r.1))

get-among : (xs : List ℕ) (i n : ℕ) → slice_get xs i ≡ Some n → IsAmong n xs
get-among [] i n e = cc
get-among (x ∷ xs) zero n e = inl (cc)
get-among (x ∷ xs) (suc i) n e = inr (get-among xs i n e)

-- ---- names and where they stand

-- a block of level 0 names no block
low-names : (k : ℕ) (v : VolumeState) (b : NotedBlock) → b.level ≡ 0 → names_in k v b ≡ []
low-names k v b z = ap (λ (t : Bool). cond t [] (named (entries_in k (block_at v b.number)))) (eq-eqb b.level 0 z)

-- one of a level above names what its entries name
pub high-names : (k : ℕ) (v : VolumeState) (b : NotedBlock) → b.level ≢ 0 → names_in k v b ≡ named (entries_in k (block_at v b.number))
high-names k v b some = ap (λ (t : Bool). cond t [] (named (entries_in k (block_at v b.number)))) (ne_eqb b.level 0 some)

module _ (k : ℕ) (v : VolumeState) where
  -- the name at an index of those of some blocks is that of an entry of a block
  abbrev StandsAt : List NotedBlock → ℕ → ℕ → ℕ → Type 0
  StandsAt [] i h j = ⊥
  StandsAt (b ∷ bs) i h j = ((h ≡ b.number) × (i ≡ j) × (j < length (names_in k v b))) ⊎ ((m : ℕ) × (i ≡ length (names_in k v b) + m) × StandsAt bs m h j)

  -- each name stands at an entry
  stands-some : (bs : List NotedBlock) (i : ℕ) → i < length (upper_names k v bs) → (h j : ℕ) × StandsAt bs i h j
  stands-some [] i l = absurd (omega arith)
  stands-some (b ∷ bs) i l = elim (cases_lt i (length (names_in k v b))) [
    | inl low ↦ (b.number, i, inl (refl, refl, low))
    | inr high ↦
        (let both = length-both (names_in k v b) (upper_names k v bs) in
        let r = stands-some bs (i - length (names_in k v b)) (omega arith) in
        (r.0, r.1, inr (i - length (names_in k v b), omega arith, r.2)))
  ]

  -- The block of a name, which has it at an index of its own.
  record NamedBy (bs : List NotedBlock) (i h j : ℕ) : Type 0 where
    block : NotedBlock
    of : IsBlockOf block bs
    number : block.number ≡ h
    name : slice_get (names_in k v block) j ≡ Some (slice_index (upper_names k v bs) i)

  named-by : (bs : List NotedBlock) (i h j : ℕ) → StandsAt bs i h j → NamedBy bs i h j
  named-by [] i h j s = absurd s
  named-by (b ∷ bs) i h j (inl s) = record {
    block = b;
    of = inl refl;
    number = sym s.0;
    name = get-at (names_in k v b) j s.2 ∙ ap (λ (x : ℕ). Some x) (sym (index-front (names_in k v b) (upper_names k v bs) j s.2) ∙ ap (slice_index (upper_names k v (b ∷ bs))) (sym s.1));
  }
  named-by (b ∷ bs) i h j (inr s) =
      let r = named-by bs s.0 h j s.2 in
      record {
        block = r.block;
        of = inr r.of;
        number = r.number;
        name = r.name ∙ ap (λ (x : ℕ). Some x) (sym (index-back (names_in k v b) (upper_names k v bs) s.0) ∙ ap (slice_index (upper_names k v (b ∷ bs))) (sym s.1));
      }

  -- one name stands at one entry
  one-entry : (bs : List NotedBlock) (i h j g m : ℕ) → StandsAt bs i h j → StandsAt bs i g m → (h ≡ g) × (j ≡ m)
  one-entry [] i h j g m s t = absurd s
  one-entry (b ∷ bs) i h j g m (inl s) (inl t) = (s.0 ∙ sym t.0, sym s.1 ∙ t.1)
  one-entry (b ∷ bs) i h j g m (inl s) (inr t) = (let e = s.1 in let l = s.2 in let f = t.1 in absurd (omega arith))
  one-entry (b ∷ bs) i h j g m (inr s) (inl t) = (let e = t.1 in let l = t.2 in let f = s.1 in absurd (omega arith))
  one-entry (b ∷ bs) i h j g m (inr s) (inr t) =
      (let e = s.1 in
      let f = t.1 in
      let same : t.0 ≡ s.0 = omega arith in
      one-entry bs s.0 h j g m s.2 (subst (λ (x : ℕ). StandsAt bs x g m) same t.2))

  -- the block of an entry is behind the number from which blocks ascend
  stands-above : (a : ℕ) (bs : List NotedBlock) (i h j : ℕ) → BlocksAscend a bs → StandsAt bs i h j → a < h
  stands-above a [] i h j up s = absurd s
  stands-above a (b ∷ bs) i h j up (inl s) = (let e = s.0 in let l = up.0 in omega arith)
  stands-above a (b ∷ bs) i h j up (inr s) = (let r = stands-above b.number bs s.0 h j up.1 s.2 in let l = up.0 in omega arith)

  -- and one entry has one name
  one-name : (a : ℕ) (bs : List NotedBlock) (i m h j : ℕ) → BlocksAscend a bs → StandsAt bs i h j → StandsAt bs m h j → i ≡ m
  one-name a [] i m h j up s t = absurd s
  one-name a (b ∷ bs) i m h j up (inl s) (inl t) = s.1 ∙ sym t.1
  one-name a (b ∷ bs) i m h j up (inl s) (inr t) = (let e = s.0 in let l = stands-above b.number bs t.0 h j up.1 t.2 in absurd (omega arith))
  one-name a (b ∷ bs) i m h j up (inr s) (inl t) = (let e = t.0 in let l = stands-above b.number bs s.0 h j up.1 s.2 in absurd (omega arith))
  one-name a (b ∷ bs) i m h j up (inr s) (inr t) =
      (let e = s.1 in
      let f = t.1 in
      let same = one-name b.number bs s.0 t.0 h j up.1 s.2 t.2 in
      omega arith)

  -- Where an entry of a block has its name.
  record NameOf (bs : List NotedBlock) (h j n : ℕ) : Type 0 where
    index : ℕ
    within : index < length (upper_names k v bs)
    is : slice_index (upper_names k v bs) index ≡ n
    stands : StandsAt bs index h j

  name-of : (bs : List NotedBlock) (b : NotedBlock) (j : ℕ) → IsBlockOf b bs → j < length (names_in k v b) → NameOf bs b.number j (slice_index (names_in k v b) j)
  name-of [] b j i l = absurd i
  name-of (c ∷ bs) b j (inl same) l =
      let C : NotedBlock → Type 0 = λ x. j < length (names_in k v x) → NameOf (c ∷ bs) x.number j (slice_index (names_in k v x) j) in
      let own : C c = λ low. (let both = length-both (names_in k v c) (upper_names k v bs) in
      record { index = j; within = omega arith; is = index-front (names_in k v c) (upper_names k v bs) j low; stands = inl (refl, refl, low) }) in
      subst C (sym same) own l
  name-of (c ∷ bs) b j (inr i) l =
      let r = name-of bs b j i l in
      let low = r.within in
      let both = length-both (names_in k v c) (upper_names k v bs) in
      record {
        index = length (names_in k v c) + r.index;
        within = omega arith;
        is = index-back (names_in k v c) (upper_names k v bs) r.index ∙ r.is;
        stands = inr (r.index, refl, r.stands);
      }

  -- the name at an index of all is that of the top block, or of an entry
  abbrev PlaceAt : List NotedBlock → ℕ → ℕ → ℕ → Type 0
  PlaceAt bs zero h j = (h ≡ 0) × (j ≡ 0)
  PlaceAt bs (suc i) h j = StandsAt bs i h j

  -- one name stands at one place
  one-place : (bs : List NotedBlock) (i h j g m : ℕ) → PlaceAt bs i h j → PlaceAt bs i g m → (h ≡ g) × (j ≡ m)
  one-place bs zero h j g m s t = (s.0 ∙ sym t.0, s.1 ∙ sym t.1)
  one-place bs (suc i) h j g m s t = one-entry bs i h j g m s t

  -- and at one place stands one name
  one-index : (bs : List NotedBlock) (i m h j : ℕ) → BlocksAscend 0 bs → PlaceAt bs i h j → PlaceAt bs m h j → i ≡ m
  one-index bs zero zero h j up s t = refl
  one-index bs zero (suc m) h j up s t = (let e = s.0 in let l = stands-above 0 bs m h j up t in absurd (omega arith))
  one-index bs (suc i) zero h j up s t = (let e = t.0 in let l = stands-above 0 bs i h j up s in absurd (omega arith))
  one-index bs (suc i) (suc m) h j up s t = ap suc (one-name 0 bs i m h j up s t)

module _ (k : ℕ) (v : VolumeState) (bs : List NotedBlock) (top : ℕ) (h : AreIndexBlocks v bs) (is : top ≡ (header_of v.image).top) where
  -- The place of a name names its block.
  record NamedThere (i n : ℕ) : Type 0 where
    block : ℕ
    entry : ℕ
    place : PlaceAt k v bs i block entry
    names : IsNamedAt k v block entry n

  named-there : (n i : ℕ) → i < length (names_of k v top bs) → slice_index (names_of k v top bs) i ≡ n → NamedThere i n
  named-there n zero l e = record { block = 0; entry = 0; place = (refl, refl); names = inl (refl, refl, sym is ∙ e) }
  named-there n (suc i) l e =
      let s = stands-some k v bs i (omega arith) in
      let r = named-by k v bs i s.0 s.1 s.2 in
      let b : NotedBlock = r.block in
      let name : slice_get (names_in k v b) s.1 ≡ Some n = r.name ∙ ap (λ (x : ℕ). Some x) e in
      let N : ℕ → Type 0 = λ x. (l : ℕ) × (level_in v x ≡ Some (suc l)) × (slice_get (named (entries_in k (block_at v x))) s.1 ≡ Some n) in
      record {
        block = s.0;
        entry = s.1;
        place = s.2;
        names = inr (subst N r.number (elim (cases_eq b.level 0) [
          | inl z ↦ (let none : None ≡ Some n = ap (λ (xs : List ℕ). slice_get xs s.1) (sym (low-names k v b z)) ∙ name in absurd (cc))
          | inr some ↦
              (let level : b.level ≡ suc (b.level - 1) = omega arith in
              (b.level - 1, level-own v bs b h r.of ∙ ap (λ (x : ℕ). Some x) level, ap (λ (xs : List ℕ). slice_get xs s.1) (sym (high-names k v b some)) ∙ name))
        ]));
      }

  -- A place that names a block has a name.
  record Named (g j n : ℕ) : Type 0 where
    index : ℕ
    within : index < length (names_of k v top bs)
    names : slice_index (names_of k v top bs) index ≡ n
    place : PlaceAt k v bs index g j

  named-at : (g j n : ℕ) → IsNamedAt k v g j n → Named g j n
  named-at g j n (inl t) = record { index = 0; within = omega arith; names = is ∙ t.2; place = (t.0, t.1) }
  named-at g j n (inr t) =
      let of = level-kind v g (suc t.0) t.1 in
      let own : NotedBlock = noted v g in
      let some : own.level ≢ 0 = (let e = of.1 in λ z. omega arith) in
      let got = at-get (names_in k v own) j n (ap (λ (xs : List ℕ). slice_get xs j) (high-names k v own some) ∙ t.2) in
      let r = name-of k v bs own j (h.all g of.0) got.0 in
      let l = r.within in
      record { index = suc r.index; within = omega arith; names = r.is ∙ got.1; place = r.stands }

  -- what two places name stands twice among the names
  named-two : (n g i m j : ℕ) → IsNamedAt k v g i n → IsNamedAt k v m j n → ((g ≡ m) × (i ≡ j) → ⊥) → IsTwice n (names_of k v top bs)
  named-two n g i m j a b other =
      let x = named-at g i n a in
      let y = named-at m j n b in
      elim (cases_order x.index y.index) [
        | inl same ↦ absurd (other (one-place k v bs y.index g i m j (subst (λ (z : ℕ). PlaceAt k v bs z g i) same x.place) y.place))
        | inr (inl less) ↦ (x.index, y.index, less, y.within, x.names, y.names)
        | inr (inr more) ↦ (y.index, x.index, more, x.within, y.names, x.names)
      ]

  -- where no name but 0 stands twice no index block is named twice
  once-named : ((n : ℕ) → 0 < n → IsTwice n (names_of k v top bs) → ⊥) → StandsNowhere (IsNamedTwice k v)
  once-named none a o t = none t.0 t.5.later (named-two t.0 t.1 t.2 t.3 t.4 t.6 t.7 t.8)

  -- what is named is an index block, or 0
  named-kind : AreFormsRight k v → (n g j : ℕ) → 0 < n → IsNamedAt k v g j n → IsKind v 2 n
  named-kind f n g j some (inl t) =
      let at = t.2 in
      subst (IsKind v 2) at (level-kind v (header_of v.image).top (top_level v) (f.top (omega arith))).0
  named-kind f n g j some (inr t) =
      (level-kind v n t.0 ((f.blocks g (suc t.0) t.1).names t.0 n refl (get-among (named (entries_in k (block_at v g))) j n t.2))).0

  -- a number that stands twice is that of a block that is named twice
  pub twice-stands : AreFormsRight k v → (n : ℕ) → 0 < n → IsTwice n (names_of k v top bs) → IsNamedTwice k v (n * v.size) 0
  twice-stands f n some two =
      let less = two.2 in
      let within = two.3 in
      let x = named-there n two.0 (omega arith) two.4 in
      let y = named-there n two.1 within two.5 in
      let other : (x.block ≡ y.block) × (x.entry ≡ y.entry) → ⊥ =
      λ e. (let P : ℕ → ℕ → Type 0 = λ a b. PlaceAt k v bs two.0 a b in
      let moved = subst (λ (a : ℕ). P a y.entry) e.0 (subst (λ (b : ℕ). P x.block b) e.1 x.place) in
      let same = one-index k v bs two.0 two.1 y.block y.entry h.ascend moved y.place in omega arith) in
      (n, x.block, x.entry, y.block, y.entry, named-kind f n x.block x.entry some x.names, x.names, y.names, other, refl, refl)

  -- and the number of such a block does
  pub stands-twice : (a o : ℕ) (t : IsNamedTwice k v a o) → IsTwice t.0 (names_of k v top bs)
  stands-twice a o t = named-two t.0 t.1 t.2 t.3 t.4 t.6 t.7 t.8

  -- the least number that stands twice is that of the first block that is named twice
  twice-first : AreFormsRight k v → (n : ℕ) → 0 < n → IsTwice n (names_of k v top bs) → ((m : ℕ) → 0 < m → m < n → IsTwice m (names_of k v top bs) → ⊥) → IsFirst v (IsNamedTwice k v) n 0
  twice-first f n some two least = record {
    here = twice-stands f n some two;
    least = λ a o t.
        (let m : ℕ = t.0 in
        let at = t.9 in
        elim (cases_lt m n) [
          | inl low ↦ absurd (least m t.5.later low (stands-twice a o t))
          | inr high ↦ (let l : n * v.size ≤ m * v.size = mul-le n v.size m v.size high (omega arith) in omega arith)
        ]);
  }

  -- what is found among the names in another order
  pub found-twice : AreFormsRight k v → (names : List ℕ) → IsPermutation (names_of k v top bs) names → (found : Option ℕ) → IfNone found ((n : ℕ) → 0 < n → IsTwice n names → ⊥)
      → IfSome found (λ n. (0 < n) × IsTwice n names × ((m : ℕ) → 0 < m → m < n → IsTwice m names → ⊥)) → IsFoundAt v (IsNamedTwice k v) found
  found-twice f names moved None none some = (once-named (λ n positive t. none n positive (twice-moved n (names_of k v top bs) names moved t)), tt)
  found-twice f names moved (Some n) none some = (
    tt,
    twice-first f n some.0 (twice-moved n names (names_of k v top bs) (IsPermutation-sym _ _ moved) some.1)
        (λ m positive less t. some.2 m positive less (twice-moved m (names_of k v top bs) names moved t)),
  )

-- ---- the list of all names

-- the names of the first blocks, and those of one more
upper-more : (k : ℕ) (v : VolumeState) (bs : List NotedBlock) (i : ℕ) → i < length bs → upper_names k v (take (i + 1) bs) ≡ upper_names k v (take i bs) ++ names_in k v (noted_at bs i)
upper-more k v [] i l = absurd (omega arith)
upper-more k v (b ∷ bs) zero l = append-none (names_in k v b)
  where
    append-none : (xs : List ℕ) → xs ++ [] ≡ xs
    append-none [] = refl
    append-none (x ∷ xs) = ap (λ (ys : List ℕ). x ∷ ys) (append-none xs)
upper-more k v (b ∷ bs) (suc i) l =
    ap (λ (j : ℕ). upper_names k v (take j (b ∷ bs))) (let e : suc i + 1 ≡ suc (i + 1) = omega arith in e)
    ∙ ap (λ (ns : List ℕ). names_in k v b ++ ns) (upper-more k v bs i (omega arith)) ∙ sym (append_assoc (names_in k v b) (upper_names k v (take i bs)) (names_in k v (noted_at bs i)))

-- what the first entries of a block name, and what one more does
pub named-more : (k : ℕ) (b : List ℕ) (i : ℕ) → named (entries_at k b 12 (i + 1)) ≡ named (entries_at k b 12 i) ++ ((entry_in k b i).address ∷ [])
named-more k b i = ap named (entries-more k b 12 i) ∙ named-append (entries_at k b 12 i) (entry_in k b i ∷ [])

-- in one image a block names the same blocks
names-same : (k : ℕ) (v w : VolumeState) (b : NotedBlock) → w.image ≡ v.image → w.size ≡ v.size → names_in k w b ≡ names_in k v b
names-same k v w b image size = rw (size, image) refl

-- the names of the first blocks and of one more are those of all of them
pub names-more : (k : ℕ) (v w : VolumeState) (bs : List NotedBlock) (top i : ℕ) (names more : List ℕ) → w.image ≡ v.image → w.size ≡ v.size → i < length bs
    → names ≡ names_of k v top (take i bs) → more ≡ names ++ names_in k w (noted_at bs i) → more ≡ names_of k v top (take (i + 1) bs)
names-more k v w bs top i names more image size within before added =
    added ∙ ap (λ (ns : List ℕ). names ++ ns) (names-same k v w (noted_at bs i) image size) ∙ ap (λ (ns : List ℕ). ns ++ names_in k v (noted_at bs i)) before
    ∙ ap (λ (ns : List ℕ). top ∷ ns) (sym (upper-more k v bs i within))
