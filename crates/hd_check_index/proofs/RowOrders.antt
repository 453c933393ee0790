-- What is found of the blocks of a row, one by one.
use Rattle.std.proofs.Common.{◌≡◌, ◌⊎◌, inl, inr, ℕ, zero, suc, ◌+◌, ◌-◌, ◌<◌, cond, min, Bool, true, false, List, [], ◌∷◌, ◌++◌, length, take, drop, slice_index, slice_index_or, Option, None, Some, refl, sym, ap, ◌∙◌, subst, arith}
use Rattle.std.specs.Prelude.{option_map, nat_lt}
use Rattle.std.proofs.lemmas.Bool.{cases_lt, ltb-true, ltb-false}
use Rattle.std.proofs.lemmas.List.{take_more, drop_more, drop_all, drop-drop, length-drop, take_all}
use Rattle.hd_volume.specs.Volumes.{VolumeState, block_at}
use Rattle.hd_volume.specs.Entries.{Entry, entries_in}
use Rattle.hd_index_blocks.specs.Levels.{IndexBlocks, across}
use Rattle.hd_index_blocks.specs.IndexSets.{level_in, index_blocks}
use Rattle.hd_index_blocks.specs.Faultless.{AreFormsRight}
use Rattle.hd_index_blocks.specs.LevelFaults.{last_entry}
use Rattle.hd_index_blocks.proofs.Levels.{nil, across-append}
use Rattle.hd_index_blocks.proofs.RowFaults.{last-append}
use Rattle.hd_check_index.specs.declared.extents.Extent.{Extent}
use Rattle.hd_check_index.specs.declared.order.Left.{Left}
use Rattle.hd_check_index.specs.declared.rows.Standing.{Standing}
use Rattle.hd_check_index.specs.Rows.{row_of}
use Rattle.hd_check_index.specs.BlockExtents.{AreExtents, AreBelow, IsExtentBelow}
use Rattle.hd_check_index.specs.EntryOrders.{IsLeft, IsFoundIn, IsLeftBehind, wrong_at, IsWrongUpTo, IsLeastOf, lesser}
use Rattle.hd_check_index.proofs.BlockExtents.{below-parts, extents-more}

-- ---- the least of what stands

-- the least of the same
pub least-as : (P Q : ℕ → ℕ → Type 0) (least : Option (ℕ × ℕ)) → ((n o : ℕ) → P n o → Q n o) → ((n o : ℕ) → Q n o → P n o) → IsLeastOf P least → IsLeastOf Q least
least-as P Q None to from h = λ n o q. h n o (from n o q)
least-as P Q (Some x) to from h = (to x.0 x.1 h.0, λ n o q. h.1 n o (from n o q))

-- the lesser of two is the least of both
pub least-both : (P Q : ℕ → ℕ → Type 0) (a b : Option (ℕ × ℕ)) → IsLeastOf P a → IsLeastOf Q b → IsLeastOf (λ n o. P n o ⊎ Q n o) (lesser a b)
least-both P Q None None h g = λ n o s. elim s [ inl p ↦ h n o p | inr q ↦ g n o q ]
least-both P Q None (Some y) h g = (inr g.0, λ n o s. elim s [ inl p ↦ absurd (h n o p) | inr q ↦ g.1 n o q ])
least-both P Q (Some x) None h g = (inl h.0, λ n o s. elim s [ inl p ↦ h.1 n o p | inr q ↦ absurd (g n o q) ])
least-both P Q (Some x) (Some y) h g = by (nat_lt y.0 x.0) refl
  where
    by : (b : Bool) → nat_lt y.0 x.0 ≡ b → IsLeastOf (λ n o. P n o ⊎ Q n o) (cond b (Some y) (Some x))
    by true is = (inr g.0, λ n o s. elim s [ inl p ↦ (let low = ltb-true _ _ is in let high = h.1 n o p in omega arith) | inr q ↦ g.1 n o q ])
    by false is = (inl h.0, λ n o s. elim s [ inl p ↦ h.1 n o p | inr q ↦ (let low = ltb-false _ _ is in let high = g.1 n o q in omega arith) ])

-- what was found in one block
pub least-found : (n : ℕ) (found : Option ℕ) → IsLeastOf (λ m o. (m ≡ n) × (found ≡ Some o)) (option_map (λ (o : ℕ). (n, o)) found)
least-found n None = λ m o s. (let none = s.1 in cc)
least-found n (Some x) = ((refl, refl), λ m o s. (let is = s.0 in omega arith))

-- ---- what is known of where something stands, which one block or one row more adds to

abbrev pub Known : Type 1
Known = (ℕ → ℕ → Type 0) → Type 0

-- with what was found in block n the first leads to the second
abbrev pub Notes : Known → ℕ → Option ℕ → Known → Type 1
Notes K n found L =
    (P R : ℕ → ℕ → Type 0) → ((m a : ℕ) → P m a ⊎ ((m ≡ n) × (found ≡ Some a)) → R m a) → ((m a : ℕ) → R m a → P m a ⊎ ((m ≡ n) × (found ≡ Some a))) → K P → L R

-- the first two lead to the third
abbrev pub Joins : Known → Known → Known → Type 1
Joins K F L = (P Q R : ℕ → ℕ → Type 0) → ((n o : ℕ) → P n o ⊎ Q n o → R n o) → ((n o : ℕ) → R n o → P n o ⊎ Q n o) → K P → F Q → L R

-- of the least one that was found in a block is the lesser of two
pub least-notes : (n : ℕ) (found : Option ℕ) (least here least2 : Option (ℕ × ℕ)) → here ≡ option_map (λ (o : ℕ). (n, o)) found → least2 ≡ lesser least here → Notes (λ P. IsLeastOf P least) n found (λ P. IsLeastOf P least2)
least-notes n found least here least2 own is P R to from h =
    let all : least2 ≡ lesser least (option_map (λ (o : ℕ). (n, o)) found) = is ∙ ap (lesser least) own in
    subst (IsLeastOf R) (sym all)
    (least-as (λ m a. P m a ⊎ ((m ≡ n) × (found ≡ Some a))) R (lesser least (option_map (λ (o : ℕ). (n, o)) found)) to from
    (least-both P (λ m a. (m ≡ n) × (found ≡ Some a)) least (option_map (λ (o : ℕ). (n, o)) found) h (least-found n found)))

-- and so is one that was found in a row
pub least-joins : (least found least2 : Option (ℕ × ℕ)) → least2 ≡ lesser least found → Joins (λ P. IsLeastOf P least) (λ P. IsLeastOf P found) (λ P. IsLeastOf P least2)
least-joins least found least2 is P Q R to from h g = subst (IsLeastOf R) (sym is) (least-as (λ n o. P n o ⊎ Q n o) R (lesser least found) to from (least-both P Q least found h g))

-- ---- the blocks of a row

pub row-length : (l : ℕ) (ns : List ℕ) → length (row_of l ns) ≡ length ns
row-length l [] = refl
row-length l (n ∷ ns) = ap suc (row-length l ns)

pub row-at : (l : ℕ) (ns : List ℕ) (i : ℕ) (d : Standing) → i < length ns → slice_index_or (row_of l ns) i d ≡ record { number = slice_index ns i; level = l }
row-at l [] i d less = absurd (omega arith)
row-at l (n ∷ ns) zero d less = refl
row-at l (n ∷ ns) (suc i) d less = row-at l ns i d (omega arith)

-- The first blocks of a row were judged.
pub record IsSeen (k : ℕ) (c : IndexBlocks) (l : ℕ) (ns : List ℕ) (i : ℕ) (below own : List Extent) (left : Left) (place : ℕ) (K : Known) : Type 0 where
  -- the key of their last entry is kept
  pub left_is : IsLeft k left (last_entry None (across c (take i ns)))
  -- the extents from a place on are those below the others
  pub rest : AreBelow k c l (across c (drop i ns)) (drop place below)
  pub own_is : AreExtents k c l (take i ns) own
  -- what is known of them
  pub known : K (IsWrongUpTo c l ns i)

-- of none
pub seen-none : (k : ℕ) (c : IndexBlocks) (l : ℕ) (ns : List ℕ) (below : List Extent) (left : Left) (K : Known) → ((P : ℕ → ℕ → Type 0) → ((n o : ℕ) → P n o → ⊥) → K P) → left.is_some ≡ false → AreBelow k c l (across c ns) below
    → IsSeen k c l ns 0 below [] left 0 K
seen-none k c l ns below left K none first h = record { left_is = first; rest = h; own_is = tt; known = none (IsWrongUpTo c l ns 0) (λ n o s. (let less = s.1 in omega arith)) }

-- the extents behind those of a block's entries
below-next : (k : ℕ) (c : IndexBlocks) (l : ℕ) (es rs : List Entry) (xs : List Extent) (count : ℕ) → count ≡ length es → AreBelow k c l (es ++ rs) xs → AreBelow k c l rs (drop count xs)
below-next k c zero es rs xs count is h = tt
below-next k c (suc l) es rs xs count is h = subst (λ (i : ℕ). AreBelow k c (suc l) rs (drop i xs)) (sym is) (below-parts k c l es rs xs h).1

drop-least : (xs : List Extent) (place count : ℕ) → drop count (drop place xs) ≡ drop (min (length xs) (place + count)) xs
drop-least xs place count = elim (cases_lt (length xs) (place + count)) [
  | inl short ↦ drop-drop count place xs ∙ drop_all (place + count) xs (omega arith) ∙ sym (drop_all (min (length xs) (place + count)) xs (omega arith))
  | inr long ↦ drop-drop count place xs ∙ ap (λ (i : ℕ). drop i xs) (let e : place + count ≡ min (length xs) (place + count) = omega arith in e)
]

-- one of the first blocks and one more
wrong-to : (c : IndexBlocks) (l : ℕ) (ns : List ℕ) (i n o : ℕ) → IsWrongUpTo c l ns i n o ⊎ ((n ≡ slice_index ns i) × (wrong_at c l ns i ≡ Some o)) → IsWrongUpTo c l ns (i + 1) n o
wrong-to c l ns i n o (inl s) = (s.0, (let less = s.1 in omega arith), s.2, s.3)
wrong-to c l ns i n o (inr s) = (i, omega arith, s.0, s.1)

wrong-from : (c : IndexBlocks) (l : ℕ) (ns : List ℕ) (i n o : ℕ) → IsWrongUpTo c l ns (i + 1) n o → IsWrongUpTo c l ns i n o ⊎ ((n ≡ slice_index ns i) × (wrong_at c l ns i ≡ Some o))
wrong-from c l ns i n o s = elim (cases_lt s.0 i) [
  | inl low ↦ inl (s.0, low, s.2, s.3)
  | inr high ↦ (let less = s.1 in let e : s.0 ≡ i = omega arith in inr (s.2 ∙ ap (slice_index ns) e, ap (wrong_at c l ns) (sym e) ∙ s.3))
]

-- one block more is judged
pub seen-next : (k : ℕ) (c : IndexBlocks) (l : ℕ) (ns : List ℕ) (i : ℕ) (below own : List Extent) (left : Left) (place : ℕ) (K L : Known) (found : Option ℕ) (x : Extent) (count : ℕ) (new : Left)
    → i < length ns → Notes K (slice_index ns i) found L → IsSeen k c l ns i below own left place K → IsFoundIn k l left (c.entries (slice_index ns i)) (drop place below) found → IsLeftBehind k left (c.entries (slice_index ns i)) new
    → IsExtentBelow k l (c.entries (slice_index ns i)) (drop place below) x → count ≡ length (c.entries (slice_index ns i))
    → IsSeen k c l ns (i + 1) below (own ++ (x ∷ [])) new (min (length below) (place + count)) L
seen-next k c l ns i below own left place K L found x count new less notes h f g e is =
    let n : ℕ = slice_index ns i in
    let o : Option Entry = last_entry None (across c (take i ns)) in
    let more : take (i + 1) ns ≡ take i ns ++ (n ∷ []) = take_more ns i 0 less in
    let from : drop i ns ≡ n ∷ drop (i + 1) ns = drop_more ns i 0 less in
    let rs : List Entry = across c (drop (i + 1) ns) in
    let rest : AreBelow k c l (c.entries n ++ rs) (drop place below) = subst (λ (t : List ℕ). AreBelow k c l (across c t) (drop place below)) from h.rest in
    let last : last_entry None (across c (take (i + 1) ns)) ≡ last_entry o (c.entries n) =
    ap (λ (t : List ℕ). last_entry None (across c t)) more ∙ ap (last_entry None) (across-append c (take i ns) (n ∷ []) ∙ ap (λ (t : List Entry). across c (take i ns) ++ t) (nil (c.entries n))) ∙ last-append None (across c (take i ns)) (c.entries n) in
    let here : wrong_at c l ns i ≡ found = f c rs o rest h.left_is in
    record {
      left_is = subst (λ (q : Option Entry). IsLeft k new q) (sym last) (g o h.left_is);
      rest = subst (λ (t : List Extent). AreBelow k c l rs t) (drop-least below place count) (below-next k c l (c.entries n) rs (drop place below) count is rest);
      own_is = subst (λ (t : List ℕ). AreExtents k c l t (own ++ (x ∷ []))) (sym more) (extents-more k c l (take i ns) own n x h.own_is (e c n rs refl rest));
      known = notes (IsWrongUpTo c l ns i) (IsWrongUpTo c l ns (i + 1))
          (λ m a s. elim s [ inl p ↦ wrong-to c l ns i m a (inl p) | inr q ↦ wrong-to c l ns i m a (inr (q.0, here ∙ q.1)) ])
          (λ m a s. elim (wrong-from c l ns i m a s) [ inl p ↦ inl p | inr q ↦ inr (q.0, sym here ∙ q.1) ])
          h.known;
    }

-- all are judged
pub seen-all : (k : ℕ) (c : IndexBlocks) (l : ℕ) (ns : List ℕ) (i : ℕ) (below own : List Extent) (left : Left) (place : ℕ) (K : Known) → i ≡ length ns → IsSeen k c l ns i below own left place K
    → AreExtents k c l ns own × K (IsWrongUpTo c l ns (length ns))
seen-all k c l ns i below own left place K is h =
    (subst (λ (t : List ℕ). AreExtents k c l t own) (take_all i ns (omega arith)) h.own_is, subst (λ (j : ℕ). K (IsWrongUpTo c l ns j)) is h.known)

-- ---- a volume that was only read

-- its blocks are of their levels
pub level-same : (v w : VolumeState) (n : ℕ) → w.size ≡ v.size → w.image ≡ v.image → level_in w n ≡ level_in v n
level-same v w n size image = rw (size, image) refl

-- it has the same index blocks
pub blocks-same : (k : ℕ) (v w : VolumeState) → w.size ≡ v.size → w.image ≡ v.image → index_blocks k w ≡ index_blocks k v
blocks-same k v w size image = ap (index_blocks k) (let is : w ≡ record w { image = v.image; size = v.size } = λ j. record w { image = image j; size = size j } in is)

-- and their forms are right
pub forms-same : (k : ℕ) (v w : VolumeState) → w.size ≡ v.size → w.image ≡ v.image → AreFormsRight k v → AreFormsRight k w
forms-same k v w size image f =
    let u : VolumeState = record w { image = v.image; size = v.size } in
    let is : u ≡ w = λ j. record w { image = sym image j; size = sym size j } in
    let own : AreFormsRight k u = record {
      height = f.height;
      top = f.top;
      blocks = λ n l level. (let b = f.blocks n l level in record { low = b.low; some = b.some; count = b.count; next = b.next; names = b.names });
    } in
    subst (AreFormsRight k) is own

-- the number of the block at an index of a row
pub row-number : (l : ℕ) (ns : List ℕ) (row : List Standing) (i : ℕ) (d : Standing) → row ≡ row_of l ns → i < length row → (slice_index_or row i d).number ≡ slice_index ns i
row-number l ns row i d is less =
    let len = row-length l ns in
    let same : length row ≡ length (row_of l ns) = ap (λ (t : List Standing). length t) is in
    ap (λ (t : List Standing). (slice_index_or t i d).number) is ∙ ap (λ (s : Standing). s.number) (row-at l ns i d (omega arith))

-- the extents from a place on, as they are taken
pub slice-from : (xs : List Extent) (place : ℕ) → take (length xs - place) (drop place xs) ≡ drop place xs
slice-from xs place = take_all (length xs - place) (drop place xs) (let l = length-drop place xs in omega arith)

-- one block more is read and judged
pub seen-read : (k : ℕ) (v w : VolumeState) (l : ℕ) (ns : List ℕ) (i : ℕ) (below own own2 : List Extent) (left : Left) (place place2 : ℕ) (K L : Known) (found : Option ℕ) (x : Extent) (count : ℕ) (new : Left) (m : ℕ) (rest : List Extent)
    → m ≡ slice_index ns i → rest ≡ drop place below → w.size ≡ v.size → w.image ≡ v.image → i < length ns → Notes K m found L → IsSeen k (index_blocks k v) l ns i below own left place K
    → IsFoundIn k l left (entries_in k (block_at w m)) rest found → IsLeftBehind k left (entries_in k (block_at w m)) new
    → IsExtentBelow k l (entries_in k (block_at w m)) rest x → count ≡ length (entries_in k (block_at w m))
    → own2 ≡ own ++ (x ∷ []) → place2 ≡ min (length below) (place + count)
    → IsSeen k (index_blocks k v) l ns (i + 1) below own2 new place2 L
seen-read k v w l ns i below own own2 left place place2 K L found x count new m rest number behind size image less notes h f g e is own_is place_is =
    let n : ℕ = slice_index ns i in
    let same : block_at w m ≡ block_at v n = rw (size, image) (ap (block_at v) number) in
    let F : List ℕ → Type 0 = λ t. IsFoundIn k l left (entries_in k t) rest found in
    let G : List Extent → Type 0 = λ t. IsFoundIn k l left (entries_in k (block_at v n)) t found in
    let B : List ℕ → Type 0 = λ t. IsLeftBehind k left (entries_in k t) new in
    let E : List ℕ → Type 0 = λ t. IsExtentBelow k l (entries_in k t) rest x in
    let X : List Extent → Type 0 = λ t. IsExtentBelow k l (entries_in k (block_at v n)) t x in
    let C : List ℕ → Type 0 = λ t. count ≡ length (entries_in k t) in
    let own_notes : Notes K n found L =
    λ P R to from known. notes P R (λ a b s. to a b (elim s [ inl p ↦ inl p | inr q ↦ inr (q.0 ∙ number, q.1) ])) (λ a b r. elim (from a b r) [ inl p ↦ inl p | inr q ↦ inr (q.0 ∙ sym number, q.1) ]) known in
    let next = seen-next k (index_blocks k v) l ns i below own left place K L found x count new less own_notes h (subst G behind (subst F same f)) (subst B same g) (subst X behind (subst E same e)) (subst C same is) in
    let S : List Extent → Type 0 = λ t. IsSeen k (index_blocks k v) l ns (i + 1) below t new (min (length below) (place + count)) L in
    let P : ℕ → Type 0 = λ t. IsSeen k (index_blocks k v) l ns (i + 1) below own2 new t L in
    subst P (sym place_is) (subst S (sym own_is) next)
