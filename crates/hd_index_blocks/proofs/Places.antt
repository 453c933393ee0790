-- No block of an index set is named at two places.
use Rattle.std.proofs.Common.{◌≡◌, ◌≢◌, ◌⊎◌, inl, inr, ℕ, zero, suc, ◌+◌, ◌-◌, ◌<◌, ◌≤◌, List, [], ◌∷◌, ◌++◌, Some, slice_get, refl, sym, ap, ◌∙◌, subst, arith}
use Rattle.hd_volume.specs.Headers.{header_of}
use Rattle.hd_volume.specs.Volumes.{VolumeState, block_at, IsKind}
use Rattle.hd_volume.specs.Entries.{entries_in}
use Rattle.hd_volume.specs.Indexes.{IsAmong}
use Rattle.hd_index_blocks.specs.Levels.{IndexBlocks, across, named, blocks_down, IsIndexSet}
use Rattle.hd_index_blocks.specs.IndexSets.{level_in, index_blocks, top_blocks, top_level, HasIndexSet}
use Rattle.hd_index_blocks.specs.VolumeLaws.{StandOnce}
use Rattle.hd_index_blocks.specs.Faultless.{IsNamedAt, AreNamedOnce}
use Rattle.hd_index_blocks.proofs.Levels.{named-append}
use Rattle.hd_index_blocks.proofs.Downs.{among-parts, among-left, among-right, named-across, of-level, down-level, named-down, level-is, level-once}
use Rattle.hd_index_blocks.proofs.Volumes.{level-of, level-kind, tops-right}

got-among : (n i : ℕ) (ns : List ℕ) → slice_get ns i ≡ Some n → IsAmong n ns
got-among n i [] h = cc
got-among n zero (m ∷ ms) h = inl cc
got-among n (suc i) (m ∷ ms) h = inr (got-among n i ms h)

once-index : (n i j : ℕ) (ns : List ℕ) → StandOnce ns → slice_get ns i ≡ Some n → slice_get ns j ≡ Some n → i ≡ j
once-index n i j [] once h g = cc
once-index n zero zero (m ∷ ms) once h g = refl
once-index n zero (suc j) (m ∷ ms) once h g = let e : n ≡ m = cc in let A : ℕ → Type 0 = λ a. IsAmong a ms in absurd (once.0 (subst A e (got-among n j ms g)))
once-index n (suc i) zero (m ∷ ms) once h g = let e : n ≡ m = cc in let A : ℕ → Type 0 = λ a. IsAmong a ms in absurd (once.0 (subst A e (got-among n i ms h)))
once-index n (suc i) (suc j) (m ∷ ms) once h g = ap (λ (a : ℕ). suc a) (once-index n i j ms once.1 h g)

-- two parts of numbers that stand once
once-parts : (xs ys : List ℕ) → StandOnce (xs ++ ys) → StandOnce xs × StandOnce ys × ((n : ℕ) → IsAmong n xs → IsAmong n ys → ⊥)
once-parts [] ys h = (tt, h, (λ n a b. a))
once-parts (x ∷ xs) ys h =
    let rest = once-parts xs ys h.1 in
    (((λ a. h.0 (among-left x xs ys a)), rest.0), rest.1, (λ n a b. by-first n a b (λ c d. rest.2 n c d)))
  where
    by-first : (n : ℕ) → IsAmong n (x ∷ xs) → IsAmong n ys → (IsAmong n xs → IsAmong n ys → ⊥) → ⊥
    by-first n (inl e) b apart = let A : ℕ → Type 0 = λ m. IsAmong m ys in h.0 (among-right x xs ys (subst A e b))
    by-first n (inr a) b apart = apart a b

-- of blocks of a level no two entries name one block
across-once : (c : IndexBlocks) (n g i h j : ℕ) (ns : List ℕ) → StandOnce (named (across c ns)) → IsAmong g ns → IsAmong h ns
    → slice_get (named (c.entries g)) i ≡ Some n → slice_get (named (c.entries h)) j ≡ Some n → (g ≡ h) × (i ≡ j)
across-once c n g i h j [] once p q a b = absurd p
across-once c n g i h j (m ∷ ms) once p q a b =
    let S : List ℕ → Type 0 = λ t. StandOnce t in
    let parts = once-parts (named (c.entries m)) (named (across c ms)) (subst S (named-append (c.entries m) (across c ms)) once) in
    by-place p q parts.0 parts.2 (λ r s. across-once c n g i h j ms parts.1 r s a b)
  where
    own : (x i : ℕ) → x ≡ m → slice_get (named (c.entries x)) i ≡ Some n → slice_get (named (c.entries m)) i ≡ Some n
    own x i e a = let G : ℕ → Type 0 = λ y. slice_get (named (c.entries y)) i ≡ Some n in subst G e a

    by-place : IsAmong g (m ∷ ms) → IsAmong h (m ∷ ms) → StandOnce (named (c.entries m)) → ((x : ℕ) → IsAmong x (named (c.entries m)) → IsAmong x (named (across c ms)) → ⊥)
        → (IsAmong g ms → IsAmong h ms → (g ≡ h) × (i ≡ j)) → (g ≡ h) × (i ≡ j)
    by-place (inl e) (inl f) here apart rest = (e ∙ sym f, once-index n i j (named (c.entries m)) here (own g i e a) (own h j f b))
    by-place (inl e) (inr s) here apart rest = absurd (apart n (got-among n i (named (c.entries m)) (own g i e a)) (named-across c n h ms s (got-among n j (named (c.entries h)) b)))
    by-place (inr r) (inl f) here apart rest = absurd (apart n (got-among n j (named (c.entries m)) (own h j f b)) (named-across c n g ms r (got-among n i (named (c.entries g)) a)))
    by-place (inr r) (inr s) here apart rest = rest r s

-- nor do two of blocks of one level, wherever they stand
down-names-once : (c : IndexBlocks) (l k n g i h j : ℕ) (ns : List ℕ) → IsIndexSet c l ns → IsAmong g (blocks_down c l ns) → IsAmong h (blocks_down c l ns)
    → c.level g ≡ Some (suc k) → c.level h ≡ Some (suc k) → slice_get (named (c.entries g)) i ≡ Some n → slice_get (named (c.entries h)) j ≡ Some n → (g ≡ h) × (i ≡ j)
down-names-once c zero k n g i h j ns s p q u w a b =
    let own = of-level c 0 g ns s p in
    let e = level-is c 0 (suc k) g own.level u in absurd (omega arith)
down-names-once c (suc l) k n g i h j ns s p q u w a b =
    by-place (among-parts g ns (blocks_down c l (named (across c ns))) p) (among-parts h ns (blocks_down c l (named (across c ns))) q)
    (λ r t. down-names-once c l k n g i h j (named (across c ns)) s.2 r t u w a b)
  where
    apart : (x y : ℕ) → IsAmong x ns → IsAmong y (blocks_down c l (named (across c ns))) → c.level x ≡ Some (suc k) → c.level y ≡ Some (suc k) → ⊥
    apart x y r t u w =
        let own = of-level c (suc l) x ns s r in
        let d = down-level c l y (named (across c ns)) s.2 t in
        let e = level-is c (suc l) (suc k) x own.level u in
        let f = level-is c d.own (suc k) y d.on.level w in
        let low = d.low in
        omega arith

    by-place : IsAmong g ns ⊎ IsAmong g (blocks_down c l (named (across c ns))) → IsAmong h ns ⊎ IsAmong h (blocks_down c l (named (across c ns)))
        → (IsAmong g (blocks_down c l (named (across c ns))) → IsAmong h (blocks_down c l (named (across c ns))) → (g ≡ h) × (i ≡ j)) → (g ≡ h) × (i ≡ j)
    by-place (inl r) (inl t) rest = across-once c n g i h j ns (level-once c l (named (across c ns)) s.2) r t a b
    by-place (inl r) (inr t) rest = absurd (apart g h r t u w)
    by-place (inr r) (inl t) rest = absurd (apart h g t r w u)
    by-place (inr r) (inr t) rest = rest r t

module _ {k : ℕ} {v : VolumeState} (x : HasIndexSet k v) where
  -- what an upper entry names is of the level below its block
  named-level : (n h j l : ℕ) → level_in v h ≡ Some (suc l) → slice_get (named (entries_in k (block_at v h))) j ≡ Some n → level_in v n ≡ Some l
  named-level n h j l is a =
      let s = level-kind v h (suc l) is in
      let d = named-down (index_blocks k v) (top_level v) l n h (top_blocks v) x.set (x.reached h s.0) is (got-among n j (named (entries_in k (block_at v h))) a) in
      d.1.level

  -- the top is named by no entry
  top-alone : (n h j l : ℕ) → IsKind v 2 n → (header_of v.image).top ≡ n → level_in v h ≡ Some (suc l) → slice_get (named (entries_in k (block_at v h))) j ≡ Some n → ⊥
  top-alone n h j l kind top is a =
      let later = kind.later in
      let t = tops-right k v x (omega arith) in
      let s = level-kind v h (suc l) is in
      let d = down-level (index_blocks k v) (top_level v) h (top_blocks v) x.set (x.reached h s.0) in
      let e = level-is (index_blocks k v) d.own (suc l) h d.on.level is in
      let low = d.low in
      let own : level_in v n ≡ Some (top_level v) = ap (level_in v) (sym top) ∙ level-of v (header_of v.image).top t.is ∙ ap (λ (i : ℕ). Some i) t.level in
      let f = level-is (index_blocks k v) l (top_level v) n (named-level n h j l is a) own in
      omega arith

  pub once-at : AreNamedOnce k v
  once-at n g i h j kind (inl a) (inl b) = (a.0 ∙ sym b.0, a.1 ∙ sym b.1)
  once-at n g i h j kind (inl a) (inr b) = absurd (top-alone n h j b.0 kind a.2 b.1 b.2)
  once-at n g i h j kind (inr a) (inl b) = absurd (top-alone n g i a.0 kind b.2 a.1 a.2)
  once-at n g i h j kind (inr a) (inr b) =
      let e = level-is (index_blocks k v) b.0 a.0 n (named-level n h j b.0 b.1 b.2) (named-level n g i a.0 a.1 a.2) in
      let s = level-kind v g (suc a.0) a.1 in
      let t = level-kind v h (suc b.0) b.1 in
      down-names-once (index_blocks k v) (top_level v) a.0 n g i h j (top_blocks v) x.set (x.reached g s.0) (x.reached h t.0) a.1 (b.1 ∙ ap (λ (m : ℕ). Some (suc m)) e) a.2 b.2

pub places-once : (k : ℕ) (v : VolumeState) → HasIndexSet k v → AreNamedOnce k v
places-once k v x = once-at x
