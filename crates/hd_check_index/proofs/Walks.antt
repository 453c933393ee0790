-- The walk along an index's blocks: each that it comes to is new, so it ends.
use Rattle.std.proofs.Common.{◌≡◌, ◌⊎◌, inl, inr, ℕ, zero, suc, ◌+◌, ◌*◌, ◌<◌, ◌≤◌, List, [], ◌∷◌, ◌++◌, length, Bool, true, false, cond, slice_set, replicate, length-append, get_or-set_other, get_or-set_same, refl, sym, ap, subst, ◌∙◌, arith, ne_eqb}
use Rattle.std.specs.List.{sum_by}
use Rattle.std.proofs.lemmas.Bool.{cases_lt, cases_eq, cases_Bool, eq-eqb, false≢true}
use Rattle.std.proofs.lemmas.Nat.{mul-le}
use Rattle.std.proofs.lemmas.List.Sums.{sum_by-cons, sum_by-set}
use Rattle.hd_bytes.specs.Numbers.{number_at}
use Rattle.hd_dbd.specs.Hierarchy.{Database}
use Rattle.hd_dbd.proofs.StoredSizes.{block_size-bounds}
use Rattle.hd_volume.specs.Headers.{header_of}
use Rattle.hd_volume.specs.Volumes.{VolumeState, block_at, IsKind}
use Rattle.hd_volume.specs.Rooms.{one_if}
use Rattle.hd_volume.specs.Entries.{chain_from, entry_blocks}
use Rattle.hd_volume.specs.Indexes.{root_key_length, IsChain, IsAmong}
use Rattle.hd_volume.proofs.KindLemmas.{below-count}
use Rattle.hd_image.specs.Records.{IsVolumeOf}
use Rattle.hd_image.specs.Right.{ChainIsFormed}
use Rattle.hd_image.specs.declared.line.Line.TheVariants.{UnreachedBlock}
use Rattle.hd_check_index.specs.declared.noted_blocks.ChainedBlock.{ChainedBlock}
use Rattle.hd_check_blocks.specs.Phases.{IsLeastOf}
use Rattle.hd_check_index.specs.Marks.{AreMarkedBefore, mark_at}
use Rattle.hd_check_index.specs.IndexPhases.{IsBlockOf, BlocksAscend, IsIndexRight, IsChainable, IsPath, AreMarks, IsWalked, index_block_of, index_block_at}
use Rattle.hd_check_index.proofs.IndexTables.{among, index-of, in-order, one-index}
use Rattle.hd_check_index.proofs.LateLines.{least-late, stands-10}

-- ---- steps from a block to the next

-- where so many steps lead
abbrev to : VolumeState → ℕ → ℕ → ℕ
to v s zero = s
to v s (suc j) = to v (number_at 4 (block_at v s) 8) j

-- the last step leads to the next block
to-next : (v : VolumeState) (s j : ℕ) → to v s (suc j) ≡ number_at 4 (block_at v (to v s j)) 8
to-next v s zero = refl
to-next v s (suc j) = to-next v (number_at 4 (block_at v s) 8) j

-- a path ends where its steps lead
path-end : (v : VolumeState) (s t : ℕ) (ns : List ℕ) → IsPath v s ns t → to v s (length ns) ≡ t
path-end v s t [] h = h
path-end v s t (n ∷ ns) h = ap (λ (x : ℕ). to v (number_at 4 (block_at v x) 8) (length ns)) h.0 ∙ path-end v (number_at 4 (block_at v n) 8) t ns h.2

-- before that its steps lead to index blocks
path-kind : (v : VolumeState) (s t : ℕ) (ns : List ℕ) → IsPath v s ns t → (j : ℕ) → j < length ns → IsKind v 2 (to v s j)
path-kind v s t [] h j l = absurd (omega arith)
path-kind v s t (n ∷ ns) h zero l = subst (IsKind v 2) (sym h.0) h.1
path-kind v s t (n ∷ ns) h (suc j) l = subst (λ (x : ℕ). IsKind v 2 (to v (number_at 4 (block_at v x) 8) j)) (sym h.0) (path-kind v (number_at 4 (block_at v n) 8) t ns h.2 j (omega arith))

-- and its blocks are those
path-step : (v : VolumeState) (s t : ℕ) (ns : List ℕ) (m : ℕ) → IsPath v s ns t → IsAmong m ns → (j : ℕ) × (j < length ns) × (to v s j ≡ m)
path-step v s t [] m h i = absurd i
path-step v s t (n ∷ ns) m h (inl e) = (0, omega arith, h.0 ∙ sym e)
path-step v s t (n ∷ ns) m h (inr i) =
    let r = path-step v (number_at 4 (block_at v n) 8) t ns m h.2 i in
    let l = r.1 in
    (suc r.0, omega arith, ap (λ (x : ℕ). to v (number_at 4 (block_at v x) 8) r.0) h.0 ∙ r.2)

-- a path goes on with an index block
pub path-more : (v : VolumeState) (s t : ℕ) (ns : List ℕ) → IsPath v s ns t → IsKind v 2 t → IsPath v s (ns ++ (t ∷ [])) (number_at 4 (block_at v t) 8)
path-more v s t [] h k = (h, k, refl)
path-more v s t (n ∷ ns) h k = (h.0, h.1, path-more v (number_at 4 (block_at v n) 8) t ns h.2 k)

-- the last of some blocks is among them, and so are the others
pub among-more : (m : ℕ) (ns : List ℕ) (n : ℕ) → IsAmong m (ns ++ (n ∷ [])) → IsAmong m ns ⊎ (m ≡ n)
among-more m [] n (inl e) = inr e
among-more m [] n (inr i) = absurd i
among-more m (x ∷ xs) n (inl e) = inl (inl e)
among-more m (x ∷ xs) n (inr i) = elim (among-more m xs n i) [ inl j ↦ inl (inr j) | inr e ↦ inr e ]

pub among-front : (m : ℕ) (ns : List ℕ) (n : ℕ) → IsAmong m ns → IsAmong m (ns ++ (n ∷ []))
among-front m [] n i = absurd i
among-front m (x ∷ xs) n (inl e) = inl e
among-front m (x ∷ xs) n (inr i) = inr (among-front m xs n i)

pub among-last : (ns : List ℕ) (n : ℕ) → IsAmong n (ns ++ (n ∷ []))
among-last [] n = inl refl
among-last (x ∷ xs) n = inr (among-last xs n)

module _ (k : ℕ) (v : VolumeState) (bs : List ChainedBlock) (top : ℕ) (h : IsChainable k v bs top) where
  -- two numbers of steps from the top block do not lead to one index block
  apart : (len i j : ℕ) → ((x : ℕ) → x < len → IsKind v 2 (to v top x)) → i < j → j ≤ len → IsKind v 2 (to v top j) → to v top i ≡ to v top j → ⊥
  apart len i zero kinds less within there same = omega arith
  apart len zero (suc d) kinds less within there same =
      let last : to v top (suc d) ≡ number_at 4 (block_at v (to v top d)) 8 = to-next v top d in
      let holder : IsKind v 2 (to v top d) = kinds d (omega arith) in
      let e : 0 ≡ to v top d = h.once (to v top (suc d)) 0 (to v top d) there (inl (refl, sym h.top_is ∙ same)) (inr (holder, sym last)) in
      let later = holder.later in
      omega arith
  apart len (suc i) (suc j) kinds less within there same =
      let one : to v top (suc i) ≡ number_at 4 (block_at v (to v top i)) 8 = to-next v top i in
      let two : to v top (suc j) ≡ number_at 4 (block_at v (to v top j)) 8 = to-next v top j in
      let holder : IsKind v 2 (to v top j) = kinds j (omega arith) in
      let e : to v top i ≡ to v top j = h.once (to v top (suc j)) (to v top i) (to v top j) there (inr (kinds i (omega arith), sym one ∙ same)) (inr (holder, sym two)) in
      apart len i j kinds (omega arith) (omega arith) holder e

  -- an index block to which a path leads from the top block is not on it
  pub new-block : (ns : List ℕ) (t : ℕ) → IsPath v top ns t → IsKind v 2 t → IsAmong t ns → ⊥
  new-block ns t p there i =
      let r = path-step v top t ns t p i in
      let end : to v top (length ns) ≡ t = path-end v top t ns p in
      apart (length ns) r.0 (length ns) (path-kind v top t ns p) r.1 (omega arith) (subst (IsKind v 2) (sym end) there) (r.2 ∙ sym end)

  -- where a path leads stands an index block, or it ends
  pub leads : (ns : List ℕ) (t : ℕ) → IsPath v top ns t → (t ≡ 0) ⊎ IsKind v 2 t
  leads ns t p = from top ns p (elim (cases_eq top 0) [
    | inl z ↦ inl z
    | inr ne ↦ (let T : ℕ → Type 0 = λ x. IsKind v 2 x in inr (subst T (sym h.top_is) (h.right.top (let e = h.top_is in omega arith)).0))
  ])
    where
      from : (s : ℕ) (xs : List ℕ) → IsPath v s xs t → (s ≡ 0) ⊎ IsKind v 2 s → (t ≡ 0) ⊎ IsKind v 2 t
      from s [] q start = elim start [ inl z ↦ inl (sym q ∙ z) | inr own ↦ inr (subst (IsKind v 2) q own) ]
      from s (n ∷ xs) q start = from (number_at 4 (block_at v n) 8) xs q.2 (elim (h.right.blocks n q.1).next [ inl z ↦ inl z | inr o ↦ inr o.0 ])

-- ---- marks

-- how many marks are made
abbrev made : List Bool → ℕ
made marks = sum_by one_if marks

made-cons : (b : Bool) (bs : List Bool) → made (b ∷ bs) ≡ one_if b + made bs
made-cons b bs = sum_by-cons one_if b bs

-- none are
pub none-made : (n : ℕ) → made (replicate n false) ≡ 0
none-made zero = refl
none-made (suc n) = (let e = made-cons false (replicate n false) in let r = none-made n in omega arith)

pub not-marked : (n i : ℕ) → mark_at (replicate n false) i ≡ false
not-marked zero i = refl
not-marked (suc n) zero = refl
not-marked (suc n) (suc i) = not-marked n i

-- a new mark is one more
pub one-made : (marks : List Bool) (i : ℕ) → i < length marks → mark_at marks i ≡ false → made (slice_set marks i true) ≡ made marks + 1
one-made marks i within none =
    let e : made (slice_set marks i true) + one_if (mark_at marks i) ≡ made marks + 1 = sum_by-set one_if marks i true false within in
    let z : one_if (mark_at marks i) ≡ 0 = ap one_if none in
    omega arith

few : (b : Bool) → one_if b ≤ 1
few true = omega arith
few false = omega arith

most-made : (marks : List Bool) → made marks ≤ length marks
most-made [] = omega arith
most-made (b ∷ bs) = (let r = most-made bs in let e = made-cons b bs in let f = few b in omega arith)

-- where as many are made as there are all are
pub all-made : (marks : List Bool) (i : ℕ) → made marks ≡ length marks → i < length marks → mark_at marks i ≡ true
all-made [] i all l = absurd (omega arith)
all-made (b ∷ bs) zero all l = elim (cases_Bool b) [
  | inl own ↦ own
  | inr none ↦ (let e = made-cons b bs in let z : one_if b ≡ 0 = ap one_if none in let r = most-made bs in absurd (omega arith))
]
all-made (b ∷ bs) (suc i) all l = (let e = made-cons b bs in let f = few b in let r = most-made bs in all-made bs i (omega arith) (omega arith))

-- ---- the walk

-- The walk has come to a block after so many turns, and has marked the blocks before.
pub record IsWalking (v : VolumeState) (top : ℕ) (bs : List ChainedBlock) (chain : List ℕ) (marks : List Bool) (next turn : ℕ) : Type 0 where
  pub path : IsPath v top chain next
  pub turns : length chain ≡ turn
  pub counted : made marks ≡ turn
  pub are_marks : AreMarks bs chain marks

-- at first nothing is marked
pub walk-starts : (v : VolumeState) (top : ℕ) (bs : List ChainedBlock) (chain : List ℕ) (marks : List Bool) → chain ≡ [] → marks ≡ replicate (length bs) false → IsWalking v top bs chain marks top 0
walk-starts v top bs chain marks none unmarked =
    let W : List ℕ → List Bool → Type 0 = λ ns ms. IsWalking v top bs ns ms top 0 in
    let start : W [] (replicate (length bs) false) = record {
      path = refl;
      turns = refl;
      counted = none-made (length bs);
      are_marks = record {
        passed = λ i l m. absurd (false≢true (sym (not-marked (length bs) i) ∙ m));
        marked = λ i l a. absurd a;
      };
    } in
    subst (λ (ns : List ℕ). W ns marks) (sym none) (subst (λ (ms : List Bool). W [] ms) (sym unmarked) start)

module _ (k : ℕ) (v : VolumeState) (bs : List ChainedBlock) (top : ℕ) (h : IsChainable k v bs top) (chain : List ℕ) (marks : List Bool) (next turn : ℕ) (many : length marks ≡ length bs)
    (w : IsWalking v top bs chain marks next turn) where
  -- a block of the table is noted, marked and left
  pub walk-goes-on : (at : ℕ) → at < length bs → (index_block_at bs at).number ≡ next → IsWalking v top bs (chain ++ (next ∷ [])) (slice_set marks at true) (index_block_at bs at).next (turn + 1)
  walk-goes-on at within is =
      let t = h.table.there (index_block_at bs at) (among bs at within) in
      let kind : IsKind v 2 next = subst (IsKind v 2) is t.0 in
      let behind : (index_block_at bs at).next ≡ number_at 4 (block_at v next) 8 = t.1 ∙ ap (λ (n : ℕ). number_at 4 (block_at v n) 8) is in
      let new : mark_at marks at ≡ false = elim (cases_Bool (mark_at marks at)) [
        | inl old ↦ absurd (new-block k v bs top h chain next w.path kind (subst (λ (n : ℕ). IsAmong n chain) is (w.are_marks.passed at within old)))
        | inr f ↦ f
      ] in
      let one = one-made marks at (omega arith) new in
      let counted = w.counted in
      let turns = w.turns in
      let long : length (chain ++ (next ∷ [])) ≡ length chain + 1 = length-append chain (next ∷ []) in
      record {
        path = subst (λ (n : ℕ). IsPath v top (chain ++ (next ∷ [])) n) (sym behind) (path-more v top next chain w.path kind);
        turns = omega arith;
        counted = omega arith;
        are_marks = record {
          passed = λ i l m. elim (cases_eq i at) [
            | inl e ↦ subst (λ (n : ℕ). IsAmong n (chain ++ (next ∷ []))) (sym (ap (λ (x : ℕ). (index_block_at bs x).number) e ∙ is)) (among-last chain next)
            | inr ne ↦ among-front (index_block_at bs i).number chain next (w.are_marks.passed i l (sym (get_or-set_other marks at i true false ne) ∙ m))
          ];
          marked = λ i l a. elim (cases_eq i at) [
            | inl e ↦ ap (λ (x : ℕ). mark_at (slice_set marks at true) x) e ∙ get_or-set_same marks at true false (omega arith)
            | inr ne ↦ get_or-set_other marks at i true false ne ∙ elim (among-more (index_block_at bs i).number chain next a) [
              | inl before ↦ w.are_marks.marked i l before
              | inr same ↦ absurd (ne (one-index 0 bs i at h.table.ascend l within (same ∙ sym is)))
            ]
          ];
        };
      }

  -- where no block of the table stands the walk has come to its end
  pub walk-stops : turn ≤ length bs → ((b : ChainedBlock) → IsBlockOf b bs → b.number ≡ next → ⊥) → IsWalked v top bs chain marks
  walk-stops short none = elim (leads k v bs top h chain next w.path) [
    | inl z ↦ (let turns = w.turns in record { path = subst (IsPath v top chain) z w.path; short = omega arith; are_marks = w.are_marks })
    | inr kind ↦ absurd (none (index_block_of v next) (h.table.all next kind) refl)
  ]

  -- and so it has after as many turns as there are blocks
  pub walk-ends : turn ≡ length bs → IsWalked v top bs chain marks
  walk-ends last = elim (leads k v bs top h chain next w.path) [
    | inl z ↦ (let turns = w.turns in record { path = subst (IsPath v top chain) z w.path; short = omega arith; are_marks = w.are_marks })
    | inr kind ↦
        (let i = index-of (index_block_of v next) bs (h.table.all next kind) in
        let l = i.1 in
        let counted = w.counted in
        let m = all-made marks i.0 (omega arith) (omega arith) in
        let on : IsAmong (index_block_at bs i.0).number chain = w.are_marks.passed i.0 i.1 m in
        absurd (new-block k v bs top h chain next w.path kind (subst (λ (b : ChainedBlock). IsAmong b.number chain) i.2 on)))
  ]

-- ---- the chain

-- a path to no block is a chain
path-chain : (k : ℕ) (v : VolumeState) (s : ℕ) (ns : List ℕ) → IsIndexRight k v → IsPath v s ns 0 → IsChain k v s ns
path-chain k v s [] right p = p
path-chain k v s (n ∷ ns) right p =
    let r = right.blocks n p.1 in
    let level = r.level in
    let low : (header_of v.image).height ≤ 1 = elim right.height [ inl z ↦ (let e = z.1 in omega arith) | inr one ↦ (let e = one.1 in omega arith) ] in
    (p.0, record { is = p.1; level = omega arith; count = r.count }, path-chain k v (number_at 4 (block_at v n) 8) ns right p.2)

-- and the chain of the volume from there on, if it may have so many blocks
path-from : (v : VolumeState) (more s : ℕ) (ns : List ℕ) → IsPath v s ns 0 → length ns ≤ more → chain_from v more s ≡ ns
path-from v zero s [] p l = refl
path-from v (suc more) s [] p l = ap (λ (b : Bool). cond b [] (s ∷ chain_from v more (number_at 4 (block_at v s) 8))) (eq-eqb s 0 p)
path-from v zero s (n ∷ ns) p l = absurd (omega arith)
path-from v (suc more) s (n ∷ ns) p l =
    let later = p.1.later in
    let e = p.0 in
    ap (λ (b : Bool). cond b [] (s ∷ chain_from v more (number_at 4 (block_at v s) 8))) (ne_eqb s 0 (λ z. omega arith))
    ∙ ap (λ (x : ℕ). x ∷ chain_from v more (number_at 4 (block_at v x) 8)) p.0
    ∙ ap (λ (xs : List ℕ). n ∷ xs) (path-from v more (number_at 4 (block_at v n) 8) ns p.2 (omega arith))

-- blocks that ascend below a number are fewer
few-blocks : (a c : ℕ) (bs : List ChainedBlock) → BlocksAscend a bs → a < c → ((b : ChainedBlock) → IsBlockOf b bs → b.number < c) → a + length bs < c
few-blocks a c [] h less below = omega arith
few-blocks a c (b ∷ bs) h less below = (let f = h.0 in let r = few-blocks b.number c bs h.1 (below b (inl refl)) (λ x i. below x (inr i)) in omega arith)

module _ (d : Database) (v : VolumeState) (bs : List ChainedBlock) (top : ℕ) (h : IsChainable (root_key_length d.types) v bs top) (of : IsVolumeOf d v) (chain : List ℕ) (marks : List Bool)
    (w : IsWalked v top bs chain marks) where
  -- the chain that was walked is the volume's
  pub walked-chain : chain ≡ entry_blocks v
  walked-chain =
      let header = of.formatted.header in
      let bounds = block_size-bounds d.block_size d.frspc d.types of.fit in
      let size = of.size in
      let some : 0 < v.size = omega arith in
      let counted = below-count v 0 header some header.first in
      let within = header.within in
      let fewer = few-blocks 0 (header_of v.image).count bs h.table.ascend counted (λ b i. below-count v b.number header some (h.table.there b i).0.there) in
      let short = w.short in
      sym (ap (chain_from v (header_of v.image).largest) (sym h.top_is) ∙ path-from v (header_of v.image).largest top chain w.path (omega arith))

  -- where all blocks are marked the index is formed
  pub walked-formed : AreMarkedBefore (length bs) marks → ChainIsFormed (root_key_length d.types) v
  walked-formed all = record {
    height = h.right.height;
    chain = subst (λ (ns : List ℕ). IsChain (root_key_length d.types) v (header_of v.image).top ns) walked-chain
        (subst (λ (s : ℕ). IsChain (root_key_length d.types) v s chain) h.top_is (path-chain (root_key_length d.types) v top chain h.right w.path));
    reached = λ n kind.
        (let i = index-of (index_block_of v n) bs (h.table.all n kind) in
        subst (λ (ns : List ℕ). IsAmong n ns) walked-chain (subst (λ (b : ChainedBlock). IsAmong b.number chain) i.2 (w.are_marks.passed i.0 i.1 (all i.0 i.1))));
  }

  -- the first block with no mark is the least fault
  pub unmarked-least : (i : ℕ) → i < length bs → mark_at marks i ≡ false → AreMarkedBefore i marks → IsLeastOf d v 10 (record { line = UnreachedBlock; address = (index_block_at bs i).number * v.size; other = 0 })
  unmarked-least i within none before =
      let n : ℕ = (index_block_at bs i).number in
      let kind = (h.table.there (index_block_at bs i) (among bs i within)).0 in
      least-late d v 10 (record { line = UnreachedBlock; address = n * v.size; other = 0 }) (omega arith) (λ e. omega arith) refl
      (inl (h.right.version, (n, kind, (λ a. false≢true (sym none ∙ w.are_marks.marked i within (subst (λ (ns : List ℕ). IsAmong n ns) (sym walked-chain) a))), refl, refl)))
      (λ l a o is s.
      (let t = stands-10 d v l a o h.right.version is s in
      let m : ℕ = t.0 in
      let at = t.3 in
      elim (cases_lt m n) [
        | inr high ↦ (let less : n * v.size ≤ m * v.size = mul-le n v.size m v.size high (omega arith) in omega arith)
        | inl low ↦
            (let j = index-of (index_block_of v m) bs (h.table.all m t.1) in
            let own : (index_block_at bs j.0).number ≡ m = ap (λ (b : ChainedBlock). b.number) j.2 in
            let j-within = j.1 in
            let earlier : j.0 < i = elim (cases_lt j.0 i) [
              | inl x ↦ x
              | inr high ↦ elim (cases_eq j.0 i) [
                | inl e ↦ (let same : (index_block_at bs j.0).number ≡ n = ap (λ (x : ℕ). (index_block_at bs x).number) e in absurd (omega arith))
                | inr ne ↦ (let o = in-order 0 bs i j.0 h.table.ascend (omega arith) j-within in absurd (omega arith))
              ]
            ] in
            absurd (t.2 (subst (λ (ns : List ℕ). IsAmong m ns) walked-chain (subst (λ (x : ℕ). IsAmong x chain) own (w.are_marks.passed j.0 j.1 (before j.0 earlier))))))
      ]))
