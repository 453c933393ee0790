-- What the entries of an index name, block by block.
use Rattle.std.proofs.Common.{◌≡◌, ◌⊎◌, inl, inr, ℕ, zero, suc, ◌+◌, ◌*◌, ◌<◌, ◌≤◌, List, [], ◌∷◌, ◌++◌, length, map, slice_index, Bool, true, Option, Some, None, refl, sym, ap, subst, ◌∙◌, arith}
use Rattle.std.specs.Prelude.{◌==◌, not, find, option_map}
use Rattle.std.specs.List.{list_all, list_any}
use Rattle.std.proofs.lemmas.Bool.{cases_lt, cases_eq, eq-eqb, eqb-true, or_cases, or_left, or_right, and_from, false≢true}
use Rattle.std.proofs.lemmas.Nat.{mul-le}
use Rattle.std.proofs.lemmas.List.{map-append}
use Rattle.std.proofs.lemmas.List.Folds.{list_all-append}
use Rattle.hd_bytes.specs.Numbers.{number_at}
use Rattle.hd_dbd.specs.Hierarchy.{Database}
use Rattle.hd_volume.specs.Volumes.{VolumeState, block_at}
use Rattle.hd_volume.specs.Entries.{Entry, entries_in, entries_of}
use Rattle.hd_index_blocks.specs.IndexSets.{sequence_blocks, index_entries}
use Rattle.hd_volume.specs.Indexes.{root_key_length, IsEntryBlock, IsChain, IsAmong}
use Rattle.hd_image.specs.IndexFaults.{names_a_root}
use Rattle.hd_links.specs.Links.{Links}
use Rattle.hd_image.specs.Records.{links_of}
use Rattle.hd_image.proofs.OneImage.{links-same}
use Rattle.hd_image.specs.declared.line.Line.TheVariants.{WrongEntry}
use Rattle.hd_check_blocks.specs.Phases.{IsLeastOf}
use Rattle.hd_check_index.specs.IndexPhases.{NumbersAscend, IsSequence, AreNamed}
use Rattle.hd_check_index.proofs.UnnamedRoots.{at-among, among-at}
use Rattle.hd_check_index.proofs.EntrySteps.{none-failing}
use Rattle.hd_check_index.proofs.LateLines.{least-late, stands-12}

-- the addresses of some entries
abbrev pub addresses : List Entry → List ℕ
addresses es = map (λ (e : Entry). e.address) es

-- ---- numbers of two lists

among-front : (a : ℕ) (xs ys : List ℕ) → IsAmong a xs → IsAmong a (xs ++ ys)
among-front a [] ys i = absurd i
among-front a (x ∷ xs) ys (inl e) = inl e
among-front a (x ∷ xs) ys (inr i) = inr (among-front a xs ys i)

among-back : (a : ℕ) (xs ys : List ℕ) → IsAmong a ys → IsAmong a (xs ++ ys)
among-back a [] ys i = i
among-back a (x ∷ xs) ys i = inr (among-back a xs ys i)

among-parts : (a : ℕ) (xs ys : List ℕ) → IsAmong a (xs ++ ys) → IsAmong a xs ⊎ IsAmong a ys
among-parts a [] ys i = inr i
among-parts a (x ∷ xs) ys (inl e) = inl (inl e)
among-parts a (x ∷ xs) ys (inr i) = elim (among-parts a xs ys i) [ inl j ↦ inl (inr j) | inr j ↦ inr j ]

-- an entry names an address just where that is among the addresses
any-among : (a : ℕ) (es : List Entry) → list_any (λ e. e.address == a) es ≡ true → IsAmong a (addresses es)
any-among a [] h = absurd (false≢true h)
any-among a (e ∷ es) h = elim (or_cases (e.address == a) (list_any (λ x. x.address == a) es) h) [
  | inl here ↦ inl (sym (eqb-true e.address a here))
  | inr later ↦ inr (any-among a es later)
]

among-any : (a : ℕ) (es : List Entry) → IsAmong a (addresses es) → list_any (λ e. e.address == a) es ≡ true
among-any a [] i = absurd i
among-any a (e ∷ es) (inl same) = or_left (e.address == a) (list_any (λ x. x.address == a) es) (eq-eqb e.address a (sym same))
among-any a (e ∷ es) (inr i) = or_right (e.address == a) (list_any (λ x. x.address == a) es) (among-any a es i)

-- ---- blocks of a chain

-- what the entries of some blocks name those of one of them name
of-blocks : (k : ℕ) (v : VolumeState) (ns : List ℕ) (a : ℕ) → IsAmong a (addresses (entries_of k v ns)) → (n : ℕ) × IsAmong n ns × IsAmong a (addresses (entries_in k (block_at v n)))
of-blocks k v [] a i = absurd i
of-blocks k v (n ∷ ns) a i =
    let parts : addresses (entries_in k (block_at v n) ++ entries_of k v ns) ≡ addresses (entries_in k (block_at v n)) ++ addresses (entries_of k v ns) = map-append (λ (e : Entry). e.address) (entries_in k (block_at v n)) (entries_of k v ns) in
    elim (among-parts a (addresses (entries_in k (block_at v n))) (addresses (entries_of k v ns)) (subst (λ (xs : List ℕ). IsAmong a xs) parts i)) [
      | inl here ↦ (n, inl refl, here)
      | inr later ↦ (let r = of-blocks k v ns a later in (r.0, inr r.1, r.2))
    ]

-- and what those of one name those of all do
in-blocks : (k : ℕ) (v : VolumeState) (ns : List ℕ) (n a : ℕ) → IsAmong n ns → IsAmong a (addresses (entries_in k (block_at v n))) → IsAmong a (addresses (entries_of k v ns))
in-blocks k v [] n a i h = absurd i
in-blocks k v (m ∷ ns) n a i h =
    let parts : addresses (entries_in k (block_at v m) ++ entries_of k v ns) ≡ addresses (entries_in k (block_at v m)) ++ addresses (entries_of k v ns) = map-append (λ (e : Entry). e.address) (entries_in k (block_at v m)) (entries_of k v ns) in
    subst (λ (xs : List ℕ). IsAmong a xs) (sym parts) (elim i [
      | inl same ↦ among-front a (addresses (entries_in k (block_at v m))) (addresses (entries_of k v ns)) (subst (λ (x : ℕ). IsAmong a (addresses (entries_in k (block_at v x)))) same h)
      | inr j ↦ among-back a (addresses (entries_in k (block_at v m))) (addresses (entries_of k v ns)) (in-blocks k v ns n a j h)
    ])

-- what holds of the entries of each block holds of all
all-blocks : (test : Entry → Bool) (k : ℕ) (v : VolumeState) (ns : List ℕ) → ((n : ℕ) → IsAmong n ns → list_all test (entries_in k (block_at v n)) ≡ true) → list_all test (entries_of k v ns) ≡ true
all-blocks test k v [] h = refl
all-blocks test k v (n ∷ ns) h =
    list_all-append test (entries_in k (block_at v n)) (entries_of k v ns)
    ∙ and_from (list_all test (entries_in k (block_at v n))) (list_all test (entries_of k v ns)) (h n (inl refl)) (all-blocks test k v ns (λ m i. h m (inr i)))

-- the blocks of a chain bear entries
pub chain-block : (k : ℕ) (v : VolumeState) (s : ℕ) (ns : List ℕ) (n : ℕ) → IsChain k v s ns → IsAmong n ns → IsEntryBlock k v n
chain-block k v s [] n h i = absurd i
chain-block k v s (m ∷ ns) n h (inl e) = subst (IsEntryBlock k v) (sym e) h.1
chain-block k v s (m ∷ ns) n h (inr i) = chain-block k v (number_at 4 (block_at v m) 8) ns n h.2 i

-- ---- the blocks that bear the entries

-- These are what the entries of the first of some blocks name.
pub record AreNamedBefore (k : ℕ) (v : VolumeState) (bs : List ℕ) (i : ℕ) (named : List ℕ) : Type 0 where
  pub there : (a : ℕ) → IsAmong a named → (j : ℕ) × (j < i) × IsAmong a (addresses (entries_in k (block_at v (slice_index bs j))))
  pub all : (j a : ℕ) → j < i → IsAmong a (addresses (entries_in k (block_at v (slice_index bs j)))) → IsAmong a named

-- at first nothing is named
pub none-named : (k : ℕ) (v : VolumeState) (bs : List ℕ) (named : List ℕ) → named ≡ [] → AreNamedBefore k v bs 0 named
none-named k v bs named none = record {
  there = λ a i. absurd (subst (λ (ns : List ℕ). IsAmong a ns) none i);
  all = λ j a less i. absurd (omega arith);
}

-- then what the entries of one block more name
pub named-more : (k : ℕ) (v : VolumeState) (bs : List ℕ) (i : ℕ) (named more : List ℕ) → AreNamedBefore k v bs i named
    → more ≡ named ++ addresses (entries_in k (block_at v (slice_index bs i))) → AreNamedBefore k v bs (i + 1) more
named-more k v bs i named more h is = record {
  there = λ a x. elim (among-parts a named (addresses (entries_in k (block_at v (slice_index bs i)))) (subst (λ (ns : List ℕ). IsAmong a ns) is x)) [
    | inl before ↦ (let r = h.there a before in let l = r.1 in (r.0, omega arith, r.2))
    | inr own ↦ (i, omega arith, own)
  ];
  all = λ j a less x. subst (λ (ns : List ℕ). IsAmong a ns) (sym is) (elim (cases_lt j i) [
    | inl low ↦ among-front a named (addresses (entries_in k (block_at v (slice_index bs i)))) (h.all j a low x)
    | inr high ↦
        (let e : j ≡ i = omega arith in
        among-back a named (addresses (entries_in k (block_at v (slice_index bs i)))) (subst (λ (y : ℕ). IsAmong a (addresses (entries_in k (block_at v (slice_index bs y))))) e x))
  ]);
}

-- an earlier number is less than a later one
pub above-at : (a : ℕ) (ns : List ℕ) (j : ℕ) → NumbersAscend a ns → j < length ns → a < slice_index ns j
above-at a [] j h l = absurd (omega arith)
above-at a (n ∷ ns) zero h l = h.0
above-at a (n ∷ ns) (suc j) h l = (let r = above-at n ns j h.1 (omega arith) in let f = h.0 in omega arith)

pub in-order : (a : ℕ) (ns : List ℕ) (i j : ℕ) → NumbersAscend a ns → i < j → j < length ns → slice_index ns i < slice_index ns j
in-order a [] i j h less l = absurd (omega arith)
in-order a (n ∷ ns) zero zero h less l = absurd (omega arith)
in-order a (n ∷ ns) zero (suc j) h less l = above-at n ns j h.1 (omega arith)
in-order a (n ∷ ns) (suc i) zero h less l = absurd (omega arith)
in-order a (n ∷ ns) (suc i) (suc j) h less l = in-order n ns i j h.1 (omega arith) (omega arith)

-- where all entries pass a test no first one fails it
pub nothing-found : (test : Entry → Bool) (es : List Entry) (x : ℕ) → list_all test es ≡ true → option_map (λ (e : Entry). e.address) (find (λ e. not (test e)) es) ≡ Some x → ⊥
nothing-found test es x right some = (let e : None ≡ Some x = ap (λ (q : Option Entry). option_map (λ (y : Entry). y.address) q) (sym (none-failing test es right)) ∙ some in cc)

module _ (d : Database) (v : VolumeState) (bs : List ℕ) (h : IsSequence (root_key_length d.types) v bs) where
  -- a block of the table is one that bears entries of the index
  pub table-chain : (j : ℕ) → j < length bs → IsAmong (slice_index bs j) (sequence_blocks (root_key_length d.types) v)
  table-chain j l = h.there (slice_index bs j) (at-among bs (slice_index bs j) j l refl)

  pub table-entries : (j : ℕ) → j < length bs → IsEntryBlock (root_key_length d.types) v (slice_index bs j)
  table-entries j l = h.bear (slice_index bs j) (at-among bs (slice_index bs j) j l refl)

  -- and each such block is one of the table
  pub chain-table : (n : ℕ) → IsAmong n (sequence_blocks (root_key_length d.types) v) → (j : ℕ) × (j < length bs) × (slice_index bs j ≡ n)
  chain-table n i = among-at bs n (h.all n i)

  -- what holds of the entries of all blocks of the table holds of all entries
  pub table-all : (test : Entry → Bool) → ((j : ℕ) → j < length bs → list_all test (entries_in (root_key_length d.types) (block_at v (slice_index bs j))) ≡ true)
      → list_all test (index_entries (root_key_length d.types) v) ≡ true
  table-all test all = all-blocks test (root_key_length d.types) v (sequence_blocks (root_key_length d.types) v)
      (λ n i. (let r = chain-table n i in subst (λ (m : ℕ). list_all test (entries_in (root_key_length d.types) (block_at v m)) ≡ true) r.2 (all r.0 r.1)))

  -- what those of all blocks name is what the entries name
  pub table-named : (named : List ℕ) (i : ℕ) → i ≡ length bs → AreNamedBefore (root_key_length d.types) v bs i named → AreNamed (root_key_length d.types) v named
  table-named named i last n = record {
    there = λ a x.
        (let r = n.there a x in
        let l = r.1 in
        among-any a (index_entries (root_key_length d.types) v) (in-blocks (root_key_length d.types) v (sequence_blocks (root_key_length d.types) v) (slice_index bs r.0) a (table-chain r.0 (omega arith)) r.2));
    all = λ a some.
        (let r = of-blocks (root_key_length d.types) v (sequence_blocks (root_key_length d.types) v) a (any-among a (index_entries (root_key_length d.types) v) some) in
        let t = chain-table r.0 r.1 in
        let l = t.1 in
        n.all t.0 a (omega arith) (subst (λ (m : ℕ). IsAmong a (addresses (entries_in (root_key_length d.types) (block_at v m)))) (sym t.2) r.2));
  }

  -- the first block with a wrong entry has the least fault
  pub entry-least : (i address : ℕ) → i < length bs
      → ((j : ℕ) → j < i → list_all (λ e. names_a_root d (links_of d.types v) e) (entries_in (root_key_length d.types) (block_at v (slice_index bs j))) ≡ true)
      → option_map (λ e. e.address) (find (λ e. not (names_a_root d (links_of d.types v) e)) (entries_in (root_key_length d.types) (block_at v (slice_index bs i)))) ≡ Some address
      → IsLeastOf d v 12 (record { line = WrongEntry; address = slice_index bs i * v.size; other = address })
  entry-least i address within before wrong =
      let n : ℕ = slice_index bs i in
      least-late d v 12 (record { line = WrongEntry; address = n * v.size; other = address }) (omega arith) (λ e. omega arith) refl
      (n, table-chain i within, wrong, refl)
      (λ l a o is s.
      (let t = stands-12 d v l a o is s in
      let m : ℕ = t.0 in
      let at = t.3 in
      elim (cases_lt m n) [
        | inr high ↦ (let less : n * v.size ≤ m * v.size = mul-le n v.size m v.size high (omega arith) in omega arith)
        | inl low ↦
            (let j = chain-table m t.1 in
            let own = j.2 in
            let j-within = j.1 in
            let earlier : j.0 < i = elim (cases_lt j.0 i) [
              | inl x ↦ x
              | inr high ↦ elim (cases_eq j.0 i) [
                | inl e ↦ (let same : slice_index bs j.0 ≡ n = ap (λ (x : ℕ). slice_index bs x) e in absurd (omega arith))
                | inr ne ↦ (let r = in-order 0 bs i j.0 h.ascend (omega arith) j-within in absurd (omega arith))
              ]
            ] in
            let right = subst (λ (x : ℕ). list_all (λ (e : Entry). names_a_root d (links_of d.types v) e) (entries_in (root_key_length d.types) (block_at v x)) ≡ true) own (before j.0 earlier) in
            absurd (nothing-found (λ (e : Entry). names_a_root d (links_of d.types v) e) (entries_in (root_key_length d.types) (block_at v m)) o right t.2))
      ]))

-- ---- one image

module _ (d : Database) (v w : VolumeState) (k n : ℕ) (image : w.image ≡ v.image) (size : w.size ≡ v.size) (sizes : w.sizes ≡ v.sizes) where
  same : block_at w n ≡ block_at v n
  same = rw (size, image) refl

  -- what all entries of a block name they name in the same image
  pub all-same : list_all (λ e. names_a_root d (links_of d.types w) e) (entries_in k (block_at w n)) ≡ true → list_all (λ e. names_a_root d (links_of d.types v) e) (entries_in k (block_at v n)) ≡ true
  all-same h =
      subst (λ (b : List ℕ). list_all (λ e. names_a_root d (links_of d.types v) e) (entries_in k b) ≡ true) same
      (subst (λ (m : Links). list_all (λ e. names_a_root d m e) (entries_in k (block_at w n)) ≡ true) (links-same d.types v w image size sizes) h)

  -- and so is the first that names no root
  pub found-same : (a : ℕ) → option_map (λ e. e.address) (find (λ e. not (names_a_root d (links_of d.types w) e)) (entries_in k (block_at w n))) ≡ Some a
      → option_map (λ e. e.address) (find (λ e. not (names_a_root d (links_of d.types v) e)) (entries_in k (block_at v n))) ≡ Some a
  found-same a h =
      subst (λ (b : List ℕ). option_map (λ (e : Entry). e.address) (find (λ e. not (names_a_root d (links_of d.types v) e)) (entries_in k b)) ≡ Some a) same
      (subst (λ (m : Links). option_map (λ (e : Entry). e.address) (find (λ e. not (names_a_root d m e)) (entries_in k (block_at w n))) ≡ Some a) (links-same d.types v w image size sizes) h)

  -- and so are the addresses
  pub addresses-same : (old new : List ℕ) → new ≡ old ++ map (λ e. e.address) (entries_in k (block_at w n)) → new ≡ old ++ addresses (entries_in k (block_at v n))
  addresses-same old new h = subst (λ (b : List ℕ). new ≡ old ++ addresses (entries_in k b)) same h
