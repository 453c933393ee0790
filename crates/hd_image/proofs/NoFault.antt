-- In a volume that holds a forest no fault stands.
use Rattle.std.proofs.Common.{◌≡◌, ◌≢◌, inl, inr, ℕ, List, [], ◌∷◌, length, Bool, true, None, refl, sym, ap, subst, ◌∙◌, arith, ne_eqb}
use Rattle.std.specs.Prelude.{◌==◌, not}
use Rattle.std.specs.List.{list_all, list_any}
use Rattle.std.proofs.lemmas.Bool.{and_from, eq-eqb, or_left, or_right, false≢true}
use Rattle.std.proofs.lemmas.Slice.Eq.{bytes_eq-Decides}
use Rattle.hd_dbd.specs.Hierarchy.{Database}
use Rattle.hd_dbd.specs.Rows.{key_of}
use Rattle.hd_dbd.specs.Forest.{Forest}
use Rattle.hd_volume.specs.Headers.{header_of, HasHeader}
use Rattle.hd_volume.specs.Volumes.{VolumeState}
use Rattle.hd_volume.specs.Entries.{Entry}
use Rattle.hd_volume.specs.Indexes.{root_key_length, HasIndex}
use Rattle.hd_index_blocks.specs.IndexSets.{sequence_blocks, index_entries}
use Rattle.hd_index_blocks.specs.LevelFaults.{HasNoFault}
use Rattle.hd_index_blocks.proofs.RowFaults.{faults-all}
use Rattle.hd_index_blocks.proofs.Versions.{chain-of, set-of}
use Rattle.hd_links.specs.Links.{Links, IsLinkGraph, segment_at}
use Rattle.hd_links.specs.Placed.{Placed, nowhere}
use Rattle.hd_links.specs.Pointers.{AreLinked}
use Rattle.hd_links.proofs.Types.{Ordered, ordered}
use Rattle.hd_links.proofs.Forms.{Formed, formed}
use Rattle.hd_links.proofs.Sound.{are_linked}
use Rattle.hd_image.specs.Records.{links_of}
use Rattle.hd_image.specs.Holding.{root_entries, HoldsPlaced}
use Rattle.hd_image.specs.Laws.{IsDatabase}
use Rattle.hd_image.specs.BlockFaults.{IsNoVolume, IsOfNoVersion, IsOfAnother, IsOfNoKind}
use Rattle.hd_image.specs.IndexFaults.{names_a_root, HasWrongEntry, HasNoEntry}
use Rattle.hd_image.specs.Standing.{Stands}
use Rattle.hd_image.specs.declared.line.Line.{Line}
use Rattle.hd_image.specs.declared.line.Line.TheVariants.{NoVolume, NoVersion, AnotherDatabase, WrongChain, WrongPlace, NoKind, Deleted, NamesNothing, NamesAnother, TwoPredecessors, NoPredecessor, WrongBackward, WrongLast, OutOfOrder, NotReached, WrongTop, WrongForm, NamedTwice, UnreachedBlock, WrongNext, EntryOutOfOrder, WrongEntry, NoEntry}
use Rattle.hd_image.specs.Exact.{HeldForestsHaveNoFault}
use Rattle.hd_image.proofs.Found.{records-link}
use Rattle.hd_image.proofs.Sorted.{IsIn}
use Rattle.hd_image.proofs.RootEntries.{names-root, each-root}
use Rattle.hd_image.proofs.BlockNoFault.{none-wrong-chain, none-wrong-place}
use Rattle.hd_image.proofs.PointerNoFault as pointer
use Rattle.hd_image.proofs.IndexNoFault as index

-- what is true of each of some entries is true of all
all-of-each : (test : Entry → Bool) (es : List Entry) → ((e : Entry) → IsIn e es → test e ≡ true) → list_all test es ≡ true
all-of-each test [] h = refl
all-of-each test (e ∷ es) h = and_from _ _ (h e (inl refl)) (all-of-each test es (λ x i. h x (inr i)))

-- one of the entries has its address
any-of : (a : ℕ) (e : Entry) (es : List Entry) → e.address ≡ a → IsIn e es → list_any (λ x. x.address == a) es ≡ true
any-of a e [] at i = absurd i
any-of a e (x ∷ xs) at (inl is) = or_left _ _ (eq-eqb x.address a (sym (ap (λ (y : Entry). y.address) is) ∙ at))
any-of a e (x ∷ xs) at (inr i) = or_right _ _ (any-of a e xs at i)

module _ (d : Database) (v : VolumeState) (f : Forest Placed) (fit : IsDatabase d) (h : HoldsPlaced d v f) where
  abbrev m : Links
  m = links_of d.types v

  -- the records are a link graph
  graph : IsLinkGraph d.types (length v.image) m
  graph = records-link d v fit h.volume

  -- the types are in order
  order : Ordered d.types
  order = ordered d.block_size d.frspc d.types fit

  -- the records are linked
  linked : AreLinked d.types m
  linked = are_linked d.types order (length v.image) m graph f h.records

  -- the forest has the shape of the database
  shape : Formed d.types 0 f
  shape = formed d.types order 0 None f h.records.fits

  -- there is a header
  none-header : (a x : ℕ) → IsNoVolume d v a x → ⊥
  none-header a x n = n.0 (subst (λ (size : ℕ). HasHeader size v.image) h.volume.size h.volume.formatted.header)

  -- it is of the database
  none-other : (a x : ℕ) → IsOfAnother d v a x → ⊥
  none-other a x n = elim n.0 [ inl e ↦ e h.name | inr e ↦ e h.block_size ]

  -- each block has a kind
  none-kind : (a x : ℕ) → IsOfNoKind v a x → ⊥
  none-kind a x n = elim (h.kinds n.0 n.1 n.2) [
    | inl k ↦ n.3 k.kind_is
    | inr (inl k) ↦ n.4 k.kind_is
    | inr (inr k) ↦ n.5 k.kind_is
  ]

  -- the entries are those of the roots
  own-entries : index_entries (root_key_length d.types) v ≡ root_entries d.types f
  own-entries = h.entries

  -- each entry names a root of its key
  names-all : list_all (λ e. names_a_root d m e) (index_entries (root_key_length d.types) v) ≡ true
  names-all = ap (list_all (λ e. names_a_root d m e)) own-entries ∙ all-of-each (λ e. names_a_root d m e) (root_entries d.types f)
      (λ e i.
      let n = names-root d.block_size d.frspc d.types order (length v.image) m graph fit nowhere f e h.records.lies.nodes shape i in
      let some : not (e.address == 0) ≡ true = (let s = n.0.some in ap not (ne_eqb e.address 0 (λ z. omega arith))) in
      and_from _ _ (and_from _ _ (and_from _ _ some n.0.here) (eq-eqb (m.code e.address) 1 n.1)) ((bytes_eq-Decides _ _).1 n.2))

  -- no entry names another thing
  none-wrong-entry : (a x : ℕ) → HasWrongEntry d v a x → ⊥
  none-wrong-entry a x w = index.none-found (λ e. names_a_root d m e) (root_key_length d.types) v (sequence_blocks (root_key_length d.types) v) w.0 x names-all w.1 w.2

  -- no root is without an entry
  none-without : (a x : ℕ) → HasNoEntry d v a x → ⊥
  none-without a x n =
      let once = h.records.once a n.0 in
      let entry = each-root d.block_size d.frspc d.types order (length v.image) m graph fit a nowhere f h.records.lies.nodes shape (omega arith) n.1 in
      let found : list_any (λ e. e.address == a) (index_entries (root_key_length d.types) v) ≡ true =
      ap (list_any (λ (e : Entry). e.address == a)) own-entries ∙ any-of a (record { key = key_of d.types (segment_at m a); address = a }) (root_entries d.types f) refl entry in
      false≢true (sym n.2 ∙ found)

  -- its version is known
  none-version : (a x : ℕ) → IsOfNoVersion d v a x → ⊥
  none-version a x n = n.0 h.version

  -- of version 1 the index is a chain
  chain : (header_of v.image).version ≡ 1 → HasIndex (root_key_length d.types) v
  chain one = chain-of (root_key_length d.types) v h.index one

  -- and later an index set, in which no line stands
  faultless : (header_of v.image).version ≢ 1 → HasNoFault (root_key_length d.types) v
  faultless later =
      let i = set-of (root_key_length d.types) v h.index later in
      (faults-all (root_key_length d.types) v i.formatted i.version).0 i

  -- line by line
  none : (line : Line) (a x : ℕ) → Stands d v line a x → ⊥
  none NoVolume a x s = none-header a x s
  none NoVersion a x s = none-version a x s
  none AnotherDatabase a x s = none-other a x s
  none WrongChain a x s = none-wrong-chain v a x h.volume.formatted.divided s
  none WrongPlace a x s = none-wrong-place v a x h.volume.formatted.divided s
  none NoKind a x s = none-kind a x s
  none Deleted a x s = pointer.none-deleted d.types m graph.header_code linked.typed a x s
  none NamesNothing a x s = pointer.none-nowhere d.types m graph.header_code linked.typed a x s
  none NamesAnother a x s = pointer.none-another d.types m graph.header_code linked.typed a x s
  none TwoPredecessors a x s = pointer.none-twice d.types m linked.single a x s
  none NoPredecessor a x s = pointer.none-without d.types m linked.single a x s
  none WrongBackward a x s = pointer.none-backward d.types m linked.back a x s
  none WrongLast a x s = pointer.none-last d.types m linked.back a x s
  none OutOfOrder a x s = pointer.none-order d.types m linked.keys a x s
  none NotReached a x s = pointer.none-unreached d.types m linked.reached a x s
  none WrongTop a x s = elim s [ inl t ↦ index.none-wrong-top (root_key_length d.types) v (chain t.0) a x t.1 | inr t ↦ (faultless t.0).top a x t.1 ]
  none WrongForm a x s = elim s [ inl t ↦ index.none-wrong-form (root_key_length d.types) v (chain t.0) a x t.1 | inr t ↦ (faultless t.0).form a x t.1 ]
  none NamedTwice a x s = elim s [ inl t ↦ index.none-twice (root_key_length d.types) v (chain t.0) a x t.1 | inr t ↦ (faultless t.0).once a x t.1 ]
  none UnreachedBlock a x s = elim s [ inl t ↦ index.none-unreached (root_key_length d.types) v (chain t.0) a x t.1 | inr t ↦ (faultless t.0).reached a x t.1 ]
  none WrongNext a x s = elim s [ inl t ↦ t.1 | inr t ↦ (faultless t.0).next a x t.1 ]
  none EntryOutOfOrder a x s = elim s [ inl t ↦ index.none-out-of-order (root_key_length d.types) v (chain t.0) a x t.1 | inr t ↦ (faultless t.0).order a x t.1 ]
  none WrongEntry a x s = none-wrong-entry a x s
  none NoEntry a x s = none-without a x s

-- of any forest that is held
pub no-fault : HeldForestsHaveNoFault
no-fault d v f line a x fit h s = none d v f fit h line a x s
