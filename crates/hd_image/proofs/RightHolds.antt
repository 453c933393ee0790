-- A volume with which nothing is wrong holds a forest.
use Rattle.std.proofs.Common.{◌≡◌, inl, inr, ℕ, ◌<◌, List, [], ◌∷◌, length, Bool, true, None, refl, sym, ap, subst, ◌∙◌, arith}
use Rattle.std.specs.Prelude.{◌==◌, not}
use Rattle.std.specs.List.{list_all, list_any}
use Rattle.std.proofs.lemmas.Bool.{and_parts, or_cases, cases_eq, eqb-true, eq-eqb, false≢true}
use Rattle.std.proofs.lemmas.Slice.Eq.{bytes_eq-Decides}
use Rattle.hd_dbd.specs.Hierarchy.{Database}
use Rattle.hd_dbd.specs.Rows.{key_of}
use Rattle.hd_dbd.specs.Forest.{Forest}
use Rattle.hd_volume.specs.Headers.{HasHeader}
use Rattle.hd_volume.specs.Volumes.{VolumeState, IsFormatted}
use Rattle.hd_volume.specs.Entries.{Entry}
use Rattle.hd_volume.specs.Indexes.{root_key_length, keys_ascend}
use Rattle.hd_index_blocks.specs.IndexSets.{index_entries, HasIndexOf}
use Rattle.hd_index_blocks.proofs.Volumes.{entries-ascend}
use Rattle.hd_index_blocks.proofs.Faultless.{sets-faultless}
use Rattle.hd_links.specs.Links.{Links, IsSegment, IsLinkGraph, segment_at}
use Rattle.hd_links.specs.Placed.{Placed, nowhere, Holds}
use Rattle.hd_links.proofs.Types.{Ordered, ordered}
use Rattle.hd_links.proofs.Forms.{Formed, formed}
use Rattle.hd_links.proofs.Decide.{exists}
use Rattle.hd_image.specs.Records.{links_of, IsVolumeOf}
use Rattle.hd_image.specs.Holding.{root_entries}
use Rattle.hd_image.specs.Laws.{IsDatabase}
use Rattle.hd_image.specs.IndexFaults.{names_a_root}
use Rattle.hd_image.specs.Right.{IndexIsFormed, IndexIsInOrder}
use Rattle.hd_image.specs.Exact.{RightVolumesHoldAForest}
use Rattle.hd_image.proofs.Found.{records-link}
use Rattle.hd_image.proofs.Sorted.{IsIn, same-entries}
use Rattle.hd_image.proofs.RootEntries.{roots-ascend, names-root, each-root}

-- what is true of all entries is true of one
all-in : (p : Entry → Bool) (e : Entry) (xs : List Entry) → list_all p xs ≡ true → IsIn e xs → p e ≡ true
all-in p e [] h i = absurd i
all-in p e (x ∷ xs) h (inl is) = ap p is ∙ (and_parts _ _ h).0
all-in p e (x ∷ xs) h (inr i) = all-in p e xs (and_parts _ _ h).1 i

-- one of the entries names the address
any-in : (a : ℕ) (xs : List Entry) → list_any (λ e. e.address == a) xs ≡ true → (e : Entry) × IsIn e xs × (e.address ≡ a)
any-in a [] h = absurd (false≢true h)
any-in a (x ∷ xs) h = elim (or_cases (x.address == a) (list_any (λ e. e.address == a) xs) h) [
  | inl is ↦ (x, inl refl, eqb-true x.address a is)
  | inr later ↦ (let rest = any-in a xs later in (rest.0, inr rest.1, rest.2))
]

-- an entry is its key and its address
entry-is : (k : List ℕ) (a : ℕ) (e : Entry) → k ≡ e.key → a ≡ e.address → record { key = k; address = a } ≡ e
entry-is k a e key address = (λ i. record { key = key i; address = address i })

module _ (d : Database) (m : Links) where
  -- What an entry that names a root says.
  record Named (e : Entry) : Type 0 where
    there : IsSegment m e.address
    root : m.code e.address ≡ 1
    key : key_of d.types (segment_at m e.address) ≡ e.key

  -- an address that is not 0
  some-address : (a : ℕ) → not (a == 0) ≡ true → 0 < a
  some-address a h = elim (cases_eq a 0) [
    | inl e ↦ absurd (false≢true (sym (ap not (eq-eqb a 0 e)) ∙ h))
    | inr ne ↦ omega arith
  ]

  -- what the test of an entry says
  named : (e : Entry) → names_a_root d m e ≡ true → Named e
  named e h =
      let last = and_parts _ _ h in
      let code = and_parts _ _ last.0 in
      let both = and_parts _ _ code.0 in
      record {
        there = record { some = some-address e.address both.0; here = both.1 };
        root = eqb-true (m.code e.address) 1 code.1;
        key = (bytes_eq-Decides _ _).0 last.1;
      }

  -- the entries are those of the roots
  entries-of-roots : (bound : ℕ) (f : Forest Placed) (es : List Entry) → IsDatabase d → IsLinkGraph d.types bound m → Holds d.types m f → keys_ascend es ≡ true
      → list_all (λ e. names_a_root d m e) es ≡ true → ((a : ℕ) → IsSegment m a → m.code a ≡ 1 → list_any (λ e. e.address == a) es ≡ true) → es ≡ root_entries d.types f
  entries-of-roots bound f es fit G H ascend name each =
      let O : Ordered d.types = ordered d.block_size d.frspc d.types fit in
      let shape : Formed d.types 0 f = formed d.types O 0 None f H.fits in
      same-entries es (root_entries d.types f) ascend (roots-ascend d.block_size d.frspc d.types O bound m G fit nowhere f H.lies.nodes shape)
      (λ e i.
      let n = named e (all-in (λ x. names_a_root d m x) e es name i) in
      let once = H.once e.address n.there in
      let entry = each-root d.block_size d.frspc d.types O bound m G fit e.address nowhere f H.lies.nodes shape (omega arith) n.root in
      subst (λ (x : Entry). IsIn x (root_entries d.types f)) (entry-is _ e.address e n.key refl) entry)
      (λ r i.
      let root = names-root d.block_size d.frspc d.types O bound m G fit nowhere f r H.lies.nodes shape i in
      let found = any-in r.address es (each r.address root.0 root.1) in
      let n = named found.0 (all-in (λ x. names_a_root d m x) found.0 es name found.1) in
      let key : found.0.key ≡ r.key = sym n.key ∙ ap (λ (a : ℕ). key_of d.types (segment_at m a)) found.2 ∙ root.2 in
      subst (λ (x : Entry). IsIn x es) (entry-is found.0.key found.0.address r key found.2) found.1)

-- an index that is formed and in order is one of its version
index-is : (d : Database) (v : VolumeState) (k : ℕ) → IsFormatted v → IndexIsFormed k v → IndexIsInOrder k v → HasIndexOf k v
index-is d v k formatted (inl f) (inl o) = inl (record { formatted = formatted; version = f.0; height = f.1.height; chain = f.1.chain; reached = f.1.reached; ascend = o.1 })
index-is d v k formatted (inl f) (inr o) = absurd (o.0 f.0)
index-is d v k formatted (inr f) (inl o) = absurd (f.0 o.0)
index-is d v k formatted (inr f) (inr o) = inr ((sets-faultless k v).1 (record {
  formatted = formatted;
  version = f.0;
  forms = f.1.forms;
  once = f.1.once;
  reached = f.1.reached;
  next = o.1.next;
  keys = o.1.keys;
}))

-- the forest is built from the pointers, and the entries are those of its roots
pub right-holds : RightVolumesHoldAForest
right-holds d v fit r =
    let H : ℕ → Type 0 = λ size. HasHeader size v.image in
    let formatted : IsFormatted v = record { header = subst H (sym r.sized.size) r.blocks.header; divided = r.blocks.divided } in
    let volume : IsVolumeOf d v = record { fit = fit; formatted = formatted; size = r.sized.size; sizes = r.sized.sizes } in
    let m : Links = links_of d.types v in
    let G : IsLinkGraph d.types (length v.image) m = records-link d v fit volume in
    let index = index-is d v (root_key_length d.types) formatted r.index r.entries.order in
    let E = exists d.types (ordered d.block_size d.frspc d.types fit) (length v.image) m G r.pointers in (
      E.0,
      record {
        volume = volume;
        version = r.blocks.known.version_is;
        name = r.blocks.known.name_is;
        block_size = r.blocks.known.size_is;
        records = E.1;
        index = index;
        entries = entries-of-roots d m (length v.image) E.0 (index_entries (root_key_length d.types) v) fit G E.1 (entries-ascend (root_key_length d.types) v index) r.entries.name r.entries.each;
        kinds = r.blocks.kinds;
      },
    )
