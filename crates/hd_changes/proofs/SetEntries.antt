-- The entries of roots where a row got other bytes and may have moved.
use Rattle.std.proofs.Common.{◌≡◌, ◌≢◌, ◌⊎◌, ℕ, List, [], ◌∷◌, true, ◌==◌, refl, sym, ap, ap₂, subst, ◌∙◌, inl, inr, ne_eqb}
use Rattle.std.specs.Prelude.{map, bytes_eq}
use Rattle.std.proofs.lemmas.Bool.{and_parts, eq-eqb, eqb-true, cond-true, cond-false}
use Rattle.std.proofs.lemmas.Slice.Eq.{bytes_eq-Decides}
use Rattle.hd_dbd.specs.Types.{SegmentType}
use Rattle.hd_dbd.specs.Segment.{Segment}
use Rattle.hd_dbd.specs.Hierarchy.{Database}
use Rattle.hd_dbd.specs.Rows.{key_of}
use Rattle.hd_dbd.specs.Paths.{row_at}
use Rattle.hd_dbd.specs.Forest.{Forest, empty, node}
use Rattle.hd_volume.specs.Entries.{Entry}
use Rattle.hd_volume.specs.Indexes.{key_less, keys_ascend}
use Rattle.hd_volume.specs.Volumes.{VolumeState}
use Rattle.hd_index_blocks.proofs.Keys.{less-self, less-other}
use Rattle.hd_links.specs.Links.{segment_at, IsSegment}
use Rattle.hd_links.specs.Placed.{Placed}
use Rattle.hd_links.specs.Moves.{moved_to, with_address}
use Rattle.hd_links.specs.Links.{Links}
use Rattle.hd_links.specs.Changes.{with_bytes, CanReplace}
use Rattle.hd_links.specs.Steps.{rows_of, address_at, RowsHaveAddresses}
use Rattle.hd_links.proofs.Numbers.{rows_addressed}
use Rattle.hd_image.specs.Records.{links_of}
use Rattle.hd_image.specs.Holding.{root_entries, HoldsPlaced}
use Rattle.hd_image.proofs.Sorted.{IsIn, first-less}
use Rattle.hd_index.specs.Maps as map
use Rattle.hd_forest.proofs.RowsSet.{address-same}
use Rattle.hd_changes.proofs.Volumes.{replacing-keeps}
use Rattle.hd_changes.proofs.RootRows.{RowOf, row-of, has-entry, up}

-- an entry whose address is a, once that is b
abbrev pub moved_entry : ℕ → ℕ → Entry → Entry
moved_entry a b e = record { key = e.key; address = moved_to a b e.address }

-- the roots' entries with that address
pub entries-moved : (types : List SegmentType) (a b : ℕ) (f : Forest Placed) → root_entries types (with_address a b f) ≡ map (moved_entry a b) (root_entries types f)
entries-moved types a b empty = refl
entries-moved types a b (node p below behind) =
    ap (λ (es : List Entry). record { key = key_of types p.segment; address = moved_to a b p.address } ∷ es) (entries-moved types a b behind)

-- none has it
none-moved : (a b : ℕ) (es : List Entry) → ((e : Entry) → IsIn e es → e.address ≢ a) → map (moved_entry a b) es ≡ es
none-moved a b [] other = refl
none-moved a b (e ∷ es) other =
    ap₂ (λ (x : ℕ) (xs : List Entry). record { key = e.key; address = x } ∷ xs) (cond-false (e.address == a) b e.address (ne_eqb e.address a (other e (inl refl))))
    (none-moved a b es (λ x i. other x (inr i)))

-- one has it, and its key is no other's
one-moved : (key : List ℕ) (a b : ℕ) (es : List Entry) → keys_ascend es ≡ true → IsIn (record { key = key; address = a }) es
    → ((e : Entry) → IsIn e es → e.address ≡ a → e.key ≡ key) → map (moved_entry a b) es ≡ map.with_address key b es
one-moved key a b [] rise there own = absurd there
one-moved key a b (e ∷ es) rise (inl is) own =
    let here : e.key ≡ key = sym (ap (λ (x : Entry). x.key) is) in
    let at : e.address ≡ a = sym (ap (λ (x : Entry). x.address) is) in
    ap₂ (λ (x : ℕ) (xs : List Entry). record { key = e.key; address = x } ∷ xs) (cond-true (e.address == a) b e.address (eq-eqb e.address a at))
    (none-moved a b es (λ x i q. less-self key (ap₂ key_less (sym here) (sym (own x (inr i) q)) ∙ first-less e es x rise i)))
    ∙ sym (cond-true (bytes_eq e.key key) (record { key = e.key; address = b } ∷ es) (e ∷ map.with_address key b es) ((bytes_eq-Decides e.key key).1 here))
one-moved key a b (e ∷ es) rise (inr i) own =
    let less : key_less e.key key ≡ true = first-less e es (record { key = key; address = a }) rise i in
    ap₂ (λ (x : ℕ) (xs : List Entry). record { key = e.key; address = x } ∷ xs)
    (cond-false (e.address == a) b e.address (ne_eqb e.address a (λ q. less-self key (ap (λ (k : List ℕ). key_less k key) (sym (own e (inl refl) q)) ∙ less))))
    (one-moved key a b es (and_parts _ _ rise).1 i (λ x j q. own x (inr j) q))
    ∙ sym (cond-false (bytes_eq e.key key) (record { key = e.key; address = b } ∷ es) (e ∷ map.with_address key b es) (less-other e.key key less))

-- ---- those of a forest that a volume holds

module _ (d : Database) (v : VolumeState) (f : Forest Placed) (H : HoldsPlaced d v f) (a to : ℕ) where
  abbrev m : Links
  m = links_of d.types v

  A : RowsHaveAddresses (links_of d.types v) f
  A = rows_addressed d.types (links_of d.types v) f H.records

  -- an entry is that of the segment at its address, which is of the first type
  entry-says : (e : Entry) → IsIn e (root_entries d.types f) → (e.key ≡ key_of d.types (segment_at (links_of d.types v) e.address)) × ((links_of d.types v).code e.address ≡ 1)
  entry-says e i =
      let R : RowOf d v f H e = row-of d v f H e i in
      let same : segment_at m e.address ≡ row_at (rows_of f) R.row = ap (segment_at m) (sym R.address) ∙ A.same R.row R.within in
      (sym R.key ∙ ap (key_of d.types) (sym same), ap (λ (s : Segment). s.code) same ∙ eqb-true (row_at (rows_of f) R.row).code 1 R.root)

  -- a row that is no root, or that stays, changes none
  pub entries-stay : ((links_of d.types v).code a ≢ 1) ⊎ (to ≡ a) → map (moved_entry a to) (root_entries d.types f) ≡ root_entries d.types f
  entries-stay (inl other) = none-moved a to (root_entries d.types f) (λ e i q. other (ap m.code (sym q) ∙ (entry-says e i).1))
  entries-stay (inr is) = sym (entries-moved d.types a to f) ∙ ap (λ (x : ℕ). root_entries d.types (with_address a x f)) is ∙ ap (root_entries d.types) (address-same a f)

  -- a root has the new address at its key
  pub entries-set : IsSegment (links_of d.types v) a → (links_of d.types v).code a ≡ 1
      → map (moved_entry a to) (root_entries d.types f) ≡ map.with_address (key_of d.types (segment_at (links_of d.types v) a)) to (root_entries d.types f)
  entries-set there code =
      let R = A.each a there in
      let same : segment_at m a ≡ row_at (rows_of f) R.0 = ap (segment_at m) (sym R.2) ∙ A.same R.0 R.1 in
      let root = eq-eqb (row_at (rows_of f) R.0).code 1 (ap (λ (s : Segment). s.code) (sym same) ∙ code) in
      let in-them : IsIn (record { key = key_of d.types (segment_at m a); address = a }) (root_entries d.types f) =
      subst (λ (x : ℕ). IsIn (record { key = key_of d.types (segment_at m a); address = x }) (root_entries d.types f)) R.2
      (subst (λ (k : List ℕ). IsIn (record { key = k; address = address_at f R.0 }) (root_entries d.types f)) (ap (key_of d.types) (sym same)) (has-entry d v f H R.0 R.1 root)) in
      one-moved (key_of d.types (segment_at m a)) a to (root_entries d.types f) (up d v f H) in-them
      (λ e i q. (entry-says e i).0 ∙ ap (λ (x : ℕ). key_of d.types (segment_at m x)) q)

  -- of the forest with other bytes of the same key as well
  pub entries-with : (bytes : List ℕ) → CanReplace d.types (links_of d.types v) a bytes → root_entries d.types (with_address a to (with_bytes a bytes f)) ≡ map (moved_entry a to) (root_entries d.types f)
  entries-with bytes can =
      entries-moved d.types a to (with_bytes a bytes f) ∙ ap (map (moved_entry a to)) (replacing-keeps d.types (links_of d.types v) f a bytes H.records can)
