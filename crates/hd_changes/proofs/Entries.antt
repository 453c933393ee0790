-- The entries of roots where the roots stay, and lists of entries with one more.
use Rattle.std.proofs.Common.{◌≡◌, ◌≢◌, ℕ, List, ◌∷◌, ◌++◌, true, ◌==◌, None, refl, sym, ap, ◌∙◌, inl, inr, ne_eqb}
use Rattle.std.proofs.lemmas.Bool.{and_parts, cases_eq, eq-eqb, cond-true, cond-false}
use Rattle.hd_dbd.specs.Types.{SegmentType}
use Rattle.hd_dbd.specs.Rows.{key_of}
use Rattle.hd_dbd.specs.Forest.{Forest, empty, node}
use Rattle.hd_volume.specs.Entries.{Entry}
use Rattle.hd_volume.specs.Indexes.{keys_ascend}
use Rattle.hd_index_blocks.proofs.Keys.{ascend-parts, ascend-below, ascend-above, address-behind, address-above, with-between, without-between}
use Rattle.hd_links.specs.Links.{Links}
use Rattle.hd_links.specs.Placed.{Placed, with_node, NodesLie}
use Rattle.hd_links.specs.Changes.{change_below, with_children, rewritten, with_bytes, CanReplace}
use Rattle.hd_links.proofs.Forms.{segment_is}
use Rattle.hd_links.proofs.Joins.{join}
use Rattle.hd_image.specs.Holding.{root_entries}
use Rattle.hd_index.specs.Maps.{address_of, with_entry, without_key}
use Rattle.hd_changes.specs.Entered.{entry_of}

-- ---- the roots' entries

-- those of the nodes of two parts
pub entries-join : (types : List SegmentType) (f g : Forest Placed) → root_entries types (join f g) ≡ root_entries types f ++ root_entries types g
entries-join types empty g = refl
entries-join types (node r k n) g = ap (λ (es : List Entry). entry_of types r ∷ es) (entries-join types n g)

-- a change below a row keeps them
below-keeps : (types : List SegmentType) (f : Forest Placed) (h : ℕ) (g : Forest Placed → Forest Placed) → root_entries types (change_below h g f) ≡ root_entries types f
below-keeps types empty h g = refl
below-keeps types (node r k n) h g = elim (cases_eq r.address h) [
  | inl e ↦ ap (root_entries types) (cond-true (r.address == h) (node r (g k) n) (node r (change_below h g k) (change_below h g n)) (eq-eqb r.address h e))
  | inr ne ↦ ap (root_entries types) (cond-false (r.address == h) (node r (g k) n) (node r (change_below h g k) (change_below h g n)) (ne_eqb r.address h ne))
      ∙ ap (λ (es : List Entry). entry_of types r ∷ es) (below-keeps types n h g)
]

pub children-keep : (types : List SegmentType) (f : Forest Placed) (h : ℕ) (g : Forest Placed → Forest Placed) → h ≢ 0 → root_entries types (with_children h g f) ≡ root_entries types f
children-keep types f h g some = ap (root_entries types) (cond-false (h == 0) (g f) (change_below h g f) (ne_eqb h 0 some)) ∙ below-keeps types f h g

-- and so do bytes with the same key
pub bytes-keep : (types : List SegmentType) (m : Links) (b : ℕ → ℕ) (f : Forest Placed) (a : ℕ) (bytes : List ℕ) → NodesLie types m b f → CanReplace types m a bytes
    → root_entries types (with_bytes a bytes f) ≡ root_entries types f
bytes-keep types m b empty a bytes s C = refl
bytes-keep types m b (node p k n) a bytes s C =
    let rest : root_entries types (with_bytes a bytes n) ≡ root_entries types n = bytes-keep types m (with_node b p) n a bytes s.2 C in
    let own : entry_of types (rewritten a bytes p) ≡ entry_of types p = elim (cases_eq p.address a) [
      | inl e ↦
          (let new : Placed = record { address = p.address; segment = record { code = p.segment.code; bytes = bytes } } in
          let code : p.segment.code ≡ m.code a = sym s.0.code ∙ ap m.code e in
          let key : key_of types new.segment ≡ key_of types p.segment =
          ap (λ (c : ℕ). key_of types (record { code = c; bytes = bytes })) code ∙ C.key
          ∙ ap (λ (x : ℕ). key_of types (record { code = m.code x; bytes = m.bytes x })) (sym e) ∙ ap (key_of types) (segment_is types m b p k n s.0) in
          ap (entry_of types) (cond-true (p.address == a) new p (eq-eqb p.address a e)) ∙ (λ i. record { key = key i; address = p.address }))
      | inr ne ↦ ap (entry_of types) (cond-false (p.address == a) (record { address = p.address; segment = record { code = p.segment.code; bytes = bytes } }) p (ne_eqb p.address a ne))
    ] in
    (λ i. own i ∷ rest i)

-- ---- an entry among others

-- without it its key is new
pub key-new : (e : Entry) (xs ys : List Entry) → keys_ascend (xs ++ e ∷ ys) ≡ true → address_of e.key (xs ++ ys) ≡ None
key-new e xs ys up =
    address-behind e.key xs ys (ascend-below xs e ys up) ∙ address-above e.key ys (ascend-above xs e ys up) (and_parts _ _ (ascend-parts xs (e ∷ ys) up).1).1

-- it goes in where it stands
pub put-middle : (e : Entry) (xs ys : List Entry) → keys_ascend (xs ++ e ∷ ys) ≡ true → with_entry e (xs ++ ys) ≡ xs ++ e ∷ ys
put-middle e xs ys up = with-between e xs ys (ascend-below xs e ys up) (ascend-above xs e ys up)

-- and its key takes it out
pub out-middle : (e : Entry) (xs ys : List Entry) → keys_ascend (xs ++ e ∷ ys) ≡ true → without_key e.key (xs ++ e ∷ ys) ≡ xs ++ ys
out-middle e xs ys up = without-between e xs ys (ascend-below xs e ys up)
