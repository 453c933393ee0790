-- The entries of roots where a root comes or goes.
use Rattle.std.proofs.Common.{◌≡◌, ℕ, ◌+◌, ◌<◌, List, ◌∷◌, ◌++◌, true, ◌==◌, None, IsTrue, refl, sym, ap, subst, ◌∙◌, arith, inl, inr, ne_eqb}
use Rattle.std.proofs.lemmas.Bool.{eq-eqb, cond-true, cond-false}
use Rattle.hd_dbd.specs.declared.hierarchy.FreeSpace.{FreeSpace}
use Rattle.hd_dbd.specs.Types.{SegmentType}
use Rattle.hd_dbd.specs.DatabaseRules.{well_formed}
use Rattle.hd_dbd.specs.Rows.{key_of}
use Rattle.hd_dbd.specs.Forest.{Forest, empty, node}
use Rattle.hd_volume.specs.Entries.{Entry}
use Rattle.hd_volume.specs.Indexes.{keys_ascend}
use Rattle.hd_links.specs.Links.{Links, IsSegment, IsLinkGraph, segment_at, is_child_type}
use Rattle.hd_links.specs.Placed.{Placed, nowhere, first_of, NodesLie, Holds}
use Rattle.hd_links.specs.Pointers.{IsInChain, IsTwinAfter}
use Rattle.hd_links.specs.Changes.{Agree, linked, put_first, put_behind, with_leaf, without_span, CanLink, CanUnlink}
use Rattle.hd_links.proofs.Types.{Ordered, ordered}
use Rattle.hd_links.proofs.Forms.{formed, segment_is}
use Rattle.hd_links.proofs.Build.{zero_or}
use Rattle.hd_links.proofs.Joins.{join, IsOne, first_one, stands_right}
use Rattle.hd_links.proofs.Lift.{at_most_once}
use Rattle.hd_links.proofs.Places.{chain_one, one_there, FirstPlace, first_place, TwinPlace, twin_place}
use Rattle.hd_links.proofs.Gaps.{next_one, OutPlace, out_place}
use Rattle.hd_links.proofs.Linking.{leaf_held}
use Rattle.hd_image.specs.Holding.{root_entries}
use Rattle.hd_image.proofs.RootEntries.{roots-ascend}
use Rattle.hd_index.specs.Maps.{address_of, with_entry, without_key}
use Rattle.hd_changes.specs.Entered.{entry_of}
use Rattle.hd_changes.specs.Laws.{LinkingEntersRoots, UnlinkingRemovesRoots}
use Rattle.hd_changes.proofs.Entries.{entries-join, key-new, put-middle, out-middle}

-- records agree with themselves
agree-self : (types : List SegmentType) (m : Links) → Agree types m m
agree-self types m a = record {
  here = refl;
  code = λ _. refl;
  bytes = λ _. refl;
  delete_byte = λ _. refl;
  forward = λ _. refl;
  backward = λ _ _. refl;
  first_child = λ _ _ _. refl;
  last_child = λ _ _ _ _. refl;
}

-- a higher bound is one too
raised : (types : List SegmentType) (bound more : ℕ) (m : Links) → IsLinkGraph types bound m → IsLinkGraph types (bound + more) m
raised types bound more m G = record {
  header = G.header;
  header_code = G.header_code;
  fits = G.fits;
  below = λ a s. (let low : a < bound = G.below a s in omega arith);
}

module _ (block_size : ℕ) (frspc : FreeSpace) (types : List SegmentType) (bound : ℕ) (m : Links) (f : Forest Placed) (fit : IsTrue (well_formed block_size frspc types))
    (G : IsLinkGraph types bound m) (H : Holds types m f) where
  O : Ordered types
  O = ordered block_size frspc types fit

  -- a root's type is a child type of the header
  of-header : (t : ℕ) → is_child_type types (m.code 0) t ≡ true → is_child_type types 0 t ≡ true
  of-header t typed = ap (λ (c : ℕ). is_child_type types c t) (sym G.header_code) ∙ typed

  -- a root in the chain of roots
  root-one : (y t : ℕ) → is_child_type types (m.code 0) t ≡ true → IsInChain m (m.first_child 0 t) y → IsOne t y f
  root-one y t typed c = chain_one types m t y nowhere f H.lies.nodes c.0 (subst (λ x. IsTwinAfter m c.0 x y) (H.lies.roots.first t (of-header t typed)) c.1)

  -- ---- a root more

  -- the roots before a new one, and those behind
  record NewRoot (y : ℕ) (p : Placed) : Type 0 where
    front : Forest Placed
    rest : Forest Placed
    is : f ≡ join front rest
    new : with_leaf 0 y p f ≡ join front (node p empty rest)

  new-root : (y : ℕ) (p : Placed) → CanLink types m 0 y p → NewRoot y p
  new-root y p C = elim (zero_or y) [
    | inl e ↦
        (let P : FirstPlace p.segment.code p f = first_place p f in
        record {
          front = P.front;
          rest = P.rest;
          is = P.is;
          new = ap (λ (c : Forest Placed → Forest Placed). c f) (cond-true (y == 0) (put_first p) (put_behind y p) (eq-eqb y 0 e)) ∙ P.new;
        })
    | inr some ↦
        (let one : IsOne p.segment.code y f = root-one y p.segment.code C.typed (C.twin some) in
        let P : TwinPlace m p.segment.code y nowhere p f = twin_place types m p.segment.code y nowhere p f H.lies.nodes (one_there types m p.segment.code y nowhere f H.lies.nodes one).1 one in
        let ne : y ≡ 0 → ⊥ = (λ (e : y ≡ 0). omega arith) in
        record {
          front = P.front;
          rest = P.rest;
          is = P.is;
          new = ap (λ (c : Forest Placed → Forest Placed). c f) (cond-false (y == 0) (put_first p) (put_behind y p) (ne_eqb y 0 ne)) ∙ P.new;
        })
  ]

  -- the keys of the roots ascend with it
  grown-ascend : (y : ℕ) (p : Placed) → CanLink types m 0 y p → keys_ascend (root_entries types (with_leaf 0 y p f)) ≡ true
  grown-ascend y p C =
      let held = leaf_held types O (bound + (p.address + 1)) m (linked m 0 y p) (raised types bound (p.address + 1) m G) f H 0 y p C (omega arith) (agree-self types (linked m 0 y p)) in
      roots-ascend block_size frspc types O (bound + (p.address + 1)) (linked m 0 y p) held.0 fit nowhere (with_leaf 0 y p f) held.1.lies.nodes
      (formed types O 0 None (with_leaf 0 y p f) held.1.fits)

  pub root-enters : (y : ℕ) (p : Placed) → CanLink types m 0 y p
      → (address_of (key_of types p.segment) (root_entries types f) ≡ None)
      × (root_entries types (with_leaf 0 y p f) ≡ with_entry (entry_of types p) (root_entries types f))
  root-enters y p C =
      let P : NewRoot y p = new-root y p C in
      let e : Entry = entry_of types p in
      let xs : List Entry = root_entries types P.front in
      let ys : List Entry = root_entries types P.rest in
      let before : root_entries types f ≡ xs ++ ys = ap (root_entries types) P.is ∙ entries-join types P.front P.rest in
      let after : root_entries types (with_leaf 0 y p f) ≡ xs ++ e ∷ ys = ap (root_entries types) P.new ∙ entries-join types P.front (node p empty P.rest) in
      let up : keys_ascend (xs ++ e ∷ ys) ≡ true = ap keys_ascend (sym after) ∙ grown-ascend y p C in (
        ap (address_of e.key) before ∙ key-new e xs ys up,
        after ∙ sym (put-middle e xs ys up) ∙ ap (with_entry e) (sym before),
      )

  -- ---- a root less

  -- a root that may be unlinked is one of the roots
  gone-one : (y a : ℕ) → CanUnlink types m 0 y a → IsOne (m.code a) a f
  gone-one y a C = elim (zero_or y) [
    | inl e ↦
        (let first : m.first_child 0 (m.code a) ≡ a = sym (cond-true (y == 0) (m.first_child 0 (m.code a)) (m.forward y) (eq-eqb y 0 e)) ∙ C.here in
        let is : first_of f (m.code a) ≡ a = sym (H.lies.roots.first (m.code a) (of-header (m.code a) C.typed)) ∙ first in
        subst (λ x. IsOne (m.code a) x f) is (first_one f (m.code a) (subst (λ x. 0 < x) (sym is) C.some)))
    | inr some ↦
        (let next : m.forward y ≡ a = sym (cond-false (y == 0) (m.first_child 0 (m.code a)) (m.forward y) (ne_eqb y 0 (λ (e : y ≡ 0). omega arith))) ∙ C.here in
        subst (λ x. IsOne (m.code a) x f) next
        (next_one types m (m.code a) y nowhere f H.lies.nodes (root-one y (m.code a) C.typed (C.twin some)) (subst (λ x. 0 < x) (sym next) C.some)))
  ]

  pub gone-there : (y a : ℕ) → CanUnlink types m 0 y a → IsSegment m a
  gone-there y a C = (one_there types m (m.code a) a nowhere f H.lies.nodes (gone-one y a C)).0

  pub root-leaves : (y a : ℕ) → CanUnlink types m 0 y a → root_entries types (without_span 0 a f) ≡ without_key (key_of types (segment_at m a)) (root_entries types f)
  root-leaves y a C =
      let P : OutPlace (m.code a) a f = out_place (m.code a) a f (gone-one y a C) (at_most_once types m f H a) in
      let e : Entry = entry_of types P.row in
      let xs : List Entry = root_entries types P.front in
      let ys : List Entry = root_entries types P.rest in
      let before : root_entries types f ≡ xs ++ e ∷ ys = ap (root_entries types) P.is ∙ entries-join types P.front (node P.row P.gone P.rest) in
      let after : root_entries types (without_span 0 a f) ≡ xs ++ ys = ap (root_entries types) P.out ∙ entries-join types P.front P.rest in
      let up : keys_ascend (xs ++ e ∷ ys) ≡ true
      = ap keys_ascend (sym before) ∙ roots-ascend block_size frspc types O bound m G fit nowhere f H.lies.nodes (formed types O 0 None f H.fits) in
      let stand = stands_right types m nowhere P.front (node P.row P.gone P.rest) (subst (NodesLie types m nowhere) P.is H.lies.nodes) in
      let key : key_of types (segment_at m a) ≡ e.key
      = ap (λ (x : ℕ). key_of types (segment_at m x)) (sym P.address) ∙ ap (key_of types) (segment_is types m _ P.row P.gone P.rest stand.0) in
      after ∙ sym (out-middle e xs ys up) ∙ ap (without_key e.key) (sym before) ∙ ap (λ (k : List ℕ). without_key k (root_entries types f)) (sym key)

pub linking-enters : LinkingEntersRoots
linking-enters block_size frspc types bound m f y p fit G H C = root-enters block_size frspc types bound m f fit G H y p C

pub unlinking-removes : UnlinkingRemovesRoots
unlinking-removes block_size frspc types bound m f y a fit G H C = root-leaves block_size frspc types bound m f fit G H y a C
