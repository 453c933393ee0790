-- The entries that the roots of a held forest want.
use Rattle.std.proofs.Common.{◌≡◌, inl, inr, ℕ, ◌<◌, List, true, false, Option, Some, None, IsTrue, refl, sym, ap, subst, ◌∙◌, arith}
use Rattle.std.specs.Option.{option_map_or}
use Rattle.std.proofs.lemmas.Bool.{and_parts, cases_eq, ne_eqb, false≢true}
use Rattle.hd_dbd.specs.Types.{SegmentType}
use Rattle.hd_dbd.specs.declared.hierarchy.Key.{Key}
use Rattle.hd_dbd.specs.declared.hierarchy.FreeSpace.{FreeSpace}
use Rattle.hd_dbd.specs.Segment.{Segment}
use Rattle.hd_dbd.specs.Hierarchy.{type_of, part_of}
use Rattle.hd_dbd.specs.Rows.{row_fits, key_of, twins_in_order}
use Rattle.hd_dbd.specs.DatabaseRules.{well_formed}
use Rattle.hd_dbd.specs.Forest.{Forest, empty, node}
use Rattle.hd_dbd.proofs.Fitting.{type_of-fits, types_fit}
use Rattle.hd_volume.specs.Entries.{Entry}
use Rattle.hd_volume.specs.Indexes.{key_less, keys_ascend}
use Rattle.hd_links.specs.Links.{Links, IsSegment, IsLinkGraph, is_child_type, segment_at}
use Rattle.hd_links.specs.Placed.{Placed, count, nowhere, with_node, NodesLie, NodeLies}
use Rattle.hd_links.proofs.Types.{Ordered, row_type, code_some}
use Rattle.hd_links.proofs.Counts.{none_at}
use Rattle.hd_links.proofs.Forms.{Formed, follows_key, segment_is}
use Rattle.hd_image.specs.Holding.{root_entries}
use Rattle.hd_image.proofs.Sorted.{IsIn}

-- a child type of the header is the root's
pub root-code : (types : List SegmentType) (c : ℕ) → is_child_type types 0 c ≡ true → c ≡ 1
root-code types c h = elim (cases_eq 1 c) [
  | inl e ↦ sym e
  | inr ne ↦ absurd (false≢true (sym (let e : is_child_type types 0 c ≡ false = rw (ne_eqb 1 c ne) refl in e) ∙ h))
]

-- of two roots in order the first has the lesser key
pub unique-less : (block_size : ℕ) (frspc : FreeSpace) (types : List SegmentType) (p q : Segment) → IsTrue (well_formed block_size frspc types)
    → p.code ≡ 1 → q.code ≡ 1 → row_fits types q ≡ true → twins_in_order types p q ≡ true → key_less (key_of types p) (key_of types q) ≡ true
unique-less block_size frspc types p q fit one two row order = by-type (type_of types 1) refl
  where
    by-key : (t : SegmentType) (o : Option Key) → t.key ≡ o → type_of types 1 ≡ Some t → key_less (key_of types p) (key_of types q) ≡ true
    by-key t None none is =
        let own = (let d = type_of-fits block_size types 1 t (types_fit block_size frspc types fit) is in and_parts _ _ (and_parts _ _ (and_parts _ _ d).0).0) in
        let key : option_map_or (λ k. k.unique) t.key false ≡ true = (and_parts _ _ own.0).1 in
        absurd (false≢true (ap (λ (o : Option Key). option_map_or (λ k. k.unique) o false) (sym none) ∙ key))
    by-key t (Some k) some is =
        let own = (let d = type_of-fits block_size types 1 t (types_fit block_size frspc types fit) is in and_parts _ _ (and_parts _ _ (and_parts _ _ d).0).0) in
        let key : option_map_or (λ k. k.unique) t.key false ≡ true = (and_parts _ _ own.0).1 in
        let unique : k.unique ≡ true = ap (λ (o : Option Key). option_map_or (λ k. k.unique) o false) (sym some) ∙ key in
        let pk : key_of types p ≡ part_of p.bytes k.start k.length = (let e : type_of types p.code ≡ Some t = ap (type_of types) one ∙ is in rw (e, some) refl) in
        let qk : key_of types q ≡ part_of q.bytes k.start k.length = (let e : type_of types q.code ≡ Some t = ap (type_of types) two ∙ is in rw (e, some) refl) in
        let less : key_less (part_of p.bytes k.start k.length) (part_of q.bytes k.start k.length) ≡ true = (let e : type_of types q.code ≡ Some t = ap (type_of types) two ∙ is in rw (e, some, unique) at order) in
        rw (pk, qk) less

    by-type : (o : Option SegmentType) → type_of types 1 ≡ o → key_less (key_of types p) (key_of types q) ≡ true
    by-type None none = absurd (let t = row_type types q row in (let e : None ≡ Some t.0 = sym none ∙ ap (type_of types) (sym two) ∙ t.1 in cc))
    by-type (Some t) is = by-key t t.key refl is

module _ (block_size : ℕ) (frspc : FreeSpace) (types : List SegmentType) (O : Ordered types) (bound : ℕ) (m : Links) (G : IsLinkGraph types bound m) (fit : IsTrue (well_formed block_size frspc types)) where
  -- a node in the records is a row that fits
  row-of : (b : ℕ → ℕ) (p : Placed) (k n : Forest Placed) → NodeLies types m b p k n → row_fits types p.segment ≡ true
  row-of b p k n s = ap (row_fits types) (sym (segment_is types m b p k n s)) ∙ G.fits p.address s.there

  -- the keys of the roots ascend
  pub roots-ascend : (b : ℕ → ℕ) (f : Forest Placed) → NodesLie types m b f → Formed types 0 f → keys_ascend (root_entries types f) ≡ true
  roots-ascend b empty s h = refl
  roots-ascend b (node p k empty) s h = refl
  roots-ascend b (node p k (node q k2 n2)) s h =
      let rest : keys_ascend (root_entries types (node q k2 n2)) ≡ true = roots-ascend (with_node b p) (node q k2 n2) s.2 h.3 in
      let one : p.segment.code ≡ 1 = root-code types p.segment.code h.0 in
      let two : q.segment.code ≡ 1 = root-code types q.segment.code h.3.0 in
      let order = follows_key types p.segment q.segment h.1 (one ∙ sym two) in
      let less : key_less (key_of types p.segment) (key_of types q.segment) ≡ true
      = unique-less block_size frspc types p.segment q.segment fit one two (row-of (with_node b p) q k2 n2 s.2.0) order in
      rw less rest

  -- an entry of the roots names a root of its key
  pub names-root : (b : ℕ → ℕ) (f : Forest Placed) (e : Entry) → NodesLie types m b f → Formed types 0 f → IsIn e (root_entries types f)
      → IsSegment m e.address × (m.code e.address ≡ 1) × (key_of types (segment_at m e.address) ≡ e.key)
  names-root b empty e s h i = absurd i
  names-root b (node p k n) e s h (inl is) =
      let P : Entry → Type 0 = λ x. IsSegment m x.address × (m.code x.address ≡ 1) × (key_of types (segment_at m x.address) ≡ x.key) in
      subst P (sym is) (s.0.there, s.0.code ∙ root-code types p.segment.code h.0, ap (key_of types) (segment_is types m b p k n s.0))
  names-root b (node p k n) e s h (inr i) = names-root (with_node b p) n e s.2 h.3 i

  -- no node below another is a root
  below-root : (a c : ℕ) (b : ℕ → ℕ) (g : Forest Placed) → 0 < c → NodesLie types m b g → Formed types c g → 0 < count a g → 1 < m.code a
  below-root a c b empty l s h n = absurd (omega arith)
  below-root a c b (node p k g) l s h n = elim (cases_eq p.address a) [
    | inl e ↦ (let later = O.later c p.segment.code h.0 in subst (λ (x : ℕ). 1 < m.code x) e (subst (λ (x : ℕ). 1 < x) (sym s.0.code) (omega arith)))
    | inr ne ↦ elim (cases_eq (count a k) 0) [
      | inl z ↦ below-root a c (with_node b p) g l s.2 h.3
          (let own = none_at p.address a ne in omega arith)
      | inr some ↦ below-root a p.segment.code nowhere k (let later = O.later c p.segment.code h.0 in omega arith) s.1 h.2 (omega arith)
    ]
  ]

  -- each root has an entry
  pub each-root : (a : ℕ) (b : ℕ → ℕ) (f : Forest Placed) → NodesLie types m b f → Formed types 0 f → 0 < count a f → m.code a ≡ 1
      → IsIn (record { key = key_of types (segment_at m a); address = a }) (root_entries types f)
  each-root a b empty s h n one = absurd (omega arith)
  each-root a b (node p k g) s h n one = elim (cases_eq p.address a) [
    | inl e ↦ (let P : ℕ → Type 0 = λ x. IsIn (record { key = key_of types (segment_at m x); address = x }) (root_entries types (node p k g)) in
        subst P e (inl (let same = segment_is types m b p k g s.0 in (λ i. record { key = key_of types (same i); address = p.address }))))
    | inr ne ↦ elim (cases_eq (count a k) 0) [
      | inl z ↦ inr (each-root a (with_node b p) g s.2 h.3
          (let own = none_at p.address a ne in omega arith) one)
      | inr some ↦ absurd (let more = below-root a p.segment.code nowhere k (code_some types p.segment (row-of b p k g s.0)) s.1 h.2 (omega arith) in omega arith)
    ]
  ]
