-- The forests of a database, as the proofs walk them.
use Rattle.std.proofs.Common.{◌≡◌, ℕ, ◌<◌, ◌≤◌, List, Bool, true, arith, ap, sym, ◌∙◌, refl, subst, Option, Some, None, inl, inr}
use Rattle.std.specs.Prelude.{◌==◌, nat_lt}
use Rattle.std.specs.Option.{option_map_or}
use Rattle.std.proofs.lemmas.Bool.{and_parts, and_from, cases_eq, eq-eqb, ne_eqb, ltb-true, cond-true, cond-false, lt-ltb}
use Rattle.hd_dbd.specs.Types.{SegmentType}
use Rattle.hd_dbd.specs.Segment.{Segment}
use Rattle.hd_dbd.specs.Hierarchy.{parent_of}
use Rattle.hd_dbd.specs.Rows.{row_fits, siblings_in_order, twins_in_order}
use Rattle.hd_dbd.specs.Forest.{Forest, empty, node, fits_below}
use Rattle.hd_dbd.proofs.Names.{option_eq-Decides}
use Rattle.hd_links.specs.Links.{Links, IsLinkGraph, is_child_type, segment_at}
use Rattle.hd_links.specs.Placed.{Placed, forest_of, first_of, nowhere, with_node, NodesLie, NodeLies}
use Rattle.hd_links.proofs.Types.{Ordered, above, above_some, code_some}

-- the first of these nodes may stand behind a row
abbrev pub is_behind : List SegmentType → Option Segment → Forest Placed → Bool
is_behind types before empty = true
is_behind types before (node p k n) = option_map_or (λ q. siblings_in_order types q p.segment) before true

-- The nodes below a parent of type c are of its child types and in order.
abbrev pub Formed : List SegmentType → ℕ → Forest Placed → Type 0
Formed types c empty = Unit {0}
Formed types c (node p k n) =
    (is_child_type types c p.segment.code ≡ true) × (is_behind types (Some p.segment) n ≡ true) × Formed types p.segment.code k × Formed types c n

-- nothing need stand before the first
pub first_behind_none : (types : List SegmentType) (f : Forest Placed) → is_behind types None f ≡ true
first_behind_none types empty = refl
first_behind_none types (node p k n) = refl

-- the codes of siblings never fall
pub follows_code : (types : List SegmentType) (p q : Placed) (k n : Forest Placed) → is_behind types (Some p.segment) (node q k n) ≡ true → p.segment.code ≤ q.segment.code
follows_code types p q k n h = elim (cases_eq p.segment.code q.segment.code) [
  | inl e ↦ omega arith
  | inr ne ↦ (let l : p.segment.code < q.segment.code
      = ltb-true _ _ (sym (cond-false (p.segment.code == q.segment.code) (twins_in_order types p.segment q.segment) (nat_lt p.segment.code q.segment.code) (ne_eqb _ _ ne)) ∙ h) in omega arith)
]

-- twins are in order
pub follows_key : (types : List SegmentType) (p q : Segment) → siblings_in_order types p q ≡ true → p.code ≡ q.code → twins_in_order types p q ≡ true
follows_key types p q h e = sym (cond-true (p.code == q.code) (twins_in_order types p q) (nat_lt p.code q.code) (eq-eqb _ _ e)) ∙ h

pub key_follows : (types : List SegmentType) (p q : Segment) → twins_in_order types p q ≡ true → p.code ≡ q.code → siblings_in_order types p q ≡ true
key_follows types p q h e = cond-true (p.code == q.code) (twins_in_order types p q) (nat_lt p.code q.code) (eq-eqb _ _ e) ∙ h

pub code_follows : (types : List SegmentType) (p q : Segment) → p.code < q.code → siblings_in_order types p q ≡ true
code_follows types p q l = cond-false (p.code == q.code) (twins_in_order types p q) (nat_lt p.code q.code) (ne_eqb _ _ (λ (e : p.code ≡ q.code). omega arith)) ∙ lt-ltb p.code q.code l

-- nothing stands before the least code
pub low : (types : List SegmentType) (c : ℕ) (p : Placed) (k n : Forest Placed) (t : ℕ) → Formed types c (node p k n) → t < p.segment.code → first_of (node p k n) t ≡ 0
low types c p k empty t h l = cond-false _ _ _ (ne_eqb p.segment.code t (λ (e : p.segment.code ≡ t). omega arith))
low types c p k (node q k2 n2) t h l =
    let le : p.segment.code ≤ q.segment.code = follows_code types p q k2 n2 h.1 in
    cond-false _ _ _ (ne_eqb p.segment.code t (λ (e : p.segment.code ≡ t). omega arith)) ∙ low types c q k2 n2 t h.3 (omega arith)

-- of a type that is no child type none stands
pub none_of : (types : List SegmentType) (c t : ℕ) (f : Forest Placed) → Formed types c f → (is_child_type types c t ≡ true → ⊥) → first_of f t ≡ 0
none_of types c t empty h free = refl
none_of types c t (node p k n) h free =
    cond-false _ _ _ (ne_eqb p.segment.code t (λ e. free (subst (λ (x : ℕ). is_child_type types c x ≡ true) e h.0))) ∙ none_of types c t n h.3 free

-- ---- the same as hd_dbd has it

head_is : (types : List SegmentType) (parent : Option ℕ) (before : Option Segment) (f : Forest Placed) → fits_below types parent before (forest_of f) ≡ true → is_behind types before f ≡ true
head_is types parent before empty h = refl
head_is types parent before (node p k n) h = (and_parts _ _ (and_parts _ _ (and_parts _ _ h).0).0).1

-- a forest that fits is formed
pub formed : (types : List SegmentType) (O : Ordered types) (c : ℕ) (before : Option Segment) (f : Forest Placed)
    → fits_below types (above c) before (forest_of f) ≡ true → Formed types c f
formed types O c before empty h = tt
formed types O c before (node p k n) h =
    let d = and_parts _ _ h in
    let e = and_parts _ _ d.0 in
    let g = and_parts _ _ e.0 in
    let a = and_parts _ _ g.0 in (
      O.child c p.segment a.0 ((option_eq-Decides _ _).0 a.1),
      head_is types (above c) (Some p.segment) n d.1,
      formed types O p.segment.code None k (ap (λ (o : Option ℕ). fits_below types o None (forest_of k)) (above_some p.segment.code (code_some types p.segment a.0)) ∙ e.1),
      formed types O c (Some p.segment) n d.1,
    )

pub segment_is : (types : List SegmentType) (m : Links) (table : ℕ → ℕ) (p : Placed) (k n : Forest Placed) → NodeLies types m table p k n → segment_at m p.address ≡ p.segment
segment_is types m table p k n s = (λ i. record { code = s.code i; bytes = s.bytes i })

-- and what is formed and stands in the records fits
pub fits : (types : List SegmentType) (O : Ordered types) (bound : ℕ) (m : Links) (G : IsLinkGraph types bound m) (c : ℕ) (table : ℕ → ℕ) (before : Option Segment) (f : Forest Placed)
    → NodesLie types m table f → Formed types c f → is_behind types before f ≡ true → fits_below types (above c) before (forest_of f) ≡ true
fits types O bound m G c table before empty s h b = refl
fits types O bound m G c table before (node p k n) s h b =
    let row : row_fits types p.segment ≡ true = ap (row_fits types) (sym (segment_is types m table p k n s.0)) ∙ G.fits p.address s.0.there in
    let own : parent_of types p.segment.code ≡ above c = O.parent c p.segment row h.0 in
    let below : fits_below types (Some p.segment.code) None (forest_of k) ≡ true
    = ap (λ (o : Option ℕ). fits_below types o None (forest_of k)) (sym (above_some p.segment.code (code_some types p.segment row)))
    ∙ fits types O bound m G p.segment.code nowhere None k s.1 h.2 (first_behind_none types k) in
    and_from _ _ (and_from _ _ (and_from _ _ (and_from _ _ row ((option_eq-Decides _ _).1 own)) b) below)
    (fits types O bound m G c (with_node table p) (Some p.segment) n s.2 h.3 h.1)
