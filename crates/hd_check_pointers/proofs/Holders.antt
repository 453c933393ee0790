-- The holders of the pointers that name an address.
use Rattle.std.proofs.Common.{◌≡◌, ◌≢◌, ◌⊎◌, inl, inr, ℕ, ◌+◌, ◌<◌, ◌≤◌, List, [], ◌∷◌, ◌++◌, true, refl, sym, ap, subst, ◌∙◌, arith, ne_eqb}
use Rattle.std.specs.Prelude.{◌==◌}
use Rattle.std.proofs.lemmas.Bool.{cases_Bool, cases_eq, eq-eqb, cond-true, cond-false, false≢true}
use Rattle.hd_dbd.specs.Types.{SegmentType}
use Rattle.hd_links.specs.Links.{Links, IsSegment, child_types, is_child_type}
use Rattle.hd_links.specs.Pointers.{PointsTo, PointersAreTyped, Precedes}
use Rattle.hd_links.proofs.Types.{is_in, in_cases, in_head, in_tail, AllAbove, Ascending, above_in, types_ascend}
use Rattle.hd_check_blocks.specs.declared.places.Place.{Place}
use Rattle.hd_check_pointers.specs.declared.namings.Naming.{Naming}
use Rattle.hd_check_blocks.specs.Places.{IsPlaceOf, AreFrom, PlacesAscend}
use Rattle.hd_check_pointers.specs.Namings.{naming_of, first_namings, segment_namings, namings_at, namings_of, holders}

-- the holder is one of these
abbrev pub IsAmong : ℕ → List ℕ → Type 0
IsAmong h [] = ⊥
IsAmong h (x ∷ xs) = (h ≡ x) ⊎ IsAmong h xs

-- of two tables, one behind the other
pub holders-parts : (a : ℕ) (xs ys : List Naming) → holders a (xs ++ ys) ≡ holders a xs ++ holders a ys
holders-parts a [] ys = refl
holders-parts a (n ∷ ns) ys = elim (cases_Bool (n.target == a)) [
  | inl e ↦
      cond-true (n.target == a) (n.holder ∷ holders a (ns ++ ys)) (holders a (ns ++ ys)) e ∙ ap (λ (l : List ℕ). n.holder ∷ l) (holders-parts a ns ys)
      ∙ ap (λ (l : List ℕ). l ++ holders a ys) (sym (cond-true (n.target == a) (n.holder ∷ holders a ns) (holders a ns) e))
  | inr e ↦
      cond-false (n.target == a) (n.holder ∷ holders a (ns ++ ys)) (holders a (ns ++ ys)) e ∙ holders-parts a ns ys
      ∙ ap (λ (l : List ℕ). l ++ holders a ys) (sym (cond-false (n.target == a) (n.holder ∷ holders a ns) (holders a ns) e))
]

-- ---- nothing names 0

-- no single pointer does
naming-zero : (t h : ℕ) → holders 0 (naming_of t h) ≡ []
naming-zero t h = elim (cases_eq t 0) [
  | inl e ↦ rw (eq-eqb t 0 e) refl
  | inr ne ↦ rw (ne_eqb t 0 ne, ne_eqb t 0 ne) refl
]

-- nor does one to a first child
first-zero : (m : Links) (h : ℕ) (ts : List ℕ) → holders 0 (first_namings m h ts) ≡ []
first-zero m h [] = refl
first-zero m h (t ∷ ts) = holders-parts 0 (naming_of (m.first_child h t) h) (first_namings m h ts) ∙ ap (λ (l : List ℕ). l ++ holders 0 (first_namings m h ts)) (naming-zero (m.first_child h t) h) ∙ first-zero m h ts

-- nor does one of the segments'
places-zero : (types : List SegmentType) (m : Links) (ps : List Place) → holders 0 (namings_at types m ps) ≡ []
places-zero types m [] = refl
places-zero types m (p ∷ ps) =
    holders-parts 0 (segment_namings types m p.address) (namings_at types m ps)
    ∙ ap (λ (l : List ℕ). l ++ holders 0 (namings_at types m ps))
    (holders-parts 0 (naming_of (m.forward p.address) p.address) (first_namings m p.address (child_types types (m.code p.address)))
    ∙ ap (λ (l : List ℕ). l ++ holders 0 (first_namings m p.address (child_types types (m.code p.address)))) (naming-zero (m.forward p.address) p.address)
    ∙ first-zero m p.address (child_types types (m.code p.address)))
    ∙ places-zero types m ps

-- no pointer of the table names 0
pub none-zero : (types : List SegmentType) (m : Links) (ps : List Place) → holders 0 (namings_of types m ps) ≡ []
none-zero types m ps =
    holders-parts 0 (naming_of (m.first_child 0 1) 0) (namings_at types m ps) ∙ ap (λ (l : List ℕ). l ++ holders 0 (namings_at types m ps)) (naming-zero (m.first_child 0 1) 0)
    ∙ places-zero types m ps

-- ---- one record names an address at most once

-- The record h is the only holder if something is so, and else there is none.
abbrev pub IsHolderIf : Type 0 → ℕ → List ℕ → Type 0
IsHolderIf P h hs = (P × (hs ≡ h ∷ [])) ⊎ ((P → ⊥) × (hs ≡ []))

-- the same, of what comes to the same
holder-same : (P Q : Type 0) (h : ℕ) (hs : List ℕ) → (P → Q) → (Q → P) → IsHolderIf P h hs → IsHolderIf Q h hs
holder-same P Q h hs to from (inl x) = inl (to x.0, x.1)
holder-same P Q h hs to from (inr x) = inr (λ q. x.0 (from q), x.1)

-- one of two that are not both so
holder-either : (P Q : Type 0) (h : ℕ) (xs ys : List ℕ) → (P → Q → ⊥) → IsHolderIf P h xs → IsHolderIf Q h ys → IsHolderIf (P ⊎ Q) h (xs ++ ys)
holder-either P Q h xs ys apart (inl x) (inl y) = absurd (apart x.0 y.0)
holder-either P Q h xs ys apart (inl x) (inr y) = inl (inl x.0, ap (λ (l : List ℕ). l ++ ys) x.1 ∙ ap (λ (l : List ℕ). h ∷ l) y.1)
holder-either P Q h xs ys apart (inr x) (inl y) = inl (inr y.0, ap (λ (l : List ℕ). l ++ ys) x.1 ∙ y.1)
holder-either P Q h xs ys apart (inr x) (inr y) = inr (λ w. elim w [ inl p ↦ x.0 p | inr q ↦ y.0 q ], ap (λ (l : List ℕ). l ++ ys) x.1 ∙ y.1)

-- a pointer names what it names
naming-holders : (t h a : ℕ) → a ≢ 0 → IsHolderIf (t ≡ a) h (holders a (naming_of t h))
naming-holders t h a some = elim (cases_eq t a) [
  | inl e ↦ inl (e, (let n : t ≢ 0 = (λ z. some (sym e ∙ z)) in rw (ne_eqb t 0 n, eq-eqb t a e) refl))
  | inr ne ↦ inr (
    ne,
    elim (cases_eq t 0) [
      | inl z ↦ rw (eq-eqb t 0 z) refl
      | inr n ↦ rw (ne_eqb t 0 n, ne_eqb t a ne) refl
    ],
  )
]

-- a segment that is named by a pointer of a type has the type
code-named : (m : Links) (t p a : ℕ) → a ≢ 0 → PointsTo m t p → p ≡ a → m.code a ≡ t
code-named m t p a some typed e = ap m.code (sym e) ∙ (typed (omega arith)).1

-- first children of several types are apart
first-holders : (m : Links) (h a : ℕ) (ts : List ℕ) → a ≢ 0 → Ascending ts → ((t : ℕ) → is_in ts t ≡ true → PointsTo m t (m.first_child h t))
    → IsHolderIf ((t : ℕ) × (is_in ts t ≡ true) × (m.first_child h t ≡ a)) h (holders a (first_namings m h ts))
first-holders m h a [] some up typed = inr (λ x. absurd (false≢true x.1), refl)
first-holders m h a (t ∷ ts) some up typed =
    let Here : Type 0 = m.first_child h t ≡ a in
    let Later : Type 0 = (u : ℕ) × (is_in ts u ≡ true) × (m.first_child h u ≡ a) in
    let Either : Type 0 = (u : ℕ) × (is_in (t ∷ ts) u ≡ true) × (m.first_child h u ≡ a) in
    let own : is_in (t ∷ ts) t ≡ true = in_head t t ts refl in
    let both : IsHolderIf (Here ⊎ Later) h (holders a (naming_of (m.first_child h t) h) ++ holders a (first_namings m h ts)) =
    holder-either Here Later h (holders a (naming_of (m.first_child h t) h)) (holders a (first_namings m h ts))
    (λ x y. (let less : t < y.0 = above_in t y.0 ts up.0 y.1 in
    let one : m.code a ≡ t = code-named m t (m.first_child h t) a some (typed t own) x in
    let two : m.code a ≡ y.0 = code-named m y.0 (m.first_child h y.0) a some (typed y.0 (in_tail t y.0 ts y.1)) y.2 in
    omega arith))
    (naming-holders (m.first_child h t) h a some)
    (first-holders m h a ts some up.1 (λ u i. typed u (in_tail t u ts i))) in
    subst (IsHolderIf Either h) (sym (holders-parts a (naming_of (m.first_child h t) h) (first_namings m h ts)))
    (holder-same (Here ⊎ Later) Either h (holders a (naming_of (m.first_child h t) h) ++ holders a (first_namings m h ts))
    (λ w. elim w [ inl x ↦ (t, own, x) | inr y ↦ (y.0, in_tail t y.0 ts y.1, y.2) ])
    (λ y. elim (in_cases t y.0 ts y.1) [ inl e ↦ inl (ap (m.first_child h) e ∙ y.2) | inr i ↦ inr (y.0, i, y.2) ])
    both)

-- ---- all records

-- These are the holders of the pointers of some segments by which an address is named: they ascend behind b, each is a
-- predecessor, and each of the segments that is one is there.
record AreHoldersAt (types : List SegmentType) (m : Links) (a b : ℕ) (ps : List Place) (hs : List ℕ) : Type 0 where
  behind : AllAbove b hs
  rises : Ascending hs
  precede : (h : ℕ) → IsAmong h hs → Precedes types m h a
  all : (p : Place) → IsPlaceOf p ps → Precedes types m p.address a → IsAmong p.address hs

-- The holders are the predecessors of a segment, in ascending order.
pub record AreHolders (types : List SegmentType) (m : Links) (a : ℕ) (hs : List ℕ) : Type 0 where
  pub rises : Ascending hs
  pub precede : (h : ℕ) → IsAmong h hs → Precedes types m h a
  pub all : (h : ℕ) → Precedes types m h a → IsAmong h hs

-- what is above a number is above a lesser one
above-less : (b c : ℕ) (hs : List ℕ) → b ≤ c → AllAbove c hs → AllAbove b hs
above-less b c [] less h = tt
above-less b c (x ∷ xs) less h = ((let l = h.0 in omega arith), above-less b c xs less h.1)

-- places of segments are behind the header
behind-header : (m : Links) (ps : List Place) → ((p : Place) → IsPlaceOf p ps → IsSegment m p.address) → AreFrom 1 ps
behind-header m [] there = tt
behind-header m (p ∷ ps) there = ((let some = (there p (inl refl)).some in omega arith), behind-header m ps (λ q i. there q (inr i)))

module _ (types : List SegmentType) (m : Links) (typed : PointersAreTyped types m) (later : (c t : ℕ) → is_child_type types c t ≡ true → c < t) (a : ℕ) (some : a ≢ 0) where
  -- a segment names another once at most
  segment-holders : (h : ℕ) → IsSegment m h → IsHolderIf (Precedes types m h a) h (holders a (segment_namings types m h))
  segment-holders h s =
      let ts : List ℕ = child_types types (m.code h) in
      let Twin : Type 0 = m.forward h ≡ a in
      let First : Type 0 = (t : ℕ) × (is_in ts t ≡ true) × (m.first_child h t ≡ a) in
      let both : IsHolderIf (Twin ⊎ First) h (holders a (naming_of (m.forward h) h) ++ holders a (first_namings m h ts)) =
      holder-either Twin First h (holders a (naming_of (m.forward h) h)) (holders a (first_namings m h ts))
      (λ x y. (let less : m.code h < y.0 = later (m.code h) y.0 y.1 in
      let one : m.code a ≡ m.code h = code-named m (m.code h) (m.forward h) a some (typed.forward h s) x in
      let two : m.code a ≡ y.0 = code-named m y.0 (m.first_child h y.0) a some (typed.first h y.0 s.here y.1) y.2 in
      omega arith))
      (naming-holders (m.forward h) h a some)
      (first-holders m h a ts some (types_ascend types (m.code h)) (λ t i. typed.first h t s.here i)) in
      subst (IsHolderIf (Precedes types m h a) h) (sym (holders-parts a (naming_of (m.forward h) h) (first_namings m h ts)))
      (holder-same (Twin ⊎ First) (Precedes types m h a) h (holders a (naming_of (m.forward h) h) ++ holders a (first_namings m h ts))
      (λ w. elim w [ inl x ↦ inl (record { holder = s; names = x }) | inr y ↦ inr (y.0, record { holder = s.here; typed = y.1; names = y.2 }) ])
      (λ w. elim w [ inl x ↦ inl x.names | inr y ↦ inr (y.0, y.1.typed, y.1.names) ])
      both)

  -- the header names the first root
  header-holders : m.here 0 ≡ true → m.code 0 ≡ 0 → IsHolderIf (Precedes types m 0 a) 0 (holders a (naming_of (m.first_child 0 1) 0))
  header-holders here code =
      let Root : Type 0 = m.first_child 0 1 ≡ a in
      holder-same Root (Precedes types m 0 a) 0 (holders a (naming_of (m.first_child 0 1) 0))
      (λ x. inr (1, record { holder = here; typed = ap (λ (c : ℕ). is_child_type types c 1) code; names = x }))
      (λ w. elim w [
        | inl x ↦ (let z = x.holder.some in absurd (omega arith))
        | inr y ↦
            (let root : is_in (1 ∷ []) y.0 ≡ true = ap (λ (c : ℕ). is_child_type types c y.0) (sym code) ∙ y.1.typed in
            elim (in_cases 1 y.0 [] root) [ inl e ↦ ap (m.first_child 0) e ∙ y.1.names | inr i ↦ absurd (false≢true i) ])
      ])
      (naming-holders (m.first_child 0 1) 0 a some)

  -- the segments at these places that name it
  places-holders : (b : ℕ) (ps : List Place) → AreFrom (b + 1) ps → PlacesAscend ps → ((p : Place) → IsPlaceOf p ps → IsSegment m p.address)
      → AreHoldersAt types m a b ps (holders a (namings_at types m ps))
  places-holders b [] from up there = record { behind = tt; rises = tt; precede = λ h i. absurd i; all = λ p i. absurd i }
  places-holders b (p ∷ ps) from up there =
      let rest : AreHoldersAt types m a p.address ps (holders a (namings_at types m ps)) = places-holders p.address ps up.0 up.1 (λ q i. there q (inr i)) in
      let hs : List ℕ = holders a (namings_at types m ps) in
      let less : b < p.address = (let l = from.0 in omega arith) in
      let parts = holders-parts a (segment_namings types m p.address) (namings_at types m ps) in
      elim (segment-holders p.address (there p (inl refl))) [
        | inl x ↦ subst (AreHoldersAt types m a b (p ∷ ps)) (sym (parts ∙ ap (λ (l : List ℕ). l ++ hs) x.1)) (record {
          behind = (less, above-less b p.address hs (omega arith) rest.behind);
          rises = (rest.behind, rest.rises);
          precede = λ h i. elim i [ inl e ↦ subst (λ (k : ℕ). Precedes types m k a) (sym e) x.0 | inr j ↦ rest.precede h j ];
          all = λ q i before. elim i [ inl e ↦ inl (ap (λ (r : Place). r.address) e) | inr j ↦ inr (rest.all q j before) ];
        })
        | inr x ↦ subst (AreHoldersAt types m a b (p ∷ ps)) (sym (parts ∙ ap (λ (l : List ℕ). l ++ hs) x.1)) (record {
          behind = above-less b p.address hs (omega arith) rest.behind;
          rises = rest.rises;
          precede = rest.precede;
          all = λ q i before. elim i [ inl e ↦ absurd (x.0 (subst (λ (r : Place). Precedes types m r.address a) e before)) | inr j ↦ rest.all q j before ];
        })
      ]

  -- what names it is a record
  names-here : (h : ℕ) → Precedes types m h a → m.here h ≡ true
  names-here h (inl x) = x.holder.here
  names-here h (inr y) = y.1.holder

  -- the holders of the pointers that name it are its predecessors
  pub are-holders : (ps : List Place) → m.here 0 ≡ true → m.code 0 ≡ 0 → PlacesAscend ps → ((p : Place) → IsPlaceOf p ps → IsSegment m p.address)
      → ((h : ℕ) → IsSegment m h → (p : Place) × IsPlaceOf p ps × (p.address ≡ h)) → AreHolders types m a (holders a (namings_of types m ps))
  are-holders ps here code up there each =
      let hs : List ℕ = holders a (namings_at types m ps) in
      let rest : AreHoldersAt types m a 0 ps hs = places-holders 0 ps (behind-header m ps there) up there in
      let parts = holders-parts a (naming_of (m.first_child 0 1) 0) (namings_at types m ps) in
      let segments : (h : ℕ) → h ≢ 0 → Precedes types m h a → IsAmong h hs =
      (λ h ne before. (let at = each h (record { some = omega arith; here = names-here h before }) in
      subst (λ (k : ℕ). IsAmong k hs) at.2 (rest.all at.0 at.1 (subst (λ (k : ℕ). Precedes types m k a) (sym at.2) before)))) in
      elim (header-holders here code) [
        | inl x ↦ subst (AreHolders types m a) (sym (parts ∙ ap (λ (l : List ℕ). l ++ hs) x.1)) (record {
          rises = (rest.behind, rest.rises);
          precede = λ h i. elim i [ inl e ↦ subst (λ (k : ℕ). Precedes types m k a) (sym e) x.0 | inr j ↦ rest.precede h j ];
          all = λ h before. elim (cases_eq h 0) [ inl e ↦ inl e | inr ne ↦ inr (segments h ne before) ];
        })
        | inr x ↦ subst (AreHolders types m a) (sym (parts ∙ ap (λ (l : List ℕ). l ++ hs) x.1)) (record {
          rises = rest.rises;
          precede = rest.precede;
          all = λ h before. elim (cases_eq h 0) [ inl e ↦ absurd (x.0 (subst (λ (k : ℕ). Precedes types m k a) e before)) | inr ne ↦ segments h ne before ];
        })
      ]
