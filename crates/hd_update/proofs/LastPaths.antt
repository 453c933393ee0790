-- The path of the last row of a forest that a volume holds.
use Rattle.std.proofs.Common.{◌≡◌, ℕ, zero, suc, ◌+◌, ◌-◌, List, [], ◌∷◌, Bool, true, Ok, Option, Some, None, refl, ap, sym, ◌∙◌, subst, arith, inl, inr}
use Rattle.std.specs.Prelude.{map, slice_get, option_map, ◌==◌, ◌||◌}
use Rattle.std.specs.List.{list_any}
use Rattle.std.specs.Option.{option_eq}
use Rattle.std.proofs.lemmas.Bool.{cases_Bool, cases_eq, eq-eqb, eqb-true, ne_eqb, or_left, or_right}
use Rattle.std.proofs.lemmas.Option.{same_Some, none-some}
use Rattle.std.proofs.lemmas.List.{append-nil}
use Rattle.hd_dbd.specs.Types.{SegmentType}
use Rattle.hd_dbd.specs.Hierarchy.{Database, level_of}
use Rattle.hd_dbd.specs.Segment.{Segment}
use Rattle.hd_dbd.specs.Rows.{level, valid_from}
use Rattle.hd_dbd.specs.Forest.{Forest, empty, node}
use Rattle.hd_dbd.proofs.LevelLaw.{Leveled, leveled}
use Rattle.hd_dbd.proofs.Loading.{OnLevels, levels_after}
use Rattle.hd_dbd.proofs.Sequences.{walk}
use Rattle.hd_volume.specs.Volumes.{VolumeState}
use Rattle.hd_volume.specs.Calls.{IsRead}
use Rattle.hd_links.specs.Links.{Links, IsSegment, segment_at}
use Rattle.hd_links.specs.Placed.{Placed, nowhere, with_node, NodesLie, NodeLies, forest_of}
use Rattle.hd_links.specs.LastRows.{last_on, segments_of}
use Rattle.hd_links.specs.Steps.{rows_of}
use Rattle.hd_links.proofs.Types.{ordered}
use Rattle.hd_links.proofs.Unique.{unique}
use Rattle.hd_image.specs.Records.{links_of}
use Rattle.hd_image.specs.Holding.{HoldsPlaced}
use Rattle.hd_forest.proofs.Reading.{after-read, sound-before}
use Rattle.hd_position.proofs.LastPlaces.{last_paths}
use Rattle.hd_update.specs.Loading.{IsLastPath, HasLastPath, code_on}
use Rattle.hd_update.proofs.Reading.{held_read, later_read}

-- ---- one forest

-- a volume holds no other forest
pub one_forest : (d : Database) (v : VolumeState) (f g : Forest Placed) → HoldsPlaced d v f → HoldsPlaced d v g → f ≡ g
one_forest d v f g F G = unique d.types (ordered d.block_size d.frspc d.types F.volume.fit) (links_of d.types v) f g F.records G.records

-- after calls that only read it is the same path
pub last_read : {A : Type 0} {x : A} (d : Database) (u v : VolumeState) → IsRead {T = A} u (Ok x) v → (path : List ℕ) (f : Forest Placed) → IsLastPath d u path f → IsLastPath d v path f
last_read d u v read path f L = record { sound = (after-read d u v read L.sound).sound; later = later_read d u v read L.sound L.later; holds = held_read d u v read L.sound f L.holds; is = L.is }

pub has_last_read : {A : Type 0} {x : A} (d : Database) (u v : VolumeState) → IsRead {T = A} u (Ok x) v → (path : List ℕ) → HasLastPath d u path → HasLastPath d v path
has_last_read d u v read path has now = (let T = has (sound-before u v read now) in (T.0, last_read d u v read path T.0 T.1))

-- ---- what stands on it

-- A node of the path lies in the records.
record IsNodeOf (m : Links) (p : Placed) : Type 0 where
  there : IsSegment m p.address
  segment : segment_at m p.address ≡ p.segment

node_of : (types : List SegmentType) (m : Links) (b : ℕ → ℕ) (r : Placed) (k n : Forest Placed) (p : Placed) → NodeLies types m b r k n → r ≡ p → IsNodeOf m p
node_of types m b r k n p L same =
    subst (λ (x : Placed). IsNodeOf m x) same (record { there = L.there; segment = λ i. record { code = L.code i; bytes = L.bytes i } })

node_on : (types : List SegmentType) (m : Links) (b : ℕ → ℕ) (f : Forest Placed) (place : ℕ) (p : Placed) → NodesLie types m b f → slice_get (last_on f) place ≡ Some p → IsNodeOf m p
node_on types m b empty place p L e = absurd (none-some p e)
node_on types m b (node r k empty) zero p L e = node_of types m b r k empty p L.0 (same_Some r p e)
node_on types m b (node r k empty) (suc place) p L e = node_on types m nowhere k place p L.1 e
node_on types m b (node r k (node s u v)) place p L e = node_on types m (with_node b r) (node s u v) place p L.2 e

-- What stands on the path at a place.
pub record IsStoredAs (d : Database) (v : VolumeState) (f : Forest Placed) (place a : ℕ) : Type 0 where
  pub node : Placed
  pub at : slice_get (last_on f) place ≡ Some node
  pub address : a ≡ node.address
  pub there : IsSegment (links_of d.types v) a
  pub segment : segment_at (links_of d.types v) a ≡ node.segment

got_node : (ps : List Placed) (place a : ℕ) → Some a ≡ slice_get (map (λ (p : Placed). p.address) ps) place → (p : Placed) × (slice_get ps place ≡ Some p) × (a ≡ p.address)
got_node [] place a e = absurd (none-some a (sym e))
got_node (p ∷ ps) zero a e = (p, refl, same_Some a p.address e)
got_node (p ∷ ps) (suc place) a e = got_node ps place a e

got_none : (ps : List Placed) (place : ℕ) → None ≡ slice_get (map (λ (p : Placed). p.address) ps) place → slice_get ps place ≡ None
got_none [] place e = refl
got_none (p ∷ ps) zero e = absurd (none-some p.address e)
got_none (p ∷ ps) (suc place) e = got_none ps place e

module _ (d : Database) (v : VolumeState) (path : List ℕ) (f : Forest Placed) (L : IsLastPath d v path f) (own : List ℕ) (same : own ≡ path) (place : ℕ) where
  -- something
  pub stored_on : (a : ℕ) → Some a ≡ slice_get own place → IsStoredAs d v f place a
  stored_on a e =
      let T = got_node (last_on f) place a (e ∙ ap (λ (xs : List ℕ). slice_get xs place) (same ∙ L.is)) in
      let N : IsNodeOf (links_of d.types v) T.0 = node_on d.types (links_of d.types v) nowhere f place T.0 L.holds.records.lies.nodes T.1 in
      record {
        node = T.0;
        at = T.1;
        address = T.2;
        there = subst (IsSegment (links_of d.types v)) (sym T.2) N.there;
        segment = ap (segment_at (links_of d.types v)) T.2 ∙ N.segment;
      }

  -- or nothing
  pub none_on : None ≡ slice_get own place → slice_get (last_on f) place ≡ None
  none_on e = got_none (last_on f) place (e ∙ ap (λ (xs : List ℕ). slice_get xs place) (same ∙ L.is))

-- ---- its levels

nowhere_on : (types : List SegmentType) → OnLevels types []
nowhere_on types i q is = absurd (none-some q is)

-- each row on it has the level of its place
pub on_levels : (d : Database) (v : VolumeState) (f : Forest Placed) → HoldsPlaced d v f → OnLevels d.types (segments_of (last_on f))
on_levels d v f H =
    let L : Leveled d.types = leveled d.block_size d.frspc d.types H.volume.fit in
    subst (OnLevels d.types) (sym (last_paths d v f H.volume H.records).1)
    (levels_after d.types L [] (rows_of f) (nowhere_on d.types)
    (ap (λ (rows : List Segment). valid_from d.types [] rows) (sym (append-nil (rows_of f)))
    ∙ (walk d.types L (forest_of f) [] [] [] None None refl tt refl H.records.fits).1))

-- so a type stands on it only at its level
module _ (types : List SegmentType) (path : List Segment) (on : OnLevels types path) (parent : ℕ) where
  any_at : (xs : List Segment) (n : ℕ) (q : Segment) → slice_get xs n ≡ Some q → q.code ≡ parent → list_any (λ s. s.code == parent) xs ≡ true
  any_at [] n q e is = absurd (none-some q e)
  any_at (x ∷ xs) zero q e is = or_left (x.code == parent) (list_any (λ s. s.code == parent) xs) (eq-eqb x.code parent (ap (λ (s : Segment). s.code) (same_Some x q e) ∙ is))
  any_at (x ∷ xs) (suc n) q e is = or_right (x.code == parent) (list_any (λ s. s.code == parent) xs) (any_at xs n q e is)

  at_any : (xs : List Segment) → list_any (λ s. s.code == parent) xs ≡ true → (n : ℕ) × (q : Segment) × (slice_get xs n ≡ Some q) × (q.code ≡ parent)
  at_any [] any = cc
  at_any (x ∷ xs) any = elim (cases_Bool (x.code == parent)) [
    | inl holds ↦ (0, x, refl, eqb-true x.code parent holds)
    | inr fails ↦ (let rest = at_any xs (sym (ap (λ (b : Bool). b || list_any (λ s. s.code == parent) xs) fails) ∙ any) in (suc rest.0, rest.1, rest.2, rest.3))
  ]

  abbrev at_level : Option Segment → Bool
  at_level o = option_eq (λ a b. a == b) (option_map (λ s. s.code) o) (Some parent)

  stands : (o : Option Segment) → slice_get path (level_of types parent - 1) ≡ o → list_any (λ s. s.code == parent) path ≡ at_level o
  stands None at = elim (cases_Bool (list_any (λ s. s.code == parent) path)) [
    | inl any ↦
        (let T = at_any path any in
        let own : level types T.1 ≡ T.0 + 1 = on T.0 T.1 T.2 in
        let same : level types T.1 ≡ level_of types parent = ap (level_of types) T.3 in
        let place : level_of types parent - 1 ≡ T.0 = omega arith in
        absurd (none-some T.1 (sym at ∙ ap (slice_get path) place ∙ T.2)))
    | inr none ↦ none
  ]
  stands (Some q) at = elim (cases_eq q.code parent) [
    | inl is ↦ any_at path (level_of types parent - 1) q at is ∙ sym (eq-eqb q.code parent is)
    | inr other ↦ elim (cases_Bool (list_any (λ s. s.code == parent) path)) [
      | inl any ↦
          (let T = at_any path any in
          let own : level types T.1 ≡ T.0 + 1 = on T.0 T.1 T.2 in
          let same : level types T.1 ≡ level_of types parent = ap (level_of types) T.3 in
          let place : level_of types parent - 1 ≡ T.0 = omega arith in
          absurd (other (ap (λ (s : Segment). s.code) (same_Some q T.1 (sym at ∙ ap (slice_get path) place ∙ T.2)) ∙ T.3)))
      | inr none ↦ none ∙ sym (ne_eqb q.code parent other)
    ]
  ]

  -- the parent is there just where it is at its own level
  pub any_at_level : list_any (λ s. s.code == parent) path ≡ at_level (slice_get path (level_of types parent - 1))
  any_at_level = stands (slice_get path (level_of types parent - 1)) refl

-- the code at a place is that of its segment
pub code_of_segment : (ps : List Placed) (place : ℕ) → option_map (λ s. s.code) (slice_get (segments_of ps) place) ≡ code_on ps place
code_of_segment [] place = refl
code_of_segment (p ∷ ps) zero = refl
code_of_segment (p ∷ ps) (suc place) = code_of_segment ps place
