-- The place of a new root, by the index.
use Rattle.std.proofs.Common.{◌≡◌, ℕ, ◌+◌, ◌<◌, ◌≤◌, List, [], ◌∷◌, length, Bool, true, false, IsTrue, Option, Some, None, refl, sym, ap, subst, ◌∙◌, arith}
use Rattle.std.specs.Prelude.{option_map, IfSome, bytes_eq, cond}
use Rattle.std.specs.Option.{option_map_or}
use Rattle.std.specs.Ordering.{nat_cmp, is_lt, is_eq}
use Rattle.std.specs.declared.cmp.Ordering.{Ordering}
use Rattle.std.specs.declared.cmp.Ordering.TheVariants.{Less, Equal, Greater}
use Rattle.std.specs.Cmp.Lexicographic.{slice_cmp}
use Rattle.std.proofs.lemmas.Bool.{and_parts, eq-eqb, eqb-true}
use Rattle.std.proofs.lemmas.Map.Text.{is_eq-slice_cmp}
use Rattle.hd_dbd.specs.declared.hierarchy.FreeSpace.{FreeSpace}
use Rattle.hd_dbd.specs.Types.{SegmentType}
use Rattle.hd_dbd.specs.Segment.{Segment}
use Rattle.hd_dbd.specs.DatabaseRules.{well_formed}
use Rattle.hd_dbd.specs.Hierarchy.{Database, type_of}
use Rattle.hd_dbd.specs.Rows.{row_fits, key_of}
use Rattle.hd_dbd.specs.Loads.{has_unique_key}
use Rattle.hd_dbd.specs.Paths.{row_at}
use Rattle.hd_dbd.specs.Forest.{Forest}
use Rattle.hd_dbd.proofs.Fitting.{type_of-fits, types_fit}
use Rattle.hd_volume.specs.Volumes.{VolumeState}
use Rattle.hd_volume.specs.Indexes.{key_less}
use Rattle.hd_links.specs.Placed.{Placed}
use Rattle.hd_links.specs.Pointers.{IsInChain}
use Rattle.hd_links.specs.Steps.{rows_of, address_at, LeadsDown}
use Rattle.hd_links.proofs.Types.{ordered, row_type, code_some}
use Rattle.hd_image.specs.Records.{links_of}
use Rattle.hd_image.specs.Holding.{HoldsPlaced}
use Rattle.hd_index.specs.Maps.{address_from}
use Rattle.hd_index.specs.Changes.{entries_for}
use Rattle.hd_changes.specs.Roots.{is_root, key_at, is_root_from, first_row}
use Rattle.hd_changes.specs.Found.{AreRootsBelow}
use Rattle.hd_changes.proofs.RootRows.{follow-lesser, roots-alone, index-answers}
use Rattle.hd_forest.specs.Twins.{IsBehind}
use Rattle.hd_update.specs.declared.places.Side.TheVariants.{Before, Behind}
use Rattle.hd_update.specs.Places.{IsTypeBelow, IsGap, side_of, side_at}
use Rattle.hd_update.proofs.TwinRows.{IsTwinRow}
use Rattle.hd_update.proofs.TwinGaps.{ground, gap_rows}
use Rattle.hd_update.proofs.PlaceAmong.{held_sequence}

-- ---- the root's key

-- it is unique
pub root_unique : (block_size : ℕ) (frspc : FreeSpace) (types : List SegmentType) (row : Segment) → IsTrue (well_formed block_size frspc types) → row.code ≡ 1 → row_fits types row ≡ true
    → has_unique_key types row.code ≡ true
root_unique block_size frspc types row formed one fits =
    let t = row_type types row fits in
    let is : type_of types 1 ≡ Some t.0 = sym (ap (type_of types) one) ∙ t.1 in
    let D = type_of-fits block_size types 1 t.0 (types_fit block_size frspc types formed) is in
    let own = and_parts _ _ (and_parts _ _ (and_parts _ _ D).0).0 in
    let unique : option_map_or (λ k. k.unique) t.0.key false ≡ true = (and_parts _ _ own.0).1 in
    ap (λ (o : Option SegmentType). option_map_or (λ t. option_map_or (λ k. k.unique) t.key false) o false) t.1 ∙ unique

module _ (d : Database) (v : VolumeState) (f : Forest Placed) (H : HoldsPlaced d v f) where
  -- nothing of its type stands below another row
  pub root_parent : (parent : Option ℕ) (code : ℕ) → IfSome parent (λ q. q < length (rows_of f)) → IsTypeBelow d.types (rows_of f) parent code → code ≡ 1 → parent ≡ None
  root_parent None code there below one = refl
  root_parent (Some q) code there below one = absurd
      (let early : (row_at (rows_of f) q).code < code = (ordered d.block_size d.frspc d.types H.volume.fit).later (row_at (rows_of f) q).code code below in
      let some : 0 < (row_at (rows_of f) q).code = code_some d.types (row_at (rows_of f) q) ((held_sequence d v f H).fit q there) in
      omega arith)

  -- a root's key that is less
  less_is : (o : Ordering) → is_lt o ≡ true → o ≡ Less
  less_is Less h = refl
  less_is Equal h = cc
  less_is Greater h = cc

  module _ (row : Segment) (one : row.code ≡ 1) where
    -- behind a root with a lesser key a new root goes behind
    side_less : (k : ℕ) → IsTwinRow d.types (rows_of f) None row.code k → key_less (key_at d.types (rows_of f) k) (key_of d.types row) ≡ true
        → side_at d.types (links_of d.types v) false row (address_at f k) ≡ Behind
    side_less k K less =
        ap (λ (s : Segment). side_of (has_unique_key d.types row.code) false (slice_cmp nat_cmp (key_of d.types s) (key_of d.types row))) ((ground d v f H).addressed.same k K.within)
        ∙ ap (side_of (has_unique_key d.types row.code) false) (less_is _ less)

    a_root : (k : ℕ) → IsTwinRow d.types (rows_of f) None row.code k → is_root (rows_of f) k ≡ true
    a_root k K = eq-eqb (row_at (rows_of f) k).code 1 (K.typed ∙ one)

    -- where all roots have lesser keys a new one goes behind the last
    pub behind_all : AreRootsBelow d.types (rows_of f) (key_of d.types row) (length (rows_of f)) → (y : ℕ) → IsBehind (links_of d.types v) ((links_of d.types v).first_child 0 row.code) y 0
        → IsGap d.types (links_of d.types v) ((links_of d.types v).first_child 0 row.code) false row y 0
    behind_all lesser y chain = record {
      chain = chain;
      behind = λ some.
          (let K = (gap_rows d v f H None tt row.code one y 0 chain).next some in
          subst (λ a. side_at d.types (links_of d.types v) false row a ≡ Behind) K.2 (side_less K.0 K.1 (lesser K.0 K.1.within (a_root K.0 K.1))));
      before = λ none. absurd (omega arith);
    }

    -- before the first whose key is not less it goes behind the root before that
    pub before_next : (i : ℕ) → i < length (rows_of f) → AreRootsBelow d.types (rows_of f) (key_of d.types row) i → side_at d.types (links_of d.types v) false row (address_at f i) ≡ Before
        → (y : ℕ) → IsBehind (links_of d.types v) ((links_of d.types v).first_child 0 row.code) y (address_at f i)
        → IsGap d.types (links_of d.types v) ((links_of d.types v).first_child 0 row.code) false row y (address_at f i)
    before_next i within lesser before y chain = record {
      chain = chain;
      behind = λ some.
          (let K = (gap_rows d v f H None tt row.code one y (address_at f i) chain).next some in
          let A = (ground d v f H).addressed in
          let S = K.3.some (A.there i within).some in
          let next : K.0 + 1 ≤ S.0 = S.1 in
          let same : S.0 ≡ i = A.once S.0 i S.2.within within S.3 in
          subst (λ a. side_at d.types (links_of d.types v) false row a ≡ Behind) K.2 (side_less K.0 K.1 (lesser K.0 (omega arith) (a_root K.0 K.1))));
      before = λ some. before;
    }

    -- beside a root whose key is not less it goes as is told of whether that is equal
    pub told_side : (i : ℕ) → i < length (rows_of f) → key_less (key_at d.types (rows_of f) i) (key_of d.types row) ≡ false → (equal : Bool)
        → equal ≡ bytes_eq (key_at d.types (rows_of f) i) (key_of d.types row)
        → side_of (has_unique_key d.types row.code) false (cond equal Equal Greater) ≡ side_at d.types (links_of d.types v) false row (address_at f i)
    told_side i within not_less equal told =
        ap (side_of (has_unique_key d.types row.code) false)
        (by (slice_cmp nat_cmp (key_at d.types (rows_of f) i) (key_of d.types row)) equal not_less (told ∙ sym (is_eq-slice_cmp (key_at d.types (rows_of f) i) (key_of d.types row))))
        ∙ sym (ap (λ (s : Segment). side_of (has_unique_key d.types row.code) false (slice_cmp nat_cmp (key_of d.types s) (key_of d.types row))) ((ground d v f H).addressed.same i within))
      where
        by : (o : Ordering) (e : Bool) → is_lt o ≡ false → e ≡ is_eq o → cond e Equal Greater ≡ o
        by Less e l s = cc
        by Equal e l s = ap (λ b. cond b Equal Greater) s
        by Greater e l s = ap (λ b. cond b Equal Greater) s

    -- a new root does not go behind one whose key is not less
    pub not_behind : (i : ℕ) → i < length (rows_of f) → key_less (key_at d.types (rows_of f) i) (key_of d.types row) ≡ false
        → side_at d.types (links_of d.types v) false row (address_at f i) ≡ Behind → ⊥
    not_behind i within not_less side =
        by (has_unique_key d.types row.code) (slice_cmp nat_cmp (key_at d.types (rows_of f) i) (key_of d.types row)) not_less
        (sym (ap (λ (s : Segment). side_of (has_unique_key d.types row.code) false (slice_cmp nat_cmp (key_of d.types s) (key_of d.types row))) ((ground d v f H).addressed.same i within)) ∙ side)
      where
        by : (u : Bool) (o : Ordering) → is_lt o ≡ false → side_of u false o ≡ Behind → ⊥
        by u Less l s = cc
        by true Equal l s = cc
        by false Equal l s = cc
        by u Greater l s = cc

  -- a root is in the chain of roots
  pub root_chained : (i : ℕ) → i < length (rows_of f) → is_root (rows_of f) i ≡ true
      → LeadsDown d.types (links_of d.types v) 0 (address_at f i ∷ []) × IsInChain (links_of d.types v) ((links_of d.types v).first_child 0 1) (address_at f i)
  root_chained i within root =
      let m = links_of d.types v in
      let down : LeadsDown d.types m 0 (address_at f i ∷ []) = subst (LeadsDown d.types m 0) (roots-alone d v f i H within root) ((ground d v f H).steps i within).path in
      let code : m.code (address_at f i) ≡ 1 = ap (λ (r : Segment). r.code) ((ground d v f H).addressed.same i within) ∙ eqb-true (row_at (rows_of f) i).code 1 root in
      (down, subst (λ c. IsInChain m (m.first_child 0 c) (address_at f i)) code down.1)

  -- where the index answers none, all roots have lesser keys
  pub next_none : (key : List ℕ) → address_from key (entries_for d v) ≡ None → AreRootsBelow d.types (rows_of f) key (length (rows_of f))
  next_none key is = by (first_row (rows_of f) (is_root_from d.types (rows_of f) key)) refl (sym (index-answers d v f key H).1 ∙ is)
    where
      by : (o : Option ℕ) → first_row (rows_of f) (is_root_from d.types (rows_of f) key) ≡ o → option_map (λ i. address_at f i) (first_row (rows_of f) (is_root_from d.types (rows_of f) key)) ≡ None
          → AreRootsBelow d.types (rows_of f) key (length (rows_of f))
      by None e at = (follow-lesser d.types (rows_of f) key).1 e
      by (Some i) e at = (let wrong : Some (address_at f i) ≡ None = sym (ap (option_map (λ i. address_at f i)) e) ∙ at in cc)
