-- Keys of twins, and the first that is out of order.
use Rattle.std.proofs.Common.{◌≡◌, inl, inr, ℕ, ◌<◌, List, [], length, Bool, true, false, cond, Option, Some, None, refl, sym, ap, subst, ◌∙◌, arith}
use Rattle.std.specs.Prelude.{is_some}
use Rattle.std.specs.Option.{option_map_or}
use Rattle.std.specs.Ordering.{nat_cmp, is_lt, is_le}
use Rattle.std.specs.Cmp.Lexicographic.{slice_cmp}
use Rattle.std.proofs.lemmas.Bool.{false≢true}
use Rattle.hd_dbd.specs.declared.hierarchy.Key.{Key}
use Rattle.hd_dbd.specs.Types.{SegmentType}
use Rattle.hd_dbd.specs.Segment.{Segment}
use Rattle.hd_dbd.specs.Hierarchy.{Database, type_of, key_in}
use Rattle.hd_dbd.specs.Rows.{key_of, keys_in_order, twins_in_order}
use Rattle.hd_volume.specs.Volumes.{VolumeState}
use Rattle.hd_prefix.specs.Fields.{code_of, bytes_of, IsWhole}
use Rattle.hd_links.specs.Links.{segment_at}
use Rattle.hd_links.specs.Pointers.{IsTwinBefore, Precedes, KeysAscend}
use Rattle.hd_links.proofs.Types.{row_type}
use Rattle.hd_image.specs.Records.{links_of}
use Rattle.hd_image.specs.PointerFaults.{IsOutOfOrder}
use Rattle.hd_image.specs.Standing.{Stands, phase_of, ComesBefore}
use Rattle.hd_image.specs.declared.line.Line.{Line}
use Rattle.hd_image.specs.declared.line.Line.TheVariants.{OutOfOrder}
use Rattle.hd_image.proofs.Found.{segment-found, row-found}
use Rattle.hd_check_blocks.specs.declared.places.Place.{Place}
use Rattle.hd_check_blocks.specs.Phases.{IsLeastOf}
use Rattle.hd_check_blocks.specs.Places.{IsPlaceOf}
use Rattle.hd_check_pointers.specs.Tables.{place_at}
use Rattle.hd_check_blocks.specs.Lending.{IsLent}
use Rattle.hd_check_pointers.specs.Matched.{IsMatched}
use Rattle.hd_check_pointers.specs.Keys.{is_keyed, IsKeyRight}
use Rattle.hd_check_pointers.proofs.PlaceNumbers.{stands, coded, number-at, number-below, twin-place}

-- the key of a segment that is lent is that of its record
pub lent-key : (types : List SegmentType) (v : VolumeState) (a : ℕ) (segment : List ℕ) (code : ℕ) (key : List ℕ) → IsLent types v a segment → (links_of types v).code a ≡ code
    → (IsWhole types code segment → key ≡ key_of types (record { code = code; bytes = bytes_of types code segment })) → key ≡ key_of types (segment_at (links_of types v) a)
lent-key types v a segment code key lent own is =
    let same : code_of segment ≡ code = ap code_of (sym lent.stored) ∙ own in
    is (subst (λ (c : ℕ). IsWhole types c segment) same lent.whole)
    ∙ ap (λ (c : ℕ). key_of types (record { code = c; bytes = bytes_of types c segment })) (sym same)
    ∙ ap (λ (s : List ℕ). key_of types (record { code = code_of s; bytes = bytes_of types (code_of s) s })) (sym lent.stored)

-- keys in order, by the type
in-order-by : (p r : List ℕ) (o : Option SegmentType)
    → option_map_or (λ t. option_map_or (λ k. cond k.unique (is_lt (slice_cmp nat_cmp (option_map_or (λ u. key_in u p) o []) (option_map_or (λ u. key_in u r) o [])))
    (is_le (slice_cmp nat_cmp (option_map_or (λ u. key_in u p) o []) (option_map_or (λ u. key_in u r) o [])))) t.key true) o false
    ≡ option_map_or (λ t. option_map_or (λ k. cond k.unique (is_lt (slice_cmp nat_cmp (key_in t p) (key_in t r))) (is_le (slice_cmp nat_cmp (key_in t p) (key_in t r)))) t.key true) o false
in-order-by p r None = refl
in-order-by p r (Some t) = refl

-- twins are in order where their keys are
pub twins-by : (types : List SegmentType) (p r : Segment) (code : ℕ) → p.code ≡ code → r.code ≡ code → keys_in_order types code (key_of types p) (key_of types r) ≡ twins_in_order types p r
twins-by types p r code pc rc =
    ap (λ (c : ℕ). keys_in_order types c (key_of types p) (key_of types r)) (sym rc)
    ∙ ap (λ (c : ℕ). keys_in_order types r.code (key_of types (record { code = c; bytes = p.bytes })) (key_of types r)) (pc ∙ sym rc)
    ∙ in-order-by p.bytes r.bytes (type_of types r.code)

-- what is asked of a key is so where there is none
no-key : (test : Key → Bool) (o : Option Key) → is_some o ≡ false → option_map_or test o true ≡ true
no-key test None h = refl
no-key test (Some k) h = cc

-- twins of a type without key are in order
unkeyed-by : (p r : List ℕ) (t : SegmentType) → is_some t.key ≡ false
    → option_map_or (λ k. cond k.unique (is_lt (slice_cmp nat_cmp (key_in t p) (key_in t r))) (is_le (slice_cmp nat_cmp (key_in t p) (key_in t r)))) t.key true ≡ true
unkeyed-by p r t none = no-key (λ k. cond k.unique (is_lt (slice_cmp nat_cmp (key_in t p) (key_in t r))) (is_le (slice_cmp nat_cmp (key_in t p) (key_in t r)))) t.key none

-- and so are those of the type of a code
pub unkeyed : (types : List SegmentType) (p r : Segment) (t : SegmentType) → type_of types r.code ≡ Some t → is_keyed types r.code ≡ false → twins_in_order types p r ≡ true
unkeyed types p r t is none =
    let own : is_some t.key ≡ false = ap (λ (o : Option SegmentType). option_map_or (λ u. is_some u.key) o false) (sym is) ∙ none in
    ap (λ (o : Option SegmentType). option_map_or (λ u. option_map_or (λ k. cond k.unique (is_lt (slice_cmp nat_cmp (key_in u p.bytes) (key_in u r.bytes))) (is_le (slice_cmp nat_cmp (key_in u p.bytes) (key_in u r.bytes)))) u.key true) o false) is
    ∙ unkeyed-by p.bytes r.bytes t own

module _ (d : Database) (v : VolumeState) (ps : List Place) (M : IsMatched d v ps) where
  -- the key of a segment of a type without key is right
  pub unkeyed-right : (i : ℕ) → i < length ps → is_keyed d.types (place_at ps i).code ≡ false → IsKeyRight d.types (links_of d.types v) (place_at ps i).address
  unkeyed-right i l none h b =
      let s = stands d v ps M i l in
      let f = segment-found d v (place_at ps i).address M.volume.fit M.volume s in
      let t = row_type d.types (segment_at (links_of d.types v) (place_at ps i).address) (row-found d v (place_at ps i).address f M.volume.fit) in
      unkeyed d.types (segment_at (links_of d.types v) h) (segment_at (links_of d.types v) (place_at ps i).address) t.0 t.1 (ap (is_keyed d.types) (coded d v ps M i l) ∙ none)

  -- and so is that of a segment without a twin before it
  pub first-right : (i h : ℕ) → i < length ps → Precedes d.types (links_of d.types v) h (place_at ps i).address → (IsPlaceOf (record { address = h; code = (place_at ps i).code }) ps → ⊥)
      → IsKeyRight d.types (links_of d.types v) (place_at ps i).address
  first-right i h l prec none q b =
      let same : q ≡ h = M.single.one (place_at ps i).address q h (stands d v ps M i l) (inl b) prec in
      absurd (none (twin-place d v ps M i h l (subst (λ (x : ℕ). IsTwinBefore (links_of d.types v) x (place_at ps i).address) same b)))

  -- the one twin before a segment
  pub twin-right : (i h : ℕ) → i < length ps → Precedes d.types (links_of d.types v) h (place_at ps i).address
      → twins_in_order d.types (segment_at (links_of d.types v) h) (segment_at (links_of d.types v) (place_at ps i).address) ≡ true → IsKeyRight d.types (links_of d.types v) (place_at ps i).address
  twin-right i h l prec right q b =
      let same : h ≡ q = M.single.one (place_at ps i).address h q (stands d v ps M i l) prec (inl b) in
      subst (λ (x : ℕ). twins_in_order d.types (segment_at (links_of d.types v) x) (segment_at (links_of d.types v) (place_at ps i).address) ≡ true) same right

  -- keys ascend where those of all places are right
  pub keys-ascend : ((i : ℕ) → i < length ps → IsKeyRight d.types (links_of d.types v) (place_at ps i).address) → KeysAscend d.types (links_of d.types v)
  keys-ascend right a h s b =
      (let n = number-at d v ps M a s in
      (subst (IsKeyRight d.types (links_of d.types v)) n.2 (right n.0 n.1)) h b)

  -- the line of the phase
  only-line : (P : Line → Type 0) → P OutOfOrder → (k : Line) → phase_of k ≡ 6 → P k
  only-line P a OutOfOrder h = a
  only-line P a k h = absurd (omega arith)

  -- the first key that is not right is the least fault
  pub order-least : (i h : ℕ) → i < length ps → ((j : ℕ) → j < i → IsKeyRight d.types (links_of d.types v) (place_at ps j).address)
      → IsOutOfOrder d.types (links_of d.types v) (place_at ps i).address h → IsLeastOf d v 6 (record { line = OutOfOrder; address = (place_at ps i).address; other = h })
  order-least i h l before wrong = record {
    of = refl;
    stands = wrong;
    least = λ k a o six. only-line (λ x. Stands d v x a o → ComesBefore x a OutOfOrder (place_at ps i).address → ⊥) (earlier a o) k six;
  }
    where
      earlier : (a o : ℕ) → Stands d v OutOfOrder a o → ComesBefore OutOfOrder a OutOfOrder (place_at ps i).address → ⊥
      earlier a o s (inl phase) = absurd (omega arith)
      earlier a o s (inr (same, inl less)) =
          (let n = number-below d v ps M i a l s.0 less in
          let right : IsKeyRight d.types (links_of d.types v) a = subst (IsKeyRight d.types (links_of d.types v)) n.3 (before n.0 n.1) in
          false≢true (sym s.2 ∙ right o s.1))
      earlier a o s (inr (same, inr both)) = (let number = both.1 in absurd (omega arith))
