-- The climb along a path.
use Rattle.std.proofs.Common.{◌≡◌, ◌≢◌, ℕ, zero, suc, ◌+◌, ◌-◌, ◌<◌, List, [], ◌∷◌, ◌++◌, length, take, slice_index, true, Option, Some, refl, sym, ap, subst, ◌∙◌, arith, inl, inr}
use Rattle.std.specs.Prelude.{◌==◌, nat_lt}
use Rattle.std.proofs.lemmas.List.{take_more}
use Rattle.std.proofs.lemmas.Bool.{cond-false, le-ltb, eq-eqb, ne_eqb, cond-true}
use Rattle.hd_dbd.specs.Types.{SegmentType}
use Rattle.hd_dbd.specs.Hierarchy.{level_of, parent_of}
use Rattle.hd_dbd.specs.Rows.{row_fits}
use Rattle.hd_dbd.proofs.LevelLaw.{Leveled, depth_below}
use Rattle.hd_links.specs.Links.{Links, IsSegment, IsLinkGraph, segment_at, child_types, is_child_type}
use Rattle.hd_links.specs.Pointers.{PointersAreTyped}
use Rattle.hd_links.specs.Steps.{tip_from, first_some, child_among, later_than, behind_child, behind_from, behind_span, next_row}
use Rattle.hd_links.proofs.Counts.{segment_code}
use Rattle.hd_links.proofs.Types.{Ordered, types_ascend, is_in, in_head, in_tail, above_some}
use Rattle.hd_links.proofs.Build.{zero_or}
use Rattle.hd_links.proofs.Ways.{some_zero, some_own, some_both, behind_end, later_in}
use Rattle.hd_forest.specs.declared.walk.Ahead.{Ahead}
use Rattle.hd_forest.specs.Walks.{tip, parent_on, AreSegments, IsAhead, moved, next_on}
use Rattle.hd_forest.specs.Children.{child_behind}

-- ---- what stands beside a row

-- what stands behind the row a below h, as far as its twins and h tell
abbrev pub beside_of : List SegmentType → Links → ℕ → ℕ → ℕ
beside_of types m h a = first_some (m.forward a) (child_among m h (later_than (m.code a) (child_types types (m.code h))))

-- the header has no later child type than the roots'
pub none-later : (types : List SegmentType) (m : Links) (h a : ℕ) → h ≡ 0 → m.code 0 ≡ 0 → 0 < m.code a → beside_of types m h a ≡ m.forward a
none-later types m h a e header some =
    let kinds : child_types types (m.code h) ≡ 1 ∷ [] = ap (λ x. child_types types (m.code x)) e ∙ cond-true (m.code 0 == 0) _ _ (eq-eqb (m.code 0) 0 header) ∙ refl in
    let late : later_than (m.code a) (1 ∷ []) ≡ [] = cond-false (nat_lt (m.code a) 1) (1 ∷ []) [] (le-ltb (m.code a) 1 (omega arith)) in
    ap (λ (x : List ℕ). first_some (m.forward a) (child_among m h (later_than (m.code a) x))) kinds
    ∙ ap (λ (x : List ℕ). first_some (m.forward a) (child_among m h x)) late
    ∙ elim (zero_or (m.forward a)) [ inl z ↦ some_zero (m.forward a) 0 z ∙ sym z | inr p ↦ some_own (m.forward a) 0 p ]

-- ---- up the path

-- so many rows of a path, and the next one
take-one-more : (xs : List ℕ) (k : ℕ) → k < length xs → take (k + 1) xs ≡ take k xs ++ slice_index xs k ∷ []
take-one-more xs k l = take_more xs k 0 l

-- the span of the last of so many rows is followed by what is beside it, or by what follows the span of the one above it
pub up : (types : List SegmentType) (m : Links) (path : List ℕ) (k : ℕ) → k < length path
    → behind_span types m (take (k + 1) path) ≡ first_some (beside_of types m (tip (take k path)) (slice_index path k)) (behind_span types m (take k path))
up types m path k l =
    let a : ℕ = slice_index path k in
    let h : ℕ = tip (take k path) in
    ap (behind_span types m) (take-one-more path k l)
    ∙ behind_end types m 0 0 (take k path) a
    ∙ some_both (m.forward a) (child_among m h (later_than (m.code a) (child_types types (m.code h)))) (behind_span types m (take k path))

-- a path is its front and its last row
pub parted : (h : ℕ) (path : List ℕ) → 0 < length path → path ≡ take (length path - 1) path ++ tip_from h path ∷ []
parted h [] some = absurd (omega arith)
parted h (a ∷ []) some = refl
parted h (a ∷ (b ∷ path)) some =
    let e : length (a ∷ (b ∷ path)) - 1 ≡ suc (length (b ∷ path) - 1) = omega arith in
    ap (λ (xs : List ℕ). a ∷ xs) (parted a (b ∷ path) (omega arith)) ∙ ap (λ n. take n (a ∷ (b ∷ path)) ++ tip_from a (b ∷ path) ∷ []) (sym e)

-- behind the span of the last row of a path, which has no next twin, is the first row below its parent of a later type, or what is behind the parent's span
pub behind-twins : (types : List SegmentType) (m : Links) (path : List ℕ) → 0 < length path → m.forward (tip path) ≡ 0
    → behind_span types m path ≡ first_some (child_behind types m (parent_on path) (m.code (tip path))) (behind_span types m (take (length path - 1) path))
behind-twins types m path some none =
    let above : List ℕ = take (length path - 1) path in
    ap (behind_span types m) (parted 0 path some)
    ∙ behind_end types m 0 0 above (tip path)
    ∙ some_zero (m.forward (tip path)) (first_some (child_behind types m (parent_on path) (m.code (tip path))) (behind_span types m above)) none

-- ---- rows of the path, and where it goes, are segments

-- each row of the path is a segment
pub on-path : (m : Links) (path : List ℕ) (k : ℕ) → AreSegments m path → k < length path → IsSegment m (slice_index path k)
on-path m [] k s l = absurd (omega arith)
on-path m (a ∷ path) zero s l = s.0
on-path m (a ∷ path) (suc k) s l = on-path m path k s.1 (omega arith)

-- and so is the last, or it is the header
tip-here : (m : Links) (h : ℕ) (path : List ℕ) → m.here h ≡ true → AreSegments m path → m.here (tip_from h path) ≡ true
tip-here m h [] here s = here
tip-here m h (a ∷ path) here s = tip-here m a path s.0.here s.1

-- so many rows of the path are segments
pub take-segments : (m : Links) (k : ℕ) (path : List ℕ) → AreSegments m path → AreSegments m (take k path)
take-segments m zero path s = tt
take-segments m (suc k) [] s = tt
take-segments m (suc k) (a ∷ path) s = (s.0, take-segments m k path s.1)

-- a path of segments with one more
pub are-append : (m : Links) (path : List ℕ) (a : ℕ) → AreSegments m path → IsSegment m a → AreSegments m (path ++ a ∷ [])
are-append m [] a s t = (t, tt)
are-append m (x ∷ path) a s t = (s.0, are-append m path a s.1 t)

-- the row above one of the path is a record
pub above-here : (m : Links) (path : List ℕ) (k : ℕ) → m.here 0 ≡ true → AreSegments m path → m.here (tip (take k path)) ≡ true
above-here m path k header s = tip-here m 0 (take k path) header (take-segments m k path s)

-- the last of a path has an address
pub tip-some : (m : Links) (h : ℕ) (path : List ℕ) → AreSegments m path → 0 < length path → IsSegment m (tip_from h path)
tip-some m h [] s l = absurd (omega arith)
tip-some m h (a ∷ []) s l = s.0
tip-some m h (a ∷ (b ∷ path)) s l = tip-some m a (b ∷ path) s.1 (omega arith)

-- an address that is 0 or a segment's
abbrev pub MayBe : Links → ℕ → Type 0
MayBe m a = 0 < a → IsSegment m a

-- the first of two that is not 0 may be a segment
some-may : (m : Links) (x y : ℕ) → MayBe m x → MayBe m y → MayBe m (first_some x y)
some-may m x y p q = elim (zero_or x) [
  | inl z ↦ subst (MayBe m) (sym (some_zero x y z)) q
  | inr s ↦ subst (MayBe m) (sym (some_own x y s)) p
]

-- a first child may be one
among-may : (types : List SegmentType) (m : Links) → PointersAreTyped types m → (h : ℕ) (ts : List ℕ) → m.here h ≡ true → ((t : ℕ) → is_in ts t ≡ true → is_child_type types (m.code h) t ≡ true)
    → MayBe m (child_among m h ts)
among-may types m typed h [] here all = λ l. absurd (omega arith)
among-may types m typed h (t ∷ ts) here all = some-may m (m.first_child h t) (child_among m h ts)
    (λ l. record { some = l; here = (typed.first h t here (all t (in_head t t ts refl)) l).0 })
    (among-may types m typed h ts here (λ u q. all u (in_tail t u ts q)))

-- the first row below a record may be one
pub below-may : (types : List SegmentType) (m : Links) → PointersAreTyped types m → (h : ℕ) → m.here h ≡ true → MayBe m (child_among m h (child_types types (m.code h)))
below-may types m typed h here = among-may types m typed h (child_types types (m.code h)) here (λ t q. q)

-- what follows a span from h down may be one
behind-may : (types : List SegmentType) (m : Links) → PointersAreTyped types m → (h rest : ℕ) (path : List ℕ) → m.here h ≡ true → MayBe m rest → AreSegments m path
    → MayBe m (behind_from types m h rest path)
behind-may types m typed h rest [] here r s = r
behind-may types m typed h rest (a ∷ path) here r s = behind-may types m typed a (behind_child types m h rest a) path s.0.here
    (some-may m (m.forward a) (first_some (child_among m h (later_than (m.code a) (child_types types (m.code h)))) rest)
    (λ l. record { some = l; here = (typed.forward a s.0 l).0 })
    (some-may m (child_among m h (later_than (m.code a) (child_types types (m.code h)))) rest
    (among-may types m typed h (later_than (m.code a) (child_types types (m.code h))) here (λ t q. (later_in (m.code a) (child_types types (m.code h)) (types_ascend types (m.code h)) t q).1)) r))
    s.1

-- what follows the span of the last row of a path may be one
pub span-may : (types : List SegmentType) (m : Links) → PointersAreTyped types m → m.here 0 ≡ true → (path : List ℕ) → AreSegments m path → MayBe m (behind_span types m path)
span-may types m typed header path s = behind-may types m typed 0 0 path header (λ l. absurd (omega arith)) s

-- the next row may be one
pub next-may : (types : List SegmentType) (m : Links) → PointersAreTyped types m → m.here 0 ≡ true → (path : List ℕ) → AreSegments m path
    → MayBe m (first_some (child_among m (tip path) (child_types types (m.code (tip path)))) (behind_span types m path))
next-may types m typed header path s = some-may m (child_among m (tip path) (child_types types (m.code (tip path)))) (behind_span types m path)
    (below-may types m typed (tip path) (tip-here m 0 path header s)) (span-may types m typed header path s)

-- a step to an address leads to a path of segments
moved-segments : (types : List SegmentType) (m : Links) (path : List ℕ) (a : ℕ) → AreSegments m path → MayBe m a → AreSegments m (moved types m path a)
moved-segments types m path a s may =
    let row : List ℕ = take (level_of types (m.code a) - 1) path ++ a ∷ [] in
    elim (zero_or a) [
      | inl z ↦ subst (AreSegments m) (sym (cond-true (a == 0) [] row (eq-eqb a 0 z))) tt
      | inr l ↦
          subst (AreSegments m) (sym (cond-false (a == 0) [] row (ne_eqb a 0 (λ (e : a ≡ 0). omega arith))))
          (are-append m (take (level_of types (m.code a) - 1) path) a (take-segments m (level_of types (m.code a) - 1) path s) (may l))
    ]

-- and so does the step to the next row
pub next-segments : (types : List SegmentType) (m : Links) → PointersAreTyped types m → m.here 0 ≡ true → (path : List ℕ) → AreSegments m path → AreSegments m (next_on types m path)
next-segments types m typed header path s = moved-segments types m path (next_row types m path) s (next-may types m typed header path s)

-- ---- what the last row of a path names

-- behind no path is the first root
pub first-root : (types : List SegmentType) (m : Links) → m.code 0 ≡ 0 → next_row types m [] ≡ m.first_child 0 1
first-root types m header =
    let kinds : child_types types (m.code 0) ≡ 1 ∷ [] = cond-true (m.code 0 == 0) _ _ (eq-eqb (m.code 0) 0 header) in
    some-none (child_among m 0 (child_types types (m.code 0))) ∙ ap (child_among m 0) kinds ∙ some-none (m.first_child 0 1)
  where
    -- 0 adds nothing
    some-none : (x : ℕ) → first_some x 0 ≡ x
    some-none x = elim (zero_or x) [ inl z ↦ some_zero x 0 z ∙ sym z | inr p ↦ some_own x 0 p ]

-- a path whose last address is 0 is none
pub no-path : (m : Links) (path : List ℕ) → AreSegments m path → tip path ≡ 0 → path ≡ []
no-path m [] s e = refl
no-path m (a ∷ path) s e = absurd (let t = tip-some m 0 (a ∷ path) s (omega arith) in let some : 0 < tip (a ∷ path) = t.some in omega arith)

-- and the last address of another is a segment's
pub a-path : (m : Links) (path : List ℕ) → AreSegments m path → tip path ≢ 0 → (0 < length path) × IsSegment m (tip path)
a-path m [] s ne = absurd (ne refl)
a-path m (a ∷ path) s ne = (omega arith, tip-some m 0 (a ∷ path) s (omega arith))

-- the next twin of the last row of a path, if there is one, is behind its span
twin-behind : (types : List SegmentType) (m : Links) (h rest : ℕ) (path : List ℕ) → 0 < length path → 0 < m.forward (tip_from h path) → behind_from types m h rest path ≡ m.forward (tip_from h path)
twin-behind types m h rest [] l some = absurd (omega arith)
twin-behind types m h rest (a ∷ []) l some = some_own (m.forward a) (first_some (child_among m h (later_than (m.code a) (child_types types (m.code h)))) rest) some
twin-behind types m h rest (a ∷ (b ∷ path)) l some = twin-behind types m a (behind_child types m h rest a) (b ∷ path) (omega arith) some

-- what is not 0 is above it
some-one : (x : ℕ) → x ≢ 0 → 0 < x
some-one x ne = elim (zero_or x) [ inl z ↦ absurd (ne z) | inr p ↦ p ]

-- where an address is not 0, a step leads to it
moved-to : (types : List SegmentType) (m : Links) (path : List ℕ) (a : ℕ) → 0 < a → moved types m path a ≡ take (level_of types (m.code a) - 1) path ++ a ∷ []
moved-to types m path a some = cond-false (a == 0) [] (take (level_of types (m.code a) - 1) path ++ a ∷ []) (ne_eqb a 0 (λ (e : a ≡ 0). omega arith))

-- the first child of some types in order, if there is one, is that of one of the types
among-of : (m : Links) (h : ℕ) (ts : List ℕ) → 0 < child_among m h ts → (t : ℕ) × (is_in ts t ≡ true) × (m.first_child h t ≡ child_among m h ts)
among-of m h [] l = absurd (omega arith)
among-of m h (t ∷ ts) l = elim (zero_or (m.first_child h t)) [
  | inl z ↦
      (let same : first_some (m.first_child h t) (child_among m h ts) ≡ child_among m h ts = some_zero (m.first_child h t) (child_among m h ts) z in
      let rest = among-of m h ts (subst (λ x. 0 < x) same l) in (rest.0, in_tail t rest.0 ts rest.1, rest.2 ∙ sym same))
  | inr p ↦ (t, in_head t t ts refl, sym (some_own (m.first_child h t) (child_among m h ts) p))
]

-- the first row below a segment is of a type one level below the segment's
pub level-below : (types : List SegmentType) (m : Links) (bound : ℕ) → Ordered types → Leveled types → IsLinkGraph types bound m → PointersAreTyped types m → (a below : ℕ) → IsSegment m a
    → below ≡ child_among m a (child_types types (m.code a)) → 0 < below → level_of types (m.code below) ≡ level_of types (m.code a) + 1
level-below types m bound O leveled G typed a below there is some =
    let c = among-of m a (child_types types (m.code a)) (subst (λ x. 0 < x) is some) in
    let t : ℕ = c.0 in
    let own : m.first_child a t ≡ below = c.2 ∙ sym is in
    let named = typed.first a t there.here c.1 (subst (λ x. 0 < x) (sym own) some) in
    let code : m.code below ≡ t = ap m.code (sym own) ∙ named.1 in
    let here : m.here below ≡ true = ap m.here (sym own) ∙ named.0 in
    let fits : row_fits types (segment_at m below) ≡ true = G.fits below (record { some = some; here = here }) in
    let parent : parent_of types (m.code below) ≡ Some (m.code a) =
    O.parent (m.code a) (segment_at m below) fits (ap (is_child_type types (m.code a)) code ∙ c.1) ∙ above_some (m.code a) (segment_code types O bound m G a there) in
    leveled.law (segment_at m below) fits ∙ ap (λ (o : Option ℕ). depth_below types o + 1) parent

-- a segment that names no row ahead of it names none
pub nothing-ahead : (types : List SegmentType) (m : Links) (a : ℕ) (ahead : Ahead) → IsAhead types m a ahead → ahead.below ≡ 0 → ahead.twin ≡ 0 → IsAhead types m a (record { below = 0; twin = 0; code = ahead.code })
nothing-ahead types m a ahead is below twin = record {
  below = sym below ∙ is.below;
  twin = sym twin ∙ is.twin;
  code = is.code;
}

module _ (types : List SegmentType) (m : Links) (path : List ℕ) (last below : ℕ) (at : last ≡ tip path) (is : below ≡ child_among m last (child_types types (m.code last))) where
  -- what was found below the last of a path
  below-tip : below ≡ child_among m (tip path) (child_types types (m.code (tip path)))
  below-tip = is ∙ ap (λ x. child_among m x (child_types types (m.code x))) at

  -- where a row is below the last of a path, the first of them is next
  pub next-below : below ≢ 0 → below ≡ next_row types m path
  next-below some = below-tip ∙ sym (some_own (child_among m (tip path) (child_types types (m.code (tip path)))) (behind_span types m path) (subst (λ x. 0 < x) below-tip (some-one below some)))

  -- and it is a level below the last
  pub next-deeper : (bound : ℕ) → Ordered types → Leveled types → IsLinkGraph types bound m → PointersAreTyped types m → AreSegments m path → tip path ≢ 0 → (code : ℕ) → code ≡ m.code last → below ≢ 0
      → (take (level_of types code) path ++ below ∷ [] ≡ next_on types m path) × (level_of types (m.code below) ≡ level_of types code + 1)
  next-deeper bound O leveled G typed s some code own more =
      let level : level_of types (m.code below) ≡ level_of types code + 1 =
      level-below types m bound O leveled G typed (tip path) below (a-path m path s some).1 below-tip (some-one below more) ∙ ap (λ c. level_of types c + 1) (sym (own ∙ ap m.code at)) in (
        ap (λ (n : ℕ). take n path ++ below ∷ []) (let e : level_of types code ≡ level_of types (m.code below) - 1 = omega arith in e)
            ∙ sym (moved-to types m path below (some-one below more))
            ∙ ap (moved types m path) (next-below more),
        level,
      )

  -- where none is, what is behind its span
  pub next-over : below ≡ 0 → behind_span types m path ≡ next_row types m path
  next-over none = sym (some_zero (child_among m (tip path) (child_types types (m.code (tip path)))) (behind_span types m path) (sym below-tip ∙ none))

  -- and that is its next twin, if there is one, of its type and so of its level
  pub next-twin : PointersAreTyped types m → AreSegments m path → last ≢ 0 → (twin code : ℕ) → twin ≡ m.forward last → code ≡ m.code last → below ≡ 0 → twin ≢ 0
      → take (level_of types code - 1) path ++ twin ∷ [] ≡ next_on types m path
  next-twin typed s some twin code names own none more =
      let P = a-path m path s (λ e. some (at ∙ e)) in
      let named : twin ≡ m.forward (tip path) = names ∙ ap m.forward at in
      let behind : 0 < m.forward (tip path) = subst (λ x. 0 < x) named (some-one twin more) in
      ap (λ (c : ℕ). take (level_of types c - 1) path ++ twin ∷ []) (own ∙ ap m.code at ∙ sym (typed.forward (tip path) P.1 behind).1 ∙ ap m.code (sym named))
      ∙ sym (moved-to types m path twin (some-one twin more))
      ∙ ap (moved types m path) (named ∙ sym (twin-behind types m 0 0 path P.0 behind) ∙ next-over none)

-- behind the span of a root that has no next twin is nothing
pub behind-roots : (types : List SegmentType) (m : Links) (path : List ℕ) → AreSegments m path → m.code 0 ≡ 0 → 0 < m.code (tip path) → 0 < length path → m.forward (tip path) ≡ 0 → parent_on path ≡ 0
    → behind_span types m path ≡ 0
behind-roots types m path s header code some none root =
    let above : List ℕ = take (length path - 1) path in
    let a : ℕ = tip path in
    let nothing : above ≡ [] = no-path m above (take-segments m (length path - 1) path s) root in
    let later : child_behind types m (parent_on path) (m.code a) ≡ 0 =
    sym (some_zero (m.forward a) (child_behind types m (parent_on path) (m.code a)) none) ∙ none-later types m (parent_on path) a root header code ∙ none in
    behind-twins types m path some none
    ∙ some_zero (child_behind types m (parent_on path) (m.code a)) (behind_span types m above) later
    ∙ ap (behind_span types m) nothing
