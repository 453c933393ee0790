-- The sequence of a forest that fits is valid.
use Rattle.std.proofs.Common.{◌≡◌, ℕ, ◌+◌, ◌-◌, List, [], ◌∷◌, ◌++◌, length, Bool, true, false, ◌&&◌, arith, ap, sym, ◌∙◌, Option, Some, None, refl}
use Rattle.std.specs.Prelude.{slice_get, ◌==◌}
use Rattle.std.specs.Option.{option_map_or}
use Rattle.std.proofs.lemmas.Bool.{and_parts, and_from, eq-eqb}
use Rattle.std.proofs.lemmas.List.{append_assoc, append-nil, take_at, length-append}
use Rattle.hd_dbd.specs.Types.{SegmentType}
use Rattle.hd_dbd.specs.Segment.{Segment}
use Rattle.hd_dbd.specs.Hierarchy.{parent_of}
use Rattle.hd_dbd.specs.Rows.{valid_from, may_follow, next_path, level, is_below, is_in_order, row_fits, siblings_in_order}
use Rattle.hd_dbd.specs.Forest.{Forest, empty, node, sequence, fits_below}
use Rattle.hd_dbd.proofs.LevelLaw.{Leveled, depth_below}
use Rattle.hd_dbd.proofs.Names.{option_eq-Decides}

-- the path ends with a row of the parent's type
abbrev pub EndsWith : Option ℕ → List Segment → Type 0
EndsWith None path = Unit {0}
EndsWith (Some p) path = (q : Segment) × (front : List Segment) × (path ≡ front ++ q ∷ []) × (q.code ≡ p)

-- what stands behind a list is what the other list begins with
pub slice_get_behind : (xs ys : List Segment) → slice_get (xs ++ ys) (length xs) ≡ slice_get ys 0
slice_get_behind [] ys = refl
slice_get_behind (x ∷ xs) ys = slice_get_behind xs ys

-- a place from which a path with this end is read is that of the parent
pub end_at : (types : List SegmentType) (front path Q : List Segment) (r q : Segment) → path ≡ front ++ q ∷ [] → level types r ≡ length path + 1
    → slice_get (path ++ Q) (level types r - 2) ≡ Some q
end_at types front path Q r q is at =
    let place : level types r - 2 ≡ length front = omega (arith, at, ap (λ (xs : List Segment). length xs) is, length-append front (q ∷ [])) in
    ap (λ (k : ℕ). slice_get (path ++ Q) k) place
    ∙ ap (λ (xs : List Segment). slice_get xs (length front)) (ap (λ (xs : List Segment). xs ++ Q) is ∙ append_assoc front (q ∷ []) Q)
    ∙ slice_get_behind front (q ∷ Q)

-- the row may stand below the parent that the path ends with
below_by : (types : List SegmentType) (P Q : List Segment) (r : Segment) (parent : Option ℕ) → EndsWith parent P → level types r ≡ length P + 1
    → option_map_or (λ p. option_map_or (λ q. q.code == p) (slice_get (P ++ Q) (level types r - 2)) false) parent true ≡ true
below_by types P Q r None ends at = refl
below_by types P Q r (Some p) ends at =
    ap (λ (o : Option Segment). option_map_or (λ s. s.code == p) o false) (end_at types ends.1 P Q r ends.0 ends.2 at) ∙ eq-eqb ends.0.code p ends.3

follows : (types : List SegmentType) (P Q : List Segment) (r : Segment) (parent : Option ℕ) (before : Option Segment) → EndsWith parent P
    → level types r ≡ length P + 1 → slice_get Q 0 ≡ before → row_fits types r ≡ true → parent_of types r.code ≡ parent
    → option_map_or (λ p. siblings_in_order types p r) before true ≡ true → may_follow types (P ++ Q) r ≡ true
follows types P Q r parent before ends at first fits own order =
    let one_up : level types r - 1 ≡ length P = omega arith in
    let below : is_below types (P ++ Q) r ≡ true =
    ap (λ (o : Option ℕ). option_map_or (λ p. option_map_or (λ q. q.code == p) (slice_get (P ++ Q) (level types r - 2)) false) o true) own ∙ below_by types P Q r parent ends at in
    let in_order : is_in_order types (P ++ Q) r ≡ true =
    ap (λ (k : ℕ). option_map_or (λ p. siblings_in_order types p r) (slice_get (P ++ Q) k) true) one_up
    ∙ ap (λ (o : Option Segment). option_map_or (λ p. siblings_in_order types p r) o true) (slice_get_behind P Q ∙ first) ∙ order in
    and_from _ _ (and_from _ _ fits below) in_order

-- the path of a row that stands just below the path's first part
pub next_is : (types : List SegmentType) (P Q : List Segment) (r : Segment) → level types r ≡ length P + 1 → next_path types (P ++ Q) r ≡ P ++ r ∷ []
next_is types P Q r at =
    let one_up : length P ≡ level types r - 1 = omega arith in
    ap (λ (xs : List Segment). xs ++ r ∷ []) (take_at P Q (level types r - 1) one_up)

-- after a forest that fits, the rest is judged from a path with the same parents
pub walk : (types : List SegmentType) (leveled : Leveled types) (f : Forest Segment) (P Q rest : List Segment) (parent : Option ℕ) (before : Option Segment)
    → length P ≡ depth_below types parent → EndsWith parent P → slice_get Q 0 ≡ before → fits_below types parent before f ≡ true
    → (last : List Segment) × (valid_from types (P ++ Q) (sequence f ++ rest) ≡ valid_from types (P ++ last) rest)
walk types leveled empty P Q rest parent before deep ends first fits = (Q, refl)
walk types leveled (node r below behind) P Q rest parent before deep ends first fits =
    let all = and_parts _ _ fits in
    let b = and_parts _ _ all.0 in
    let o = and_parts _ _ b.0 in
    let p = and_parts _ _ o.0 in
    let own : parent_of types r.code ≡ parent = (option_eq-Decides _ _).0 p.1 in
    let at : level types r ≡ length P + 1 = leveled.law r p.0 ∙ ap (λ (q : Option ℕ). depth_below types q + 1) own ∙ ap (λ (n : ℕ). n + 1) (sym deep) in
    let down = walk types leveled below (P ++ r ∷ []) [] (sequence behind ++ rest) (Some r.code) None
    (length-append P (r ∷ []) ∙ sym at) (r, P, refl, refl) refl b.1 in
    let on = walk types leveled behind P (r ∷ down.0) rest parent (Some r) deep ends refl all.1 in (
      on.0,
      ap (λ (t : Bool). t && valid_from types (next_path types (P ++ Q) r) ((sequence below ++ sequence behind) ++ rest)) (follows types P Q r parent before ends at first p.0 own o.1)
          ∙ ap (λ (path : List Segment). valid_from types path ((sequence below ++ sequence behind) ++ rest)) (next_is types P Q r at ∙ sym (append-nil (P ++ r ∷ [])))
          ∙ ap (λ (rows : List Segment). valid_from types ((P ++ r ∷ []) ++ []) rows) (append_assoc (sequence below) (sequence behind) rest)
          ∙ down.1
          ∙ ap (λ (path : List Segment). valid_from types path (sequence behind ++ rest)) (append_assoc P (r ∷ []) down.0)
          ∙ on.1,
    )
