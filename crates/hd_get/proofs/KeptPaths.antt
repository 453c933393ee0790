-- The addresses at the levels of what is kept of a PCB.
use Rattle.std.proofs.Common.{◌≡◌, ℕ, zero, suc, ◌-◌, ◌<◌, ◌≤◌, List, [], ◌∷◌, ◌++◌, length, take, Ok, Option, Some, None, refl, sym, ap, subst, ◌∙◌, arith}
use Rattle.std.specs.Prelude.{map, slice_get, option_map}
use Rattle.std.proofs.lemmas.List.{length-map}
use Rattle.hd_dbd.specs.Hierarchy.{Database}
use Rattle.hd_dbd.specs.Segment.{Segment}
use Rattle.hd_dbd.specs.Paths.{row_at}
use Rattle.hd_dbd.specs.Positions.{Position}
use Rattle.hd_dbd.specs.Forest.{Forest}
use Rattle.hd_volume.specs.Volumes.{VolumeState}
use Rattle.hd_volume.specs.Calls.{IsRead}
use Rattle.hd_links.specs.Links.{IsSegment}
use Rattle.hd_links.specs.Placed.{Placed}
use Rattle.hd_links.specs.Steps.{rows_of, address_at, path_at}
use Rattle.hd_image.specs.Records.{links_of, IsVolumeOf}
use Rattle.hd_forest.specs.Rows.{IsOnRow}
use Rattle.hd_forest.proofs.Reading.{after-read}
use Rattle.hd_position.specs.Kept.{Kept, path_passed, row_on}
use Rattle.hd_position.specs.Gets.{IsAt}
use Rattle.hd_position.proofs.Rising.{row_on_map}
use Rattle.hd_position.proofs.Leaving.{passed_below}
use Rattle.hd_calls.specs.Admits.{AreRowsOf}
use Rattle.hd_get.specs.Starts.{IsKeptIn}
use Rattle.hd_get.proofs.Grounds.{Grounds, grounds, held_rows}
use Rattle.hd_get.proofs.Starts.{on_below}
use Rattle.hd_get.proofs.RowsAbove.{take_map}
use Rattle.hd_get.proofs.KeptRows.{last_passed, path_row_is}

-- a position is where it was after a call that read
pub kept_told : {A : Type 0} {x : A} (d : Database) (u v : VolumeState) → IsRead {T = A} u (Ok x) v → (f : Forest Placed) (k : Kept) (q : Position) → IsKeptIn d u f k q → IsKeptIn d v f k q
kept_told d u v read f k q at =
    let same = after-read d u v read at.sound in
    record { sound = same.sound; at = subst (λ m. IsAt d.types m f k q) (sym same.links) at.at }

-- what was read on the kept path at a level
pub read_there : (k : Kept) (path : List ℕ) (level a : ℕ) (o : Option ℕ) → path ≡ k.path → o ≡ row_on path level → o ≡ Some a → row_on k.path level ≡ Some a
read_there k path level a o e is some = ap (λ (xs : List ℕ). row_on xs level) (sym e) ∙ sym is ∙ some

pub read_none : (k : Kept) (path : List ℕ) (level : ℕ) (o : Option ℕ) → path ≡ k.path → o ≡ row_on path level → o ≡ None → row_on k.path level ≡ None
read_none k path level o e is none = ap (λ (xs : List ℕ). row_on xs level) (sym e) ∙ sym is ∙ none

-- a list down to a place with what stands there
take_row : (xs : List ℕ) (l a : ℕ) → row_on xs l ≡ Some a → take (l - 1) xs ++ a ∷ [] ≡ take l xs
take_row xs zero a e = cc
take_row xs (suc l) a e = ap (λ n. take n xs ++ a ∷ []) (let z : suc l - 1 ≡ l = omega arith in z) ∙ go xs l a e
  where
    go : (xs : List ℕ) (l a : ℕ) → slice_get xs l ≡ Some a → take l xs ++ a ∷ [] ≡ take (suc l) xs
    go [] l a e = cc
    go (x ∷ xs) zero a e = (let same : x ≡ a = cc in ap (λ (y : ℕ). y ∷ []) (sym same))
    go (x ∷ xs) (suc l) a e = ap (λ (ys : List ℕ). x ∷ ys) (go xs l a e)

module _ (d : Database) (v : VolumeState) (f : Forest Placed) (k : Kept) (q : Position) (of : IsVolumeOf d v) (at : IsAt d.types (links_of d.types v) f k q) where
  ground : Grounds d.types (links_of d.types v) f
  ground = grounds d v f of at.holds

  pub kept_rows : AreRowsOf d.types (rows_of f)
  kept_rows = held_rows d v f of at.holds

  -- The address at a level is that of a row on the path of the last row passed.
  pub record IsKept (l a x : ℕ) : Type 0 where
    pub on : row_on (path_passed d.types (rows_of f) q.passed) l ≡ Some x
    pub is : address_at f x ≡ a
    pub within : x < length (rows_of f)

  pub same_level : (l : ℕ) → row_on k.path l ≡ option_map (λ j. address_at f j) (row_on (path_passed d.types (rows_of f) q.passed) l)
  same_level l = ap (λ (xs : List ℕ). row_on xs l) at.stands.path ∙ row_on_map (λ j. address_at f j) (path_passed d.types (rows_of f) q.passed) l

  pub kept_row : (l a : ℕ) → row_on k.path l ≡ Some a → (x : ℕ) × IsKept l a x
  kept_row l a e = by (row_on (path_passed d.types (rows_of f) q.passed) l) refl (sym (same_level l) ∙ e)
    where
      by : (o : Option ℕ) → row_on (path_passed d.types (rows_of f) q.passed) l ≡ o → option_map (λ j. address_at f j) o ≡ Some a → (x : ℕ) × IsKept l a x
      by None on is = cc
      by (Some x) on is = (
        x,
        record {
          on = on;
          is = (let z : address_at f x ≡ a = cc in z);
          within =
              let below : x < q.passed = on_below q.passed (path_passed d.types (rows_of f) q.passed) l x (passed_below d.types (rows_of f) q.passed) on in
              let most : q.passed ≤ length (rows_of f) = at.stands.within in omega arith;
        },
      )

  pub kept_none : (l : ℕ) → row_on k.path l ≡ None → row_on (path_passed d.types (rows_of f) q.passed) l ≡ None
  kept_none l e = by (row_on (path_passed d.types (rows_of f) q.passed) l) (sym (same_level l) ∙ e)
    where
      by : (o : Option ℕ) → option_map (λ j. address_at f j) o ≡ None → o ≡ None
      by None is = refl
      by (Some x) is = cc

  pub kept_there : (l a : ℕ) → row_on k.path l ≡ Some a → IsSegment (links_of d.types v) a
  kept_there l a e = (let K = kept_row l a e in subst (IsSegment (links_of d.types v)) K.1.is (ground.addressed.there K.0 K.1.within))

  pub kept_code : (l a x : ℕ) → IsKept l a x → (links_of d.types v).code a ≡ (row_at (rows_of f) x).code
  kept_code l a x K = ap (links_of d.types v).code (sym K.is) ∙ ap (λ (r : Segment). r.code) (ground.addressed.same x K.within)

  -- the level of the row on which the PCB stands is on the path
  pub standing_short : k.standing ≤ length (path_passed d.types (rows_of f) q.passed)
  standing_short =
      (let high : k.standing ≤ length k.path = at.stands.standing_level in
      let size : length k.path ≡ length (path_passed d.types (rows_of f) q.passed)
      = ap (λ (xs : List ℕ). length xs) at.stands.path ∙ length-map (path_passed d.types (rows_of f) q.passed) (λ j. address_at f j) in omega arith)

  -- the path down to a level is that of the row there
  pub kept_path : (l a x : ℕ) → IsKept l a x → row_on k.path l ≡ Some a → take (l - 1) k.path ++ a ∷ [] ≡ path_at d.types f x
  kept_path l a x K e =
      let M = last_passed d.types (rows_of f) q.passed l x K.on in
      let few : q.passed ≡ suc M.0 = M.1 in
      let most : q.passed ≤ length (rows_of f) = at.stands.within in
      let P = path_row_is d.types (rows_of f) kept_rows M.0 l x (omega arith) (subst (λ n. row_on (path_passed d.types (rows_of f) n) l ≡ Some x) M.1 K.on) in
      take_row k.path l a e
      ∙ ap (take l) at.stands.path
      ∙ take_map (λ j. address_at f j) l (path_passed d.types (rows_of f) q.passed)
      ∙ ap (λ n. map (λ j. address_at f j) (take l (path_passed d.types (rows_of f) n))) M.1
      ∙ ap (map (λ j. address_at f j)) (sym P.path)

  -- the path up to a level, where there is one
  pub up_to : (l : ℕ) (path : List ℕ) (o : Option (List ℕ)) → o ≡ option_map (λ a. take (l - 1) k.path ++ a ∷ []) (row_on k.path l) → o ≡ Some path
      → (x : ℕ) × IsOnRow d.types (links_of d.types v) f path x × (row_on (path_passed d.types (rows_of f) q.passed) l ≡ Some x) × (row_on k.path l ≡ Some (address_at f x))
  up_to l path o is some = by (row_on k.path l) refl (sym is ∙ some)
    where
      by : (r : Option ℕ) → row_on k.path l ≡ r → option_map (λ a. take (l - 1) k.path ++ a ∷ []) r ≡ Some path
          → (x : ℕ) × IsOnRow d.types (links_of d.types v) f path x × (row_on (path_passed d.types (rows_of f) q.passed) l ≡ Some x) × (row_on k.path l ≡ Some (address_at f x))
      by None e made = cc
      by (Some a) e made =
          let K = kept_row l a e in
          let same : take (l - 1) k.path ++ a ∷ [] ≡ path = cc in
          (K.0, record { holds = at.holds; within = K.1.within; is = sym same ∙ kept_path l a K.0 K.1 e }, K.1.on, e ∙ ap (λ (b : ℕ). Some b) (sym K.1.is))

  -- where there is none, no row stands there
  pub up_none : (l : ℕ) (o : Option (List ℕ)) → o ≡ option_map (λ a. take (l - 1) k.path ++ a ∷ []) (row_on k.path l) → o ≡ None → row_on k.path l ≡ None
  up_none l o is none = by (row_on k.path l) (sym is ∙ none)
    where
      by : (r : Option ℕ) → option_map (λ a. take (l - 1) k.path ++ a ∷ []) r ≡ None → r ≡ None
      by None made = refl
      by (Some a) made = cc
