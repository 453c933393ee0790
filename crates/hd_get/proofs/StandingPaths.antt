-- The path of the row of a type on the path where a PCB stands.
use Rattle.std.proofs.Common.{◌≡◌, ℕ, ◌-◌, List, [], ◌∷◌, ◌++◌, take, Option, Some, None, refl, sym, ap, ◌∙◌}
use Rattle.std.specs.Prelude.{option_map}
use Rattle.hd_dbd.specs.Hierarchy.{Database, level_of}
use Rattle.hd_dbd.specs.Positions.{Position}
use Rattle.hd_dbd.specs.Forest.{Forest}
use Rattle.hd_volume.specs.Volumes.{VolumeState}
use Rattle.hd_links.specs.Placed.{Placed}
use Rattle.hd_links.specs.Steps.{rows_of, address_at, path_at}
use Rattle.hd_image.specs.Records.{links_of, IsVolumeOf}
use Rattle.hd_position.specs.Kept.{Kept, path_passed, row_on}
use Rattle.hd_position.specs.Gets.{IsAt}
use Rattle.hd_calls.specs.Satisfies.{on_path_at}
use Rattle.hd_get.specs.First.{type_level}
use Rattle.hd_get.proofs.KeptRows.{standing_on}
use Rattle.hd_get.proofs.KeptPaths.{kept_rows, same_level, kept_row, kept_path}

module _ (d : Database) (v : VolumeState) (f : Forest Placed) (k : Kept) (q : Position) (of : IsVolumeOf d v) (at : IsAt d.types (links_of d.types v) f k q) where
  -- without a level there is no row of the type there
  pub no_row : (code : ℕ) → type_level d.types (rows_of f) q code ≡ None → on_path_at d.types (rows_of f) code q.standing ≡ None
  no_row code none = by (on_path_at d.types (rows_of f) code q.standing) none
    where
      by : (o : Option ℕ) → option_map (λ r. level_of d.types code) o ≡ None → o ≡ None
      by None e = refl
      by (Some r) e = cc

  -- the kept path down to its level is the path of the row of the type
  pub path_down : (code l : ℕ) → type_level d.types (rows_of f) q code ≡ Some l
      → option_map (λ a. take (l - 1) k.path ++ a ∷ []) (row_on k.path l) ≡ option_map (λ j. path_at d.types f j) (on_path_at d.types (rows_of f) code q.standing)
  path_down code l some = by (on_path_at d.types (rows_of f) code q.standing) refl some
    where
      by : (o : Option ℕ) → on_path_at d.types (rows_of f) code q.standing ≡ o → option_map (λ r. level_of d.types code) o ≡ Some l
          → option_map (λ a. take (l - 1) k.path ++ a ∷ []) (row_on k.path l) ≡ option_map (λ j. path_at d.types f j) o
      by None on e = cc
      by (Some r) on e =
          let level : level_of d.types code ≡ l = cc in
          let S = standing_on d.types (rows_of f) (kept_rows d v f k q of at) q.passed k.standing code r at.stands.within
          (row_on (path_passed d.types (rows_of f) q.passed) k.standing) refl (ap (on_path_at d.types (rows_of f) code) (sym at.stands.standing) ∙ on) in
          let there : row_on (path_passed d.types (rows_of f) q.passed) l ≡ Some r = ap (row_on (path_passed d.types (rows_of f) q.passed)) (sym level) ∙ S.1 in
          let kept : row_on k.path l ≡ Some (address_at f r) = same_level d v f k q of at l ∙ ap (option_map (λ j. address_at f j)) there in
          let K = kept_row d v f k q of at l (address_at f r) kept in
          let one : Some r ≡ Some K.0 = sym there ∙ K.1.on in
          let same : K.0 ≡ r = cc in
          ap (option_map (λ a. take (l - 1) k.path ++ a ∷ [])) kept
          ∙ ap (λ (xs : List ℕ). Some xs) (kept_path d v f k q of at l (address_at f r) K.0 K.1 kept ∙ ap (path_at d.types f) same)
