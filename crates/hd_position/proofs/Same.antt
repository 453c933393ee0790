-- What is kept stands for the same position, where a row gets other bytes.
use Rattle.std.proofs.Common.{◌≡◌, ℕ, zero, suc, ◌+◌, ◌≤◌, List, [], ◌∷◌, ◌++◌, length, get_or, arith, ap, sym, ◌∙◌, refl, inl, inr}
use Rattle.std.specs.Prelude.{map, slice_set}
use Rattle.std.proofs.lemmas.Bool.{cases_eq}
use Rattle.std.proofs.lemmas.List.{length-set, get_or-set_same, get_or-set_other}
use Rattle.hd_dbd.specs.Types.{SegmentType}
use Rattle.hd_dbd.specs.Hierarchy.{level_of}
use Rattle.hd_dbd.specs.Segment.{Segment}
use Rattle.hd_dbd.specs.Paths.{row_at, no_row, level_at, path_above, path_of}
use Rattle.hd_dbd.specs.Positions.{Position}
use Rattle.hd_dbd.specs.Forest.{Forest}
use Rattle.hd_links.specs.Placed.{Placed}
use Rattle.hd_links.specs.Changes.{with_bytes}
use Rattle.hd_links.specs.Steps.{rows_of, addresses, address_at}
use Rattle.hd_links.specs.Laws.{BytesChangeOneRow}
use Rattle.hd_position.specs.Kept.{Kept, StandsFor, path_passed, row_on}
use Rattle.hd_position.specs.Laws.{ReplacingKeepsPositions}
use Rattle.hd_position.proofs.Splices.{IsSpliced, front_above}

module _ (types : List SegmentType) (few many : List Segment) (S : (x : ℕ) → level_at types many x ≡ level_at types few x) where
  none : (n : ℕ) → IsSpliced types few many n 0
  none n = record {
    front = λ x l. S x;
    back = λ x l. ap (level_at types many) (let e : x + 0 ≡ x = omega arith in e) ∙ S x;
    deep = λ x a b. absurd (omega arith);
  }

  path_same : (j : ℕ) → path_of types many j ≡ path_of types few j
  path_same j = ap (λ v. path_above types many v j ++ j ∷ []) (S j) ∙ ap (λ (xs : List ℕ). xs ++ j ∷ []) (front_above types few many j 0 (none j) (level_at types few j) j (omega arith))

  pub passed_same : (n : ℕ) → path_passed types many n ≡ path_passed types few n
  passed_same zero = refl
  passed_same (suc j) = path_same j

pub stands_same : (types : List SegmentType) (f f2 : Forest Placed) (k : Kept) (q : Position) → ((x : ℕ) → level_at types (rows_of f2) x ≡ level_at types (rows_of f) x) → addresses f2 ≡ addresses f
    → length (rows_of f2) ≡ length (rows_of f) → StandsFor types f k q → StandsFor types f2 k q
stands_same types f f2 k q S A long F =
    let path : path_passed types (rows_of f) q.passed ≡ path_passed types (rows_of f2) q.passed = sym (passed_same types (rows_of f) (rows_of f2) S q.passed) in
    record {
      within = (let w : q.passed ≤ length (rows_of f) = F.within in omega arith);
      path = F.path ∙ ap (λ (xs : List ℕ). map (λ j. get_or xs j 0) (path_passed types (rows_of f) q.passed)) (sym A) ∙ ap (map (λ j. address_at f2 j)) path;
      standing = F.standing ∙ ap (λ (p : List ℕ). row_on p k.standing) path;
      last = F.last;
      parent = F.parent ∙ ap (λ (p : List ℕ). row_on p k.parent) path;
      held = F.held ∙ ap (λ (p : List ℕ). map (λ l. row_on p l) k.held) path;
      standing_level = F.standing_level;
      parent_level = F.parent_level;
      held_levels = F.held_levels;
    }

pub replacing_keeps : BytesChangeOneRow → ReplacingKeepsPositions
replacing_keeps law types m f i bytes k q H within F =
    let T = law types m f i bytes H within in
    let f2 : Forest Placed = with_bytes (address_at f i) bytes f in
    let new : Segment = record { code = (row_at (rows_of f) i).code; bytes = bytes } in
    let same : (x : ℕ) → level_at types (rows_of f2) x ≡ level_at types (rows_of f) x = (λ x. elim (cases_eq x i) [
      | inl e ↦ ap (λ (rs : List Segment). level_of types (get_or rs x no_row).code) T.0 ∙ ap (λ j. level_of types (get_or (slice_set (rows_of f) i new) j no_row).code) e
          ∙ ap (λ (r : Segment). level_of types r.code) (get_or-set_same (rows_of f) i new no_row within) ∙ ap (level_at types (rows_of f)) (sym e)
      | inr ne ↦ ap (λ (rs : List Segment). level_of types (get_or rs x no_row).code) T.0 ∙ ap (λ (r : Segment). level_of types r.code) (get_or-set_other (rows_of f) i x new no_row ne)
    ]) in
    stands_same types f f2 k q same T.1 (ap (λ (rs : List Segment). length rs) T.0 ∙ length-set (rows_of f) i new) F
