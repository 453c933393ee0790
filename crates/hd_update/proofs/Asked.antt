-- The new bytes that REPL's area has for the held rows.
use Rattle.std.proofs.Common.{◌≡◌, ℕ, ◌+◌, ◌-◌, ◌≤◌, List, [], ◌∷◌, ◌++◌, length, take, drop, not, true, Ok, refl, ap, sym, ◌∙◌, subst, arith, length-drop, inl, inr}
use Rattle.std.specs.Prelude.{map}
use Rattle.std.proofs.Math.Seq.{take-append_seam}
use Rattle.std.proofs.lemmas.Bool.{cases_Bool, cond-true, cond-false}
use Rattle.std.proofs.lemmas.List.{drop-drop, length-append}
use Rattle.hd_dbd.specs.Types.{SegmentType}
use Rattle.hd_dbd.specs.Paths.{row_at}
use Rattle.hd_dbd.specs.Rows.{row_fits}
use Rattle.hd_dbd.specs.Forest.{Forest}
use Rattle.hd_calls.specs.Ssas.{Ssa}
use Rattle.hd_calls.specs.Moves.{Rewrite}
use Rattle.hd_calls.specs.Steps.{Part, divide, is_excepted, held_part, rewrites_of, rewrites_asked}
use Rattle.hd_calls.proofs.Areas.{IsPart, part_asked, IsCut, cut, part_in_front}
use Rattle.hd_links.specs.Placed.{Placed}
use Rattle.hd_links.specs.Steps.{rows_of}
use Rattle.hd_position.proofs.Splices.{AllBelow}
use Rattle.hd_update.specs.Held.{held_row, held_rows}
use Rattle.hd_update.specs.Replacing.{part_of, parts_held, new_bytes_from, AreInArea, AreRewritesOf}
use Rattle.hd_update.specs.declared.held.HeldRow.{HeldRow}
use Rattle.hd_update.specs.declared.rewrites.NewBytes.{NewBytes}

-- the parts of the held rows
pub held_parts : (ssas : List Ssa) (f : Forest Placed) (held : List ℕ) → map (λ i. held_part (rows_of f) ssas i) held ≡ map (λ h. part_of ssas h) (held_rows f held)
held_parts ssas f [] = refl
held_parts ssas f (i ∷ is) = ap (λ (ps : List Part). held_part (rows_of f) ssas i ∷ ps) (held_parts ssas f is)

-- what stands in front of an area is as long as it is, and the area no shorter
in_front : (bytes rest area : List ℕ) → bytes ++ rest ≡ area → (take (length bytes) area ≡ bytes) × (length bytes ≤ length area)
in_front bytes rest area is =
    let sum : length area ≡ length bytes + length rest = ap (λ (xs : List ℕ). length xs) (sym is) ∙ length-append bytes rest in
    (ap (take (length bytes)) (sym is) ∙ take-append_seam bytes rest, omega arith)

module _ (types : List SegmentType) (f : Forest Placed) (ssas : List Ssa) (area : List ℕ) where
  asked : (held : List ℕ) (start : ℕ) (parts : List (List ℕ)) → AllBelow (length (rows_of f)) held → start ≤ length area
      → parts_held types ssas (held_rows f held) (drop start area) ≡ Ok parts
      → AreRewritesOf types f area (new_bytes_from ssas start (held_rows f held) parts) (rewrites_asked (rows_of f) ssas (rewrites_of held parts))
  asked [] start parts below within e = tt
  asked (i ∷ is) start parts below within e =
      let p : Part = part_of ssas (held_row f i) in
      let ps : List Part = map (λ h. part_of ssas h) (held_rows f is) in
      let C : IsCut types p ps (drop start area) parts = cut types p ps (drop start area) parts e in
      let n : ℕ = length C.bytes in
      let front = in_front C.bytes (drop n (drop start area)) (drop start area) (part_in_front types p (drop start area) C.bytes C.here) in
      let size : length (drop start area) ≡ length area - start = length-drop start area in
      let room : n ≤ length (drop start area) = front.1 in
      let later : start + n ≤ length area = omega arith in
      let rest = asked is (start + n) C.others below.1 later (ap (divide types ps) (sym (drop-drop n start area)) ∙ C.rest) in
      let own : NewBytes = record { address = (held_row f i).address; code = (held_row f i).code; had = (held_row f i).length; start = start; length = n } in
      subst (λ (xs : List (List ℕ)). AreRewritesOf types f area (new_bytes_from ssas start (held_rows f (i ∷ is)) xs) (rewrites_asked (rows_of f) ssas (rewrites_of (i ∷ is) xs))) (sym C.are)
      (elim (cases_Bool (is_excepted ssas (row_at (rows_of f) i).code)) [
        | inl out ↦ subst (λ (ns : List NewBytes). AreRewritesOf types f area ns (rewrites_asked (rows_of f) ssas (rewrites_of (i ∷ is) (C.bytes ∷ C.others))))
            (sym (cond-true _ _ _ out))
            (subst (λ (ws : List Rewrite). AreRewritesOf types f area (new_bytes_from ssas (start + n) (held_rows f is) C.others) ws) (sym (cond-false _ _ _ (ap not out))) rest)
        | inr in_ ↦ subst (λ (ns : List NewBytes). AreRewritesOf types f area ns (rewrites_asked (rows_of f) ssas (rewrites_of (i ∷ is) (C.bytes ∷ C.others))))
            (sym (cond-false _ _ _ in_))
            (subst (λ (ws : List Rewrite). AreRewritesOf types f area (own ∷ new_bytes_from ssas (start + n) (held_rows f is) C.others) ws)
            (sym (cond-true _ _ _ (ap not in_))) (
              record {
                row = below.0;
                address = refl;
                code = refl;
                had = refl;
                bytes = front.0;
                within = later;
                fits = subst (λ (q : Part). IsPart types q C.bytes) (cond-false _ _ _ in_) (part_asked types p (drop start area) C.bytes C.here);
              },
              rest,
            ))
      ])

  -- from the beginning
  pub all_asked : (held : List ℕ) (parts : List (List ℕ)) → AllBelow (length (rows_of f)) held → parts_held types ssas (held_rows f held) area ≡ Ok parts
      → AreRewritesOf types f area (new_bytes_from ssas 0 (held_rows f held) parts) (rewrites_asked (rows_of f) ssas (rewrites_of held parts))
  all_asked held parts below e = asked held 0 parts below (omega arith) e

-- ---- whatever the rows are

module _ (types : List SegmentType) (ssas : List Ssa) (area : List ℕ) where
  in_area_from : (held : List HeldRow) (start : ℕ) (parts : List (List ℕ)) → start ≤ length area → parts_held types ssas held (drop start area) ≡ Ok parts
      → AreInArea types area (new_bytes_from ssas start held parts)
  in_area_from [] start parts within e = tt
  in_area_from (h ∷ hs) start parts within e =
      let p : Part = part_of ssas h in
      let C : IsCut types p (map (λ x. part_of ssas x) hs) (drop start area) parts = cut types p (map (λ x. part_of ssas x) hs) (drop start area) parts e in
      let n : ℕ = length C.bytes in
      let front = in_front C.bytes (drop n (drop start area)) (drop start area) (part_in_front types p (drop start area) C.bytes C.here) in
      let size : length (drop start area) ≡ length area - start = length-drop start area in
      let room : n ≤ length (drop start area) = front.1 in
      let later : start + n ≤ length area = omega arith in
      let rest = in_area_from hs (start + n) C.others later (ap (divide types (map (λ x. part_of ssas x) hs)) (sym (drop-drop n start area)) ∙ C.rest) in
      subst (λ (xs : List (List ℕ)). AreInArea types area (new_bytes_from ssas start (h ∷ hs) xs)) (sym C.are)
      (elim (cases_Bool (is_excepted ssas h.code)) [
        | inl out ↦ subst (AreInArea types area) (sym (cond-true _ _ _ out)) rest
        | inr in_ ↦ subst (AreInArea types area) (sym (cond-false _ _ _ in_)) (
          record {
            within = later;
            fits = subst (λ (b : List ℕ). row_fits types (record { code = h.code; bytes = b }) ≡ true) (sym front.0)
                (subst (λ (q : Part). IsPart types q C.bytes) (cond-false _ _ _ in_) (part_asked types p (drop start area) C.bytes C.here));
          },
          rest,
        )
      ])

  -- new bytes that an area has stand in it, and fit
  pub all_in_area : (held : List HeldRow) (parts : List (List ℕ)) → parts_held types ssas held area ≡ Ok parts → AreInArea types area (new_bytes_from ssas 0 held parts)
  all_in_area held parts e = in_area_from held 0 parts (omega arith) e

-- and are no more than the rows
pub few_asked : (ssas : List Ssa) (start : ℕ) (held : List HeldRow) (parts : List (List ℕ)) → length (new_bytes_from ssas start held parts) ≤ length held
few_asked ssas start [] parts = omega arith
few_asked ssas start (h ∷ hs) [] = omega arith
few_asked ssas start (h ∷ hs) (part ∷ parts) =
    let rest = few_asked ssas (start + length part) hs parts in
    elim (cases_Bool (is_excepted ssas h.code)) [
      | inl out ↦ subst (λ (ns : List NewBytes). length ns ≤ length (h ∷ hs)) (sym (cond-true _ _ _ out)) (omega arith)
      | inr in_ ↦ subst (λ (ns : List NewBytes). length ns ≤ length (h ∷ hs)) (sym (cond-false _ _ _ in_)) (omega arith)
    ]
