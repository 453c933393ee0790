-- The parentage row on a PCB's path.
use Rattle.std.proofs.Common.{◌≡◌, ℕ, zero, suc, ◌<◌, ◌≤◌, List, [], ◌∷◌, length, Option, Some, inl, inr, refl, sym, ap, subst, ◌∙◌, arith}
use Rattle.std.specs.Prelude.{option_map, nat_lt, is_some}
use Rattle.std.proofs.lemmas.Bool.{cases_lt, lt-ltb, le-ltb}
use Rattle.std.proofs.lemmas.List.{length-map}
use Rattle.hd_dbd.specs.Types.{SegmentType}
use Rattle.hd_dbd.specs.Positions.{Position}
use Rattle.hd_dbd.specs.Forest.{Forest}
use Rattle.hd_links.specs.Links.{Links}
use Rattle.hd_links.specs.Placed.{Placed, Holds}
use Rattle.hd_links.specs.Steps.{rows_of, address_at}
use Rattle.hd_position.specs.Kept.{Kept, StandsFor, path_passed, row_on}
use Rattle.hd_position.proofs.Splices.{AllBelow, below_more}
use Rattle.hd_position.proofs.Rising.{row_on_map}
use Rattle.hd_position.proofs.Leaving.{passed_below}
use Rattle.hd_update.specs.Held.{IsAtLevel}
use Rattle.hd_update.proofs.Levels.{row_below}

-- within a path something stands at each level
some_on : (path : List ℕ) (l : ℕ) → 0 < l → l ≤ length path → (i : ℕ) × (row_on path l ≡ Some i)
some_on path zero p w = absurd (omega arith)
some_on [] (suc l) p w = absurd (omega arith)
some_on (x ∷ path) (suc zero) p w = (x, refl)
some_on (x ∷ path) (suc (suc l)) p w = some_on path (suc l) (omega arith) (omega arith)

-- a row is the parent, and stands at its level
pub record IsParent (types : List SegmentType) (m : Links) (f : Forest Placed) (k : Kept) (q : Position) : Type 0 where
  pub number : ℕ
  pub is : q.parent ≡ Some number
  pub at : IsAtLevel types m f k.path k.parent number

-- where a level is kept for the parent, it stands there
pub parent_at : (types : List SegmentType) (m : Links) (f : Forest Placed) (k : Kept) (q : Position) → Holds types m f → StandsFor types f k q → 0 < k.parent → IsParent types m f k q
parent_at types m f k q holds F some =
    let path : List ℕ = path_passed types (rows_of f) q.passed in
    let below : AllBelow (length (rows_of f)) path = below_more q.passed (length (rows_of f)) path F.within (passed_below types (rows_of f) q.passed) in
    let size : length k.path ≡ length path = ap (λ (xs : List ℕ). length xs) F.path ∙ length-map path (λ j. address_at f j) in
    let within : k.parent ≤ length path = subst (λ (n : ℕ). k.parent ≤ n) size F.parent_level in
    let there = some_on path k.parent some within in
    record {
      number = there.0;
      is = F.parent ∙ there.1;
      at = record {
        holds = holds;
        within = row_below (length (rows_of f)) path k.parent there.0 below there.1;
        is =
            ap (λ (xs : List ℕ). row_on xs k.parent) F.path
            ∙ row_on_map (λ j. address_at f j) path k.parent
            ∙ ap (option_map (λ j. address_at f j)) there.1;
      };
    }

-- without a level there is no parent
pub no_parent : (types : List SegmentType) (f : Forest Placed) (k : Kept) (q : Position) → StandsFor types f k q → k.parent ≡ 0 → q.parent ≡ row_on (path_passed types (rows_of f) q.passed) 0
no_parent types f k q F none = F.parent ∙ ap (λ (l : ℕ). row_on (path_passed types (rows_of f) q.passed) l) none

-- there is a parent just where a level is kept for it
pub parent_kept_is : (types : List SegmentType) (m : Links) (f : Forest Placed) (k : Kept) (q : Position) → Holds types m f → StandsFor types f k q → nat_lt 0 k.parent ≡ is_some q.parent
parent_kept_is types m f k q holds F = elim (cases_lt 0 k.parent) [
  | inl w ↦ (let P = parent_at types m f k q holds F w in lt-ltb 0 k.parent w ∙ sym (ap (λ (o : Option ℕ). is_some o) P.is))
  | inr w ↦ le-ltb 0 k.parent w ∙ sym (ap (λ (o : Option ℕ). is_some o) (no_parent types f k q F (let z : k.parent ≡ 0 = omega arith in z)))
]
