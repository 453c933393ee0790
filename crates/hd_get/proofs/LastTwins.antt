-- The search for the last twin that has a qualification.
use Rattle.std.proofs.Common.{◌≡◌, ℕ, zero, suc, ◌+◌, ◌-◌, ◌<◌, ◌≤◌, List, length, Bool, true, false, Option, Some, None, refl, sym, ap, ap₂, subst, ◌∙◌, arith, inl, inr}
use Rattle.std.specs.Prelude.{◌&&◌, ◌==◌, cond, is_none}
use Rattle.std.specs.List.{list_any, list_all}
use Rattle.std.specs.Option.{option_eq, option_map_or}
use Rattle.std.proofs.lemmas.Bool.{and_parts, cases_lt, eqb-true, eq-eqb, ne_eqb}
use Rattle.hd_dbd.specs.Types.{SegmentType}
use Rattle.hd_dbd.specs.Paths.{row_at, parent_row, is_twin}
use Rattle.hd_dbd.specs.Segment.{Segment}
use Rattle.hd_dbd.specs.Searches.{first_from, least_within}
use Rattle.hd_dbd.specs.Forest.{Forest}
use Rattle.hd_links.specs.Links.{Links}
use Rattle.hd_links.specs.Placed.{Placed}
use Rattle.hd_links.specs.Steps.{rows_of, address_at, StepsAreRows, RowsHaveAddresses}
use Rattle.hd_calls.specs.Ssas.{Comparison, Ssa}
use Rattle.hd_calls.specs.Satisfies.{is_true_of, qualifies, is_last_so}
use Rattle.hd_calls.proofs.Searches.{least_some, least_no, skipped}
use Rattle.hd_calls.specs.SearchTwins.{next_twin}
use Rattle.hd_get.proofs.Spans.{one_option}
use Rattle.hd_get.proofs.Climbs.{twin_none, twin_some}
use Rattle.hd_get.proofs.Turns.{none_from, here_from}

-- a row is the last twin just where no twin follows it
pub last_twin_is : (types : List SegmentType) (f : Forest Placed) (i : ℕ) (m : Links) → RowsHaveAddresses m f → i < length (rows_of f) → StepsAreRows types m f i
    → (twin : ℕ) → twin ≡ m.forward (address_at f i) → (twin == 0) ≡ is_none (next_twin types (rows_of f) i)
last_twin_is types f i m A l S twin is = elim (cases_lt 0 twin) [
  | inl some ↦ ne_eqb twin 0 (λ z. absurd (omega arith)) ∙ sym (ap is_none (twin_some types m f i l S (subst (λ x. 0 < x) is some)).1)
  | inr none ↦ (let z : twin ≡ 0 = omega arith in eq-eqb twin 0 z ∙ sym (ap is_none (twin_none types m f A i l S (sym is ∙ z))))
]

pub same_search : (test other : ℕ → Bool) → ((j : ℕ) → test j ≡ other j) → (n i : ℕ) → least_within test n i ≡ least_within other n i
same_search test other same zero i = refl
same_search test other same (suc n) i = ap₂ (λ b o. cond b (Some i) o) (same i) (same_search test other same n (i + 1))

-- each row has what is not asked
pub has_unasked : (a : Ssa) (r : Segment) → a.groups ≡ None → qualifies a r ≡ true
has_unasked a r none = ap (λ (o : Option (List (List Comparison))). option_map_or (λ groups. list_any (λ group. list_all (λ c. is_true_of r.bytes c) group) groups) o true) none

pub last_so_unqualified : (types : List SegmentType) (rows : List Segment) (a : Ssa) (i : ℕ) → a.groups ≡ None → is_last_so types rows a i ≡ is_none (next_twin types rows i)
last_so_unqualified types rows a i none =
    ap is_none (same_search (λ j. is_twin types rows i j && qualifies a (row_at rows j)) (λ j. is_twin types rows i j)
    (λ j. ap (λ b. is_twin types rows i j && b) (has_unasked a (row_at rows j) none) ∙ and_true (is_twin types rows i j))
    (length rows - (i + 1)) (i + 1))
  where
    and_true : (b : Bool) → (b && true) ≡ b
    and_true true = refl
    and_true false = refl

-- twins have the same twins
pub same_twins : (types : List SegmentType) (rows : List Segment) (i k j : ℕ) → is_twin types rows i k ≡ true → is_twin types rows k j ≡ is_twin types rows i j
same_twins types rows i k j e =
    let T = and_parts ((row_at rows i).code == (row_at rows k).code) _ e in
    let code : (row_at rows i).code ≡ (row_at rows k).code = eqb-true _ _ T.0 in
    let parent : parent_row types rows i ≡ parent_row types rows k = one_option (parent_row types rows i) (parent_row types rows k) T.1 in
    ap₂ (λ c p. c == (row_at rows j).code && option_eq (λ x y. x == y) p (parent_row types rows j)) (sym code) (sym parent)

module _ (types : List SegmentType) (f : Forest Placed) (ssa : Ssa) (i : ℕ) where
  -- a later twin that has the qualification
  abbrev pub has_it : ℕ → Bool
  has_it j = is_twin types (rows_of f) i j && qualifies ssa (row_at (rows_of f) j)

  -- The twins up to the one at an address were looked at, and none has the qualification; the address is 0 behind the last.
  pub record HasLooked (turns twin : ℕ) : Type 0 where
    pub last : twin ≡ 0 → is_last_so types (rows_of f) ssa i ≡ true
    pub next : 0 < twin → (k : ℕ) × (i + turns < k) × (k < length (rows_of f)) × (address_at f k ≡ twin) × (is_twin types (rows_of f) i k ≡ true)
        × (is_last_so types (rows_of f) ssa i ≡ is_none (first_from has_it k (length (rows_of f))))

  none_has : (j : ℕ) → is_twin types (rows_of f) i j ≡ false → has_it j ≡ false
  none_has j e = ap (λ b. b && qualifies ssa (row_at (rows_of f) j)) e

  -- from row k, a twin or the row itself, none up to which has it, to the next
  pub looks_on : (m : Links) → RowsHaveAddresses m f → (k turns : ℕ) → k < length (rows_of f) → StepsAreRows types m f k → i + turns ≤ k → ((j : ℕ) → is_twin types (rows_of f) k j ≡ is_twin types (rows_of f) i j)
      → is_last_so types (rows_of f) ssa i ≡ is_none (first_from has_it (k + 1) (length (rows_of f))) → (twin : ℕ) → twin ≡ m.forward (address_at f k) → HasLooked turns twin
  looks_on m A k turns l S far twins so_far twin is = record {
    last = λ z.
        let none : next_twin types (rows_of f) k ≡ None = twin_none types m f A k l S (sym is ∙ z) in
        so_far ∙ ap is_none (none_from has_it (k + 1) (length (rows_of f))
        (λ j low high. none_has j (sym (twins j) ∙ least_no (λ j. is_twin types (rows_of f) k j) (length (rows_of f) - (k + 1)) (k + 1) none j low (omega arith))));
    next = λ some.
        let T = twin_some types m f k l S (subst (λ x. 0 < x) is some) in
        let L = least_some (λ j. is_twin types (rows_of f) k j) (length (rows_of f) - (k + 1)) (k + 1) T.0 T.1 in
        let low : k + 1 ≤ T.0 = L.0 in
        let high : T.0 < k + 1 + (length (rows_of f) - (k + 1)) = L.1 in (
          T.0,
          omega arith,
          omega arith,
          address_of m A k T.0 l (omega arith) S T.1 ∙ sym is,
          sym (twins T.0) ∙ L.2,
          so_far ∙ ap is_none (skipped has_it (k + 1) T.0 (length (rows_of f)) low (λ j a b. none_has j (sym (twins j) ∙ L.3 j a b))),
        );
  }
    where
      address_of : (m : Links) → RowsHaveAddresses m f → (k j : ℕ) → k < length (rows_of f) → j < length (rows_of f) → StepsAreRows types m f k → next_twin types (rows_of f) k ≡ Some j → address_at f j ≡ m.forward (address_at f k)
      address_of m A k j l w S e = sym (S.twin ∙ ap (λ (o : Option ℕ). option_map_or (λ x. address_at f x) o 0) e)

  pub looks_first : (m : Links) → RowsHaveAddresses m f → i < length (rows_of f) → StepsAreRows types m f i → (twin : ℕ) → twin ≡ m.forward (address_at f i) → HasLooked 0 twin
  looks_first m A l S twin is = looks_on m A i 0 l S (omega arith) (λ j. refl) refl twin is

  -- a twin that has it is not the last so
  pub found_it : (k : ℕ) → k < length (rows_of f) → is_twin types (rows_of f) i k ≡ true → qualifies ssa (row_at (rows_of f) k) ≡ true
      → is_last_so types (rows_of f) ssa i ≡ is_none (first_from has_it k (length (rows_of f))) → is_last_so types (rows_of f) ssa i ≡ false
  found_it k l twin has so_far =
      so_far ∙ ap is_none (here_from has_it k k (length (rows_of f)) (omega arith) l (λ j a b. absurd (omega arith)) (ap₂ (λ x y. x && y) twin has))

  -- one that has it not is passed
  pub passed_it : (k : ℕ) → qualifies ssa (row_at (rows_of f) k) ≡ false → is_last_so types (rows_of f) ssa i ≡ is_none (first_from has_it k (length (rows_of f)))
      → is_last_so types (rows_of f) ssa i ≡ is_none (first_from has_it (k + 1) (length (rows_of f)))
  passed_it k has so_far =
      so_far ∙ ap is_none (skipped has_it k (k + 1) (length (rows_of f)) (omega arith)
      (λ j a b. ap has_it (let e : j ≡ k = omega arith in e) ∙ ap (λ x. is_twin types (rows_of f) i k && x) has ∙ and_no (is_twin types (rows_of f) i k)))
    where
      and_no : (b : Bool) → (b && false) ≡ false
      and_no true = refl
      and_no false = refl
