-- Paths to where a get begins.
use Rattle.std.proofs.Common.{◌≡◌, ℕ, zero, suc, ◌+◌, ◌<◌, ◌≤◌, List, [], length, Option, Some, None, refl, sym, ap, ap₂, subst, ◌∙◌, arith}
use Rattle.std.specs.Prelude.{max, cond, ◌||◌, ◌==◌, is_some, option_map}
use Rattle.std.specs.Option.{option_map_or}
use Rattle.std.specs.List.{list_any}
use Rattle.hd_dbd.specs.Types.{SegmentType}
use Rattle.hd_dbd.specs.Paths.{end_of}
use Rattle.hd_dbd.specs.Positions.{Position}
use Rattle.hd_dbd.specs.Forest.{Forest}
use Rattle.hd_links.specs.Links.{Links}
use Rattle.hd_links.specs.Placed.{Placed}
use Rattle.hd_links.specs.Steps.{rows_of, address_at, RowsHaveAddresses}
use Rattle.hd_forest.specs.Rows.{LeadsTo}
use Rattle.hd_calls.specs.declared.call.GetKind.TheVariants.{NextInParent}
use Rattle.hd_calls.specs.Gets.{search_start, search_end}
use Rattle.hd_position.specs.Kept.{Kept, StandsFor, row_on, path_passed}
use Rattle.hd_position.proofs.Rising.{row_on_map}
use Rattle.hd_position.proofs.Falling.{get_below}
use Rattle.hd_position.proofs.Leaving.{passed_below}
use Rattle.hd_position.proofs.Splices.{AllBelow}
use Rattle.hd_get.specs.Searches.{EndsAt, LeadsWithin}
use Rattle.hd_get.proofs.Climbs.{stays}

-- a search of a whole database ends behind its last row
pub ends_whole : (types : List SegmentType) (f : Forest Placed) (i : ℕ) → EndsAt types f 0 i (length (rows_of f))
ends_whole types f i = record { whole = λ z. refl; under = λ some. absurd (omega arith) }

-- a path that leads to a row of a whole database leads there in a search of the whole
pub leads_whole : (types : List SegmentType) (m : Links) (f : Forest Placed) (path : List ℕ) (i : ℕ) → LeadsTo types m f path i → LeadsWithin types m f 0 (length (rows_of f)) path i
leads_whole types m f path i leads = record { holds = leads.holds; ends = ends_whole types f i; is = leads.is }

-- what stands on a path of rows before a number is before it
pub on_below : (b : ℕ) (xs : List ℕ) (l x : ℕ) → AllBelow b xs → row_on xs l ≡ Some x → x < b
on_below b xs zero x all e = cc
on_below b xs (suc l) x all e = get_below b xs l x all e

module _ (types : List SegmentType) (f : Forest Placed) (k : Kept) (q : Position) (F : StandsFor types f k q) where
  -- the address at the level of parentage is that of the parentage row
  pub parent_address : row_on k.path k.parent ≡ option_map (λ j. address_at f j) q.parent
  parent_address =
      ap (λ (xs : List ℕ). row_on xs k.parent) F.path ∙ row_on_map (λ j. address_at f j) (path_passed types (rows_of f) q.passed) k.parent
      ∙ sym (ap (option_map (λ j. address_at f j)) F.parent)

  -- the parentage row is among the rows passed
  pub parent_passed : (p : ℕ) → q.parent ≡ Some p → p < q.passed
  parent_passed p e = on_below q.passed (path_passed types (rows_of f) q.passed) k.parent p (passed_below types (rows_of f) q.passed) (sym F.parent ∙ e)

  -- GNP begins behind the rows passed, and ends with the parentage row's span
  pub ends_below : (p : ℕ) → q.parent ≡ Some p
      → (search_start types (rows_of f) q NextInParent [] ≡ q.passed) × (search_end types (rows_of f) q NextInParent ≡ end_of types (rows_of f) p)
  ends_below p e = (
    (let before : p < q.passed = parent_passed p e in
        ap (λ (o : Option ℕ). max (max q.passed (option_map_or (λ r. r + 1) o 0)) (option_map_or (λ r. r + 1) o 0)) e
        ∙ (let n : max (max q.passed (p + 1)) (p + 1) ≡ q.passed = omega arith in n)),
    ap (λ (o : Option ℕ). option_map_or (λ r. end_of types (rows_of f) r) o 0) e,
  )

  -- a path to the row behind those passed, if it is below the parentage row at an address, leads to where GNP begins
  pub leads_below : (m : Links) (R : RowsHaveAddresses m f) (path : List ℕ) (a : ℕ) → row_on k.path k.parent ≡ Some a → LeadsTo types m f path q.passed
      → LeadsWithin types m f a (search_end types (rows_of f) q NextInParent) (cond (a == 0 || list_any (λ b. b == a) path) path []) (search_start types (rows_of f) q NextInParent [])
  leads_below m R path a e leads = by q.parent refl (sym parent_address ∙ e)
    where
      by : (o : Option ℕ) → q.parent ≡ o → option_map (λ j. address_at f j) q.parent ≡ Some a
          → LeadsWithin types m f a (search_end types (rows_of f) q NextInParent) (cond (a == 0 || list_any (λ b. b == a) path) path []) (search_start types (rows_of f) q NextInParent [])
      by None none is = absurd (no (sym is ∙ ap (option_map (λ j. address_at f j)) none))
        where
          no : Some a ≡ None → ⊥
          no z = cc
      by (Some p) some is =
          let here : address_at f p ≡ a = one (sym (ap (option_map (λ j. address_at f j)) some) ∙ is) in
          let E = ends_below p some in
          let before : p < q.passed = parent_passed p some in
          let most : q.passed ≤ length (rows_of f) = F.within in
          let there : 0 < address_at f p = (R.there p (omega arith)).some in
          let ends : EndsAt types f a q.passed (search_end types (rows_of f) q NextInParent) = record {
            whole = λ z. absurd (omega arith);
            under = λ some. (p, before, (omega arith), here, E.1);
          } in
          subst (LeadsWithin types m f a (search_end types (rows_of f) q NextInParent) (cond (a == 0 || list_any (λ b. b == a) path) path [])) (sym E.0)
          (record {
            holds = leads.holds;
            ends = ends;
            is = stays types f m R a q.passed (search_end types (rows_of f) q NextInParent) q.passed path ends (omega arith) leads.is;
          })
        where
          one : Some (address_at f p) ≡ Some a → address_at f p ≡ a
          one z = cc

  -- there is an address at the level of parentage just where there is a parentage row
  pub parent_there : (o : Option ℕ) → row_on k.path k.parent ≡ o → is_some o ≡ is_some q.parent
  parent_there o e = ap (λ (o : Option ℕ). is_some o) (sym e ∙ parent_address) ∙ mapped q.parent
    where
      mapped : (o : Option ℕ) → is_some (option_map (λ j. address_at f j) o) ≡ is_some o
      mapped None = refl
      mapped (Some j) = refl

-- what was read on the kept path at the level of parentage
pub read_there : (k : Kept) (path : List ℕ) (level : ℕ) (o : Option ℕ) → path ≡ k.path → level ≡ k.parent → o ≡ row_on path level → row_on k.path k.parent ≡ o
read_there k path level o e l is = sym (is ∙ ap₂ (λ (xs : List ℕ) (n : ℕ). row_on xs n) e l)
