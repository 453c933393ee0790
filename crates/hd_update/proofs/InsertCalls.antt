-- What an ISRT does, by the parent that it asks for.
use Rattle.std.proofs.Common.{◌≡◌, ℕ, ◌∷◌, List, length, take, drop, true, false, Option, Some, None, Result, Err, refl, sym, ap, ◌∙◌}
use Rattle.std.specs.Prelude.{option_map, slice_get}
use Rattle.std.specs.Option.{option_map_or}
use Rattle.std.proofs.lemmas.Bool.{cond-false}
use Rattle.hd_dbd.specs.declared.hierarchy.Rule.{Rule}
use Rattle.hd_dbd.specs.declared.answer.Status.TheVariants.{GE, V1}
use Rattle.hd_dbd.specs.Segment.{Segment}
use Rattle.hd_dbd.specs.Hierarchy.{parent_of}
use Rattle.hd_dbd.specs.Positions.{Position}
use Rattle.hd_dbd.specs.Views.{Setting}
use Rattle.hd_calls.specs.Access.{loads}
use Rattle.hd_calls.specs.Ssas.{Ssa, first_inserted}
use Rattle.hd_calls.specs.Places.{insert_parent, rule_of, rule_under}
use Rattle.hd_calls.specs.declared.call.AreaFault.{AreaFault}
use Rattle.hd_calls.specs.declared.call.AreaFault.TheVariants.{Length, Bytes}
use Rattle.hd_calls.specs.Steps.{Effect, wrong_area, bare_answer, front, with_parts, new_rows, rule_asked, insert_below, insert_rows, load_step, insert_or_load, inserted_codes, insert_step}
use Rattle.hd_update.specs.NewRows.{parts_in, are_rows_in, rows_in}
use Rattle.hd_update.specs.Inserting.{insert_under, parent_asked}
use Rattle.hd_update.proofs.RowsIn.{Begins, rows_begin, parts_there, rows_of_parts}

module _ (s : Setting) (rows : List Segment) (p : Position) (ssas : List Ssa) where
  abbrev by_parts : Result (List (List ℕ)) AreaFault → Effect
  by_parts r = with_parts p r (λ parts. insert_or_load s rows p ssas (new_rows (inserted_codes ssas) parts))

  -- an area of which bytes lack or are left over
  pub area_wrong : (area : List ℕ) → parts_in s.types (inserted_codes ssas) area ≡ Err Bytes → insert_step s rows p ssas area ≡ wrong_area
  area_wrong area is = ap by_parts is

  -- an area with a row of a wrong length
  pub row_wrong : (area : List ℕ) → parts_in s.types (inserted_codes ssas) area ≡ Err Length → insert_step s rows p ssas area ≡ bare_answer p V1
  row_wrong area is = ap by_parts is

  -- an area that is the rows
  pub area_right : (area : List ℕ) → are_rows_in s.types (inserted_codes ssas) area ≡ true
      → insert_step s rows p ssas area ≡ insert_or_load s rows p ssas (rows_in s.types (inserted_codes ssas) area)
  area_right area are =
      let parts = parts_there s.types (inserted_codes ssas) area are in
      ap by_parts parts.1 ∙ ap (λ (new : List Segment). insert_or_load s rows p ssas new) (sym (rows_of_parts s.types (inserted_codes ssas) area parts.0 parts.1))

  -- the rows go in below the parent asked, if there is one
  by_parent : (new : List Segment) (row : Segment)
      → insert_rows s rows p ssas new row
      ≡ option_map_or (λ parent. insert_below s rows p ssas new row parent) (parent_asked s.types rows p.standing (take (first_inserted ssas) ssas) row.code) (bare_answer p GE)
  by_parent new row = by (parent_of s.types row.code)
    where
      found : (o : Option ℕ) → option_map_or (λ q. insert_below s rows p ssas new row (Some q)) o (bare_answer p GE)
          ≡ option_map_or (λ parent. insert_below s rows p ssas new row parent) (option_map (λ q. Some q) o) (bare_answer p GE)
      found None = refl
      found (Some q) = refl

      by : (o : Option ℕ)
          → option_map_or (λ code. option_map_or (λ q. insert_below s rows p ssas new row (Some q)) (insert_parent s.types rows p.standing (take (first_inserted ssas) ssas) code) (bare_answer p GE)) o
          (insert_below s rows p ssas new row None)
          ≡ option_map_or (λ parent. insert_below s rows p ssas new row parent)
          (option_map_or (λ code. option_map (λ q. Some q) (insert_parent s.types rows p.standing (take (first_inserted ssas) ssas) code)) o (Some None)) (bare_answer p GE)
      by None = refl
      by (Some code) = found (insert_parent s.types rows p.standing (take (first_inserted ssas) ssas) code)

  module _ (area : List ℕ) (normal : loads s.pcb ≡ false) (are : are_rows_in s.types (inserted_codes ssas) area ≡ true) (code : ℕ) (codes : List ℕ) (begins : inserted_codes ssas ≡ code ∷ codes) where
    abbrev asked : Option (Option ℕ)
    asked = parent_asked s.types rows p.standing (take (first_inserted ssas) ssas) code

    begun : Begins s.types code codes area (front s.types code area)
    begun = rows_begin s.types code codes area (front s.types code area) refl (ap (λ (cs : List ℕ). are_rows_in s.types cs area) (sym begins) ∙ are)

    abbrev row : Segment
    row = record { code = code; bytes = front s.types code area }

    abbrev others : List Segment
    others = rows_in s.types codes (drop (length (front s.types code area)) area)

    rows_are : rows_in s.types (inserted_codes ssas) area ≡ row ∷ others
    rows_are = ap (λ (cs : List ℕ). rows_in s.types cs area) begins ∙ begun.rows

    goes_by_parent : insert_step s rows p ssas area ≡ option_map_or (λ parent. insert_below s rows p ssas (row ∷ others) row parent) asked (bare_answer p GE)
    goes_by_parent =
        area_right area are
        ∙ ap (λ (new : List Segment). insert_or_load s rows p ssas new) rows_are
        ∙ cond-false (loads s.pcb) (load_step s rows p row) (insert_rows s rows p ssas (row ∷ others) row) normal
        ∙ by_parent (row ∷ others) row

    -- without a parent
    pub no_parent : asked ≡ None → insert_step s rows p ssas area ≡ bare_answer p GE
    no_parent is = goes_by_parent ∙ ap (λ (o : Option (Option ℕ)). option_map_or (λ parent. insert_below s rows p ssas (row ∷ others) row parent) o (bare_answer p GE)) is

    -- below a parent
    pub below_parent : (parent : Option ℕ) (rule : Rule) (a : Ssa) → asked ≡ Some parent → slice_get ssas (first_inserted ssas) ≡ Some a → rule ≡ rule_under a.commands (rule_of s.types code)
        → insert_step s rows p ssas area ≡ insert_under s rows p rule parent (rows_in s.types (inserted_codes ssas) area)
    below_parent parent rule a is there rule_is =
        goes_by_parent
        ∙ ap (λ (o : Option (Option ℕ)). option_map_or (λ x. insert_below s rows p ssas (row ∷ others) row x) o (bare_answer p GE)) is
        ∙ ap (λ (r : Rule). insert_under s rows p r parent (row ∷ others)) (rule_same ∙ sym rule_is)
        ∙ ap (λ (new : List Segment). insert_under s rows p rule parent new) (sym rows_are)
      where
        rule_same : rule_asked s.types ssas code ≡ rule_under a.commands (rule_of s.types code)
        rule_same = ap (λ (o : Option Ssa). option_map_or (λ (x : Ssa). rule_under x.commands (rule_of s.types code)) o (rule_of s.types code)) there
