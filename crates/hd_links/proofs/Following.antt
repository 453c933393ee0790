-- The steps by pointers are those by rows.
use Rattle.std.proofs.Common.{◌≡◌, ℕ, suc, ◌+◌, ◌-◌, ◌<◌, ◌≤◌, List, [], ◌∷◌, ◌++◌, length, true, ◌&&◌, arith, ap, ap₂, sym, ◌∙◌, refl, subst, Option, Some, None}
use Rattle.std.specs.Prelude.{◌==◌, map}
use Rattle.std.specs.Option.{option_map_or, option_eq}
use Rattle.std.proofs.lemmas.Bool.{and_parts, and_from, eq-eqb, eqb-true}
use Rattle.std.proofs.lemmas.List.{append_assoc, append-nil, length-append}
use Rattle.hd_dbd.specs.Types.{SegmentType}
use Rattle.hd_dbd.specs.Segment.{Segment}
use Rattle.hd_dbd.specs.Rows.{level}
use Rattle.hd_dbd.specs.Paths.{path_above, row_at, level_at, parent_row, end_within, end_of, is_twin}
use Rattle.hd_dbd.specs.Searches.{least_within, first_from}
use Rattle.hd_dbd.specs.Forest.{Forest, node, sequence}
use Rattle.hd_dbd.proofs.LevelLaw.{Leveled, depth_below}
use Rattle.hd_dbd.proofs.Names.{option_eq-Decides}
use Rattle.hd_links.specs.Links.{Links, IsLinkGraph, child_types, is_child_type}
use Rattle.hd_links.specs.Placed.{Placed, first_of, nowhere, with_node, Holds}
use Rattle.hd_links.specs.Steps.{rows_of, address_at, path_at, path_on, first_some, child_among, behind_from, tip_from, LeadsDown, next_row, behind_span, StepsAreRows}
use Rattle.hd_links.proofs.Types.{Ordered, above}
use Rattle.hd_links.proofs.Forms.{Formed}
use Rattle.hd_links.proofs.Numbers.{skip_path, rows_length, head_at, row_is, address_is, AllDeeper, skip_end, skip_least}
use Rattle.hd_links.proofs.Ways.{first_below, head_both}
use Rattle.hd_links.proofs.Standing.{UpTo, Siblings, RowAt, all_deeper, at_start, own_row, own_address, own_level, own_path, own_parent, own_down, own_tip, own_behind, children_at, siblings_at}
use Rattle.hd_links.proofs.Scans.{Seeks, left_over, inside, scan, stops}
use Rattle.hd_links.proofs.PathSteps.{path_behind, addresses_on, level_some, path_next, one_path}

module _ (types : List SegmentType) (O : Ordered types) (leveled : Leveled types) (bound : ℕ) (m : Links) (G : IsLinkGraph types bound m) (f : Forest Placed) (H : Holds types m f) where
  module _ (i : ℕ) (F : RowAt types O leveled bound m G f H i) where
    S : Siblings types m f i F.path F.parent F.holder F.table (node F.row F.below F.after) F.rest
    S = F.stands

    C : Siblings types m f (i + 1) (F.path ++ i ∷ []) (Some i) F.row.address nowhere F.below (sequence F.after ++ F.rest)
    C = children_at types O leveled bound m G f H i F.path F.parent F.holder F.table F.row F.below F.after F.rest F.stands

    B : Siblings types m f (i + 1 + length (sequence F.below)) F.path F.parent F.holder (with_node F.table F.row) F.after F.rest
    B = siblings_at types O leveled bound m G f H i F.path F.parent F.holder F.table F.row F.below F.after F.rest F.stands

    row_code : (row_at (rows_of f) i).code ≡ F.row.segment.code
    row_code = ap (λ (s : Segment). s.code) (own_row types O leveled bound m G f H i F.path F.parent F.holder F.table F.row F.below F.after F.rest F.stands)

    address : address_at f i ≡ F.row.address
    address = own_address types O leveled bound m G f H i F.path F.parent F.holder F.table F.row F.below F.after F.rest F.stands

    parent : parent_row types (rows_of f) i ≡ F.parent
    parent = own_parent types O leveled bound m G f H i F.path F.parent F.holder F.table F.row F.below F.after F.rest F.stands

    path_is : path_at types f i ≡ map (λ j. address_at f j) (F.path ++ i ∷ [])
    path_is = ap (map (λ j. address_at f j)) (own_path types O leveled bound m G f H i F.path F.parent F.holder F.table F.row F.below F.after F.rest F.stands)

    tip_is : tip_from 0 (path_at types f i) ≡ F.row.address
    tip_is = ap (tip_from 0) path_is ∙ own_tip types O leveled bound m G f H i F.path F.parent F.holder F.table F.row F.below F.after F.rest F.stands

    behind_is : behind_span types m (path_at types f i) ≡ head_at (sequence F.after ++ F.rest)
    behind_is = ap (behind_from types m 0 0) path_is ∙ own_behind types O leveled bound m G f H i F.path F.parent F.holder F.table F.row F.below F.after F.rest F.stands

    all_below : length (rows_of f) - (i + 1) ≡ length (sequence F.below) + length (sequence F.after ++ F.rest)
    all_below = (let e : length (rows_of f) ≡ i + 1 + (length (sequence F.below) + length (sequence F.after ++ F.rest))
        = left_over types O leveled bound m G f H (i + 1) (F.path ++ i ∷ []) (Some i) F.row.address nowhere F.below (sequence F.after ++ F.rest) C in omega arith)

    child_found : (t : ℕ) → is_child_type types (row_at (rows_of f) i).code t ≡ true
        → m.first_child (address_at f i) t
        ≡ option_map_or (λ j. address_at f j) (first_from (λ j. option_eq (λ p q. p == q) (parent_row types (rows_of f) j) (Some i) && (row_at (rows_of f) j).code == t) (i + 1) (length (rows_of f))) 0
    child_found t q =
        let own : is_child_type types F.row.segment.code t ≡ true = ap (λ c. is_child_type types c t) (sym row_code) ∙ q in
        let code : m.code F.row.address ≡ F.row.segment.code = F.stands.stand.0.code in
        ap (λ a. m.first_child a t) address ∙ F.stands.stand.0.children.first t own
        ∙ sym (scan types O leveled bound m G f H (i + 1) (F.path ++ i ∷ []) (Some i) F.row.address nowhere F.below (sequence F.after ++ F.rest) C t
        (λ j. option_eq (λ p q. p == q) (parent_row types (rows_of f) j) (Some i) && (row_at (rows_of f) j).code == t)
        (ap (λ c. is_child_type types c t) code ∙ own)
        (record {
          finds = λ j p c. and_from _ _ ((option_eq-Decides _ _).1 p) (eq-eqb _ _ c);
          only = λ j e. (let w = and_parts _ _ e in ((option_eq-Decides _ _).0 w.0, eqb-true _ _ w.1));
        })
        (length (rows_of f) - (i + 1)) all_below)

    twins_seek : Seeks types (rows_of f) F.parent F.row.segment.code (λ j. is_twin types (rows_of f) i j)
    twins_seek = record {
      finds = λ j p c. and_from _ _ (eq-eqb _ _ (row_code ∙ sym c)) ((option_eq-Decides _ _).1 (parent ∙ sym p));
      only = λ j e. (let w = and_parts _ _ e in (sym ((option_eq-Decides _ _).0 w.1) ∙ parent, sym (eqb-true _ _ w.0) ∙ row_code));
    }

    twin_found : m.forward (address_at f i) ≡ option_map_or (λ j. address_at f j) (first_from (λ j. is_twin types (rows_of f) i j) (i + 1) (length (rows_of f))) 0
    twin_found =
        let left : ℕ = length (sequence F.after) + length F.rest in
        let more : length (sequence F.after ++ F.rest) ≡ length (sequence F.after) + length F.rest = length-append (sequence F.after) F.rest in
        let all : length (rows_of f) - (i + 1) ≡ length (sequence F.below) + length (sequence F.after ++ F.rest) = all_below in
        let split : length (rows_of f) - (i + 1) ≡ length (sequence F.below) + left = omega arith in
        let found : option_map_or (λ j. address_at f j) (least_within (λ j. is_twin types (rows_of f) i j) left (i + 1 + length (sequence F.below))) 0 ≡ first_of F.after F.row.segment.code
        = scan types O leveled bound m G f H (i + 1 + length (sequence F.below)) F.path F.parent F.holder (with_node F.table F.row) F.after F.rest B F.row.segment.code (λ j. is_twin types (rows_of f) i j) F.stands.formed.0 twins_seek left refl in
        let skip : least_within (λ j. is_twin types (rows_of f) i j) (length (sequence F.below) + left) (i + 1)
        ≡ least_within (λ j. is_twin types (rows_of f) i j) left (i + 1 + length (sequence F.below))
        = skip_least (λ j. is_twin types (rows_of f) i j) (length (sequence F.below)) left (i + 1)
        (inside types O leveled bound m G f H i F.path F.parent F.holder F.table F.row F.below F.after F.rest F.stands (λ j. is_twin types (rows_of f) i j) (λ j w. (twins_seek.only j w).0)) in
        ap m.forward address ∙ F.stands.stand.0.forward ∙ sym found
        ∙ sym (ap (λ (o : Option ℕ). option_map_or (λ j. address_at f j) o 0) (ap (λ d. least_within (λ j. is_twin types (rows_of f) i j) d (i + 1)) split ∙ skip))

    next_found : next_row types m (path_at types f i) ≡ address_at f (i + 1)
    next_found =
        let code : m.code F.row.address ≡ F.row.segment.code = F.stands.stand.0.code in
        ap₂ (λ x y. first_some (child_among m x (child_types types (m.code x))) y) tip_is behind_is
        ∙ ap (λ c. first_some (child_among m F.row.address (child_types types c)) (head_at (sequence F.after ++ F.rest))) code
        ∙ ap (λ x. first_some x (head_at (sequence F.after ++ F.rest)))
        (first_below types m O.ascending F.row.segment.code F.row.address nowhere F.below F.stands.stand.1 F.stands.formed.2 F.stands.stand.0.children.first)
        ∙ head_both types m nowhere F.below (sequence F.after ++ F.rest) F.stands.stand.1
        ∙ sym (address_is f C.front (sequence F.below ++ (sequence F.after ++ F.rest)) (i + 1) C.whole C.number)

    pub end_is : end_of types (rows_of f) i ≡ i + 1 + length (sequence F.below)
    end_is =
        let lv : level_at types (rows_of f) i ≡ length F.path + 1 = own_level types O leveled bound m G f H i F.path F.parent F.holder F.table F.row F.below F.after F.rest F.stands in
        let long : length (F.path ++ i ∷ []) ≡ length F.path + 1 = length-append F.path (i ∷ []) in
        let depth : depth_below types (above (m.code F.row.address)) ≡ length (F.path ++ i ∷ []) = C.depth in
        let deep : AllDeeper types (length F.path + 1) (sequence F.below) = all_deeper types O leveled bound m G f H (length F.path + 1) (m.code F.row.address) nowhere F.below C.stand C.formed (omega arith) in
        let num : i + 1 ≡ length C.front = sym C.number in
        let both : length (C.front ++ sequence F.below) ≡ length C.front + length (sequence F.below) = length-append C.front (sequence F.below) in
        let low : UpTo types (length F.path + 1) (sequence F.after ++ F.rest) = subst (λ l. UpTo types l (sequence F.after ++ F.rest)) long C.shallow in
        let split : sequence f ≡ (C.front ++ sequence F.below) ++ (sequence F.after ++ F.rest) = C.whole ∙ sym (append_assoc C.front (sequence F.below) (sequence F.after ++ F.rest)) in
        ap (λ l. end_within types (rows_of f) l (length (rows_of f) - (i + 1)) (i + 1)) lv
        ∙ ap₂ (λ d n. end_within types (rows_of f) (length F.path + 1) d n) all_below num
        ∙ skip_end types f (length F.path + 1) C.front (sequence F.below) (sequence F.after ++ F.rest) (length (sequence F.after ++ F.rest)) C.whole deep
        ∙ ap (end_within types (rows_of f) (length F.path + 1) (length (sequence F.after ++ F.rest))) (sym both)
        ∙ stops types O leveled bound m G f H (length F.path + 1) (C.front ++ sequence F.below) (sequence F.after ++ F.rest) split low
        ∙ omega arith

    less_deep : (l k : ℕ) (xs : List Placed) → l ≤ k → AllDeeper types k xs → AllDeeper types l xs
    less_deep l k [] le a = tt
    less_deep l k (x ∷ xs) le a = ((let d : k < level types x.segment = a.0 in omega arith), less_deep l k xs le a.1)

    path_end : end_of types (rows_of f) i < length (rows_of f) → path_at types f (end_of types (rows_of f) i) ≡ path_on types f i (end_of types (rows_of f) i)
    path_end within =
        let e : ℕ = end_of types (rows_of f) i in
        let ends : e ≡ i + 1 + length (sequence F.below) = end_is in
        let some : 0 < level_at types (rows_of f) e = level_some types O leveled bound m G f H e within in
        let long : length (F.path ++ i ∷ []) ≡ length F.path + 1 = length-append F.path (i ∷ []) in
        let depth : depth_below types (above (m.code F.row.address)) ≡ length (F.path ++ i ∷ []) = C.depth in
        let low : level_at types (rows_of f) e ≤ length F.path + 1 = low_end (sequence F.after ++ F.rest) B.whole (subst (λ l. UpTo types l (sequence F.after ++ F.rest)) long C.shallow) within ends in
        let deep : AllDeeper types (level_at types (rows_of f) e - 1) (sequence F.below)
        = less_deep (level_at types (rows_of f) e - 1) (length F.path + 1) (sequence F.below) (omega arith)
        (all_deeper types O leveled bound m G f H (length F.path + 1) (m.code F.row.address) nowhere F.below C.stand C.formed (omega arith)) in
        let num : length C.front ≡ i + 1 = C.number in
        let up : level_at types (rows_of f) e ≡ level_at types (rows_of f) e - 1 + 1 = omega arith in
        let place : e ≡ length C.front + length (sequence F.below) = omega arith in
        let first : length C.front ≡ suc i = omega arith in
        let all : length (rows_of f) ≡ i + 1 + (length (sequence F.below) + length (sequence F.after ++ F.rest))
        = left_over types O leveled bound m G f H (i + 1) (F.path ++ i ∷ []) (Some i) F.row.address nowhere F.below (sequence F.after ++ F.rest) C in
        addresses_on types O leveled bound m G f H i e (ap (λ (x : List ℕ). x ++ e ∷ [])
        (ap (λ l. path_above types (rows_of f) l e) up
        ∙ ap (path_above types (rows_of f) (level_at types (rows_of f) e - 1 + 1)) place
        ∙ skip_path types f (level_at types (rows_of f) e - 1) C.front (sequence F.below) (sequence F.after ++ F.rest) C.whole deep
        ∙ ap (path_above types (rows_of f) (level_at types (rows_of f) e - 1 + 1)) first
        ∙ path_behind types O leveled bound m G f H (level_at types (rows_of f) e - 1) i (omega arith)))
      where
        low_end : (xs : List Placed) → sequence f ≡ B.front ++ xs → UpTo types (length F.path + 1) xs → end_of types (rows_of f) i < length (rows_of f)
            → end_of types (rows_of f) i ≡ i + 1 + length (sequence F.below) → level_at types (rows_of f) (end_of types (rows_of f) i) ≤ length F.path + 1
        low_end [] whole u within ends =
            absurd (let all : length (sequence f) ≡ length B.front = ap (λ (x : List Placed). length x) (whole ∙ append-nil B.front) in
            let len : length (rows_of f) ≡ length (sequence f) = rows_length f in
            let num : length B.front ≡ i + 1 + length (sequence F.below) = B.number in omega arith)
        low_end (x ∷ xs) whole u within ends =
            (let own : level_at types (rows_of f) (end_of types (rows_of f) i) ≡ level types x.segment
            = ap (level types) (row_is f B.front x xs (end_of types (rows_of f) i) whole (B.number ∙ sym ends)) in
            let le : level types x.segment ≤ length F.path + 1 = u in omega arith)

    -- the steps from the row
    pub stepped : i < length (rows_of f) → StepsAreRows types m f i
    stepped within = record {
      path = subst (LeadsDown types m 0) (sym path_is) (own_down types O leveled bound m G f H i F.path F.parent F.holder F.table F.row F.below F.after F.rest F.stands);
      tip = tip_is ∙ sym address;
      only = one_path types O leveled bound m G f H i within;
      first_child = child_found;
      twin = twin_found;
      next = next_found;
      next_path = path_next types O leveled bound m G f H i;
      behind_path = path_end;
      behind = behind_is ∙ sym (ap (address_at f) end_is ∙ address_is f B.front (sequence F.after ++ F.rest) (i + 1 + length (sequence F.below)) B.whole B.number);
    }

  -- and from the beginning
  pub first_found : next_row types m [] ≡ address_at f 0
  first_found =
      let T : Siblings types m f 0 [] None 0 nowhere f [] = at_start types O leveled bound m G f H in
      ap (λ x. first_some x 0)
      (ap (λ c. child_among m 0 (child_types types c)) G.header_code
      ∙ first_below types m O.ascending 0 0 nowhere f H.lies.nodes (subst (λ c. Formed types c f) G.header_code T.formed) H.lies.roots.first)
      ∙ head_both types m nowhere f [] H.lies.nodes
      ∙ sym (address_is f T.front (sequence f ++ []) 0 T.whole T.number)
