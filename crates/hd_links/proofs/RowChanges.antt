-- Linking, unlinking and replacing, told of the rows by their numbers.
use Rattle.std.proofs.Common.{◌≡◌, ℕ, suc, ◌+◌, ◌-◌, ◌<◌, ◌≤◌, List, [], ◌∷◌, ◌++◌, length, take, drop, get_or, Bool, true, false, ◌&&◌, arith, ap, ap₂, sym, ◌∙◌, refl, subst, cond, inl, inr, Option, Some}
use Rattle.std.specs.Prelude.{◌||◌, slice_index, ◌==◌, nat_lt, nat_le, map, slice_set}
use Rattle.std.specs.Option.{option_map_or, option_eq}
use Rattle.std.proofs.lemmas.Bool.{or_left, or_right, cases_eq, cases_Bool, cases_lt, and_parts, and_from, eq-eqb, ne_eqb, cond-true, cond-false, false≢true, lt-ltb, le-ltb, le-leb, lt-leb}
use Rattle.std.proofs.lemmas.List.{take-map, drop-map, append_assoc, length-append, length-map, length-set, take_at, drop_at, get_or-map, get_or-set_same, get_or-set_other, same_lists}
use Rattle.hd_dbd.specs.Types.{SegmentType}
use Rattle.hd_dbd.specs.Segment.{Segment}
use Rattle.hd_dbd.specs.Paths.{row_at, no_row, parent_row, end_of}
use Rattle.hd_dbd.specs.Searches.{least_within, first_from}
use Rattle.hd_dbd.specs.Forest.{Forest, empty, node, sequence}
use Rattle.hd_dbd.proofs.LevelLaw.{Leveled}
use Rattle.hd_dbd.proofs.Names.{option_eq-Decides}
use Rattle.hd_links.specs.Links.{Links, IsLinkGraph, is_child_type}
use Rattle.hd_links.specs.Placed.{Placed, count, first_of, nowhere, with_node, Holds}
use Rattle.hd_links.specs.Pointers.{IsTwinAfter}
use Rattle.hd_links.specs.Changes.{put_first, put_behind, take_out, with_leaf, without_span, rewritten, with_bytes, CanLink, CanUnlink}
use Rattle.hd_links.specs.Steps.{rows_of, addresses, address_at, RowsHaveAddresses}
use Rattle.hd_links.specs.Numbers.{LeafGoesInAt, RowsLeave}
use Rattle.hd_links.proofs.Types.{Ordered, in_cases}
use Rattle.hd_links.proofs.Forms.{Formed, none_of}
use Rattle.hd_links.proofs.Unique.{same}
use Rattle.hd_links.proofs.Build.{zero_or}
use Rattle.hd_links.proofs.Joins.{IsOne, first_one}
use Rattle.hd_links.proofs.Counts.{absent}
use Rattle.hd_links.proofs.Lift.{Spot, spot, at_most_once}
use Rattle.hd_links.proofs.Places.{chain_one, first_named, twin_named}
use Rattle.hd_links.proofs.Gaps.{next_one}
use Rattle.hd_links.proofs.Replacing.{address_kept}
use Rattle.hd_links.proofs.Numbers.{map_both, occurs, occurs_both, occurs_count, front_occurs, back_occurs, rows_map, rows_length, rows_addressed, skip_least}
use Rattle.hd_links.proofs.Standing.{Siblings, RowAt, row_found, own_row, own_address, own_parent, children_at, siblings_at}
use Rattle.hd_links.proofs.Scans.{inside}
use Rattle.hd_links.proofs.Following.{end_is}
use Rattle.hd_links.proofs.Sequels.{Around, around, number_is, span_end, InRow, in_row, lesser, FirstIn, first_in, put_in}

-- the rows up to one's span, and those behind it
regroup : (a b : List Placed) (r : Placed) (c d e : List Placed) → a ++ ((b ++ (r ∷ (c ++ d))) ++ e) ≡ (a ++ b) ++ (r ∷ (c ++ (d ++ e)))
regroup a b r c d e =
    ap (λ (x : List Placed). a ++ x) (append_assoc b (r ∷ (c ++ d)) e ∙ ap (λ (x : List Placed). b ++ (r ∷ x)) (append_assoc c d e))
    ∙ sym (append_assoc a b (r ∷ (c ++ (d ++ e))))

span_front : (a b : List Placed) (r : Placed) (c d : List Placed) → (a ++ b) ++ (r ∷ (c ++ d)) ≡ ((a ++ b) ++ (r ∷ c)) ++ d
span_front a b r c d = sym (append_assoc (a ++ b) (r ∷ c) d)

-- ---- nodes, rows and addresses

put_map : {Y : Type 0} (g : Placed → Y) (xs : List Placed) (p : Placed) (n : ℕ) → map g (take n xs ++ p ∷ drop n xs) ≡ take n (map g xs) ++ g p ∷ drop n (map g xs)
put_map {Y = Y} g xs p n = map_both g (take n xs) (p ∷ drop n xs) ∙ ap₂ (λ (u v : List Y). u ++ (g p ∷ v)) (sym (take-map g n xs)) (sym (drop-map g n xs))

out_map : {Y : Type 0} (g : Placed → Y) (xs : List Placed) (i e : ℕ) → map g (take i xs ++ drop e xs) ≡ take i (map g xs) ++ drop e (map g xs)
out_map {Y = Y} g xs i e = map_both g (take i xs) (drop e xs) ∙ ap₂ (λ (u v : List Y). u ++ v) (sym (take-map g i xs)) (sym (drop-map g e xs))

rows_put : (f2 f : Forest Placed) (p : Placed) (n : ℕ) → sequence f2 ≡ take n (sequence f) ++ p ∷ drop n (sequence f) → rows_of f2 ≡ take n (rows_of f) ++ p.segment ∷ drop n (rows_of f)
rows_put f2 f p n e =
    rows_map f2 ∙ ap (map (λ (q : Placed). q.segment)) e ∙ put_map (λ (q : Placed). q.segment) (sequence f) p n
    ∙ sym (ap (λ (x : List Segment). take n x ++ p.segment ∷ drop n x) (rows_map f))

places_put : (f2 f : Forest Placed) (p : Placed) (n : ℕ) → sequence f2 ≡ take n (sequence f) ++ p ∷ drop n (sequence f) → addresses f2 ≡ take n (addresses f) ++ p.address ∷ drop n (addresses f)
places_put f2 f p n e = ap (map (λ (q : Placed). q.address)) e ∙ put_map (λ (q : Placed). q.address) (sequence f) p n

rows_out : (f2 f : Forest Placed) (i e : ℕ) → sequence f2 ≡ take i (sequence f) ++ drop e (sequence f) → rows_of f2 ≡ take i (rows_of f) ++ drop e (rows_of f)
rows_out f2 f i e is =
    rows_map f2 ∙ ap (map (λ (q : Placed). q.segment)) is ∙ out_map (λ (q : Placed). q.segment) (sequence f) i e
    ∙ sym (ap (λ (x : List Segment). take i x ++ drop e x) (rows_map f))

places_out : (f2 f : Forest Placed) (i e : ℕ) → sequence f2 ≡ take i (sequence f) ++ drop e (sequence f) → addresses f2 ≡ take i (addresses f) ++ drop e (addresses f)
places_out f2 f i e is = ap (map (λ (q : Placed). q.address)) is ∙ out_map (λ (q : Placed). q.address) (sequence f) i e

-- the rows of one parent of a type or a later one
abbrev Seeking : List SegmentType → List Segment → Option ℕ → ℕ → ℕ → Bool
Seeking types rows q t j = option_eq (λ a b. a == b) (parent_row types rows j) q && nat_le t (row_at rows j).code

module _ (types : List SegmentType) (O : Ordered types) (leveled : Leveled types) (bound : ℕ) (m : Links) (G : IsLinkGraph types bound m) (f : Forest Placed) (H : Holds types m f) where
  -- behind the siblings of lesser type comes the first that is sought
  place_scan : (n : ℕ) (P : List ℕ) (q : Option ℕ) (h : ℕ) (b : ℕ → ℕ) (g : Forest Placed) (rest : List Placed) → Siblings types m f n P q h b g rest → (t d e : ℕ)
      → d ≡ length (sequence g) → e ≡ n + length (sequence g) → option_map_or (λ j. j) (least_within (Seeking types (rows_of f) q t) d n) e ≡ n + lesser t g
  place_scan n P q h b empty rest S t d e is ends =
      ap (λ x. option_map_or (λ j. j) (least_within (Seeking types (rows_of f) q t) x n) e) is ∙ ends
  place_scan n P q h b (node r k g) rest S t d e is ends =
      let both : length (sequence k ++ sequence g) ≡ length (sequence k) + length (sequence g) = length-append (sequence k) (sequence g) in
      let split : d ≡ suc (length (sequence k) + length (sequence g)) = omega arith in
      let code : (row_at (rows_of f) n).code ≡ r.segment.code = ap (λ (s : Segment). s.code) (own_row types O leveled bound m G f H n P q h b r k g rest S) in
      elim (cases_lt r.segment.code t) [
        | inl less ↦
            (let none : Seeking types (rows_of f) q t n ≡ false = elim (cases_Bool (Seeking types (rows_of f) q t n)) [
              | inr w ↦ w
              | inl w ↦ absurd (false≢true (sym (lt-leb t (row_at (rows_of f) n).code (subst (λ c. c < t) (sym code) less)) ∙ (and_parts _ _ w).1))
            ] in
            ap (λ x. option_map_or (λ j. j) (least_within (Seeking types (rows_of f) q t) x n) e) split
            ∙ ap (λ (o : Option ℕ). option_map_or (λ j. j) o e)
            (cond-false (Seeking types (rows_of f) q t n) (Some n) (least_within (Seeking types (rows_of f) q t) (length (sequence k) + length (sequence g)) (n + 1)) none
            ∙ skip_least (Seeking types (rows_of f) q t) (length (sequence k)) (length (sequence g)) (n + 1)
            (inside types O leveled bound m G f H n P q h b r k g rest S (Seeking types (rows_of f) q t) (λ j w. (option_eq-Decides _ _).0 (and_parts _ _ w).0)))
            ∙ place_scan (n + 1 + length (sequence k)) P q h (with_node b r) g rest (siblings_at types O leveled bound m G f H n P q h b r k g rest S) t (length (sequence g)) e refl (omega arith)
            ∙ (let own : lesser t (node r k g) ≡ suc (length (sequence k) + lesser t g)
            = cond-true (nat_lt r.segment.code t) (suc (length (sequence k) + lesser t g)) 0 (lt-ltb r.segment.code t less) in omega arith))
        | inr more ↦
            (let found : Seeking types (rows_of f) q t n ≡ true
            = and_from _ _ ((option_eq-Decides _ _).1 (own_parent types O leveled bound m G f H n P q h b r k g rest S)) (le-leb t (row_at (rows_of f) n).code (subst (λ c. t ≤ c) (sym code) more)) in
            ap (λ x. option_map_or (λ j. j) (least_within (Seeking types (rows_of f) q t) x n) e) split
            ∙ ap (λ (o : Option ℕ). option_map_or (λ j. j) o e)
            (cond-true (Seeking types (rows_of f) q t n) (Some n) (least_within (Seeking types (rows_of f) q t) (length (sequence k) + length (sequence g)) (n + 1)) found)
            ∙ (let own : lesser t (node r k g) ≡ 0 = cond-false (nat_lt r.segment.code t) (suc (length (sequence k) + lesser t g)) 0 (le-ltb r.segment.code t more) in omega arith))
      ]

  -- ---- a leaf

  -- behind a twin
  behind_in : (h y : ℕ) (p : Placed) (K : Forest Placed) → 0 < y → InRow types m y p K → Around h (cond (y == 0) (put_first p) (put_behind y p)) K f → (n : ℕ) × LeafGoesInAt types f h y p n
  behind_in h y p K some I D =
      let ne : y ≡ 0 → ⊥ = (λ (e : y ≡ 0). omega arith) in
      let own : cond (y == 0) (put_first p) (put_behind y p) K ≡ put_behind y p K
      = ap (λ (g : Forest Placed → Forest Placed). g K) (cond-false (y == 0) (put_first p) (put_behind y p) (ne_eqb y 0 ne)) in
      let whole : sequence f ≡ (D.before ++ I.front) ++ (I.row ∷ (sequence I.under ++ (I.rest ++ D.behind)))
      = D.whole ∙ ap (λ (x : List Placed). D.before ++ (x ++ D.behind)) I.whole ∙ regroup D.before I.front I.row (sequence I.under) I.rest D.behind in
      let changed : sequence (with_leaf h y p f) ≡ (D.before ++ I.front) ++ (I.row ∷ (sequence I.under ++ (p ∷ (I.rest ++ D.behind))))
      = D.changed ∙ ap (λ (x : List Placed). D.before ++ (x ++ D.behind)) (ap sequence own ∙ I.put) ∙ regroup D.before I.front I.row (sequence I.under) (p ∷ I.rest) D.behind in
      let up_to : List Placed = (D.before ++ I.front) ++ (I.row ∷ sequence I.under) in
      let long : length up_to ≡ length (D.before ++ I.front) + length (I.row ∷ sequence I.under) = length-append (D.before ++ I.front) (I.row ∷ sequence I.under) in
      let nodes : sequence (with_leaf h y p f) ≡ take (length up_to) (sequence f) ++ p ∷ drop (length up_to) (sequence f)
      = put_in p (sequence f) up_to (I.rest ++ D.behind) (sequence (with_leaf h y p f))
      (whole ∙ span_front D.before I.front I.row (sequence I.under) (I.rest ++ D.behind))
      (changed ∙ span_front D.before I.front I.row (sequence I.under) (p ∷ (I.rest ++ D.behind))) (length up_to) refl in (
        length up_to,
        record {
          within = (let all : length (sequence f) ≡ length up_to + length (I.rest ++ D.behind)
              = ap (λ (x : List Placed). length x) (whole ∙ span_front D.before I.front I.row (sequence I.under) (I.rest ++ D.behind)) ∙ length-append up_to (I.rest ++ D.behind) in
              let len : length (rows_of f) ≡ length (sequence f) = rows_length f in omega arith);
          rows = rows_put (with_leaf h y p f) f p (length up_to) nodes;
          places = places_put (with_leaf h y p f) f p (length up_to) nodes;
          behind = λ i within q at.
              (let num : length (D.before ++ I.front) ≡ i
              = number_is types O leveled bound m G f H i within (D.before ++ I.front) I.row (sequence I.under ++ (I.rest ++ D.behind)) whole (at ∙ sym I.is) in
              let ends : end_of types (rows_of f) i ≡ i + 1 + length (sequence I.under)
              = span_end types O leveled bound m G f H i within (D.before ++ I.front) I.table I.row I.under I.after (I.rest ++ D.behind) whole (at ∙ sym I.is) I.stands I.stand I.formed in
              omega arith);
          first_root = λ z e. absurd (ne z);
          first_below = λ i within z at. absurd (ne z);
        },
      )

  behind_twin : (h y : ℕ) (p : Placed) → CanLink types m h y p → 0 < y → (n : ℕ) × LeafGoesInAt types f h y p n
  behind_twin h y p C some =
      let T = spot types O bound m G f H h C.parent in
      let K : Forest Placed = T.0 in
      let S : Spot types m h f K = T.1 in
      let c = C.twin some in
      let one : IsOne p.segment.code y K = chain_one types m p.segment.code y nowhere K S.stand c.0 (subst (λ x. IsTwinAfter m c.0 x y) (S.named.first p.segment.code C.typed) c.1) in
      let I : InRow types m y p K = in_row types m p.segment.code y (m.code h) p nowhere K S.stand S.formed one in
      behind_in h y p K some I (around types m h (cond (y == 0) (put_first p) (put_behind y p)) K f H S)

  -- no root stands before a new first one
  none_lesser : (t : ℕ) (K : Forest Placed) → Formed types 0 K → is_child_type types 0 t ≡ true → lesser t K ≡ 0
  none_lesser t empty F c = refl
  none_lesser t (node r k n) F c =
      let a : 1 ≡ t = elim (in_cases 1 t [] c) [ inl e ↦ e | inr e ↦ absurd (false≢true e) ] in
      let b : 1 ≡ r.segment.code = elim (in_cases 1 r.segment.code [] F.0) [ inl e ↦ e | inr e ↦ absurd (false≢true e) ] in
      cond-false (nat_lt r.segment.code t) (suc (length (sequence k) + lesser t n)) 0 (le-ltb r.segment.code t (omega arith))

  -- as the first
  first_place : (h y : ℕ) (p : Placed) → CanLink types m h y p → y ≡ 0 → (K : Forest Placed) → Spot types m h f K → FirstIn p K → Around h (cond (y == 0) (put_first p) (put_behind y p)) K f
      → (n : ℕ) × LeafGoesInAt types f h y p n
  first_place h y p C zero_y K S I D =
      let own : cond (y == 0) (put_first p) (put_behind y p) K ≡ put_first p K
      = ap (λ (g : Forest Placed → Forest Placed). g K) (cond-true (y == 0) (put_first p) (put_behind y p) (eq-eqb y 0 zero_y)) in
      let whole : sequence f ≡ (D.before ++ I.front) ++ (I.rest ++ D.behind)
      = D.whole ∙ ap (λ (x : List Placed). D.before ++ (x ++ D.behind)) I.whole
      ∙ ap (λ (x : List Placed). D.before ++ x) (append_assoc I.front I.rest D.behind) ∙ sym (append_assoc D.before I.front (I.rest ++ D.behind)) in
      let changed : sequence (with_leaf h y p f) ≡ (D.before ++ I.front) ++ (p ∷ (I.rest ++ D.behind))
      = D.changed ∙ ap (λ (x : List Placed). D.before ++ (x ++ D.behind)) (ap sequence own ∙ I.put)
      ∙ ap (λ (x : List Placed). D.before ++ x) (append_assoc I.front (p ∷ I.rest) D.behind) ∙ sym (append_assoc D.before I.front (p ∷ (I.rest ++ D.behind))) in
      let long : length (D.before ++ I.front) ≡ length D.before + length I.front = length-append D.before I.front in
      let part : length I.front ≡ lesser p.segment.code K = I.long in
      let nodes : sequence (with_leaf h y p f) ≡ take (length (D.before ++ I.front)) (sequence f) ++ p ∷ drop (length (D.before ++ I.front)) (sequence f)
      = put_in p (sequence f) (D.before ++ I.front) (I.rest ++ D.behind) (sequence (with_leaf h y p f)) whole changed (length (D.before ++ I.front)) refl in (
        length (D.before ++ I.front),
        record {
          within = (let all : length (sequence f) ≡ length (D.before ++ I.front) + length (I.rest ++ D.behind)
              = ap (λ (x : List Placed). length x) whole ∙ length-append (D.before ++ I.front) (I.rest ++ D.behind) in
              let len : length (rows_of f) ≡ length (sequence f) = rows_length f in omega arith);
          rows = rows_put (with_leaf h y p f) f p (length (D.before ++ I.front)) nodes;
          places = places_put (with_leaf h y p f) f p (length (D.before ++ I.front)) nodes;
          behind = λ i within q at. absurd (omega arith);
          first_root = λ z e.
              (let none : length D.before ≡ 0 = ap (λ (x : List Placed). length x) (D.root e).0 in
              let zero_code : m.code h ≡ 0 = ap m.code e ∙ G.header_code in
              let few : lesser p.segment.code K ≡ 0
              = none_lesser p.segment.code K (subst (λ x. Formed types x K) zero_code S.formed) (subst (λ x. is_child_type types x p.segment.code ≡ true) zero_code C.typed) in
              omega arith);
          first_below = λ i within z at.
              (let A : RowsHaveAddresses m f = rows_addressed types m f H in
              let some : 0 < h = subst (λ x. 0 < x) at (A.there i within).some in
              let B = D.below some in
              let split : sequence f ≡ B.0 ++ (B.1 ∷ (sequence K ++ D.behind)) = D.whole ∙ ap (λ (x : List Placed). x ++ (sequence K ++ D.behind)) B.2 ∙ append_assoc B.0 (B.1 ∷ []) (sequence K ++ D.behind) in
              let num : length B.0 ≡ i = number_is types O leveled bound m G f H i within B.0 B.1 (sequence K ++ D.behind) split (at ∙ sym B.3) in
              let front : length D.before ≡ length B.0 + 1 = ap (λ (x : List Placed). length x) B.2 ∙ length-append B.0 (B.1 ∷ []) in
              let F : RowAt types O leveled bound m G f H i = row_found types O leveled bound m G f H i within in
              let own_at : address_at f i ≡ F.row.address = own_address types O leveled bound m G f H i F.path F.parent F.holder F.table F.row F.below F.after F.rest F.stands in
              let here : F.row.address ≡ h = sym own_at ∙ at in
              let code : F.row.segment.code ≡ m.code h = sym F.stands.stand.0.code ∙ ap m.code here in
              let below : F.below ≡ K
              = same types m F.row.segment.code (m.code h) nowhere nowhere F.below K F.stands.stand.1 S.stand F.stands.formed.2 S.formed
              (λ t. elim (cases_Bool (is_child_type types F.row.segment.code t)) [
                | inl q ↦ sym (F.stands.stand.0.children.first t q) ∙ ap (λ x. m.first_child x t) here ∙ S.named.first t (ap (λ c. is_child_type types c t) (sym code) ∙ q)
                | inr q ↦ none_of types F.row.segment.code t F.below F.stands.formed.2 (λ w. false≢true (sym q ∙ w))
                    ∙ sym (none_of types (m.code h) t K S.formed (λ w. false≢true (sym q ∙ ap (λ c. is_child_type types c t) code ∙ w)))
              ]) in
              let ends : end_of types (rows_of f) i ≡ i + 1 + length (sequence F.below) = end_is types O leveled bound m G f H i F in
              let scan : option_map_or (λ j. j) (first_from (Seeking types (rows_of f) (Some i) p.segment.code) (i + 1) (end_of types (rows_of f) i)) (end_of types (rows_of f) i) ≡ i + 1 + lesser p.segment.code F.below
              = place_scan (i + 1) (F.path ++ i ∷ []) (Some i) F.row.address nowhere F.below (sequence F.after ++ F.rest)
              (children_at types O leveled bound m G f H i F.path F.parent F.holder F.table F.row F.below F.after F.rest F.stands)
              p.segment.code (end_of types (rows_of f) i - (i + 1)) (end_of types (rows_of f) i) (omega arith) ends in
              let less : lesser p.segment.code F.below ≡ lesser p.segment.code K = ap (lesser p.segment.code) below in
              let total : length (D.before ++ I.front) ≡ i + 1 + lesser p.segment.code F.below = omega arith in
              total ∙ sym scan);
        },
      )

  as_first : (h y : ℕ) (p : Placed) → CanLink types m h y p → y ≡ 0 → (n : ℕ) × LeafGoesInAt types f h y p n
  as_first h y p C zero_y =
      let T = spot types O bound m G f H h C.parent in
      let K : Forest Placed = T.0 in
      let S : Spot types m h f K = T.1 in
      first_place h y p C zero_y K S (first_in p K) (around types m h (cond (y == 0) (put_first p) (put_behind y p)) K f H S)

  pub leaf_in : (h y : ℕ) (p : Placed) → CanLink types m h y p → (n : ℕ) × LeafGoesInAt types f h y p n
  leaf_in h y p C = elim (zero_or y) [ inl z ↦ as_first h y p C z | inr some ↦ behind_twin h y p C some ]

  -- ---- a span

  -- the rows before and behind a node's span
  span_cut : (h y a i : ℕ) (K : Forest Placed) → InRow types m a (record { address = a; segment = no_row }) K → Around h (take_out a) K f → i < length (rows_of f) → address_at f i ≡ a
      → RowsLeave m f h y a i (end_of types (rows_of f) i)
  span_cut h y a i K I D within at =
      let whole : sequence f ≡ (D.before ++ I.front) ++ (I.row ∷ (sequence I.under ++ (I.rest ++ D.behind)))
      = D.whole ∙ ap (λ (x : List Placed). D.before ++ (x ++ D.behind)) I.whole ∙ regroup D.before I.front I.row (sequence I.under) I.rest D.behind in
      let changed : sequence (without_span h a f) ≡ (D.before ++ I.front) ++ (I.rest ++ D.behind)
      = D.changed ∙ ap (λ (x : List Placed). D.before ++ (x ++ D.behind)) I.out
      ∙ ap (λ (x : List Placed). D.before ++ x) (append_assoc I.front I.rest D.behind) ∙ sym (append_assoc D.before I.front (I.rest ++ D.behind)) in
      let num : length (D.before ++ I.front) ≡ i
      = number_is types O leveled bound m G f H i within (D.before ++ I.front) I.row (sequence I.under ++ (I.rest ++ D.behind)) whole (at ∙ sym I.is) in
      let ends : end_of types (rows_of f) i ≡ i + 1 + length (sequence I.under)
      = span_end types O leveled bound m G f H i within (D.before ++ I.front) I.table I.row I.under I.after (I.rest ++ D.behind) whole (at ∙ sym I.is) I.stands I.stand I.formed in
      let long : length ((D.before ++ I.front) ++ (I.row ∷ sequence I.under)) ≡ length (D.before ++ I.front) + length (I.row ∷ sequence I.under)
      = length-append (D.before ++ I.front) (I.row ∷ sequence I.under) in
      let e : ℕ = end_of types (rows_of f) i in
      let X : List Placed = D.before ++ I.front in
      let M : List Placed = I.row ∷ sequence I.under in
      let Z : List Placed = I.rest ++ D.behind in
      let cut : sequence f ≡ (X ++ M) ++ Z = whole ∙ span_front D.before I.front I.row (sequence I.under) Z in
      let A : RowsHaveAddresses m f = rows_addressed types m f H in
      let len : length (rows_of f) ≡ length (sequence f) = rows_length f in
      let all_long : length (sequence f) ≡ length (X ++ M) + length Z = ap (λ (x : List Placed). length x) cut ∙ length-append (X ++ M) Z in
      let xm_long : length (X ++ M) ≡ length X + length M = length-append X M in
      let mz_long : length (M ++ Z) ≡ length M + length Z = length-append M Z in
      let counted : (b : ℕ) → count b f ≡ occurs b X + (occurs b M + occurs b Z) = (λ b.
      sym (occurs_count b f) ∙ ap (occurs b) (cut ∙ append_assoc X M Z) ∙ occurs_both b X (M ++ Z) ∙ ap (λ x. occurs b X + x) (occurs_both b M Z)) in
      let kept : (b : ℕ) → count b (without_span h a f) ≡ occurs b X + occurs b Z = (λ b.
      sym (occurs_count b (without_span h a f)) ∙ ap (occurs b) changed ∙ occurs_both b X Z) in
      let nodes : sequence (without_span h a f) ≡ take i (sequence f) ++ drop e (sequence f) =
      changed
      ∙ ap₂ (λ (u v : List Placed). u ++ v)
      (sym (ap (take i) whole ∙ take_at (D.before ++ I.front) (I.row ∷ (sequence I.under ++ (I.rest ++ D.behind))) i num))
      (sym (ap (drop (end_of types (rows_of f) i)) (whole ∙ span_front D.before I.front I.row (sequence I.under) (I.rest ++ D.behind))
      ∙ drop_at ((D.before ++ I.front) ++ (I.row ∷ sequence I.under)) (I.rest ++ D.behind) (end_of types (rows_of f) i) (omega arith))) in
      record {
        rows = rows_out (without_span h a f) f i e nodes;
        places = places_out (without_span h a f) f i e nodes;
        left = λ k below.
            (let b : ℕ = address_at f k in
            let some : 0 < b = (A.there k below).some in
            let one : count b f ≤ 1 = at_most_once types m f H b in
            let c : count b f ≡ occurs b X + (occurs b M + occurs b Z) = counted b in
            let d : count b (without_span h a f) ≡ occurs b X + occurs b Z = kept b in
            let no_zero : (b == 0) ≡ false = ne_eqb b 0 (λ (z : b ≡ 0). omega arith) in
            elim (cases_lt k i) [
              | inl before ↦
                  (let o : 0 < occurs b X = subst (λ (x : List Placed). 0 < occurs (slice_index (map (λ (p : Placed). p.address) x) k) X) (sym (cut ∙ append_assoc X M Z)) (front_occurs X (M ++ Z) k (omega arith)) in
                  let l : 0 < count b (without_span h a f) = omega arith in
                  or_right (b == 0) (nat_lt 0 (count b (without_span h a f))) (lt-ltb 0 (count b (without_span h a f)) l)
                  ∙ sym (or_left (nat_lt k i) (nat_le e k) (lt-ltb k i before)))
              | inr from ↦ elim (cases_lt k e) [
                | inl inside ↦
                    (let o : 0 < occurs b (M ++ Z)
                    = subst (λ (x : List Placed). 0 < occurs (slice_index (map (λ (p : Placed). p.address) x) k) (M ++ Z)) (sym (cut ∙ append_assoc X M Z)) (back_occurs X (M ++ Z) k (omega arith) (omega arith)) in
                    let o2 : occurs b (M ++ Z) ≡ occurs b M + occurs b Z = occurs_both b M Z in
                    let u : 0 < occurs b (X ++ M)
                    = subst (λ (x : List Placed). 0 < occurs (slice_index (map (λ (p : Placed). p.address) x) k) (X ++ M)) (sym cut) (front_occurs (X ++ M) Z k (omega arith)) in
                    let u2 : occurs b (X ++ M) ≡ occurs b X + occurs b M = occurs_both b X M in
                    ap₂ (λ u v. u || v) no_zero (le-ltb 0 (count b (without_span h a f)) (omega arith))
                    ∙ sym (ap₂ (λ u v. u || v) (le-ltb k i from) (lt-leb e k inside)))
                | inr past ↦
                    (let o : 0 < occurs b Z = subst (λ (x : List Placed). 0 < occurs (slice_index (map (λ (p : Placed). p.address) x) k) Z) (sym cut) (back_occurs (X ++ M) Z k (omega arith) (omega arith)) in
                    let l : 0 < count b (without_span h a f) = omega arith in
                    or_right (b == 0) (nat_lt 0 (count b (without_span h a f))) (lt-ltb 0 (count b (without_span h a f)) l)
                    ∙ sym (or_right (nat_lt k i) (nat_le e k) (le-leb e k past)))
              ]
            ]);
        others = λ b gone.
            (let z : count b f ≡ 0 = absent types m b nowhere f H.lies.nodes gone in
            let c : count b f ≡ occurs b X + (occurs b M + occurs b Z) = counted b in
            let d : count b (without_span h a f) ≡ occurs b X + occurs b Z = kept b in
            ap₂ (λ u v. u || v) (ne_eqb b 0 (λ (q : b ≡ 0). false≢true (sym gone ∙ ap m.here q ∙ G.header))) (le-ltb 0 (count b (without_span h a f)) (omega arith)));
      }

  pub span_out : (h y a i : ℕ) → CanUnlink types m h y a → i < length (rows_of f) → address_at f i ≡ a
      → RowsLeave m f h y a i (end_of types (rows_of f) i)
  span_out h y a i C within at =
      let T = spot types O bound m G f H h C.parent in
      let K : Forest Placed = T.0 in
      let S : Spot types m h f K = T.1 in
      let one : IsOne (m.code a) a K = elim (zero_or y) [
        | inl e ↦
            (let is : first_of K (m.code a) ≡ a
            = sym (S.named.first (m.code a) C.typed) ∙ first_named types m h y a C e in
            subst (λ x. IsOne (m.code a) x K) is (first_one K (m.code a) (subst (λ x. 0 < x) (sym is) C.some)))
        | inr some ↦
            (let c = C.twin some in
            let y_one : IsOne (m.code a) y K = chain_one types m (m.code a) y nowhere K S.stand c.0 (subst (λ x. IsTwinAfter m c.0 x y) (S.named.first (m.code a) C.typed) c.1) in
            let is : m.forward y ≡ a = twin_named types m h y a C some in
            subst (λ x. IsOne (m.code a) x K) is (next_one types m (m.code a) y nowhere K S.stand y_one (subst (λ x. 0 < x) (sym is) C.some)))
      ] in
      span_cut h y a i K (in_row types m (m.code a) a (m.code h) (record { address = a; segment = no_row }) nowhere K S.stand S.formed one) (around types m h (take_out a) K f H S) within at

-- ---- bytes

map_sequence : (a : ℕ) (bytes : List ℕ) (f : Forest Placed) → sequence (with_bytes a bytes f) ≡ map (rewritten a bytes) (sequence f)
map_sequence a bytes empty = refl
map_sequence a bytes (node r k n) =
    ap (λ (x : List Placed). rewritten a bytes r ∷ x)
    (ap₂ (λ (x y : List Placed). x ++ y) (map_sequence a bytes k) (map_sequence a bytes n) ∙ sym (maps (sequence k) (sequence n)))
  where
    maps : (xs ys : List Placed) → map (rewritten a bytes) (xs ++ ys) ≡ map (rewritten a bytes) xs ++ map (rewritten a bytes) ys
    maps [] ys = refl
    maps (x ∷ xs) ys = ap (λ (zs : List Placed). rewritten a bytes x ∷ zs) (maps xs ys)

addresses_kept : (a : ℕ) (bytes : List ℕ) (xs : List Placed) → map (λ (p : Placed). p.address) (map (rewritten a bytes) xs) ≡ map (λ (p : Placed). p.address) xs
addresses_kept a bytes [] = refl
addresses_kept a bytes (x ∷ xs) = ap₂ (λ (u : ℕ) (v : List ℕ). u ∷ v) (address_kept a bytes x) (addresses_kept a bytes xs)

rewritten_own : (a : ℕ) (bytes : List ℕ) (x : Placed) → x.address ≡ a → (rewritten a bytes x).segment ≡ record { code = x.segment.code; bytes = bytes }
rewritten_own a bytes x e =
    ap (λ (p : Placed). p.segment) (cond-true (x.address == a) (record { address = x.address; segment = record { code = x.segment.code; bytes = bytes } }) x (eq-eqb x.address a e))

rewritten_other : (a : ℕ) (bytes : List ℕ) (x : Placed) → (x.address ≡ a → ⊥) → (rewritten a bytes x).segment ≡ x.segment
rewritten_other a bytes x ne =
    ap (λ (p : Placed). p.segment) (cond-false (x.address == a) (record { address = x.address; segment = record { code = x.segment.code; bytes = bytes } }) x (ne_eqb x.address a ne))

-- the row of a number in the changed list
row_set : (xs : List Segment) (i k : ℕ) (bytes : List ℕ) (a : ℕ) (x : Placed) (d : Segment) → i < length xs → (k ≡ i → x.address ≡ a) → ((k ≡ i → ⊥) → x.address ≡ a → ⊥)
    → ((e : Segment) → get_or xs k e ≡ x.segment) → (rewritten a bytes x).segment ≡ get_or (slice_set xs i (record { code = (row_at xs i).code; bytes = bytes })) k d
row_set xs i k bytes a x d within own other row = elim (cases_eq k i) [
  | inl e ↦ rewritten_own a bytes x (own e)
      ∙ ap (λ (s : Segment). record { code = s.code; bytes = bytes }) (sym (row no_row) ∙ ap (row_at xs) e)
      ∙ sym (ap (λ y. get_or (slice_set xs i (record { code = (row_at xs i).code; bytes = bytes })) y d) e ∙ get_or-set_same xs i (record { code = (row_at xs i).code; bytes = bytes }) d within)
  | inr ne ↦ rewritten_other a bytes x (other ne) ∙ sym (row d) ∙ sym (get_or-set_other xs i k (record { code = (row_at xs i).code; bytes = bytes }) d ne)
]

pub bytes_in : (types : List SegmentType) (m : Links) (f : Forest Placed) (i : ℕ) (bytes : List ℕ) → Holds types m f → i < length (rows_of f)
    → (rows_of (with_bytes (address_at f i) bytes f) ≡ slice_set (rows_of f) i (record { code = (row_at (rows_of f) i).code; bytes = bytes }))
    × (addresses (with_bytes (address_at f i) bytes f) ≡ addresses f)
bytes_in types m f i bytes H within =
    let a : ℕ = address_at f i in
    let A : RowsHaveAddresses m f = rows_addressed types m f H in
    let nobody : Placed = record { address = 0; segment = no_row } in
    let len : length (rows_of f) ≡ length (sequence f) = rows_length f in
    let new : Segment = record { code = (row_at (rows_of f) i).code; bytes = bytes } in
    let twice : rows_of (with_bytes a bytes f) ≡ map (λ (p : Placed). p.segment) (map (rewritten a bytes) (sequence f))
    = rows_map (with_bytes a bytes f) ∙ ap (map (λ (p : Placed). p.segment)) (map_sequence a bytes f) in
    let long : length (rows_of (with_bytes a bytes f)) ≡ length (sequence f)
    = ap (λ (x : List Segment). length x) twice ∙ length-map (map (rewritten a bytes) (sequence f)) (λ (p : Placed). p.segment) ∙ length-map (sequence f) (rewritten a bytes) in
    let set_long : length (slice_set (rows_of f) i new) ≡ length (rows_of f) = length-set (rows_of f) i new in (
      same_lists (rows_of (with_bytes a bytes f)) (slice_set (rows_of f) i new) (long ∙ sym len ∙ sym set_long)
          (λ k d below.
          let k_in : k < length (sequence f) = omega arith in
          let map_len : length (map (rewritten a bytes) (sequence f)) ≡ length (sequence f) = length-map (sequence f) (rewritten a bytes) in
          let here : Placed = get_or (sequence f) k nobody in
          let at : here.address ≡ address_at f k = sym (get_or-map (λ (p : Placed). p.address) (sequence f) k nobody 0 k_in) in
          let got : get_or (rows_of (with_bytes a bytes f)) k d ≡ (rewritten a bytes here).segment
          = ap (λ (x : List Segment). get_or x k d) twice
          ∙ get_or-map (λ (p : Placed). p.segment) (map (rewritten a bytes) (sequence f)) k (rewritten a bytes nobody) d (omega arith)
          ∙ ap (λ (p : Placed). p.segment) (get_or-map (rewritten a bytes) (sequence f) k nobody (rewritten a bytes nobody) k_in) in
          let row : (e : Segment) → get_or (rows_of f) k e ≡ here.segment
          = (λ e. ap (λ (x : List Segment). get_or x k e) (rows_map f) ∙ get_or-map (λ (p : Placed). p.segment) (sequence f) k nobody e k_in) in
          got ∙ row_set (rows_of f) i k bytes a here d within (λ e. at ∙ ap (address_at f) e) (λ ne q. ne (A.once k i (omega arith) within (sym at ∙ q))) row),
      ap (map (λ (p : Placed). p.address)) (map_sequence a bytes f) ∙ addresses_kept a bytes (sequence f),
    )
