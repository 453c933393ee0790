-- A span that is unlinked is a splice the other way.
use Rattle.std.proofs.Common.{◌≡◌, ℕ, zero, suc, ◌+◌, ◌-◌, ◌<◌, ◌≤◌, List, [], ◌∷◌, ◌++◌, length, take, drop, get_or, Bool, true, false, cond, arith, ap, ap₂, sym, ◌∙◌, refl, subst, inl, inr, None, ◌&&◌, ◌||◌, ◌⊎◌}
use Rattle.std.specs.Prelude.{nat_lt, nat_le, map, slice_get}
use Rattle.std.specs.List.{list_any}
use Rattle.std.proofs.lemmas.Bool.{cases_Bool, leb-false, or_parts, cases_lt, cond-true, cond-false, lt-ltb, le-ltb, le-leb, lt-leb, and_from, ne_eqb}
use Rattle.std.proofs.lemmas.List.{length-append, length-map, length-take-le, length-drop, get_or-append_right, get_or_append_left, get_or-take, get_or-drop}
use Rattle.hd_dbd.specs.Types.{SegmentType}
use Rattle.hd_dbd.specs.Segment.{Segment}
use Rattle.hd_dbd.specs.Rows.{level}
use Rattle.hd_dbd.specs.Paths.{row_at, no_row, level_at, path_of, path_above, parent_row, end_of}
use Rattle.hd_dbd.specs.Positions.{Position}
use Rattle.hd_dbd.specs.Forest.{Forest, sequence}
use Rattle.hd_dbd.proofs.LevelLaw.{leveled, Leveled}
use Rattle.hd_links.specs.Links.{Links, IsLinkGraph}
use Rattle.hd_links.specs.Placed.{Placed}
use Rattle.hd_links.specs.Changes.{without_span}
use Rattle.hd_links.specs.Steps.{rows_of, addresses, address_at, RowsHaveAddresses}
use Rattle.hd_links.proofs.Types.{ordered, Ordered}
use Rattle.hd_links.proofs.Numbers.{rows_addressed, rows_length}
use Rattle.hd_links.proofs.PathSteps.{path_behind, path_length, level_some}
use Rattle.hd_links.proofs.RowChanges.{span_out}
use Rattle.hd_calls.specs.Moves.{number_after_insert, passed_after_insert, number_after_delete, passed_after_delete, position_after_delete}
use Rattle.hd_calls.proofs.Spans.{IsEnd, end_is}
use Rattle.hd_position.specs.Kept.{Kept, StandsFor, Ascend, path_passed, row_on, is_on, without_level, without_row}
use Rattle.hd_position.specs.Laws.{UnlinkingMovesPositions}
use Rattle.hd_position.proofs.Splices.{IsSpliced, rises, stays, AllBelow, above_below, below_end, below_more, map_stays}
use Rattle.hd_position.proofs.Rising.{row_on_map, map_both_ways, passed_rises}
use Rattle.hd_position.proofs.Falling.{row_after_delete, nearest_last, any_in, map_split, take_long, span_path, standing_in, parent_in, held_in, standing_out, held_one, held_all}
use Rattle.hd_position.proofs.Leaves.{past_level}

-- ---- held levels

-- levels below a level ascend up to the one before it
ascend_less : (l high most low : ℕ) (ls : List ℕ) → l - 1 ≤ most → list_any (λ h. nat_le l h) ls ≡ false → Ascend low high ls → Ascend low most ls
ascend_less l high most low [] room none a = tt
ascend_less l high most low (h ∷ hs) room none a =
    let both = or_parts (nat_le l h) (list_any (λ h. nat_le l h) hs) none in
    let less : h < l = leb-false l h both.0 in
    (a.0, omega arith, ascend_less l high most h hs room both.1 a.2)

-- ---- a span

-- What is known where the rows from i to before e leave.
pub record SpanLeaves (types : List SegmentType) (m : Links) (f f2 : Forest Placed) (i e : ℕ) : Type 0 where
  pub addressed : RowsHaveAddresses m f
  pub some : i < e
  pub most : e ≤ length (rows_of f)
  pub fewer : length (rows_of f) ≡ length (rows_of f2) + (e - i)
  pub spliced : IsSpliced types (rows_of f2) (rows_of f) i (e - i)
  pub places : (x : ℕ) → address_at f (number_after_insert i (e - i) x) ≡ address_at f2 x
  pub deeper : (x : ℕ) → i < x → x < e → level_at types (rows_of f) i < level_at types (rows_of f) x
  pub top : 0 < level_at types (rows_of f) i
  pub long : length (path_above types (rows_of f) (level_at types (rows_of f) i) i) ≡ level_at types (rows_of f) i - 1
  pub front : take (level_at types (rows_of f) i - 1) (path_passed types (rows_of f) i) ≡ path_above types (rows_of f) (level_at types (rows_of f) i) i

-- the numbers on the path of the last row passed are numbers passed
pub passed_below : (types : List SegmentType) (rows : List Segment) (n : ℕ) → AllBelow n (path_passed types rows n)
passed_below types rows zero = tt
passed_below types rows (suc j) = below_end (suc j) j (path_above types rows (level_at types rows j) j)
    (below_more j (suc j) (path_above types rows (level_at types rows j) j) (omega arith) (above_below types rows (level_at types rows j) j)) (omega arith)

module _ (types : List SegmentType) (m : Links) (f f2 : Forest Placed) (i e : ℕ) (S : SpanLeaves types m f f2 i e) where
  R : List Segment
  R = rows_of f

  abbrev L : ℕ
  L = level_at types (rows_of f) i

  -- the path of the row before
  before_is : path_passed types (rows_of f) i ≡ map (number_after_insert i (e - i)) (path_passed types (rows_of f2) i)
  before_is =
      ap (path_passed types (rows_of f)) (sym (cond-false (nat_lt i i) (i + (e - i)) i (le-ltb i i (omega arith))))
      ∙ passed_rises types (rows_of f2) (rows_of f) i (e - i) S.spliced i

  before_same : path_passed types (rows_of f) i ≡ path_passed types (rows_of f2) i
  before_same = before_is ∙ map_stays i (e - i) (path_passed types (rows_of f2) i) (passed_below types (rows_of f2) i)

  -- the same by addresses
  placed : (xs : List ℕ) → map (λ j. address_at f j) (map (number_after_insert i (e - i)) xs) ≡ map (λ j. address_at f2 j) xs
  placed xs = map_both_ways (λ j. address_at f j) (λ j. address_at f2 j) xs (number_after_insert i (e - i)) S.places

  -- no number_after_insert number is i
  not_i : (x : ℕ) → number_after_insert i (e - i) x ≡ i → ⊥
  not_i x q = elim (cases_lt x i) [
    | inl l ↦ (let r : number_after_insert i (e - i) x ≡ x = stays i (e - i) x l in omega arith)
    | inr l ↦ (let r : number_after_insert i (e - i) x ≡ x + (e - i) = rises i (e - i) x l in let s : i < e = S.some in omega arith)
  ]

  off_path : (xs : List ℕ) → AllBelow (length (rows_of f)) (map (number_after_insert i (e - i)) xs)
      → is_on (map (λ j. address_at f j) (map (number_after_insert i (e - i)) xs)) (address_at f i) ≡ false
  off_path [] b = refl
  off_path (x ∷ xs) b =
      ap₂ (λ (u v : Bool). u || v)
      (ne_eqb (address_at f (number_after_insert i (e - i) x)) (address_at f i)
      (λ q. not_i x (S.addressed.once (number_after_insert i (e - i) x) i b.0 (let a : i < e = S.some in let c : e ≤ length (rows_of f) = S.most in omega arith) q)))
      (off_path xs b.1)

  -- outside the span
  outside : (K : Kept) (q : Position) (n2 : ℕ) → StandsFor types f K q → passed_after_delete i e q.passed ≡ n2 → n2 ≤ length (rows_of f2)
      → path_passed types (rows_of f) q.passed ≡ map (number_after_insert i (e - i)) (path_passed types (rows_of f2) n2)
      → StandsFor types f2 (without_row (address_at f i) L (map (λ j. address_at f j) (path_passed types (rows_of f) i)) K) (position_after_delete i e (parent_row types (rows_of f) i) q)
  outside K q n2 F is few path =
      let pf : List ℕ = path_passed types (rows_of f2) n2 in
      let before : List ℕ = map (λ j. address_at f j) (path_passed types (rows_of f) i) in
      let own : K.path ≡ map (λ j. address_at f j) (map (number_after_insert i (e - i)) pf) = F.path ∙ ap (map (λ j. address_at f j)) path in
      let bound : AllBelow (length (rows_of f)) (map (number_after_insert i (e - i)) pf)
      = subst (AllBelow (length (rows_of f))) path (below_more q.passed (length (rows_of f)) (path_passed types (rows_of f) q.passed) F.within (passed_below types (rows_of f) q.passed)) in
      let off : is_on K.path (address_at f i) ≡ false = ap (λ (xs : List ℕ). is_on xs (address_at f i)) own ∙ off_path pf bound in
      let back : path_passed types (rows_of f2) (passed_after_delete i e q.passed) ≡ pf = ap (path_passed types (rows_of f2)) is in
      subst (λ (k : Kept). StandsFor types f2 k (position_after_delete i e (parent_row types (rows_of f) i) q)) (sym (cond-false (is_on K.path (address_at f i)) (without_level L before K) K off)) (record {
        within = subst (λ n. n ≤ length (rows_of f2)) (sym is) few;
        path = own ∙ placed pf ∙ sym (ap (map (λ j. address_at f2 j)) back);
        standing = ap (row_after_delete i e (parent_row types (rows_of f) i)) (F.standing ∙ ap (λ (p : List ℕ). row_on p K.standing) path ∙ row_on_map (number_after_insert i (e - i)) pf K.standing)
            ∙ standing_out i e S.some (parent_row types (rows_of f) i) (row_on pf K.standing) ∙ sym (ap (λ (p : List ℕ). row_on p K.standing) back);
        last = F.last;
        parent = ap (row_after_delete i e None) (F.parent ∙ ap (λ (p : List ℕ). row_on p K.parent) path ∙ row_on_map (number_after_insert i (e - i)) pf K.parent)
            ∙ standing_out i e S.some None (row_on pf K.parent) ∙ sym (ap (λ (p : List ℕ). row_on p K.parent) back);
        held = held_all i e S.some (map (number_after_insert i (e - i)) pf) pf (λ _. false)
            (λ x l w. (let O = held_one i e S.some x (row_on pf l) (w ∙ row_on_map (number_after_insert i (e - i)) pf l) in (O.0, λ _. O.1)))
            q.held K.held (F.held ∙ ap (λ (p : List ℕ). map (λ l. row_on p l) K.held) path)
            ∙ ap (map (λ l. row_on pf l)) (none K.held) ∙ sym (ap (λ (p : List ℕ). map (λ l. row_on p l) K.held) back);
        standing_level = F.standing_level;
        parent_level = F.parent_level;
        held_levels = F.held_levels;
      })
    where
      never : (ls : List ℕ) → list_any (λ (l : ℕ). false) ls ≡ false
      never [] = refl
      never (l ∷ ls) = never ls

      none : (ls : List ℕ) → cond (list_any (λ (l : ℕ). false) ls) [] ls ≡ ls
      none ls = cond-false _ _ _ (never ls)

  -- inside it
  inside : (K : Kept) (q : Position) (j : ℕ) → StandsFor types f K q → q.passed ≡ suc j → i ≤ j → j < e
      → StandsFor types f2 (without_row (address_at f i) L (map (λ j. address_at f j) (path_passed types (rows_of f) i)) K) (position_after_delete i e (parent_row types (rows_of f) i) q)
  inside K q j F is a b =
      let PA : List ℕ = path_above types (rows_of f) L i in
      let P = span_path types (rows_of f) i e S.deeper j a b in
      let pf : List ℕ = path_passed types (rows_of f2) i in
      let pp : List ℕ = PA ++ i ∷ P.0 in
      let before : List ℕ = map (λ j. address_at f j) (path_passed types (rows_of f) i) in
      let path : path_passed types (rows_of f) q.passed ≡ pp = ap (path_passed types (rows_of f)) is ∙ P.1 in
      let own : K.path ≡ map (λ j. address_at f j) pp = F.path ∙ ap (map (λ j. address_at f j)) path in
      let on : is_on K.path (address_at f i) ≡ true
      = ap (λ (xs : List ℕ). is_on xs (address_at f i)) (own ∙ map_split (λ j. address_at f j) PA P.0 i) ∙ any_in (address_at f i) (map (λ j. address_at f j) PA) (map (λ j. address_at f j) P.0) in
      let falls : passed_after_delete i e q.passed ≡ i = cond-true (nat_lt i q.passed && nat_le q.passed e) i (number_after_delete i e q.passed) (and_from _ _ (lt-ltb i q.passed (omega arith)) (le-leb q.passed e (omega arith))) in
      let back : path_passed types (rows_of f2) (passed_after_delete i e q.passed) ≡ pf = ap (path_passed types (rows_of f2)) falls in
      let front : take (L - 1) pf ≡ PA = ap (take (L - 1)) (sym before_same) ∙ S.front in
      let below : AllBelow i PA = above_below types (rows_of f) L i in
      let size : length K.path ≡ length pp = ap (λ (xs : List ℕ). length xs) own ∙ length-map pp (λ j. address_at f j) in
      let parent : parent_row types (rows_of f) i ≡ row_on pf (L - 1)
      = nearest_last types (rows_of f) L i ∙ ap₂ (λ (xs : List ℕ) (n : ℕ). row_on xs n) (sym front) S.long ∙ row_front (L - 1) pf in
      let room : length before ≡ length pf = length-map (path_passed types (rows_of f) i) (λ j. address_at f j) ∙ ap (λ (xs : List ℕ). length xs) before_same in
      let high : L - 1 ≤ length pf = take_long (L - 1) pf (let z : length (take (L - 1) pf) ≡ length PA = ap (λ (xs : List ℕ). length xs) front in let y : length PA ≡ L - 1 = S.long in omega arith) in
      subst (λ (k : Kept). StandsFor types f2 k (position_after_delete i e (parent_row types (rows_of f) i) q)) (sym (cond-true (is_on K.path (address_at f i)) (without_level L before K) K on)) (record {
        within = subst (λ n. n ≤ length (rows_of f2)) (sym falls) (let x : i < e = S.some in let y : e ≤ length (rows_of f) = S.most in let z : length (rows_of f) ≡ length (rows_of f2) + (e - i) = S.fewer in omega arith);
        path = ap (map (λ j. address_at f j)) before_is ∙ placed pf ∙ sym (ap (map (λ j. address_at f2 j)) back);
        standing = ap (row_after_delete i e (parent_row types (rows_of f) i)) (F.standing ∙ ap (λ (p : List ℕ). row_on p K.standing) path)
            ∙ standing_in i e S.some L S.top PA pf P.0 S.long front below P.2 (parent_row types (rows_of f) i) K.standing (let w : K.standing ≤ length K.path = F.standing_level in omega arith) parent
            ∙ sym (ap (λ (p : List ℕ). row_on p (cond (nat_lt K.standing L) K.standing (L - 1))) back);
        last = F.last;
        parent = ap (row_after_delete i e None) (F.parent ∙ ap (λ (p : List ℕ). row_on p K.parent) path)
            ∙ parent_in i e S.some L S.top PA pf P.0 S.long front below P.2 K.parent
            ∙ sym (ap (λ (p : List ℕ). row_on p (cond (nat_lt K.parent L) K.parent 0)) back);
        held = held_all i e S.some pp pf (λ h. nat_le L h) (held_in i e S.some L S.top PA pf P.0 S.long front below P.2) q.held K.held (F.held ∙ ap (λ (p : List ℕ). map (λ l. row_on p l) K.held) path)
            ∙ sym (ap (λ (p : List ℕ). map (λ l. row_on p l) (cond (list_any (λ h. nat_le L h) K.held) [] K.held)) back);
        standing_level = elim (cases_lt K.standing L) [
          | inl l ↦ subst (λ n. n ≤ length before) (sym (cond-true (nat_lt K.standing L) K.standing (L - 1) (lt-ltb K.standing L l))) (omega arith)
          | inr l ↦ subst (λ n. n ≤ length before) (sym (cond-false (nat_lt K.standing L) K.standing (L - 1) (le-ltb K.standing L l))) (omega arith)
        ];
        parent_level = elim (cases_lt K.parent L) [
          | inl l ↦ subst (λ n. n ≤ length before) (sym (cond-true (nat_lt K.parent L) K.parent 0 (lt-ltb K.parent L l))) (omega arith)
          | inr l ↦ subst (λ n. n ≤ length before) (sym (cond-false (nat_lt K.parent L) K.parent 0 (le-ltb K.parent L l))) (omega arith)
        ];
        held_levels = elim (cases_Bool (list_any (λ h. nat_le L h) K.held)) [
          | inl t ↦ subst (Ascend 0 (length before)) (sym (cond-true (list_any (λ h. nat_le L h) K.held) [] K.held t)) tt
          | inr t ↦ subst (Ascend 0 (length before)) (sym (cond-false (list_any (λ h. nat_le L h) K.held) [] K.held t)) (ascend_less L (length K.path) (length before) 0 K.held (omega arith) t F.held_levels)
        ];
      })
    where
      row_front : (n : ℕ) (xs : List ℕ) → row_on (take n xs) n ≡ row_on xs n
      row_front zero xs = refl
      row_front (suc n) xs = get_front n xs
        where
          get_front : (n : ℕ) (xs : List ℕ) → slice_get (take (suc n) xs) n ≡ slice_get xs n
          get_front n [] = refl
          get_front zero (x ∷ xs) = refl
          get_front (suc n) (x ∷ xs) = get_front n xs

  pub stands_falls : (K : Kept) (q : Position) → StandsFor types f K q
      → StandsFor types f2 (without_row (address_at f i) L (map (λ j. address_at f j) (path_passed types (rows_of f) i)) K) (position_after_delete i e (parent_row types (rows_of f) i) q)
  stands_falls K q F = elim (cases_lt i q.passed) [
    | inr l ↦
        (let w : passed_after_delete i e q.passed ≡ q.passed = cond-false (nat_lt i q.passed && nat_le q.passed e) i (number_after_delete i e q.passed) (ap (λ (b : Bool). b && nat_le q.passed e) (le-ltb i q.passed l))
        ∙ cond-false (nat_le e q.passed) (q.passed - (e - i)) q.passed (lt-leb e q.passed (let x : i < e = S.some in omega arith)) in
        outside K q q.passed F w (let x : i < e = S.some in let y : e ≤ length (rows_of f) = S.most in let z : length (rows_of f) ≡ length (rows_of f2) + (e - i) = S.fewer in omega arith)
        (ap (path_passed types (rows_of f)) (sym (cond-false (nat_lt i q.passed) (q.passed + (e - i)) q.passed (le-ltb i q.passed l)))
        ∙ passed_rises types (rows_of f2) (rows_of f) i (e - i) S.spliced q.passed))
    | inl l ↦ elim (cases_lt e q.passed) [
      | inr u ↦ inside K q (q.passed - 1) F (omega arith) (omega arith) (omega arith)
      | inl u ↦
          (let x : i < e = S.some in
          let n2 : ℕ = q.passed - (e - i) in
          let w : passed_after_delete i e q.passed ≡ n2 = cond-false (nat_lt i q.passed && nat_le q.passed e) i (number_after_delete i e q.passed)
          (ap (λ (b : Bool). nat_lt i q.passed && b) (lt-leb q.passed e u) ∙ and_false (nat_lt i q.passed))
          ∙ cond-true (nat_le e q.passed) (q.passed - (e - i)) q.passed (le-leb e q.passed (omega arith)) in
          let up : passed_after_insert i (e - i) n2 ≡ q.passed = cond-true (nat_lt i n2) (n2 + (e - i)) n2 (lt-ltb i n2 (omega arith)) ∙ (let s : n2 + (e - i) ≡ q.passed = omega arith in s) in
          outside K q n2 F w (let y : q.passed ≤ length (rows_of f) = F.within in let z : length (rows_of f) ≡ length (rows_of f2) + (e - i) = S.fewer in omega arith)
          (ap (path_passed types (rows_of f)) (sym up) ∙ passed_rises types (rows_of f2) (rows_of f) i (e - i) S.spliced n2))
    ]
  ]
    where
      and_false : (b : Bool) → (b && false) ≡ false
      and_false true = refl
      and_false false = refl

-- ---- the law

module _ {X : Type 0} (xs : List X) (d : X) (i e : ℕ) (some : i ≤ e) (most : e ≤ length xs) where
  front_long : length (take i xs) ≡ i
  front_long = length-take-le i xs (omega arith)

  out_front : (x : ℕ) → x < i → get_or (take i xs ++ drop e xs) x d ≡ get_or xs x d
  out_front x l = get_or_append_left (take i xs) (drop e xs) d x (let w : length (take i xs) ≡ i = front_long in omega arith) ∙ get_or-take i xs x d l

  out_back : (x : ℕ) → i ≤ x → get_or (take i xs ++ drop e xs) x d ≡ get_or xs (x + (e - i)) d
  out_back x l = get_or-append_right (take i xs) (drop e xs) i x d front_long l ∙ get_or-drop e xs (x - i) d ∙ ap (λ j. get_or xs j d) (let w : e + (x - i) ≡ x + (e - i) = omega arith in w)

  out_long : length xs ≡ length (take i xs ++ drop e xs) + (e - i)
  out_long = (let a : length (take i xs ++ drop e xs) ≡ length (take i xs) + length (drop e xs) = length-append (take i xs) (drop e xs) in
      let b : length (take i xs) ≡ i = front_long in let c : length (drop e xs) ≡ length xs - e = length-drop e xs in omega arith)

pub unlinking_moves : UnlinkingMovesPositions
unlinking_moves block_size frspc types bound m f h y i D within C K q F =
    let formed = D.formed in
    let G = D.graph in
    let H = D.holds in
    let a : ℕ = address_at f i in
    let O = ordered block_size frspc types formed in
    let levels = leveled block_size frspc types formed in
    let f2 : Forest Placed = without_span h a f in
    let e : ℕ = end_of types (rows_of f) i in
    let W = span_out types O levels bound m G f H h y a i C within refl in
    let E : IsEnd types (rows_of f) i e = end_is types (rows_of f) i within in
    let some : i < e = E.behind in
    let most : e ≤ length (rows_of f) = E.within in
    let count : length (addresses f) ≡ length (rows_of f) = length-map (sequence f) (λ (p : Placed). p.address) ∙ sym (rows_length f) in
    let low : level_at types (rows_of f) e ≤ level_at types (rows_of f) i = by_next E.next in
    let deep : (x : ℕ) → i < x → x < e → level_at types (rows_of f) i < level_at types (rows_of f) x = (λ x u v. E.deeper x (omega arith) v) in
    let top : 0 < level_at types (rows_of f) i = level_some types O levels bound m G f H i within in
    let whole : length (path_of types (rows_of f) i) ≡ level_at types (rows_of f) i = path_length types O levels bound m G f H i within in
    let both : length (path_of types (rows_of f) i) ≡ length (path_above types (rows_of f) (level_at types (rows_of f) i) i) + 1 = length-append (path_above types (rows_of f) (level_at types (rows_of f) i) i) (i ∷ []) in
    let back : (x : ℕ) → i ≤ x → row_at (rows_of f) (x + (e - i)) ≡ row_at (rows_of f2) x = (λ x l. sym (ap (λ (rs : List Segment). get_or rs x no_row) W.rows ∙ out_back (rows_of f) no_row i e (omega arith) most x l)) in
    let S : SpanLeaves types m f f2 i e = record {
      addressed = rows_addressed types m f H;
      some = omega arith;
      most = most;
      fewer = out_long (rows_of f) no_row i e (omega arith) most ∙ ap (λ (rs : List Segment). length rs + (e - i)) (sym W.rows);
      spliced = record {
        front = λ x l. ap (level types) (sym (ap (λ (rs : List Segment). get_or rs x no_row) W.rows ∙ out_front (rows_of f) no_row i e (omega arith) most x l));
        back = λ x l. ap (level types) (back x l);
        deep = λ x l u.
            (let hd : level_at types (rows_of f2) i ≡ level_at types (rows_of f) e = ap (level types) (sym (back i (omega arith)) ∙ ap (row_at (rows_of f)) (let s : i + (e - i) ≡ e = omega arith in s)) in
            elim (cases_lt i x) [
              | inl w ↦ (let d = deep x w (omega arith) in omega arith)
              | inr w ↦ (let s : level_at types (rows_of f) x ≡ level_at types (rows_of f) i = ap (level_at types (rows_of f)) (let z : x ≡ i = omega arith in z) in omega arith)
            ]);
      };
      places = λ x. elim (cases_lt x i) [
        | inl l ↦ ap (address_at f) (stays i (e - i) x l) ∙ sym (ap (λ (xs : List ℕ). get_or xs x 0) W.places ∙ out_front (addresses f) 0 i e (omega arith) (omega arith) x l)
        | inr l ↦ ap (address_at f) (rises i (e - i) x l) ∙ sym (ap (λ (xs : List ℕ). get_or xs x 0) W.places ∙ out_back (addresses f) 0 i e (omega arith) (omega arith) x l)
      ];
      deeper = deep;
      top = top;
      long = omega arith;
      front = front_of O levels G i within top;
    } in
    stands_falls types m f f2 i e S K q F
  where
    by_next : (end_of types (rows_of f) i ≡ length (rows_of f)) ⊎ (level_at types (rows_of f) (end_of types (rows_of f) i) ≤ level_at types (rows_of f) i)
        → level_at types (rows_of f) (end_of types (rows_of f) i) ≤ level_at types (rows_of f) i
    by_next (inl all) = (let z : level_at types (rows_of f) (end_of types (rows_of f) i) ≡ 0 = past_level types (rows_of f) (end_of types (rows_of f) i) (omega arith) in omega arith)
    by_next (inr low) = low

    front_of : (O : Ordered types) (levels : Leveled types) (G : IsLinkGraph types bound m) (i : ℕ) → i < length (rows_of f) → 0 < level_at types (rows_of f) i
        → take (level_at types (rows_of f) i - 1) (path_passed types (rows_of f) i) ≡ path_above types (rows_of f) (level_at types (rows_of f) i) i
    front_of O levels G zero l top = take_none (level_at types (rows_of f) 0 - 1)
      where
        take_none : (n : ℕ) → take {A = ℕ} n [] ≡ []
        take_none zero = refl
        take_none (suc n) = refl
    front_of O levels G (suc j) l top =
        sym (path_behind types O levels bound m G f D.holds (level_at types (rows_of f) (suc j) - 1) j (omega arith))
        ∙ ap (λ n. path_above types (rows_of f) n (suc j)) (let s : level_at types (rows_of f) (suc j) - 1 + 1 ≡ level_at types (rows_of f) (suc j) = omega arith in s)
