-- What a get leaves: a position in range, whose held rows ascend on one path.
use Rattle.std.proofs.Common.{◌≡◌, ℕ, zero, suc, ◌-◌, ◌<◌, ◌≤◌, List, [], ◌∷◌, ◌++◌, length, map, take, true, false, Bool, cond, arith, ap, sym, ◌∙◌, subst, Option, Some, None, refl, inl, inr}
use Rattle.std.specs.Prelude.{◌==◌, ◌||◌, nat_le, nat_lt, find, filter_map, is_none, IfSome, slice_index}
use Rattle.std.specs.Option.{option_map_or}
use Rattle.std.specs.List.{list_any, list_all, cons_option, AllByRecursion}
use Rattle.std.proofs.lemmas.Bool.{and_parts, cases_Bool, cases_lt, cond-true, cond-false, or_cases, leb-true, ltb-true, eqb-true}
use Rattle.hd_dbd.specs.Types.{SegmentType}
use Rattle.hd_dbd.specs.Segment.{Segment}
use Rattle.hd_dbd.specs.Hierarchy.{level_of, is_under}
use Rattle.hd_dbd.specs.Paths.{row_at, level_at, path_of, end_of}
use Rattle.hd_dbd.specs.Positions.{Position, at_start}
use Rattle.hd_dbd.specs.Calls.{Reply, bare}
use Rattle.hd_dbd.specs.declared.answer.Status.TheVariants.{GB, GE}
use Rattle.hd_dbd.specs.Views.{Setting}
use Rattle.hd_dbd.proofs.LevelLaw.{Leveled}
use Rattle.hd_calls.specs.declared.call.GetKind.{GetKind}
use Rattle.hd_calls.specs.declared.call.GetKind.TheVariants.{Unique, Next, NextInParent}
use Rattle.hd_calls.specs.Ssas.{Head, Ssa, above_target, target_code}
use Rattle.hd_calls.specs.Satisfies.{on_path, meets_on_path, is_named, satisfies}
use Rattle.hd_calls.specs.Gets.{path_rows, parent_after, unheld, get_missing, get_found, get_step, sought, search_start, search_end}
use Rattle.hd_calls.specs.Laws.{LieOnOnePath, IsInRange}
use Rattle.hd_calls.proofs.Fair.{satisfying_within}
use Rattle.hd_calls.proofs.FairUpdates.{found_any}
use Rattle.hd_calls.proofs.Searches.{least_some}
use Rattle.hd_calls.proofs.Spans.{IsEnd, end_is}
use Rattle.hd_calls.proofs.PathSpans.{spans_below}
use Rattle.hd_calls.proofs.Resolving.{Resolved, under_level}

-- ---- what a position may always be

pub start_in_range : (types : List SegmentType) (rows : List Segment) → IsInRange types rows at_start
start_in_range types rows = record { passed = omega arith; standing = tt; parent = tt; held = tt }

pub unheld_in_range : (types : List SegmentType) (rows : List Segment) (p : Position) → IsInRange types rows p → IsInRange types rows (unheld p)
unheld_in_range types rows p fits = record { passed = fits.passed; standing = fits.standing; parent = fits.parent; held = tt }

-- ---- rows on one path

pub found_passes : (test : ℕ → Bool) (xs : List ℕ) (d : ℕ) → find test xs ≡ Some d → test d ≡ true
found_passes test [] d is = cc
found_passes test (x ∷ xs) d is = elim (cases_Bool (test x)) [
  | inl here ↦ (let same : Some x ≡ Some d = sym (cond-true (test x) (Some x) (find test xs) here) ∙ is in
      let eq : x ≡ d = cc in subst (λ (y : ℕ). test y ≡ true) eq here)
  | inr none ↦ found_passes test xs d (sym (cond-false (test x) (Some x) (find test xs) none) ∙ is)
]

-- A row of the path of row i, on a level.
pub record IsOn (types : List SegmentType) (rows : List Segment) (i l k : ℕ) : Type 0 where
  pub from : k ≤ i
  pub to : i < end_of types rows k
  pub level_is : level_at types rows k ≡ l

pub on_is : (types : List SegmentType) (rows : List Segment) (code i k : ℕ) → i < length rows → on_path types rows code i ≡ Some k → IsOn types rows i (level_of types code) k
on_is types rows code i k within is =
    let has : list_any (λ j. j == k) (path_of types rows i) ≡ true = found_any (λ j. (row_at rows j).code == code) (path_of types rows i) k is in
    let both = and_parts (nat_le k i) (nat_lt i (end_of types rows k)) (sym (spans_below types rows k i within) ∙ has) in
    record {
      from = leb-true k i both.0;
      to = ltb-true i (end_of types rows k) both.1;
      level_is = ap (λ (c : ℕ). level_of types c) (eqb-true (row_at rows k).code code (found_passes (λ j. (row_at rows j).code == code) (path_of types rows i) k is));
    }

-- of two rows of a path the one on the lesser level is before the other, which depends on it
pub in_turn : (types : List SegmentType) (rows : List Segment) (i l m k j : ℕ) → i < length rows → l < m → IsOn types rows i l k → IsOn types rows i m j → (k < j) × (j < end_of types rows k)
in_turn types rows i l m k j within less one two = elim (cases_lt k j) [
  | inl fine ↦ (fine, omega (arith, two.from, one.to))
  | inr none ↦ elim (cases_lt j k) [
    | inl before ↦ (let span : IsEnd types rows j (end_of types rows j) = end_is types rows j (omega (arith, two.from, within)) in
        let deep : level_at types rows j < level_at types rows k = span.deeper k (omega (arith, before)) (omega (arith, one.from, two.to)) in
        absurd (omega (arith, deep, one.level_is, two.level_is, less)))
    | inr even ↦ (let same : k ≡ j = omega (arith, none, even) in
        absurd (omega (arith, ap (λ (n : ℕ). level_at types rows n) same, one.level_is, two.level_is, less)))
  ]
]

-- Each level is above the one before it.
abbrev LevelsFall : List SegmentType → List Ssa → ℕ → Type 0
LevelsFall types [] last = Unit {0}
LevelsFall types (a ∷ as_) last = AllByRecursion (λ b. level_of types a.code < level_of types b.code) as_ × (level_of types a.code < last) × LevelsFall types as_ last

module _ (types : List SegmentType) (rows : List Segment) (i : ℕ) (within : i < length rows) where
  abbrev rows_of : List Ssa → List ℕ
  rows_of as_ = filter_map (λ a. cond a.commands.path (on_path types rows a.code i) None) as_

  own_on : IsOn types rows i (level_at types rows i) i
  own_on = (let span : IsEnd types rows i (end_of types rows i) = end_is types rows i within in record { from = omega arith; to = span.behind; level_is = refl })

  -- the rows below one of the path
  all_below : (l k : ℕ) → IsOn types rows i l k → (as_ : List Ssa) → AllByRecursion (λ b. l < level_of types b.code) as_ → l < level_at types rows i
      → AllByRecursion (λ j. (k < j) × (j < end_of types rows k)) (rows_of as_ ++ i ∷ [])
  all_below l k on [] all last = (in_turn types rows i l (level_at types rows i) k i within last on own_on, tt)
  all_below l k on (a ∷ as_) all last = by_path (all_below l k on as_ all.1 last) a.commands.path (on_path types rows a.code i) refl
    where
      by_path : AllByRecursion (λ j. (k < j) × (j < end_of types rows k)) (rows_of as_ ++ i ∷ []) → (b : Bool) (o : Option ℕ) → on_path types rows a.code i ≡ o
          → AllByRecursion (λ j. (k < j) × (j < end_of types rows k)) (cons_option (cond b o None) (rows_of as_) ++ i ∷ [])
      by_path rest false o is = rest
      by_path rest true None is = rest
      by_path rest true (Some j) is = (in_turn types rows i l (level_of types a.code) k j within all.0 on (on_is types rows a.code i j within is), rest)

  one_path : (as_ : List Ssa) → LevelsFall types as_ (level_at types rows i) → LieOnOnePath types rows (rows_of as_ ++ i ∷ [])
  one_path [] falls = (within, tt, tt)
  one_path (a ∷ as_) falls = by_path (one_path as_ falls.2) a.commands.path (on_path types rows a.code i) refl
    where
      by_path : LieOnOnePath types rows (rows_of as_ ++ i ∷ []) → (b : Bool) (o : Option ℕ) → on_path types rows a.code i ≡ o → LieOnOnePath types rows (cons_option (cond b o None) (rows_of as_) ++ i ∷ [])
      by_path rest false o is = rest
      by_path rest true None is = rest
      by_path rest true (Some k) is =
          let on : IsOn types rows i (level_of types a.code) k = on_is types rows a.code i k within is in
          (omega (arith, on.from, within), all_below (level_of types a.code) k on as_ falls.0 falls.1, rest)

-- ---- the arguments

all_more : (types : List SegmentType) (l m : ℕ) → l < m → (as_ : List Ssa) → AllByRecursion (λ b. m < level_of types b.code) as_ → AllByRecursion (λ b. l < level_of types b.code) as_
all_more types l m less [] all = tt
all_more types l m less (a ∷ as_) all = (omega (arith, less, all.0), all_more types l m less as_ all.1)

-- the types behind an argument are on greater levels
resolved_below : (types : List SegmentType) (leveled : Leveled types) (p : ℕ) (hs : List Head) (as_ : List Ssa) → Resolved types (Some p) hs as_ → AllByRecursion (λ b. level_of types p < level_of types b.code) as_
resolved_below types leveled p [] [] is = tt
resolved_below types leveled p [] (a ∷ as_) is = absurd is
resolved_below types leveled p (h ∷ hs) [] is = absurd is
resolved_below types leveled p (h ∷ hs) (a ∷ as_) is =
    let less : level_of types p < level_of types a.code = under_level types leveled (level_of types a.code) a.code p is.2 in
    (less, all_more types (level_of types p) (level_of types a.code) less as_ (resolved_below types leveled a.code hs as_ is.3))

-- the last argument, and those above it, of one argument more
pub target_more : (a b : Ssa) (as_ : List Ssa) → target_code (a ∷ (b ∷ as_)) ≡ target_code (b ∷ as_)
target_more a b as_ =
    let front : suc (suc (length as_)) - 1 ≡ suc (length as_) = omega arith in
    let back : length as_ ≡ suc (length as_) - 1 = omega arith in
    ap (λ (n : ℕ). slice_index (map (λ c. c.code) (a ∷ (b ∷ as_))) n) front ∙ ap (λ (n : ℕ). slice_index (map (λ c. c.code) (b ∷ as_)) n) back

pub above_more : (a b : Ssa) (as_ : List Ssa) → above_target (a ∷ (b ∷ as_)) ≡ a ∷ above_target (b ∷ as_)
above_more a b as_ =
    let front : suc (suc (length as_)) - 1 ≡ suc (length as_) = omega arith in
    let back : length as_ ≡ suc (length as_) - 1 = omega arith in
    ap (λ (n : ℕ). take n (a ∷ (b ∷ as_))) front ∙ ap (λ (n : ℕ). a ∷ take n (b ∷ as_)) back

-- the arguments above the last fall to it
pub falls_to : (types : List SegmentType) (leveled : Leveled types) (above : Option ℕ) (hs : List Head) (as_ : List Ssa) → Resolved types above hs as_ → 0 < length as_
    → LevelsFall types (above_target as_) (level_of types (target_code as_))
falls_to types leveled above [] [] is some = absurd (omega arith)
falls_to types leveled above [] (a ∷ as_) is some = absurd is
falls_to types leveled above (h ∷ hs) [] is some = absurd is
falls_to types leveled above (h ∷ hs) (a ∷ []) is some = tt
falls_to types leveled above (h ∷ []) (a ∷ (b ∷ as_)) is some = absurd is.3
falls_to types leveled above (h ∷ (g ∷ hs)) (a ∷ (b ∷ as_)) is some =
    let rest = falls_to types leveled (Some a.code) (g ∷ hs) (b ∷ as_) is.3 (omega arith) in
    let below : AllByRecursion (λ c. level_of types a.code < level_of types c.code) (b ∷ as_) = resolved_below types leveled a.code (g ∷ hs) (b ∷ as_) is.3 in
    shaped b as_ rest below
  where
    all_taken : (n : ℕ) (xs : List Ssa) → AllByRecursion (λ c. level_of types a.code < level_of types c.code) xs → AllByRecursion (λ c. level_of types a.code < level_of types c.code) (take n xs)
    all_taken zero xs all = tt
    all_taken (suc n) [] all = tt
    all_taken (suc n) (x ∷ xs) all = (all.0, all_taken n xs all.1)

    last_more : (xs : List Ssa) → 0 < length xs → AllByRecursion (λ c. level_of types a.code < level_of types c.code) xs → level_of types a.code < level_of types (target_code xs)
    last_more [] some all = absurd (omega arith)
    last_more (x ∷ []) some all = all.0
    last_more (x ∷ (y ∷ xs)) some all = subst (λ (c : ℕ). level_of types a.code < level_of types c) (sym (target_more x y xs)) (last_more (y ∷ xs) (omega arith) all.1)

    shaped : (b : Ssa) (as_ : List Ssa) → LevelsFall types (above_target (b ∷ as_)) (level_of types (target_code (b ∷ as_))) → AllByRecursion (λ c. level_of types a.code < level_of types c.code) (b ∷ as_)
        → LevelsFall types (above_target (a ∷ (b ∷ as_))) (level_of types (target_code (a ∷ (b ∷ as_))))
    shaped b as_ rest below =
        subst (λ (c : ℕ). LevelsFall types (above_target (a ∷ (b ∷ as_))) (level_of types c)) (sym (target_more a b as_))
        (subst (λ (xs : List Ssa). LevelsFall types xs (level_of types (target_code (b ∷ as_)))) (sym (above_more a b as_))
        (all_taken (suc (length as_) - 1) (b ∷ as_) below, last_more (b ∷ as_) (omega arith) below, rest))

-- ---- the get

pub get_in_range : (s : Setting) (leveled : Leveled s.types) (rows : List Segment) (p : Position) (kind : GetKind) (hold : Bool) (hs : List Head) (ssas : List Ssa)
    → Resolved s.types None hs ssas → IsInRange s.types rows p → IsInRange s.types rows (get_step s rows p kind hold ssas).1
get_in_range s leveled rows p kind hold hs ssas resolved fits = by_found (sought s rows p kind ssas) refl
  where
    missing : (kind : GetKind) → IsInRange s.types rows (get_missing p kind ssas).1
    missing Unique = unheld_in_range s.types rows p fits
    missing Next = by_plain (list_all (λ a. is_none a.groups) ssas)
      where
        by_plain : (b : Bool) → let r : Reply × Position = cond b (bare GB, at_start) (bare GE, unheld p) in IsInRange s.types rows r.1
        by_plain true = start_in_range s.types rows
        by_plain false = unheld_in_range s.types rows p fits
    missing NextInParent = unheld_in_range s.types rows p fits

    parent_fits : (kind : GetKind) (i : ℕ) → i < length rows → IfSome (parent_after kind p i) (λ q. q < length rows)
    parent_fits Unique i within = within
    parent_fits Next i within = within
    parent_fits NextInParent i within = fits.parent

    path_fits : (i : ℕ) → i < length rows → satisfies s rows ssas i ≡ true → LieOnOnePath s.types rows (path_rows s.types rows ssas i)
    path_fits i within is = by_ssas ssas resolved (and_parts _ _ is).0
      where
        by_ssas : (as_ : List Ssa) → Resolved s.types None hs as_ → (length as_ == 0 || is_named s.types rows as_ i) ≡ true → LieOnOnePath s.types rows (path_rows s.types rows as_ i)
        by_ssas [] r named = (within, tt, tt)
        by_ssas (a ∷ as_) r named =
            let is : is_named s.types rows (a ∷ as_) i ≡ true = elim (or_cases (length (a ∷ as_) == 0) (is_named s.types rows (a ∷ as_) i) named) [
              | inl none ↦ (let no : length (a ∷ as_) ≡ 0 = eqb-true (length (a ∷ as_)) 0 none in absurd (omega arith))
              | inr is ↦ is
            ] in
            let both = and_parts ((row_at rows i).code == target_code (a ∷ as_)) (list_all (λ b. meets_on_path s.types rows i b) (a ∷ as_)) is in
            let code : (row_at rows i).code ≡ target_code (a ∷ as_) = eqb-true (row_at rows i).code (target_code (a ∷ as_)) both.0 in
            one_path s.types rows i within (above_target (a ∷ as_))
            (subst (λ (c : ℕ). LevelsFall s.types (above_target (a ∷ as_)) (level_of s.types c)) (sym code) (falls_to s.types leveled None hs (a ∷ as_) r (omega arith)))

    by_found : (o : Option ℕ) → sought s rows p kind ssas ≡ o
        → let r : Reply × Position = option_map_or (λ i. get_found s rows p kind hold ssas i) o (get_missing p kind ssas) in IsInRange s.types rows r.1
    by_found None is = missing kind
    by_found (Some i) is =
        let passes : satisfies s rows ssas i ≡ true = (least_some (satisfies s rows ssas) (search_end s.types rows p kind - search_start s.types rows p kind ssas) (search_start s.types rows p kind ssas) i is).2 in
        let within : i < length rows = satisfying_within s rows ssas i passes in
        record {
          passed = omega arith;
          standing = within;
          parent = parent_fits kind i within;
          held = by_hold hold (path_fits i within passes);
        }
      where
        by_hold : (b : Bool) → LieOnOnePath s.types rows (path_rows s.types rows ssas i) → LieOnOnePath s.types rows (cond b (path_rows s.types rows ssas i) [])
        by_hold true lies = lies
        by_hold false lies = tt
