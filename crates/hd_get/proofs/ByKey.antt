-- A search of GU for the first row that passes begins at a root.
use Rattle.std.proofs.Common.{◌≡◌, ℕ, ◌+◌, ◌<◌, ◌≤◌, List, [], ◌∷◌, ◌++◌, length, Bool, true, false, Option, Some, None, refl, sym, ap, ◌∙◌, arith, inl, inr}
use Rattle.std.specs.Prelude.{◌&&◌, nat_lt, unwrap_or, option_map}
use Rattle.std.specs.Option.{option_map_or}
use Rattle.std.specs.List.{list_all}
use Rattle.std.proofs.lemmas.Bool.{cases_lt, cases_Bool, cond-true, cond-false, lt-ltb, le-ltb, eq-eqb, false≢true}
use Rattle.std.proofs.lemmas.List.{length-append}
use Rattle.hd_dbd.specs.Hierarchy.{Database}
use Rattle.hd_dbd.specs.Paths.{row_at, parent_row, path_of}
use Rattle.hd_dbd.specs.Forest.{Forest}
use Rattle.hd_dbd.proofs.LevelLaw.{leveled}
use Rattle.hd_volume.specs.Volumes.{VolumeState}
use Rattle.hd_links.specs.Placed.{Placed}
use Rattle.hd_links.specs.Steps.{rows_of, address_at, path_at}
use Rattle.hd_links.proofs.ValidRows.{held_valid}
use Rattle.hd_image.specs.Records.{links_of}
use Rattle.hd_forest.specs.Rows.{IsOnRow}
use Rattle.hd_image.specs.Holding.{HoldsPlaced}
use Rattle.hd_changes.specs.Roots.{is_root, is_root_from, first_row, address_of_first}
use Rattle.hd_changes.specs.Found.{AreRootsBelow}
use Rattle.hd_changes.proofs.RootRows.{follow-lesser, roots-alone}
use Rattle.hd_calls.specs.Ssas.{Ssa}
use Rattle.hd_calls.specs.Satisfies.{is_named}
use Rattle.hd_calls.proofs.Searches.{skipped}
use Rattle.hd_calls.specs.Admits.{NonePass, AreRowsOf, admits, all_admitted}
use Rattle.hd_dbd.proofs.RowPaths.{path_follows}
use Rattle.hd_get.specs.Descents.{LeadsOnward}
use Rattle.hd_calls.proofs.OnPaths.{root_code}
use Rattle.hd_calls.proofs.SearchTwins.{earlier_roots_fail}
use Rattle.hd_get.specs.Searches.{LeadsWithin, path_within, parent_path}
use Rattle.hd_get.specs.Starts.{AreNamed, root_from, RefusesRootsBelow, BeginsAt}
use Rattle.hd_get.proofs.Climbs.{path_is, some_path}
use Rattle.hd_get.proofs.Starts.{ends_whole}

module _ (d : Database) (v : VolumeState) (f : Forest Placed) (H : HoldsPlaced d v f) where
  -- the rows of a volume are rows of its database
  rows_are : AreRowsOf d.types (rows_of f)
  rows_are = record {
    block_size = d.block_size;
    free_space = d.frspc;
    formed = H.volume.fit;
    fit = held_valid d.types (links_of d.types v) f (leveled d.block_size d.frspc d.types H.volume.fit) H.records;
  }

  -- nothing stands above a root
  root_alone : (i : ℕ) → i < length (rows_of f) → is_root (rows_of f) i ≡ true → parent_row d.types (rows_of f) i ≡ None
  root_alone i within root = by (parent_row d.types (rows_of f) i) refl
    where
      by : (o : Option ℕ) → parent_row d.types (rows_of f) i ≡ o → parent_row d.types (rows_of f) i ≡ None
      by None is = is
      by (Some q) is = absurd (
          let alone : path_at d.types f i ≡ address_at f i ∷ [] = roots-alone d v f i H within root in
          let above : parent_path d.types f i ≡ path_at d.types f q = ap (λ (o : Option ℕ). option_map_or (λ q. path_at d.types f q) o []) is in
          let some : 0 < length (path_at d.types f q) = some_path d.types f q in
          let e : length (path_at d.types f i) ≡ length (parent_path d.types f i ++ address_at f i ∷ []) = ap (λ (xs : List ℕ). length xs) (path_is d.types f i) in
          let a : length (parent_path d.types f i ++ address_at f i ∷ []) ≡ length (parent_path d.types f i) + 1 = length-append (parent_path d.types f i) (address_at f i ∷ []) in
          let b : length (parent_path d.types f i) ≡ length (path_at d.types f q) = ap (λ (xs : List ℕ). length xs) above in
          let c : length (path_at d.types f i) ≡ 1 = ap (λ (xs : List ℕ). length xs) alone in
          omega arith)

  -- the first root from a key on: it is within the rows or behind them, none stands above it, and all roots before it have lesser keys
  record IsFirstRoot (key : List ℕ) (n : ℕ) : Type 0 where
    within : n ≤ length (rows_of f)
    lesser : AreRootsBelow d.types (rows_of f) key n
    alone : n < length (rows_of f) → parent_row d.types (rows_of f) n ≡ None

  first_root : (key : List ℕ) → IsFirstRoot key (root_from d.types (rows_of f) key)
  first_root key = by (first_row (rows_of f) (is_root_from d.types (rows_of f) key)) refl
    where
      by : (o : Option ℕ) → first_row (rows_of f) (is_root_from d.types (rows_of f) key) ≡ o → IsFirstRoot key (unwrap_or o (length (rows_of f)))
      by None is = record {
        within = omega arith;
        lesser = (follow-lesser d.types (rows_of f) key).1 is;
        alone = λ w. absurd (omega arith);
      }
      by (Some i) is =
          let F = (follow-lesser d.types (rows_of f) key).0 i is in
          let w : i < length (rows_of f) = F.0 in record {
            within = omega arith;
            lesser = F.3;
            alone = λ w. root_alone i w F.1;
          }

  -- the path from what the index answers
  pub root_path : (key : List ℕ) (o : Option ℕ) (path : List ℕ) → o ≡ address_of_first f (is_root_from d.types (rows_of f) key)
      → path ≡ option_map_or (λ a. a ∷ []) o [] → LeadsWithin d.types (links_of d.types v) f 0 (length (rows_of f)) path (root_from d.types (rows_of f) key)
  root_path key o path answered is = record {
    holds = H.records;
    ends = ends_whole d.types f (root_from d.types (rows_of f) key);
    is = is ∙ ap (λ (o : Option ℕ). option_map_or (λ a. a ∷ []) o []) answered ∙ by (first_row (rows_of f) (is_root_from d.types (rows_of f) key)) refl;
  }
    where
      by : (o : Option ℕ) → first_row (rows_of f) (is_root_from d.types (rows_of f) key) ≡ o
          → option_map_or (λ a. a ∷ []) (option_map (λ i. address_at f i) o) [] ≡ path_within d.types f (length (rows_of f)) (unwrap_or o (length (rows_of f)))
      by None is = sym (cond-false (nat_lt (length (rows_of f)) (length (rows_of f))) (path_at d.types f (length (rows_of f))) [] (le-ltb (length (rows_of f)) (length (rows_of f)) (omega arith)))
      by (Some i) is =
          let F = (follow-lesser d.types (rows_of f) key).0 i is in
          sym (roots-alone d v f i H F.0 F.1) ∙ sym (cond-true (nat_lt i (length (rows_of f))) (path_at d.types f i) [] (lt-ltb i (length (rows_of f)) F.0))

  -- where there are SSAs, what they do not name does not pass
  unnamed : (test : ℕ → Bool) (ssas : List Ssa) → AreNamed test d.types (rows_of f) ssas → 0 < length ssas → (j : ℕ) → is_named d.types (rows_of f) ssas j ≡ false → test j ≡ false
  unnamed test ssas named some j none = elim (cases_Bool (test j)) [
    | inl passes ↦ absurd (false≢true (sym none ∙ named j some passes))
    | inr fails ↦ fails
  ]

  -- before the first root from a key on, below which no root has what is asked, none is named
  pub none_before : (ssas : List Ssa) (key : List ℕ) → RefusesRootsBelow d.types ssas key → NonePass (is_named d.types (rows_of f) ssas) 0 (root_from d.types (rows_of f) key)
  none_before ssas key refuses =
      let R = first_root key in
      earlier_roots_fail d.types (rows_of f) ssas (root_from d.types (rows_of f) key) rows_are R.within
      (λ k before code. (let root : is_root (rows_of f) k ≡ true = eq-eqb (row_at (rows_of f) k).code 1 code in refuses (rows_of f) k root (R.lesser k before root)))

  -- a path to the first root from a key on that is not empty is a root's
  pub root_row : (key : List ℕ) (path : List ℕ) → LeadsWithin d.types (links_of d.types v) f 0 (length (rows_of f)) path (root_from d.types (rows_of f) key) → 0 < length path
      → IsOnRow d.types (links_of d.types v) f path (root_from d.types (rows_of f) key) × ((row_at (rows_of f) (root_from d.types (rows_of f) key)).code ≡ 1)
  root_row key path leads some = elim (cases_lt (root_from d.types (rows_of f) key) (length (rows_of f))) [
    | inl w ↦ (
      record { holds = H.records; within = w; is = leads.is ∙ cond-true (nat_lt (root_from d.types (rows_of f) key) (length (rows_of f))) (path_at d.types f (root_from d.types (rows_of f) key)) [] (lt-ltb (root_from d.types (rows_of f) key) (length (rows_of f)) w) },
      root_code d.types (rows_of f) rows_are (root_from d.types (rows_of f) key) w ((first_root key).alone w),
    )
    | inr past ↦ absurd
        (let none : length path ≡ 0
        = ap (λ (xs : List ℕ). length xs) (leads.is ∙ cond-false (nat_lt (root_from d.types (rows_of f) key) (length (rows_of f))) (path_at d.types f (root_from d.types (rows_of f) key)) [] (le-ltb (root_from d.types (rows_of f) key) (length (rows_of f)) past)) in
        omega arith)
  ]

  -- where none is named before a row, the search may begin there
  pub begins_at : (test : ℕ → Bool) (ssas : List Ssa) → AreNamed test d.types (rows_of f) ssas → 0 < length ssas → (path : List ℕ) (number : ℕ)
      → NonePass (is_named d.types (rows_of f) ssas) 0 number → LeadsWithin d.types (links_of d.types v) f 0 (length (rows_of f)) path number → BeginsAt test d v f ssas path false
  begins_at test ssas named some path number none leads = record {
    number = number;
    same = skipped test 0 number (length (rows_of f)) (omega arith) (λ j low high. unnamed test ssas named some j (none j low high));
    leads = leads;
    named = λ e. absurd (false≢true e);
  }

  -- so it may where a path goes down from a row before which none is named
  pub begins_below : (test : ℕ → Bool) (ssas : List Ssa) → AreNamed test d.types (rows_of f) ssas → 0 < length ssas → (i : ℕ) → NonePass (is_named d.types (rows_of f) ssas) 0 i
      → (path : List ℕ) (told : Bool) → LeadsOnward d v f ssas i told path → all_admitted d.types (rows_of f) ssas i ≡ true → BeginsAt test d v f ssas path told
  begins_below test ssas named some i before path told L all = record {
    number = L.number;
    same = skipped test 0 L.number (length (rows_of f)) (omega arith) (λ j low high. unnamed test ssas named some j (elim (cases_lt j i) [
      | inl early ↦ before j low early
      | inr late ↦ L.none j late high
    ]));
    leads = record {
      holds = H.records;
      ends = ends_whole d.types f L.number;
      is = L.row.is ∙ sym (cond-true (nat_lt L.number (length (rows_of f))) (path_at d.types f L.number) [] (lt-ltb L.number (length (rows_of f)) L.row.within));
    };
    named = λ e. (L.row.within, L.named e all);
  }

  -- the path of a root is the root alone
  pub root_admitted : (ssas : List Ssa) (key : List ℕ) → root_from d.types (rows_of f) key < length (rows_of f) → admits d.types (rows_of f) ssas (root_from d.types (rows_of f) key) ≡ true
      → all_admitted d.types (rows_of f) ssas (root_from d.types (rows_of f) key) ≡ true
  root_admitted ssas key within own =
      let n : ℕ = root_from d.types (rows_of f) key in
      let alone : path_of d.types (rows_of f) n ≡ n ∷ []
      = path_follows d.types (rows_of f) n ∙ ap (λ (o : Option ℕ). option_map_or (λ p. path_of d.types (rows_of f) p) o [] ++ n ∷ []) ((first_root key).alone within) in
      ap (λ (xs : List ℕ). list_all (λ k. admits d.types (rows_of f) ssas k) xs) alone ∙ ap (λ (b : Bool). b && true) own
