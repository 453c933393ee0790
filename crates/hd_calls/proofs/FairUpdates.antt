-- What the effects of ISRT, REPL and DLET keep to, and those of a whole call.
use Rattle.std.proofs.Common.{◌≡◌, ℕ, zero, suc, ◌+◌, ◌-◌, ◌<◌, ◌≤◌, List, [], ◌∷◌, length, map, true, false, Bool, cond, arith, ap, sym, ◌∙◌, Option, Some, None, refl, inl}
use Rattle.std.specs.Prelude.{Ok, ◌==◌, ◌&&◌, ◌||◌, not, nat_le, find, take}
use Rattle.std.specs.Option.{option_map_or}
use Rattle.std.specs.List.{list_any, list_all}
use Rattle.std.proofs.lemmas.Bool.{eqb-true, eq-eqb}
use Rattle.std.proofs.lemmas.List.{length-map}
use Rattle.hd_dbd.specs.Types.{SegmentType}
use Rattle.hd_dbd.specs.declared.answer.Status.{Status}
use Rattle.hd_dbd.specs.declared.answer.Status.TheVariants.{Blank, GE, V1, DA, DJ, II}
use Rattle.hd_dbd.specs.declared.answer.LoadFault.{LoadFault}
use Rattle.hd_dbd.specs.declared.answer.LoadFault.TheVariants.{LB, LC, LD, LE}
use Rattle.hd_dbd.specs.Segment.{Segment}
use Rattle.hd_dbd.specs.Paths.{row_at, level_at, end_of, end_within}
use Rattle.hd_dbd.specs.Positions.{Position}
use Rattle.hd_dbd.specs.Views.{Setting}
use Rattle.hd_dbd.specs.Calls.{row_reply}
use Rattle.hd_calls.specs.declared.call.Function.TheVariants.{Insert, Replace, Delete}
use Rattle.hd_calls.specs.Gets.{unheld}
use Rattle.hd_dbd.specs.Hierarchy.{parent_of}
use Rattle.hd_dbd.specs.Loads.{last_path, load_fault, status_of_load}
use Rattle.hd_calls.specs.Access.{loads}
use Rattle.hd_calls.specs.Ssas.{Ssa, first_inserted}
use Rattle.hd_calls.specs.Places.{insert_parent, is_key_taken}
use Rattle.hd_calls.specs.Moves.{Rewrite, rewritten, is_rewritten}
use Rattle.hd_calls.specs.Steps.{answered, bare_answer, insert_at, insert_below, insert_rows, load_step, insert_or_load, insert_step, new_row, divide, inserted_codes, new_rows, rewrites_of, rewrites_asked, is_excepted, keeps_key, replace_rows, held_part, replace_step, delete_row, delete_step, deleted_row, lowest}
use Rattle.hd_calls.specs.NoLostUpdate.{is_blank}
use Rattle.hd_calls.proofs.Areas.{are_parts, as_many_parts, by_division}
use Rattle.hd_calls.proofs.Fair.{IsFair, refused_fair}

-- ---- ISRT

module _ (s : Setting) (rows : List Segment) (p : Position) (held : List ℕ) (excepted : ℕ → Bool) where
  insert_at_fair : (new : List Segment) (n : ℕ) → IsFair (Some Insert) s.types rows held excepted (insert_at s rows p new n)
  insert_at_fair new n = record { holds = inl refl; forward = tt; touches = λ u b. cc }

  refused : (status : Status) → is_blank status ≡ false → IsFair (Some Insert) s.types rows held excepted (bare_answer p status)
  refused status other = refused_fair (Some Insert) s.types rows held excepted p status other

  insert_below_fair : (ssas : List Ssa) (new : List Segment) (first : Segment) (parent : Option ℕ)
      → IsFair (Some Insert) s.types rows held excepted (insert_below s rows p ssas new first parent)
  insert_below_fair ssas new first parent = by_taken (is_key_taken s.types rows parent first) _ (λ n. insert_at_fair new n)
    where
      by_taken : (b : Bool) (n : ℕ) → ((n : ℕ) → IsFair (Some Insert) s.types rows held excepted (insert_at s rows p new n))
          → IsFair (Some Insert) s.types rows held excepted (cond b (bare_answer p II) (insert_at s rows p new n))
      by_taken true n fair = refused_fair (Some Insert) s.types rows held excepted p II refl
      by_taken false n fair = fair n

  insert_rows_fair : (ssas : List Ssa) (new : List Segment) (first : Segment) → IsFair (Some Insert) s.types rows held excepted (insert_rows s rows p ssas new first)
  insert_rows_fair ssas new first = by_parent (parent_of s.types first.code) (λ parent. insert_below_fair ssas new first parent)
    where
      by_parent : (o : Option ℕ) → ((parent : Option ℕ) → IsFair (Some Insert) s.types rows held excepted (insert_below s rows p ssas new first parent))
          → IsFair (Some Insert) s.types rows held excepted (option_map_or (λ code. option_map_or (λ q. insert_below s rows p ssas new first (Some q))
          (insert_parent s.types rows p.standing (take (first_inserted ssas) ssas) code) (bare_answer p GE)) o (insert_below s rows p ssas new first None))
      by_parent None fair = fair None
      by_parent (Some code) fair = by_row (insert_parent s.types rows p.standing (take (first_inserted ssas) ssas) code)
        where
          by_row : (o : Option ℕ) → IsFair (Some Insert) s.types rows held excepted (option_map_or (λ q. insert_below s rows p ssas new first (Some q)) o (bare_answer p GE))
          by_row None = refused_fair (Some Insert) s.types rows held excepted p GE refl
          by_row (Some q) = fair (Some q)

-- why a row may not be loaded is never blank
load_named : (fault : LoadFault) → is_blank (status_of_load fault) ≡ false
load_named LB = refl
load_named LC = refl
load_named LD = refl
load_named LE = refl

module _ (s : Setting) (rows : List Segment) (p : Position) (held : List ℕ) (excepted : ℕ → Bool) where
  load_step_fair : (new : Segment) → IsFair (Some Insert) s.types rows held excepted (load_step s rows p new)
  load_step_fair new = by_fault (load_fault s.types (last_path s.types rows) new) refl
    where
      by_fault : (o : Option LoadFault) → load_fault s.types (last_path s.types rows) new ≡ o
          → IsFair (Some Insert) s.types rows held excepted (option_map_or (λ fault. bare_answer p (status_of_load fault)) o (insert_at s rows p (new ∷ []) (length rows)))
      by_fault None is = insert_at_fair s rows p held excepted (new ∷ []) (length rows)
      by_fault (Some fault) is = refused_fair (Some Insert) s.types rows held excepted p (status_of_load fault) (load_named fault)

  pub insert_step_fair : (ssas : List Ssa) (area : List ℕ) → IsFair (Some Insert) s.types rows held excepted (insert_step s rows p ssas area)
  insert_step_fair ssas area =
      by_division (IsFair (Some Insert) s.types rows held excepted) p (divide s.types (map (λ c. new_row c) (inserted_codes ssas)) area) (λ parts. insert_or_load s rows p ssas (new_rows (inserted_codes ssas) parts))
      (refused_fair (Some Insert) s.types rows held excepted p V1 refl) tt (λ parts is. by_rows (new_rows (inserted_codes ssas) parts))
    where
      by_rows : (new : List Segment) → IsFair (Some Insert) s.types rows held excepted (insert_or_load s rows p ssas new)
      by_rows [] = tt
      by_rows (r ∷ rs) = by_load (loads s.pcb)
        where
          by_load : (b : Bool) → IsFair (Some Insert) s.types rows held excepted (cond b (load_step s rows p r) (insert_rows s rows p ssas (r ∷ rs) r))
          by_load true = load_step_fair r
          by_load false = insert_rows_fair s rows p held excepted ssas (r ∷ rs) r

-- ---- REPL

-- a row is rewritten where it is held and not excepted
asked_rows : (rows : List Segment) (ssas : List Ssa) (held : List ℕ) (parts : List (List ℕ)) (i : ℕ) → length parts ≡ length held
    → is_rewritten (rewrites_asked rows ssas (rewrites_of held parts)) i ≡ (list_any (λ h. h == i) held && not (is_excepted ssas (row_at rows i).code))
asked_rows rows ssas [] parts i same = refl
asked_rows rows ssas (h ∷ hs) [] i same = absurd (omega arith)
asked_rows rows ssas (h ∷ hs) (bytes ∷ parts) i same =
    by_kept (is_excepted ssas (row_at rows h).code) refl (asked_rows rows ssas hs parts i (omega arith)) (h == i) refl
  where
    by_kept : (k : Bool) → is_excepted ssas (row_at rows h).code ≡ k
        → is_rewritten (rewrites_asked rows ssas (rewrites_of hs parts)) i ≡ (list_any (λ h. h == i) hs && not (is_excepted ssas (row_at rows i).code))
        → (b : Bool) → (h == i) ≡ b
        → is_rewritten (cond (not k) (record { number = h; bytes = bytes } ∷ rewrites_asked rows ssas (rewrites_of hs parts)) (rewrites_asked rows ssas (rewrites_of hs parts))) i
        ≡ ((b || list_any (λ h. h == i) hs) && not (is_excepted ssas (row_at rows i).code))
    by_kept true kept rest true here =
        let eq : h ≡ i = eqb-true h i here in
        let own : is_excepted ssas (row_at rows i).code ≡ true = ap (λ (n : ℕ). is_excepted ssas (row_at rows n).code) (sym eq) ∙ kept in
        rest ∙ ap (λ b. list_any (λ h. h == i) hs && not b) own ∙ and_false (list_any (λ h. h == i) hs) ∙ sym (ap not own)
      where
        and_false : (b : Bool) → (b && false) ≡ false
        and_false true = refl
        and_false false = refl
    by_kept true kept rest false here = rest
    by_kept false kept rest true here =
        let eq : h ≡ i = eqb-true h i here in
        let own : is_excepted ssas (row_at rows i).code ≡ false = ap (λ (n : ℕ). is_excepted ssas (row_at rows n).code) (sym eq) ∙ kept in
        ap (λ b. b || is_rewritten (rewrites_asked rows ssas (rewrites_of hs parts)) i) here ∙ sym (ap not own)
    by_kept false kept rest false here =
        ap (λ b. b || is_rewritten (rewrites_asked rows ssas (rewrites_of hs parts)) i) here ∙ rest

pub replace_step_fair : (s : Setting) (rows : List Segment) (p : Position) (ssas : List Ssa) (area : List ℕ) (excepted : ℕ → Bool) → not (length p.held == 0) ≡ true
    → ((i : ℕ) → excepted i ≡ is_excepted ssas (row_at rows i).code) → IsFair (Some Replace) s.types rows p.held excepted (replace_step s rows p ssas area)
replace_step_fair s rows p ssas area excepted some kept =
    by_division (IsFair (Some Replace) s.types rows p.held excepted) p (divide s.types (map (λ i. held_part rows ssas i) p.held) area) (λ parts. replace_rows s rows p (rewrites_asked rows ssas (rewrites_of p.held parts)))
    (refused_fair (Some Replace) s.types rows p.held excepted p V1 refl) tt
    (λ parts is. by_keys (rewrites_asked rows ssas (rewrites_of p.held parts))
    (λ i. asked_rows rows ssas p.held parts i (as_many parts is) ∙ ap (λ b. list_any (λ h. h == i) p.held && not b) (sym (kept i))))
  where
    as_many : (parts : List (List ℕ)) → divide s.types (map (λ i. held_part rows ssas i) p.held) area ≡ Ok parts → length parts ≡ length p.held
    as_many parts is =
        as_many_parts s.types (map (λ i. held_part rows ssas i) p.held) parts (are_parts s.types (map (λ i. held_part rows ssas i) p.held) area parts is)
        ∙ length-map p.held (λ i. held_part rows ssas i)

    some_held : (xs : List ℕ) → not (length xs == 0) ≡ true → 0 < length xs
    some_held [] is = cc
    some_held (x ∷ xs) is = omega arith

    by_keys : (ws : List Rewrite) → ((i : ℕ) → is_rewritten ws i ≡ (list_any (λ h. h == i) p.held && not (excepted i)))
        → IsFair (Some Replace) s.types rows p.held excepted (replace_rows s rows p ws)
    by_keys ws just = by_key (list_all (λ w. keeps_key s.types rows w) ws)
      where
        by_key : (b : Bool) → IsFair (Some Replace) s.types rows p.held excepted (cond b (answered (row_reply s rows (lowest p.held) Blank []) (rewritten ws) (unheld p)) (bare_answer p DA))
        by_key true = record { holds = inl refl; forward = tt; touches = λ u b. (some_held p.held some, just) }
        by_key false = refused_fair (Some Replace) s.types rows p.held excepted p DA refl

-- ---- DLET

pub found_any : (test : ℕ → Bool) (xs : List ℕ) (d : ℕ) → find test xs ≡ Some d → list_any (λ i. i == d) xs ≡ true
found_any test [] d is = cc
found_any test (x ∷ xs) d is = by_test (test x) (λ r. found_any test xs d r) is
  where
    by_test : (b : Bool) → (find test xs ≡ Some d → list_any (λ i. i == d) xs ≡ true) → cond b (Some x) (find test xs) ≡ Some d → ((x == d) || list_any (λ i. i == d) xs) ≡ true
    by_test true rest is = (let eq : x ≡ d = cc in ap (λ b. b || list_any (λ i. i == d) xs) (eq-eqb x d eq))
    by_test false rest is = or_right (x == d) (rest is)
      where
        or_right : (b : Bool) → list_any (λ i. i == d) xs ≡ true → (b || list_any (λ i. i == d) xs) ≡ true
        or_right true is = refl
        or_right false is = is

pub taken_held : (rows : List Segment) (ssas : List Ssa) (held : List ℕ) (d : ℕ) → deleted_row rows ssas held ≡ Some d → list_any (λ i. i == d) held ≡ true
taken_held rows [] [] d is = cc
taken_held rows [] (x ∷ xs) d is = (let eq : x ≡ d = cc in ap (λ b. b || list_any (λ i. i == d) xs) (eq-eqb x d eq))
taken_held rows (a ∷ rest) held d is = found_any (λ i. (row_at rows i).code == a.code) held d is

end_behind : (types : List SegmentType) (rows : List Segment) (l n i : ℕ) → i ≤ end_within types rows l n i
end_behind types rows l zero i = omega arith
end_behind types rows l (suc n) i = by_level (nat_le (level_at types rows i) l) (end_behind types rows l n (i + 1))
  where
    by_level : (b : Bool) → i + 1 ≤ end_within types rows l n (i + 1) → i ≤ cond b i (end_within types rows l n (i + 1))
    by_level true more = omega arith
    by_level false more = omega arith

pub delete_step_fair : (s : Setting) (rows : List Segment) (p : Position) (ssas : List Ssa) (excepted : ℕ → Bool) → IsFair (Some Delete) s.types rows p.held excepted (delete_step s rows p ssas)
delete_step_fair s rows p ssas excepted = by_row (deleted_row rows ssas p.held) refl
  where
    some_held : (xs : List ℕ) (d : ℕ) → list_any (λ i. i == d) xs ≡ true → 0 < length xs
    some_held [] d is = cc
    some_held (x ∷ xs) d is = omega arith

    by_row : (o : Option ℕ) → deleted_row rows ssas p.held ≡ o → IsFair (Some Delete) s.types rows p.held excepted (option_map_or (λ d. delete_row s rows p d) o (bare_answer p DJ))
    by_row None is = refused_fair (Some Delete) s.types rows p.held excepted p DJ refl
    by_row (Some d) is =
        let held : list_any (λ i. i == d) p.held ≡ true = taken_held rows ssas p.held d is in
        let behind : d + 1 ≤ end_of s.types rows d = end_behind s.types rows (level_at s.types rows d) (length rows - (d + 1)) (d + 1) in
        record { holds = inl refl; forward = omega arith; touches = λ u b. (some_held p.held d held, (held, refl)) }
