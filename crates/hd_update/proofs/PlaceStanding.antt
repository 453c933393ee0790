-- The row on which a PCB stands as a twin of a new row.
use Rattle.std.proofs.Common.{◌≡◌, ℕ, ◌<◌, List, [], length, Bool, true, false, Option, Some, None, refl, sym, ap, ap₂, ◌∙◌, arith}
use Rattle.std.specs.Prelude.{IfSome, ◌&&◌, ◌||◌, ◌==◌, not, nat_le, cond}
use Rattle.std.specs.Option.{option_map_or}
use Rattle.std.specs.Ordering.{nat_cmp, is_eq}
use Rattle.std.specs.Cmp.Lexicographic.{slice_cmp}
use Rattle.std.proofs.lemmas.Bool.{false_from_ne_true}
use Rattle.hd_dbd.specs.Segment.{Segment}
use Rattle.hd_dbd.specs.Hierarchy.{Database}
use Rattle.hd_dbd.specs.Rows.{key_of}
use Rattle.hd_dbd.specs.Paths.{row_at, parent_row}
use Rattle.hd_dbd.specs.Positions.{Position}
use Rattle.hd_dbd.specs.Forest.{Forest}
use Rattle.hd_dbd.proofs.Names.{option_eq-Decides}
use Rattle.hd_calls.specs.Satisfies.{is_child}
use Rattle.hd_calls.specs.Places.{is_equal_twin}
use Rattle.hd_volume.specs.Volumes.{VolumeState}
use Rattle.hd_links.specs.Links.{segment_at}
use Rattle.hd_links.specs.Placed.{Placed}
use Rattle.hd_links.specs.Steps.{rows_of, address_at, path_at}
use Rattle.hd_image.specs.Records.{links_of}
use Rattle.hd_forest.specs.Walks.{tip, parent_on}
use Rattle.hd_forest.specs.Rows.{IsOnRow}
use Rattle.hd_position.specs.Kept.{Kept, path_passed}
use Rattle.hd_position.specs.Gets.{IsAt}
use Rattle.hd_position.proofs.Splices.{below_more}
use Rattle.hd_position.proofs.Leaving.{passed_below}
use Rattle.hd_get.specs.Gets.{IsPositionIn}
use Rattle.hd_get.proofs.Climbs.{up_is}
use Rattle.hd_get.proofs.Spans.{parent_span}
use Rattle.hd_get.proofs.KeptPaths.{up_to, up_none, kept_none}
use Rattle.hd_get.proofs.Grounds.{tip_is}
use Rattle.hd_update.specs.Places.{IsPathOfParent, is_equal_at, standing_path, standing_twin}
use Rattle.hd_update.proofs.Levels.{row_below}
use Rattle.hd_update.proofs.TwinGaps.{parent_address, parent_there, tip_of_parent, ground}

module _ (d : Database) (v : VolumeState) (f : Forest Placed) (k : Kept) (q : Position) (at : IsPositionIn d v f k q) where
  kept_at : IsAt d.types (links_of d.types v) f k q
  kept_at = record { holds = at.holds.records; stands = at.stands }

  -- the path down to the row on which the PCB stands is that row's
  pub standing_row : (path : List ℕ) → Some path ≡ standing_path k → (x : ℕ) × IsOnRow d.types (links_of d.types v) f path x × (q.standing ≡ Some x)
  standing_row path is = (let R = up_to d v f k q at.holds.volume kept_at k.standing path (Some path) is refl in (R.0, R.1, at.stands.standing ∙ R.2))

  -- where there is none, it stands on none
  pub standing_none : None ≡ standing_path k → q.standing ≡ None
  standing_none is = at.stands.standing ∙ kept_none d v f k q at.holds.volume kept_at k.standing (up_none d v f k q at.holds.volume kept_at k.standing None is refl)

  -- the row on which the PCB stands is one
  pub standing_within : (x : ℕ) → q.standing ≡ Some x → x < length (rows_of f)
  standing_within x e =
      let passed : List ℕ = path_passed d.types (rows_of f) q.passed in
      row_below (length (rows_of f)) passed k.standing x (below_more q.passed (length (rows_of f)) passed at.stands.within (passed_below d.types (rows_of f) q.passed)) (sym at.stands.standing ∙ e)

  module _ (parent : Option ℕ) (above : List ℕ) (at_parent : IsPathOfParent d.types f parent above) (path : List ℕ) (x : ℕ) (on : IsOnRow d.types (links_of d.types v) f path x)
      (stands : q.standing ≡ Some x) (row : Segment) where
    -- above the last row of a path stands its parent
    pub above_is : parent_on path ≡ parent_address f (parent_row d.types (rows_of f) x)
    above_is = ap parent_on on.is ∙ ap tip (up_is d.types f x) ∙ by (parent_row d.types (rows_of f) x) refl
      where
        by : (o : Option ℕ) → parent_row d.types (rows_of f) x ≡ o
            → tip (option_map_or (λ q. path_at d.types f q) (parent_row d.types (rows_of f) x) []) ≡ parent_address f (parent_row d.types (rows_of f) x)
        by None e =
            ap (λ (o : Option ℕ). tip (option_map_or (λ q. path_at d.types f q) o [])) e ∙ sym (ap (parent_address f) e)
        by (Some p) e =
            (let w : p < x = (parent_span d.types (rows_of f) x p on.within e).0 in
            let l : x < length (rows_of f) = on.within in
            ap (λ (o : Option ℕ). tip (option_map_or (λ q. path_at d.types f q) o [])) e
            ∙ ((ground d v f at.holds).steps p (omega arith)).tip
            ∙ sym (ap (parent_address f) e))

    -- two parents at one address are one
    one_parent : (a b : Option ℕ) → IfSome a (λ q. q < length (rows_of f)) → IfSome b (λ q. q < length (rows_of f)) → parent_address f a ≡ parent_address f b → a ≡ b
    one_parent None None aw bw e = refl
    one_parent None (Some b) aw bw e = absurd (let s : 0 < address_at f b = ((ground d v f at.holds).addressed.there b bw).some in let z : 0 ≡ address_at f b = e in omega arith)
    one_parent (Some a) None aw bw e = absurd (let s : 0 < address_at f a = ((ground d v f at.holds).addressed.there a aw).some in let z : address_at f a ≡ 0 = e in omega arith)
    one_parent (Some a) (Some b) aw bw e = ap (λ (n : ℕ). Some n) ((ground d v f at.holds).addressed.once a b aw bw e)

    parent_row_there : IfSome (parent_row d.types (rows_of f) x) (λ q. q < length (rows_of f))
    parent_row_there = by (parent_row d.types (rows_of f) x) refl
      where
        by : (o : Option ℕ) → parent_row d.types (rows_of f) x ≡ o → IfSome o (λ q. q < length (rows_of f))
        by None e = tt
        by (Some p) e = (let w : p < x = (parent_span d.types (rows_of f) x p on.within e).0 in let l : x < length (rows_of f) = on.within in omega arith)

    -- a row below another parent is no twin
    pub other_parent : (parent_on path ≡ tip above → ⊥) → standing_twin d.types f parent q.standing row ≡ None
    other_parent other =
        let none : is_child d.types (rows_of f) parent x ≡ false
        = false_from_ne_true (is_child d.types (rows_of f) parent x)
        (λ e. other (above_is ∙ ap (parent_address f) ((option_eq-Decides _ _).0 e) ∙ sym (tip_of_parent d v f at.holds parent above at_parent))) in
        ap (λ (o : Option ℕ). option_map_or (λ i. cond (is_equal_twin d.types (rows_of f) parent row i) (Some (path_at d.types f i)) None) o None) stands
        ∙ ap (λ b. cond (b && (row_at (rows_of f) x).code == row.code && is_eq (slice_cmp nat_cmp (key_of d.types (row_at (rows_of f) x)) (key_of d.types row))) (Some (path_at d.types f x)) None) none

    -- a row below the same parent is one where it has the type and the key
    pub same_parent : parent_on path ≡ tip above → (b : Bool) → b ≡ is_equal_at d.types (links_of d.types v) row (tip path)
        → standing_twin d.types f parent q.standing row ≡ cond b (Some path) None
    same_parent same b is =
        let m = links_of d.types v in
        let G = ground d v f at.holds in
        let child : is_child d.types (rows_of f) parent x ≡ true
        = (option_eq-Decides _ _).1
        (one_parent (parent_row d.types (rows_of f) x) parent parent_row_there (parent_there d v f at.holds parent above at_parent)
        (sym above_is ∙ same ∙ tip_of_parent d v f at.holds parent above at_parent)) in
        let segment : segment_at m (tip path) ≡ row_at (rows_of f) x = ap (segment_at m) (tip_is d.types m f G path x on) ∙ G.addressed.same x on.within in
        let told : is_equal_twin d.types (rows_of f) parent row x ≡ b
        = ap (λ c. c && (row_at (rows_of f) x).code == row.code && is_eq (slice_cmp nat_cmp (key_of d.types (row_at (rows_of f) x)) (key_of d.types row))) child
        ∙ sym (ap (λ (r : Segment). r.code == row.code && is_eq (slice_cmp nat_cmp (key_of d.types r) (key_of d.types row))) segment)
        ∙ sym is in
        ap (λ (o : Option ℕ). option_map_or (λ i. cond (is_equal_twin d.types (rows_of f) parent row i) (Some (path_at d.types f i)) None) o None) stands
        ∙ ap₂ (λ (c : Bool) (p : List ℕ). cond c (Some p) None) told (sym on.is)

-- ---- what an answer says

-- the path that was found is that of the row that passes
pub passing_found : (test : ℕ → Bool) (g : ℕ → List ℕ) (o : Option ℕ) (path : List ℕ) → Some path ≡ option_map_or (λ i. cond (test i) (Some (g i)) None) o None
    → (i : ℕ) × (o ≡ Some i) × (test i ≡ true) × (path ≡ g i)
passing_found test g None path e = cc
passing_found test g (Some i) path e = by (test i) refl e
  where
    by : (b : Bool) → test i ≡ b → Some path ≡ cond b (Some (g i)) None → (j : ℕ) × (Some i ≡ Some j) × (test j ≡ true) × (path ≡ g j)
    by true is e = (i, refl, is, (let same : path ≡ g i = cc in same))
    by false is e = cc

-- where none was found, HERE puts the new row before all its equals
pub none_found_before : (test : ℕ → Bool) (g : ℕ → List ℕ) (j : ℕ) (o : Option ℕ) → None ≡ option_map_or (λ i. cond (test i) (Some (g i)) None) o None
    → option_map_or (λ i. not (test i) || nat_le i j) o true ≡ true
none_found_before test g j None e = refl
none_found_before test g j (Some i) e = by (test i) e
  where
    by : (b : Bool) → None ≡ cond b (Some (g i)) None → (not b || nat_le i j) ≡ true
    by true e = cc
    by false e = refl
