-- Paths to where a get begins under F.
use Rattle.std.proofs.Common.{◌≡◌, ℕ, suc, ◌+◌, ◌<◌, ◌≤◌, List, [], length, Option, Some, None, refl, sym, ap, ap₂, subst, ◌∙◌, arith}
use Rattle.std.specs.Prelude.{nat_lt, cond, ◌==◌, ◌||◌, max, is_some, option_map, IfSome}
use Rattle.std.specs.Option.{option_map_or}
use Rattle.std.proofs.lemmas.Bool.{cond-true, lt-ltb}
use Rattle.std.specs.List.{list_any}
use Rattle.std.proofs.lemmas.List.{length-map}
use Rattle.hd_dbd.specs.Types.{SegmentType}
use Rattle.hd_dbd.specs.Hierarchy.{Database}
use Rattle.hd_dbd.specs.Paths.{level_at, path_of, end_of}
use Rattle.hd_dbd.specs.Positions.{Position}
use Rattle.hd_dbd.specs.Forest.{Forest}
use Rattle.hd_volume.specs.Volumes.{VolumeState}
use Rattle.hd_links.specs.Placed.{Placed}
use Rattle.hd_links.specs.Steps.{rows_of, address_at, path_at}
use Rattle.hd_image.specs.Records.{links_of, IsVolumeOf}
use Rattle.hd_calls.specs.declared.call.GetKind.TheVariants.{Next, NextInParent}
use Rattle.hd_calls.specs.Ssas.{Ssa}
use Rattle.hd_calls.specs.Gets.{search_start, search_end, behind_parent}
use Rattle.hd_position.specs.Kept.{Kept, path_passed, row_on}
use Rattle.hd_position.specs.Gets.{IsAt}
use Rattle.hd_position.proofs.Leaving.{passed_below}
use Rattle.hd_calls.specs.Admits.{Descend}
use Rattle.hd_calls.proofs.OnPaths.{Spans}
use Rattle.hd_calls.proofs.SearchStarts.{parents_first}
use Rattle.hd_get.specs.Searches.{EndsAt, LeadsWithin}
use Rattle.hd_forest.specs.Rows.{path_to}
use Rattle.hd_calls.proofs.SearchLevels.{path_length}
use Rattle.hd_get.specs.First.{lowered_to, IsStartBehind}
use Rattle.hd_get.proofs.Climbs.{stays}
use Rattle.hd_get.proofs.Starts.{on_below, ends_whole}
use Rattle.hd_get.proofs.Grounds.{grounds}
use Rattle.hd_get.proofs.KeptRows.{path_row_is}
use Rattle.hd_get.proofs.KeptPaths.{kept_rows}
use Rattle.hd_get.proofs.Lowering.{IsLowered, lowered_is, start_is, parent_before, parent_behind}

-- the row whose path was found, and where none was
pub path_lowered : (types : List SegmentType) (f : Forest Placed) (o : Option ℕ) (path : List ℕ) → option_map (λ j. path_at types f j) o ≡ Some path → (j : ℕ) × (o ≡ Some j) × (path_at types f j ≡ path)
path_lowered types f None path e = cc
path_lowered types f (Some j) path e = (j, refl, (let same : path_at types f j ≡ path = cc in same))

pub none_lowered : (types : List SegmentType) (f : Forest Placed) (o : Option ℕ) → option_map (λ j. path_at types f j) o ≡ None → o ≡ None
none_lowered types f None e = refl
none_lowered types f (Some j) e = cc

module _ (d : Database) (v : VolumeState) (f : Forest Placed) (k : Kept) (q : Position) (of : IsVolumeOf d v) (at : IsAt d.types (links_of d.types v) f k q) where
  -- a path to the row behind the parentage row leads to where GNP begins if it begins there
  pub leads_behind : (x a : ℕ) (path new : List ℕ) → row_on (path_passed d.types (rows_of f) q.passed) k.parent ≡ Some x → a ≡ address_at f x
      → path ≡ path_to d.types f (x + 1) → new ≡ cond (a == 0 || list_any (λ b. b == a) path) path [] → IsStartBehind d v f q (Some (a, new))
  leads_behind x a path new on address is cut =
      let parent : q.parent ≡ Some x = at.stands.parent ∙ on in
      let A = (grounds d v f of at.holds).addressed in
      let below : x < q.passed = on_below q.passed (path_passed d.types (rows_of f) q.passed) k.parent x (passed_below d.types (rows_of f) q.passed) on in
      let most : q.passed ≤ length (rows_of f) = at.stands.within in
      let some : 0 < address_at f x = (A.there x (omega arith)).some in
      let end : search_end d.types (rows_of f) q NextInParent ≡ end_of d.types (rows_of f) x = ap (λ (o : Option ℕ). option_map_or (λ r. end_of d.types (rows_of f) r) o 0) parent in
      let behind : behind_parent q ≡ x + 1 = ap (λ (o : Option ℕ). option_map_or (λ q. q + 1) o 0) parent in
      let ends : EndsAt d.types f a (x + 1) (end_of d.types (rows_of f) x) = record {
        whole = λ z. absurd (omega arith);
        under = λ some. (x, (omega arith), (omega arith), sym address, refl);
      } in
      record {
        parent = ap (λ (o : Option ℕ). is_some o) (sym parent);
        leads = subst (LeadsWithin d.types (links_of d.types v) f a (search_end d.types (rows_of f) q NextInParent) new) (sym behind)
            (subst (λ e. LeadsWithin d.types (links_of d.types v) f a e new (x + 1)) (sym end)
            (record { holds = at.holds; ends = ends; is = cut ∙ stays d.types f (links_of d.types v) A a (x + 1) (end_of d.types (rows_of f) x) (x + 1) path ends (omega arith) is }));
      }

module _ (d : Database) (v : VolumeState) (f : Forest Placed) (k : Kept) (q : Position) (of : IsVolumeOf d v) (at : IsAt d.types (links_of d.types v) f k q)
    (ssas : List Ssa) (descend : Descend d.types None ssas) where
  -- the row on which the PCB stands is a row
  standing_there : IfSome q.standing (λ i. i < length (rows_of f))
  standing_there = by q.standing refl
    where
      by : (o : Option ℕ) → q.standing ≡ o → IfSome o (λ i. i < length (rows_of f))
      by None e = tt
      by (Some i) e =
          (let below : i < q.passed
          = on_below q.passed (path_passed d.types (rows_of f) q.passed) k.standing i (passed_below d.types (rows_of f) q.passed) (sym at.stands.standing ∙ e) in
          let most : q.passed ≤ length (rows_of f) = at.stands.within in omega arith)

  start_next : search_start d.types (rows_of f) q Next ssas ≡ option_map_or (λ j. j) (lowered_to d.types (rows_of f) q ssas) q.passed
  start_next =
      start_is d.types (rows_of f) (kept_rows d v f k q of at) q at.stands.within k.standing at.stands.standing ssas
      (record { over = kept_rows d v f k q of at; descend = descend }) standing_there

  -- where F lowers nothing, GN begins behind the rows passed, and GNP as it does without arguments
  pub start_stays : lowered_to d.types (rows_of f) q ssas ≡ None → search_start d.types (rows_of f) q Next ssas ≡ q.passed
  start_stays none = start_next ∙ ap (λ (o : Option ℕ). option_map_or (λ j. j) o q.passed) none

  pub below_stays : lowered_to d.types (rows_of f) q ssas ≡ None → search_start d.types (rows_of f) q NextInParent ssas ≡ search_start d.types (rows_of f) q NextInParent []
  below_stays none =
      parents_first d.types (rows_of f) q ssas ∙ ap (λ n. max n (behind_parent q)) (start_stays none) ∙ sym (parents_first d.types (rows_of f) q [])

  module _ (j : ℕ) (low : lowered_to d.types (rows_of f) q ssas ≡ Some j) where
    lowered : IsLowered d.types (rows_of f) (kept_rows d v f k q of at) q at.stands.within k.standing at.stands.standing j
    lowered = lowered_is d.types (rows_of f) (kept_rows d v f k q of at) q at.stands.within k.standing at.stands.standing ssas j low

    start_lowered : search_start d.types (rows_of f) q Next ssas ≡ j
    start_lowered = start_next ∙ ap (λ (o : Option ℕ). option_map_or (λ j. j) o q.passed) low

    -- its path is as long as its level says
    pub lowered_level : length (path_at d.types f j) ≡ level_at d.types (rows_of f) j
    lowered_level =
        (let less : j ≤ lowered.last = lowered.low in
        let few : q.passed ≡ suc lowered.last = lowered.passed in
        let most : q.passed ≤ length (rows_of f) = at.stands.within in
        length-map (path_of d.types (rows_of f) j) (λ i. address_at f i) ∙ path_length d.types (rows_of f) (kept_rows d v f k q of at) j (omega arith))

    -- GN begins at the row to which F lowers the start
    pub leads_lowered : LeadsWithin d.types (links_of d.types v) f 0 (length (rows_of f)) (path_at d.types f j) (search_start d.types (rows_of f) q Next ssas)
    leads_lowered =
        subst (LeadsWithin d.types (links_of d.types v) f 0 (length (rows_of f)) (path_at d.types f j)) (sym start_lowered)
        (let less : j ≤ lowered.last = lowered.low in
        let few : q.passed ≡ suc lowered.last = lowered.passed in
        let most : q.passed ≤ length (rows_of f) = at.stands.within in
        record {
          holds = at.holds;
          ends = ends_whole d.types f j;
          is = sym (cond-true (nat_lt j (length (rows_of f))) (path_at d.types f j) [] (lt-ltb j (length (rows_of f)) (omega arith)));
        })

    module _ (p : ℕ) (parent : q.parent ≡ Some p) where
      parent_row_is : row_on (path_passed d.types (rows_of f) q.passed) k.parent ≡ Some p
      parent_row_is = sym at.stands.parent ∙ parent

      parent_on_path : Spans d.types (rows_of f) p lowered.last × (level_at d.types (rows_of f) p ≡ k.parent)
      parent_on_path =
          let few : q.passed ≡ suc lowered.last = lowered.passed in
          let most : q.passed ≤ length (rows_of f) = at.stands.within in
          let P = path_row_is d.types (rows_of f) (kept_rows d v f k q of at) lowered.last k.parent p (omega arith)
          (subst (λ n. row_on (path_passed d.types (rows_of f) n) k.parent ≡ Some p) lowered.passed parent_row_is) in
          (P.spans, P.level)

      start_below : search_start d.types (rows_of f) q NextInParent ssas ≡ max j (p + 1)
      start_below =
          parents_first d.types (rows_of f) q ssas
          ∙ ap₂ (λ x y. max x y) start_lowered (ap (λ (o : Option ℕ). option_map_or (λ q. q + 1) o 0) parent)

      -- so does GNP, where that is below the parentage row
      pub leads_below_lowered : (a : ℕ) → address_at f p ≡ a → k.parent < level_at d.types (rows_of f) j
          → LeadsWithin d.types (links_of d.types v) f a (search_end d.types (rows_of f) q NextInParent) (path_at d.types f j) (search_start d.types (rows_of f) q NextInParent ssas)
      leads_below_lowered a address deep =
          let P = parent_on_path in
          let own : level_at d.types (rows_of f) p ≡ k.parent = P.1 in
          let before : p < j
          = parent_before d.types (rows_of f) (kept_rows d v f k q of at) q at.stands.within k.standing at.stands.standing j p lowered P.0 (omega arith) in
          let less : j ≤ lowered.last = lowered.low in
          let few : q.passed ≡ suc lowered.last = lowered.passed in
          let most : q.passed ≤ length (rows_of f) = at.stands.within in
          let to : lowered.last < end_of d.types (rows_of f) p = P.0.to in
          let end : search_end d.types (rows_of f) q NextInParent ≡ end_of d.types (rows_of f) p = ap (λ (o : Option ℕ). option_map_or (λ r. end_of d.types (rows_of f) r) o 0) parent in
          let start : search_start d.types (rows_of f) q NextInParent ssas ≡ j = start_below ∙ (let z : max j (p + 1) ≡ j = omega arith in z) in
          subst (LeadsWithin d.types (links_of d.types v) f a (search_end d.types (rows_of f) q NextInParent) (path_at d.types f j)) (sym start)
          (subst (λ e. LeadsWithin d.types (links_of d.types v) f a e (path_at d.types f j) j) (sym end)
          (record {
            holds = at.holds;
            ends = record {
              whole = λ z. absurd (let s : 0 < address_at f p = some_address p (omega arith) in omega arith);
              under = λ some. (p, before, (omega arith), address, refl);
            };
            is = sym (cond-true (nat_lt j (end_of d.types (rows_of f) p)) (path_at d.types f j) [] (lt-ltb j (end_of d.types (rows_of f) p) (omega arith)));
          }))
        where
          some_address : (x : ℕ) → x < length (rows_of f) → 0 < address_at f x
          some_address x w = ((grounds d v f of at.holds).addressed.there x w).some

      -- else it begins behind the parentage row
      pub starts_behind : level_at d.types (rows_of f) j ≤ k.parent → search_start d.types (rows_of f) q NextInParent ssas ≡ behind_parent q
      starts_behind high =
          let P = parent_on_path in
          let own : level_at d.types (rows_of f) p ≡ k.parent = P.1 in
          let behind : j ≤ p
          = parent_behind d.types (rows_of f) (kept_rows d v f k q of at) q at.stands.within k.standing at.stands.standing j p lowered P.0 (omega arith) in
          start_below ∙ (let z : max j (p + 1) ≡ p + 1 = omega arith in z) ∙ sym (ap (λ (o : Option ℕ). option_map_or (λ q. q + 1) o 0) parent)
