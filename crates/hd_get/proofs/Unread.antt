-- Why a search without segment search arguments goes where it goes from a row.
use Rattle.std.proofs.Common.{◌≡◌, ℕ, ◌<◌, List, [], ◌∷◌, length, Bool, true, false, Option, None, Some, refl}
use Rattle.std.specs.Prelude.{cond}
use Rattle.std.specs.List.{list_all}
use Rattle.std.specs.Option.{option_map_or}
use Rattle.hd_dbd.specs.Types.{SegmentType, View}
use Rattle.hd_dbd.specs.Segment.{Segment}
use Rattle.hd_dbd.specs.Paths.{row_at, path_of, parent_row}
use Rattle.hd_dbd.specs.Letters.{gives_get}
use Rattle.hd_dbd.specs.Forest.{Forest}
use Rattle.hd_links.specs.Placed.{Placed}
use Rattle.hd_links.specs.Steps.{rows_of}
use Rattle.hd_dbd.specs.Views.{may}
use Rattle.hd_calls.specs.Satisfies.{satisfies}
use Rattle.hd_calls.specs.Admits.{AreRowsOf}
use Rattle.hd_calls.specs.SearchSpans.{reads_some_below}
use Rattle.hd_calls.proofs.Failing.{unread_spans_fail}
use Rattle.hd_get.specs.declared.verdict.Verdict.TheVariants.{Found, Next, Over}
use Rattle.hd_get.specs.Searches.{IsJudged, is_above_admitted}
use Rattle.hd_get.specs.Asking.{verdict_plain}
use Rattle.hd_get.proofs.Judging.{judged_found, judged_next, judged_over}

module _ (types : List SegmentType) (f : Forest Placed) (pcb : View) (over : AreRowsOf types (rows_of f)) (i : ℕ) (within : i < length (rows_of f)) where
  pub judged_plain : IsJudged (satisfies (record { types = types; pcb = pcb }) (rows_of f) []) (λ j. true) types f i (verdict_plain (record { types = types; pcb = pcb }) (row_at (rows_of f) i).code)
  judged_plain = by_read (may (record { types = types; pcb = pcb }) gives_get (row_at (rows_of f) i).code) refl
    where
      by_below : (b : Bool) → may (record { types = types; pcb = pcb }) gives_get (row_at (rows_of f) i).code ≡ false → reads_some_below (record { types = types; pcb = pcb }) (row_at (rows_of f) i).code ≡ b
          → IsJudged (satisfies (record { types = types; pcb = pcb }) (rows_of f) []) (λ j. true) types f i (cond b Next Over)
      by_below true own e = judged_next (satisfies (record { types = types; pcb = pcb }) (rows_of f) []) (λ j. true) types f i own (λ k. refl)
      by_below false own e =
          judged_over (satisfies (record { types = types; pcb = pcb }) (rows_of f) []) (λ j. true) types f i (unread_spans_fail (record { types = types; pcb = pcb }) (rows_of f) i over within e) (λ k. refl)

      by_read : (b : Bool) → may (record { types = types; pcb = pcb }) gives_get (row_at (rows_of f) i).code ≡ b
          → IsJudged (satisfies (record { types = types; pcb = pcb }) (rows_of f) []) (λ j. true) types f i
          (cond b Found (cond (reads_some_below (record { types = types; pcb = pcb }) (row_at (rows_of f) i).code) Next Over))
      by_read true e = judged_found (satisfies (record { types = types; pcb = pcb }) (rows_of f) []) (λ j. true) types f i e refl
      by_read false e = by_below (reads_some_below (record { types = types; pcb = pcb }) (row_at (rows_of f) i).code) e refl

-- a list each member of which passes
all_pass : (xs : List ℕ) → list_all (λ (j : ℕ). true) xs ≡ true
all_pass [] = refl
all_pass (x ∷ xs) = all_pass xs

-- where every row is admitted, the rows above each row are
pub all_above : (types : List SegmentType) (rows : List Segment) (i : ℕ) → is_above_admitted (λ (j : ℕ). true) types rows i ≡ true
all_above types rows i = by_parent (parent_row types rows i)
  where
    by_parent : (q : Option ℕ) → option_map_or (λ (q : ℕ). list_all (λ (j : ℕ). true) (path_of types rows q)) q true ≡ true
    by_parent None = refl
    by_parent (Some q) = all_pass (path_of types rows q)
