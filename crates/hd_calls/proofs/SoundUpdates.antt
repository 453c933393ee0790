-- What the updates leave: rows in hierarchic sequence, and positions in range.
use Rattle.std.proofs.Common.{◌≡◌, ℕ, ◌-◌, ◌<◌, List, [], ◌∷◌, length, map, true, false, Bool, cond, arith, ap, sym, ◌∙◌, subst, Option, Some, None, refl, inl, inr}
use Rattle.std.specs.Prelude.{◌==◌, ◌||◌, not, slice_set}
use Rattle.std.specs.Option.{option_map_or}
use Rattle.std.specs.List.{list_any, list_all, AllByRecursion}
use Rattle.std.proofs.lemmas.Bool.{and_parts, cases_Bool, cases_eq, eqb-true}
use Rattle.std.proofs.lemmas.List.{get_or-set_other, get_or-set_same, length-set}
use Rattle.std.proofs.lemmas.Slice.Eq.{bytes_eq-Decides}
use Rattle.hd_dbd.specs.Types.{SegmentType}
use Rattle.hd_dbd.specs.Segment.{Segment}
use Rattle.hd_dbd.specs.Rows.{key_of, row_fits}
use Rattle.hd_dbd.specs.Paths.{no_row, row_at, end_of}
use Rattle.hd_dbd.specs.Positions.{Position}
use Rattle.hd_dbd.specs.Laws.{IsInSequence}
use Rattle.hd_dbd.specs.Views.{Setting}
use Rattle.hd_dbd.specs.Calls.{row_reply}
use Rattle.hd_dbd.specs.declared.answer.Status.{Status}
use Rattle.hd_dbd.specs.declared.answer.Status.TheVariants.{Blank, V1, DA, DJ}
use Rattle.hd_calls.specs.Ssas.{Ssa}
use Rattle.hd_calls.specs.Gets.{unheld}
use Rattle.hd_calls.specs.Moves.{Rewrite, Change, unchanged, inserted, deleted, rewritten, put_in, taken_out, rewrite_rows, rows_after, is_rewritten, position_after}
use Rattle.hd_calls.specs.Steps.{Effect, answered, wrong_area, bare_answer, new_row, old_bytes, divide, rewrites_of, rewrites_asked, is_excepted, keeps_key, lowest, replace_rows, held_part, replace_step, delete_row, delete_step, deleted_row}
use Rattle.hd_calls.specs.Runs.{row_with}
use Rattle.hd_calls.specs.Laws.{LieOnOnePath, IsInRange}
use Rattle.hd_calls.proofs.Areas.{IsPart, AreParts, are_parts, by_division}
use Rattle.hd_calls.proofs.FairUpdates.{taken_held}
use Rattle.hd_calls.proofs.Splicing.{IsSpliced, rest_in_sequence}
use Rattle.hd_calls.proofs.InRange.{inserted_in_range, gone_spliced, deleted_in_range, alike_in_range}
use Rattle.hd_calls.proofs.Replacing.{AreAlike, alike_in_sequence}
use Rattle.hd_calls.proofs.SoundGets.{unheld_in_range}

-- ---- changes

-- A change that leaves the rows in hierarchic sequence.
abbrev pub IsFine : List SegmentType → List Segment → Change → Type 0
IsFine types rows unchanged = Unit {0}
IsFine types rows (inserted p new) = IsSpliced types rows (put_in p new rows) p (length new) × IsInSequence types (put_in p new rows)
IsFine types rows (deleted from to) = (from < length rows) × (to ≡ end_of types rows from)
IsFine types rows (rewritten ws) = AreAlike types rows (rewrite_rows ws rows)

pub fine_in_sequence : (types : List SegmentType) (rows : List Segment) (change : Change) → IsFine types rows change → IsInSequence types rows → IsInSequence types (rows_after change rows)
fine_in_sequence types rows unchanged fine ordered = ordered
fine_in_sequence types rows (inserted p new) fine ordered = fine.1
fine_in_sequence types rows (deleted from to) fine ordered =
    subst (λ (e : ℕ). IsInSequence types (taken_out from e rows)) (sym fine.1)
    (rest_in_sequence types (taken_out from (end_of types rows from) rows) rows from (end_of types rows from - from) (gone_spliced types rows from fine.0) ordered)
fine_in_sequence types rows (rewritten ws) fine ordered = alike_in_sequence types rows (rewrite_rows ws rows) fine ordered

pub fine_in_range : (types : List SegmentType) (rows : List Segment) (change : Change) (q : Position) → IsFine types rows change → IsInRange types rows q
    → IsInRange types (rows_after change rows) (position_after types rows change q)
fine_in_range types rows unchanged q fine fits = fits
fine_in_range types rows (inserted p new) q fine fits = inserted_in_range types rows (put_in p new rows) p (length new) fine.0 q fits
fine_in_range types rows (deleted from to) q fine fits =
    subst (λ (e : ℕ). IsInRange types (taken_out from e rows) (position_after types rows (deleted from e) q)) (sym fine.1) (deleted_in_range types rows from fine.0 q fits)
fine_in_range types rows (rewritten ws) q fine fits =
    let same : IsInRange types (rewrite_rows ws rows) q = alike_in_range types rows (rewrite_rows ws rows) fine q fits in
    record { passed = same.passed; standing = same.standing; parent = same.parent; held = by_held (list_any (λ n. is_rewritten ws n) q.held) same.held }
  where
    by_held : (b : Bool) → LieOnOnePath types (rewrite_rows ws rows) q.held → LieOnOnePath types (rewrite_rows ws rows) (cond b [] q.held)
    by_held true lies = tt
    by_held false lies = lies

-- An effect that leaves the rows in hierarchic sequence, and its own position in range.
abbrev pub IsSoundEffect : List SegmentType → List Segment → Effect → Type 0
IsSoundEffect types rows (answered reply change own) = IsFine types rows change × IsInRange types (rows_after change rows) own
IsSoundEffect types rows wrong_area = Unit {0}

pub bare_sound : (types : List SegmentType) (rows : List Segment) (p : Position) (status : Status) → IsInRange types rows p → IsSoundEffect types rows (bare_answer p status)
bare_sound types rows p status fits = (tt, unheld_in_range types rows p fits)

-- ---- DLET

held_within : (types : List SegmentType) (rows : List Segment) (xs : List ℕ) (d : ℕ) → LieOnOnePath types rows xs → list_any (λ i. i == d) xs ≡ true → d < length rows
held_within types rows [] d lies is = cc
held_within types rows (x ∷ xs) d lies is = elim (cases_Bool (x == d)) [
  | inl here ↦ (let same : x ≡ d = eqb-true x d here in omega (arith, lies.0))
  | inr other ↦ held_within types rows xs d lies.2 (sym (ap (λ (b : Bool). b || list_any (λ i. i == d) xs) other) ∙ is)
]

pub delete_sound : (s : Setting) (rows : List Segment) (p : Position) (ssas : List Ssa) → IsInRange s.types rows p → IsSoundEffect s.types rows (delete_step s rows p ssas)
delete_sound s rows p ssas fits = by_row (deleted_row rows ssas p.held) refl
  where
    by_row : (o : Option ℕ) → deleted_row rows ssas p.held ≡ o → IsSoundEffect s.types rows (option_map_or (λ d. delete_row s rows p d) o (bare_answer p DJ))
    by_row None is = bare_sound s.types rows p DJ fits
    by_row (Some d) is =
        let there : d < length rows = held_within s.types rows p.held d fits.held (taken_held rows ssas p.held d is) in
        let fine : IsFine s.types rows (deleted d (end_of s.types rows d)) = (there, refl) in (
          fine,
          unheld_in_range s.types (rows_after (deleted d (end_of s.types rows d)) rows) (position_after s.types rows (deleted d (end_of s.types rows d)) p)
              (fine_in_range s.types rows (deleted d (end_of s.types rows d)) p fine fits),
        )

-- ---- REPL

-- New bytes of a row that fit its type and keep its key.
pub record FitsRow (types : List SegmentType) (rows : List Segment) (w : Rewrite) : Type 0 where
  pub there : w.number < length rows
  pub fit : row_fits types (record { code = (row_at rows w.number).code; bytes = w.bytes }) ≡ true
  pub key : key_of types (record { code = (row_at rows w.number).code; bytes = w.bytes }) ≡ key_of types (row_at rows w.number)

alike_self : (types : List SegmentType) (rows : List Segment) → ((i : ℕ) → i < length rows → row_fits types (row_at rows i) ≡ true) → AreAlike types rows rows
alike_self types rows fit = record { same = refl; codes = λ i. refl; keys = λ i. refl; fit = fit }

alike_both : (types : List SegmentType) (a b c : List Segment) → AreAlike types a b → AreAlike types b c → AreAlike types a c
alike_both types a b c ab bc = record { same = bc.same ∙ ab.same; codes = λ i. bc.codes i ∙ ab.codes i; keys = λ i. bc.keys i ∙ ab.keys i; fit = bc.fit }

abbrev with_row : List Segment → Rewrite → List Segment
with_row rows w = slice_set rows w.number (record { code = (row_at rows w.number).code; bytes = w.bytes })

alike_one : (types : List SegmentType) (rows : List Segment) (w : Rewrite) → ((i : ℕ) → i < length rows → row_fits types (row_at rows i) ≡ true) → FitsRow types rows w → AreAlike types rows (with_row rows w)
alike_one types rows w fit fits = record {
  same = length-set rows w.number (record { code = (row_at rows w.number).code; bytes = w.bytes });
  codes = λ i. elim (cases_eq i w.number) [
    | inl here ↦ ap (λ (n : ℕ). (row_at (with_row rows w) n).code) here ∙ ap (λ (r : Segment). r.code) at ∙ ap (λ (n : ℕ). (row_at rows n).code) (sym here)
    | inr other ↦ ap (λ (r : Segment). r.code) (apart i other)
  ];
  keys = λ i. elim (cases_eq i w.number) [
    | inl here ↦ ap (λ (n : ℕ). key_of types (row_at (with_row rows w) n)) here ∙ ap (λ (r : Segment). key_of types r) at ∙ fits.key ∙ ap (λ (n : ℕ). key_of types (row_at rows n)) (sym here)
    | inr other ↦ ap (λ (r : Segment). key_of types r) (apart i other)
  ];
  fit = λ i within. elim (cases_eq i w.number) [
    | inl here ↦ ap (λ (n : ℕ). row_fits types (row_at (with_row rows w) n)) here ∙ ap (λ (r : Segment). row_fits types r) at ∙ fits.fit
    | inr other ↦ ap (λ (r : Segment). row_fits types r) (apart i other) ∙ fit i (omega (arith, within, length-set rows w.number (record { code = (row_at rows w.number).code; bytes = w.bytes })))
  ];
}
  where
    at : row_at (with_row rows w) w.number ≡ row_with rows w
    at = get_or-set_same rows w.number (row_with rows w) no_row fits.there

    apart : (i : ℕ) → (i ≡ w.number → ⊥) → row_at (with_row rows w) i ≡ row_at rows i
    apart i other = get_or-set_other rows w.number i (row_with rows w) no_row other

-- what fits a row fits it among alike rows
still_fits : (types : List SegmentType) (old new : List Segment) (w : Rewrite) → AreAlike types old new → FitsRow types old w → FitsRow types new w
still_fits types old new w alike fits =
    let code : (row_at new w.number).code ≡ (row_at old w.number).code = alike.codes w.number in
    record {
      there = omega (arith, fits.there, alike.same);
      fit = ap (λ (c : ℕ). row_fits types (record { code = c; bytes = w.bytes })) code ∙ fits.fit;
      key = ap (λ (c : ℕ). key_of types (record { code = c; bytes = w.bytes })) code ∙ fits.key ∙ sym (alike.keys w.number);
    }

all_still : (types : List SegmentType) (old new : List Segment) → AreAlike types old new → (ws : List Rewrite) → AllByRecursion (λ w. FitsRow types old w) ws → AllByRecursion (λ w. FitsRow types new w) ws
all_still types old new alike [] all = tt
all_still types old new alike (w ∷ ws) all = (still_fits types old new w alike all.0, all_still types old new alike ws all.1)

pub rewritten_alike : (types : List SegmentType) (ws : List Rewrite) (rows : List Segment) → ((i : ℕ) → i < length rows → row_fits types (row_at rows i) ≡ true)
    → AllByRecursion (λ w. FitsRow types rows w) ws → AreAlike types rows (rewrite_rows ws rows)
rewritten_alike types [] rows fit all = alike_self types rows fit
rewritten_alike types (w ∷ ws) rows fit all =
    let one : AreAlike types rows (with_row rows w) = alike_one types rows w fit all.0 in
    alike_both types rows (with_row rows w) (rewrite_rows ws (with_row rows w)) one
    (rewritten_alike types ws (with_row rows w) one.fit (all_still types rows (with_row rows w) one ws all.1))

-- The new bytes are for a row that is there, and fit its type.
abbrev OfRow : List SegmentType → List Segment → Rewrite → Type 0
OfRow types rows w = (w.number < length rows) × (row_fits types (record { code = (row_at rows w.number).code; bytes = w.bytes }) ≡ true)

-- what is asked for held rows, but those that N excepts, fits their types
asked_fit : (types : List SegmentType) (rows : List Segment) (ssas : List Ssa) (held : List ℕ) (parts : List (List ℕ)) → LieOnOnePath types rows held
    → AreParts types (map (λ i. held_part rows ssas i) held) parts → AllByRecursion (λ w. OfRow types rows w) (rewrites_asked rows ssas (rewrites_of held parts))
asked_fit types rows ssas [] parts lies are = tt
asked_fit types rows ssas (i ∷ is) [] lies are = absurd are
asked_fit types rows ssas (i ∷ is) (bytes ∷ parts) lies are = by_excepted (is_excepted ssas (row_at rows i).code) are.0 (asked_fit types rows ssas is parts lies.2 are.1)
  where
    by_excepted : (b : Bool) → IsPart types (cond b (old_bytes (length (row_at rows i).bytes)) (new_row (row_at rows i).code)) bytes
        → AllByRecursion (λ w. OfRow types rows w) (rewrites_asked rows ssas (rewrites_of is parts))
        → AllByRecursion (λ w. OfRow types rows w) (cond (not b) (record { number = i; bytes = bytes } ∷ rewrites_asked rows ssas (rewrites_of is parts)) (rewrites_asked rows ssas (rewrites_of is parts)))
    by_excepted true part others = others
    by_excepted false part others = ((lies.0, part), others)

keys_kept : (types : List SegmentType) (rows : List Segment) (ws : List Rewrite) → AllByRecursion (λ w. OfRow types rows w) ws → list_all (λ w. keeps_key types rows w) ws ≡ true → AllByRecursion (λ w. FitsRow types rows w) ws
keys_kept types rows [] all is = tt
keys_kept types rows (w ∷ ws) all is =
    let both = and_parts (keeps_key types rows w) (list_all (λ w. keeps_key types rows w) ws) is in (
      record {
        there = all.0.0;
        fit = all.0.1;
        key = sym ((bytes_eq-Decides (key_of types (row_at rows w.number)) (key_of types (record { code = (row_at rows w.number).code; bytes = w.bytes }))).0 both.0);
      },
      keys_kept types rows ws all.1 both.1,
    )

pub replace_sound : (s : Setting) (rows : List Segment) (p : Position) (ssas : List Ssa) (area : List ℕ) → IsInSequence s.types rows → IsInRange s.types rows p → IsSoundEffect s.types rows (replace_step s rows p ssas area)
replace_sound s rows p ssas area ordered fits =
    by_division (IsSoundEffect s.types rows) p (divide s.types (map (λ i. held_part rows ssas i) p.held) area) (λ parts. replace_rows s rows p (rewrites_asked rows ssas (rewrites_of p.held parts)))
    (bare_sound s.types rows p V1 fits) tt
    (λ parts is. by_keys (rewrites_asked rows ssas (rewrites_of p.held parts))
    (asked_fit s.types rows ssas p.held parts fits.held (are_parts s.types (map (λ i. held_part rows ssas i) p.held) area parts is)))
  where
    by_keys : (ws : List Rewrite) → AllByRecursion (λ w. OfRow s.types rows w) ws → IsSoundEffect s.types rows (replace_rows s rows p ws)
    by_keys ws all = by_key (list_all (λ w. keeps_key s.types rows w) ws) refl
      where
        by_key : (b : Bool) → list_all (λ w. keeps_key s.types rows w) ws ≡ b → IsSoundEffect s.types rows (cond b (answered (row_reply s rows (lowest p.held) Blank []) (rewritten ws) (unheld p)) (bare_answer p DA))
        by_key true is =
            let fine : AreAlike s.types rows (rewrite_rows ws rows) = rewritten_alike s.types ws rows ordered.fit (keys_kept s.types rows ws all is) in
            (fine, unheld_in_range s.types (rewrite_rows ws rows) p (alike_in_range s.types rows (rewrite_rows ws rows) fine p fits))
        by_key false is = bare_sound s.types rows p DA fits
