-- A hold stands through the calls of others, until one of them touches a row that is held.
use Rattle.std.proofs.Common.{◌≡◌, ℕ, ◌+◌, ◌<◌, ◌≤◌, List, [], ◌∷◌, ◌++◌, length, map, true, false, Bool, cond, arith, ap, sym, ◌∙◌, subst, refl, inl, inr, ◌⊎◌}
use Rattle.std.specs.Prelude.{nat_le, filter, slice_index}
use Rattle.std.specs.List.{list_any, AllByRecursion}
use Rattle.std.proofs.lemmas.Bool.{or_parts, cases_lt}
use Rattle.hd_dbd.specs.Types.{SegmentType}
use Rattle.hd_dbd.specs.Segment.{Segment}
use Rattle.hd_dbd.specs.Paths.{row_at}
use Rattle.hd_dbd.specs.Positions.{Position}
use Rattle.hd_calls.specs.Gets.{bytes_of}
use Rattle.hd_calls.specs.Moves.{Change, unchanged, inserted, deleted, rewritten, put_in, taken_out, rewrite_rows, rows_after, number_after_insert, number_after_delete, is_inside, is_rewritten, position_after}
use Rattle.hd_calls.specs.NoLostUpdate.{share, touches}
use Rattle.hd_calls.specs.Tags.{TaggedState, tags_at, tags_after, unused_after, numbers_from}
use Rattle.hd_calls.proofs.Fair.{GoesForward}
use Rattle.hd_calls.proofs.Moving.{put_kept, taken_kept, rewrite_kept, length-put_in, length-taken_out, alike-taken_out, length-rewrite, length-numbers, times, times_put, times_taken, no_lesser, at_most_once, below_end, one_number, none_shared, passing_numbers}

-- ---- lists of numbers

pub map_same : {X : Type 0} (f g : ℕ → X) (r : ℕ → ℕ) (P : ℕ → Type 0) → ((i : ℕ) → P i → f (r i) ≡ g i) → (xs : List ℕ) → AllByRecursion P xs → map f (map r xs) ≡ map g xs
map_same f g r P same [] all = refl
map_same f g r P same (x ∷ xs) all = ap (λ y. y ∷ map f (map r xs)) (same x all.0) ∙ ap (λ ys. g x ∷ ys) (map_same f g r P same xs all.1)

-- the bytes are those of the rows, one by one
bytes_same : (new old : List Segment) (r : ℕ → ℕ) (P : ℕ → Type 0) → ((i : ℕ) → P i → row_at new (r i) ≡ row_at old i) → (xs : List ℕ) → AllByRecursion P xs
    → bytes_of new (map r xs) ≡ bytes_of old xs
bytes_same new old r P same [] all = refl
bytes_same new old r P same (x ∷ xs) all =
    ap (λ (s : Segment). s.bytes ++ bytes_of new (map r xs)) (same x all.0) ∙ ap (λ ys. (row_at old x).bytes ++ ys) (bytes_same new old r P same xs all.1)

all_map : (P Q : ℕ → Type 0) (r : ℕ → ℕ) → ((i : ℕ) → P i → Q (r i)) → (xs : List ℕ) → AllByRecursion P xs → AllByRecursion Q (map r xs)
all_map P Q r f [] all = tt
all_map P Q r f (x ∷ xs) all = (f x all.0, all_map P Q r f xs all.1)

map_id : (xs : List ℕ) → map (λ i. i) xs ≡ xs
map_id [] = refl
map_id (x ∷ xs) = ap (λ ys. x ∷ ys) (map_id xs)

-- none of some numbers passes a test
pub untouched : (test : ℕ → Bool) (P : ℕ → Type 0) (xs : List ℕ) → list_any test xs ≡ false → AllByRecursion P xs → AllByRecursion (λ i. P i × (test i ≡ false)) xs
untouched test P [] none all = tt
untouched test P (x ∷ xs) none all = (let both = or_parts (test x) (list_any test xs) none in ((all.0, both.0), untouched test P xs both.1 all.1))

-- ---- one state

-- The tags are as many as the rows, each stands once, and none is unused.
pub record IsTagged (s : TaggedState) : Type 0 where
  pub lengths : length s.tags ≡ length s.state.rows
  pub once : (t : ℕ) → times t s.tags ≤ 1
  pub fresh : (t : ℕ) → 0 < times t s.tags → t < s.unused

-- the tagged state after a change, with some positions
abbrev pub changed : TaggedState → Change → List Position → TaggedState
changed s change ps = record {
  state = record { rows = rows_after change s.state.rows; positions = ps };
  tags = tags_after change s.unused s.tags;
  unused = unused_after change s.unused;
}

pub still_tagged : (s : TaggedState) (change : Change) (ps : List Position) → GoesForward change → IsTagged s → IsTagged (changed s change ps)
still_tagged s unchanged ps forward t = record { lengths = t.lengths; once = t.once; fresh = t.fresh }
still_tagged s (inserted p new) ps forward t = record {
  lengths = omega (arith, t.lengths, length-put_in p (numbers_from s.unused (length new)) s.tags, length-put_in p new s.state.rows, length-numbers s.unused (length new));
  once = λ x. by_old x (times_put x p (numbers_from s.unused (length new)) s.tags) (t.once x) (t.fresh x) (at_most_once x s.unused (length new)) (no_lesser x s.unused (length new));
  fresh = λ x some. by_new x (times_put x p (numbers_from s.unused (length new)) s.tags) (t.fresh x) (below_end x s.unused (length new)) some;
}
  where
    by_old : (x : ℕ) → times x (put_in p (numbers_from s.unused (length new)) s.tags) ≡ times x s.tags + times x (numbers_from s.unused (length new)) → times x s.tags ≤ 1
        → (0 < times x s.tags → x < s.unused) → times x (numbers_from s.unused (length new)) ≤ 1 → (x < s.unused → times x (numbers_from s.unused (length new)) ≡ 0)
        → times x (put_in p (numbers_from s.unused (length new)) s.tags) ≤ 1
    by_old x both old_once old_fresh new_once none = elim (cases_lt 0 (times x s.tags)) [
      | inl some ↦ (let low : x < s.unused = old_fresh some in let zero_ : times x (numbers_from s.unused (length new)) ≡ 0 = none low in omega arith)
      | inr no_ ↦ omega arith
    ]

    by_new : (x : ℕ) → times x (put_in p (numbers_from s.unused (length new)) s.tags) ≡ times x s.tags + times x (numbers_from s.unused (length new))
        → (0 < times x s.tags → x < s.unused) → (0 < times x (numbers_from s.unused (length new)) → x < s.unused + length new)
        → 0 < times x (put_in p (numbers_from s.unused (length new)) s.tags) → x < s.unused + length new
    by_new x both old_fresh new_fresh some = elim (cases_lt 0 (times x s.tags)) [
      | inl old ↦ (let low : x < s.unused = old_fresh old in omega arith)
      | inr no_ ↦ new_fresh (omega arith)
    ]
still_tagged s (deleted a b) ps forward t = record {
  lengths = alike-taken_out a b s.tags s.state.rows t.lengths;
  once = λ x. omega (arith, times_taken x a b s.tags forward, t.once x);
  fresh = λ x some. t.fresh x (omega (arith, times_taken x a b s.tags forward));
}
still_tagged s (rewritten ws) ps forward t = record {
  lengths = t.lengths ∙ sym (length-rewrite ws s.state.rows);
  once = t.once;
  fresh = t.fresh;
}

-- ---- the holds of others

-- Rows that are held before a change, at their new numbers after it: the same tags, the same bytes, none is touched.
pub record StaysHeld (s : TaggedState) (change : Change) (ps : List Position) (old new : List ℕ) : Type 0 where
  pub tags : tags_at (changed s change ps) new ≡ tags_at s old
  pub bytes : bytes_of (rows_after change s.state.rows) new ≡ bytes_of s.state.rows old
  pub within : AllByRecursion (λ i. i < length (rows_after change s.state.rows)) new
  pub apart : share (tags_at s (filter (λ i. touches change i) (numbers_from 0 (length s.state.rows)))) (tags_at s old) ≡ false

-- what is not touched has another tag than what is
apart_from : (s : TaggedState) (change : Change) (held : List ℕ) → IsTagged s → AllByRecursion (λ i. (i < length s.state.rows) × (touches change i ≡ false)) held
    → share (tags_at s (filter (λ i. touches change i) (numbers_from 0 (length s.state.rows)))) (tags_at s held) ≡ false
apart_from s change held t all =
    none_shared (λ i. slice_index s.tags i) (λ k. (k < length s.state.rows) × (touches change k ≡ true))
    (filter (λ i. touches change i) (numbers_from 0 (length s.state.rows))) held
    (λ k touched. differ k touched held all)
    (passing_numbers (λ i. touches change i) 0 (length s.state.rows) (length s.state.rows) (omega arith))
  where
    differ : (k : ℕ) → (k < length s.state.rows) × (touches change k ≡ true) → (held : List ℕ) → AllByRecursion (λ i. (i < length s.state.rows) × (touches change i ≡ false)) held
        → AllByRecursion (λ h. slice_index s.tags h ≡ slice_index s.tags k → ⊥) held
    differ k touched [] all = tt
    differ k touched (h ∷ hs) all = (
      λ same. (let one : h ≡ k = one_number s.tags h k (omega (arith, t.lengths, all.0.0)) (omega (arith, t.lengths, touched.0)) t.once same in
          let yes_ : touches change h ≡ true = ap (λ i. touches change i) one ∙ touched.1 in
          let no_ : touches change h ≡ false = all.0.1 in
          cc),
      differ k touched hs all.1,
    )

none_touched : (rows : List Segment) (change : Change) (held : List ℕ) → ((i : ℕ) → touches change i ≡ false) → AllByRecursion (λ i. i < length rows) held
    → AllByRecursion (λ i. (i < length rows) × (touches change i ≡ false)) held
none_touched rows change [] none all = tt
none_touched rows change (h ∷ hs) none all = ((all.0, none h), none_touched rows change hs none all.1)

-- what another PCB holds, as a change moves it
pub others_stay : (types : List SegmentType) (s : TaggedState) (change : Change) (ps : List Position) (q : Position) → IsTagged s → GoesForward change
    → AllByRecursion (λ i. i < length s.state.rows) q.held
    → ((position_after types s.state.rows change q).held ≡ []) ⊎ StaysHeld s change ps q.held (position_after types s.state.rows change q).held
others_stay types s unchanged ps q t forward within =
    inr (record { tags = refl; bytes = refl; within = within; apart = apart_from s unchanged q.held t (none_touched s.state.rows unchanged q.held (λ i. refl) within) })
others_stay types s (inserted p new) ps q t forward within =
    inr (record {
      tags = map_same (λ i. slice_index (put_in p (numbers_from s.unused (length new)) s.tags) i) (λ i. slice_index s.tags i) (λ i. number_after_insert p (length new) i) (λ i. i < length s.state.rows)
          (λ i low. ap (λ (k : ℕ). slice_index (put_in p (numbers_from s.unused (length new)) s.tags) (number_after_insert p k i)) (sym (length-numbers s.unused (length new)))
          ∙ put_kept p (numbers_from s.unused (length new)) s.tags i 0 (omega (arith, t.lengths)))
          q.held within;
      bytes = bytes_same (put_in p new s.state.rows) s.state.rows (λ i. number_after_insert p (length new) i) (λ i. i < length s.state.rows)
          (λ i low. put_kept p new s.state.rows i (record { code = 0; bytes = [] }) low) q.held within;
      within = all_map (λ i. i < length s.state.rows) (λ i. i < length (put_in p new s.state.rows)) (λ i. number_after_insert p (length new) i)
          (λ i low. rise i low (nat_le p i) (length-put_in p new s.state.rows)) q.held within;
      apart = apart_from s (inserted p new) q.held t (none_touched s.state.rows (inserted p new) q.held (λ i. refl) within);
    })
  where
    rise : (i : ℕ) → i < length s.state.rows → (b : Bool) → length (put_in p new s.state.rows) ≡ length s.state.rows + length new → cond b (i + length new) i < length (put_in p new s.state.rows)
    rise i low true len = omega arith
    rise i low false len = omega arith
others_stay types s (deleted a b) ps q t forward within =
    by_inside (list_any (λ n. is_inside a b n) q.held) refl
  where
    by_inside : (x : Bool) → list_any (λ n. is_inside a b n) q.held ≡ x
        → (cond x [] (map (λ n. number_after_delete a b n) q.held) ≡ []) ⊎ StaysHeld s (deleted a b) ps q.held (cond x [] (map (λ n. number_after_delete a b n) q.held))
    by_inside true is = inl refl
    by_inside false is =
        let all : AllByRecursion (λ i. (i < length s.state.rows) × (is_inside a b i ≡ false)) q.held = untouched (λ n. is_inside a b n) (λ i. i < length s.state.rows) q.held is within in
        inr (record {
          tags = map_same (λ i. slice_index (taken_out a b s.tags) i) (λ i. slice_index s.tags i) (λ i. number_after_delete a b i) (λ i. (i < length s.state.rows) × (is_inside a b i ≡ false))
              (λ i low. taken_kept a b s.tags i 0 forward low.1 (omega (arith, t.lengths, low.0))) q.held all;
          bytes = bytes_same (taken_out a b s.state.rows) s.state.rows (λ i. number_after_delete a b i) (λ i. (i < length s.state.rows) × (is_inside a b i ≡ false))
              (λ i low. taken_kept a b s.state.rows i (record { code = 0; bytes = [] }) forward low.1 low.0) q.held all;
          within = all_map (λ i. (i < length s.state.rows) × (is_inside a b i ≡ false)) (λ i. i < length (taken_out a b s.state.rows)) (λ i. number_after_delete a b i)
              (λ i low. length-taken_out a b s.state.rows i forward low.1 low.0) q.held all;
          apart = apart_from s (deleted a b) q.held t all;
        })
others_stay types s (rewritten ws) ps q t forward within =
    by_touched (list_any (λ n. is_rewritten ws n) q.held) refl
  where
    by_touched : (x : Bool) → list_any (λ n. is_rewritten ws n) q.held ≡ x → (cond x [] q.held ≡ []) ⊎ StaysHeld s (rewritten ws) ps q.held (cond x [] q.held)
    by_touched true is = inl refl
    by_touched false is =
        let all : AllByRecursion (λ i. (i < length s.state.rows) × (is_rewritten ws i ≡ false)) q.held = untouched (λ n. is_rewritten ws n) (λ i. i < length s.state.rows) q.held is within in
        inr (record {
          tags = refl;
          bytes = ap (λ xs. bytes_of (rewrite_rows ws s.state.rows) xs) (sym (map_id q.held))
              ∙ bytes_same (rewrite_rows ws s.state.rows) s.state.rows (λ i. i) (λ i. (i < length s.state.rows) × (is_rewritten ws i ≡ false))
              (λ i low. rewrite_kept ws s.state.rows i low.1) q.held all;
          within = subst (λ (n : ℕ). AllByRecursion (λ i. i < n) q.held) (sym (length-rewrite ws s.state.rows)) within;
          apart = apart_from s (rewritten ws) q.held t all;
        })
