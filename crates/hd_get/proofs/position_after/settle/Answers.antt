use Rattle.std.proofs.Common.{◌≡◌, ℕ, zero, suc, ◌+◌, ◌-◌, ◌<◌, ◌≤◌, ◌||◌, ◌==◌, List, [], ◌∷◌, ◌++◌, length, take, Bool, true, false, Ok, slice_index_or, refl, sym, ap, ap₂, subst, ◌∙◌, arith, inl, inr}
use Rattle.std.specs.List.{list_any}
use Rattle.std.proofs.lemmas.Bool.{cases_lt, false≢true, eq-eqb, ne_eqb}
use Rattle.std.proofs.lemmas.Grind.{take_at_read}
use Rattle.std.proofs.lemmas.List.Folds.{list_any-append}
use Rattle.hd_dbd.specs.Paths.{end_of}
use Rattle.hd_volume.proofs.CallSteps.{read-ok, read-none, reads-join}
use Rattle.hd_links.specs.Steps.{rows_of}
use Rattle.hd_image.specs.Records.{links_of}
use Rattle.hd_forest.specs.Rows.{IsOnRow, IsOnSomeRow}
use Rattle.hd_forest.proofs.Reading.{links-kept, volume-kept}
use Rattle.hd_get.specs.Searches.{IsPathOf, MayBeginAt}
use Rattle.hd_get.proofs.Spans.{nested}
use Rattle.hd_get.proofs.Grounds.{grounds, told_before}
use Rattle.hd_get.proofs.RowsAbove.{above_found, above_by, is_row, short_path, all_above, begins_above, begins_nowhere, begins_here, named_above, unnamed_above, all_admitted}
use Rattle.hd_get.proofs.position_after.settle.Goals as goal

or_false : (b : Bool) → (b || false) ≡ b
or_false true = refl
or_false false = refl

pub loop-place-init : goal.loop-place-init
loop-place-init g c = record {
  read = read-none c.args.volume.now 0;
  still = refl;
  above = c.new-above.ensures;
  below = sym (or_false (c.args.parent == 0));
  admitted = λ f n end sound leads inside. refl;
}

pub judge-requires-clause-of : goal.judge-requires-clause-of
judge-requires-clause-of g c = volume-kept c.args.dbd.now c.args.volume.now c.loop-place.volume c.loop-place.invariant.read c.requires.of

-- one row more of a path
pushed : (path above addresses new : List ℕ) (place : ℕ) → addresses ≡ path → above ≡ take place path → length path ≤ 15 → place < length path - 1
    → (length above < 15 → new ≡ above ++ slice_index_or addresses place 0 ∷ []) → new ≡ take (place + 1) path
pushed path above addresses new place is so_far few short e =
    e (let z : length above ≤ place = size in omega arith)
    ∙ ap₂ (λ (xs ys : List ℕ). xs ++ slice_index_or ys place 0 ∷ []) so_far is ∙ sym (take_at_read path place 0 (omega arith)).1
  where
    takes : (k : ℕ) (xs : List ℕ) → length (take k xs) ≤ k
    takes zero xs = omega arith
    takes (suc k) [] = omega arith
    takes (suc k) (x ∷ xs) = (let r : length (take k xs) ≤ k = takes k xs in omega arith)

    size : length above ≤ place
    size = subst (λ (xs : List ℕ). length xs ≤ place) (sym so_far) (takes place path)

-- one turn: the place is above the last, and the path is one row longer
turned : (path whole addresses above new : List ℕ) (place last : ℕ) → whole ≡ path → addresses ≡ whole → length whole ≤ 15 → last ≡ length addresses - 1 → place < last → above ≡ take place path
    → (length above < 15 → new ≡ above ++ slice_index_or addresses place 0 ∷ []) → (place < length path - 1) × (new ≡ take (place + 1) path)
turned path whole addresses above new place last is lent few at_last inside so_far e =
    let size : length addresses ≡ length path = ap (λ (xs : List ℕ). length xs) (lent ∙ is) in
    let short : place < length path - 1 = omega arith in
    (short, pushed path above addresses new place (lent ∙ is) so_far (subst (λ (xs : List ℕ). length xs ≤ 15) is few) short e)

pub judge-requires-clause-there : goal.judge-requires-clause-there
judge-requires-clause-there g c =
    links-kept c.args.dbd.now (λ m. IsOnSomeRow c.args.dbd.now.types m c.push.new.self) c.args.volume.now c.loop-place.volume c.loop-place.invariant.read
    (λ sound.
    let d = c.args.dbd.now in
    let m = links_of d.types c.args.volume.now in
    let T = c.requires.there sound in
    let G = grounds d c.args.volume.now T.0 (c.requires.of sound) T.3.holds in
    let path : List ℕ = c.args.path.now in
    let S = turned path c.copy-whole.result c.addresses-addresses.result.now c.loop-place.above c.push.new.self c.loop-place.place c.saturating_sub-place-end.result c.copy-whole.ensures
    c.addresses-addresses.ensures.value c.addresses-addresses.ensures.few c.saturating_sub-place-end.ensures c.loop-place-test.true c.loop-place.invariant.above c.push.ensures in
    let F = above_found d.types m T.0 G.addressed c.args.parent T.2 T.1 path T.3 c.loop-place.place S.0 in (
      T.0,
      F.0,
      subst (λ (xs : List ℕ). IsOnRow d.types m T.0 xs F.0)
          (sym S.1)
          (is_row d.types m T.0 G.addressed c.args.parent T.2 T.1 path T.3 c.loop-place.place F.0 S.0 F.1 T.3.holds),
    ))

pub returns-then-below-clause-read : goal.returns-then-below-clause-read
returns-then-below-clause-read g c = reads-join (Ok tt) c.loop-place.invariant.read (read-ok tt c.in_ok-verdict.ensures.read)

pub returns-else-below-clause-read : goal.returns-else-below-clause-read
returns-else-below-clause-read g c = reads-join (Ok tt) c.loop-place.invariant.read (read-ok tt c.in_ok-verdict.ensures.read)

-- where the address is not 0, the parent's own is on the path so far
any_so_far : (parent : ℕ) (any : Bool) → 0 < parent → (parent == 0 || any) ≡ any
any_so_far parent any some = ap (λ b. b || any) (ne_eqb parent 0 (λ (z : parent ≡ 0). omega arith))

pub returns-then-below-clause-value : goal.returns-then-below-clause-value
returns-then-below-clause-value g c f n end sound leads =
    let d = c.args.dbd.now in
    let m = links_of d.types c.args.volume.now in
    let test = g.J.Judge.test c.args.judge.now d.types (rows_of f) in
    let admits = g.J.Judge.admits c.args.judge.now d.types (rows_of f) in
    let G = grounds d c.args.volume.now f (c.requires.of sound) leads.holds in
    let path : List ℕ = c.args.path.now in
    let place : ℕ = c.loop-place.place in
    let S = turned path c.copy-whole.result c.addresses-addresses.result.now c.loop-place.above c.push.new.self place c.saturating_sub-place-end.result c.copy-whole.ensures
    c.addresses-addresses.ensures.value c.addresses-addresses.ensures.few c.saturating_sub-place-end.ensures c.loop-place-test.true c.loop-place.invariant.above c.push.ensures in
    let F = above_found d.types m f G.addressed c.args.parent end n path leads place S.0 in
    let on = subst (λ (xs : List ℕ). IsOnRow d.types m f xs F.0) (sym S.1) (is_row d.types m f G.addressed c.args.parent end n path leads place F.0 S.0 F.1 leads.holds) in
    let at : IsPathOf d c.args.volume.now f c.push.new.self F.0 = record { sound = sound; row = on } in
    let all = c.loop-place.invariant.admitted f n end sound leads F.1.inside in
    let up = above_by test admits d.types f c.args.parent end n leads.ends place F.0 on.within F.1.row.is (short_path d.types m f G.addressed c.args.parent end n path leads place F.0 S.0 F.1) all in
    let J = c.in_ok-verdict.ensures.value f F.0 (told_before d c.args.volume.now c.loop-place.volume c.loop-place.invariant.read f c.push.new.self F.0 at) up in
    begins_above test admits d.types f c.args.parent end n leads.ends F.0 c.push.new.self F.1.row.before F.1.inside F.1.row.spans (J.span (sym c.goes_below.ensures ∙ c.if-not-goes_below.true)) up
    (λ some q at w spans. named_above d.types m f G.addressed c.args.parent end n path leads place F.0 S.0 F.1
    (sym (any_so_far c.args.parent (list_any (λ a. a == c.args.parent) (take place path)) some) ∙ sym c.loop-place.invariant.below ∙ c.if-below.true) q at w)
    (S.1 ∙ F.1.is)

-- what is not below a row has a row to be below, which is not named so far
unnamed : (parent : ℕ) (any below : Bool) → below ≡ (parent == 0 || any) → below ≡ false → (0 < parent) × (any ≡ false)
unnamed parent any below is none = elim (cases_lt 0 parent) [
  | inl some ↦ (some, sym (any_so_far parent any some) ∙ sym is ∙ none)
  | inr low ↦ absurd (false≢true (sym none ∙ is ∙ ap (λ b. b || any) (eq-eqb parent 0 (let z : parent ≡ 0 = omega arith in z))))
]

pub returns-else-below-clause-value : goal.returns-else-below-clause-value
returns-else-below-clause-value g c f n end sound leads =
    let d = c.args.dbd.now in
    let m = links_of d.types c.args.volume.now in
    let test = g.J.Judge.test c.args.judge.now d.types (rows_of f) in
    let admits = g.J.Judge.admits c.args.judge.now d.types (rows_of f) in
    let G = grounds d c.args.volume.now f (c.requires.of sound) leads.holds in
    let path : List ℕ = c.args.path.now in
    let place : ℕ = c.loop-place.place in
    let S = turned path c.copy-whole.result c.addresses-addresses.result.now c.loop-place.above c.push.new.self place c.saturating_sub-place-end.result c.copy-whole.ensures
    c.addresses-addresses.ensures.value c.addresses-addresses.ensures.few c.saturating_sub-place-end.ensures c.loop-place-test.true c.loop-place.invariant.above c.push.ensures in
    let F = above_found d.types m f G.addressed c.args.parent end n path leads place S.0 in
    let on = subst (λ (xs : List ℕ). IsOnRow d.types m f xs F.0) (sym S.1) (is_row d.types m f G.addressed c.args.parent end n path leads place F.0 S.0 F.1 leads.holds) in
    let at : IsPathOf d c.args.volume.now f c.push.new.self F.0 = record { sound = sound; row = on } in
    let all = c.loop-place.invariant.admitted f n end sound leads F.1.inside in
    let up = above_by test admits d.types f c.args.parent end n leads.ends place F.0 on.within F.1.row.is (short_path d.types m f G.addressed c.args.parent end n path leads place F.0 S.0 F.1) all in
    let J = c.in_ok-verdict.ensures.value f F.0 (told_before d c.args.volume.now c.loop-place.volume c.loop-place.invariant.read f c.push.new.self F.0 at) up in
    let U = unnamed c.args.parent (list_any (λ a. a == c.args.parent) (take place path)) c.loop-place.below c.loop-place.invariant.below c.if-below.false in
    let Q = leads.ends.under U.0 in
    let q : Q.0 < n = Q.1 in
    let stop : end ≡ end_of d.types (rows_of f) Q.0 = Q.4 in
    let inside : n < end = F.1.inside in
    let spans : n < end_of d.types (rows_of f) F.0 = F.1.row.spans in
    let low : F.0 ≤ Q.0 = unnamed_above d.types m f G.addressed c.args.parent end n path leads place F.0 S.0 F.1 U.1 Q.0 Q.3 q (omega arith) in
    let past : end_of d.types (rows_of f) Q.0 ≤ end_of d.types (rows_of f) F.0 = nested d.types (rows_of f) F.0 Q.0 low Q.2 (omega arith) in
    let before : F.0 < n = F.1.row.before in
    subst (MayBeginAt test admits d.types f c.args.parent end n) (sym c.clear.ensures)
    (begins_nowhere test admits d.types f c.args.parent end n leads.ends F.0 inside (omega arith) (J.span (sym c.goes_below.ensures ∙ c.if-not-goes_below.true)) (omega arith))

-- whether the address is among those of a path one row longer
any_more : (parent : ℕ) (path : List ℕ) (place : ℕ) → place < length path → (below : Bool) → below ≡ (parent == 0 || list_any (λ a. a == parent) (take place path))
    → (below || slice_index_or path place 0 == parent) ≡ (parent == 0 || list_any (λ a. a == parent) (take (place + 1) path))
any_more parent path place inside below is =
    ap (λ b. b || slice_index_or path place 0 == parent) is
    ∙ regroup (parent == 0) (list_any (λ a. a == parent) (take place path)) (slice_index_or path place 0 == parent)
    ∙ ap (λ b. parent == 0 || b)
    (ap (λ b. list_any (λ a. a == parent) (take place path) || b) (sym (or_false (slice_index_or path place 0 == parent)))
    ∙ sym (list_any-append (λ a. a == parent) (take place path) (slice_index_or path place 0 ∷ []))
    ∙ ap (list_any (λ a. a == parent)) (sym (take_at_read path place 0 inside).1))
  where
    regroup : (x y z : Bool) → ((x || y) || z) ≡ (x || (y || z))
    regroup true y z = refl
    regroup false y z = refl

pub loop-place-preserved : goal.loop-place-preserved
loop-place-preserved g c = record {
  read = reads-join (Ok 0) c.loop-place.invariant.read (read-ok 0 c.in_ok-verdict.ensures.read);
  still = c.loop-place.invariant.still;
  above = (turned c.args.path.now c.copy-whole.result c.addresses-addresses.result.now c.loop-place.above c.push.new.self c.loop-place.place c.saturating_sub-place-end.result c.copy-whole.ensures
      c.addresses-addresses.ensures.value c.addresses-addresses.ensures.few c.saturating_sub-place-end.ensures c.loop-place-test.true c.loop-place.invariant.above c.push.ensures).1;
  below =
      let S = turned c.args.path.now c.copy-whole.result c.addresses-addresses.result.now c.loop-place.above c.push.new.self c.loop-place.place c.saturating_sub-place-end.result c.copy-whole.ensures
      c.addresses-addresses.ensures.value c.addresses-addresses.ensures.few c.saturating_sub-place-end.ensures c.loop-place-test.true c.loop-place.invariant.above c.push.ensures in
      let short : c.loop-place.place < length c.args.path.now - 1 = S.0 in
      ap (λ (xs : List ℕ). c.loop-place.below || slice_index_or xs c.loop-place.place 0 == c.args.parent) (c.addresses-addresses.ensures.value ∙ c.copy-whole.ensures)
      ∙ any_more c.args.parent c.args.path.now c.loop-place.place (omega arith) c.loop-place.below c.loop-place.invariant.below;
  admitted = λ f n end sound leads inside.
      let d = c.args.dbd.now in
      let m = links_of d.types c.args.volume.now in
      let test = g.J.Judge.test c.args.judge.now d.types (rows_of f) in
      let admits = g.J.Judge.admits c.args.judge.now d.types (rows_of f) in
      let G = grounds d c.args.volume.now f (c.requires.of sound) leads.holds in
      let path : List ℕ = c.args.path.now in
      let place : ℕ = c.loop-place.place in
      let S = turned path c.copy-whole.result c.addresses-addresses.result.now c.loop-place.above c.push.new.self place c.saturating_sub-place-end.result c.copy-whole.ensures
      c.addresses-addresses.ensures.value c.addresses-addresses.ensures.few c.saturating_sub-place-end.ensures c.loop-place-test.true c.loop-place.invariant.above c.push.ensures in
      let F = above_found d.types m f G.addressed c.args.parent end n path leads place S.0 in
      let on = subst (λ (xs : List ℕ). IsOnRow d.types m f xs F.0) (sym S.1) (is_row d.types m f G.addressed c.args.parent end n path leads place F.0 S.0 F.1 leads.holds) in
      let at : IsPathOf d c.args.volume.now f c.push.new.self F.0 = record { sound = sound; row = on } in
      let all = c.loop-place.invariant.admitted f n end sound leads F.1.inside in
      let up = above_by test admits d.types f c.args.parent end n leads.ends place F.0 on.within F.1.row.is (short_path d.types m f G.addressed c.args.parent end n path leads place F.0 S.0 F.1) all in
      let J = c.in_ok-verdict.ensures.value f F.0 (told_before d c.args.volume.now c.loop-place.volume c.loop-place.invariant.read f c.push.new.self F.0 at) up in
      all_above d.types m f G.addressed c.args.parent end n path leads place F.0 S.0 F.1 admits all (J.admitted (sym c.goes_below.ensures ∙ c.if-not-goes_below.false));
}

pub returns-clause-value : goal.returns-clause-value
returns-clause-value g c f n end sound leads =
    let d = c.args.dbd.now in
    let m = links_of d.types c.args.volume.now in
    let test = g.J.Judge.test c.args.judge.now d.types (rows_of f) in
    let admits = g.J.Judge.admits c.args.judge.now d.types (rows_of f) in
    let path : List ℕ = c.args.path.now in
    let last : c.saturating_sub-place-end.result ≡ length path - 1
    = c.saturating_sub-place-end.ensures ∙ ap (λ (xs : List ℕ). length xs - 1) (c.addresses-addresses.ensures.value ∙ c.copy-whole.ensures) in
    let least : c.loop-place.place ≤ c.saturating_sub-place-end.result = c.loop-place.auto.place-end in
    let most : c.saturating_sub-place-end.result ≤ c.loop-place.place = omega (arith, c.loop-place-test.false) in
    begins_here test admits d.types f c.args.parent end n leads.ends c.loop-place.path (c.loop-place.invariant.still ∙ leads.is)
    (λ inside. all_admitted test admits d.types m f c.args.parent end n path leads inside c.loop-place.place (omega arith) (c.loop-place.invariant.admitted f n end sound leads inside))
