-- Where the freeing of a span begins, and how long it takes.
use Rattle.std.proofs.Common.{◌≡◌, ◌≢◌, ℕ, zero, suc, ◌+◌, ◌*◌, ◌<◌, ◌≤◌, List, [], ◌∷◌, length, Bool, true, false, ◌&&◌, ◌||◌, cond, Option, refl, sym, ap, ◌∙◌, arith, inl, inr}
use Rattle.std.specs.Prelude.{◌==◌, nat_lt}
use Rattle.std.proofs.lemmas.Bool.{cases_eq, cases_lt, cond-true, cond-false, ne_eqb, lt-ltb, le-ltb}
use Rattle.std.proofs.lemmas.List.{length-append}
use Rattle.hd_dbd.specs.Types.{SegmentType}
use Rattle.hd_dbd.specs.Rows.{row_fits}
use Rattle.hd_dbd.specs.Hierarchy.{level_of, parent_of}
use Rattle.hd_dbd.specs.Forest.{Forest, empty, node}
use Rattle.hd_dbd.proofs.LevelLaw.{Leveled, depth_below}
use Rattle.hd_links.specs.Links.{Links, IsLinkGraph}
use Rattle.hd_links.specs.Placed.{Placed, count, nowhere, NodesLie}
use Rattle.hd_links.specs.Changes.{AgreeAt, Agree}
use Rattle.hd_links.proofs.Types.{Ordered, above_some, code_some}
use Rattle.hd_links.proofs.Counts.{is_at, one_at, none_at}
use Rattle.hd_links.proofs.Ways.{head_of}
use Rattle.hd_forest.specs.Spans.{below_on, Freeing}
use Rattle.hd_forest.proofs.Frames.{Frame, path_of, left_of, size_of, RowStands, Stand, row-stands, stand-down}
use Rattle.hd_forest.proofs.FreeSteps.{cut, agree-here, below-read}
use Rattle.hd_forest.proofs.FreeSpans.{InSpan}

-- the row of a span, and all below it
abbrev pub span_of : ℕ → Forest Placed → ℕ → ℕ
span_of a under b = is_at a b + count b under

-- ---- the start

-- what is in the span is left, or out of it
kept : (x y : Bool) (n : ℕ) → y ≡ (n == 0 || nat_lt 0 n) → (x && y) ≡ x
kept x y n e = (let one : (n == 0 || nat_lt 0 n) ≡ true = some n in both x y (e ∙ one))
  where
    some : (i : ℕ) → (i == 0 || nat_lt 0 i) ≡ true
    some zero = refl
    some (suc i) = ap (λ (x : Bool). x || nat_lt 0 (suc i)) (ne_eqb (suc i) 0 (λ (z : suc i ≡ 0). omega arith)) ∙ lt-ltb 0 (suc i) (omega arith)

    both : (u v : Bool) → v ≡ true → (u && v) ≡ u
    both true v e = e
    both false v e = refl

-- at first the path is the row of the span, and all is left
pub at-start : (types : List SegmentType) (m : Links) (p : Placed) (under : Forest Placed) → RowStands types m p under
    → InSpan types m (span_of p.address under) (2 * size_of under + 1) (record { path = p.address ∷ []; down = true; records = m })
at-start types m p under R =
    let f : Frame = record { row = p; under = under; behind = empty } in
    let all = λ (b : ℕ). (let e : left_of true (f ∷ []) b ≡ span_of p.address under b = omega arith in e) in
    record {
      frames = f ∷ [];
      stand = (R, refl);
      path = refl;
      few = omega arith;
      within = λ b. (let e = all b in omega arith);
      records = λ b. agree-here types m m m.here (cut m (span_of p.address under) (left_of true (f ∷ []))).here m.here b (same-at b)
          (kept (m.here b) (span_of p.address under b == 0 || nat_lt 0 (left_of true (f ∷ []) b)) (span_of p.address under b)
          (ap (λ (x : ℕ). span_of p.address under b == 0 || nat_lt 0 x) (all b))) refl;
    }
  where
    same-at : (b : ℕ) → AgreeAt types m m b
    same-at b = record { here = refl; code = λ t. refl; bytes = λ s. refl; delete_byte = λ s. refl; forward = λ s. refl; backward = λ s t. refl; first_child = λ t x y. refl; last_child = λ t x y z. refl }

-- ---- how many nodes there are

-- the nodes with an address below a bound
abbrev pub total_below : Forest Placed → ℕ → ℕ
total_below f zero = 0
total_below f (suc n) = total_below f n + count n f

-- below a bound are no more nodes than addresses
few-below : (f : Forest Placed) → ((b : ℕ) → count b f ≤ 1) → (n : ℕ) → total_below f n ≤ n
few-below f once zero = omega arith
few-below f once (suc n) = (let i = few-below f once n in let o = once n in omega arith)

-- no node stands below a bound
none-below : (n : ℕ) → total_below empty n ≡ 0
none-below zero = refl
none-below (suc n) = (let i = none-below n in omega arith)

-- a node stands below a bound, or it does not
one-below : (p : Placed) (k n : Forest Placed) (i : ℕ) → total_below (node p k n) i ≡ cond {A = ℕ} (nat_lt p.address i) 1 0 + (total_below k i + total_below n i)
one-below p k n zero = (let no : cond {A = ℕ} (nat_lt p.address 0) 1 0 ≡ 0 = cond-false (nat_lt p.address 0) 1 0 (le-ltb p.address 0 (omega arith)) in omega arith)
one-below p k n (suc i) =
    let before = one-below p k n i in
    let more : cond {A = ℕ} (nat_lt p.address (suc i)) 1 0 ≡ cond {A = ℕ} (nat_lt p.address i) 1 0 + is_at p.address i = at-next p.address i in
    omega arith
  where
    at-next : (a j : ℕ) → cond {A = ℕ} (nat_lt a (suc j)) 1 0 ≡ cond {A = ℕ} (nat_lt a j) 1 0 + is_at a j
    at-next a j = elim (cases_eq a j) [
      | inl e ↦
          (let here : is_at a j ≡ 1 = one_at a j e in
          let last : cond {A = ℕ} (nat_lt a (suc j)) 1 0 ≡ 1 = cond-true (nat_lt a (suc j)) 1 0 (lt-ltb a (suc j) (omega arith)) in
          let none : cond {A = ℕ} (nat_lt a j) 1 0 ≡ 0 = cond-false (nat_lt a j) 1 0 (le-ltb a j (omega arith)) in omega arith)
      | inr ne ↦ (let here : is_at a j ≡ 0 = none_at a j ne in elim (cases_lt a j) [
        | inl l ↦
            (let last : cond {A = ℕ} (nat_lt a (suc j)) 1 0 ≡ 1 = cond-true (nat_lt a (suc j)) 1 0 (lt-ltb a (suc j) (omega arith)) in
            let some : cond {A = ℕ} (nat_lt a j) 1 0 ≡ 1 = cond-true (nat_lt a j) 1 0 (lt-ltb a j l) in omega arith)
        | inr l ↦
            (let beyond : suc j ≤ a = elim (cases_lt j a) [ inl q ↦ omega arith | inr q ↦ absurd (ne (let z : a ≡ j = omega arith in z)) ] in
            let last : cond {A = ℕ} (nat_lt a (suc j)) 1 0 ≡ 0 = cond-false (nat_lt a (suc j)) 1 0 (le-ltb a (suc j) beyond) in
            let none : cond {A = ℕ} (nat_lt a j) 1 0 ≡ 0 = cond-false (nat_lt a j) 1 0 (le-ltb a j l) in omega arith)
      ])
    ]

-- all nodes stand below the bound of the addresses
pub size-below : (types : List SegmentType) (m : Links) (bound : ℕ) (G : IsLinkGraph types bound m) (b : ℕ → ℕ) (f : Forest Placed) → NodesLie types m b f → size_of f ≡ total_below f bound
size-below types m bound G b empty s = sym (none-below bound)
size-below types m bound G b (node p k n) s =
    let ik = size-below types m bound G nowhere k s.1 in
    let in2 = size-below types m bound G _ n s.2 in
    let low : p.address < bound = G.below p.address s.0.there in
    let one : cond {A = ℕ} (nat_lt p.address bound) 1 0 ≡ 1 = cond-true (nat_lt p.address bound) 1 0 (lt-ltb p.address bound low) in
    let all = one-below p k n bound in
    omega arith

-- the steps that a span may take are no more than twice the bound of its addresses
pub steps-within : (types : List SegmentType) (m : Links) (bound : ℕ) (G : IsLinkGraph types bound m) (p : Placed) (under : Forest Placed) → RowStands types m p under
    → ((b : ℕ) → span_of p.address under b ≤ 1) → 2 * size_of under + 1 ≤ bound * 2
steps-within types m bound G p under R once =
    let size = size-below types m bound G nowhere under R.nodes in
    let low : p.address < bound = G.below p.address R.there in
    let few : total_below (node p under empty) bound ≤ bound = few-below (node p under empty) (λ b. (let o = once b in let c : count b (node p under empty) ≡ span_of p.address under b = omega arith in omega arith)) bound in
    let all = one-below p under empty bound in
    let none = none-below bound in
    let one : cond {A = ℕ} (nat_lt p.address bound) 1 0 ≡ 1 = cond-true (nat_lt p.address bound) 1 0 (lt-ltb p.address bound low) in
    omega arith

-- ---- how deep the path is

module _ (types : List SegmentType) (O : Ordered types) (leveled : Leveled types) (bound : ℕ) (m : Links) (G : IsLinkGraph types bound m) where
  -- a row that stands fits
  row-fits : (p : Placed) (under : Forest Placed) → RowStands types m p under → row_fits types p.segment ≡ true
  row-fits p under R = ap (row_fits types) (λ i. record { code = sym R.code i; bytes = sym R.bytes i }) ∙ G.fits p.address R.there

  -- there are no more rows on the path than its last one's level
  deep : (f : Frame) (fs : List Frame) → Stand types m (f ∷ fs) → length (path_of (f ∷ fs)) ≤ level_of types f.row.segment.code
  deep f [] s = (let l : level_of types f.row.segment.code ≡ depth_below types (parent_of types f.row.segment.code) + 1 = leveled.law f.row.segment (row-fits f.row f.under s.0) in omega arith)
  deep f (q ∷ fs) s =
      let own = row-fits q.row q.under (row-stands types O m q fs s.1) in
      let fits = row-fits f.row f.under (row-stands types O m f (q ∷ fs) s) in
      let above-own = deep q fs s.1 in
      let some : 0 < q.row.segment.code = code_some types q.row.segment own in
      let l : level_of types f.row.segment.code ≡ level_of types q.row.segment.code + 1 =
      leveled.law f.row.segment fits ∙ ap (λ (o : Option ℕ). depth_below types o + 1) (O.parent q.row.segment.code f.row.segment fits s.0.formed.0 ∙ above_some q.row.segment.code some) in
      let long : length (path_of (f ∷ (q ∷ fs))) ≡ length (path_of (q ∷ fs)) + length (f.row.address ∷ []) = length-append (path_of (q ∷ fs)) (f.row.address ∷ []) in
      omega arith

  -- where a row stands below the last one, there is room for it on the path
  pub room : ((c : ℕ) → level_of types c ≤ 15) → (span : ℕ → ℕ) (n : ℕ) (s : Freeing) → InSpan types m span n s → s.down ≡ true → s.path ≢ [] → 0 < below_on types s.records s.path → length s.path < 15
  room most span n s I down some more = by I.frames I.stand I.path I.records
    where
      by : (frames : List Frame) → Stand types m frames → s.path ≡ path_of frames → Agree types (cut m span (left_of s.down frames)) s.records → length s.path < 15
      by [] stand path A = absurd (some path)
      by (f ∷ fs) stand path A = go f.under refl
        where
          read : below_on types s.records s.path ≡ head_of f.under
          read = ap (below_on types s.records) path ∙ below-read types O m s.records span s.down f fs stand A

          go : (x : Forest Placed) → f.under ≡ x → length s.path < 15
          go empty e = absurd (let z : below_on types s.records s.path ≡ 0 = read ∙ ap head_of e in omega arith)
          go (node r under behind) e =
              let frames : List Frame = record { row = r; under = under; behind = behind } ∷ (f ∷ fs) in
              let low = deep (record { row = r; under = under; behind = behind }) (f ∷ fs) (stand-down types O m f fs r under behind stand e) in
              let top = most r.segment.code in
              let long : length (path_of frames) ≡ length (path_of (f ∷ fs)) + length (r.address ∷ []) = length-append (path_of (f ∷ fs)) (r.address ∷ []) in
              let same : length s.path ≡ length (path_of (f ∷ fs)) = ap length path in
              omega arith
