-- A span on its way to be freed.
use Rattle.std.proofs.Common.{◌≡◌, ◌≢◌, ℕ, suc, ◌+◌, ◌-◌, ◌<◌, ◌≤◌, List, [], ◌∷◌, ◌++◌, length, take, Bool, true, false, not, ◌&&◌, cond, refl, sym, ap, subst, ◌∙◌, arith, inl, inr}
use Rattle.std.specs.Prelude.{◌==◌}
use Rattle.std.proofs.lemmas.Bool.{cases_Bool, cond-true, cond-false, eq-eqb, ne_eqb, and_parts, false≢true}
use Rattle.std.proofs.lemmas.List.{append-nil}
use Rattle.hd_dbd.specs.Types.{SegmentType}
use Rattle.hd_dbd.specs.Forest.{Forest, empty, node}
use Rattle.hd_links.specs.Links.{Links}
use Rattle.hd_links.specs.Placed.{Placed, count}
use Rattle.hd_links.specs.Changes.{AgreeAt, Agree}
use Rattle.hd_links.proofs.Types.{Ordered}
use Rattle.hd_links.proofs.Counts.{is_at}
use Rattle.hd_links.proofs.Ways.{head_of, tip_end}
use Rattle.hd_image.specs.Pointing.{without_record}
use Rattle.hd_forest.specs.Walks.{tip, AreSegments}
use Rattle.hd_forest.proofs.Climbs.{are-append}
use Rattle.hd_forest.specs.Spans.{below_on, beside_on, extended, Freeing, freed_on}
use Rattle.hd_forest.proofs.Frames.{Frame, path_of, left_of, size_of, steps_of, Stand, row-stands, stand-tail, stand-down, stand-beside}
use Rattle.hd_forest.proofs.FreeSteps.{cut, seen, cut-one, cut-same, front-of, some-first, below-read, beside-read}

-- The path leads into a span of the records m, whose segments the table counts: what is left of it is what the frames of the
-- path leave, in at most so many steps.
pub record InSpan (types : List SegmentType) (m : Links) (span : ℕ → ℕ) (steps : ℕ) (s : Freeing) : Type 0 where
  pub frames : List Frame
  pub stand : Stand types m frames
  pub path : s.path ≡ path_of frames
  pub few : steps_of s.down frames ≤ steps
  pub within : (b : ℕ) → left_of s.down frames b ≤ span b
  pub records : Agree types (cut m span (left_of s.down frames)) s.records

module _ (types : List SegmentType) (O : Ordered types) (m : Links) (span : ℕ → ℕ) (once : (b : ℕ) → span b ≤ 1) where
  -- ---- the way down

  -- a row goes on the path
  extended-some : (path : List ℕ) (a : ℕ) → 0 < a → extended path a ≡ path ++ a ∷ []
  extended-some path a some = ap (λ (x : List ℕ). path ++ x) (cond-false (a == 0) [] (a ∷ []) (ne_eqb a 0 (λ (e : a ≡ 0). omega arith)))

  -- no row leaves the path as it is
  extended-none : (path : List ℕ) (a : ℕ) → a ≡ 0 → extended path a ≡ path
  extended-none path a none = ap (λ (x : List ℕ). path ++ x) (cond-true (a == 0) [] (a ∷ []) (eq-eqb a 0 none)) ∙ append-nil path

  -- the first row below goes on the path
  go-down : (n : ℕ) (k : Links) (f : Frame) (fs : List Frame) (x : Forest Placed) → f.under ≡ x → Stand types m (f ∷ fs) → steps_of true (f ∷ fs) ≤ suc n
      → ((b : ℕ) → left_of true (f ∷ fs) b ≤ span b) → Agree types (cut m span (left_of true (f ∷ fs))) k → below_on types k (path_of (f ∷ fs)) ≢ 0
      → InSpan types m span n (record { path = extended (path_of (f ∷ fs)) (below_on types k (path_of (f ∷ fs))); down = true; records = k })
  go-down n k f fs empty e s few within A ne = absurd (ne (below-read types O m k span true f fs s A ∙ ap head_of e))
  go-down n k f fs (node r under behind) e s few within A ne =
      let at : below_on types k (path_of (f ∷ fs)) ≡ r.address = below-read types O m k span true f fs s A ∙ ap head_of e in
      let frames : List Frame = record { row = r; under = under; behind = behind } ∷ (f ∷ fs) in
      let down = stand-down types O m f fs r under behind s e in
      let some : 0 < r.address = (row-stands types O m (record { row = r; under = under; behind = behind }) (f ∷ fs) down).there.some in
      let same = λ (b : ℕ). (let c : count b f.under ≡ is_at r.address b + (count b under + count b behind) = ap (count b) e in
      let q : left_of true frames b ≡ left_of true (f ∷ fs) b = omega arith in q) in
      let size : size_of f.under ≡ 1 + (size_of under + size_of behind) = ap size_of e in
      record {
        frames = frames;
        stand = down;
        path = ap (extended (path_of (f ∷ fs))) at ∙ extended-some (path_of (f ∷ fs)) r.address some;
        few = omega arith;
        within = λ b. (let q = same b in let w = within b in omega arith);
        records = cut-same types m k span (left_of true (f ∷ fs)) (left_of true frames) same A;
      }

  -- ---- one is freed

  -- the last row leaves, and what is beside it comes on the path
  free-last : (n : ℕ) (k : Links) (down : Bool) (f : Frame) (fs : List Frame) (x : Forest Placed) → f.behind ≡ x → Stand types m (f ∷ fs) → steps_of down (f ∷ fs) ≤ suc n
      → ((b : ℕ) → left_of down (f ∷ fs) b ≤ span b) → Agree types (cut m span (left_of down (f ∷ fs))) k → ((b : ℕ) → cond down (count b f.under) 0 ≡ 0)
      → InSpan types m span n (record {
        path = extended (take (length (path_of (f ∷ fs)) - 1) (path_of (f ∷ fs))) (beside_on types k (path_of (f ∷ fs)));
        down = not (beside_on types k (path_of (f ∷ fs)) == 0);
        records = without_record k (tip (path_of (f ∷ fs)));
      })
  free-last n k down f fs empty e s few within A bare =
      let at : beside_on types k (path_of (f ∷ fs)) ≡ 0 = beside-read types O m k span down f fs s A ∙ ap head_of e in
      let one = λ (b : ℕ). (let c : count b f.behind ≡ 0 = ap (count b) e in let z : cond down (count b f.under) 0 ≡ 0 = bare b in
      let q : left_of down (f ∷ fs) b ≡ is_at f.row.address b + left_of false fs b = omega arith in q) in
      let size : size_of f.behind ≡ 0 = ap size_of e in
      let no : not (beside_on types k (path_of (f ∷ fs)) == 0) ≡ false = ap not (eq-eqb (beside_on types k (path_of (f ∷ fs))) 0 at) in
      let last : tip (path_of (f ∷ fs)) ≡ f.row.address = tip_end 0 (path_of fs) f.row.address in
      record {
        frames = fs;
        stand = stand-tail types O m f fs s;
        path = extended-none (take (length (path_of (f ∷ fs)) - 1) (path_of (f ∷ fs))) (beside_on types k (path_of (f ∷ fs))) at ∙ front-of (path_of fs) f.row.address;
        few = subst (λ (d : Bool). steps_of d fs ≤ n) (sym no) (omega arith);
        within = λ b. subst (λ (d : Bool). left_of d fs b ≤ span b) (sym no) (let q = one b in let w = within b in omega arith);
        records = subst (λ (d : Bool). Agree types (cut m span (left_of d fs)) (without_record k (tip (path_of (f ∷ fs))))) (sym no)
            (subst (λ x. Agree types (cut m span (left_of false fs)) (without_record k x)) (sym last)
            (cut-one types m k span (left_of down (f ∷ fs)) (left_of false fs) f.row.address once within one A));
      }
  free-last n k down f [] (node r under behind) e s few within A bare = absurd (let none : f.behind ≡ empty = s.1 in empty-node r under behind (sym none ∙ e))
    where
      empty-node : (p : Placed) (x y : Forest Placed) → empty ≡ node p x y → ⊥
      empty-node p x y e = cc
  free-last n k down f (q ∷ fs) (node r under behind) e s few within A bare =
      let at : beside_on types k (path_of (f ∷ (q ∷ fs))) ≡ r.address = beside-read types O m k span down f (q ∷ fs) s A ∙ ap head_of e in
      let frames : List Frame = record { row = r; under = under; behind = behind } ∷ (q ∷ fs) in
      let stand = stand-beside types O m f q fs r under behind s e in
      let some : 0 < r.address = (row-stands types O m (record { row = r; under = under; behind = behind }) (q ∷ fs) stand).there.some in
      let one = λ (b : ℕ). (let c : count b f.behind ≡ is_at r.address b + (count b under + count b behind) = ap (count b) e in let z : cond down (count b f.under) 0 ≡ 0 = bare b in
      let u : left_of down (f ∷ (q ∷ fs)) b ≡ is_at f.row.address b + left_of true frames b = omega arith in u) in
      let size : size_of f.behind ≡ 1 + (size_of under + size_of behind) = ap size_of e in
      let yes : not (beside_on types k (path_of (f ∷ (q ∷ fs))) == 0) ≡ true = ap not (ne_eqb (beside_on types k (path_of (f ∷ (q ∷ fs)))) 0 (λ z. (let w : r.address ≡ 0 = sym at ∙ z in omega arith))) in
      let last : tip (path_of (f ∷ (q ∷ fs))) ≡ f.row.address = tip_end 0 (path_of (q ∷ fs)) f.row.address in
      let path : List ℕ = path_of (f ∷ (q ∷ fs)) in
      record {
        frames = frames;
        stand = stand;
        path = ap (extended (take (length path - 1) path)) at ∙ extended-some (take (length path - 1) path) r.address some
            ∙ ap (λ (x : List ℕ). x ++ r.address ∷ []) (front-of (path_of (q ∷ fs)) f.row.address);
        few = subst (λ (d : Bool). steps_of d frames ≤ n) (sym yes) (omega arith);
        within = λ b. subst (λ (d : Bool). left_of d frames b ≤ span b) (sym yes) (let u = one b in let w = within b in omega arith);
        records = subst (λ (d : Bool). Agree types (cut m span (left_of d frames)) (without_record k (tip path))) (sym yes)
            (subst (λ x. Agree types (cut m span (left_of true frames)) (without_record k x)) (sym last)
            (cut-one types m k span (left_of down (f ∷ (q ∷ fs))) (left_of true frames) f.row.address once within one A));
      }

  -- ---- the step

  -- where the step does not go down, nothing is below
  no-under : (down : Bool) (k : Links) (f : Frame) (fs : List Frame) → Stand types m (f ∷ fs) → Agree types (cut m span (left_of down (f ∷ fs))) k
      → (down && not (below_on types k (path_of (f ∷ fs)) == 0)) ≡ false → (b : ℕ) → cond down (count b f.under) 0 ≡ 0
  no-under false k f fs s A e b = refl
  no-under true k f fs s A e b = by f.under refl
    where
      by : (x : Forest Placed) → f.under ≡ x → count b f.under ≡ 0
      by empty is = ap (count b) is
      by (node r under behind) is =
          let at : below_on types k (path_of (f ∷ fs)) ≡ r.address = below-read types O m k span true f fs s A ∙ ap head_of is in
          let some : 0 < r.address = (row-stands types O m (record { row = r; under = under; behind = behind }) (f ∷ fs) (stand-down types O m f fs r under behind s is)).there.some in
          let yes : not (below_on types k (path_of (f ∷ fs)) == 0) ≡ true = ap not (ne_eqb (below_on types k (path_of (f ∷ fs))) 0 (λ z. (let w : r.address ≡ 0 = sym at ∙ z in omega arith))) in
          absurd (false≢true (sym e ∙ yes))

  -- in the span the next step leaves as much, but for what it frees
  pub step : (n : ℕ) (s : Freeing) → InSpan types m span (suc n) s → s.path ≢ [] → InSpan types m span n (freed_on types s)
  step n s I some = by I.frames I.stand I.path I.few I.within I.records
    where
      by : (frames : List Frame) → Stand types m frames → s.path ≡ path_of frames → steps_of s.down frames ≤ suc n → ((b : ℕ) → left_of s.down frames b ≤ span b)
          → Agree types (cut m span (left_of s.down frames)) s.records → InSpan types m span n (freed_on types s)
      by [] stand path few within A = absurd (some path)
      by (f ∷ fs) stand path few within A =
          let k : Links = s.records in
          let p : List ℕ = path_of (f ∷ fs) in
          let test : Bool = s.down && not (below_on types k p == 0) in
          let down : Freeing = record { path = extended p (below_on types k p); down = s.down; records = k } in
          let freed : Freeing = record { path = extended (take (length p - 1) p) (beside_on types k p); down = not (beside_on types k p == 0); records = without_record k (tip p) } in
          subst (λ (x : List ℕ). InSpan types m span n (freed_on types (record s { path = x }))) (sym path) (elim (cases_Bool test) [
            | inl holds ↦
                (let both = and_parts s.down (not (below_on types k p == 0)) holds in
                let ne : below_on types k p ≢ 0 = λ z. false≢true (sym (ap not (eq-eqb (below_on types k p) 0 z)) ∙ both.1) in
                let few-now = subst (λ (d : Bool). steps_of d (f ∷ fs) ≤ suc n) both.0 few in
                let within-now = subst (λ (d : Bool). (b : ℕ) → left_of d (f ∷ fs) b ≤ span b) both.0 within in
                let A-now = subst (λ (d : Bool). Agree types (cut m span (left_of d (f ∷ fs))) k) both.0 A in
                subst (InSpan types m span n) (sym (cond-true test down freed holds))
                (subst (λ (d : Bool). InSpan types m span n (record { path = extended p (below_on types k p); down = d; records = k })) (sym both.0)
                (go-down n k f fs f.under refl stand few-now within-now A-now ne)))
            | inr fails ↦ subst (InSpan types m span n) (sym (cond-false test down freed fails))
                (free-last n k s.down f fs f.behind refl stand few within A (no-under s.down k f fs stand A fails))
          ])

  -- ---- the rows on the path are left

  -- the rows on the path are segments that are left
  are-left : (k : Links) (down : Bool) (fs : List Frame) → Stand types m fs → ((b : ℕ) → 0 < left_of down fs b → AgreeAt types m k b) → AreSegments k (path_of fs)
  are-left k down [] s A = tt
  are-left k down (f ∷ fs) s A =
      let R = row-stands types O m f fs s in
      are-append k (path_of fs) f.row.address
      (are-left k false fs (stand-tail types O m f fs s) (λ b l. A b (let x : 0 < left_of false fs b = l in omega arith)))
      (record { some = R.there.some; here = (A f.row.address (some-first f fs down)).here ∙ R.there.here })

  -- the path is one of segments
  pub on-segments : (n : ℕ) (s : Freeing) → InSpan types m span n s → AreSegments s.records s.path
  on-segments n s I = subst (AreSegments s.records) (sym I.path)
      (are-left s.records s.down I.frames I.stand (λ b l. seen types m s.records span (left_of s.down I.frames) I.records b l))

  -- ---- the end

  -- with no path, all of the span is gone
  pub all-gone : (n : ℕ) (s : Freeing) → InSpan types m span n s → s.path ≡ [] → Agree types (cut m span (λ b. 0)) s.records
  all-gone n s I none = by I.frames I.path I.records
    where
      by : (frames : List Frame) → s.path ≡ path_of frames → Agree types (cut m span (left_of s.down frames)) s.records → Agree types (cut m span (λ b. 0)) s.records
      by [] path A = A
      by (f ∷ fs) path A = absurd (not-empty (path_of fs) (sym path ∙ none))
        where
          not-empty : (xs : List ℕ) → xs ++ f.row.address ∷ [] ≡ [] → ⊥
          not-empty [] e = cc
          not-empty (x ∷ xs) e = cc

  -- and with no step left there is no path
  pub no-step : (s : Freeing) → InSpan types m span 0 s → s.path ≡ []
  no-step s I = by I.frames I.path I.few
    where
      by : (frames : List Frame) → s.path ≡ path_of frames → steps_of s.down frames ≤ 0 → s.path ≡ []
      by [] path few = path
      by (f ∷ fs) path few = absurd (omega arith)
