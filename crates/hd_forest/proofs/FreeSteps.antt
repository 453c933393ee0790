-- One step of freeing a span.
use Rattle.std.proofs.Common.{◌≡◌, ℕ, ◌+◌, ◌-◌, ◌<◌, ◌≤◌, List, [], ◌∷◌, ◌++◌, length, take, Bool, true, false, not, ◌&&◌, ◌||◌, refl, sym, ap, ap₂, ◌∙◌, arith, inl, inr}
use Rattle.std.specs.Prelude.{◌==◌, nat_lt}
use Rattle.std.proofs.lemmas.Bool.{cases_eq, cond-false, eq-eqb, ne_eqb, lt-ltb, le-ltb, false≢true}
use Rattle.std.proofs.lemmas.List.{length-append, take-append-le}
use Rattle.hd_dbd.specs.Types.{SegmentType}
use Rattle.hd_links.specs.Links.{Links, IsSegment, child_types, is_child_type}
use Rattle.hd_links.specs.Changes.{AgreeAt, Agree}
use Rattle.hd_links.specs.Steps.{first_some, child_among, later_than}
use Rattle.hd_links.proofs.Types.{Ordered, is_in, in_head, in_tail}
use Rattle.hd_links.proofs.Counts.{is_at, one_at, none_at}
use Rattle.hd_links.proofs.Ways.{head_of, tip_end, later_in}
use Rattle.hd_image.specs.Pointing.{without_record}
use Rattle.hd_forest.specs.Walks.{tip, parent_on}
use Rattle.hd_forest.specs.Spans.{below_on, beside_on}
use Rattle.hd_forest.proofs.Frames.{Frame, path_of, left_of, Stand, row-stands, below-is, beside-is}

-- ---- records of which some are gone

-- the records, of which those of a span that are not left are gone
abbrev pub cut : Links → (ℕ → ℕ) → (ℕ → ℕ) → Links
cut m span left = record m { here = λ b. m.here b && (span b == 0 || nat_lt 0 (left b)) }

-- where the same is there, the same is said
pub agree-here : (types : List SegmentType) (m k : Links) (h h2 g2 : ℕ → Bool) (b : ℕ) → AgreeAt types (record m { here = h }) k b → h2 b ≡ h b → g2 b ≡ k.here b
    → AgreeAt types (record m { here = h2 }) (record k { here = g2 }) b
agree-here types m k h h2 g2 b A e f = record {
  here = f ∙ A.here ∙ sym e;
  code = λ t. A.code (sym e ∙ t);
  bytes = λ s. A.bytes (back s);
  delete_byte = λ s. A.delete_byte (back s);
  forward = λ s. A.forward (back s);
  backward = λ s kept. A.backward (back s) kept;
  first_child = λ t there c. A.first_child t (sym e ∙ there) c;
  last_child = λ t there c kept. A.last_child t (sym e ∙ there) c kept;
}
  where
    back : IsSegment (record m { here = h2 }) b → IsSegment (record m { here = h }) b
    back s = record { some = s.some; here = sym e ∙ s.here }

-- of what is gone nothing is said
agree-gone : (types : List SegmentType) (m k : Links) (b : ℕ) → m.here b ≡ false → k.here b ≡ false → AgreeAt types m k b
agree-gone types m k b e f =
    let no : m.here b ≡ true → ⊥ = λ t. false≢true (sym e ∙ t) in record {
      here = f ∙ sym e;
      code = λ t. absurd (no t);
      bytes = λ s. absurd (no s.here);
      delete_byte = λ s. absurd (no s.here);
      forward = λ s. absurd (no s.here);
      backward = λ s kept. absurd (no s.here);
      first_child = λ t there c. absurd (no there);
      last_child = λ t there c kept. absurd (no there);
    }

-- nothing that fails in one part holds
and-false : (x : Bool) → (x && false) ≡ false
and-false true = refl
and-false false = refl

-- what holds in one part rests on the other
and-true : (x : Bool) → (x && true) ≡ x
and-true true = refl
and-true false = refl

-- what holds in one part holds
or-true : (x : Bool) → (x || true) ≡ true
or-true true = refl
or-true false = refl

module _ (types : List SegmentType) (m k : Links) (span : ℕ → ℕ) where
  -- what is left says what it said
  pub seen : (left : ℕ → ℕ) → Agree types (cut m span left) k → (b : ℕ) → 0 < left b → AgreeAt types m k b
  seen left A b l = agree-here types m k (cut m span left).here m.here k.here b (A b)
      (sym (ap (λ (x : Bool). m.here b && (span b == 0 || x)) (lt-ltb 0 (left b) l) ∙ ap (λ (x : Bool). m.here b && x) (or-true (span b == 0)) ∙ and-true (m.here b))) refl

  -- one that was left is gone
  pub cut-one : (left left2 : ℕ → ℕ) (a : ℕ) → ((b : ℕ) → span b ≤ 1) → ((b : ℕ) → left b ≤ span b) → ((b : ℕ) → left b ≡ is_at a b + left2 b)
      → Agree types (cut m span left) k → Agree types (cut m span left2) (without_record k a)
  cut-one left left2 a once within one A b = elim (cases_eq b a) [
    | inl e ↦
        (let o : is_at a b ≡ 1 = one_at a b (sym e) in
        let l : left b ≡ is_at a b + left2 b = one b in
        let w : left b ≤ span b = within b in
        let u : span b ≤ 1 = once b in
        agree-gone types (cut m span left2) (without_record k a) b
        (ap (λ (x : Bool). m.here b && (x || nat_lt 0 (left2 b))) (ne_eqb (span b) 0 (λ (z : span b ≡ 0). omega arith))
        ∙ ap (λ (x : Bool). m.here b && x) (le-ltb 0 (left2 b) (omega arith)) ∙ and-false (m.here b))
        (ap (λ (x : Bool). not x && k.here b) (eq-eqb b a e)))
    | inr ne ↦
        (let o : is_at a b ≡ 0 = none_at a b (λ e. ne (sym e)) in
        let l : left b ≡ is_at a b + left2 b = one b in
        let same : left2 b ≡ left b = omega arith in
        agree-here types m k (cut m span left).here (cut m span left2).here (without_record k a).here b (A b)
        (ap (λ (x : ℕ). m.here b && (span b == 0 || nat_lt 0 x)) same)
        (ap (λ (x : Bool). not x && k.here b) (ne_eqb b a ne)))
  ]

  -- as much is left
  pub cut-same : (left left2 : ℕ → ℕ) → ((b : ℕ) → left2 b ≡ left b) → Agree types (cut m span left) k → Agree types (cut m span left2) k
  cut-same left left2 same A b = agree-here types m k (cut m span left).here (cut m span left2).here k.here b (A b) (ap (λ (x : ℕ). m.here b && (span b == 0 || nat_lt 0 x)) (same b)) refl

-- ---- what is read of them

-- first children are named alike where two records agree
among-agree : (types : List SegmentType) (m k : Links) (a : ℕ) → AgreeAt types m k a → m.here a ≡ true → (ts : List ℕ) → ((t : ℕ) → is_in ts t ≡ true → is_child_type types (m.code a) t ≡ true)
    → child_among k a ts ≡ child_among m a ts
among-agree types m k a A here [] all = refl
among-agree types m k a A here (t ∷ ts) all = ap₂ first_some (A.first_child t here (all t (in_head t t ts refl))) (among-agree types m k a A here ts (λ u q. all u (in_tail t u ts q)))

-- a path without its last row
pub front-of : (xs : List ℕ) (a : ℕ) → take (length (xs ++ a ∷ []) - 1) (xs ++ a ∷ []) ≡ xs
front-of xs a =
    let n : length (xs ++ a ∷ []) - 1 ≡ length xs = (let l : length (xs ++ a ∷ []) ≡ length xs + length (a ∷ []) = length-append xs (a ∷ []) in omega arith) in
    ap (λ i. take i (xs ++ a ∷ [])) n ∙ take-append-le (length xs) xs (a ∷ []) (omega arith) ∙ take-all xs
  where
    take-all : (ys : List ℕ) → take (length ys) ys ≡ ys
    take-all [] = refl
    take-all (y ∷ ys) = ap (λ (zs : List ℕ). y ∷ zs) (take-all ys)

-- the last row of the path is left
pub some-first : (f : Frame) (fs : List Frame) (down : Bool) → 0 < left_of down (f ∷ fs) f.row.address
some-first f fs down = (let o : is_at f.row.address f.row.address ≡ 1 = one_at f.row.address f.row.address refl in omega arith)

module _ (types : List SegmentType) (O : Ordered types) (m k : Links) (span : ℕ → ℕ) (down : Bool) where
  -- the first row below the last of the path
  pub below-read : (f : Frame) (fs : List Frame) → Stand types m (f ∷ fs) → Agree types (cut m span (left_of down (f ∷ fs))) k → below_on types k (path_of (f ∷ fs)) ≡ head_of f.under
  below-read f fs s A =
      let R = row-stands types O m f fs s in
      let a : ℕ = f.row.address in
      let At : AgreeAt types m k a = seen types m k span (left_of down (f ∷ fs)) A a (some-first f fs down) in
      let code : k.code a ≡ m.code a = At.code R.there.here in
      ap (λ x. child_among k x (child_types types (k.code x))) (tip_end 0 (path_of fs) a)
      ∙ ap (λ c. child_among k a (child_types types c)) code
      ∙ among-agree types m k a At R.there.here (child_types types (m.code a)) (λ t q. q)
      ∙ ap (λ c. child_among m a (child_types types c)) R.code
      ∙ below-is types O m f fs s

  -- what is beside it
  pub beside-read : (f : Frame) (fs : List Frame) → Stand types m (f ∷ fs) → Agree types (cut m span (left_of down (f ∷ fs))) k → beside_on types k (path_of (f ∷ fs)) ≡ head_of f.behind
  beside-read f [] s A = sym (ap head_of s.1)
  beside-read f (q ∷ fs) s A =
      let R = row-stands types O m f (q ∷ fs) s in
      let Q = row-stands types O m q fs s.1 in
      let a : ℕ = f.row.address in
      let h : ℕ = q.row.address in
      let path : List ℕ = path_of (f ∷ (q ∷ fs)) in
      let own : AgreeAt types m k a = seen types m k span (left_of down (f ∷ (q ∷ fs))) A a (some-first f (q ∷ fs) down) in
      let more : 0 < left_of down (f ∷ (q ∷ fs)) h = (let o : 0 < left_of false (q ∷ fs) h = some-first q fs false in omega arith) in
      let above : AgreeAt types m k h = seen types m k span (left_of down (f ∷ (q ∷ fs))) A h more in
      let last : tip path ≡ a = tip_end 0 (path_of (q ∷ fs)) a in
      let parent : parent_on path ≡ h = ap tip (front-of (path_of (q ∷ fs)) a) ∙ tip_end 0 (path_of fs) h in
      let value = λ (x y : ℕ). first_some (k.forward x) (child_among k y (later_than (k.code x) (child_types types (k.code y)))) in
      let some : 0 < h = Q.there.some in
      cond-false (parent_on path == 0) 0 (value (tip path) (parent_on path)) (ne_eqb (parent_on path) 0 (λ e. (let z : h ≡ 0 = sym parent ∙ e in omega arith)))
      ∙ ap₂ value last parent
      ∙ ap₂ (λ x y. first_some (k.forward a) (child_among k h (later_than x (child_types types y)))) (own.code R.there.here) (above.code Q.there.here)
      ∙ ap (λ x. first_some x (child_among k h (later_than (m.code a) (child_types types (m.code h))))) (own.forward R.there)
      ∙ ap (first_some (m.forward a)) (among-agree types m k h above Q.there.here (later_than (m.code a) (child_types types (m.code h))) (λ t w. (later_in (m.code a) (child_types types (m.code h)) (O.ascending (m.code h)) t w).1))
      ∙ ap₂ (λ x y. first_some (m.forward a) (child_among m h (later_than x (child_types types y)))) R.code Q.code
      ∙ beside-is types O m f q fs s
