-- A row taken out of its chain, and its span out of the records.
use Rattle.std.proofs.Common.{◌≡◌, ◌≢◌, ℕ, ◌<◌, Bool, true, false, ◌&&◌, ◌||◌, cond, Some, None, List, refl, sym, ap, ap₂, subst, ◌∙◌, arith, inl, inr}
use Rattle.std.specs.Prelude.{◌==◌, nat_lt}
use Rattle.std.proofs.lemmas.Bool.{cases_Bool, cond-true, cond-false, eq-eqb, ne_eqb, eqb-true, and_parts, lt-ltb, le-ltb, false≢true}
use Rattle.hd_dbd.specs.Types.{SegmentType}
use Rattle.hd_dbd.specs.Prefixes.{is_backward_kept}
use Rattle.hd_dbd.specs.Forest.{Forest, fits_below}
use Rattle.hd_prefix.specs.declared.pointer.Pointer.TheVariants.{TwinForward, TwinBackward, FirstChild, LastChild}
use Rattle.hd_links.specs.Links.{Links, IsSegment, IsLinkGraph, is_child_type, is_last_kept}
use Rattle.hd_links.specs.Placed.{Placed, forest_of, count, nowhere, NamesChildren, Holds}
use Rattle.hd_links.specs.Changes.{AgreeAt, Agree, unlinked, without_span}
use Rattle.hd_links.proofs.Build.{zero_or}
use Rattle.hd_links.proofs.Counts.{is_at, one_at, none_at, count_zero, node_there}
use Rattle.hd_links.proofs.Touch.{frame}
use Rattle.hd_image.specs.Pointing.{with_pointer}
use Rattle.hd_forest.specs.Sets.{following, preceding}
use Rattle.hd_forest.specs.Spans.{IsSpan, without_span_of}
use Rattle.hd_forest.proofs.SpanStarts.{span_of}
use Rattle.hd_forest.proofs.Taken.{Taken}

-- ---- one twin pointer changed

-- a third part that holds does not matter
both-true : (p q r : Bool) → r ≡ true → (p && q && r) ≡ (p && q)
both-true true true r e = e
both-true true false r e = refl
both-true false true r e = refl
both-true false false r e = refl

-- with a third part that fails nothing holds
both-false : (p q r : Bool) → r ≡ false → (p && q && r) ≡ false
both-false true true r e = e
both-false true false r e = refl
both-false false true r e = refl
both-false false false r e = refl

-- another parent is not named
other-parent : (b h : ℕ) (q r : Bool) → b ≢ h → (b == h && q && r) ≡ false
other-parent b h q r ne = rw (ne_eqb b h ne) (by q r)
  where
    by : (x z : Bool) → (false && x && z) ≡ false
    by true z = refl
    by false z = refl

-- what is said where the twin y, or the parent h, has come to name x as the next
pub record Followed (m k : Links) (h t y x b : ℕ) : Type 0 where
  pub here : k.here b ≡ m.here b
  pub code : k.code b ≡ m.code b
  pub bytes : k.bytes b ≡ m.bytes b
  pub delete_byte : k.delete_byte b ≡ m.delete_byte b
  pub forward : 0 < b → k.forward b ≡ cond (b == y) x (m.forward b)
  pub backward : k.backward b ≡ m.backward b
  pub first_child : (u : ℕ) → k.first_child b u ≡ cond (b == h && u == t && y == 0) x (m.first_child b u)
  pub last_child : (u : ℕ) → k.last_child b u ≡ m.last_child b u

-- so it is where what comes next is named
pub followed : (m : Links) (h t y x b : ℕ) → Followed m (following m h t y x) h t y x b
followed m h t y x b = elim (cases_Bool (y == 0)) [
  | inl e ↦ subst (λ (k : Links). Followed m k h t y x b) (sym (cond-true (y == 0) (with_pointer m (FirstChild t) h x) (with_pointer m TwinForward y x) e)) (record {
    here = refl;
    code = refl;
    bytes = refl;
    delete_byte = refl;
    forward = λ some. sym (cond-false (b == y) x (m.forward b) (ne_eqb b y (λ z. (let n : y ≡ 0 = eqb-true y 0 e in omega arith))));
    backward = refl;
    first_child = λ u. ap (λ (c : Bool). cond c x (m.first_child b u)) (sym (both-true (b == h) (u == t) (y == 0) e));
    last_child = λ u. refl;
  })
  | inr e ↦ subst (λ (k : Links). Followed m k h t y x b) (sym (cond-false (y == 0) (with_pointer m (FirstChild t) h x) (with_pointer m TwinForward y x) e)) (record {
    here = refl;
    code = refl;
    bytes = refl;
    delete_byte = refl;
    forward = λ some. refl;
    backward = refl;
    first_child = λ u. sym (cond-false (b == h && u == t && y == 0) x (m.first_child b u) (both-false (b == h) (u == t) (y == 0) e));
    last_child = λ u. refl;
  })
]

-- and as the one before
record Preceded (m k : Links) (h t y x b : ℕ) : Type 0 where
  pub here : k.here b ≡ m.here b
  pub code : k.code b ≡ m.code b
  pub bytes : k.bytes b ≡ m.bytes b
  pub delete_byte : k.delete_byte b ≡ m.delete_byte b
  pub forward : k.forward b ≡ m.forward b
  pub backward : 0 < b → k.backward b ≡ cond (b == y) x (m.backward b)
  pub first_child : (u : ℕ) → k.first_child b u ≡ m.first_child b u
  pub last_child : (u : ℕ) → k.last_child b u ≡ cond (b == h && u == t && y == 0) x (m.last_child b u)

-- and where what came before is
preceded : (m : Links) (h t y x b : ℕ) → Preceded m (preceding m h t y x) h t y x b
preceded m h t y x b = elim (cases_Bool (y == 0)) [
  | inl e ↦ subst (λ (k : Links). Preceded m k h t y x b) (sym (cond-true (y == 0) (with_pointer m (LastChild t) h x) (with_pointer m TwinBackward y x) e)) (record {
    here = refl;
    code = refl;
    bytes = refl;
    delete_byte = refl;
    forward = refl;
    backward = λ some. sym (cond-false (b == y) x (m.backward b) (ne_eqb b y (λ z. (let n : y ≡ 0 = eqb-true y 0 e in omega arith))));
    first_child = λ u. refl;
    last_child = λ u. ap (λ (c : Bool). cond c x (m.last_child b u)) (sym (both-true (b == h) (u == t) (y == 0) e));
  })
  | inr e ↦ subst (λ (k : Links). Preceded m k h t y x b) (sym (cond-false (y == 0) (with_pointer m (LastChild t) h x) (with_pointer m TwinBackward y x) e)) (record {
    here = refl;
    code = refl;
    bytes = refl;
    delete_byte = refl;
    forward = refl;
    backward = λ some. refl;
    first_child = λ u. refl;
    last_child = λ u. sym (cond-false (b == h && u == t && y == 0) x (m.last_child b u) (both-false (b == h) (u == t) (y == 0) e));
  })
]

-- ---- both, and then the span

-- what two records say between which both pointers have changed
module _ (types : List SegmentType) (m m1 m2 : Links) (h t y w b : ℕ) (A1 : AgreeAt types (following m h t y w) m1 b) (A2 : AgreeAt types (preceding m1 h t w y) m2 b) where
  -- the first change
  F : Followed m (following m h t y w) h t y w b
  F = followed m h t y w b

  -- the second
  P : Preceded m1 (preceding m1 h t w y) h t w y b
  P = preceded m1 h t w y b

  -- the records are where they were
  pub here-both : m2.here b ≡ m.here b
  here-both = A2.here ∙ P.here ∙ A1.here ∙ F.here

  -- after the first change too
  here-one : m1.here b ≡ m.here b
  here-one = A1.here ∙ F.here

  -- a code stays at the first change
  code-one : m.here b ≡ true → m1.code b ≡ m.code b
  code-one s = A1.code (F.here ∙ s) ∙ F.code

  -- and at both
  pub code-both : m.here b ≡ true → m2.code b ≡ m.code b
  code-both s = A2.code (P.here ∙ here-one ∙ s) ∙ P.code ∙ code-one s

  -- a segment is one after the first change
  in-following : IsSegment m b → IsSegment (following m h t y w) b
  in-following s = record { some = s.some; here = F.here ∙ s.here }

  -- and after the second
  in-preceding : IsSegment m b → IsSegment (preceding m1 h t w y) b
  in-preceding s = record { some = s.some; here = P.here ∙ here-one ∙ s.here }

  -- bytes stay
  pub bytes-both : IsSegment m b → m2.bytes b ≡ m.bytes b
  bytes-both s = A2.bytes (in-preceding s) ∙ P.bytes ∙ A1.bytes (in-following s) ∙ F.bytes

  -- delete bytes stay
  pub delete-both : IsSegment m b → m2.delete_byte b ≡ m.delete_byte b
  delete-both s = A2.delete_byte (in-preceding s) ∙ P.delete_byte ∙ A1.delete_byte (in-following s) ∙ F.delete_byte

  -- twin forward changes at the twin before
  pub forward-both : IsSegment m b → m2.forward b ≡ cond (b == y) w (m.forward b)
  forward-both s = A2.forward (in-preceding s) ∙ P.forward ∙ A1.forward (in-following s) ∙ F.forward s.some

  -- twin backward changes at the twin behind
  pub backward-both : IsSegment m b → is_backward_kept types (m.code b) ≡ true → m2.backward b ≡ cond (b == w) y (m.backward b)
  backward-both s kept =
      A2.backward (in-preceding s) (ap (is_backward_kept types) (P.code ∙ code-one s.here) ∙ kept) ∙ P.backward s.some
      ∙ ap (λ x. cond (b == w) y x) (A1.backward (in-following s) (ap (is_backward_kept types) F.code ∙ kept) ∙ F.backward)

  -- first child changes where no twin is before
  pub first-both : (u : ℕ) → m.here b ≡ true → is_child_type types (m.code b) u ≡ true → m2.first_child b u ≡ cond (b == h && u == t && y == 0) w (m.first_child b u)
  first-both u s c =
      A2.first_child u (P.here ∙ here-one ∙ s) (ap (λ x. is_child_type types x u) (P.code ∙ code-one s) ∙ c) ∙ P.first_child u
      ∙ A1.first_child u (F.here ∙ s) (ap (λ x. is_child_type types x u) F.code ∙ c) ∙ F.first_child u

  -- last child changes where no twin is behind
  pub last-both : (u : ℕ) → m.here b ≡ true → is_child_type types (m.code b) u ≡ true → is_last_kept types u ≡ true → m2.last_child b u ≡ cond (b == h && u == t && w == 0) y (m.last_child b u)
  last-both u s c kept =
      A2.last_child u (P.here ∙ here-one ∙ s) (ap (λ x. is_child_type types x u) (P.code ∙ code-one s) ∙ c) kept ∙ P.last_child u
      ∙ ap (λ x. cond (b == h && u == t && w == 0) y x) (A1.last_child u (F.here ∙ s) (ap (λ x. is_child_type types x u) F.code ∙ c) kept ∙ F.last_child u)

  -- other records than the twins and the parent say what they said
  pub elsewhere : 0 < b → b ≢ h → b ≢ y → b ≢ w → AgreeAt types m m2 b
  elsewhere some not-h not-y not-w = record {
    here = here-both;
    code = code-both;
    bytes = bytes-both;
    delete_byte = delete-both;
    forward = λ s. forward-both s ∙ cond-false (b == y) w (m.forward b) (ne_eqb b y not-y);
    backward = λ s kept. backward-both s kept ∙ cond-false (b == w) y (m.backward b) (ne_eqb b w not-w);
    first_child = λ u s c. first-both u s c ∙ cond-false (b == h && u == t && y == 0) w (m.first_child b u) (other-parent b h (u == t) (y == 0) not-h);
    last_child = λ u s c kept. last-both u s c kept ∙ cond-false (b == h && u == t && w == 0) y (m.last_child b u) (other-parent b h (u == t) (w == 0) not-h);
  }

module _ (types : List SegmentType) (bound : ℕ) (m m1 m2 : Links) (G : IsLinkGraph types bound m) (f : Forest Placed) (H : Holds types m f) (h y a : ℕ) (T : Taken types m f h y a)
    (A1 : Agree types (following m h (m.code a) y (m.forward a)) m1) (A2 : Agree types (preceding m1 h (m.code a) (m.forward a) y) m2) where
  -- the records of the span are as they were
  abbrev apart : (b : ℕ) → 0 < b → 0 < span_of a T.under b → AgreeAt types m m2 b
  apart b some in-span = elsewhere types m m1 m2 h (m.code a) y (m.forward a) b (A1 b) (A2 b) some
      (λ e. (let z : span_of a T.under b ≡ 0 = ap (span_of a T.under) e ∙ T.parent in omega arith))
      (λ e. (let p : 0 < y = subst (λ x. 0 < x) e some in let z : span_of a T.under b ≡ 0 = ap (span_of a T.under) e ∙ T.before p in omega arith))
      (λ e. (let p : 0 < m.forward a = subst (λ x. 0 < x) e some in let z : span_of a T.under b ≡ 0 = ap (span_of a T.under) e ∙ T.behind p in omega arith))

  -- a says what it said
  own-at : AgreeAt types m m2 a
  own-at = apart a T.span.there.some (let o : is_at a a ≡ 1 = one_at a a refl in omega arith)

  -- and is of its type
  own-code : m2.code a ≡ m.code a
  own-code = own-at.code T.span.there.here

  -- the span stands as it stood
  pub span-kept : IsSpan types m2 a T.under
  span-kept = record {
    there = record { some = T.span.there.some; here = own-at.here ∙ T.span.there.here };
    children = subst (λ c. NamesChildren types m2 c a T.under) (sym own-code) (record {
      first = λ t c. own-at.first_child t T.span.there.here c ∙ T.span.children.first t c;
      last = λ t c kept. own-at.last_child t T.span.there.here c kept ∙ T.span.children.last t c kept;
    });
    nodes = frame types m m2 nowhere T.under T.span.nodes (λ b l. apart b (node_there types m b nowhere T.under T.span.nodes l).some (omega arith));
    fits = subst (λ c. fits_below types (Some c) None (forest_of T.under) ≡ true) (sym own-code) T.span.fits;
    once = T.span.once;
  }

  -- who is left
  none-at-header : span_of a T.under 0 ≡ 0
  none-at-header =
      (let some = T.span.there.some in let apart-own : is_at a 0 ≡ 0 = none_at a 0 (λ (e : a ≡ 0). omega arith) in
      let z : count 0 T.under ≡ 0 = count_zero types m nowhere T.under T.span.nodes in omega arith)

  -- what is left is what the forest without the span has
  here-left : (b : ℕ) → (m.here b && (span_of a T.under b == 0)) ≡ (b == 0 || nat_lt 0 (count b (without_span h a f)))
  here-left b = elim (zero_or b) [
    | inl e ↦
        ap₂ (λ (x : Bool) (z : Bool). x && z) (ap m.here e ∙ G.header) (eq-eqb (span_of a T.under b) 0 (ap (span_of a T.under) e ∙ none-at-header))
        ∙ sym (ap (λ (x : Bool). x || nat_lt 0 (count b (without_span h a f))) (eq-eqb b 0 e))
    | inr some ↦
        (let l = T.left b in
        let behind : (b == 0 || nat_lt 0 (count b (without_span h a f))) ≡ nat_lt 0 (count b (without_span h a f)) = ap (λ (x : Bool). x || nat_lt 0 (count b (without_span h a f))) (ne_eqb b 0 (λ (e : b ≡ 0). omega arith)) in
        elim (cases_Bool (m.here b)) [
          | inl there ↦
              (let once : count b f ≡ 1 = H.once b (record { some = some; here = there }) in
              ap (λ (x : Bool). x && (span_of a T.under b == 0)) there ∙ (elim (zero_or (span_of a T.under b)) [
                | inl z ↦ eq-eqb (span_of a T.under b) 0 z ∙ sym (lt-ltb 0 (count b (without_span h a f)) (omega arith))
                | inr p ↦ ne_eqb (span_of a T.under b) 0 (λ (z : span_of a T.under b ≡ 0). omega arith) ∙ sym (le-ltb 0 (count b (without_span h a f)) (omega arith))
              ]) ∙ sym behind)
          | inr gone ↦
              (let none : count b f ≡ 0 = elim (zero_or (count b f)) [
                | inl z ↦ z
                | inr p ↦ absurd (false≢true (sym gone ∙ (node_there types m b nowhere f H.lies.nodes p).here))
              ] in
              ap (λ (x : Bool). x && (span_of a T.under b == 0)) gone ∙ sym (le-ltb 0 (count b (without_span h a f)) (omega arith)) ∙ sym behind)
        ])
  ]

  -- the records without the span are those of the row unlinked
  pub unlinked-is : Agree types (unlinked m h y a (without_span h a f)) (without_span_of m2 a T.under)
  unlinked-is b = record {
    here = ap (λ (x : Bool). x && (span_of a T.under b == 0)) (here-both types m m1 m2 h (m.code a) y (m.forward a) b (A1 b) (A2 b)) ∙ here-left b;
    code = λ s. code-both types m m1 m2 h (m.code a) y (m.forward a) b (A1 b) (A2 b) (was s);
    bytes = λ s. bytes-both types m m1 m2 h (m.code a) y (m.forward a) b (A1 b) (A2 b) (segment s);
    delete_byte = λ s. delete-both types m m1 m2 h (m.code a) y (m.forward a) b (A1 b) (A2 b) (segment s);
    forward = λ s. forward-both types m m1 m2 h (m.code a) y (m.forward a) b (A1 b) (A2 b) (segment s);
    backward = λ s kept. backward-both types m m1 m2 h (m.code a) y (m.forward a) b (A1 b) (A2 b) (segment s) kept;
    first_child = λ u s c. first-both types m m1 m2 h (m.code a) y (m.forward a) b (A1 b) (A2 b) u (was s) c;
    last_child = λ u s c kept. last-both types m m1 m2 h (m.code a) y (m.forward a) b (A1 b) (A2 b) u (was s) c kept;
  }
    where
      was : (b == 0 || nat_lt 0 (count b (without_span h a f))) ≡ true → m.here b ≡ true
      was s = (and_parts (m.here b) (span_of a T.under b == 0) (here-left b ∙ s)).0

      segment : IsSegment (unlinked m h y a (without_span h a f)) b → IsSegment m b
      segment s = record { some = s.some; here = was s.here }
