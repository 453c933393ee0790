-- The records with a new leaf, by the steps that link it.
use Rattle.std.proofs.Common.{◌≡◌, ◌≢◌, ℕ, ◌<◌, List, Bool, true, false, ◌&&◌, ◌==◌, cond, refl, sym, ap, ◌∙◌, arith, ne_eqb}
use Rattle.std.proofs.lemmas.Bool.{eqb-true, false≢true}
use Rattle.hd_dbd.specs.Types.{SegmentType}
use Rattle.hd_dbd.specs.Prefixes.{is_backward_kept}
use Rattle.hd_prefix.specs.declared.pointer.Pointer.TheVariants.{TwinForward, TwinBackward, FirstChild, LastChild}
use Rattle.hd_prefix.specs.Fields.{code_of, bytes_of, pointer_of}
use Rattle.hd_links.specs.Links.{Links}
use Rattle.hd_links.specs.Changes.{Agree, twin_behind, linked}
use Rattle.hd_image.specs.Pointing.{with_pointer, with_record}
use Rattle.hd_forest.specs.Leaves.{IsLeaf}
use Rattle.hd_forest.specs.Sets.{following, named}
use Rattle.hd_forest.proofs.Agreeing.{either}

-- ---- what the records say that name the leaf

module _ (m : Links) (h t y x a : ℕ) where
  -- of what no step changes
  pub named-same : {X : Type 0} (g : Links → X) (z : X) → g (following m h t y a) ≡ z → ((n : Links) → g (with_pointer n (LastChild t) h a) ≡ g n) → ((n : Links) → g (with_pointer n TwinBackward x a) ≡ g n)
      → g (named m h t y x a) ≡ z
  named-same g z before last twin =
      either g z (x == 0) (with_pointer (following m h t y a) (LastChild t) h a) (with_pointer (following m h t y a) TwinBackward x a)
      (last (following m h t y a) ∙ before) (twin (following m h t y a) ∙ before)

  following-same : {X : Type 0} (g : Links → X) → g (with_pointer m (FirstChild t) h a) ≡ g m → g (with_pointer m TwinForward y a) ≡ g m → g (following m h t y a) ≡ g m
  following-same g first twin = either g (g m) (y == 0) (with_pointer m (FirstChild t) h a) (with_pointer m TwinForward y a) first twin

  pub named-here : (b : ℕ) → (named m h t y x a).here b ≡ m.here b
  named-here b = named-same (λ n. n.here b) (m.here b) (following-same (λ n. n.here b) refl refl) (λ n. refl) (λ n. refl)

  pub named-code : (b : ℕ) → (named m h t y x a).code b ≡ m.code b
  named-code b = named-same (λ n. n.code b) (m.code b) (following-same (λ n. n.code b) refl refl) (λ n. refl) (λ n. refl)

  pub named-bytes : (b : ℕ) → (named m h t y x a).bytes b ≡ m.bytes b
  named-bytes b = named-same (λ n. n.bytes b) (m.bytes b) (following-same (λ n. n.bytes b) refl refl) (λ n. refl) (λ n. refl)

  pub named-delete_byte : (b : ℕ) → (named m h t y x a).delete_byte b ≡ m.delete_byte b
  named-delete_byte b = named-same (λ n. n.delete_byte b) (m.delete_byte b) (following-same (λ n. n.delete_byte b) refl refl) (λ n. refl) (λ n. refl)

  -- of what one step changes
  pub named-forward : (b : ℕ) → (named m h t y x a).forward b ≡ cond (y == 0) (m.forward b) (cond (b == y) a (m.forward b))
  named-forward b = named-same (λ n. n.forward b) _ (at (y == 0)) (λ n. refl) (λ n. refl)
    where
      at : (k : Bool) → (cond k (with_pointer m (FirstChild t) h a) (with_pointer m TwinForward y a)).forward b ≡ cond k (m.forward b) (cond (b == y) a (m.forward b))
      at true = refl
      at false = refl

  pub named-first : (b u : ℕ) → (named m h t y x a).first_child b u ≡ cond (y == 0) (cond (b == h && u == t) a (m.first_child b u)) (m.first_child b u)
  named-first b u = named-same (λ n. n.first_child b u) _ (at (y == 0)) (λ n. refl) (λ n. refl)
    where
      at : (k : Bool) → (cond k (with_pointer m (FirstChild t) h a) (with_pointer m TwinForward y a)).first_child b u ≡ cond k (cond (b == h && u == t) a (m.first_child b u)) (m.first_child b u)
      at true = refl
      at false = refl

  pub named-backward : (b : ℕ) → (named m h t y x a).backward b ≡ cond (x == 0) (m.backward b) (cond (b == x) a (m.backward b))
  named-backward b = at (x == 0) ∙ ap (λ z. cond (x == 0) z (cond (b == x) a z)) (following-same (λ n. n.backward b) refl refl)
    where
      at : (k : Bool) → (cond k (with_pointer (following m h t y a) (LastChild t) h a) (with_pointer (following m h t y a) TwinBackward x a)).backward b
          ≡ cond k ((following m h t y a).backward b) (cond (b == x) a ((following m h t y a).backward b))
      at true = refl
      at false = refl

  pub named-last : (b u : ℕ) → (named m h t y x a).last_child b u ≡ cond (x == 0) (cond (b == h && u == t) a (m.last_child b u)) (m.last_child b u)
  named-last b u = at (x == 0) ∙ ap (λ z. cond (x == 0) (cond (b == h && u == t) a z) z) (following-same (λ n. n.last_child b u) refl refl)
    where
      at : (k : Bool) → (cond k (with_pointer (following m h t y a) (LastChild t) h a) (with_pointer (following m h t y a) TwinBackward x a)).last_child b u
          ≡ cond k (cond (b == h && u == t) a ((following m h t y a).last_child b u)) ((following m h t y a).last_child b u)
      at true = refl
      at false = refl

-- ---- and those with the leaf linked

-- a twin pointer: that of the leaf, that of its twin, or another
between : (none is twin : Bool) (x a z f : ℕ) → (none ≡ true → twin ≡ false) → (is ≡ true → twin ≡ false) → (is ≡ true → z ≡ x)
    → cond none (cond is z f) (cond twin a (cond is z f)) ≡ cond is x (cond twin a f)
between true true true x a z f first own named = absurd (false≢true (sym (first refl)))
between true true false x a z f first own named = named refl
between true false true x a z f first own named = absurd (false≢true (sym (first refl)))
between true false false x a z f first own named = refl
between false true true x a z f first own named = absurd (false≢true (sym (own refl)))
between false true false x a z f first own named = named refl
between false false true x a z f first own named = refl
between false false false x a z f first own named = refl

-- a pointer to an end of the twins: that of the leaf, that of its parent, or another
ends : (none is parent typed : Bool) (a z f : ℕ) → (parent ≡ true → is ≡ false) → z ≡ 0
    → cond none (cond (parent && typed) a (cond is z f)) (cond is z f) ≡ cond is 0 (cond (parent && typed && none) a f)
ends true true true typed a z f own named = absurd (false≢true (sym (own refl)))
ends true true false typed a z f own named = named
ends true false true true a z f own named = refl
ends true false true false a z f own named = refl
ends true false false typed a z f own named = refl
ends false true parent typed a z f own named = named
ends false false true true a z f own named = refl
ends false false true false a z f own named = refl
ends false false false typed a z f own named = refl

-- the steps link the leaf
pub linked-named : (types : List SegmentType) (m : Links) (h y t a : ℕ) (bytes s : List ℕ) → IsLeaf types (record { code = t; bytes = bytes }) y (twin_behind m h t y) s
    → 0 < a → h ≢ a → y ≢ a → twin_behind m h t y ≢ a
    → Agree types (linked m h y (record { address = a; segment = record { code = t; bytes = bytes } })) (named (with_record types m a s) h t y (twin_behind m h t y) a)
linked-named types m h y t a bytes s leaf some parent before behind b =
    let r : Links = with_record types m a s in
    let x : ℕ = twin_behind m h t y in record {
      here = named-here r h t y x a b;
      code = λ _. named-code r h t y x a b ∙ ap (λ z. cond (b == a) z (m.code b)) leaf.code;
      bytes = λ _. named-bytes r h t y x a b ∙ ap (λ z. cond (b == a) z (m.bytes b)) (ap (λ c. bytes_of types c s) leaf.code ∙ leaf.bytes);
      delete_byte = λ _. named-delete_byte r h t y x a b ∙ ap (λ z. cond (b == a) z (m.delete_byte b)) leaf.delete_byte;
      forward = λ g. named-forward r h t y x a b
          ∙ between (y == 0) (b == a) (b == y) x a (pointer_of types (code_of s) TwinForward s) (m.forward b) (none-is b y g.some) (apart b a y before)
          (λ _. ap (λ c. pointer_of types c TwinForward s) leaf.code ∙ leaf.forward);
      backward = λ g kept. named-backward r h t y x a b
          ∙ between (x == 0) (b == a) (b == x) y a (pointer_of types (code_of s) TwinBackward s) (m.backward b) (none-is b x g.some) (apart b a x behind)
          (λ is. ap (λ c. pointer_of types c TwinBackward s) leaf.code ∙ leaf.backward (sym (ap (λ k. is_backward_kept types (cond k t (m.code b))) is) ∙ kept));
      first_child = λ u _ _. named-first r h t y x a b u
          ∙ ends (y == 0) (b == a) (b == h) (u == t) a (pointer_of types (code_of s) (FirstChild u) s) (m.first_child b u) (apart-parent b a h parent)
          (ap (λ c. pointer_of types c (FirstChild u) s) leaf.code ∙ leaf.first_child u);
      last_child = λ u _ _ _. named-last r h t y x a b u
          ∙ ends (x == 0) (b == a) (b == h) (u == t) a (pointer_of types (code_of s) (LastChild u) s) (m.last_child b u) (apart-parent b a h parent)
          (ap (λ c. pointer_of types c (LastChild u) s) leaf.code ∙ leaf.last_child u);
    }
  where
    none-is : (b y : ℕ) → 0 < b → (y == 0) ≡ true → (b == y) ≡ false
    none-is b y later e = let zero : y ≡ 0 = eqb-true y 0 e in ne_eqb b y (λ f. omega arith)

    apart : (b a y : ℕ) → y ≢ a → (b == a) ≡ true → (b == y) ≡ false
    apart b a y ne e = ne_eqb b y (λ f. ne (sym f ∙ eqb-true b a e))

    apart-parent : (b a h : ℕ) → h ≢ a → (b == h) ≡ true → (b == a) ≡ false
    apart-parent b a h ne e = ne_eqb b a (λ f. ne (sym (eqb-true b h e) ∙ f))
