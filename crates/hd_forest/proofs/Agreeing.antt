-- Records that agree, and the same pointer changed in both.
use Rattle.std.proofs.Common.{◌≡◌, ℕ, List, Bool, true, false, ◌&&◌, ◌==◌, cond, refl, ap, ◌∙◌}
use Rattle.hd_dbd.specs.Types.{SegmentType}
use Rattle.hd_dbd.specs.Prefixes.{is_backward_kept}
use Rattle.hd_prefix.specs.declared.pointer.Pointer.{Pointer}
use Rattle.hd_prefix.specs.declared.pointer.Pointer.TheVariants.{TwinForward, TwinBackward, FirstChild, LastChild}
use Rattle.hd_links.specs.Links.{Links, IsSegment, is_child_type}
use Rattle.hd_links.specs.Changes.{Agree}
use Rattle.hd_image.specs.Pointing.{with_pointer}
use Rattle.hd_forest.specs.Sets.{following, preceding, named, IsTwinPlace}

-- what agrees with what agrees
pub agree-trans : (types : List SegmentType) (m m1 m2 : Links) → Agree types m m1 → Agree types m1 m2 → Agree types m m2
agree-trans types m m1 m2 h k b =
    let there : IsSegment m b → IsSegment m1 b = λ s. record { some = s.some; here = (h b).here ∙ s.here } in
    record {
      here = (k b).here ∙ (h b).here;
      code = λ e. (k b).code ((h b).here ∙ e) ∙ (h b).code e;
      bytes = λ s. (k b).bytes (there s) ∙ (h b).bytes s;
      delete_byte = λ s. (k b).delete_byte (there s) ∙ (h b).delete_byte s;
      forward = λ s. (k b).forward (there s) ∙ (h b).forward s;
      backward = λ s kept. (k b).backward (there s) (ap (is_backward_kept types) ((h b).code s.here) ∙ kept) ∙ (h b).backward s kept;
      first_child = λ t e child. (k b).first_child t ((h b).here ∙ e) (ap (λ c. is_child_type types c t) ((h b).code e) ∙ child) ∙ (h b).first_child t e child;
      last_child = λ t e child kept. (k b).last_child t ((h b).here ∙ e) (ap (λ c. is_child_type types c t) ((h b).code e) ∙ child) kept ∙ (h b).last_child t e child kept;
    }

-- one pointer changed in both
pub agree-with : (types : List SegmentType) (m m1 : Links) (pointer : Pointer) (a x : ℕ) → Agree types m m1 → Agree types (with_pointer m pointer a x) (with_pointer m1 pointer a x)
agree-with types m m1 TwinForward a x h b =
    let there : IsSegment (with_pointer m TwinForward a x) b → IsSegment m b = λ s. record { some = s.some; here = s.here } in
    record {
      here = (h b).here;
      code = (h b).code;
      bytes = λ s. (h b).bytes (there s);
      delete_byte = λ s. (h b).delete_byte (there s);
      forward = λ s. ap (λ (y : ℕ). cond (b == a) x y) ((h b).forward (there s));
      backward = λ s. (h b).backward (there s);
      first_child = (h b).first_child;
      last_child = (h b).last_child;
    }
agree-with types m m1 TwinBackward a x h b =
    let there : IsSegment (with_pointer m TwinBackward a x) b → IsSegment m b = λ s. record { some = s.some; here = s.here } in
    record {
      here = (h b).here;
      code = (h b).code;
      bytes = λ s. (h b).bytes (there s);
      delete_byte = λ s. (h b).delete_byte (there s);
      forward = λ s. (h b).forward (there s);
      backward = λ s kept. ap (λ (y : ℕ). cond (b == a) x y) ((h b).backward (there s) kept);
      first_child = (h b).first_child;
      last_child = (h b).last_child;
    }
agree-with types m m1 (FirstChild t) a x h b =
    let there : IsSegment (with_pointer m (FirstChild t) a x) b → IsSegment m b = λ s. record { some = s.some; here = s.here } in
    record {
      here = (h b).here;
      code = (h b).code;
      bytes = λ s. (h b).bytes (there s);
      delete_byte = λ s. (h b).delete_byte (there s);
      forward = λ s. (h b).forward (there s);
      backward = λ s. (h b).backward (there s);
      first_child = λ u e child. ap (λ (y : ℕ). cond (b == a && u == t) x y) ((h b).first_child u e child);
      last_child = (h b).last_child;
    }
agree-with types m m1 (LastChild t) a x h b =
    let there : IsSegment (with_pointer m (LastChild t) a x) b → IsSegment m b = λ s. record { some = s.some; here = s.here } in
    record {
      here = (h b).here;
      code = (h b).code;
      bytes = λ s. (h b).bytes (there s);
      delete_byte = λ s. (h b).delete_byte (there s);
      forward = λ s. (h b).forward (there s);
      backward = λ s. (h b).backward (there s);
      first_child = (h b).first_child;
      last_child = λ u e child kept. ap (λ (y : ℕ). cond (b == a && u == t) x y) ((h b).last_child u e child kept);
    }

agree-either : (types : List SegmentType) (k : Bool) (m n m1 n1 : Links) → Agree types m m1 → Agree types n n1 → Agree types (cond k m n) (cond k m1 n1)
agree-either types true m n m1 n1 h i = h
agree-either types false m n m1 n1 h i = i

pub agree-following : (types : List SegmentType) (m m1 : Links) (h t y x : ℕ) → Agree types m m1 → Agree types (following m h t y x) (following m1 h t y x)
agree-following types m m1 h t y x agree =
    agree-either types (y == 0) (with_pointer m (FirstChild t) h x) (with_pointer m TwinForward y x) (with_pointer m1 (FirstChild t) h x) (with_pointer m1 TwinForward y x)
    (agree-with types m m1 (FirstChild t) h x agree) (agree-with types m m1 TwinForward y x agree)

pub agree-preceding : (types : List SegmentType) (m m1 : Links) (h t y x : ℕ) → Agree types m m1 → Agree types (preceding m h t y x) (preceding m1 h t y x)
agree-preceding types m m1 h t y x agree =
    agree-either types (y == 0) (with_pointer m (LastChild t) h x) (with_pointer m TwinBackward y x) (with_pointer m1 (LastChild t) h x) (with_pointer m1 TwinBackward y x)
    (agree-with types m m1 (LastChild t) h x agree) (agree-with types m m1 TwinBackward y x agree)

pub agree-named : (types : List SegmentType) (m m1 : Links) (h t y x a : ℕ) → Agree types m m1 → Agree types (named m h t y x a) (named m1 h t y x a)
agree-named types m m1 h t y x a agree =
    agree-preceding types (following m h t y a) (following m1 h t y a) h t x a (agree-following types m m1 h t y a agree)

-- what is so of both is so of either
pub either : {X : Type 0} (g : Links → X) (z : X) (k : Bool) (m n : Links) → g m ≡ z → g n ≡ z → g (cond k m n) ≡ z
either g z true m n e f = e
either g z false m n e f = f

-- ---- the place of a twin

-- it stays where the records there and their codes do
pub place-stays : (types : List SegmentType) (m n : Links) (h t y : ℕ) → ((b : ℕ) → m.here b ≡ true → n.here b ≡ true) → ((b : ℕ) → m.here b ≡ true → n.code b ≡ m.code b)
    → IsTwinPlace types m h t y → IsTwinPlace types n h t y
place-stays types m n h t y here code p = record {
  parent = here h p.parent;
  typed = ap (λ c. is_child_type types c t) (code h p.parent) ∙ p.typed;
  twin = λ some. here y (p.twin some);
  twin_code = λ some. code y (p.twin some) ∙ p.twin_code some;
}

pub place-following : (types : List SegmentType) (m n : Links) (h t y a z : ℕ) → Agree types (following m h t y a) n → IsTwinPlace types m h t z → IsTwinPlace types n h t z
place-following types m n h t y a z agree p =
    let here : (b : ℕ) → (following m h t y a).here b ≡ m.here b = λ b. either (λ k. k.here b) (m.here b) (y == 0) (with_pointer m (FirstChild t) h a) (with_pointer m TwinForward y a) refl refl in
    let code : (b : ℕ) → (following m h t y a).code b ≡ m.code b = λ b. either (λ k. k.code b) (m.code b) (y == 0) (with_pointer m (FirstChild t) h a) (with_pointer m TwinForward y a) refl refl in
    place-stays types m n h t z (λ b e. (agree b).here ∙ here b ∙ e) (λ b e. (agree b).code (here b ∙ e) ∙ code b) p
