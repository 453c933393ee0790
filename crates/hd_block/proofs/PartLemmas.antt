-- The parts that a reader of a block finds are those of its division.
use Rattle.std.proofs.Common.{ne_eqb, ◌≡◌, ◌≢◌, ℕ, zero, suc, ◌+◌, ◌-◌, ◌<◌, ◌≤◌, ◌⊎◌, inl, inr, nat_le, ◌==◌, Bool, true, false, ◌&&◌, List, [], ◌∷◌, length, refl, sym, ap, ◌∙◌, arith, cond}
use Rattle.std.proofs.lemmas.Bool.{eq-eqb, le-leb, lt-leb, leb-true, cases_lt}
use Rattle.hd_bytes.specs.Numbers.{number_at}
use Rattle.hd_block.specs.Extents.{Extent, free, used, taken, Fill, IsDivided, AreWhole}
use Rattle.hd_block.specs.Parts.{parts_of}
use Rattle.hd_block.specs.Walk.{part_fits, walk_parts, parts_from, parts_in}
use Rattle.hd_block.specs.declared.parts.Part.{Part}
use Rattle.hd_block.specs.declared.parts.Part.TheVariants.{Free, Used}
use Rattle.hd_block.proofs.Walk.{fill-within}
use Rattle.hd_dbd.specs.declared.facts.SegmentSize.{SegmentSize}
use Rattle.hd_block.specs.Sizes.{size_at}

-- a part that has room for an element and ends within the block
fits : (b : List ℕ) (place n : ℕ) → 8 ≤ n → place + n ≤ length b → part_fits b place n ≡ true
fits b place n l h = rw (le-leb 8 n l, le-leb (place + n) (length b) h) refl

-- nothing and what is false
and-false : (t : Bool) → (t && false) ≡ false
and-false true = refl
and-false false = refl

-- a part that has none, or ends behind it
fits-not : (b : List ℕ) (place n : ℕ) → (n < 8) ⊎ (length b < place + n) → part_fits b place n ≡ false
fits-not b place n (inl l) = rw (lt-leb 8 n l) refl
fits-not b place n (inr l) = ap (λ t. nat_le 8 n && t) (lt-leb (place + n) (length b) l) ∙ and-false (nat_le 8 n)

-- the first of two that are both true
and-left : (t u : Bool) → (t && u) ≡ true → t ≡ true
and-left true u e = refl
and-left false u e = e

-- and the second
and-right : (t u : Bool) → (t && u) ≡ true → u ≡ true
and-right true u e = e
and-right false u e = absurd (cc)

-- what fits has room for an element
pub fits-some : (b : List ℕ) (place n : ℕ) → part_fits b place n ≡ true → 8 ≤ n
fits-some b place n e = leb-true 8 n (and-left (nat_le 8 n) (nat_le (place + n) (length b)) e)

-- and ends within the block
pub fits-within : (b : List ℕ) (place n : ℕ) → part_fits b place n ≡ true → place + n ≤ length b
fits-within b place n e = leb-true (place + n) (length b) (and-right (nat_le 8 n) (nat_le (place + n) (length b)) e)

-- of two lists with one head where a test holds, and none elsewhere
same-parts : (test : Bool) (x : Part) (xs ys : List Part) → (test ≡ true → xs ≡ ys) → cond test (x ∷ xs) [] ≡ cond test (x ∷ ys) []
same-parts true x xs ys h = ap (λ (z : List Part). x ∷ z) (h refl)
same-parts false x xs ys h = refl

-- no parts on either way
neither : (t : Bool) → ◌≡◌ {A = List Part} (cond t [] []) []
neither true = refl
neither false = refl

-- no part begins near the end of the block
past-end : (sizes : List SegmentSize) (b : List ℕ) (more place next : ℕ) → length b < place + 8 → walk_parts sizes b more place next ≡ []
unfolding walk_parts
past-end sizes b zero place next l = refl
past-end sizes b (suc more) place next l =
    let none : (n : ℕ) → part_fits b place n ≡ false = λ n. fits-not b place n (elim (cases_lt n 8) [ inl k ↦ inl k | inr k ↦ inr (omega arith) ]) in
    rw (none (number_at 2 b (place + 2)), none (size_at sizes b place)) (neither (place == next))

-- a walk that may go on to the end is one, however far it may go
walk-enough : (sizes : List SegmentSize) (b : List ℕ) (s t place next : ℕ) → length b ≤ place + s → length b ≤ place + t → walk_parts sizes b s place next ≡ walk_parts sizes b t place next
unfolding walk_parts
walk-enough sizes b zero t place next h k = sym (past-end sizes b t place next (omega arith))
walk-enough sizes b (suc s) zero place next h k = past-end sizes b (suc s) place next (omega arith)
walk-enough sizes b (suc s) (suc t) place next h k =
    let n : ℕ = number_at 2 b (place + 2) in
    let m : ℕ = size_at sizes b place in
    let frees = same-parts (part_fits b place n) (Free place n) (walk_parts sizes b s (place + n) (number_at 2 b place)) (walk_parts sizes b t (place + n) (number_at 2 b place))
    (λ e. let some = fits-some b place n e in walk-enough sizes b s t (place + n) (number_at 2 b place) (omega arith) (omega arith)) in
    let useds = same-parts (part_fits b place m) (Used place m) (walk_parts sizes b s (place + m) next) (walk_parts sizes b t (place + m) next)
    (λ e. let some = fits-some b place m e in walk-enough sizes b s t (place + m) next (omega arith) (omega arith)) in
    rw (frees, useds) refl

-- a free element that fits is the walk's next part
walk-free : (sizes : List SegmentSize) (b : List ℕ) (s place next n : ℕ) → place ≡ next → n ≡ number_at 2 b (place + 2) → 8 ≤ n → place + n ≤ length b → length b ≤ place + s
    → walk_parts sizes b s place next ≡ Free place n ∷ parts_from sizes b (place + n) (number_at 2 b place)
unfolding walk_parts
walk-free sizes b zero place next n e len some within enough = absurd (omega arith)
walk-free sizes b (suc s) place next n e len some within enough =
    rw (eq-eqb place next e, sym len, fits b place n some within)
    (ap (λ (z : List Part). Free place n ∷ z) (walk-enough sizes b s (length b - (place + n)) (place + n) (number_at 2 b place) (omega arith) (omega arith)))

-- a free element that fits is a part
pub from-free : (sizes : List SegmentSize) (b : List ℕ) (place next n : ℕ) → place ≡ next → n ≡ number_at 2 b (place + 2) → 8 ≤ n → place + n ≤ length b
    → parts_from sizes b place next ≡ Free place n ∷ parts_from sizes b (place + n) (number_at 2 b place)
from-free sizes b place next n e len some within = walk-free sizes b (length b - place) place next n e len some within (omega arith)

-- a segment that fits is the walk's next part
walk-used : (sizes : List SegmentSize) (b : List ℕ) (s place next n : ℕ) → place ≢ next → n ≡ size_at sizes b place → 8 ≤ n → place + n ≤ length b → length b ≤ place + s
    → walk_parts sizes b s place next ≡ Used place n ∷ parts_from sizes b (place + n) next
unfolding walk_parts
walk-used sizes b zero place next n e len some within enough = absurd (omega arith)
walk-used sizes b (suc s) place next n e len some within enough =
    rw (ne_eqb place next e, sym len, fits b place n some within)
    (ap (λ (z : List Part). Used place n ∷ z) (walk-enough sizes b s (length b - (place + n)) (place + n) next (omega arith) (omega arith)))

-- a segment that fits is a part
pub from-used : (sizes : List SegmentSize) (b : List ℕ) (place next n : ℕ) → place ≢ next → n ≡ size_at sizes b place → 8 ≤ n → place + n ≤ length b
    → parts_from sizes b place next ≡ Used place n ∷ parts_from sizes b (place + n) next
from-used sizes b place next n e len some within = walk-used sizes b (length b - place) place next n e len some within (omega arith)

-- a walk ends where what is read does not fit
walk-none : (sizes : List SegmentSize) (b : List ℕ) (s place next n : ℕ) → (place ≡ next) × (n ≡ number_at 2 b (place + 2)) ⊎ (place ≢ next) × (n ≡ size_at sizes b place) → (n < 8) ⊎ (length b < place + n)
    → walk_parts sizes b s place next ≡ []
unfolding walk_parts
walk-none sizes b zero place next n which out = refl
walk-none sizes b (suc s) place next n (inl e) out = rw (eq-eqb place next e.0, sym e.1, fits-not b place n out) refl
walk-none sizes b (suc s) place next n (inr e) out = rw (ne_eqb place next e.0, sym e.1, fits-not b place n out) refl

-- where what is read does not fit, no part follows
pub from-none : (sizes : List SegmentSize) (b : List ℕ) (place next n : ℕ) → (place ≡ next) × (n ≡ number_at 2 b (place + 2)) ⊎ (place ≢ next) × (n ≡ size_at sizes b place) → (n < 8) ⊎ (length b < place + n)
    → parts_from sizes b place next ≡ []
from-none sizes b place next n which out = walk-none sizes b (length b - place) place next n which out

-- no part begins near the end of the block
pub from-end : (sizes : List SegmentSize) (b : List ℕ) (place next : ℕ) → length b < place + 8 → parts_from sizes b place next ≡ []
from-end sizes b place next l = past-end sizes b (length b - place) place next l

-- the parts of extents that fill the bytes
parts-filled : (sizes : List SegmentSize) (b : List ℕ) (p f : ℕ) (xs : List Extent) → Fill sizes b p f xs → AreWhole xs → parts_from sizes b p f ≡ parts_of p xs
parts-filled sizes b p f [] h w = from-end sizes b p f (omega arith)
parts-filled sizes b p f (free n ∷ xs) h w =
    let within = fill-within sizes b (p + n) (number_at 2 b p) xs h.2 in
    from-free sizes b p f n h.0 (sym h.1.element.len) h.1.element.some within ∙ ap (λ (z : List Part). Free p n ∷ z) (parts-filled sizes b (p + n) (number_at 2 b p) xs h.2 w)
parts-filled sizes b p f (used n ∷ xs) h w =
    let within = fill-within sizes b (p + n) f xs h.2 in
    from-used sizes b p f n h.0 (sym h.1.size) h.1.some within ∙ ap (λ (z : List Part). Used p n ∷ z) (parts-filled sizes b (p + n) f xs h.2 w)
parts-filled sizes b p f (taken n ∷ xs) h w = absurd w

-- the parts of a divided block are those of its division
pub parts-divided : (sizes : List SegmentSize) (b : List ℕ) (xs : List Extent) → IsDivided sizes b xs → AreWhole xs → parts_in sizes b ≡ parts_of 8 xs
parts-divided sizes b xs h w = parts-filled sizes b 8 (number_at 2 b 0) xs h w
