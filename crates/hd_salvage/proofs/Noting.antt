-- The parts to which a reader of a block comes, whatever its bytes are: they stand one behind the other, within the block.
use Rattle.std.proofs.Common.{◌≡◌, ◌≢◌, ◌⊎◌, inl, inr, ℕ, zero, suc, ◌+◌, ◌<◌, ◌≤◌, Bool, true, false, List, [], ◌∷◌, length, ◌==◌, Option, Some, None, ◌++◌, refl, sym, ap, subst, ◌∙◌, arith, cond, ne_eqb}
use Rattle.std.specs.Prelude.{All, slice_index_or}
use Rattle.std.proofs.lemmas.List.{append_assoc, append-nil}
use Rattle.std.proofs.lemmas.List.Elements.{All-push, All-append}
use Rattle.std.proofs.lemmas.Bool.{cases_Bool, cases_eq, eq-eqb, cond-true, cond-false}
use Rattle.hd_bytes.specs.Blocks.{HasBlock}
use Rattle.hd_bytes.specs.Numbers.{number_at}
use Rattle.hd_dbd.specs.declared.facts.SegmentSize.{SegmentSize}
use Rattle.hd_block.specs.Sizes.{size_at}
use Rattle.hd_block.specs.Walk.{part_fits, walk_parts, parts_from, parts_in}
use Rattle.hd_block.specs.declared.parts.Part.{Part}
use Rattle.hd_block.specs.declared.parts.Part.TheVariants.{Free, Used}
use Rattle.hd_block.proofs.PartLemmas.{fits-some, fits-within}
use Rattle.hd_volume.specs.Volumes.{VolumeState, block_at, kind_of}
use Rattle.hd_volume.specs.Records.{used_at}
use Rattle.hd_salvage.specs.declared.record.Record.{Record}
use Rattle.hd_salvage.specs.Records.{IsNotedIn, IsNoted, NotesOnly, NotesOne}

-- a part is among some
abbrev pub IsAmong : Part → List Part → Type 0
IsAmong x [] = ⊥
IsAmong x (y ∷ ys) = (x ≡ y) ⊎ IsAmong x ys

-- Segments among parts are found at their places, which begin at p or behind it, inside the block.
record AreFound (b : List ℕ) (p : ℕ) (parts : List Part) : Type 0 where
  from : (q n : ℕ) → IsAmong (Used q n) parts → p ≤ q
  inside : (q n : ℕ) → IsAmong (Used q n) parts → q < length b
  found : (q n : ℕ) → IsAmong (Used q n) parts → used_at parts q ≡ Some n

-- two segments that are the same part stand at one place, and have one size
same-place : (p q n m : ℕ) → ◌≡◌ {A = Part} (Used p n) (Used q m) → (p ≡ q) × (n ≡ m)
same-place p q n m e = (cc, cc)

-- a segment is no free element
not-free : (p q n m : ℕ) → ◌≡◌ {A = Part} (Used p n) (Free q m) → ⊥
not-free p q n m e = cc

none-found : (b : List ℕ) (p : ℕ) → AreFound b p []
none-found b p = record { from = λ q n i. absurd i; inside = λ q n i. absurd i; found = λ q n i. absurd i }

-- a free element in front of parts
behind-free : (b : List ℕ) (p k : ℕ) (parts : List Part) → AreFound b (p + k) parts → AreFound b p (Free p k ∷ parts)
behind-free b p k parts a = record {
  from = λ q n i. elim i [ inl e ↦ absurd (not-free q p n k e) | inr o ↦ (let f = a.from q n o in omega arith) ];
  inside = λ q n i. elim i [ inl e ↦ absurd (not-free q p n k e) | inr o ↦ a.inside q n o ];
  found = λ q n i. elim i [ inl e ↦ absurd (not-free q p n k e) | inr o ↦ a.found q n o ];
}

-- a segment in front of parts
behind-used : (b : List ℕ) (p k : ℕ) (parts : List Part) → 8 ≤ k → p + k ≤ length b → AreFound b (p + k) parts → AreFound b p (Used p k ∷ parts)
behind-used b p k parts some fits a = record {
  from = λ q n i. elim i [ inl e ↦ (let s = (same-place q p n k e).0 in omega arith) | inr o ↦ (let f = a.from q n o in omega arith) ];
  inside = λ q n i. elim i [ inl e ↦ (let s = (same-place q p n k e).0 in omega arith) | inr o ↦ a.inside q n o ];
  found = λ q n i. elim i [
    | inl e ↦ (let s = same-place q p n k e in cond-true (p == q) (Some k) (used_at parts q) (eq-eqb p q (sym s.0)) ∙ ap (λ (m : ℕ). Some m) (sym s.1))
    | inr o ↦ (let f = a.from q n o in cond-false (p == q) (Some k) (used_at parts q) (ne_eqb p q (λ e. omega arith)) ∙ a.found q n o)
  ];
}

-- where a test decides, either way
by-test : (P : List Part → Type 0) (test : Bool) (xs ys : List Part) → (test ≡ true → P xs) → (test ≡ false → P ys) → P (cond test xs ys)
by-test P true xs ys t f = t refl
by-test P false xs ys t f = f refl

-- the parts of a walk are found
walk-found : (sizes : List SegmentSize) (b : List ℕ) (more place next : ℕ) → AreFound b place (walk_parts sizes b more place next)
unfolding walk_parts
walk-found sizes b zero place next = none-found b place
walk-found sizes b (suc more) place next =
    let free : ℕ = number_at 2 b (place + 2) in
    let own : ℕ = size_at sizes b place in
    by-test (AreFound b place) (place == next) _ _
    (λ _. by-test (AreFound b place) (part_fits b place free) _ _
    (λ _. behind-free b place free _ (walk-found sizes b more (place + free) (number_at 2 b place)))
    (λ _. none-found b place))
    (λ _. by-test (AreFound b place) (part_fits b place own) _ _
    (λ fits. behind-used b place own _ (fits-some b place own fits) (fits-within b place own fits) (walk-found sizes b more (place + own) next))
    (λ _. none-found b place))

-- a segment among the parts of a block is found at its place
pub parts-found : (sizes : List SegmentSize) (b : List ℕ) (p n : ℕ) → IsAmong (Used p n) (parts_in sizes b) → used_at (parts_in sizes b) p ≡ Some n
parts-found sizes b p n i = (walk-found sizes b _ 8 (number_at 2 b 0)).found p n i

-- and stands inside the block
parts-inside : (sizes : List SegmentSize) (b : List ℕ) (p n : ℕ) → IsAmong (Used p n) (parts_in sizes b) → p < length b
parts-inside sizes b p n i = (walk-found sizes b _ 8 (number_at 2 b 0)).inside p n i

-- ---- what is noted

-- at first nothing is
pub notes-none : (sizes : List SegmentSize) (b : List ℕ) (n : ℕ) (records : List Record) → NotesOnly sizes b n records records
notes-none sizes b n records = record { more = []; are = sym (append-nil records); of = λ k d l. absurd (omega arith); noted = λ k d l. absurd (omega arith) }

-- a segment among the parts of a data block is noted behind others of it
pub notes-more : (sizes : List SegmentSize) (b : List ℕ) (n p size : ℕ) (old mid new : List Record) → kind_of b ≡ 1 → IsAmong (Used p size) (parts_in sizes b)
    → NotesOnly sizes b n old mid → NotesOne n p size mid new → NotesOnly sizes b n old new
notes-more sizes b n p size old mid new of_data among some one = record {
  more = some.more ++ one.one ∷ [];
  are = one.are ∙ ap (λ (xs : List Record). xs ++ one.one ∷ []) some.are ∙ append_assoc old some.more (one.one ∷ []);
  of = All-push (λ (r : Record). r.block ≡ n) some.more one.one some.of one.of;
  noted = All-push (IsNotedIn sizes b) some.more one.one some.noted
      (record {
        kind = of_data;
        used = ap (λ (q : ℕ). used_at (parts_in sizes b) q) one.place_is ∙ parts-found sizes b p size among ∙ ap (λ (m : ℕ). Some m) (sym one.size_is);
        inside = (let inside = parts-inside sizes b p size among in let same = one.place_is in omega arith);
      });
}

-- what is noted of a block of a volume is noted of the volume
pub notes-of : (v : VolumeState) (n : ℕ) (old new : List Record) → 0 < n → HasBlock v.size v.image n → NotesOnly v.sizes (block_at v n) n old new → All (IsNoted v) old → All (IsNoted v) new
notes-of v n old new later there notes all =
    subst (All (IsNoted v)) (sym notes.are)
    (All-append (IsNoted v) old notes.more all (λ k d l. one (slice_index_or notes.more k d) (notes.of k d l) (notes.noted k d l)))
  where
    one : (r : Record) → r.block ≡ n → IsNotedIn v.sizes (block_at v n) r → IsNoted v r
    one r at noted = record {
      later = subst (λ (m : ℕ). 0 < m) (sym at) later;
      there = subst (λ (m : ℕ). HasBlock v.size v.image m) (sym at) there;
      noted = subst (λ (m : ℕ). IsNotedIn v.sizes (block_at v m) r) (sym at) noted;
    }
