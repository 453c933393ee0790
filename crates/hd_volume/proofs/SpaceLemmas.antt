-- What is kept of the blocks of a volume.
use Rattle.std.proofs.Common.{◌≡◌, inl, inr, ℕ, zero, suc, ◌+◌, ◌*◌, ◌/◌, ◌%◌, ◌<◌, ◌≤◌, Bool, true, false, ◌==◌, List, [], ◌∷◌, ◌++◌, length, slice_index, slice_index_or, refl, ap, ◌∙◌, arith, add-one, ne_eqb}
use Rattle.std.proofs.lemmas.Bool.{cases_lt}
use Rattle.std.proofs.lemmas.Nat.{row_fits}
use Rattle.std.proofs.lemmas.List.{get_or_append_left, get_or-append-add}
use Rattle.hd_bytes.specs.Blocks.{block_of, HasBlock}
use Rattle.hd_bytes.specs.Numbers.{number_at}
use Rattle.hd_bytes.proofs.BlockLemmas.{place-of, byte-in-block}
use Rattle.hd_bytes.proofs.NumberLemmas.{number-same}
use Rattle.hd_block.specs.declared.parts.Part.{Part}
use Rattle.hd_block.specs.declared.parts.Part.TheVariants.{Free, Used}
use Rattle.hd_block.specs.Walk.{HolesAreWithin}
use Rattle.hd_volume.specs.declared.space.Content.{Content}
use Rattle.hd_volume.specs.Volumes.{kind_of}
use Rattle.hd_volume.specs.Rooms.{is_free, one_if, free_below, largest_hole}

-- no hole is larger than the free parts may be
pub hole-within : (most : ℕ) (parts : List Part) → HolesAreWithin most parts → largest_hole parts ≤ most
hole-within most [] h = omega arith
hole-within most (Free p n ∷ parts) h = let rest = hole-within most parts h.1 in let own = h.0 in omega arith
hole-within most (Used p n ∷ parts) h = hole-within most parts h

-- a whole block is one of the image's
pub has-block : (size n : ℕ) (image : List ℕ) → 0 < size → n < length image / size → HasBlock size image n
has-block size n image some below =
    let at = place-of size (length image) some in
    let fits : n * size + size ≤ (length image / size) * size = row_fits n size (length image / size) size below (omega arith) in
    omega arith

-- and a block of the image is a whole one
pub whole-block : (size n : ℕ) (image : List ℕ) → 0 < size → HasBlock size image n → n < length image / size
whole-block size n image some there =
    let at = place-of size (length image) some in
    let low : length image % size < size = omega arith in
    elim (cases_lt n (length image / size)) [
      | inl l ↦ l
      | inr l ↦ absurd (elim (cases_lt (length image / size) n) [
        | inl m ↦ (let fits : (length image / size) * size + size ≤ n * size = row_fits (length image / size) size n size m (omega arith) in omega arith)
        | inr m ↦ (let e : n ≡ length image / size = omega arith in let f : n * size ≡ (length image / size) * size = ap (λ (k : ℕ). k * size) e in omega arith)
      ])
    ]

-- one block more
pub free-more : (size : ℕ) (image : List ℕ) (n : ℕ) → free_below size image (n + 1) ≡ free_below size image n + one_if (is_free size image n)
free-more size image n = rw add-one refl

-- a block is counted by the kind that is kept of it
pub free-counted : (size : ℕ) (image : List ℕ) (n kind : ℕ) → (n ≡ 0 → kind ≡ 0) → (0 < n → kind ≡ kind_of (block_of size image n)) → one_if (kind == 3) ≡ one_if (is_free size image n)
free-counted size image zero kind first later = rw (first refl) refl
free-counted size image (suc n) kind first later = rw (ne_eqb (suc n) 0 (λ e. omega arith), later (omega arith)) refl

pub one-most : (b : Bool) → one_if b ≤ 1
one-most true = omega arith
one-most false = omega arith

-- of contents to which one was added, the earlier ones, and the new one
pub content-before : (xs : List Content) (x d : Content) (m : ℕ) → m < length xs → slice_index_or (xs ++ x ∷ []) m d ≡ slice_index_or xs m d
content-before xs x d m below = get_or_append_left xs (x ∷ []) d m below

pub content-last : (xs : List Content) (x d : Content) (m : ℕ) → m ≡ length xs → slice_index_or (xs ++ x ∷ []) m d ≡ x
content-last xs x d m is = let at : m ≡ length xs + 0 = omega arith in rw at (get_or-append-add xs (x ∷ []) 0 d)

-- the numbers of block 0 are those of the image
pub number-in-first : (size k p : ℕ) (image : List ℕ) → HasBlock size image 0 → p + k ≤ size → number_at k (block_of size image 0) p ≡ number_at k image p
number-in-first size k p image there fits =
    number-same k p (block_of size image 0) image (λ j low high. byte-in-block size 0 j image there (omega arith) ∙ ap (slice_index image) (let e : 0 * size + j ≡ j = omega arith in e))
