-- The free parts that a reader of a block finds stand along its chain of free elements.
use Rattle.std.proofs.Common.{◌≡◌, ℕ, zero, suc, ◌+◌, ◌<◌, ◌≤◌, ◌⊎◌, inl, inr, ◌==◌, Bool, true, false, List, [], ◌∷◌, length, cond, refl, arith}
use Rattle.std.proofs.lemmas.Bool.{eqb-true}
use Rattle.hd_bytes.specs.Numbers.{number_at}
use Rattle.hd_block.specs.Walk.{part_fits, walk_parts, HolesAreWithin}
use Rattle.hd_block.specs.declared.parts.Part.{Part}
use Rattle.hd_block.specs.declared.parts.Part.TheVariants.{Free, Used}
use Rattle.hd_block.proofs.PartLemmas.{fits-some, fits-within}
use Rattle.hd_dbd.specs.declared.facts.SegmentSize.{SegmentSize}
use Rattle.hd_block.specs.Sizes.{size_at}

-- the parts from a place on, by what stands there
by-first : (b p n q m : ℕ) (xs ys : List Part) (is_free fits_free fits_used : Bool) → (is_free ≡ true → fits_free ≡ true → (n ≤ b) × HolesAreWithin b xs) → (is_free ≡ false → fits_used ≡ true → HolesAreWithin b ys)
    → HolesAreWithin b (cond is_free (cond fits_free (Free p n ∷ xs) []) (cond fits_used (Used q m ∷ ys) []))
by-first b p n q m xs ys true true u f g = f refl refl
by-first b p n q m xs ys true false u f g = tt
by-first b p n q m xs ys false t true f g = g refl refl
by-first b p n q m xs ys false t false f g = tt

module _ (sizes : List SegmentSize) (bytes : List ℕ) (b end next : ℕ) where
  -- where no free element begins behind a place, no free part is found
  pub none-free : (next < end) ⊎ (length bytes < next + 8) → (more place : ℕ) → end ≤ place → HolesAreWithin b (walk_parts sizes bytes more place next)
  unfolding walk_parts
  none-free out zero place low = tt
  none-free out (suc more) place low =
      by-first b place (number_at 2 bytes (place + 2)) place (size_at sizes bytes place) _ _ (place == next) (part_fits bytes place (number_at 2 bytes (place + 2))) (part_fits bytes place (size_at sizes bytes place))
      (λ same fits.
      let at : place ≡ next = eqb-true place next same in
      let some = fits-some bytes place (number_at 2 bytes (place + 2)) fits in
      let within = fits-within bytes place (number_at 2 bytes (place + 2)) fits in
      elim out [ inl l ↦ absurd (omega arith) | inr l ↦ absurd (omega arith) ])
      (λ other fits. none-free out more (place + size_at sizes bytes place) (omega arith))

  -- where a free element begins behind a place, it is the first free part that is found, if any is, and the others are found behind it
  pub free-behind : number_at 2 bytes (next + 2) ≤ b → ((more place : ℕ) → next + 8 ≤ place → HolesAreWithin b (walk_parts sizes bytes more place (number_at 2 bytes next)))
      → (more place : ℕ) → end ≤ place → HolesAreWithin b (walk_parts sizes bytes more place next)
  unfolding walk_parts
  free-behind few behind zero place low = tt
  free-behind few behind (suc more) place low =
      by-first b place (number_at 2 bytes (place + 2)) place (size_at sizes bytes place) _ _ (place == next) (part_fits bytes place (number_at 2 bytes (place + 2))) (part_fits bytes place (size_at sizes bytes place))
      (λ same fits.
      let at : place ≡ next = eqb-true place next same in
      let some : 8 ≤ number_at 2 bytes (next + 2) = rw at at (fits-some bytes place (number_at 2 bytes (place + 2)) fits) in
      rw at (few, behind more (next + number_at 2 bytes (next + 2)) (omega arith)))
      (λ other fits. free-behind few behind more (place + size_at sizes bytes place) (omega arith))
