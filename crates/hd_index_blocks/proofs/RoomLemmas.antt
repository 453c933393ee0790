-- What a well-formed database says of its root's key.
use Rattle.std.proofs.lemmas.Bool.{cases_lt}
use Rattle.std.proofs.Math.Nat.{mul-le-mul_right}
use Rattle.std.proofs.Common.{inl, inr, ◌≡◌, ◌+◌, ◌-◌, ◌*◌, ◌/◌, ◌<◌, ◌≤◌, ℕ, List, true, IsTrue, Some, None, arith, refl, Option}
use Rattle.std.specs.Prelude.{nat_le}
use Rattle.std.specs.Option.{option_map_or}
use Rattle.std.proofs.lemmas.Bool.{and_parts, leb-true}
use Rattle.hd_dbd.specs.declared.hierarchy.FreeSpace.{FreeSpace}
use Rattle.hd_dbd.specs.declared.hierarchy.Key.{Key}
use Rattle.hd_dbd.specs.Types.{SegmentType}
use Rattle.hd_dbd.specs.Hierarchy.{type_of}
use Rattle.hd_dbd.specs.DatabaseRules.{well_formed}
use Rattle.hd_dbd.proofs.Fitting.{type_of-fits, types_fit}
use Rattle.hd_dbd.proofs.StoredSizes.{block_size-bounds}
use Rattle.hd_volume.specs.Indexes.{root_key_length}

-- three entries find room behind the first 12 bytes of a block, and a key has at most 255 bytes
three-of : (size : ℕ) (key : Option Key) → 128 ≤ size → option_map_or (λ k. nat_le (12 + 3 * (k.length + 4)) size) key true ≡ true → option_map_or (λ k. nat_le k.length 255) key true ≡ true
    → (12 + 3 * (option_map_or (λ k. k.length) key 0 + 4) ≤ size) × (option_map_or (λ k. k.length) key 0 ≤ 255)
three-of size None least three short = (omega arith, omega arith)
three-of size (Some k) least three short = (leb-true (12 + 3 * (k.length + 4)) size three, leb-true k.length 255 short)

-- the same of the root type, if there is one
root-of : (size : ℕ) (frspc : FreeSpace) (types : List SegmentType) (o : Option SegmentType) → IsTrue (well_formed size frspc types) → type_of types 1 ≡ o
    → (12 + 3 * (option_map_or (λ t. option_map_or (λ k. k.length) t.key 0) o 0 + 4) ≤ size) × (option_map_or (λ t. option_map_or (λ k. k.length) t.key 0) o 0 ≤ 255)
root-of size frspc types None well is = (let b = block_size-bounds size frspc types well in omega arith, omega arith)
root-of size frspc types (Some t) well is =
    let fits = and_parts _ _ (type_of-fits size types 1 t (types_fit size frspc types well) is) in
    let sizes = and_parts _ _ (and_parts _ _ fits.0).1 in
    let bounds = block_size-bounds size frspc types well in
    three-of size t.key bounds.0 sizes.1 fits.1

-- and of the root's key
pub root-fits : (size : ℕ) (frspc : FreeSpace) (types : List SegmentType) → IsTrue (well_formed size frspc types) → (12 + 3 * (root_key_length types + 4) ≤ size) × (root_key_length types ≤ 255)
root-fits size frspc types well = root-of size frspc types (type_of types 1) well refl

-- so many entries find room, and no more
pub room-most : (k s c : ℕ) → 12 + c * (k + 4) ≤ s → c ≤ (s - 12) / (k + 4)
room-most k s c fits = elim (cases_lt ((s - 12) / (k + 4)) c) [
  | inl more ↦
      (let q : ℕ = (s - 12) / (k + 4) in
      let up : (q + 1) * (k + 4) ≤ c * (k + 4) = mul-le-mul_right (k + 4) (let l : q + 1 ≤ c = omega arith in l) in
      let parts : (q + 1) * (k + 4) ≡ (k + 4) * q + (k + 4) = omega arith in
      let rest : s - 12 < (k + 4) * q + (k + 4) = quotient (s - 12) (k + 4) (omega arith) in
      absurd (omega arith))
  | inr l ↦ l
]
  where
    quotient : (x w : ℕ) → 0 < w → x < w * (x / w) + w
    quotient x w some = omega arith

-- entries that find room end within the block
pub room-within : (k s c : ℕ) → 12 ≤ s → c ≤ (s - 12) / (k + 4) → 12 + c * (k + 4) ≤ s
room-within k s c least l =
    let q : ℕ = (s - 12) / (k + 4) in
    let up : c * (k + 4) ≤ q * (k + 4) = mul-le-mul_right (k + 4) l in
    let turn : q * (k + 4) ≡ (k + 4) * q = omega arith in
    let rest : (k + 4) * q ≤ s - 12 = quotient (s - 12) (k + 4) in
    omega arith
  where
    quotient : (x w : ℕ) → w * (x / w) ≤ x
    quotient x w = omega arith
