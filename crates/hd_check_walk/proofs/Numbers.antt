-- What tells two keys apart by their first eight bytes.
use Rattle.std.proofs.Common.{◌≡◌, ℕ, ◌<◌, ◌≤◌, List, length, sym, ap₂, ◌∙◌, arith, get_or, w64}
use Rattle.std.specs.Int.{from_be_bytes}
use Rattle.std.specs.Ordering.{nat_cmp}
use Rattle.std.specs.Cmp.{nat_cmp_is}
use Rattle.std.specs.Cmp.Lexicographic.{slice_cmp}
use Rattle.std.specs.declared.cmp.Ordering.TheVariants.{Less}
use Rattle.std.proofs.lemmas.List.{take_all}
use Rattle.hd_dbd.proofs.KeyOrder.{eight-order}

-- eight bytes are less where the number that they make, the highest first, is less
pub numbers-tell : (one other : List ℕ) → length one ≡ 8 → length other ≡ 8 → ((i : ℕ) → get_or one i 0 < 256) → ((i : ℕ) → get_or other i 0 < 256)
    → from_be_bytes w64 one < from_be_bytes w64 other → slice_cmp nat_cmp one other ≡ Less
numbers-tell one other l k small low less =
    let all : length one ≤ 8 = omega arith in
    let both : length other ≤ 8 = omega arith in
    ap₂ (slice_cmp nat_cmp) (sym (take_all 8 one all)) (sym (take_all 8 other both))
    ∙ sym (eight-order one other (omega arith) (omega arith) small low)
    ∙ ap₂ (λ us vs. nat_cmp (from_be_bytes w64 us) (from_be_bytes w64 vs)) (take_all 8 one all) (take_all 8 other both)
    ∙ sym (nat_cmp_is (from_be_bytes w64 one) (from_be_bytes w64 other) Less less)
