-- The first of the lines of some bytes.
use Rattle.std.proofs.Common.{◌≡◌, ℕ, ◌+◌, ◌<◌, List, [], ◌∷◌, length, take, drop, Bool, true, false, None, Some, arith, ◌∙◌, ap, refl}
use Rattle.std.specs.List.{slice_split, position_or_len}
use Rattle.std.specs.Str.Lines.{lines, lines_of_parts, strip_carriage_return}
use Rattle.std.proofs.lemmas.List.Elements.{All-from_get_or}
use Rattle.std.proofs.lemmas.List.Splits.{slice_split_none, slice_split_first, length-slice_split}
use Rattle.std.proofs.lemmas.List.Sums.{position_or_len_is}
use Rattle.std.proofs.lemmas.Bool.Decides.{nat_tests}
use Rattle.memchr.specs.Find.{IsFirstByte, is_byte}

-- a test that is not true is false
unless_true : (b : Bool) → (b ≡ true → ⊥) → b ≡ false
unless_true true not = absurd (not refl)
unless_true false not = refl

-- a part before others is a line, and so are the others
line_before : (part : List ℕ) (parts : List (List ℕ)) → 0 < length parts → lines_of_parts (part ∷ parts) ≡ strip_carriage_return part ∷ lines_of_parts parts
line_before part [] some = absurd (omega arith)
line_before part (next ∷ more) some = refl

-- the first line ends at the first line feed
pub line_to_feed : (bytes : List ℕ) (k : ℕ) → IsFirstByte (is_byte 10) bytes (Some k) → lines bytes ≡ strip_carriage_return (take k bytes) ∷ lines (drop (k + 1) bytes)
line_to_feed bytes k first =
    let here : position_or_len (is_byte 10) bytes ≡ k =
    position_or_len_is (is_byte 10) bytes k 0 (omega (arith, first.0.high)) (λ j below. unless_true _ (first.0.before j (omega arith) below)) (λ within. first.1) in
    let parts : slice_split (is_byte 10) bytes ≡ take k bytes ∷ slice_split (is_byte 10) (drop (k + 1) bytes) =
    slice_split_first (is_byte 10) bytes 0 (omega (arith, here, first.0.high)) ∙ ap (λ (n : ℕ). take n bytes ∷ slice_split (is_byte 10) (drop (n + 1) bytes)) here in
    let some : 0 < length (slice_split (is_byte 10) (drop (k + 1) bytes)) = omega (arith, length-slice_split (is_byte 10) (drop (k + 1) bytes)) in
    ap lines_of_parts parts ∙ line_before (take k bytes) (slice_split (is_byte 10) (drop (k + 1) bytes)) some

-- a part with no line feed behind it is the last line
last_part : (bytes : List ℕ) → 0 < length bytes → lines_of_parts (bytes ∷ []) ≡ bytes ∷ []
last_part [] some = absurd (omega arith)
last_part (b ∷ bytes) some = grind (arith, nat_tests)

-- bytes without a line feed are one line
pub line_to_end : (bytes : List ℕ) → 0 < length bytes → IsFirstByte (is_byte 10) bytes None → lines bytes ≡ bytes ∷ []
line_to_end bytes some none =
    ap lines_of_parts (slice_split_none (is_byte 10) bytes (All-from_get_or (λ b. is_byte 10 b ≡ false) bytes 0 (λ k below. unless_true _ (none k (omega arith) below)))) ∙ last_part bytes some
