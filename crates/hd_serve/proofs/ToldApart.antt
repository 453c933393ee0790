-- What the bytes of foretold answers say.
use Rattle.std.proofs.Common.{◌≡◌, ◌≢◌, ℕ, ◌+◌, ◌<◌, ◌^◌, List, [], ◌∷◌, ◌++◌, length, take, drop, refl, sym, ap, ap₂, ◌∙◌, arith}
use Rattle.std.specs.List.{AllByRecursion}
use Rattle.std.specs.Int.{w32, from_be_bytes}
use Rattle.std.proofs.lemmas.List.{take_at, drop_at}
use Rattle.std.proofs.lemmas.List.Elements.{recursion_from_All}
use Rattle.std.proofs.lemmas.Nat.{from_be_bytes-to_be_bytes_4}
use Rattle.hd_dbd.specs.declared.answer.Refused.{Refused}
use Rattle.hd_dbd.specs.declared.answer.Refused.TheVariants as refused
use Rattle.hd_dbd.specs.Calls.{Reply}
use Rattle.hd_serve.specs.Frames.{frame_bytes}
use Rattle.hd_serve.specs.Answers.{answer_bytes, refusal_bytes, told_bytes}
use Rattle.hd_serve.specs.Laws.{CanBeTold, ToldAnswersAreToldApart, ForetoldIsToldApart}
use Rattle.hd_serve.proofs.Answers.{answer-long, frames}
use Rattle.hd_serve.proofs.AnswersApart.{answers-apart, segment-long}

-- the number in front of its frame
size-told : (r : Reply) (rest : List ℕ) → CanBeTold r → length r.area < 2 ^ 31 → from_be_bytes w32 (frame_bytes (answer_bytes r) ++ rest) ≡ length (answer_bytes r)
size-told r rest can few = from_be_bytes-to_be_bytes_4 (length (answer_bytes r)) (omega (arith, answer-long r, segment-long r.segment can.named, can.short, few))

told-apart : (rs ss : List Reply) → AllByRecursion CanBeTold rs → AllByRecursion CanBeTold ss → AllByRecursion (λ r. length r.area < 2 ^ 31) rs → AllByRecursion (λ r. length r.area < 2 ^ 31) ss
    → frames rs ≡ frames ss → rs ≡ ss
told-apart [] [] f g h k same = refl
told-apart [] (s ∷ ss) f g h k same = cc
told-apart (r ∷ rs) [] f g h k same = cc
told-apart (r ∷ rs) (s ∷ ss) f g h k same =
    let m : ℕ = length (answer_bytes r) in
    let size : m ≡ length (answer_bytes s) = sym (size-told r (frames rs) f.0 h.0) ∙ ap (from_be_bytes w32) same ∙ size-told s (frames ss) g.0 k.0 in
    let bodies : answer_bytes r ++ frames rs ≡ answer_bytes s ++ frames ss = ap (drop 4) same in
    let body : answer_bytes r ≡ answer_bytes s = sym (take_at (answer_bytes r) (frames rs) m refl) ∙ ap (take m) bodies ∙ take_at (answer_bytes s) (frames ss) m (sym size) in
    let rest : frames rs ≡ frames ss = sym (drop_at (answer_bytes r) (frames rs) m refl) ∙ ap (drop m) bodies ∙ drop_at (answer_bytes s) (frames ss) m (sym size) in
    ap₂ (λ (x : Reply) (xs : List Reply). x ∷ xs) (answers-apart r s f.0 g.0 body) (told-apart rs ss f.1 g.1 h.1 k.1 rest)

-- foretold answers with the same bytes are the same
pub told-answers-apart : ToldAnswersAreToldApart
told-answers-apart rs ss f g h k same =
    told-apart rs ss (recursion_from_All CanBeTold rs f) (recursion_from_All CanBeTold ss g) (recursion_from_All (λ r. length r.area < 2 ^ 31) rs h) (recursion_from_All (λ r. length r.area < 2 ^ 31) ss k)
    (ap (drop 1) same)

-- and what is foretold is nothing else
pub foretold-apart : ForetoldIsToldApart
foretold-apart = ((λ rs r. (λ e. cc)), refusal-apart, (λ rs. (λ e. cc)))
  where
    refusal-apart : (rs : List Reply) (e : Refused) → told_bytes rs ≢ refusal_bytes e
    refusal-apart rs refused.Full = λ e. cc
    refusal-apart rs refused.Area = λ e. cc
    refusal-apart rs refused.Memory = λ e. cc
    refusal-apart rs refused.Device = λ e. cc
    refusal-apart rs refused.Broken = λ e. cc
