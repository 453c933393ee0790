use Rattle.std.proofs.Common.{◌≡◌, ◌∷◌, ◌==◌, sym}
use Rattle.std.specs.List.{slice_split}
use Rattle.hd_gen.proofs.Cuts.{many_words}
use Rattle.hd_gen.proofs.value.words_in.Goals as goal

-- src/value.rt:92:1
pub returns-in_default-Some : goal.returns-in_default-Some
returns-in_default-Some c =
    let first : slice_split (λ b. b == 44) c.args.text.now ≡ c.cut.result.0.now ∷ slice_split (λ b. b == 44) c.in-Some.rest.now = cc in
    let second : slice_split (λ b. b == 44) c.in-Some.rest.now ≡ c.cut-2.result.0.now ∷ slice_split (λ b. b == 44) c.in-Some-rest.rest.now = cc in
    let third : slice_split (λ b. b == 44) c.in-Some-rest.rest.now ≡ c.cut-3.result.0.now ∷ slice_split (λ b. b == 44) c.in_default-Some.field-0-1.now = cc in
    sym (many_words c.cut.result.0.now c.cut-2.result.0.now c.cut-3.result.0.now c.args.text.now c.in-Some.rest.now c.in-Some-rest.rest.now c.in_default-Some.field-0-1.now first second third)
