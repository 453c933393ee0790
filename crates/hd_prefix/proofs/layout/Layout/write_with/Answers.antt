use Rattle.std.proofs.Common.{◌≡◌, ℕ, List, length, ap, ap₂, ◌∙◌}
use Rattle.std.specs.Prelude.{replicate, take}
use Rattle.std.proofs.lemmas.List.{length-take-le}
use Rattle.hd_bytes.specs.Ranges.{with_bytes}
use Rattle.hd_dbd.specs.Prefixes.{prefix_length, size_with}
use Rattle.hd_prefix.proofs.Sizes.{size_long}
use Rattle.hd_prefix.proofs.OtherBytes.{written_over}
use Rattle.hd_prefix.proofs.layout.Layout.write_with.Goals as goal

pub returns : goal.returns
returns c =
    let types = c.args.self.now.dbd.now.types in
    let code : ℕ = c.args.self.now.code in
    let bytes : List ℕ = c.args.bytes.now in
    let segment : List ℕ = c.args.segment.now in
    let p : ℕ = prefix_length types code in
    let zeros : c.fill.new.self ≡ replicate (size_with types code (length bytes)) 0 = c.fill.ensures.after (λ y e. e) ∙ ap (λ (n : ℕ). replicate n 0) c.requires.size in
    c.write_bytes-2.ensures.value
    ∙ ap (λ (n : ℕ). with_bytes c.write_bytes.new.bytes n bytes) c.prefix_length-prefix.ensures
    ∙ ap (λ (xs : List ℕ). with_bytes xs p bytes) (c.write_bytes.ensures.value
    ∙ ap₂ (λ (xs : List ℕ) (n : ℕ). with_bytes xs 0 (take n segment)) zeros c.prefix_length-prefix.ensures)
    ∙ written_over (take p segment) bytes p (size_with types code (length bytes)) (length-take-le p segment c.requires.prefix) (size_long types code (length bytes)).0
