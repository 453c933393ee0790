use Rattle.std.proofs.Common.{ℕ, List, length, ◌≤◌, ap, ◌∙◌, arith}
use Rattle.std.specs.Prelude.{replicate, slice_set}
use Rattle.hd_bytes.specs.Ranges.{with_bytes}
use Rattle.hd_dbd.specs.Prefixes.{prefix_length, size_with}
use Rattle.hd_prefix.proofs.Fitting.{row_prefix}
use Rattle.hd_prefix.proofs.Sizes.{size_long}
use Rattle.hd_prefix.proofs.NewSegments.{laid_over}
use Rattle.hd_prefix.proofs.layout.Layout.write_new.Goals as goal

pub returns : goal.returns
returns c =
    let types = c.args.self.now.dbd.now.types in
    let code : ℕ = c.args.self.now.code in
    let bytes : List ℕ = c.args.bytes.now in
    c.write_bytes.ensures.value
    ∙ ap (λ (p : ℕ). with_bytes (slice_set c.fill.new.self 0 code) p bytes) c.prefix_length-prefix.ensures
    ∙ ap (λ (xs : List ℕ). with_bytes (slice_set xs 0 code) (prefix_length types code) bytes) (c.fill.ensures.after (λ y e. e) ∙ ap (λ (n : ℕ). replicate n 0) c.requires.size)
    ∙ laid_over code (prefix_length types code) (size_with types code (length bytes)) bytes (low _ (row_prefix types code bytes c.requires.fits)) (size_long types code (length bytes)).0
  where
    low : (p : ℕ) → 2 ≤ p → 1 ≤ p
    low p e = omega arith
