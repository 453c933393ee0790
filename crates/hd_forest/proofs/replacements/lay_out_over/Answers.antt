use Rattle.std.proofs.Common.{◌≡◌, ◌≤◌, ℕ, List, length, ap, sym, subst, ◌∙◌, arith}
use Rattle.hd_dbd.specs.Prefixes.{prefix_length}
use Rattle.hd_prefix.specs.Fields.{code_of, IsSegmentWith}
use Rattle.hd_prefix.proofs.Fitting.{row_prefix}
use Rattle.hd_forest.proofs.Reading.{lent}
use Rattle.hd_forest.proofs.replacements.lay_out_over.Goals as goal

pub returns-clause-laid : goal.returns-clause-laid
returns-clause-laid g c sound =
    let d = c.args.dbd.now in
    let s : List ℕ = c.in_ok-segment.segment.now in
    let of = c.requires.of sound in
    let l = lent d c.args.volume.now c.args.address s of.fit of (c.requires.there sound) (c.in_ok-segment.ensures.value sound) in
    let own : code_of s ≡ c.args.code = ap code_of (sym l.stored) ∙ c.requires.typed sound in
    let long : prefix_length d.types c.args.code ≤ length s = subst (λ (k : ℕ). prefix_length d.types k ≤ length s) own l.prefix in
    subst (λ (x : List ℕ). IsSegmentWith d.types c.args.code c.args.bytes.now x c.lay_out_with.new.room) (sym l.stored)
    (c.lay_out_with.ensures.laid own (omega (arith, row_prefix d.types c.args.code c.args.bytes.now c.requires.fits, long)) long)
