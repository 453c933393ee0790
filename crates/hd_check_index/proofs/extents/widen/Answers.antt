use Rattle.std.proofs.Common.{◌≡◌, ◌<◌, ◌==◌, ℕ, zero, suc, false, cond, take, subst, arith}
use Rattle.std.proofs.lemmas.Bool.{eqb-true}
use Rattle.hd_volume.specs.Indexes.{key_less}
use Rattle.hd_check_index.specs.declared.extents.Extent.{Extent}
use Rattle.hd_check_index.proofs.BlockExtents.{extent-wider}
use Rattle.hd_check_index.proofs.extents.widen.Goals as goal

some-of : (n : ℕ) → (n == 0) ≡ false → 0 < n
some-of zero e = cc
some-of (suc n) e = omega arith

pub returns : goal.returns
returns c = λ es none some fs more own_least own_greatest whole.
    let k : ℕ = c.args.key_length in
    let n : ℕ = c.args.count in
    let x : Extent = c.args.extent.now in
    let low = subst (λ (i : ℕ). take i c.lessen.new.place ≡ cond (n == 0) c.args.least.now (cond (key_less (take i x.least) c.args.least.now) (take i x.least) c.args.least.now)) c.requires.whole.0 c.lessen.ensures in
    let high = subst (λ (i : ℕ). take i c.raise.new.place ≡ cond (n == 0) c.args.greatest.now (cond (key_less (take i x.greatest) c.args.greatest.now) c.args.greatest.now (take i x.greatest))) c.requires.whole.1 c.raise.ensures in
    extent-wider k x more (record { least = c.lessen.new.place; greatest = c.raise.new.place }) es fs c.args.least.now c.args.greatest.now (n == 0) own_least own_greatest low high
    (λ first. none (eqb-true n 0 first)) (λ first. some (some-of n first)) whole
