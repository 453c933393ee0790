use Rattle.std.proofs.Common.{◌≡◌, ◌<◌, ◌+◌, ◌-◌, ◌/◌, ℕ, List, inl, inr, arith, sym, ap, subst}
use Rattle.std.proofs.lemmas.Bool.{cases_lt, cases_eq}
use Rattle.hd_check_blocks.specs.declared.places.Place.{Place}
use Rattle.hd_check_blocks.proofs.Lookups.{number-of, in-order}
use Rattle.hd_check_blocks.specs.Places.{place_at}
use Rattle.hd_check_blocks.proofs.lookup.number_from.Goals as goal

pub returns-then-place-address-clause-some : goal.returns-then-place-address-clause-some
returns-then-place-address-clause-some c =
    let most = c.loop-low.invariant.most in
    let within = c.middle_of-middle.ensures in (omega arith, c.if-place-address.true)

pub loop-low-preserved-then-place-address-2 : goal.loop-low-preserved-then-place-address-2
loop-low-preserved-then-place-address-2 c =
    let ps : List Place = c.args.places.now in
    let middle : ℕ = c.middle_of-middle.result in
    let within = c.middle_of-middle.ensures in
    let i = c.loop-low.invariant in
    let most = i.most in
    let less : (place_at ps middle).address < c.args.address = c.if-place-address-2.true in
    record {
      order = omega arith;
      most = i.most;
      below = λ ascend j low. elim (cases_eq j middle) [
        | inl e ↦ subst (λ (x : ℕ). (place_at ps x).address < c.args.address) (sym e) less
        | inr ne ↦ (let before = in-order ps j middle ascend (omega arith) (omega arith) in omega arith)
      ];
      above = i.above;
    }

pub loop-low-preserved : goal.loop-low-preserved
loop-low-preserved c =
    let ps : List Place = c.args.places.now in
    let middle : ℕ = c.middle_of-middle.result in
    let within = c.middle_of-middle.ensures in
    let i = c.loop-low.invariant in
    let most = i.most in
    let more : c.args.address < (place_at ps middle).address = (let ne = c.if-place-address.false in let low = c.if-place-address-2.false in omega arith) in
    record {
      order = omega arith;
      most = omega arith;
      below = i.below;
      above = λ ascend j high within. elim (cases_eq j middle) [
        | inl e ↦ subst (λ (x : ℕ). c.args.address < (place_at ps x).address) (sym e) more
        | inr ne ↦ (let before = in-order ps middle j ascend (omega arith) within in omega arith)
      ];
    }

pub returns-clause-none : goal.returns-clause-none
returns-clause-none c = λ ascend code is.
    let ps : List Place = c.args.places.now in
    let i = c.loop-low.invariant in
    let end = c.loop-low-test.false in
    let n = number-of (record { address = c.args.address; code = code }) ps is in
    let at : (place_at ps n.0).address ≡ c.args.address = ap (λ (p : Place). p.address) n.2 in
    elim (cases_lt n.0 c.loop-low.low) [
      | inl low ↦ (let b = i.below ascend n.0 low in absurd (omega arith))
      | inr high ↦ (let within = n.1 in let a = i.above ascend n.0 (omega arith) within in absurd (omega arith))
    ]
