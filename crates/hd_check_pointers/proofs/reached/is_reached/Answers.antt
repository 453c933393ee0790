use Rattle.std.proofs.Common.{ℕ, List, sym, ◌∙◌, arith}
use Rattle.hd_check_blocks.specs.declared.places.Place.{Place}
use Rattle.hd_check_pointers.specs.Tables.{place_at}
use Rattle.hd_check_pointers.proofs.PlaceNumbers.{stands, code-short}
use Rattle.hd_check_pointers.proofs.Reaching.{root-found, lost, step-up, step-down, step-less}
use Rattle.hd_check_pointers.proofs.reached.is_reached.Goals as goal

pub loop-step-init : goal.loop-step-init
loop-step-init c = record {
  within = c.requires;
  up = λ d v M O found. found;
  down = λ d v M O found. found;
  falls = λ d v M O. (let short = code-short d v c.args.places.now M (place_at c.args.places.now c.args.first).address (stands d v c.args.places.now M c.args.first c.requires) in omega arith);
}

pub returns-then-owner-eq0-clause-right : goal.returns-then-owner-eq0-clause-right
returns-then-owner-eq0-clause-right c = λ d v M O yes_is.
    let i = c.loop-step.invariant in
    let within = i.within in
    let many = O.as_many in
    i.up d v M O (root-found d v c.args.places.now M c.args.owners.now O c.loop-step.number i.within (sym (c.owner_of-owner.ensures (omega arith)) ∙ c.if-owner-eq0.true))

pub returns-in-None-clause-wrong : goal.returns-in-None-clause-wrong
returns-in-None-clause-wrong c = λ d v M O no_is n r.
    let i = c.loop-step.invariant in
    let within = i.within in
    let many = O.as_many in
    let found = i.down d v M O (n, r) in
    lost d v c.args.places.now M c.args.owners.now O c.loop-step.number c.owner_of-owner.result i.within (sym (c.owner_of-owner.ensures (omega arith))) c.if-owner-eq0.false
    (c.in-None.ensures.none M.stand.ascend) found.0 found.1

pub loop-step-preserved : goal.loop-step-preserved
loop-step-preserved c =
    let i = c.loop-step.invariant in
    let within = i.within in
    let ps : List Place = c.args.places.now in
    let n : ℕ = c.loop-step.number in
    let k : ℕ = c.in-Some.above in
    let w : ℕ = c.owner_of-owner.result in
    let there = c.in-Some.ensures.some in
    record {
      within = there.0;
      up = λ d v M O found. (let many = O.as_many in i.up d v M O (step-up d v ps M c.args.owners.now O n k w i.within (sym (c.owner_of-owner.ensures (omega arith))) there.0 there.1 found));
      down = λ d v M O found. (let many = O.as_many in step-down d v ps M c.args.owners.now O n k w i.within (sym (c.owner_of-owner.ensures (omega arith))) there.0 there.1 (i.down d v M O found));
      falls = λ d v M O.
          (let many = O.as_many in
          let less = step-less d v ps M c.args.owners.now O n k w i.within (sym (c.owner_of-owner.ensures (omega arith))) there.0 there.1 in
          let falls = i.falls d v M O in omega arith);
    }

pub returns-clause-wrong : goal.returns-clause-wrong
returns-clause-wrong c = λ d v M O no_is n r.
    let i = c.loop-step.invariant in
    let falls = i.falls d v M O in
    let end = c.loop-step-test.false in absurd (omega arith)
