use Rattle.std.proofs.Common.{ℕ, ◌-◌, inl, inr, subst, sym, arith}
use Rattle.std.proofs.lemmas.Bool.{cases_eq}
use Rattle.hd_check_blocks.specs.Phases.{IsLeastOf}
use Rattle.hd_check_pointers.specs.Tables.{place_at}
use Rattle.hd_check_pointers.proofs.Reaching.{IsFound, reached-beside, not-reached-least, all-found}
use Rattle.hd_check_pointers.proofs.reached.reached_fault.Goals as goal

pub returns-then-not-is_reached-clause-some : goal.returns-then-not-is_reached-clause-some
returns-then-not-is_reached-clause-some c = λ d v M O.
    subst (IsLeastOf d v 7) (sym c.at.ensures)
    (not-reached-least d v c.args.places.now M c.loop-number.number c.loop-number-test.true (c.is_reached.ensures.wrong d v M O c.if-not-is_reached.true) (c.loop-number.invariant d v M O))

-- it is reached as the one before is, which has the same owner
pub loop-number-preserved-then-is_owned_as_before : goal.loop-number-preserved-then-is_owned_as_before
loop-number-preserved-then-is_owned_as_before c = λ d v M O j less.
    let n : ℕ = c.loop-number.number in
    let test = c.loop-number-test.true in
    let many = O.as_many in
    let same = c.is_owned_as_before.ensures c.if-is_owned_as_before.true (omega arith) in
    let some = same.0 in
    elim (cases_eq j n) [
      | inl here ↦
          subst (λ (k : ℕ). IsFound d v c.args.places.now M (place_at c.args.places.now k).address) (sym here)
          (reached-beside d v c.args.places.now M c.args.owners.now O n (n - 1) test (omega arith) same.1 (c.loop-number.invariant d v M O (n - 1) (omega arith)))
      | inr other ↦ c.loop-number.invariant d v M O j (omega arith)
    ]

pub loop-number-preserved : goal.loop-number-preserved
loop-number-preserved c = λ d v M O j less. elim (cases_eq j c.loop-number.number) [
  | inl same ↦ subst (λ (k : ℕ). IsFound d v c.args.places.now M (place_at c.args.places.now k).address) (sym same) (c.is_reached.ensures.right d v M O c.if-not-is_reached.false)
  | inr other ↦ c.loop-number.invariant d v M O j (omega arith)
]

pub returns-clause-none : goal.returns-clause-none
returns-clause-none c = λ d v M O. (let end = c.loop-number-test.false in all-found d v c.args.places.now M (λ j within. c.loop-number.invariant d v M O j (omega arith)))
