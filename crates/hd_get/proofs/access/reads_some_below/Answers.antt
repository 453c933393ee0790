use Rattle.std.proofs.Common.{◌≡◌, ℕ, ◌+◌, ◌-◌, ◌<◌, ◌≤◌, length, ap, sym, ◌∙◌, arith, inl, inr}
use Rattle.std.specs.Prelude.{◌&&◌, is_some}
use Rattle.std.proofs.lemmas.Bool.{cases_lt}
use Rattle.hd_dbd.specs.Letters.{gives_get}
use Rattle.hd_dbd.specs.Views.{may}
use Rattle.hd_calls.proofs.Searches.{least_passed, least_none}
use Rattle.hd_calls.specs.Admits.{is_on_way}
use Rattle.hd_get.proofs.access.reads_some_below.Goals as goal

pub loop-place-init : goal.loop-place-init
loop-place-init c = (ap length c.types-count.ensures.types, λ j low high. absurd (omega arith))

pub returns-then-reads_below : goal.returns-then-reads_below
returns-then-reads_below c =
    let d = c.args.dbd.now in
    let n : ℕ = length d.types in
    let count : c.types-count.result.now ≡ d.types = c.types-count.ensures.types in
    let below : c.loop-place.place < n = omega (arith, c.loop-place-test.true, c.loop-place.invariant.0) in
    sym (least_passed (λ x. is_on_way d.types x c.args.code && may (record { types = d.types; pcb = c.args.pcb.now }) gives_get x) (n + 1 - 1) 1 (c.loop-place.place + 1)
    (omega arith) (omega arith) (sym c.reads_below.ensures ∙ c.if-reads_below.true))

pub loop-place-preserved : goal.loop-place-preserved
loop-place-preserved c = (
  c.loop-place.invariant.0,
  λ j low high. elim (cases_lt j (c.loop-place.place + 1)) [
    | inl w ↦ c.loop-place.invariant.1 j low w
    | inr w ↦
        (let d = c.args.dbd.now in
        ap (λ x. is_on_way d.types x c.args.code && may (record { types = d.types; pcb = c.args.pcb.now }) gives_get x) (let e : j ≡ c.loop-place.place + 1 = omega arith in e)
        ∙ sym c.reads_below.ensures ∙ c.if-reads_below.false)
  ],
)

pub returns : goal.returns
returns c =
    let d = c.args.dbd.now in
    let n : ℕ = length d.types in
    let done : n ≤ c.loop-place.place = omega (arith, c.loop-place-test.false, c.loop-place.invariant.0) in
    sym (ap is_some (least_none (λ x. is_on_way d.types x c.args.code && may (record { types = d.types; pcb = c.args.pcb.now }) gives_get x) (n + 1 - 1) 1
    (λ j low high. c.loop-place.invariant.1 j low (omega arith))))
