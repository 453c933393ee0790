use Rattle.std.proofs.Common.{◌≡◌, ◌≤◌, ℕ, ◌+◌, List, ◌++◌, length, Some, None, ap, ◌∙◌, sym, arith}
use Rattle.std.specs.Prelude.{option_map}
use Rattle.std.specs.Option.{option_to_list}
use Rattle.std.proofs.lemmas.Grind.{common_steps}
use Rattle.hd_dbd.specs.Views.{Setting}
use Rattle.hd_ssa.specs.AtOnce.{read_below}
use Rattle.hd_ssa.proofs.AtOnce.{down_step, down_stops}
use Rattle.hd_ssa.proofs.at_once.read_down.Goals as goal

pub returns-in_default : goal.returns-in_default
returns-in_default c =
    let s : Setting = record { types = c.args.dbd.now.types; pcb = c.args.pcb.now } in
    let none : c.add_below.result ≡ None = grind (arith, common_steps) in
    let uncoded : option_map (λ a. a.code) (read_below s c.loop-text.above c.text-item.result.items) ≡ None
    = ap (λ (bytes : List ℕ). option_map (λ a. a.code) (read_below s c.loop-text.above bytes)) (sym c.deref.ensures.value) ∙ sym c.add_below.ensures.code ∙ none in
    sym (sym c.loop-text.invariant.same
    ∙ down_stops s c.args.texts.now c.loop-text.text-index c.loop-text.above c.text-item.result c.loop-text.ssas.items c.loop-text-test.true c.text-item.is uncoded)

pub loop-text-preserved : goal.loop-text-preserved
loop-text-preserved c =
    let s : Setting = record { types = c.args.dbd.now.types; pcb = c.args.pcb.now } in
    let coded : option_map (λ a. a.code) (read_below s c.loop-text.above c.text-item.result.items) ≡ Some c.in-Some.code
    = ap (λ (bytes : List ℕ). option_map (λ a. a.code) (read_below s c.loop-text.above bytes)) (sym c.deref.ensures.value) ∙ sym c.add_below.ensures.code ∙ c.in-Some.is in
    let added : c.add_below.new.ssas.items ≡ c.loop-text.ssas.items ++ option_to_list (read_below s c.loop-text.above c.text-item.result.items)
    = c.add_below.ensures.items ∙ ap (λ (bytes : List ℕ). c.loop-text.ssas.items ++ option_to_list (read_below s c.loop-text.above bytes)) c.deref.ensures.value in
    let step = down_step s c.args.texts.now c.loop-text.text-index c.loop-text.above c.text-item.result c.in-Some.code c.loop-text.ssas.items c.add_below.new.ssas.items c.loop-text-test.true c.text-item.is coded added in
    let count : length c.add_below.new.ssas.items ≡ length c.loop-text.ssas.items + 1 = step.1 in
    let capacity : c.add_below.new.ssas.capacity ≡ c.loop-text.ssas.capacity = c.add_below.ensures.capacity in
    let room : length c.loop-text.ssas.items + length c.args.texts.now ≤ c.loop-text.ssas.capacity + c.loop-text.text-index = c.loop-text.invariant.room in
    let more : length c.add_below.new.ssas.items + length c.args.texts.now ≤ c.add_below.new.ssas.capacity + (c.loop-text.text-index + 1) = omega arith in
    record { same = step.0 ∙ c.loop-text.invariant.same; room = more }
