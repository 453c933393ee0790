use Rattle.std.proofs.Common.{◌≡◌, ◌≤◌, ℕ, List, ◌∷◌, [], ◌+◌, ◌++◌, length, ap, ◌∙◌, sym, arith, Some, None}
use Rattle.std.specs.Prelude.{option_map}
use Rattle.std.proofs.lemmas.Grind.{common_steps}
use Rattle.hd_dbd.specs.Views.{Setting}
use Rattle.hd_calls.specs.Ssas.{read_head}
use Rattle.hd_ssa.specs.Named.{named}
use Rattle.hd_ssa.proofs.Heads.{heads_next, heads_none}
use Rattle.hd_ssa.proofs.named.named_heads.Goals as goal

pub returns-in_default-clause-status : goal.returns-in_default-clause-status
returns-in_default-clause-status c =
    let s : Setting = record { types = c.args.dbd.now.types; pcb = c.args.pcb.now } in
    let none : c.named_head.result ≡ None = grind (arith, common_steps) in
    let reads : option_map (λ h. named s h) (read_head c.text-item.result.items) ≡ None
    = ap (λ (bytes : List ℕ). option_map (λ h. named s h) (read_head bytes)) (sym c.deref.ensures.value) ∙ sym c.named_head.ensures ∙ none in
    λ st e. (cc, heads_none s c.args.ssas.now c.loop-text.text-index c.text-item.result c.loop-text.heads.items _ c.loop-text-test.true c.text-item.is reads c.loop-text.invariant.same)

pub loop-text-preserved : goal.loop-text-preserved
loop-text-preserved c =
    let s : Setting = record { types = c.args.dbd.now.types; pcb = c.args.pcb.now } in
    let reads : option_map (λ h. named s h) (read_head c.text-item.result.items) ≡ Some c.in-Some.head
    = ap (λ (bytes : List ℕ). option_map (λ h. named s h) (read_head bytes)) (sym c.deref.ensures.value) ∙ sym c.named_head.ensures ∙ c.in-Some.is in
    let longer : c.push.new.self.items ≡ c.loop-text.heads.items ++ c.in-Some.head ∷ [] = grind (arith, common_steps) in
    let count : length c.push.new.self.items ≡ c.loop-text.text-index + 1 = grind (arith, common_steps) in
    let room : 4 ≤ c.push.new.self.capacity = grind (arith, common_steps) in
    record {
      same = heads_next s c.args.ssas.now c.loop-text.text-index c.text-item.result c.in-Some.head c.loop-text.heads.items c.push.new.self.items c.loop-text-test.true c.text-item.is reads longer ∙ c.loop-text.invariant.same;
      count = count;
      room = room;
    }
