use Rattle.std.proofs.Common.{◌≡◌, ℕ, List, ◌++◌, take, Bool, Option, Some, None, ap, ◌∙◌, sym, cond}
use Rattle.std.proofs.lemmas.List.{append-nil}
use Rattle.std.specs.Prelude.{option_map}
use Rattle.std.specs.Option.{option_to_list}
use Rattle.hd_dbd.specs.Views.{Setting}
use Rattle.hd_calls.specs.Ssas.{Ssa}
use Rattle.hd_ssa.specs.AtOnce.{seen_below, read_below, read_behind}
use Rattle.hd_ssa.proofs.Behind.{unseen, below_is, behind_code}
use Rattle.hd_ssa.proofs.at_once.add_below.Goals as goal

pub returns-in_err-code-clause-code : goal.returns-in_err-code-clause-code
returns-in_err-code-clause-code c =
    let s : Setting = record { types = c.args.dbd.now.types; pcb = c.args.pcb.now } in
    let seen : seen_below s c.args.above (take 8 c.args.text.now) ≡ None
    = ap (λ (name : List ℕ). seen_below s c.args.above name) (sym c.in_ok-name.ensures.cases.0) ∙ sym c.seen_below.ensures.code ∙ c.in_err-code.was in
    c.from_residual-in_err-code.ensures ∙ sym (ap (λ (o : Option Ssa). option_map (λ a. a.code) o) (unseen s c.args.above c.args.text.now seen))

pub returns-in_err-code-clause-items : goal.returns-in_err-code-clause-items
returns-in_err-code-clause-items c =
    let s : Setting = record { types = c.args.dbd.now.types; pcb = c.args.pcb.now } in
    let seen : seen_below s c.args.above (take 8 c.args.text.now) ≡ None
    = ap (λ (name : List ℕ). seen_below s c.args.above name) (sym c.in_ok-name.ensures.cases.0) ∙ sym c.seen_below.ensures.code ∙ c.in_err-code.was in
    sym (append-nil c.args.ssas.now.items) ∙ ap (λ (o : Option Ssa). c.args.ssas.now.items ++ option_to_list o) (sym (unseen s c.args.above c.args.text.now seen))

pub returns-then-add_behind-clause-code : goal.returns-then-add_behind-clause-code
returns-then-add_behind-clause-code c =
    let s : Setting = record { types = c.args.dbd.now.types; pcb = c.args.pcb.now } in
    let below : read_below s c.args.above c.args.text.now ≡ read_behind c.index-types-code.result c.in_ok-code.code c.in_ok-name.behind.now
    = below_is s c.args.above c.args.text.now c.in_ok-name.name.now c.in_ok-name.behind.now c.types.result.now c.index-types-code.result c.in_ok-code.code c.in_ok-name.ensures.cases.0 c.in_ok-name.ensures.cases.1
    c.in_ok-code.ensures.name c.in_ok-code.ensures.code c.in_ok-code.ensures.bound c.types.ensures.types c.index-types-code.is in
    sym (ap (λ (o : Option Ssa). option_map (λ a. a.code) o) below
    ∙ behind_code c.index-types-code.result c.in_ok-code.code c.in_ok-name.behind.now
    ∙ ap (λ (b : Bool). cond b (Some c.in_ok-code.code) None) (sym c.add_behind.ensures.found ∙ c.if-add_behind.true))

pub returns-then-add_behind-clause-items : goal.returns-then-add_behind-clause-items
returns-then-add_behind-clause-items c =
    let s : Setting = record { types = c.args.dbd.now.types; pcb = c.args.pcb.now } in
    let below : read_below s c.args.above c.args.text.now ≡ read_behind c.index-types-code.result c.in_ok-code.code c.in_ok-name.behind.now
    = below_is s c.args.above c.args.text.now c.in_ok-name.name.now c.in_ok-name.behind.now c.types.result.now c.index-types-code.result c.in_ok-code.code c.in_ok-name.ensures.cases.0 c.in_ok-name.ensures.cases.1
    c.in_ok-code.ensures.name c.in_ok-code.ensures.code c.in_ok-code.ensures.bound c.types.ensures.types c.index-types-code.is in
    c.add_behind.ensures.items ∙ ap (λ (o : Option Ssa). c.args.ssas.now.items ++ option_to_list o) (sym below)

pub returns-else-add_behind-clause-code : goal.returns-else-add_behind-clause-code
returns-else-add_behind-clause-code c =
    let s : Setting = record { types = c.args.dbd.now.types; pcb = c.args.pcb.now } in
    let below : read_below s c.args.above c.args.text.now ≡ read_behind c.index-types-code.result c.in_ok-code.code c.in_ok-name.behind.now
    = below_is s c.args.above c.args.text.now c.in_ok-name.name.now c.in_ok-name.behind.now c.types.result.now c.index-types-code.result c.in_ok-code.code c.in_ok-name.ensures.cases.0 c.in_ok-name.ensures.cases.1
    c.in_ok-code.ensures.name c.in_ok-code.ensures.code c.in_ok-code.ensures.bound c.types.ensures.types c.index-types-code.is in
    sym (ap (λ (o : Option Ssa). option_map (λ a. a.code) o) below
    ∙ behind_code c.index-types-code.result c.in_ok-code.code c.in_ok-name.behind.now
    ∙ ap (λ (b : Bool). cond b (Some c.in_ok-code.code) None) (sym c.add_behind.ensures.found ∙ c.if-add_behind.false))

pub returns-else-add_behind-clause-items : goal.returns-else-add_behind-clause-items
returns-else-add_behind-clause-items c =
    let s : Setting = record { types = c.args.dbd.now.types; pcb = c.args.pcb.now } in
    let below : read_below s c.args.above c.args.text.now ≡ read_behind c.index-types-code.result c.in_ok-code.code c.in_ok-name.behind.now
    = below_is s c.args.above c.args.text.now c.in_ok-name.name.now c.in_ok-name.behind.now c.types.result.now c.index-types-code.result c.in_ok-code.code c.in_ok-name.ensures.cases.0 c.in_ok-name.ensures.cases.1
    c.in_ok-code.ensures.name c.in_ok-code.ensures.code c.in_ok-code.ensures.bound c.types.ensures.types c.index-types-code.is in
    c.add_behind.ensures.items ∙ ap (λ (o : Option Ssa). c.args.ssas.now.items ++ option_to_list o) (sym below)
