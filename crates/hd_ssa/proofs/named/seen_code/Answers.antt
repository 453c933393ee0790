use Rattle.std.proofs.Common.{◌≡◌, ℕ, List, Option, Some, None, ap, ◌∙◌, sym}
use Rattle.std.specs.Prelude.{is_some, option_and_then, position, bytes_eq}
use Rattle.hd_dbd.specs.Types.{SegmentType}
use Rattle.hd_dbd.specs.Naming.{is_name}
use Rattle.hd_dbd.specs.ProgramRules.{type_names, code_named}
use Rattle.hd_dbd.specs.Views.{Setting, letters_for}
use Rattle.hd_ssa.proofs.Heads.{seen_none, seen_at, name_at}
use Rattle.hd_ssa.proofs.named.seen_code.Goals as goal

pub returns-in_err-place-clause-code : goal.returns-in_err-place-clause-code
returns-in_err-place-clause-code c =
    let s : Setting = record { types = c.args.dbd.now.types; pcb = c.args.pcb.now } in
    let place : position (λ t. bytes_eq t.name c.args.name.now) s.types ≡ None
    = ap (λ (types : List SegmentType). position (λ t. bytes_eq t.name c.args.name.now) types) (sym c.types-types.ensures.types) ∙ sym c.place_named.ensures.place ∙ c.in_err-place.was in
    c.from_residual.ensures ∙ sym (seen_none s c.args.name.now place)

pub returns-in_err-letters_for-clause-code : goal.returns-in_err-letters_for-clause-code
returns-in_err-letters_for-clause-code c =
    let s : Setting = record { types = c.args.dbd.now.types; pcb = c.args.pcb.now } in
    let name : c.segment.inside.name ≡ c.args.name.now
    = ap (λ (t : SegmentType). t.name) c.segment.view_is
    ∙ name_at c.types-types.result.now c.args.name.now c.in_ok-place.place c.index-types-place.result (sym c.place_named.ensures.place ∙ c.in_ok-place.was) c.index-types-place.is in
    let letters : letters_for s.pcb c.args.name.now ≡ None = ap (λ (n : List ℕ). letters_for s.pcb n) (sym name) ∙ sym c.in_err-letters_for.ensures in
    c.from_residual-in_err-letters_for.ensures
    ∙ sym (ap (λ (o : Option (List ℕ)). option_and_then (λ _. code_named (type_names s.types) c.args.name.now) o) letters)

pub returns-clause-code : goal.returns-clause-code
returns-clause-code c =
    let s : Setting = record { types = c.args.dbd.now.types; pcb = c.args.pcb.now } in
    let place : position (λ t. bytes_eq t.name c.args.name.now) c.types-types.result.now ≡ Some c.in_ok-place.place = sym c.place_named.ensures.place ∙ c.in_ok-place.was in
    let name : c.segment.inside.name ≡ c.args.name.now
    = ap (λ (t : SegmentType). t.name) c.segment.view_is
    ∙ name_at c.types-types.result.now c.args.name.now c.in_ok-place.place c.index-types-place.result place c.index-types-place.is in
    sym (seen_at s c.args.name.now c.in_ok-place.place
    (ap (λ (types : List SegmentType). position (λ t. bytes_eq t.name c.args.name.now) types) (sym c.types-types.ensures.types) ∙ place)
    (ap (λ (n : List ℕ). is_some (letters_for s.pcb n)) (sym name) ∙ ap (λ (o : Option (List ℕ)). is_some o) (sym c.in_ok-letters_for.ensures)))

pub returns-clause-name : goal.returns-clause-name
returns-clause-name c =
    let name : c.segment.inside.name ≡ c.args.name.now
    = ap (λ (t : SegmentType). t.name) c.segment.view_is
    ∙ name_at c.types-types.result.now c.args.name.now c.in_ok-place.place c.index-types-place.result (sym c.place_named.ensures.place ∙ c.in_ok-place.was) c.index-types-place.is in
    ap (λ (n : List ℕ). is_name n) (sym name) ∙ c.bytes-name.ensures.name
