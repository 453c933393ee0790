use Rattle.std.proofs.Common.{◌≡◌, ◌*◌, ◌<◌, ℕ, refl, sym, ap, subst, ◌∙◌}
use Rattle.hd_volume.specs.Indexes.{root_key_length}
use Rattle.hd_check_blocks.specs.Phases.{IsLeastOf}
use Rattle.hd_check_index.proofs.FormFaults.{index-right, top-least, form-least, place-fits}
use Rattle.hd_check_index.proofs.block_forms.form_fault.Goals as goal
use Rattle.hd_image.specs.declared.line.Line.TheVariants.{WrongForm}

pub returns-then-not-is_top_right-clause-some : goal.returns-then-not-is_top_right-clause-some
returns-then-not-is_top_right-clause-some c = λ d v of one h f top height room size.
    subst (IsLeastOf d v 8) (sym c.at.ensures) (top-least d v c.args.top one (c.if-not-is_top_right.ensures.wrong refl v h f top height))

pub returns-in-None-clause-none : goal.returns-in-None-clause-none
returns-in-None-clause-none c = λ d v of one h f top height room.
    index-right (root_key_length d.types) v one (c.if-not-is_top_right.ensures.right refl v h f top height) (c.in-None.ensures.none (root_key_length d.types) v h f height room)

pub returns-in-Some-clause-some : goal.returns-in-Some-clause-some
returns-in-Some-clause-some c = λ d v of one h f top height room size.
    let n : ℕ = c.in-Some.n in
    let first = c.in-Some.ensures.some (root_key_length d.types) v h f height room in
    let same : n * c.args.size ≡ n * v.size = ap (λ (s : ℕ). n * s) size in
    let place : c.block_address.result ≡ n * v.size = c.block_address.ensures (subst (λ (x : ℕ). x < 4294967296) (sym same) (place-fits d v n of first.0.there)) ∙ same in
    subst (IsLeastOf d v 8) (sym (c.at-in-Some.ensures ∙ ap (λ (a : ℕ). record { line = WrongForm; address = a; other = 0 }) place))
    (form-least d v n one (c.if-not-is_top_right.ensures.right refl v h f top height) first)
