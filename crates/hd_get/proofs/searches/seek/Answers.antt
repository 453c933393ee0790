use Rattle.std.proofs.Common.{ℕ, List, Some, Option, sym, ap, subst}
use Rattle.std.specs.Prelude.{option_map}
use Rattle.hd_volume.proofs.JoinLemmas.{if-ok-map}
use Rattle.hd_links.specs.Steps.{path_at}
use Rattle.hd_calls.specs.declared.call.GetKind.{GetKind}
use Rattle.hd_get.specs.Gets.{GetCall}
use Rattle.hd_get.specs.Found.{IsBeginning}
use Rattle.hd_get.proofs.Seeking.{kept_in, position_kept, begins_told, sought_before, next_begins, below_begins}
use Rattle.hd_get.proofs.searches.seek.Goals as goal

pub seek_from-requires-clause-there : goal.seek_from-requires-clause-there
seek_from-requires-clause-there g c = position_kept c.args.dbd.now c.args.volume.now c.next_by_first.new.volume c.in_ok-path-in-Next.ensures.read c.args.position.now c.requires.there

pub seek_from-requires-clause-begins : goal.seek_from-requires-clause-begins
seek_from-requires-clause-begins g c =
    begins_told c.args.dbd.now c.args.volume.now c.next_by_first.new.volume c.in_ok-path-in-Next.ensures.read c.args.call.now c.args.position.now (Some (0, c.in_ok-path-in-Next.path))
    (λ f q at.
    let d = c.args.dbd.now in
    let u = c.args.volume.now in
    subst (λ (call : GetCall). IsBeginning d u f call q (Some (0, c.in_ok-path-in-Next.path))) c.call.view_is
    (subst (λ (kind : GetKind). IsBeginning d u f (record { pcb = c.call.inside.pcb.now; kind = kind; hold = c.call.inside.hold; ssas = c.call.inside.ssas.now }) q (Some (0, c.in_ok-path-in-Next.path))) (sym c.in-Next.is)
    (next_begins d u f c.args.position.now q at c.call.inside.pcb.now c.call.inside.hold c.call.inside.ssas.now c.in_ok-path-in-Next.path c.in_ok-path-in-Next.ensures.value)))

pub next_in_parent_by_first-requires-clause-there : goal.next_in_parent_by_first-requires-clause-there
next_in_parent_by_first-requires-clause-there g c sound = (let T = c.requires.there sound in (T.0, T.1, (kept_in c.args.dbd.now c.args.volume.now T.0 c.args.position.now T.1 T.2).at))

pub returns-in_default-clause-value : goal.returns-in_default-clause-value
returns-in_default-clause-value g c f q at =
    let d = c.args.dbd.now in
    let u = c.args.volume.now in
    let B : IsBeginning d u f c.args.call.now q c.in_ok-parent-in-NextInParent.field-0
    =
    subst (λ (call : GetCall). IsBeginning d u f call q c.in_ok-parent-in-NextInParent.field-0) c.call.view_is
    (subst (λ (kind : GetKind). IsBeginning d u f (record { pcb = c.call.inside.pcb.now; kind = kind; hold = c.call.inside.hold; ssas = c.call.inside.ssas.now }) q c.in_ok-parent-in-NextInParent.field-0) (sym c.in-NextInParent.is)
    (below_begins d u f c.args.position.now q at c.call.inside.pcb.now c.call.inside.hold c.call.inside.ssas.now c.in_ok-parent-in-NextInParent.field-0 c.in_ok-parent-in-NextInParent.ensures.value)) in
    sym (ap (option_map (λ i. path_at d.types f i)) (B.none c.in_default.is))

pub seek_from-requires-in-NextInParent-clause-there : goal.seek_from-requires-in-NextInParent-clause-there
seek_from-requires-in-NextInParent-clause-there g c =
    position_kept c.args.dbd.now c.args.volume.now c.next_in_parent_by_first.new.volume c.in_ok-parent-in-NextInParent.ensures.read c.args.position.now c.requires.there

pub seek_from-requires-in-NextInParent-clause-begins : goal.seek_from-requires-in-NextInParent-clause-begins
seek_from-requires-in-NextInParent-clause-begins g c =
    begins_told c.args.dbd.now c.args.volume.now c.next_in_parent_by_first.new.volume c.in_ok-parent-in-NextInParent.ensures.read c.args.call.now c.args.position.now (Some (c.in-Some.parent, c.in-Some.path))
    (λ f q at.
    let d = c.args.dbd.now in
    let u = c.args.volume.now in
    subst (λ (start : Option (ℕ × List ℕ)). IsBeginning d u f c.args.call.now q start) c.in-Some.is
    (
    subst (λ (call : GetCall). IsBeginning d u f call q c.in_ok-parent-in-NextInParent.field-0) c.call.view_is
    (subst (λ (kind : GetKind). IsBeginning d u f (record { pcb = c.call.inside.pcb.now; kind = kind; hold = c.call.inside.hold; ssas = c.call.inside.ssas.now }) q c.in_ok-parent-in-NextInParent.field-0) (sym c.in-NextInParent.is)
    (below_begins d u f c.args.position.now q at c.call.inside.pcb.now c.call.inside.hold c.call.inside.ssas.now c.in_ok-parent-in-NextInParent.field-0 c.in_ok-parent-in-NextInParent.ensures.value))))

pub returns-in_ok-path-in-Next-clause-value : goal.returns-in_ok-path-in-Next-clause-value
returns-in_ok-path-in-Next-clause-value g c =
    if-ok-map c.seek_from.result (λ path sought. sought_before c.args.dbd.now c.args.volume.now c.next_by_first.new.volume c.in_ok-path-in-Next.ensures.read c.args.call.now c.args.position.now path sought)
    c.seek_from.ensures.value

pub returns-in-Some-clause-value : goal.returns-in-Some-clause-value
returns-in-Some-clause-value g c =
    if-ok-map c.seek_from-in-NextInParent.result (λ path sought. sought_before c.args.dbd.now c.args.volume.now c.next_in_parent_by_first.new.volume c.in_ok-parent-in-NextInParent.ensures.read c.args.call.now c.args.position.now path
    sought) c.seek_from-in-NextInParent.ensures.value
