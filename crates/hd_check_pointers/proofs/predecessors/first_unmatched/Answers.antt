use Rattle.std.proofs.Common.{◌+◌, ◌<◌, ℕ, List, length, drop, Option, sym, ap, arith, ◌∙◌}
use Rattle.std.proofs.lemmas.List.{drop_more, drop-drop}
use Rattle.hd_check_blocks.specs.declared.fault.Fault.{Fault}
use Rattle.hd_check_blocks.specs.declared.places.Place.{Place}
use Rattle.hd_check_pointers.specs.declared.namings.Naming.{Naming}
use Rattle.hd_check_pointers.specs.Namings.{fault_or, match_fault, first_unmatched}
use Rattle.hd_check_pointers.specs.Tables.{place_at}
use Rattle.hd_check_pointers.proofs.Noting.{or-none}
use Rattle.hd_check_pointers.proofs.predecessors.first_unmatched.Goals as goal

pub loop-i-preserved : goal.loop-i-preserved
loop-i-preserved c =
    let ps : List Place = c.args.places.now in
    let ns : List Naming = c.args.namings.now in
    let i : ℕ = c.loop-i.i in
    let p : Place = place_at ps i in
    let within : i < length ps = (let low = c.loop-i-test.true in omega arith) in
    let rest : Option Fault = first_unmatched (drop (i + 1) ps) (drop (i + 1) ns) in
    sym (ap (λ (o : Option Fault). fault_or o rest) (sym c.match_fault-fault.ensures) ∙ or-none c.match_fault-fault.result rest (sym c.is_some.ensures ∙ c.if-is_some.false))
    ∙ ap (λ (l : List Naming). fault_or (match_fault p.address (drop i ns)) (first_unmatched (drop (i + 1) ps) l)) (sym (drop-drop 1 i ns))
    ∙ ap (λ (l : List Place). first_unmatched l (drop i ns)) (sym (drop_more ps i (record { address = 0; code = 0 }) within))
    ∙ c.loop-i.invariant
