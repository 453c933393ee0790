use Rattle.std.proofs.Common.{◌≡◌, ℕ, List, take, true, refl, sym, ap, ◌∙◌}
use Rattle.std.specs.Prelude.{bytes_eq}
use Rattle.hd_dbd.specs.Rows.{key_of}
use Rattle.hd_check_blocks.proofs.LongSegments.{begin-whole}
use Rattle.hd_dbd.specs.Hierarchy.{Database}
use Rattle.hd_check_blocks.proofs.Lent.{has-segment, lent}
use Rattle.hd_check_index.proofs.EntrySteps.{is-root, placed-root, root-there, root-key}
use Rattle.hd_check_index.proofs.wrong_entries.names_root_in.Goals as goal

pub returns-in-Some : goal.returns-in-Some
returns-in-Some c = λ yes v n of are is begins.
    let d : Database = c.args.dbd.now in
    let root : is-root d.types v c.args.address ≡ true = sym (placed-root d.types v c.args.places.now are c.args.address 1 (c.if-not-is_root_at.ensures refl)) in
    let there = (root-there d.types v c.args.address root).0 in
    let begins-there = c.in-Some.ensures v n is begins of.formatted (has-segment d v c.args.address of.fit of there) in
    let here = lent d v c.args.address (take begins-there.0 c.in-Some.segment.now) of.fit of there begins-there.1 in
    let coded = (root-there d.types v c.args.address root).1 in
    let long = begin-whole d v c.args.address begins-there.0 1 c.in-Some.segment.now of there coded here in
    sym (root-key d.types v c.args.address (take begins-there.0 c.in-Some.segment.now) c.args.key.now true here root
    (λ whole. sym (c.has_own_key.ensures yes) ∙ ap (λ (own : List ℕ). bytes_eq (key_of d.types (record { code = 1; bytes = own })) c.args.key.now) long.1))
