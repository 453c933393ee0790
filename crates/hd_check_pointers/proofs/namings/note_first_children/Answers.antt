use Rattle.std.proofs.Common.{◌≡◌, ◌+◌, ◌++◌, [], ℕ, List, drop, slice_index_or, sym, ap, subst, ◌∙◌}
use Rattle.std.proofs.lemmas.List.{drop_more, append-nil}
use Rattle.std.proofs.Math.ListN.{drop_of_length-le}
use Rattle.hd_dbd.specs.Types.{SegmentType}
use Rattle.hd_prefix.specs.declared.pointer.Pointer.TheVariants.{FirstChild}
use Rattle.hd_prefix.specs.Fields.{pointer_of}
use Rattle.hd_links.specs.Links.{Links}
use Rattle.hd_image.specs.Records.{links_of}
use Rattle.hd_check_pointers.specs.Namings.{first_namings}
use Rattle.hd_check_pointers.proofs.ChildPointers.{first-read}
use Rattle.hd_check_pointers.proofs.Noting.{child-noted}
use Rattle.hd_check_pointers.proofs.namings.note_first_children.Goals as goal

pub loop-child-preserved : goal.loop-child-preserved
loop-child-preserved c = λ v stored some.
    let types : List SegmentType = c.args.dbd.now.types in
    let m : Links = links_of types v in
    let a : ℕ = c.args.address in
    let ts : List ℕ = c.args.types.now in
    let i : ℕ = c.loop-child.child-index in
    let t : ℕ = slice_index_or ts i 0 in
    let layout = c.of-layout.ensures in
    let R : List SegmentType → ℕ → ℕ → Type 0 = λ us k x. x ≡ pointer_of us k (FirstChild t) c.args.segment.now in
    let first : c.read-first.result ≡ pointer_of types c.args.code (FirstChild t) c.args.segment.now = subst (λ us. R us c.args.code c.read-first.result) layout.types (subst (λ k. R c.of-layout.result.dbd.now.types k c.read-first.result) layout.code c.read-first.ensures) in
    let noted = c.in_ok-note_naming.ensures in
    child-noted m a t c.read-first.result c.loop-child.namings.items c.note_naming.new.namings.items (drop (i + 1) ts) noted.namings
    (first-read types v a t c.args.code c.args.segment.now c.read-first.result some stored c.requires.own first)
    ∙ ap (λ (us : List ℕ). c.loop-child.namings.items ++ first_namings m a us) (sym (drop_more ts i 0 c.loop-child-test.true))
    ∙ c.loop-child.invariant v stored some

pub returns-clause-namings : goal.returns-clause-namings
returns-clause-namings c = λ v stored some.
    let m : Links = links_of c.args.dbd.now.types v in
    let end : drop c.loop-child.child-index c.args.types.now ≡ [] = drop_of_length-le c.args.types.now c.loop-child-test.false in
    sym (append-nil c.loop-child.namings.items) ∙ ap (λ (us : List ℕ). c.loop-child.namings.items ++ first_namings m c.args.address us) (sym end)
    ∙ c.loop-child.invariant v stored some
