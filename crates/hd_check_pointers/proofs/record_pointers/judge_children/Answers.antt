use Rattle.std.proofs.Common.{◌≡◌, ◌+◌, ℕ, List, ◌∷◌, [], drop, slice_index_or, sym, ap, subst, ◌∙◌}
use Rattle.std.proofs.lemmas.List.{drop_more}
use Rattle.std.proofs.Math.ListN.{drop_of_length-le}
use Rattle.hd_dbd.specs.Types.{SegmentType}
use Rattle.hd_prefix.specs.declared.pointer.Pointer.TheVariants.{FirstChild, LastChild}
use Rattle.hd_prefix.specs.Fields.{pointer_of}
use Rattle.hd_links.specs.Links.{Links}
use Rattle.hd_image.specs.Records.{links_of}
use Rattle.hd_image.specs.PointerFaults.{child_pointers}
use Rattle.hd_check_pointers.specs.declared.record_pointers.Wrong.{Wrong}
use Rattle.hd_check_pointers.specs.Judging.{wrong_among, wrong_or}
use Rattle.hd_check_pointers.proofs.WrongLemmas.{or-none, child-step}
use Rattle.hd_check_pointers.proofs.ChildPointers.{first-read, last-read, last-unkept}
use Rattle.hd_check_pointers.proofs.record_pointers.judge_children.Goals as goal

pub loop-child-preserved : goal.loop-child-preserved
loop-child-preserved c = λ v a h stored some.
    let types : List SegmentType = c.args.dbd.now.types in
    let m : Links = links_of types v in
    let ts : List ℕ = c.args.types.now in
    let i : ℕ = c.loop-child.child-index in
    let t : ℕ = slice_index_or ts i 0 in
    let split : drop i ts ≡ t ∷ drop (i + 1) ts = drop_more ts i 0 c.loop-child-test.true in
    let layout = c.of-layout.ensures in
    let R : List SegmentType → ℕ → ℕ → Type 0 = λ us k x. x ≡ pointer_of us k (FirstChild t) c.args.segment.now in
    let Q : List SegmentType → ℕ → ℕ → Type 0 = λ us k x. x ≡ pointer_of us k (LastChild t) c.args.segment.now in
    let first : c.read-first.result ≡ pointer_of types c.args.code (FirstChild t) c.args.segment.now = subst (λ us. R us c.args.code c.read-first.result) layout.types (subst (λ k. R c.of-layout.result.dbd.now.types k c.read-first.result) layout.code c.read-first.ensures) in
    let last : c.read-last.result ≡ pointer_of types c.args.code (LastChild t) c.args.segment.now = subst (λ us. Q us c.args.code c.read-last.result) layout.types (subst (λ k. Q c.of-layout.result.dbd.now.types k c.read-last.result) layout.code c.read-last.ensures) in
    let one : c.wrong_of.result ≡ wrong_among m (record { address = c.read-first.result; type_code = t } ∷ []) = c.wrong_of.ensures c.args.dbd.now v h in
    let two : c.wrong_of-in-loop-child.result ≡ wrong_among m (record { address = c.read-last.result; type_code = t } ∷ []) = c.wrong_of-in-loop-child.ensures c.args.dbd.now v h in
    let rest : Wrong = wrong_among m (child_pointers types m a (drop (i + 1) ts)) in
    ap (λ (w : Wrong). wrong_or w rest) (c.wrong_or-found-in-loop-child.ensures ∙ ap (λ (w : Wrong). wrong_or w c.wrong_of-in-loop-child.result) c.wrong_or-found.ensures
    ∙ ap (λ (w : Wrong). wrong_or (wrong_or c.loop-child.found w) c.wrong_of-in-loop-child.result) one
    ∙ ap (λ (w : Wrong). wrong_or (wrong_or c.loop-child.found (wrong_among m (record { address = c.read-first.result; type_code = t } ∷ []))) w) two)
    ∙ child-step types m a t c.read-first.result c.read-last.result (drop (i + 1) ts) c.loop-child.found
    (first-read types v a t c.args.code c.args.segment.now c.read-first.result some stored c.requires.own first)
    (λ kept. last-read types v a t c.args.code c.args.segment.now c.read-last.result some stored c.requires.own last)
    (λ other. last-unkept types t c.args.code c.args.segment.now c.read-last.result last other)
    ∙ ap (λ (us : List ℕ). wrong_or c.loop-child.found (wrong_among m (child_pointers types m a us))) (sym split)
    ∙ c.loop-child.invariant v a h stored some

pub returns : goal.returns
returns c = λ v a h stored some.
    let types : List SegmentType = c.args.dbd.now.types in
    let m : Links = links_of types v in
    let end : drop c.loop-child.child-index c.args.types.now ≡ [] = drop_of_length-le c.args.types.now c.loop-child-test.false in
    sym (or-none c.loop-child.found) ∙ ap (λ (us : List ℕ). wrong_or c.loop-child.found (wrong_among m (child_pointers types m a us))) (sym end) ∙ c.loop-child.invariant v a h stored some
