use Rattle.std.proofs.Common.{◌≡◌, ℕ, List, ◌∷◌, [], ap, subst, ◌∙◌}
use Rattle.hd_dbd.specs.Types.{SegmentType}
use Rattle.hd_dbd.specs.Prefixes.{is_backward_kept, children_of}
use Rattle.hd_prefix.specs.declared.pointer.Pointer.{Pointer}
use Rattle.hd_prefix.specs.declared.pointer.Pointer.TheVariants.{TwinForward, TwinBackward}
use Rattle.hd_prefix.specs.Fields.{pointer_of}
use Rattle.hd_links.specs.Links.{Links}
use Rattle.hd_image.specs.Records.{links_of}
use Rattle.hd_image.specs.PointerFaults.{child_pointers}
use Rattle.hd_check_pointers.specs.declared.record_pointers.Wrong.{Wrong}
use Rattle.hd_check_pointers.specs.Judging.{wrong_among, wrong_or}
use Rattle.hd_check_pointers.proofs.ChildPointers.{code-read, forward-read, backward-read, backward-unkept}
use Rattle.hd_check_pointers.proofs.RecordFaults.{segment-pointers}
use Rattle.hd_check_pointers.proofs.record_pointers.judge_segment.Goals as goal

pub returns : goal.returns
returns c = λ v a h stored some.
    let types : List SegmentType = c.args.dbd.now.types in
    let m : Links = links_of types v in
    let code : ℕ = c.args.code in
    let own : code ≡ m.code a = code-read types v a code c.args.segment.now stored c.requires.own in
    let layout = c.of-layout.ensures in
    let R : Pointer → List SegmentType → ℕ → ℕ → Type 0 = λ p us k x. x ≡ pointer_of us k p c.args.segment.now in
    let forward : c.read.result ≡ pointer_of types code TwinForward c.args.segment.now = subst (λ us. R TwinForward us code c.read.result) layout.types (subst (λ k. R TwinForward c.of-layout.result.dbd.now.types k c.read.result) layout.code c.read.ensures) in
    let backward : c.read-2.result ≡ pointer_of types code TwinBackward c.args.segment.now = subst (λ us. R TwinBackward us code c.read-2.result) layout.types (subst (λ k. R TwinBackward c.of-layout.result.dbd.now.types k c.read-2.result) layout.code c.read-2.ensures) in
    let C : List ℕ → Wrong = λ ts. wrong_among m (child_pointers types m a ts) in
    let one : ℕ → ℕ → Wrong = λ x k. wrong_among m (record { address = x; type_code = k } ∷ []) in
    let twins : c.wrong_or-twins.result ≡ wrong_or (one c.read.result (m.code a)) (one c.read-2.result (m.code a)) =
    c.wrong_or-twins.ensures ∙ ap (λ (w : Wrong). wrong_or w c.wrong_of-backward.result) (c.wrong_of-forward.ensures c.args.dbd.now v h)
    ∙ ap (wrong_or (one c.read.result code)) (c.wrong_of-backward.ensures c.args.dbd.now v h)
    ∙ ap (λ (k : ℕ). wrong_or (one c.read.result k) (one c.read-2.result k)) own in
    segment-pointers types m a c.read.result c.read-2.result c.judge_children.result some (λ z. c.requires.some (own ∙ z))
    (forward-read types v a code c.args.segment.now c.read.result stored c.requires.own forward)
    (λ kept. backward-read types v a code c.args.segment.now c.read-2.result stored c.requires.own backward)
    (λ other. backward-unkept types code c.args.segment.now c.read-2.result backward (ap (is_backward_kept types) own ∙ other))
    (c.judge_children.ensures v a h stored some ∙ ap (λ (w : Wrong). wrong_or w (C c.children_of.result.now)) twins
    ∙ ap (λ (ts : List ℕ). wrong_or (wrong_or (one c.read.result (m.code a)) (one c.read-2.result (m.code a))) (C ts)) (c.children_of.ensures ∙ ap (children_of types) own))
