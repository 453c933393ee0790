use Rattle.std.proofs.Common.{◌≡◌, ◌++◌, ◌∷◌, [], ℕ, List, take, slice_index_or, sym, ap, ◌∙◌, rules, append_assoc}
use Rattle.std.proofs.lemmas.List.{map_more}
use Rattle.hd_dbd.specs.Types.{SegmentType}
use Rattle.hd_prefix.specs.declared.pointer.Pointer.TheVariants.{FirstChild, LastChild}
use Rattle.hd_prefix.specs.Fields.{pointer_of}
use Rattle.hd_check_walk.specs.declared.notes.Named.{Named}
use Rattle.hd_check_walk.specs.Notes.{named_in}
use Rattle.hd_check_walk.proofs.SegmentFacts.{layout-read}
use Rattle.hd_check_walk.proofs.notes.note_each_child.Goals as goal

pub loop-child-preserved : goal.loop-child-preserved
loop-child-preserved c =
    let types : List SegmentType = c.args.dbd.now.types in
    let code : ℕ = c.args.code in
    let segment : List ℕ = c.args.segment.now in
    let ts : List ℕ = c.children_of-child-items.result.now in
    let i : ℕ = c.loop-child.child-index in
    let t : ℕ = slice_index_or ts i 0 in
    let layout = c.of-layout in
    let first : c.read-first.result ≡ pointer_of types code (FirstChild t) segment =
    layout-read types layout.result.dbd.now.types code layout.result.code (FirstChild t) segment c.read-first.result layout.ensures.types layout.ensures.code c.read-first.ensures in
    let last : c.read-last.result ≡ pointer_of types code (LastChild t) segment =
    layout-read types layout.result.dbd.now.types code layout.result.code (LastChild t) segment c.read-last.result layout.ensures.types layout.ensures.code c.read-last.ensures in
    let pair : Named = record { first = c.read-first.result; last = c.read-last.result } in
    let pushed : c.push.new.self.items ≡ c.loop-child.named.items ++ pair ∷ [] = search rules in
    let read : Named = record { first = pointer_of types code (FirstChild t) segment; last = pointer_of types code (LastChild t) segment } in
    let same : pair ≡ read = cc in
    pushed ∙ ap (λ (x : Named). c.loop-child.named.items ++ x ∷ []) same ∙ ap (λ (l : List Named). l ++ read ∷ []) c.loop-child.invariant
    ∙ append_assoc c.args.named.now.items (named_in types code segment (take i ts)) (read ∷ [])
    ∙ ap (λ (l : List Named). c.args.named.now.items ++ l) (sym (map_more _ ts i 0 c.loop-child-test.true))
