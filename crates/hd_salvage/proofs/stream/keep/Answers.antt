use Rattle.std.proofs.Common.{◌≡◌, ℕ, ◌+◌, ◌*◌, ◌/◌, ◌<◌, List, Bool, false, length, refl, ap, subst, ◌∙◌}
use Rattle.std.specs.Prelude.{slice_index_or}
use Rattle.hd_salvage.proofs.Keeping.{kept-more}
use Rattle.hd_salvage.proofs.stream.keep.Goals as goal

pub returns-then-is_kept-clause-kept : goal.returns-then-is_kept-clause-kept
returns-then-is_kept-clause-kept g c = λ yes sound count.
    let d = c.args.dbd.now in
    let v = c.args.volume.now in
    let r = c.args.noted in
    let marks : List Bool = c.args.marks.now.items in
    let at : ℕ = c.eighth_of-at.result in
    let free = subst (λ (ms : List Bool). (at < length ms) × (slice_index_or ms at false ≡ false)) c.deref.ensures.value (c.if-not-is_free.ensures refl) in
    kept-more d v r (g.W.Write.contents c.args.out.now) (g.W.Write.contents c.keep_there.new.out) c.args.path.now c.keep_there.new.path marks _ at count (count + 1) (c.requires.noted sound)
    (c.eighth_of-at.ensures ∙ ap (λ (s : ℕ). (r.block * s + r.place) / 8) c.block_size.ensures.value)
    free.0 free.1 refl refl (c.in_ok-is_kept.ensures.kept yes sound)
