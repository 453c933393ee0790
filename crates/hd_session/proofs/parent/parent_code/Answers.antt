use Rattle.std.proofs.Common.{◌≡◌, ℕ, ◌<◌, List, Some, ap, sym, subst, ◌∙◌, arith}
use Rattle.std.specs.Prelude.{option_map}
use Rattle.hd_dbd.specs.Paths.{row_at}
use Rattle.hd_image.specs.Records.{links_of}
use Rattle.hd_links.specs.Steps.{rows_of}
use Rattle.hd_position.specs.Kept.{Kept}
use Rattle.hd_update.specs.Held.{IsAtLevel}
use Rattle.hd_update.specs.declared.held.HeldRow.{HeldRow}
use Rattle.hd_session.proofs.Parents.{parent_at}
use Rattle.hd_session.proofs.parent.parent_code.Goals as goal

pub row_at-requires-clause-there : goal.row_at-requires-clause-there
row_at-requires-clause-there g c = λ sound.
    let d = c.args.dbd.now in
    let m = links_of d.types c.args.volume.now in
    let k : Kept = c.args.position.now in
    let T = c.requires.there sound in
    let some : 0 < k.parent = (let e : c.parent-level.result ≡ k.parent = c.parent-level.ensures in let n = c.if-level-eq0.false in omega arith) in
    let P = parent_at d.types m T.0 k T.1 T.2.holds.records T.2.stands some in (
      T.0,
      P.number,
      subst (λ (path : List ℕ). IsAtLevel d.types m T.0 path c.parent-level.result P.number) (sym c.path.ensures)
          (subst (λ (l : ℕ). IsAtLevel d.types m T.0 k.path l P.number) (sym c.parent-level.ensures) P.at),
    )

pub returns-clause-value : goal.returns-clause-value
returns-clause-value g c = λ f q at.
    let d = c.args.dbd.now in
    let m = links_of d.types c.args.volume.now in
    let k : Kept = c.args.position.now in
    let some : 0 < k.parent = (let e : c.parent-level.result ≡ k.parent = c.parent-level.ensures in let n = c.if-level-eq0.false in omega arith) in
    let P = parent_at d.types m f k q at.holds.records at.stands some in
    let row = c.in_ok-row.ensures.value f P.number at.sound
    (subst (λ (path : List ℕ). IsAtLevel d.types m f path c.parent-level.result P.number) (sym c.path.ensures)
    (subst (λ (l : ℕ). IsAtLevel d.types m f k.path l P.number) (sym c.parent-level.ensures) P.at)) in
    ap (λ (h : HeldRow). Some h.code) row ∙ ap (option_map (λ i. (row_at (rows_of f) i).code)) (sym P.is)
