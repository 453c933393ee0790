use Rattle.std.proofs.Common.{◌≡◌, ℕ, ◌<◌, ◌≤◌, ◌++◌, ◌∷◌, [], List, length, take, Ok, ap, ap₂, sym, subst, ◌∙◌, arith}
use Rattle.std.specs.Prelude.{slice_index}
use Rattle.hd_dbd.specs.Forest.{Forest}
use Rattle.hd_links.specs.Links.{Links}
use Rattle.hd_links.specs.Placed.{Placed}
use Rattle.hd_volume.proofs.CallSteps.{read-ok, reads-join}
use Rattle.hd_image.specs.Records.{links_of}
use Rattle.hd_forest.proofs.Reading.{after-read, links-kept, volume-kept}
use Rattle.hd_position.specs.Kept.{Kept}
use Rattle.hd_update.specs.Held.{IsAtLevel, held_row, held_rows}
use Rattle.hd_update.specs.declared.held.HeldRow.{HeldRow}
use Rattle.hd_update.proofs.Levels.{at_level, as_many, held_more, held_few, held_all}
use Rattle.hd_update.proofs.held.held_rows.Goals as goal

pub row_at-requires-clause-of : goal.row_at-requires-clause-of
row_at-requires-clause-of g c = volume-kept c.args.dbd.now c.args.volume.now c.loop-place.volume c.loop-place.invariant.read c.requires.of

pub row_at-requires-clause-there : goal.row_at-requires-clause-there
row_at-requires-clause-there g c =
    links-kept c.args.dbd.now (λ m. (f : Forest Placed) × (i : ℕ) × IsAtLevel c.args.dbd.now.types m f c.path.result.now (slice_index c.as_slice-levels.result.now c.loop-place.place) i)
    c.args.volume.now c.loop-place.volume c.loop-place.invariant.read (λ sound.
    let d = c.args.dbd.now in
    let m = links_of d.types c.args.volume.now in
    let k : Kept = c.args.position.now in
    let T = c.requires.there sound in
    let levels : c.as_slice-levels.result.now ≡ k.held = c.as_slice-levels.ensures.value ∙ c.held.ensures in
    let within : c.loop-place.place < length k.held = subst (λ (xs : List ℕ). c.loop-place.place < length xs) levels c.loop-place-test.true in
    let at = at_level d.types m T.0 k T.1 c.loop-place.place T.2.holds.records T.2.stands within in (
      T.0,
      slice_index T.1.held c.loop-place.place,
      subst (λ (path : List ℕ). IsAtLevel d.types m T.0 path (slice_index c.as_slice-levels.result.now c.loop-place.place) (slice_index T.1.held c.loop-place.place)) (sym c.path.ensures)
          (subst (λ (xs : List ℕ). IsAtLevel d.types m T.0 k.path (slice_index xs c.loop-place.place) (slice_index T.1.held c.loop-place.place)) (sym levels) at),
    ))

pub loop-place-preserved : goal.loop-place-preserved
loop-place-preserved g c = record {
  read = reads-join (Ok 0) c.loop-place.invariant.read (read-ok 0 c.in_ok-row.ensures.read);
  rows = λ f q at.
      (let d = c.args.dbd.now in
      let u = c.args.volume.now in
      let m : Links = links_of d.types u in
      let k : Kept = c.args.position.now in
      let n : ℕ = c.loop-place.place in
      let levels : c.as_slice-levels.result.now ≡ k.held = c.as_slice-levels.ensures.value ∙ c.held.ensures in
      let within : n < length k.held = subst (λ (xs : List ℕ). n < length xs) levels c.loop-place-test.true in
      let some : length q.held ≡ length k.held = as_many _ k.held q.held at.stands.held in
      let few : length k.held ≤ 15 = subst (λ (xs : List ℕ). length xs ≤ 15) c.held.ensures c.as_slice-levels.ensures.few in
      let same = after-read d u c.loop-place.volume c.loop-place.invariant.read at.sound in
      let so_far : c.loop-place.rows ≡ held_rows f (take n q.held) = c.loop-place.invariant.rows f q at in
      let size : length c.loop-place.rows ≤ n = subst (λ (xs : List HeldRow). length xs ≤ n) (sym so_far) (held_few f n q.held) in
      let room : length c.loop-place.rows < 15 = omega arith in
      let here = at_level d.types m f k q n at.holds.records at.stands within in
      let at_it = subst (λ (path : List ℕ). IsAtLevel d.types m f path (slice_index c.as_slice-levels.result.now n) (slice_index q.held n)) (sym c.path.ensures)
      (subst (λ (xs : List ℕ). IsAtLevel d.types m f k.path (slice_index xs n) (slice_index q.held n)) (sym levels) here) in
      let row : c.in_ok-row.row ≡ held_row f (slice_index q.held n)
      = c.in_ok-row.ensures.value f (slice_index q.held n) same.sound (subst (λ (x : Links). IsAtLevel d.types x f c.path.result.now (slice_index c.as_slice-levels.result.now n) (slice_index q.held n)) (sym same.links) at_it) in
      c.push.ensures room ∙ ap₂ (λ (xs : List HeldRow) (x : HeldRow). xs ++ x ∷ []) so_far row ∙ sym (held_more f q.held n (omega arith)));
}

pub returns-clause-value : goal.returns-clause-value
returns-clause-value g c f q at =
    let k : Kept = c.args.position.now in
    let levels : c.as_slice-levels.result.now ≡ k.held = c.as_slice-levels.ensures.value ∙ c.held.ensures in
    let past : length k.held ≤ c.loop-place.place = subst (λ (xs : List ℕ). length xs ≤ c.loop-place.place) levels c.loop-place-test.false in
    let some : length q.held ≡ length k.held = as_many _ k.held q.held at.stands.held in
    c.loop-place.invariant.rows f q at ∙ ap (held_rows f) (held_all c.loop-place.place q.held (omega arith))
