use Rattle.std.proofs.Common.{◌≡◌, ◌+◌, drop, Ok, Bool, true, false, ap, sym, ◌∙◌}
use Rattle.std.specs.Prelude.{◌&&◌, slice_index_or}
use Rattle.std.specs.List.{list_all}
use Rattle.hd_calls.specs.Moves.{Rewrite}
use Rattle.hd_calls.specs.Steps.{keeps_key}
use Rattle.hd_volume.proofs.CallSteps.{read-ok, reads-join}
use Rattle.hd_links.specs.Links.{IsSegment}
use Rattle.hd_links.specs.Steps.{rows_of}
use Rattle.hd_forest.proofs.Reading.{after-read, links-kept, volume-kept}
use Rattle.hd_update.specs.declared.rewrites.NewBytes.{NewBytes}
use Rattle.hd_update.proofs.Reading.{held_read}
use Rattle.hd_update.proofs.Rewritten.{next_of, none_left, row_stored}
use Rattle.hd_update.proofs.replacements.keep_keys.Goals as goal

abbrev none : NewBytes
none = record { address = 0; code = 0; had = 0; start = 0; length = 0 }

pub keeps_key-requires-clause-of : goal.keeps_key-requires-clause-of
keeps_key-requires-clause-of g c = volume-kept c.args.dbd.now c.args.volume.now c.loop-place.volume c.loop-place.invariant.read c.requires.of

pub keeps_key-requires-clause-there : goal.keeps_key-requires-clause-there
keeps_key-requires-clause-there g c =
    links-kept c.args.dbd.now (λ m. IsSegment m (slice_index_or c.args.news.now c.loop-place.place none).address) c.args.volume.now c.loop-place.volume c.loop-place.invariant.read (λ sound.
    let d = c.args.dbd.now in
    let T = c.requires.there sound in
    let N = next_of d.types T.0 c.args.area.now c.args.news.now T.1 c.loop-place.place none T.3 c.loop-place-test.true in
    row_stored d c.args.volume.now T.0 c.args.area.now (slice_index_or c.args.news.now c.loop-place.place none) N.rewrite T.2 N.of)

pub returns-then-not-branch-clause-read : goal.returns-then-not-branch-clause-read
returns-then-not-branch-clause-read g c = reads-join (Ok false) c.loop-place.invariant.read (read-ok false c.in_ok-keeps_key.ensures.read)

pub returns-then-not-branch-clause-value : goal.returns-then-not-branch-clause-value
returns-then-not-branch-clause-value g c f ws sound holds are =
    let d = c.args.dbd.now in
    let u = c.args.volume.now in
    let p : Rewrite → Bool = λ w. keeps_key d.types (rows_of f) w in
    let N = next_of d.types f c.args.area.now c.args.news.now ws c.loop-place.place none are c.loop-place-test.true in
    let same = after-read d u c.loop-place.volume c.loop-place.invariant.read sound in
    let own : p N.rewrite ≡ false
    = sym (c.in_ok-keeps_key.ensures.value f N.rewrite same.sound (held_read d u c.loop-place.volume c.loop-place.invariant.read sound f holds) N.of) ∙ c.if-not-branch.true in
    sym (c.loop-place.invariant.left f ws sound holds are ∙ ap (list_all p) N.left ∙ ap (λ b. b && list_all p (drop (c.loop-place.place + 1) ws)) own)

pub loop-place-preserved : goal.loop-place-preserved
loop-place-preserved g c = record {
  read = reads-join (Ok 0) c.loop-place.invariant.read (read-ok 0 c.in_ok-keeps_key.ensures.read);
  left = λ f ws sound holds are.
      (let d = c.args.dbd.now in
      let u = c.args.volume.now in
      let p : Rewrite → Bool = λ w. keeps_key d.types (rows_of f) w in
      let N = next_of d.types f c.args.area.now c.args.news.now ws c.loop-place.place none are c.loop-place-test.true in
      let same = after-read d u c.loop-place.volume c.loop-place.invariant.read sound in
      let own : p N.rewrite ≡ true
      = sym (c.in_ok-keeps_key.ensures.value f N.rewrite same.sound (held_read d u c.loop-place.volume c.loop-place.invariant.read sound f holds) N.of) ∙ c.if-not-branch.false in
      c.loop-place.invariant.left f ws sound holds are ∙ ap (list_all p) N.left ∙ ap (λ b. b && list_all p (drop (c.loop-place.place + 1) ws)) own);
}

pub returns-clause-value : goal.returns-clause-value
returns-clause-value g c f ws sound holds are =
    let p : Rewrite → Bool = λ w. keeps_key c.args.dbd.now.types (rows_of f) w in
    sym (c.loop-place.invariant.left f ws sound holds are
    ∙ ap (list_all p) (none_left c.args.dbd.now.types f c.args.area.now c.args.news.now ws c.loop-place.place are c.loop-place-test.false).0)
