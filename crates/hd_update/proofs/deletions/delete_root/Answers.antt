use Rattle.std.proofs.Common.{◌≡◌, ℕ, List, Ok, IsTrue, ap, sym, ◌∙◌}
use Rattle.hd_dbd.specs.Rows.{key_of}
use Rattle.hd_volume.proofs.CallSteps.{sound-back}
use Rattle.hd_links.specs.Links.{Links, segment_at}
use Rattle.hd_image.specs.Records.{links_of}
use Rattle.hd_forest.specs.Walks.{tip}
use Rattle.hd_forest.proofs.Reading.{after-read, sound-before}
use Rattle.hd_index.specs.Maps.{without_key}
use Rattle.hd_index.specs.Changes.{entries_for}
use Rattle.hd_update.specs.Deleting.{IsPlacedOn}
use Rattle.hd_update.proofs.Unlinked.{on_ok4, placed_read, taken_before, may_unlink, index_there, taken_root}
use Rattle.hd_update.proofs.deletions.delete_root.Goals as goal

pub unlink_span-requires-clause-of : goal.unlink_span-requires-clause-of
unlink_span-requires-clause-of g c now =
    let sound = sound-before c.args.volume.now c.key_on.new.volume c.in_ok-key.ensures.read now in
    let T = c.requires.there sound in
    (placed_read c.args.dbd.now c.args.volume.now c.key_on.new.volume c.in_ok-key.ensures.read T.0 c.args.path.now T.1 T.2).holds.volume

pub unlink_span-requires-clause-holds : goal.unlink_span-requires-clause-holds
unlink_span-requires-clause-holds g c now =
    let sound = sound-before c.args.volume.now c.key_on.new.volume c.in_ok-key.ensures.read now in
    let T = c.requires.there sound in
    (T.0, (placed_read c.args.dbd.now c.args.volume.now c.key_on.new.volume c.in_ok-key.ensures.read T.0 c.args.path.now T.1 T.2).holds.records)

pub unlink_span-requires-clause-there : goal.unlink_span-requires-clause-there
unlink_span-requires-clause-there g c now =
    let sound = sound-before c.args.volume.now c.key_on.new.volume c.in_ok-key.ensures.read now in
    let T = c.requires.there sound in
    may_unlink c.args.dbd.now c.key_on.new.volume T.0 c.args.path.now T.1 (placed_read c.args.dbd.now c.args.volume.now c.key_on.new.volume c.in_ok-key.ensures.read T.0 c.args.path.now T.1 T.2)

pub remove-requires : goal.remove-requires
remove-requires g c = record {
  index = λ last.
      (let now : IsTrue c.key_on.new.volume.is_sound = sound-back (Ok c.in_ok-unlink_span.field-0) c.key_on.new.volume.is_sound c.unlink_span.new.volume.is_sound c.in_ok-unlink_span.ensures.call.sound last in
      let sound = sound-before c.args.volume.now c.key_on.new.volume c.in_ok-key.ensures.read now in
      let T = c.requires.there sound in
      index_there c.args.dbd.now c.key_on.new.volume T.0 c.args.path.now T.1 (placed_read c.args.dbd.now c.args.volume.now c.key_on.new.volume c.in_ok-key.ensures.read T.0 c.args.path.now T.1 T.2)
      c.unlink_span.new.volume (c.in_ok-unlink_span.ensures.unlinked now));
}

pub returns-clause-taken_out : goal.returns-clause-taken_out
returns-clause-taken_out g c =
    on_ok4 c.remove.result c.remove.ensures.index c.remove.ensures.entries c.remove.ensures.changed c.remove.ensures.spares (λ index entries changed spares f i at.
    let d = c.args.dbd.now in
    let v = c.args.volume.now in
    let mid = c.key_on.new.volume in
    let w = c.unlink_span.new.volume in
    let path : List ℕ = c.args.path.now in
    let same = after-read d v mid c.in_ok-key.ensures.read at.sound in
    let now : IsPlacedOn d mid f path i = placed_read d v mid c.in_ok-key.ensures.read f path i at in
    let last : IsTrue w.is_sound = rw c.in_ok-unlink_span.ensures.call.sound same.sound in
    let key : c.as_slice.result.now ≡ key_of d.types (segment_at (links_of d.types mid) (tip path))
    = c.as_slice.ensures ∙ c.in_ok-key.ensures.value at.sound ∙ ap (λ (m : Links). key_of d.types (segment_at m (tip path))) (sym same.links) in
    taken_before d v mid f path i c.remove.new.volume same.image
    (taken_root d mid f path i now w c.remove.new.volume c.requires.root (c.in_ok-unlink_span.ensures.unlinked same.sound)
    (record {
      size = c.remove.ensures.call.size;
      sizes = c.remove.ensures.call.sizes;
      index = index last;
      entries = entries last ∙ ap (λ (k : List ℕ). without_key k (entries_for d w)) key;
      change = changed last;
    }) (spares last)))
