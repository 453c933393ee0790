use Rattle.std.proofs.Common.{◌≡◌, true, sym}
use Rattle.std.specs.Prelude.{bytes_eq}
use Rattle.std.proofs.lemmas.Bool.{and_left}
use Rattle.hd_dbd.specs.Rows.{key_of}
use Rattle.hd_links.specs.Links.{segment_at}
use Rattle.hd_image.specs.Records.{links_of}
use Rattle.hd_check_blocks.proofs.Lent.{has-segment, lent}
use Rattle.hd_check_index.proofs.EntrySteps.{is-root, root-there, root-key}
use Rattle.hd_check_index.proofs.wrong_entries.names_root.Goals as goal

pub returns-then-not-is_root-clause-value : goal.returns-then-not-is_root-clause-value
returns-then-not-is_root-clause-value g c = λ sound.
    let d = c.args.dbd.now in
    let v = c.args.volume.now in
    sym (and_left (is-root d.types v c.args.address) (bytes_eq (key_of d.types (segment_at (links_of d.types v) c.args.address)) c.args.key.now) (sym (c.if-not-is_root.ensures d v (c.requires.places sound))))

pub segment_at-requires-clause-there : goal.segment_at-requires-clause-there
segment_at-requires-clause-there g c = λ sound.
    let d = c.args.dbd.now in
    let v = c.args.volume.now in
    has-segment d v c.args.address (c.requires.of sound).fit (c.requires.of sound) (root-there d.types v c.args.address (sym (c.if-not-is_root.ensures d v (c.requires.places sound)))).0

pub returns-clause-value : goal.returns-clause-value
returns-clause-value g c = λ sound.
    let d = c.args.dbd.now in
    let v = c.args.volume.now in
    let root : is-root d.types v c.args.address ≡ true = sym (c.if-not-is_root.ensures d v (c.requires.places sound)) in
    let there = (root-there d.types v c.args.address root).0 in
    let here = lent d v c.args.address c.in_ok-segment.segment.now (c.requires.of sound).fit (c.requires.of sound) there (c.in_ok-segment.ensures.value sound) in
    root-key d.types v c.args.address c.in_ok-segment.segment.now c.args.key.now c.has_key.result here root c.has_key.ensures
