use Rattle.std.proofs.Common.{◌≡◌, ℕ, List, length, take, ap, sym, subst, ◌≤◌, ◌∙◌}
use Rattle.hd_dbd.proofs.KeyLengths.{key_of_short}
use Rattle.hd_dbd.specs.Rows.{key_of, keys_in_order}
use Rattle.hd_links.specs.Links.{segment_at}
use Rattle.hd_image.specs.Records.{links_of}
use Rattle.hd_check_blocks.proofs.Lent.{has-segment, lent}
use Rattle.hd_check_pointers.proofs.KeyOrder.{lent-key}
use Rattle.hd_check_pointers.proofs.twin_keys.is_in_order.Goals as goal

pub segment_at-requires-clause-there : goal.segment_at-requires-clause-there
segment_at-requires-clause-there g c = λ sound. has-segment c.args.dbd.now c.args.volume.now c.args.place.address (c.requires.of sound).fit (c.requires.of sound) (c.requires.there sound).0

pub returns-clause-right : goal.returns-clause-right
returns-clause-right g c = λ sound.
    let d = c.args.dbd.now in
    let v = c.args.volume.now in
    let here = lent d v c.args.place.address c.in_ok-segment.segment.now (c.requires.of sound).fit (c.requires.of sound) (c.requires.there sound).0 (c.in_ok-segment.ensures.value sound) in
    let is : c.stored_key-key.result.now ≡ key_of d.types (segment_at (links_of d.types v) c.args.place.address) =
    lent-key d.types v c.args.place.address c.in_ok-segment.segment.now c.args.place.code c.stored_key-key.result.now here (c.requires.there sound).1 c.stored_key-key.ensures in
    (◌∙◌) {b = keys_in_order d.types c.args.place.code (take c.args.last.now.length c.args.last.now.key) c.stored_key-key.result.now} c.keys_in_order-is_right.ensures (ap (keys_in_order d.types c.args.place.code (take c.args.last.now.length c.args.last.now.key)) is)

pub returns-clause-known : goal.returns-clause-known
returns-clause-known g c = λ sound some.
    let d = c.args.dbd.now in
    let v = c.args.volume.now in
    let here = lent d v c.args.place.address c.in_ok-segment.segment.now (c.requires.of sound).fit (c.requires.of sound) (c.requires.there sound).0 (c.in_ok-segment.ensures.value sound) in
    let is : c.stored_key-key.result.now ≡ key_of d.types (segment_at (links_of d.types v) c.args.place.address) =
    lent-key d.types v c.args.place.address c.in_ok-segment.segment.now c.args.place.code c.stored_key-key.result.now here (c.requires.there sound).1 c.stored_key-key.ensures in
    c.keep_key.ensures.key (subst (λ (k : List ℕ). length k ≤ 255) (sym is) (key_of_short d.block_size d.frspc d.types (segment_at (links_of d.types v) c.args.place.address) (c.requires.of sound).fit)) ∙ is
    ∙ ap (λ (a : ℕ). key_of d.types (segment_at (links_of d.types v) a)) (sym c.keep_key.ensures.address)
