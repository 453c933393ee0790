use Rattle.std.proofs.Common.{◌≡◌, ℕ, List, Bool, IsTrue, Ok, Some, None, take, sym, ap, subst, ◌∙◌}
use Rattle.hd_dbd.specs.Types.{SegmentType}
use Rattle.hd_dbd.specs.Rows.{key_of, keys_in_order, twins_in_order}
use Rattle.hd_volume.proofs.CallSteps.{read-ok, reads-join}
use Rattle.hd_links.specs.Links.{Links, segment_at}
use Rattle.hd_image.specs.Records.{links_of}
use Rattle.hd_image.proofs.OneImage.{links-same, volume-same}
use Rattle.hd_check_pointers.specs.Keys.{IsLastKey}
use Rattle.hd_check_pointers.proofs.KeyOrder.{twins-by}
use Rattle.hd_check_pointers.proofs.twin_keys.twin_order_fault.Goals as goal

-- twins are in order as their keys are
judged : (types : List SegmentType) (m n : Links) (code h a : ℕ) (key : List ℕ) (is : Bool) → n ≡ m → key ≡ key_of types (segment_at m h) → m.code h ≡ code → m.code a ≡ code
    → is ≡ keys_in_order types code key (key_of types (segment_at n a)) → twins_in_order types (segment_at m h) (segment_at m a) ≡ is
judged types m n code h a key is same own before there right =
    sym (twins-by types (segment_at m h) (segment_at m a) code before there)
    ∙ ap (λ (k : List ℕ). keys_in_order types code k (key_of types (segment_at m a))) (sym own)
    ∙ ap (λ (l : Links). keys_in_order types code key (key_of types (segment_at l a))) (sym same) ∙ sym right

pub is_in_order-requires-clause-of : goal.is_in_order-requires-clause-of
is_in_order-requires-clause-of g c = λ now.
    let read = c.in_ok-read_key.ensures.read in
    let sound : IsTrue c.args.volume.now.is_sound = rw (← read.call.sound) now in
    volume-same c.args.dbd.now c.args.volume.now c.read_key.new.volume (read.image now) read.call.size read.call.sizes (c.requires.of sound)

pub returns-then-branch-clause-read : goal.returns-then-branch-clause-read
returns-then-branch-clause-read g c = read-ok None (reads-join (Ok c.in_ok-is_in_order.field-0) c.in_ok-read_key.ensures.read c.in_ok-is_in_order.ensures.read)

pub returns-then-branch-clause-none : goal.returns-then-branch-clause-none
returns-then-branch-clause-none g c = λ sound.
    let types : List SegmentType = c.args.dbd.now.types in
    let read = c.in_ok-read_key.ensures.read in
    let now : IsTrue c.read_key.new.volume.is_sound = rw read.call.sound sound in
    let same = links-same types c.args.volume.now c.read_key.new.volume (read.image now) read.call.size read.call.sizes in
    judged types (links_of types c.args.volume.now) (links_of types c.read_key.new.volume) c.args.place.code c.args.holder c.args.place.address
    (take c.read_key.new.last.length c.read_key.new.last.key) c.in_ok-is_in_order.field-0 same (c.in_ok-read_key.ensures.key sound) (c.requires.before sound).1 (c.requires.there sound).1
    (c.in_ok-is_in_order.ensures.right now) ∙ c.if-branch.true

pub returns-then-branch-clause-known : goal.returns-then-branch-clause-known
returns-then-branch-clause-known g c = λ sound.
    let types : List SegmentType = c.args.dbd.now.types in
    let read = c.in_ok-read_key.ensures.read in
    let now : IsTrue c.read_key.new.volume.is_sound = rw read.call.sound sound in
    let same = links-same types c.args.volume.now c.read_key.new.volume (read.image now) read.call.size read.call.sizes in
    subst (λ (n : Links). IsLastKey types n c.is_in_order.new.last) same (c.in_ok-is_in_order.ensures.known now)

pub returns-clause-read : goal.returns-clause-read
returns-clause-read g c = read-ok (Some c.at.result) (reads-join (Ok c.in_ok-is_in_order.field-0) c.in_ok-read_key.ensures.read c.in_ok-is_in_order.ensures.read)

pub returns-clause-some : goal.returns-clause-some
returns-clause-some g c = λ sound.
    let types : List SegmentType = c.args.dbd.now.types in
    let read = c.in_ok-read_key.ensures.read in
    let now : IsTrue c.read_key.new.volume.is_sound = rw read.call.sound sound in
    let same = links-same types c.args.volume.now c.read_key.new.volume (read.image now) read.call.size read.call.sizes in (
      c.at.ensures,
      judged types (links_of types c.args.volume.now) (links_of types c.read_key.new.volume) c.args.place.code c.args.holder c.args.place.address
          (take c.read_key.new.last.length c.read_key.new.last.key) c.in_ok-is_in_order.field-0 same (c.in_ok-read_key.ensures.key sound) (c.requires.before sound).1 (c.requires.there sound).1
          (c.in_ok-is_in_order.ensures.right now) ∙ c.if-branch.false,
    )
