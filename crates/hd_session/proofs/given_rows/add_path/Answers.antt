use Rattle.std.proofs.Common.{◌≡◌, ℕ, ◌<◌, List, length, take, Bool, Ok, ap, ap₂, sym, subst, ◌∙◌, arith}
use Rattle.std.specs.Prelude.{slice_index}
use Rattle.hd_dbd.specs.Segment.{Segment}
use Rattle.hd_volume.proofs.CallSteps.{read-ok, reads-join}
use Rattle.hd_links.specs.Links.{Links, IsSegment, segment_at}
use Rattle.hd_image.specs.Records.{links_of}
use Rattle.hd_forest.proofs.Reading.{after-read, links-kept, volume-kept}
use Rattle.hd_session.specs.Buffer.{Buffer}
use Rattle.hd_session.specs.Giving.{IsCodeOn, HasRoom, with_row, with_path}
use Rattle.hd_session.proofs.GivenPaths.{path_more, tip_more, stored_on, room_on}
use Rattle.hd_session.proofs.given_rows.add_path.Goals as goal

pub add_segment-requires-clause-of : goal.add_segment-requires-clause-of
add_segment-requires-clause-of g c = volume-kept c.args.dbd.now c.args.volume.now c.loop-place.volume c.loop-place.invariant.read c.requires.of

pub add_segment-requires-clause-there : goal.add_segment-requires-clause-there
add_segment-requires-clause-there g c =
    links-kept c.args.dbd.now (λ m. IsSegment m (slice_index c.addresses-addresses.result.now c.loop-place.place)) c.args.volume.now c.loop-place.volume c.loop-place.invariant.read (λ sound.
    let d = c.args.dbd.now in
    let u = c.args.volume.now in
    let n : ℕ = c.loop-place.place in
    let T = c.requires.there sound in
    let test = c.loop-place-test.true in
    let part = c.requires.part in
    let within : n < length c.args.path.now = omega arith in
    subst (λ (xs : List ℕ). IsSegment (links_of d.types u) (slice_index xs n)) (sym c.addresses-addresses.ensures.value) (stored_on d u T.0 c.args.path.now T.1 (c.requires.of sound) T.2 n within))

pub loop-place-preserved : goal.loop-place-preserved
loop-place-preserved g c =
    let test = c.loop-place-test.true in
    record {
      read = reads-join (Ok 0) c.loop-place.invariant.read (read-ok 0 c.in_ok-code.ensures.read);
      part = omega arith;
      code = λ some sound.
          (let d = c.args.dbd.now in
          let u = c.args.volume.now in
          let path : List ℕ = c.args.path.now in
          let n : ℕ = c.loop-place.place in
          let part = c.requires.part in
          let within : n < length path = omega arith in
          let same = after-read d u c.loop-place.volume c.loop-place.invariant.read sound in
          c.in_ok-code.ensures.code same.sound
          ∙ ap₂ (λ (m : Links) (a : ℕ). m.code a) same.links (ap (λ (xs : List ℕ). slice_index xs n) c.addresses-addresses.ensures.value ∙ sym (tip_more path n within)));
      same_room = c.add_segment.ensures.same_room ∙ c.loop-place.invariant.same_room;
      added = λ sound.
          (let d = c.args.dbd.now in
          let u = c.args.volume.now in
          let v = c.loop-place.volume in
          let path : List ℕ = c.args.path.now in
          let levels : List ℕ = c.args.levels.now in
          let room : ℕ = c.args.io.now.room in
          let n : ℕ = c.loop-place.place in
          let T = c.requires.there sound in
          let value : c.addresses-addresses.result.now ≡ path = c.addresses-addresses.ensures.value in
          let part = c.requires.part in
          let within : n < length path = omega arith in
          let same = after-read d u v c.loop-place.invariant.read sound in
          let row : segment_at (links_of d.types v) (slice_index c.addresses-addresses.result.now n) ≡ segment_at (links_of d.types u) (slice_index path n)
          = ap₂ (λ (m : Links) (a : ℕ). segment_at m a) same.links (ap (λ (xs : List ℕ). slice_index xs n) value) in
          let so_far : c.loop-place.io ≡ with_path d.types (links_of d.types u) levels room (take n path) = c.loop-place.invariant.added sound in
          let has : HasRoom d.types (segment_at (links_of d.types v) (slice_index c.addresses-addresses.result.now n)) c.loop-place.io
          = subst (λ (b : Buffer). HasRoom d.types (segment_at (links_of d.types v) (slice_index c.addresses-addresses.result.now n)) b) (sym so_far)
          (subst (λ (r : Segment). HasRoom d.types r (with_path d.types (links_of d.types u) levels room (take n path))) (sym row)
          (room_on d u T.0 path T.1 (c.requires.of sound) T.2 levels room n c.addresses-addresses.ensures.few c.requires.room within)) in
          c.in_ok-code.ensures.added same.sound has
          ∙ ap₂ (λ (r : Segment) (b : Buffer). with_row d.types c.is_among-is_given.result r b) row so_far
          ∙ ap (λ (given : Bool). with_row d.types given (segment_at (links_of d.types u) (slice_index path n)) (with_path d.types (links_of d.types u) levels room (take n path))) c.is_among-is_given.ensures
          ∙ sym (path_more d.types (links_of d.types u) levels room path n within));
    }

pub returns-clause-added : goal.returns-clause-added
returns-clause-added g c sound =
    let i = c.loop-place.invariant in
    let end = c.loop-place-test.false in
    let part = i.part in
    let all : c.loop-place.place ≡ c.args.to = omega arith in
    i.added sound
    ∙ ap₂ (λ n r. with_path c.args.dbd.now.types (links_of c.args.dbd.now.types c.args.volume.now) c.args.levels.now r (take n c.args.path.now)) all (sym i.same_room)

pub returns-clause-code : goal.returns-clause-code
returns-clause-code g c some =
    let i = c.loop-place.invariant in
    let end = c.loop-place-test.false in
    let part = i.part in
    let all : c.loop-place.place ≡ c.args.to = omega arith in
    subst (λ (n : ℕ). IsCodeOn c.args.dbd.now c.args.volume.now c.args.path.now n c.loop-place.code) all (i.code (omega arith))
