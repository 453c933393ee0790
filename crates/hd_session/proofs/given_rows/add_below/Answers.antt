use Rattle.std.proofs.Common.{◌≡◌, ℕ, ◌+◌, ◌-◌, ◌<◌, List, [], ◌∷◌, ◌++◌, length, take, true, false, Bool, ap, ap₂, sym, subst, ◌∙◌, arith}
use Rattle.std.specs.Prelude.{◌&&◌, ◌||◌, slice_index}
use Rattle.std.proofs.lemmas.Bool.{lt-ltb, eq-eqb}
use Rattle.hd_dbd.specs.Segment.{Segment}
use Rattle.hd_links.specs.Links.{Links, IsSegment, segment_at}
use Rattle.hd_image.specs.Records.{links_of}
use Rattle.hd_forest.specs.Walks.{tip}
use Rattle.hd_session.specs.LastGiven.{Given, are_below}
use Rattle.hd_session.specs.Buffer.{Buffer}
use Rattle.hd_session.specs.Giving.{HasRoom, with_row, with_path, is_among}
use Rattle.hd_session.proofs.GivenPaths.{path_more, path_some, room_on, stored_on, tip_more}
use Rattle.hd_session.proofs.KeysKnown.{ahead_kept, keys_kept, known_added, seen}
use Rattle.hd_session.proofs.given_rows.add_below.Goals as goal

pub add_seen-requires-clause-there : goal.add_seen-requires-clause-there
add_seen-requires-clause-there g c sound =
    let d = c.args.dbd.now in
    let u = c.args.volume.now in
    let path : List ℕ = c.args.path.now in
    let T = c.requires.there sound in
    let of = c.requires.of sound in
    let some : 0 < length path = path_some d u T.0 path T.1 of T.2 in
    subst (λ (xs : List ℕ). IsSegment (links_of d.types u) (slice_index xs (length xs - 1))) (sym c.addresses-addresses.ensures.value) (stored_on d u T.0 path T.1 of T.2 (length path - 1) (omega (arith, some)))

pub returns-clause-code : goal.returns-clause-code
returns-clause-code g c sound =
    let d = c.args.dbd.now in
    let u = c.args.volume.now in
    let m : Links = links_of d.types u in
    let path : List ℕ = c.args.path.now in
    let n : ℕ = length path - 1 in
    let T = c.requires.there sound in
    let some : 0 < length path = path_some d u T.0 path T.1 (c.requires.of sound) T.2 in
    let all : n + 1 ≡ length path = omega (arith, some) in
    c.in_ok-code.ensures.code sound
    ∙ ap (λ (xs : List ℕ). m.code (slice_index xs (length xs - 1))) c.addresses-addresses.ensures.value
    ∙ ap m.code (sym (tip_more path n (omega (arith, some))))
    ∙ ap (λ (k : ℕ). m.code (tip (take k path))) all

pub returns-clause-added : goal.returns-clause-added
returns-clause-added g c sound =
    let d = c.args.dbd.now in
    let u = c.args.volume.now in
    let m : Links = links_of d.types u in
    let above : Given = c.args.last_given.now in
    let path : List ℕ = c.args.path.now in
    let levels : List ℕ = length path ∷ [] in
    let room : ℕ = c.args.io.now.room in
    let n : ℕ = length path - 1 in
    let T = c.requires.there sound in
    let of = c.requires.of sound in
    let just = c.requires.below.0 in
    let some : 0 < length path = omega (arith, just) in
    let within : n < length path = omega (arith, some) in
    let rows : length above.path ≡ n = omega (arith, just) in
    let all : n + 1 ≡ length path = omega (arith, some) in
    let below : are_below levels (length above.path) ≡ true = ap (λ (b : Bool). b && true) (lt-ltb (length above.path) (length path) (omega (arith, just))) in
    let at : slice_index c.addresses-addresses.result.now (length c.addresses-addresses.result.now - 1) ≡ slice_index path n = ap (λ (xs : List ℕ). slice_index xs (length xs - 1)) c.addresses-addresses.ensures.value in
    let pushed : c.push_key.new.self ≡ with_path d.types m levels room (take n path)
    = c.push_key.ensures ∙ ap₂ (λ (k a : List ℕ). record { key = k ++ c.keys.result.now; area = a; room = room }) c.requires.empty.0 c.requires.empty.1
    ∙ ap (λ (k : List ℕ). record { key = k; area = []; room = room }) c.keys.ensures.value
    ∙ known_added d.types m levels path room above c.requires.below.1 below (c.requires.known sound).0
    ∙ ap (λ (k : ℕ). with_path d.types m levels room (take k path)) rows in
    let row : segment_at m (slice_index c.addresses-addresses.result.now (length c.addresses-addresses.result.now - 1)) ≡ segment_at m (slice_index path n) = ap (segment_at m) at in
    let has : HasRoom d.types (segment_at m (slice_index c.addresses-addresses.result.now (length c.addresses-addresses.result.now - 1))) c.push_key.new.self
    = subst (λ (b : Buffer). HasRoom d.types (segment_at m (slice_index c.addresses-addresses.result.now (length c.addresses-addresses.result.now - 1))) b) (sym pushed)
    (subst (λ (r : Segment). HasRoom d.types r (with_path d.types m levels room (take n path))) (sym row)
    (room_on d u T.0 path T.1 of T.2 levels room n c.addresses-addresses.ensures.few c.requires.room within)) in
    let among : is_among levels (n + 1) ≡ true = ap (λ (b : Bool). b || false) (eq-eqb (length path) (n + 1) (sym all)) in
    c.in_ok-code.ensures.added sound has
    ∙ ap₂ (λ (r : Segment) (b : Buffer). with_row d.types true r b) row pushed
    ∙ ap (λ (given : Bool). with_row d.types given (segment_at m (slice_index path n)) (with_path d.types m levels room (take n path))) (sym among)
    ∙ sym (path_more d.types m levels room path n within)
    ∙ ap₂ (λ (k r : ℕ). with_path d.types m levels r (take k path)) all (sym (c.add_seen.ensures.same_room ∙ ap (λ (b : Buffer). b.room) c.push_key.ensures))

pub returns-clause-known : goal.returns-clause-known
returns-clause-known g c =
    let d = c.args.dbd.now in
    let u = c.args.volume.now in
    let w = c.add_seen.new.volume in
    seen d w c.args.last_given.now c.see.new.self _ c.in_ok-code.ahead c.see.ensures (keys_kept d u w c.in_ok-code.ensures.read c.args.last_given.now c.requires.known)
    (ahead_kept d u w c.in_ok-code.ensures.read _ c.in_ok-code.ahead c.in_ok-code.ensures.ahead)
