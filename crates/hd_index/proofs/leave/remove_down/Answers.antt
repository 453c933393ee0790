use Rattle.std.proofs.Common.{◌≡◌, ◌-◌, ◌<◌, ℕ, IsTrue, refl, sym, ap, ◌∙◌, arith}
use Rattle.hd_volume.specs.Headers.{header_of}
use Rattle.hd_volume.proofs.JoinLemmas.{read-one}
use Rattle.hd_index_blocks.specs.Maps.{address_of, without_key}
use Rattle.hd_index_blocks.specs.IndexSets.{top_level, index_entries}
use Rattle.hd_index.proofs.CallLemmas.{on-ok-map}
use Rattle.hd_index.specs.declared.stand.Stand.{Stand}
use Rattle.hd_index.specs.Changes.{IsChanged}
use Rattle.hd_index.proofs.Searching.{set-same, order-same}
use Rattle.hd_index.proofs.Forks.{on-order, way-one}
use Rattle.hd_index.proofs.Trims.{unchanged, removed-read, on-start, one-joined, read-address, none-of, some-of}
use Rattle.hd_index.proofs.leave.remove_down.Goals as goal

pub returns-then-is_none-clause-changed : goal.returns-then-is_none-clause-changed
returns-then-is_none-clause-changed g c sound =
    let u = c.args.volume.now in
    let v = c.way_down.new.volume in
    let w = c.look.new.volume in
    let k : ℕ = c.args.key_length in
    let key = c.args.key.now in
    let x = c.requires.index sound in
    let t : ℕ = (header_of u.image).top in
    let top : c.top-top.result ≡ t = c.top-top.ensures sound x.formatted.header.first in
    let height : c.height-height.result ≡ (header_of u.image).height = c.height-height.ensures sound x.formatted.header.first in
    let levels : c.height-height.result - 1 ≡ top_level u = omega arith in
    let some : 0 < t = (let f = c.if-top-eq0.false in omega arith) in
    let start : Stand = record { left = 0; block = c.top-top.result } in
    let way = c.in_ok-way.ensures.way sound x (on-start k u key (c.height-height.result - 1) start x some refl top levels) in
    let read = c.in_ok-way.ensures.read in
    let now : IsTrue v.is_sound = rw read.call.sound sound in
    let last : IsTrue w.is_sound = rw c.in_ok-sight.ensures.read.call.sound now in
    let one = read-one read now in
    let next = read-one c.in_ok-sight.ensures.read last in
    let leaf : Stand = c.in_ok-way.way.leaf in
    let order = order-same k u v leaf.block one.same.size one.image (on-order k u key 0 leaf x way.leaf) in
    let found = read-address k u v key leaf c.in_ok-sight.sight.equal one x way.leaf (c.in_ok-sight.ensures.equal now order) in
    unchanged k u w key (one-joined u v w one next) x (found ∙ none-of c.in_ok-sight.sight.equal c.if-is_none.ensures)

pub remove_on-requires-clause-index : goal.remove_on-requires-clause-index
remove_on-requires-clause-index g c last =
    let u = c.args.volume.now in
    let v = c.way_down.new.volume in
    let w = c.look.new.volume in
    let k : ℕ = c.args.key_length in
    let read = c.in_ok-way.ensures.read in
    let now : IsTrue v.is_sound = rw (← c.in_ok-sight.ensures.read.call.sound) last in
    let sound : IsTrue u.is_sound = rw (← read.call.sound) now in
    let one = read-one read now in
    let next = read-one c.in_ok-sight.ensures.read last in
    (set-same k u w (one-joined u v w one next) (c.requires.index sound)).0

pub remove_on-requires-clause-way : goal.remove_on-requires-clause-way
remove_on-requires-clause-way g c last =
    let u = c.args.volume.now in
    let v = c.way_down.new.volume in
    let w = c.look.new.volume in
    let k : ℕ = c.args.key_length in
    let key = c.args.key.now in
    let read = c.in_ok-way.ensures.read in
    let now : IsTrue v.is_sound = rw (← c.in_ok-sight.ensures.read.call.sound) last in
    let sound : IsTrue u.is_sound = rw (← read.call.sound) now in
    let x = c.requires.index sound in
    let t : ℕ = (header_of u.image).top in
    let top : c.top-top.result ≡ t = c.top-top.ensures sound x.formatted.header.first in
    let height : c.height-height.result ≡ (header_of u.image).height = c.height-height.ensures sound x.formatted.header.first in
    let levels : c.height-height.result - 1 ≡ top_level u = omega arith in
    let some : 0 < t = (let f = c.if-top-eq0.false in omega arith) in
    let start : Stand = record { left = 0; block = c.top-top.result } in
    let way = c.in_ok-way.ensures.way sound x (on-start k u key (c.height-height.result - 1) start x some refl top levels) in
    let one = read-one read now in
    let next = read-one c.in_ok-sight.ensures.read last in
    way-one k u w key (c.height-height.result - 1) c.top-top.result c.in_ok-way.way (one-joined u v w one next) way

pub remove_on-requires-clause-there : goal.remove_on-requires-clause-there
remove_on-requires-clause-there g c last none =
    let u = c.args.volume.now in
    let v = c.way_down.new.volume in
    let w = c.look.new.volume in
    let k : ℕ = c.args.key_length in
    let key = c.args.key.now in
    let read = c.in_ok-way.ensures.read in
    let now : IsTrue v.is_sound = rw (← c.in_ok-sight.ensures.read.call.sound) last in
    let sound : IsTrue u.is_sound = rw (← read.call.sound) now in
    let x = c.requires.index sound in
    let t : ℕ = (header_of u.image).top in
    let top : c.top-top.result ≡ t = c.top-top.ensures sound x.formatted.header.first in
    let height : c.height-height.result ≡ (header_of u.image).height = c.height-height.ensures sound x.formatted.header.first in
    let levels : c.height-height.result - 1 ≡ top_level u = omega arith in
    let some : 0 < t = (let f = c.if-top-eq0.false in omega arith) in
    let start : Stand = record { left = 0; block = c.top-top.result } in
    let way = c.in_ok-way.ensures.way sound x (on-start k u key (c.height-height.result - 1) start x some refl top levels) in
    let one = read-one read now in
    let next = read-one c.in_ok-sight.ensures.read last in
    let leaf : Stand = c.in_ok-way.way.leaf in
    let order = order-same k u v leaf.block one.same.size one.image (on-order k u key 0 leaf x way.leaf) in
    let found = read-address k u v key leaf c.in_ok-sight.sight.equal one x way.leaf (c.in_ok-sight.ensures.equal now order) in
    let same = set-same k u w (one-joined u v w one next) x in
    some-of c.in_ok-sight.sight.equal c.if-is_none.ensures (sym found ∙ ap (address_of key) (sym same.1) ∙ none)

pub returns-clause-changed : goal.returns-clause-changed
returns-clause-changed g c =
    let u = c.args.volume.now in
    let v = c.way_down.new.volume in
    let w = c.look.new.volume in
    let z = c.remove_on.new.volume in
    let k : ℕ = c.args.key_length in
    let key = c.args.key.now in
    let read = c.in_ok-way.ensures.read in
    on-ok-map c.remove_on.result
    (λ (changed : IsTrue w.is_sound → IsChanged k w (without_key key (index_entries k w)) 0 z) (sound : IsTrue u.is_sound).
    let now : IsTrue v.is_sound = rw read.call.sound sound in
    let last : IsTrue w.is_sound = rw c.in_ok-sight.ensures.read.call.sound now in
    removed-read k u w z key (one-joined u v w (read-one read now) (read-one c.in_ok-sight.ensures.read last)) (c.requires.index sound) (changed last))
    c.remove_on.ensures.changed
