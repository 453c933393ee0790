use Rattle.std.proofs.Common.{◌≡◌, ◌<◌, ℕ, List, IsTrue, sym, subst, ◌∙◌, arith}
use Rattle.hd_volume.specs.Headers.{header_of}
use Rattle.hd_volume.proofs.JoinLemmas.{read-one}
use Rattle.hd_index.proofs.Searching.{set-same}
use Rattle.hd_index.proofs.Inserting.{on-ok, if-err, found-change, first-refused, found-refused}
use Rattle.hd_index.specs.Greatest.{IsKnownLeaf}
use Rattle.hd_index.proofs.Leaves.{known-same}
use Rattle.hd_index.proofs.insertion.insert_below.Goals as goal

pub insert_by-requires-clause-index : goal.insert_by-requires-clause-index
insert_by-requires-clause-index g c now =
    let read = c.in_ok-below.ensures.read in
    let start : IsTrue c.args.volume.now.is_sound = rw (← read.call.sound) now in
    (set-same c.args.key_length c.args.volume.now c.greatest.new.volume (read-one read now) (c.requires.index start)).0

pub returns-clause-changed : goal.returns-clause-changed
returns-clause-changed g c =
    let v = c.args.volume.now in
    let u = c.greatest.new.volume in
    let read = c.in_ok-below.ensures.read in
    on-ok c.insert_by.result c.insert_by.ensures.changed
    (λ last start.
    let now : IsTrue u.is_sound = rw read.call.sound start in
    let x = c.requires.index start in
    let by = c.key_or-by.ensures ∙ c.in_ok-below.ensures.value start x in
    let some : 0 < v.size = (let three = c.requires.three in omega arith) in
    found-change c.args.key_length v u c.insert_by.new.volume c.args.key.now c.key_or-by.result.now (record { key = c.args.key.now; address = c.args.address }) x some (read-one read now) by (last now))

pub returns-clause-refused : goal.returns-clause-refused
returns-clause-refused g c =
    let v = c.args.volume.now in
    let u = c.greatest.new.volume in
    let read = c.in_ok-below.ensures.read in
    if-err c.insert_by.result c.insert_by.ensures.refused
    (λ e r start.
    let now : IsTrue u.is_sound = rw read.call.sound start in
    let by = c.key_or-by.ensures ∙ c.in_ok-below.ensures.value start (c.requires.index start) in
    found-refused c.args.key_length v u c.args.key.now c.key_or-by.result.now e (read-one read now) read.room by (r now))

pub insert_by-requires-clause-leaf : goal.insert_by-requires-clause-leaf
insert_by-requires-clause-leaf g c now =
    let v = c.args.volume.now in
    let u = c.greatest.new.volume in
    let k : ℕ = c.args.key_length in
    let read = c.in_ok-below.ensures.read in
    let start : IsTrue v.is_sound = rw (← read.call.sound) now in
    let x = c.requires.index start in
    let by = c.key_or-by.ensures ∙ c.in_ok-below.ensures.value start x in
    let N : List ℕ → Type 0 = λ b. IsKnownLeaf k v b c.in_ok-below.below.leaf in
    known-same k v u c.key_or-by.result.now c.in_ok-below.below.leaf (read-one read now) (subst N (sym by) (c.in_ok-below.ensures.leaf start x))
