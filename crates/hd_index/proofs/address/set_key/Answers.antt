use Rattle.std.proofs.Common.{ℕ, Option, IsTrue, IfSome, sym, ◌∙◌, subst}
use Rattle.hd_volume.specs.Volumes.{block_at}
use Rattle.hd_volume.specs.Entries.{entries_in}
use Rattle.hd_volume.proofs.JoinLemmas.{read-one}
use Rattle.hd_index.specs.Edits.{IsAddressChanged}
use Rattle.hd_index.proofs.CallLemmas.{on-ok-map}
use Rattle.hd_index.specs.declared.address.Place.{Place}
use Rattle.hd_index.specs.Blocks.{IsInOrder}
use Rattle.hd_index.specs.Searches.{IsPlaceOf}
use Rattle.hd_index.proofs.Trims.{one-joined}
use Rattle.hd_index.proofs.Addressing.{set-none, leaf-known, leaf-none, leaf-order, leaf-block, leaf-missing, place-count, place-set}
use Rattle.hd_index.proofs.address.set_key.Goals as goal

pub returns-then-n-eq0-clause-changed : goal.returns-then-n-eq0-clause-changed
returns-then-n-eq0-clause-changed g c sound =
    let u = c.args.volume.now in
    let v = c.leaf.new.volume in
    let k : ℕ = c.args.key_length in
    let key = c.args.key.now in
    let x = c.requires.index sound in
    let read = c.in_ok-n.ensures.read in
    let now : IsTrue v.is_sound = rw read.call.sound sound in
    set-none k u v key c.args.address x (read-one read now) (leaf-none k u key x (sym (c.in_ok-n.ensures.value sound x) ∙ c.if-n-eq0.true))

pub returns-in_default-clause-changed : goal.returns-in_default-clause-changed
returns-in_default-clause-changed g c sound =
    let u = c.args.volume.now in
    let v = c.leaf.new.volume in
    let w = c.place_at.new.volume in
    let k : ℕ = c.args.key_length in
    let key = c.args.key.now in
    let n : ℕ = c.in_ok-n.n in
    let x = c.requires.index sound in
    let read = c.in_ok-n.ensures.read in
    let now : IsTrue v.is_sound = rw read.call.sound sound in
    let last : IsTrue w.is_sound = rw c.in_ok-place.ensures.read.call.sound now in
    let one = read-one read now in
    let leaf = leaf-known k u key n x (c.in_ok-n.ensures.value sound x) c.if-n-eq0.false in
    let none = c.in_ok-place.ensures.none now (leaf-order k u v key n x one leaf) c.in_default.is in
    set-none k u w key c.args.address x (one-joined u v w one (read-one c.in_ok-place.ensures.read last)) (leaf-missing k u v key n x one leaf none)

pub set_entry_address-requires-clause-block : goal.set_entry_address-requires-clause-block
set_entry_address-requires-clause-block g c last =
    let u = c.args.volume.now in
    let v = c.leaf.new.volume in
    let w = c.place_at.new.volume in
    let k : ℕ = c.args.key_length in
    let key = c.args.key.now in
    let n : ℕ = c.in_ok-n.n in
    let now : IsTrue v.is_sound = rw (← c.in_ok-place.ensures.read.call.sound) last in
    let sound : IsTrue u.is_sound = rw (← c.in_ok-n.ensures.read.call.sound) now in
    let x = c.requires.index sound in
    let leaf = leaf-known k u key n x (c.in_ok-n.ensures.value sound x) c.if-n-eq0.false in
    leaf-block k u w key n x (one-joined u v w (read-one c.in_ok-n.ensures.read now) (read-one c.in_ok-place.ensures.read last)) leaf

pub set_entry_address-requires-clause-count : goal.set_entry_address-requires-clause-count
set_entry_address-requires-clause-count g c last =
    let u = c.args.volume.now in
    let v = c.leaf.new.volume in
    let w = c.place_at.new.volume in
    let k : ℕ = c.args.key_length in
    let key = c.args.key.now in
    let n : ℕ = c.in_ok-n.n in
    let now : IsTrue v.is_sound = rw (← c.in_ok-place.ensures.read.call.sound) last in
    let sound : IsTrue u.is_sound = rw (← c.in_ok-n.ensures.read.call.sound) now in
    let x = c.requires.index sound in
    let one = read-one c.in_ok-n.ensures.read now in
    let leaf = leaf-known k u key n x (c.in_ok-n.ensures.value sound x) c.if-n-eq0.false in
    let F : Option Place → Type 0 = λ found. IfSome found (λ place. IsTrue v.is_sound → IsInOrder k v n → IsPlaceOf key (entries_in k (block_at v n)) place) in
    let place = subst F c.in-Some.is c.in_ok-place.ensures.place now (leaf-order k u v key n x one leaf) in
    place-count k u v key n x one leaf w c.in-Some.place (read-one c.in_ok-place.ensures.read last) place

pub returns-clause-changed : goal.returns-clause-changed
returns-clause-changed g c =
    let u = c.args.volume.now in
    let v = c.leaf.new.volume in
    let w = c.place_at.new.volume in
    let z = c.set_entry_address.new.volume in
    let k : ℕ = c.args.key_length in
    let key = c.args.key.now in
    let n : ℕ = c.in_ok-n.n in
    on-ok-map c.set_entry_address.result
    (λ (changed : IsTrue w.is_sound → IsAddressChanged k w n c.in-Some.place.index c.args.address z) (sound : IsTrue u.is_sound).
    let now : IsTrue v.is_sound = rw c.in_ok-n.ensures.read.call.sound sound in
    let last : IsTrue w.is_sound = rw c.in_ok-place.ensures.read.call.sound now in
    let x = c.requires.index sound in
    let one = read-one c.in_ok-n.ensures.read now in
    let both = one-joined u v w one (read-one c.in_ok-place.ensures.read last) in
    let leaf = leaf-known k u key n x (c.in_ok-n.ensures.value sound x) c.if-n-eq0.false in
    let F : Option Place → Type 0 = λ found. IfSome found (λ place. IsTrue v.is_sound → IsInOrder k v n → IsPlaceOf key (entries_in k (block_at v n)) place) in
    let place = subst F c.in-Some.is c.in_ok-place.ensures.place now (leaf-order k u v key n x one leaf) in
    place-set k u v key n x one leaf w z c.args.address c.in-Some.place both place (changed last))
    c.set_entry_address.ensures.changed
