use Rattle.std.proofs.Common.{◌≡◌, ◌-◌, ℕ, List, IsTrue, length, sym, subst, refl, arith}
use Rattle.hd_dbd.specs.declared.answer.Refused.{Refused}
use Rattle.hd_volume.specs.Headers.{header_of}
use Rattle.hd_volume.specs.Entries.{Entry}
use Rattle.hd_volume.proofs.JoinLemmas.{calls-join}
use Rattle.hd_index_blocks.specs.Maps.{with_entry}
use Rattle.hd_index_blocks.specs.IndexSets.{top_level, index_entries, HasIndexSet}
use Rattle.hd_index.specs.Edits.{IsRefused}
use Rattle.hd_index.proofs.CallLemmas.{on-ok-map}
use Rattle.hd_index.specs.Changes.{IsChanged}
use Rattle.hd_index.specs.Comings.{MayCome}
use Rattle.hd_index.proofs.Comings.{coming-some, come-top}
use Rattle.hd_index.proofs.Inserting.{changed-join, if-err, ready-on, ready-device}
use Rattle.hd_index.proofs.behind.enter_behind.Goals as goal

pub come_down-requires-clause-may : goal.come_down-requires-clause-may
come_down-requires-clause-may g c sound =
    let v = c.args.volume.now in
    let k : ℕ = c.args.key_length in
    let key = c.args.key.now in
    let by = c.args.by.now in
    let x = c.requires.index sound in
    let top : c.top-top.result ≡ (header_of v.image).top = c.top-top.ensures sound x.formatted.header.first in
    let height : c.height-height.result ≡ (header_of v.image).height = c.height-height.ensures sound x.formatted.header.first in
    let levels : c.height-height.result - 1 ≡ top_level v = omega arith in
    let M : ℕ → Type 0 = λ i. MayCome i v key by (c.height-height.result - 1) c.top-top.result in
    subst M (sym c.requires.whole)
    (come-top k v key by (c.height-height.result - 1) c.top-top.result x (c.requires.new sound) (c.requires.by sound) (c.requires.some sound) levels top)

pub hang_last-requires-clause-some : goal.hang_last-requires-clause-some
hang_last-requires-clause-some g c now =
    let v = c.come_down.new.volume in
    let key = c.args.key.now in
    let sound : IsTrue c.args.volume.now.is_sound = rw (← c.in_ok-come_down.ensures.call.sound) now in
    let come = c.in_ok-come_down.ensures.come sound in
    coming-some (length key) v key c.args.by.now 0 c.in_ok-come_down.field-0 come.may.coming

pub returns-clause-call : goal.returns-clause-call
returns-clause-call g c = calls-join c.hang_last.result c.in_ok-come_down.ensures.call c.hang_last.ensures.call

pub returns-clause-changed : goal.returns-clause-changed
returns-clause-changed g c =
    let u = c.args.volume.now in
    let v = c.come_down.new.volume in
    let w = c.hang_last.new.volume in
    let key = c.args.key.now in
    let k : ℕ = length key in
    let e : Entry = record { key = key; address = c.args.address } in
    on-ok-map c.hang_last.result
    (λ (changed : IsTrue v.is_sound → IsChanged k v (with_entry e (index_entries k v)) 1 w) (sound : IsTrue u.is_sound).
    let now : IsTrue v.is_sound = rw c.in_ok-come_down.ensures.call.sound sound in
    let x = c.requires.index sound in
    let come = c.in_ok-come_down.ensures.come sound in
    let three = c.requires.three in
    let C : List Entry → Type 0 = λ es. IsChanged k v (with_entry e es) 1 w in
    let K : ℕ → Type 0 = λ i. IsChanged i u (with_entry e (index_entries i u)) 1 w in
    let H : ℕ → Type 0 = λ i. HasIndexSet i u in
    let all : K k =
    changed-join k u v w (index_entries k u) (with_entry e (index_entries k u)) 0 1 1 (subst H (sym c.requires.whole) x) (omega arith) refl come.changed
    (subst C come.changed.entries (changed now)) in
    subst K c.requires.whole all)
    c.hang_last.ensures.changed

pub returns-clause-device : goal.returns-clause-device
returns-clause-device g c =
    let u = c.args.volume.now in
    let v = c.come_down.new.volume in
    let w = c.hang_last.new.volume in
    let k : ℕ = length c.args.key.now in
    if-err c.hang_last.result c.hang_last.ensures.refused
    (λ (e : Refused) (r : IsRefused v e w) (sound : IsTrue u.is_sound).
    let now : IsTrue v.is_sound = rw c.in_ok-come_down.ensures.call.sound sound in
    let come = c.in_ok-come_down.ensures.come sound in
    let ready = ready-on k u v (index_entries k u) 1 (c.requires.ready sound) come.changed c.in_ok-come_down.ensures.room in
    ready-device 0 v w e come.may.index.formatted ready now r)
