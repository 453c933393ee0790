use Rattle.std.proofs.Common.{◌≡◌, ◌-◌, ℕ, List, IsTrue, length, refl, sym, ◌∙◌, subst, arith}
use Rattle.hd_volume.specs.Headers.{header_of}
use Rattle.hd_volume.specs.Entries.{Entry}
use Rattle.hd_index_blocks.specs.Maps.{with_entry}
use Rattle.hd_index_blocks.specs.IndexSets.{top_level, index_entries, HasIndexSet}
use Rattle.hd_index_blocks.specs.Needs.{needed_by}
use Rattle.hd_index.proofs.CallLemmas.{on-ok-map}
use Rattle.hd_index.specs.Changes.{IsChanged}
use Rattle.hd_index.specs.Comings.{MayCome}
use Rattle.hd_index.proofs.Inserting.{changed-join}
use Rattle.hd_index.proofs.Comings.{coming-kind, come-top, needed-top}
use Rattle.hd_index.proofs.enter.enter_key.Goals as goal

pub come_down-requires-clause-may : goal.come_down-requires-clause-may
come_down-requires-clause-may g c sound =
    let v = c.args.volume.now in
    let k : ℕ = c.args.key_length in
    let key = c.args.key.now in
    let by = c.args.by.now in
    let x = c.requires.index sound in
    let top : c.top-top.result ≡ (header_of v.image).top = c.top-top.ensures sound x.formatted.header.first in
    let height : c.height-height.result ≡ (header_of v.image).height = c.height-height.ensures sound x.formatted.header.first in
    let levels : c.height-height.result - 1 ≡ top_level v = omega arith in
    let M : ℕ → Type 0 = λ i. MayCome i v key by (c.height-height.result - 1) c.top-top.result in
    subst M (sym c.requires.whole)
    (come-top k v key by (c.height-height.result - 1) c.top-top.result x (c.requires.new sound) (c.requires.by sound) (needed-top k v by (c.requires.needed sound)) levels top)

pub enter_leaf-requires-clause-index : goal.enter_leaf-requires-clause-index
enter_leaf-requires-clause-index g c sound =
    let u = c.args.volume.now in
    let was : IsTrue u.is_sound = rw (← c.in_ok-n.ensures.call.sound) sound in
    (c.in_ok-n.ensures.come was).may.index

pub enter_leaf-requires-clause-block : goal.enter_leaf-requires-clause-block
enter_leaf-requires-clause-block g c sound =
    let u = c.args.volume.now in
    let v = c.come_down.new.volume in
    let key = c.args.key.now in
    let was : IsTrue u.is_sound = rw (← c.in_ok-n.ensures.call.sound) sound in
    coming-kind (length key) v key c.args.by.now 0 c.in_ok-n.n (c.in_ok-n.ensures.come was).may

pub returns-clause-changed : goal.returns-clause-changed
returns-clause-changed g c =
    let u = c.args.volume.now in
    let v = c.come_down.new.volume in
    let w = c.enter_leaf.new.volume in
    let key = c.args.key.now in
    let k : ℕ = length key in
    let e : Entry = record { key = key; address = c.args.address } in
    on-ok-map c.enter_leaf.result
    (λ (changed : IsTrue v.is_sound → (by : List ℕ) → MayCome k v key by 0 c.in_ok-n.n → needed_by k v by ≡ 0 → IsChanged k v (with_entry e (index_entries k v)) 0 w) (sound : IsTrue u.is_sound).
    let now : IsTrue v.is_sound = rw c.in_ok-n.ensures.call.sound sound in
    let x = c.requires.index sound in
    let come = c.in_ok-n.ensures.come sound in
    let three = c.requires.three in
    let N : ℕ → Type 0 = λ i. needed_by i u c.args.by.now ≡ 0 in
    let none : needed_by k v c.args.by.now ≡ 0 = come.needed ∙ subst N (sym c.requires.whole) (c.requires.needed sound) in
    let C : List Entry → Type 0 = λ es. IsChanged k v (with_entry e es) 0 w in
    let K : ℕ → Type 0 = λ i. IsChanged i u (with_entry e (index_entries i u)) 0 w in
    let H : ℕ → Type 0 = λ i. HasIndexSet i u in
    let all : K k =
    changed-join k u v w (index_entries k u) (with_entry e (index_entries k u)) 0 0 0 (subst H (sym c.requires.whole) x) (omega arith) refl come.changed
    (subst C come.changed.entries (changed now c.args.by.now come.may none)) in
    subst K c.requires.whole all)
    c.enter_leaf.ensures.changed
