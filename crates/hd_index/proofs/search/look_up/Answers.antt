use Rattle.std.proofs.Common.{◌≡◌, ◌≢◌, ℕ, List, IsTrue, refl, ap, sym, ◌∙◌}
use Rattle.hd_bytes.specs.Numbers.{number_at}
use Rattle.hd_volume.specs.Volumes.{block_at}
use Rattle.hd_volume.specs.Entries.{entries_in}
use Rattle.hd_index_blocks.specs.Maps.{address_of, address_from}
use Rattle.hd_index.proofs.Searching.{none-seen, leaf-seen, order-same}
use Rattle.hd_index.proofs.search.look_up.Goals as goal

pub returns-then-n-eq0-clause-value : goal.returns-then-n-eq0-clause-value
returns-then-n-eq0-clause-value g c sound x =
    none-seen c.args.key_length c.args.volume.now c.args.key.now c.no_sight.result x (sym (c.in_ok-n.ensures.value sound x) ∙ c.if-n-eq0.true)
    c.no_sight.ensures.equal c.no_sight.ensures.from c.no_sight.ensures.next

pub returns-clause-value : goal.returns-clause-value
returns-clause-value g c sound x =
    let v = c.args.volume.now in
    let w = c.leaf.new.volume in
    let k : ℕ = c.args.key_length in
    let key = c.args.key.now in
    let n : ℕ = c.in_ok-n.n in
    let one = c.in_ok-n.ensures.read in
    let now : IsTrue w.is_sound = rw one.call.sound sound in
    let size = one.call.size in
    let image = one.image now in
    let same : block_at w n ≡ block_at v n = rw (size, image) refl in
    let some : n ≢ 0 = λ e. (let f = c.if-n-eq0.false in f e) in
    leaf-seen k v key n c.in_ok-sight.sight x (c.in_ok-n.ensures.value sound x) some
    (λ o. c.in_ok-sight.ensures.equal now (order-same k v w n size image o) ∙ ap (λ (b : List ℕ). address_of key (entries_in k b)) same)
    (λ o. c.in_ok-sight.ensures.from now (order-same k v w n size image o) ∙ ap (λ (b : List ℕ). address_from key (entries_in k b)) same)
    (λ o. c.in_ok-sight.ensures.next now (order-same k v w n size image o) ∙ ap (λ (b : List ℕ). number_at 4 b 8) same)
