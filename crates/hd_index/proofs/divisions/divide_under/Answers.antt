use Rattle.std.proofs.Common.{◌+◌, ℕ, IsTrue, List, length, subst, sym, arith}
use Rattle.hd_bytes.specs.Numbers.{number_at}
use Rattle.hd_volume.specs.Volumes.{block_at}
use Rattle.hd_volume.specs.Entries.{entries_in}
use Rattle.hd_index.specs.EditedBlocks.{with_entry_at, with_key_at, IsIndexBlock}
use Rattle.hd_index.specs.Edits.{HasNewEntries}
use Rattle.hd_index.proofs.CallLemmas.{on-ok-map}
use Rattle.hd_index.proofs.Under.{upper-block, upper-count, key-count, divided-under}
use Rattle.hd_index.proofs.divisions.divide_under.Goals as goal

pub set_entry_key-requires-clause-block : goal.set_entry_key-requires-clause-block
set_entry_key-requires-clause-block g c now =
    let u = c.args.volume.now in
    let k : ℕ = c.args.key_length in
    let sound : IsTrue u.is_sound = rw (← c.in_ok-m.ensures.call.sound) now in
    let B : ℕ → Type 0 = λ i. IsIndexBlock i c.divide.new.volume c.args.p in
    subst B (sym c.front_of.ensures.len) (upper-block k c.args.level c.args.p c.in_ok-m.m c.args.lead c.args.cut (c.requires.upper sound) (c.requires.lower sound) (c.requires.lead sound) (c.in_ok-m.ensures.halved sound))

pub set_entry_key-requires-clause-count : goal.set_entry_key-requires-clause-count
set_entry_key-requires-clause-count g c now =
    let u = c.args.volume.now in
    let sound : IsTrue u.is_sound = rw (← c.in_ok-m.ensures.call.sound) now in
    upper-count c.args.key_length c.args.level c.args.p c.in_ok-m.m c.args.lead c.args.cut (c.requires.upper sound) (c.requires.lower sound) (c.requires.lead sound) (c.in_ok-m.ensures.halved sound)

pub add_entry-requires-clause-count : goal.add_entry-requires-clause-count
add_entry-requires-clause-count g c last =
    let u = c.args.volume.now in
    let v = c.divide.new.volume in
    let x = c.set_entry_key.new.volume in
    let k : ℕ = c.args.key_length in
    let now : IsTrue v.is_sound = rw (← c.in_ok-set_entry_key.ensures.call.sound) last in
    let sound : IsTrue u.is_sound = rw (← c.in_ok-m.ensures.call.sound) now in
    let K : List ℕ → ℕ → Type 0 = λ key i. HasNewEntries i v c.args.p (with_key_at c.args.lead.index key (entries_in i (block_at v c.args.p))) (number_at 4 (block_at v c.args.p) 8) x in
    let key = c.front_of.result.now in
    let keyed = subst (λ (t : List ℕ). K t k) c.front_of.ensures.value (subst (K key) c.front_of.ensures.len (c.in_ok-set_entry_key.ensures.changed now)) in
    key-count k c.args.level c.args.p c.in_ok-m.m c.args.lead c.args.cut (c.requires.upper sound) (c.requires.lower sound) (c.requires.lead sound) (c.in_ok-m.ensures.halved sound) keyed

pub returns-clause-divided : goal.returns-clause-divided
returns-clause-divided g c =
    let u = c.args.volume.now in
    let v = c.divide.new.volume in
    let x = c.set_entry_key.new.volume in
    let w = c.add_entry.new.volume in
    let k : ℕ = c.args.key_length in
    let p : ℕ = c.args.p in
    let m : ℕ = c.in_ok-m.m in
    let key = c.front_of.result.now in
    let behind = c.front_of-2.result.now in
    let j : ℕ = c.args.lead.index + 1 in
    let K : List ℕ → ℕ → Type 0 = λ t i. HasNewEntries i v p (with_key_at c.args.lead.index t (entries_in i (block_at v p))) (number_at 4 (block_at v p) 8) x in
    let A : List ℕ → ℕ → Type 0 = λ t i. HasNewEntries i x p (with_entry_at j (record { key = t; address = m }) (entries_in i (block_at x p))) (number_at 4 (block_at x p) 8) w in
    on-ok-map c.add_entry.result
    (λ (added : IsTrue x.is_sound → A behind (length behind)) (sound : IsTrue u.is_sound).
    let now : IsTrue v.is_sound = rw c.in_ok-m.ensures.call.sound sound in
    let last : IsTrue x.is_sound = rw c.in_ok-set_entry_key.ensures.call.sound now in
    let least = c.requires.least in
    let keyed = subst (λ (t : List ℕ). K t k) c.front_of.ensures.value (subst (K key) c.front_of.ensures.len (c.in_ok-set_entry_key.ensures.changed now)) in
    let put = subst (λ (t : List ℕ). A t k) c.front_of-2.ensures.value (subst (A behind) c.front_of-2.ensures.len (added last)) in
    divided-under k c.args.level p m c.args.lead c.args.cut (c.requires.upper sound) (c.requires.lower sound) (c.requires.lead sound) (c.in_ok-m.ensures.halved sound) j (omega arith) (c.requires.formatted sound) (omega arith) c.requires.index keyed put)
    c.add_entry.ensures.added
