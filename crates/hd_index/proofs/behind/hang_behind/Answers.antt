use Rattle.std.proofs.Common.{◌+◌, ℕ, IsTrue, List, length, subst, sym, arith}
use Rattle.hd_bytes.specs.Numbers.{number_at}
use Rattle.hd_volume.specs.Volumes.{block_at}
use Rattle.hd_volume.specs.Entries.{entries_in}
use Rattle.hd_index.specs.EditedBlocks.{with_entry_at, with_key_at, IsIndexBlock}
use Rattle.hd_index.specs.Edits.{HasNewEntries}
use Rattle.hd_index.proofs.CallLemmas.{on-ok-map}
use Rattle.hd_index.proofs.Hanging.{lower-block, lower-own, upper-block, upper-count, key-count, hung-behind}
use Rattle.hd_index.proofs.behind.hang_behind.Goals as goal

pub set_next-requires-clause-there : goal.set_next-requires-clause-there
set_next-requires-clause-there g c now =
    let u = c.args.volume.now in
    let sound : IsTrue u.is_sound = rw (← c.in_ok-m.ensures.call.sound) now in
    let least = c.requires.least in
    (lower-block c.args.key.now c.args.address c.args.p c.in_ok-m.m c.args.lead (c.requires.upper sound) (c.requires.lower sound) (c.requires.lead sound) (c.requires.formatted sound) (omega arith)
    (c.in_ok-m.ensures.begun sound)).is

pub set_entry_key-requires-clause-formatted : goal.set_entry_key-requires-clause-formatted
set_entry_key-requires-clause-formatted g c last =
    let u = c.args.volume.now in
    let now : IsTrue c.begin_last.new.volume.is_sound = rw (← c.in_ok-set_next.ensures.call.sound) last in
    let sound : IsTrue u.is_sound = rw (← c.in_ok-m.ensures.call.sound) now in
    let least = c.requires.least in
    (c.in_ok-set_next.ensures.changed now (length c.args.key.now)
    (lower-own c.args.key.now c.args.address c.args.p c.in_ok-m.m c.args.lead (c.requires.upper sound) (c.requires.lower sound) (c.requires.lead sound) (c.requires.formatted sound) (omega arith)
    (c.in_ok-m.ensures.begun sound))).edit.formatted

pub set_entry_key-requires-clause-block : goal.set_entry_key-requires-clause-block
set_entry_key-requires-clause-block g c last =
    let u = c.args.volume.now in
    let k : ℕ = length c.args.key.now in
    let now : IsTrue c.begin_last.new.volume.is_sound = rw (← c.in_ok-set_next.ensures.call.sound) last in
    let sound : IsTrue u.is_sound = rw (← c.in_ok-m.ensures.call.sound) now in
    let least = c.requires.least in
    let own = lower-own c.args.key.now c.args.address c.args.p c.in_ok-m.m c.args.lead (c.requires.upper sound) (c.requires.lower sound) (c.requires.lead sound) (c.requires.formatted sound) (omega arith) (c.in_ok-m.ensures.begun sound) in
    let B : ℕ → Type 0 = λ i. IsIndexBlock i c.set_next.new.volume c.args.p in
    subst B (sym c.requires.whole)
    (upper-block c.args.key.now c.args.address c.args.p c.in_ok-m.m c.args.lead (c.requires.upper sound) (c.requires.lower sound) (c.requires.lead sound) (c.requires.formatted sound) (omega arith)
    (c.in_ok-m.ensures.begun sound) (c.in_ok-set_next.ensures.changed now k own))

pub set_entry_key-requires-clause-count : goal.set_entry_key-requires-clause-count
set_entry_key-requires-clause-count g c last =
    let u = c.args.volume.now in
    let k : ℕ = length c.args.key.now in
    let now : IsTrue c.begin_last.new.volume.is_sound = rw (← c.in_ok-set_next.ensures.call.sound) last in
    let sound : IsTrue u.is_sound = rw (← c.in_ok-m.ensures.call.sound) now in
    let least = c.requires.least in
    let own = lower-own c.args.key.now c.args.address c.args.p c.in_ok-m.m c.args.lead (c.requires.upper sound) (c.requires.lower sound) (c.requires.lead sound) (c.requires.formatted sound) (omega arith) (c.in_ok-m.ensures.begun sound) in
    upper-count c.args.key.now c.args.address c.args.p c.in_ok-m.m c.args.lead (c.requires.upper sound) (c.requires.lower sound) (c.requires.lead sound) (c.requires.formatted sound) (omega arith)
    (c.in_ok-m.ensures.begun sound) (c.in_ok-set_next.ensures.changed now k own)

pub add_entry-requires-clause-count : goal.add_entry-requires-clause-count
add_entry-requires-clause-count g c end =
    let u = c.args.volume.now in
    let y = c.set_next.new.volume in
    let x = c.set_entry_key.new.volume in
    let k : ℕ = length c.args.key.now in
    let p : ℕ = c.args.p in
    let last : IsTrue y.is_sound = rw (← c.in_ok-set_entry_key.ensures.call.sound) end in
    let now : IsTrue c.begin_last.new.volume.is_sound = rw (← c.in_ok-set_next.ensures.call.sound) last in
    let sound : IsTrue u.is_sound = rw (← c.in_ok-m.ensures.call.sound) now in
    let least = c.requires.least in
    let own = lower-own c.args.key.now c.args.address p c.in_ok-m.m c.args.lead (c.requires.upper sound) (c.requires.lower sound) (c.requires.lead sound) (c.requires.formatted sound) (omega arith) (c.in_ok-m.ensures.begun sound) in
    let K : ℕ → Type 0 = λ i. HasNewEntries i y p (with_key_at c.args.lead.index c.args.last.now (entries_in i (block_at y p))) (number_at 4 (block_at y p) 8) x in
    key-count c.args.key.now c.args.address p c.in_ok-m.m c.args.lead (c.requires.upper sound) (c.requires.lower sound) (c.requires.lead sound) (c.requires.formatted sound) (omega arith)
    (c.in_ok-m.ensures.begun sound) (c.in_ok-set_next.ensures.changed now k own) c.args.last.now (subst K c.requires.whole (c.in_ok-set_entry_key.ensures.changed last))

pub returns-clause-hung : goal.returns-clause-hung
returns-clause-hung g c =
    let u = c.args.volume.now in
    let y = c.set_next.new.volume in
    let x = c.set_entry_key.new.volume in
    let w = c.add_entry.new.volume in
    let k : ℕ = length c.args.key.now in
    let p : ℕ = c.args.p in
    let m : ℕ = c.in_ok-m.m in
    let behind = c.front_of.result.now in
    let j : ℕ = c.args.lead.index + 1 in
    let K : ℕ → Type 0 = λ i. HasNewEntries i y p (with_key_at c.args.lead.index c.args.last.now (entries_in i (block_at y p))) (number_at 4 (block_at y p) 8) x in
    let A : List ℕ → ℕ → Type 0 = λ t i. HasNewEntries i x p (with_entry_at j (record { key = t; address = m }) (entries_in i (block_at x p))) (number_at 4 (block_at x p) 8) w in
    on-ok-map c.add_entry.result
    (λ (added : IsTrue x.is_sound → A behind (length behind)) (sound : IsTrue u.is_sound).
    let now : IsTrue c.begin_last.new.volume.is_sound = rw c.in_ok-m.ensures.call.sound sound in
    let last : IsTrue y.is_sound = rw c.in_ok-set_next.ensures.call.sound now in
    let end : IsTrue x.is_sound = rw c.in_ok-set_entry_key.ensures.call.sound last in
    let least = c.requires.least in
    let own = lower-own c.args.key.now c.args.address p m c.args.lead (c.requires.upper sound) (c.requires.lower sound) (c.requires.lead sound) (c.requires.formatted sound) (omega arith) (c.in_ok-m.ensures.begun sound) in
    let put = subst (λ (t : List ℕ). A t k) c.front_of.ensures.value (subst (A behind) c.front_of.ensures.len (added end)) in
    hung-behind c.args.key.now c.args.address p m c.args.lead (c.requires.upper sound) (c.requires.lower sound) (c.requires.lead sound) (c.requires.formatted sound) (omega arith)
    (c.in_ok-m.ensures.begun sound) (c.in_ok-set_next.ensures.changed now k own) c.args.last.now j (omega arith) c.requires.index (subst K c.requires.whole (c.in_ok-set_entry_key.ensures.changed last)) put)
    c.add_entry.ensures.added
