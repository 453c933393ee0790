use Rattle.std.proofs.Common.{ℕ, List, IsTrue, subst}
use Rattle.hd_volume.specs.Entries.{Entry}
use Rattle.hd_volume.proofs.JoinLemmas.{read-one}
use Rattle.hd_index_blocks.specs.Maps.{with_entry}
use Rattle.hd_index_blocks.specs.IndexSets.{index_entries}
use Rattle.hd_index.specs.Changes.{IsChanged}
use Rattle.hd_index.proofs.Searching.{set-same}
use Rattle.hd_index.proofs.Inserting.{one-after, on-ok}
use Rattle.hd_index.proofs.ReadSteps.{changed-before}
use Rattle.hd_index.proofs.insertion.insert_by.Goals as goal

pub enter_prepared-requires-clause-index : goal.enter_prepared-requires-clause-index
enter_prepared-requires-clause-index g c now =
    let call = c.in_ok-prepare.ensures.call in
    let read = c.in_ok-needed.ensures.read in
    let before : IsTrue c.needed_at.new.volume.is_sound = rw (← call.sound) now in
    let start : IsTrue c.args.volume.now.is_sound = rw (← read.call.sound) before in
    let one = one-after (read-one read before) (record { same = record { size = call.size; sizes = call.sizes }; image = c.in_ok-prepare.ensures.image now }) in
    (set-same c.args.key_length c.args.volume.now c.prepare.new.volume one (c.requires.index start)).0

pub returns-clause-changed : goal.returns-clause-changed
returns-clause-changed g c =
    let k : ℕ = c.args.key_length in
    let v = c.args.volume.now in
    let p = c.prepare.new.volume in
    let w = c.enter_prepared.new.volume in
    on-ok c.enter_prepared.result c.enter_prepared.ensures.changed
    (λ last start.
    let call = c.in_ok-prepare.ensures.call in
    let read = c.in_ok-needed.ensures.read in
    let x = c.requires.index start in
    let before : IsTrue c.needed_at.new.volume.is_sound = rw read.call.sound start in
    let ready : IsTrue p.is_sound = rw call.sound before in
    let one = one-after (read-one read before) (record { same = record { size = call.size; sizes = call.sizes }; image = c.in_ok-prepare.ensures.image ready }) in
    let e : Entry = record { key = c.args.key.now; address = c.args.address } in
    let C : List Entry → Type 0 = λ es. IsChanged k v (with_entry e es) c.in_ok-needed.needed w in
    let N : ℕ → Type 0 = λ i. IsChanged k v (with_entry e (index_entries k v)) i w in
    subst N (c.in_ok-needed.ensures.value start x)
    (subst C (set-same k v p one x).1 (changed-before k v p w (with_entry e (index_entries k p)) c.in_ok-needed.needed one (last ready))))
