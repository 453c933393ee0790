use Rattle.std.proofs.Common.{◌≡◌, ℕ, List, IsTrue, length, refl, sym, ap, ◌∙◌, subst}
use Rattle.hd_bytes.specs.Numbers.{number_at}
use Rattle.hd_volume.specs.Volumes.{block_at}
use Rattle.hd_volume.specs.Entries.{Entry, entries_in}
use Rattle.hd_volume.proofs.JoinLemmas.{read-one, one-kind}
use Rattle.hd_index_blocks.specs.Fields.{below_count}
use Rattle.hd_index_blocks.specs.Maps.{with_entry}
use Rattle.hd_index_blocks.specs.IndexSets.{index_entries}
use Rattle.hd_index_blocks.specs.Needs.{needed_by}
use Rattle.hd_index.proofs.CallLemmas.{on-ok-map}
use Rattle.hd_index.proofs.EditLemmas.{one-block-at}
use Rattle.hd_index.specs.Changes.{IsChanged}
use Rattle.hd_index.specs.Comings.{MayCome}
use Rattle.hd_index.proofs.Searching.{set-same}
use Rattle.hd_index.proofs.Filling.{needed-same}
use Rattle.hd_index.proofs.Inserting.{unchanged, changed-join}
use Rattle.hd_index.proofs.Comings.{known-order, may-same}
use Rattle.hd_index.proofs.enter.enter_leaf.Goals as goal

pub enter_at-requires-clause-index : goal.enter_at-requires-clause-index
enter_at-requires-clause-index g c sound =
    let u = c.args.volume.now in
    let v = c.gap_at.new.volume in
    let read = c.in_ok-gap.ensures.read in
    let was : IsTrue u.is_sound = rw (← read.call.sound) sound in
    (set-same (length c.args.key.now) u v (read-one read sound) (c.requires.index was)).0

pub enter_at-requires-clause-block : goal.enter_at-requires-clause-block
enter_at-requires-clause-block g c sound =
    let u = c.args.volume.now in
    let read = c.in_ok-gap.ensures.read in
    let was : IsTrue u.is_sound = rw (← read.call.sound) sound in
    one-kind (read-one read sound) 2 c.args.n (c.requires.block was)

pub enter_at-requires-clause-place : goal.enter_at-requires-clause-place
enter_at-requires-clause-place g c sound =
    let u = c.args.volume.now in
    let v = c.gap_at.new.volume in
    let key = c.args.key.now in
    let k : ℕ = length key in
    let n : ℕ = c.args.n in
    let read = c.in_ok-gap.ensures.read in
    let was : IsTrue u.is_sound = rw (← read.call.sound) sound in
    let order = known-order k u n (c.requires.index was) (c.requires.block was) in
    let told : c.in_ok-gap.gap.index ≡ below_count key (entries_in k (block_at u n)) = c.in_ok-gap.ensures.index was order.0 in
    let same : block_at u n ≡ block_at v n = sym (one-block-at (read-one read sound) n) in
    told ∙ ap (λ (b : List ℕ). below_count key (entries_in k b)) same

pub enter_at-requires-clause-count : goal.enter_at-requires-clause-count
enter_at-requires-clause-count g c sound =
    let u = c.args.volume.now in
    let k : ℕ = length c.args.key.now in
    let n : ℕ = c.args.n in
    let read = c.in_ok-gap.ensures.read in
    let was : IsTrue u.is_sound = rw (← read.call.sound) sound in
    let order = known-order k u n (c.requires.index was) (c.requires.block was) in
    ap (λ (b : List ℕ). number_at 2 b 4) (one-block-at (read-one read sound) n) ∙ sym (c.in_ok-gap.ensures.count was order.0)

pub returns-clause-changed : goal.returns-clause-changed
returns-clause-changed g c =
    let u = c.args.volume.now in
    let v = c.gap_at.new.volume in
    let w = c.enter_at.new.volume in
    let key = c.args.key.now in
    let k : ℕ = length key in
    let n : ℕ = c.args.n in
    let e : Entry = record { key = key; address = c.args.address } in
    let read = c.in_ok-gap.ensures.read in
    on-ok-map c.enter_at.result
    (λ (changed : IsTrue v.is_sound → (by : List ℕ) → MayCome k v key by 0 n → needed_by k v by ≡ 0 → IsChanged k v (with_entry e (index_entries k v)) 0 w) (sound : IsTrue u.is_sound) (by : List ℕ) (m : MayCome k u key by 0 n) (none : needed_by k u by ≡ 0).
    let now : IsTrue v.is_sound = rw read.call.sound sound in
    let one = read-one read now in
    let x = c.requires.index sound in
    let same = (set-same k u v one x).1 in
    let C : List Entry → Type 0 = λ es. IsChanged k v (with_entry e es) 0 w in
    changed-join k u v w (index_entries k u) (with_entry e (index_entries k u)) 0 0 0 x c.requires.some refl (unchanged k u v x one)
    (subst C same (changed now by (may-same k u v key by 0 n one m) (needed-same k u v by one ∙ none))))
    c.enter_at.ensures.changed
