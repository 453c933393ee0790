use Rattle.std.proofs.Common.{◌≡◌, inl, inr, ◌+◌, ◌-◌, ◌<◌, ℕ, List, IsTrue, length, ap, sym, ◌∙◌, subst, arith}
use Rattle.hd_volume.specs.Headers.{header_of}
use Rattle.hd_volume.specs.Indexes.{entry_room}
use Rattle.hd_volume.specs.Entries.{Entry}
use Rattle.hd_volume.proofs.JoinLemmas.{read-one}
use Rattle.hd_index_blocks.specs.Maps.{with_entry}
use Rattle.hd_index_blocks.specs.Ways.{leaf_of}
use Rattle.hd_index_blocks.specs.IndexSets.{index_blocks, top_level, index_entries}
use Rattle.hd_index_blocks.specs.Needs.{is_full, full_blocks}
use Rattle.hd_index_blocks.specs.VolumeLaws.{IsRightBlock}
use Rattle.hd_index_blocks.proofs.Volumes.{tops-right}
use Rattle.hd_index_blocks.proofs.Fullness.{room-found}
use Rattle.hd_index.proofs.CallLemmas.{on-ok-map}
use Rattle.hd_index.specs.Changes.{IsChanged}
use Rattle.hd_index.proofs.Searching.{set-same}
use Rattle.hd_index.proofs.Comings.{may-same}
use Rattle.hd_index.proofs.Halving.{full-known}
use Rattle.hd_index.proofs.ReadSteps.{changed-before, lowest-after}
use Rattle.hd_index.proofs.behind.hang_last.Goals as goal

pub hang_at-requires-clause-index : goal.hang_at-requires-clause-index
hang_at-requires-clause-index g c now =
    let u = c.args.volume.now in
    let read = c.in_ok-p.ensures.read in
    let sound : IsTrue u.is_sound = rw (← read.call.sound) now in
    (set-same (length c.args.key.now) u c.descend.new.volume (read-one read now) (c.requires.index sound)).0

pub hang_at-requires-clause-lowest : goal.hang_at-requires-clause-lowest
hang_at-requires-clause-lowest g c now =
    let u = c.args.volume.now in
    let v = c.descend.new.volume in
    let k : ℕ = length c.args.key.now in
    let by = c.args.by.now in
    let steps : ℕ = c.height-height.result - 2 in
    let p : ℕ = c.in_ok-p.p in
    let read = c.in_ok-p.ensures.read in
    let sound : IsTrue u.is_sound = rw (← read.call.sound) now in
    let x = c.requires.index sound in
    let some = c.requires.some sound in
    let t : ℕ = (header_of u.image).top in
    let top : c.top-top.result ≡ t = c.top-top.ensures sound x.formatted.header.first in
    let height : c.height-height.result ≡ (header_of u.image).height = c.height-height.ensures sound x.formatted.header.first in
    let needed = c.requires.needed sound in
    let full : (full_blocks (index_blocks k u) (entry_room k u.size) by (top_level u) t ≡ 1) × (1 < (header_of u.image).height) = elim (full-known k u by x some) [
      | inl all ↦ (let a = all.0 in let b = all.1 in let up : 0 < (header_of u.image).height = elim x.height [ inl none ↦ (let z = none.0 in absurd (omega arith)) | inr h ↦ h.1 ] in absurd (omega arith))
      | inr few ↦ (let a = few.0 in let b = few.1 in (omega arith, omega arith))
    ]
    in
    let high = full.1 in
    let level : top_level u ≡ steps + 1 = omega arith in
    let R : ℕ → ℕ → Type 0 = λ i n. IsRightBlock k u i n in
    let right = subst (R (steps + 1)) (sym top) (subst (λ (i : ℕ). R i t) level (tops-right k u x some)) in
    let down = c.in_ok-p.ensures.value sound x 1 right in
    let at : p ≡ leaf_of (index_blocks k u) by steps t = down.0 ∙ ap (leaf_of (index_blocks k u) by steps) top in
    let r = room-found (index_blocks k u) (entry_room k u.size) by 1 steps (top_level u) t level full.0 in
    lowest-after k u v by 0 p (read-one read now) (record {
      steps = steps;
      level = level;
      at = at;
      right = down.1;
      full = ap (full_blocks (index_blocks k u) (entry_room k u.size) by 1) at ∙ r.0;
      free = ap (is_full (index_blocks k u) (entry_room k u.size)) at ∙ r.1;
    })

pub hang_at-requires-clause-may : goal.hang_at-requires-clause-may
hang_at-requires-clause-may g c now =
    let u = c.args.volume.now in
    let key = c.args.key.now in
    let read = c.in_ok-p.ensures.read in
    let sound : IsTrue u.is_sound = rw (← read.call.sound) now in
    let may = c.requires.may sound in
    (may.0, may-same (length key) u c.descend.new.volume key c.args.by.now 0 may.0 (read-one read now) may.1)

pub returns-clause-changed : goal.returns-clause-changed
returns-clause-changed g c =
    let u = c.args.volume.now in
    let v = c.descend.new.volume in
    let w = c.hang_at.new.volume in
    let key = c.args.key.now in
    let k : ℕ = length key in
    let read = c.in_ok-p.ensures.read in
    let e : Entry = record { key = key; address = c.args.address } in
    on-ok-map c.hang_at.result
    (λ (changed : IsTrue v.is_sound → IsChanged k v (with_entry e (index_entries k v)) 1 w) (sound : IsTrue u.is_sound).
    let now : IsTrue v.is_sound = rw read.call.sound sound in
    let one = read-one read now in
    let C : List Entry → Type 0 = λ es. IsChanged k u (with_entry e es) 1 w in
    subst C (set-same k u v one (c.requires.index sound)).1 (changed-before k u v w (with_entry e (index_entries k v)) 1 one (changed now)))
    c.hang_at.ensures.changed
