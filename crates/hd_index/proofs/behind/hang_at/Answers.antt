use Rattle.std.proofs.Common.{◌≡◌, inl, inr, ℕ, List, IsTrue, length, ap, sym, ◌∙◌, subst, arith}
use Rattle.hd_volume.specs.Indexes.{entry_room}
use Rattle.hd_volume.specs.Entries.{Entry}
use Rattle.hd_volume.proofs.JoinLemmas.{calls-join, one-formatted, read-one}
use Rattle.hd_index_blocks.specs.Maps.{with_entry}
use Rattle.hd_index_blocks.specs.Levels.{AreBelow}
use Rattle.hd_index_blocks.specs.IndexSets.{index_entries}
use Rattle.hd_index.proofs.CallLemmas.{on-ok-map}
use Rattle.hd_index.specs.Behind.{IsHungBehind}
use Rattle.hd_index.specs.Changes.{IsChanged}
use Rattle.hd_index.proofs.Searching.{right-order, set-same}
use Rattle.hd_index.proofs.Comings.{may-same}
use Rattle.hd_index.proofs.Ends.{lead-may, lead-known, end-found, hung-changed}
use Rattle.hd_index.proofs.Halving.{lead-right}
use Rattle.hd_index.proofs.ReadSteps.{changed-before, lowest-after, refused-before}
use Rattle.hd_index.proofs.behind.hang_at.Goals as goal

pub returns-then-lead-clause-changed : goal.returns-then-lead-clause-changed
returns-then-lead-clause-changed g c sound =
    let u = c.args.volume.now in
    let k : ℕ = length c.args.key.now in
    let r = c.requires.lowest sound in
    let leads = c.in_ok-lead.ensures.value sound (right-order k u 1 c.args.p r.right) r.right.some in
    let may = lead-may k u c.args.by.now c.args.p c.in_ok-lead.lead r leads in
    let index = may.0 in
    let free = may.1 in
    let room : c.entry_room-room.result ≡ entry_room k u.size = c.entry_room-room.ensures.value ∙ ap (entry_room k) c.block_size.ensures.value in
    elim c.then-lead.either [ inl few ↦ absurd (omega arith) | inr full ↦ (let most = full.1 in absurd (omega arith)) ]

pub hang_behind-requires-clause-formatted : goal.hang_behind-requires-clause-formatted
hang_behind-requires-clause-formatted g c now =
    let read = c.in_ok-lead.ensures.read in
    let sound : IsTrue c.args.volume.now.is_sound = rw (← read.call.sound) now in
    one-formatted (read-one read now) (c.requires.index sound).formatted

pub hang_behind-requires-clause-lower : goal.hang_behind-requires-clause-lower
hang_behind-requires-clause-lower g c now =
    let u = c.args.volume.now in
    let v = c.lead_of.new.volume in
    let k : ℕ = length c.args.key.now in
    let by = c.args.by.now in
    let p : ℕ = c.args.p in
    let read = c.in_ok-lead.ensures.read in
    let sound : IsTrue u.is_sound = rw (← read.call.sound) now in
    let one = read-one read now in
    let r = lowest-after k u v by 0 p one (c.requires.lowest sound) in
    let leads = lead-known k u v by p c.in_ok-lead.lead one (c.requires.lowest sound) (c.in_ok-lead.ensures.value sound) in
    let right = lead-right k v by 0 p c.in_ok-lead.lead (set-same k u v one (c.requires.index sound)).0 r.right leads in
    record { is = right.is; level = right.level; count = right.count }

pub returns-clause-call : goal.returns-clause-call
returns-clause-call g c = calls-join c.hang_behind.result c.in_ok-lead.ensures.read.call c.hang_behind.ensures.call

pub returns-clause-changed : goal.returns-clause-changed
returns-clause-changed g c =
    let u = c.args.volume.now in
    let v = c.lead_of.new.volume in
    let w = c.hang_behind.new.volume in
    let key = c.args.key.now in
    let k : ℕ = length key in
    let by = c.args.by.now in
    let p : ℕ = c.args.p in
    let lead = c.in_ok-lead.lead in
    let read = c.in_ok-lead.ensures.read in
    let e : Entry = record { key = key; address = c.args.address } in
    on-ok-map c.hang_behind.result
    (λ (hung : IsTrue v.is_sound → IsHungBehind k v p lead by e w) (sound : IsTrue u.is_sound).
    let now : IsTrue v.is_sound = rw read.call.sound sound in
    let one = read-one read now in
    let s = set-same k u v one (c.requires.index sound) in
    let r = lowest-after k u v by 0 p one (c.requires.lowest sound) in
    let leads = lead-known k u v by p lead one (c.requires.lowest sound) (c.in_ok-lead.ensures.value sound) in
    let may = c.requires.may sound in
    let top = c.requires.some sound in
    let B : List Entry → Type 0 = λ es. AreBelow key es in
    let C : List Entry → Type 0 = λ es. IsChanged k u (with_entry e es) 1 w in
    let z = end-found k v key by p may.0 lead (rw one.image top) r (may-same k u v key by 0 may.0 one may.1) (subst B (sym s.1) (c.requires.behind sound)) leads in
    subst C s.1 (changed-before k u v w (with_entry e (index_entries k v)) 1 one (hung-changed k key by c.args.address p lead z (hung now))))
    c.hang_behind.ensures.hung

pub returns-clause-refused : goal.returns-clause-refused
returns-clause-refused g c = refused-before c.hang_behind.result c.in_ok-lead.ensures.read c.hang_behind.ensures.call c.hang_behind.ensures.refused
