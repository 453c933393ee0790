use Rattle.std.proofs.Common.{◌≡◌, ◌∙◌, ℕ, IsTrue, Ok, ap, sym, arith}
use Rattle.hd_bytes.specs.Numbers.{number_at}
use Rattle.hd_volume.specs.Indexes.{entry_room}
use Rattle.hd_volume.proofs.CallSteps.{reads-join}
use Rattle.hd_volume.proofs.JoinLemmas.{one-formatted, read-one}
use Rattle.hd_index.proofs.CallLemmas.{on-ok-map}
use Rattle.hd_index.proofs.EditLemmas.{one-block-at}
use Rattle.hd_index.specs.Divisions.{IsDividedUnder}
use Rattle.hd_index.proofs.Searching.{right-same}
use Rattle.hd_index.proofs.ReadSteps.{divided-before, refused-before}
use Rattle.hd_index.proofs.Halving.{ready-for, divided-room}
use Rattle.hd_index.proofs.room.divide_at.Goals as goal

pub returns-then-not-may_divide-clause-made : goal.returns-then-not-may_divide-clause-made
returns-then-not-may_divide-clause-made g c sound =
    let u = c.args.volume.now in
    let v = c.lead_of.new.volume in
    let k : ℕ = c.args.key_length in
    let read = c.in_ok-lead.ensures.read in
    let now : IsTrue v.is_sound = rw read.call.sound sound in
    let ready = ready-for k u v c.args.by.now c.args.level c.args.p c.in_ok-lead.lead c.in_ok-cut.cut (read-one read now) (c.requires.index sound) (c.requires.lowest sound) c.requires.three
    (c.in_ok-lead.ensures.value sound) (c.in_ok-cut.ensures.value now) in
    let room : c.entry_room-room.result ≡ entry_room k u.size = c.entry_room-room.ensures.value ∙ ap (entry_room k) c.block_size.ensures.value in
    let half = ready.cuts.less in
    let free = ready.free in
    let within = ready.within in
    let may = c.may_divide.ensures.may ready.index (omega arith) half (omega arith) in
    let t = c.if-not-may_divide.true in
    absurd (cc)

pub divide_under-requires-clause-formatted : goal.divide_under-requires-clause-formatted
divide_under-requires-clause-formatted g c last =
    let u = c.args.volume.now in
    let v = c.lead_of.new.volume in
    let x = c.cut_of.new.volume in
    let both = reads-join (Ok c.in_ok-cut.cut) c.in_ok-lead.ensures.read c.in_ok-cut.ensures.read in
    let sound : IsTrue u.is_sound = rw (← both.call.sound) last in
    one-formatted (read-one both last) (let i = c.requires.index sound in i.formatted)

pub divide_under-requires-clause-lower : goal.divide_under-requires-clause-lower
divide_under-requires-clause-lower g c last =
    let u = c.args.volume.now in
    let v = c.lead_of.new.volume in
    let x = c.cut_of.new.volume in
    let k : ℕ = c.args.key_length in
    let read = c.in_ok-lead.ensures.read in
    let both = reads-join (Ok c.in_ok-cut.cut) read c.in_ok-cut.ensures.read in
    let sound : IsTrue u.is_sound = rw (← both.call.sound) last in
    let now : IsTrue v.is_sound = rw read.call.sound sound in
    let ready = ready-for k u v c.args.by.now c.args.level c.args.p c.in_ok-lead.lead c.in_ok-cut.cut (read-one read now) (c.requires.index sound) (c.requires.lowest sound) c.requires.three
    (c.in_ok-lead.ensures.value sound) (c.in_ok-cut.ensures.value now) in
    let right = right-same k u x c.args.level c.in_ok-lead.lead.child (read-one both last) ready.right in
    record { is = right.is; level = right.level; count = right.count }

pub divide_under-requires-clause-count : goal.divide_under-requires-clause-count
divide_under-requires-clause-count g c last =
    let u = c.args.volume.now in
    let v = c.lead_of.new.volume in
    let x = c.cut_of.new.volume in
    let k : ℕ = c.args.key_length in
    let read = c.in_ok-lead.ensures.read in
    let both = reads-join (Ok c.in_ok-cut.cut) read c.in_ok-cut.ensures.read in
    let sound : IsTrue u.is_sound = rw (← both.call.sound) last in
    let now : IsTrue v.is_sound = rw read.call.sound sound in
    let ready = ready-for k u v c.args.by.now c.args.level c.args.p c.in_ok-lead.lead c.in_ok-cut.cut (read-one read now) (c.requires.index sound) (c.requires.lowest sound) c.requires.three
    (c.in_ok-lead.ensures.value sound) (c.in_ok-cut.ensures.value now) in
    ready.cuts.count ∙ sym (ap (λ b. number_at 2 b 4) (one-block-at (read-one both last) c.in_ok-lead.lead.child))

pub returns-clause-refused : goal.returns-clause-refused
returns-clause-refused g c = refused-before c.divide_under.result (reads-join (Ok c.in_ok-cut.cut) c.in_ok-lead.ensures.read c.in_ok-cut.ensures.read) c.divide_under.ensures.call c.divide_under.ensures.refused

pub returns-clause-made : goal.returns-clause-made
returns-clause-made g c =
    let u = c.args.volume.now in
    let v = c.lead_of.new.volume in
    let x = c.cut_of.new.volume in
    let w = c.divide_under.new.volume in
    let k : ℕ = c.args.key_length in
    let l : ℕ = c.args.level in
    let p : ℕ = c.args.p in
    let read = c.in_ok-lead.ensures.read in
    let both = reads-join (Ok c.in_ok-cut.cut) read c.in_ok-cut.ensures.read in
    on-ok-map c.divide_under.result
    (λ (divided : IsTrue x.is_sound → IsDividedUnder k x l p c.in_ok-lead.lead c.in_ok-cut.cut w) (sound : IsTrue u.is_sound).
    let now : IsTrue v.is_sound = rw read.call.sound sound in
    let last : IsTrue x.is_sound = rw both.call.sound sound in
    let ready = ready-for k u v c.args.by.now l p c.in_ok-lead.lead c.in_ok-cut.cut (read-one read now) (c.requires.index sound) (c.requires.lowest sound) c.requires.three (c.in_ok-lead.ensures.value sound)
    (c.in_ok-cut.ensures.value now) in
    divided-room k c.args.by.now l p c.in_ok-lead.lead c.in_ok-cut.cut (c.requires.index sound) (c.requires.some sound) (c.requires.lowest sound) ready.leads ready.cuts
    (divided-before k u x w l p c.in_ok-lead.lead c.in_ok-cut.cut (read-one both last) (divided last)))
    c.divide_under.ensures.divided
