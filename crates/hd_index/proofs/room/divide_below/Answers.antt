use Rattle.std.proofs.Common.{◌≡◌, ◌+◌, ◌-◌, ◌∙◌, ℕ, suc, IsTrue, ap, sym, subst, arith}
use Rattle.hd_volume.specs.Headers.{header_of}
use Rattle.hd_volume.specs.Indexes.{entry_room}
use Rattle.hd_volume.proofs.JoinLemmas.{read-one}
use Rattle.hd_index_blocks.specs.Ways.{leaf_of}
use Rattle.hd_index_blocks.specs.IndexSets.{index_blocks, top_level}
use Rattle.hd_index_blocks.specs.Needs.{is_full, full_blocks}
use Rattle.hd_index_blocks.specs.VolumeLaws.{IsRightBlock}
use Rattle.hd_index_blocks.proofs.Volumes.{tops-right}
use Rattle.hd_index_blocks.proofs.Fullness.{room-found}
use Rattle.hd_index.proofs.CallLemmas.{on-ok-map}
use Rattle.hd_index.specs.Divisions.{IsRoomMade}
use Rattle.hd_index.proofs.Searching.{set-same}
use Rattle.hd_index.proofs.ReadSteps.{lowest-after, room-before}
use Rattle.hd_index.proofs.room.divide_below.Goals as goal

pub divide_at-requires-clause-index : goal.divide_at-requires-clause-index
divide_at-requires-clause-index g c now =
    let u = c.args.volume.now in
    let v = c.descend.new.volume in
    let read = c.in_ok-p.ensures.read in
    let sound : IsTrue u.is_sound = rw (← read.call.sound) now in
    (set-same c.args.key_length u v (read-one read now) (c.requires.index sound)).0

pub divide_at-requires-clause-lowest : goal.divide_at-requires-clause-lowest
divide_at-requires-clause-lowest g c now =
    let u = c.args.volume.now in
    let v = c.descend.new.volume in
    let k : ℕ = c.args.key_length in
    let by = c.args.by.now in
    let steps : ℕ = c.args.steps in
    let l : ℕ = c.args.level - 1 in
    let p : ℕ = c.in_ok-p.p in
    let read = c.in_ok-p.ensures.read in
    let sound : IsTrue u.is_sound = rw (← read.call.sound) now in
    let x = c.requires.index sound in
    let some = c.requires.some sound in
    let t : ℕ = (header_of u.image).top in
    let top : c.top-top.result ≡ t = c.top-top.ensures sound x.formatted.header.first in
    let upper = c.requires.upper in
    let one : c.args.level ≡ suc l = omega arith in
    let level : top_level u ≡ steps + suc l = (let e = c.requires.level sound in omega arith) in
    let R : ℕ → ℕ → Type 0 = λ i n. IsRightBlock k u i n in
    let right = subst (R (steps + suc l)) (sym top) (subst (λ (i : ℕ). R i t) level (tops-right k u x some)) in
    let down = c.in_ok-p.ensures.value sound x (suc l) right in
    let at : p ≡ leaf_of (index_blocks k u) by steps t = down.0 ∙ ap (leaf_of (index_blocks k u) by steps) top in
    let full : full_blocks (index_blocks k u) (entry_room k u.size) by (top_level u) t ≡ suc l = c.requires.full sound ∙ one in
    let r = room-found (index_blocks k u) (entry_room k u.size) by (suc l) steps (top_level u) t level full in
    lowest-after k u v by l p (read-one read now) (record {
      steps = steps;
      level = level;
      at = at;
      right = down.1;
      full = ap (full_blocks (index_blocks k u) (entry_room k u.size) by (suc l)) at ∙ r.0;
      free = ap (is_full (index_blocks k u) (entry_room k u.size)) at ∙ r.1;
    })

pub returns-clause-made : goal.returns-clause-made
returns-clause-made g c =
    let u = c.args.volume.now in
    let v = c.descend.new.volume in
    let w = c.divide_at.new.volume in
    let read = c.in_ok-p.ensures.read in
    on-ok-map c.divide_at.result
    (λ (made : IsTrue v.is_sound → IsRoomMade c.args.key_length v c.args.by.now w) (sound : IsTrue u.is_sound).
    let now : IsTrue v.is_sound = rw read.call.sound sound in
    room-before c.args.key_length u v w c.args.by.now (read-one read now) (c.requires.index sound) (made now))
    c.divide_at.ensures.made
