use Rattle.std.proofs.Common.{◌≡◌, ◌<◌, ◌≤◌, IsTrue, Result, Ok, Err, OnOk, subst, sym, ◌∙◌, arith}
use Rattle.hd_dbd.specs.declared.answer.Refused.{Refused}
use Rattle.hd_volume.specs.Indexes.{root_key_length}
use Rattle.hd_index_blocks.specs.Needs.{entry_growth}
use Rattle.hd_index.proofs.NeedLemmas.{growth-same, few-grown}
use Rattle.hd_update.proofs.NewRows.{on_ok_sound}
use Rattle.hd_update.proofs.room.make_root_room.Goals as goal

pub returns-clause-memory : goal.returns-clause-memory
returns-clause-memory g c =
    let v = c.args.volume.now in
    let w = c.lacks_room.new.volume in
    let x = c.reserve.new.self in
    on_ok_sound c.reserve.result w.is_sound x.is_sound c.reserve.ensures.call.sound c.reserve.ensures.room c.reserve.ensures.room (λ same room _ sound.
    (let now : IsTrue w.is_sound = subst IsTrue (sym c.in_ok-lacks_room.ensures.read.call.sound) sound in
    let last : IsTrue x.is_sound = subst IsTrue (sym same) now in
    let I = c.requires.index sound in
    let own : c.growth.result ≡ entry_growth v = c.growth.ensures c.args.dbd.now sound I in
    let growth : entry_growth x ≡ entry_growth v = growth-same v x ((c.reserve.ensures.image last).0 ∙ c.in_ok-lacks_room.ensures.read.image now) in
    let few : entry_growth v < 1000 = few-grown (root_key_length c.args.dbd.now.types) v I.index in
    let more = c.saturating_add-blocks.ensures in
    let count = c.requires.few in
    let enough : c.saturating_add-blocks.result ≤ x.room = room in
    omega arith))

pub returns-clause-room : goal.returns-clause-room
returns-clause-room g c = whatever c.reserve.result (λ sound. c.in_ok-lacks_room.ensures.room sound c.if-branch.false)
  where
    whatever : {A P : Type 0} (r : Result A Refused) → P → OnOk r P
    whatever (Ok x) p = p
    whatever (Err e) p = tt
