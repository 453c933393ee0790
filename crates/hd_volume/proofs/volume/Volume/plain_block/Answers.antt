use Rattle.std.proofs.Common.{ℕ, ◌+◌, ◌≤◌, IsTrue, length}
use Rattle.hd_volume.specs.Volumes.{VolumeState}
use Rattle.hd_volume.specs.Rooms.{HasHole}
use Rattle.hd_volume.specs.Steps.{HasRoom}
use Rattle.hd_volume.proofs.SpacingLemmas.{plain-open}
use Rattle.hd_volume.proofs.JoinLemmas.{AreOne, one-room, read-one, plain-read, ready-after, hole-after, if-ok-map}
use Rattle.hd_volume.proofs.volume.Volume.plain_block.Goals as goal

pub returns-in-None-clause-ready : goal.returns-in-None-clause-ready
returns-in-None-clause-ready g c =
    let v : VolumeState = c.args.self.now in
    let w : VolumeState = c.find_hole.new.self in
    let need : ℕ = length c.args.bytes.now in
    if-ok-map c.new_block.result
    (λ n h sound.
    let now : IsTrue w.is_sound = rw c.in_ok-n.ensures.read.call.sound sound in
    let one : AreOne v w = read-one c.in_ok-n.ensures.read now in
    let none : HasHole v need → ⊥ = rw c.in-None.is at (c.in_ok-n.ensures.none sound) in
    let fits = c.find_hole.ensures.fits in
    let small : need + 8 ≤ w.size = rw one.same.size fits in
    ready-after one n need (plain-read c.in_ok-n.ensures.read) (h now need small (λ plain x. none (hole-after one need x))))
    c.new_block.ensures.ready

pub returns-in-Some-clause-may : goal.returns-in-Some-clause-may
returns-in-Some-clause-may g c sound left few =
    let v : VolumeState = c.args.self.now in
    let w : VolumeState = c.find_hole.new.self in
    let need : ℕ = length c.args.bytes.now in
    let now : IsTrue w.is_sound = rw c.in_ok-n.ensures.read.call.sound sound in
    let one : AreOne v w = read-one c.in_ok-n.ensures.read now in
    let room : HasRoom v c.in-Some.n need = rw c.in-Some.is at (c.in_ok-n.ensures.found sound) in
    plain-open w c.in-Some.n need (plain-read c.in_ok-n.ensures.read c.requires.plain) (one-room one c.in-Some.n need room) few

pub returns-in-None-clause-may : goal.returns-in-None-clause-may
returns-in-None-clause-may g c =
    if-ok-map c.new_block.result
    (λ n h sound left. h (rw c.in_ok-n.ensures.read.call.sound sound) (length c.args.bytes.now)) c.new_block.ensures.may
