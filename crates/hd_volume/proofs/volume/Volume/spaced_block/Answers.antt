use Rattle.std.proofs.Common.{IsTrue, length, sym, ◌∙◌}
use Rattle.hd_volume.specs.Volumes.{VolumeState, block_at}
use Rattle.hd_volume.specs.Spacing.{bytes_to_leave}
use Rattle.hd_volume.specs.Steps.{HasRoom, MayTake}
use Rattle.hd_volume.proofs.JoinLemmas.{one-kind, one-formatted, one-holes, read-one, read-step, plain-read, steps-join, ready-found, ready-after, if-ok-map, if-err-map}
use Rattle.hd_volume.proofs.MapLemmas.{space-same}
use Rattle.hd_volume.proofs.SpacingLemmas.{hole-open}
use Rattle.hd_volume.proofs.volume.Volume.spaced_block.Goals as goal

pub new_block_or_hole-requires-clause-formatted : goal.new_block_or_hole-requires-clause-formatted
new_block_or_hole-requires-clause-formatted g c now =
    let before : IsTrue c.args.self.now.is_sound = rw (← c.in_ok-n.ensures.read.call.sound) now in
    one-formatted (read-one c.in_ok-n.ensures.read now) (c.requires.formatted before)

pub new_block_or_hole-requires-clause-spaced : goal.new_block_or_hole-requires-clause-spaced
new_block_or_hole-requires-clause-spaced g c plain = c.requires.spaced (sym c.find_spaced.ensures.spacing ∙ plain)

pub returns-in-Some-clause-ready : goal.returns-in-Some-clause-ready
returns-in-Some-clause-ready g c sound =
    let v : VolumeState = c.args.self.now in
    let now : IsTrue c.find_spaced.new.self.is_sound = rw c.in_ok-n.ensures.read.call.sound sound in
    let found : HasRoom v c.in-Some.n (length c.args.bytes.now) × MayTake v.sizes (bytes_to_leave v.size v.spacing) (length c.args.bytes.now) (block_at v c.in-Some.n) = rw c.in-Some.is at (c.in_ok-n.ensures.found sound) in
    ready-found (read-one c.in_ok-n.ensures.read now) c.in-Some.n (length c.args.bytes.now) (c.requires.formatted sound) found.0

pub returns-in-Some-clause-may : goal.returns-in-Some-clause-may
returns-in-Some-clause-may g c sound left =
    let v : VolumeState = c.args.self.now in
    let now : IsTrue c.find_spaced.new.self.is_sound = rw c.in_ok-n.ensures.read.call.sound sound in
    let found : HasRoom v c.in-Some.n (length c.args.bytes.now) × MayTake v.sizes (bytes_to_leave v.size v.spacing) (length c.args.bytes.now) (block_at v c.in-Some.n) = rw c.in-Some.is at (c.in_ok-n.ensures.found sound) in
    hole-open v c.find_spaced.new.self c.in-Some.n (length c.args.bytes.now) (read-one c.in_ok-n.ensures.read now) c.find_spaced.ensures.spacing found.0.is_data found.1 left

pub returns-in-None-clause-step : goal.returns-in-None-clause-step
returns-in-None-clause-step g c = steps-join c.new_block_or_hole.result (read-step c.in_ok-n.ensures.read) c.new_block_or_hole.ensures.step

pub returns-in-None-clause-ready : goal.returns-in-None-clause-ready
returns-in-None-clause-ready g c =
    if-ok-map c.new_block_or_hole.result
    (λ n h sound.
    let now : IsTrue c.find_spaced.new.self.is_sound = rw c.in_ok-n.ensures.read.call.sound sound in
    ready-after (read-one c.in_ok-n.ensures.read now) n (length c.args.bytes.now) (plain-read c.in_ok-n.ensures.read) (h now))
    c.new_block_or_hole.ensures.ready

pub returns-in-None-clause-may : goal.returns-in-None-clause-may
returns-in-None-clause-may g c =
    if-ok-map c.new_block_or_hole.result
    (λ n h sound left.
    let now : IsTrue c.find_spaced.new.self.is_sound = rw c.in_ok-n.ensures.read.call.sound sound in
    h now (space-same c.args.self.now c.find_spaced.new.self c.in_ok-n.ensures.read.call.size c.in_ok-n.ensures.read.call.sizes (c.in_ok-n.ensures.read.image now) c.find_spaced.ensures.spacing left))
    c.new_block_or_hole.ensures.may

pub returns-in-None-clause-no_free : goal.returns-in-None-clause-no_free
returns-in-None-clause-no_free g c =
    if-err-map c.new_block_or_hole.result
    (λ e h is sound free.
    let now : IsTrue c.find_spaced.new.self.is_sound = rw c.in_ok-n.ensures.read.call.sound sound in
    let one = read-one c.in_ok-n.ensures.read now in
    h is now (free.0, one-kind one 3 free.0 free.1))
    c.new_block_or_hole.ensures.no_free

pub returns-in-None-clause-no_hole : goal.returns-in-None-clause-no_hole
returns-in-None-clause-no_hole g c =
    if-err-map c.new_block_or_hole.result
    (λ e h is sound hole.
    let now : IsTrue c.find_spaced.new.self.is_sound = rw c.in_ok-n.ensures.read.call.sound sound in
    h is now (one-holes (read-one c.in_ok-n.ensures.read now) (length c.args.bytes.now) hole))
    c.new_block_or_hole.ensures.no_hole
