use Rattle.std.proofs.Common.{sym, ◌∙◌}
use Rattle.hd_volume.specs.Volumes.{VolumeState}
use Rattle.hd_volume.proofs.CallSteps.{if-ok}
use Rattle.hd_check_blocks.specs.Phases.{IsHeaderRight}
use Rattle.hd_check_pointers.proofs.RecordSteps.{from-none}
use Rattle.hd_check.proofs.OneStore.{IsOne}
use Rattle.hd_check.proofs.EarlierFaults.{none-first, none-2}
use Rattle.hd_check.proofs.Joined.{still-sound, read-one, found-here, found-there, if-ok-both, if-none-both, blocks-found}
use Rattle.hd_check.proofs.phases.image_fault.Goals as goal

pub returns-then-is_some-clause-some : goal.returns-then-is_some-clause-some
returns-then-is_some-clause-some g c = λ sound. found-here c.args.dbd.now c.args.volume.now 1 c.in_ok-found.found (none-first c.args.dbd.now c.args.volume.now) (c.in_ok-found.ensures.some sound)

pub returns-clause-none : goal.returns-clause-none
returns-clause-none g c = if-ok-both c.blocks_fault.result c.blocks_fault.ensures.none c.blocks_fault.ensures.places
    (λ o none places sound fit.
    let v : VolumeState = c.args.volume.now in
    let w : VolumeState = c.header_fault.new.volume in
    let e : IsOne v w = read-one c.in_ok-found.ensures.read sound in
    let now = still-sound c.in_ok-found.ensures.read sound in
    let header : IsHeaderRight c.args.dbd.now v = from-none c.in_ok-found.found (sym c.is_some.ensures ∙ c.if-is_some.false) (c.in_ok-found.ensures.none sound) in
    if-none-both o (none now) (places now)
    (λ blocks stand. blocks-found c.args.dbd.now v w c.blocks_fault.new.places.items fit c.requires.size.0 c.requires.size.1 e header blocks stand))

pub returns-clause-some : goal.returns-clause-some
returns-clause-some g c = if-ok c.blocks_fault.result c.blocks_fault.ensures.some
    (λ o some sound.
    let v : VolumeState = c.args.volume.now in
    let header : IsHeaderRight c.args.dbd.now v = from-none c.in_ok-found.found (sym c.is_some.ensures ∙ c.if-is_some.false) (c.in_ok-found.ensures.none sound) in
    found-there c.args.dbd.now v c.header_fault.new.volume 2 o (read-one c.in_ok-found.ensures.read sound) (none-2 c.args.dbd.now v header) (some (still-sound c.in_ok-found.ensures.read sound)))
