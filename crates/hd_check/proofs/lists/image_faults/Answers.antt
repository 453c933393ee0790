use Rattle.std.proofs.Common.{◌<◌, Ok, Some, None, sym, ◌∙◌, arith}
use Rattle.hd_dbd.specs.Hierarchy.{Database}
use Rattle.hd_volume.specs.Volumes.{VolumeState}
use Rattle.hd_volume.proofs.CallSteps.{read-ok, reads-join}
use Rattle.hd_check_blocks.specs.Phases.{IsHeaderRight}
use Rattle.hd_check_pointers.proofs.RecordSteps.{from-none}
use Rattle.hd_check.proofs.OneStore.{IsOne, turned}
use Rattle.hd_check.proofs.EarlierFaults.{none-2}
use Rattle.hd_check.proofs.Joined.{still-sound, read-one, blocks-found}
use Rattle.hd_check.proofs.FirstFaults.{header-first, header-in, found-first, found-in, standing-same, block-there}
use Rattle.hd_check.proofs.lists.image_faults.Goals as goal

pub returns-then-is_some-clause-read : goal.returns-then-is_some-clause-read
returns-then-is_some-clause-read g c = read-ok (Some c.in_ok-faults.faults) (reads-join (Ok c.in_ok-faults.faults) c.in_ok-found.ensures.read c.in_ok-faults.ensures.read)

pub returns-then-is_some-clause-some : goal.returns-then-is_some-clause-some
returns-then-is_some-clause-some g c = λ sound.
    let d : Database = c.args.dbd.now in
    let v : VolumeState = c.args.volume.now in
    let w : VolumeState = c.header_fault.new.volume in
    let e : IsOne v w = read-one c.in_ok-found.ensures.read sound in
    let now = still-sound c.in_ok-found.ensures.read sound in
    header-first d v c.in_ok-found.found c.in_ok-faults.faults.items c.requires.size.0 (sym c.is_some.ensures ∙ c.if-is_some.true) (c.in_ok-found.ensures.some sound)
    (λ there. standing-same w v (turned e) d 1 c.in_ok-faults.faults.items (c.in_ok-faults.ensures.faults now (block-there v w e there)))
    (λ none. c.in_ok-faults.ensures.alone now (λ there. none (block-there w v (turned e) there)))

pub returns-then-is_some-clause-early : goal.returns-then-is_some-clause-early
returns-then-is_some-clause-early g c = λ sound.
    let d : Database = c.args.dbd.now in
    let v : VolumeState = c.args.volume.now in
    let w : VolumeState = c.header_fault.new.volume in
    let e : IsOne v w = read-one c.in_ok-found.ensures.read sound in
    let now = still-sound c.in_ok-found.ensures.read sound in
    header-in (λ p. p < 3) d v c.in_ok-found.found c.in_ok-faults.faults.items (omega arith) (sym c.is_some.ensures ∙ c.if-is_some.true) (c.in_ok-found.ensures.some sound)
    (λ there. standing-same w v (turned e) d 1 c.in_ok-faults.faults.items (c.in_ok-faults.ensures.faults now (block-there v w e there)))
    (λ none. c.in_ok-faults.ensures.alone now (λ there. none (block-there w v (turned e) there)))

pub returns-then-is_some-2-clause-read : goal.returns-then-is_some-2-clause-read
returns-then-is_some-2-clause-read g c =
    let read = reads-join (Ok c.in_ok-found-2.found) c.in_ok-found.ensures.read c.in_ok-found-2.ensures.read in
    read-ok (Some c.in_ok-faults-2.faults) (reads-join (Ok c.in_ok-faults-2.faults) read c.in_ok-faults-2.ensures.read)

pub returns-then-is_some-2-clause-some : goal.returns-then-is_some-2-clause-some
returns-then-is_some-2-clause-some g c = λ sound.
    let d : Database = c.args.dbd.now in
    let v : VolumeState = c.args.volume.now in
    let u : VolumeState = c.header_fault.new.volume in
    let w : VolumeState = c.blocks_fault.new.volume in
    let read = reads-join (Ok c.in_ok-found-2.found) c.in_ok-found.ensures.read c.in_ok-found-2.ensures.read in
    let header : IsHeaderRight d v = from-none c.in_ok-found.found (sym c.is_some.ensures ∙ c.if-is_some.false) (c.in_ok-found.ensures.none sound) in
    found-first d v u w 2 c.in_ok-found-2.found c.in_ok-faults-2.faults.items (read-one c.in_ok-found.ensures.read sound) (read-one read sound) (none-2 d v header) (sym c.is_some-2.ensures ∙ c.if-is_some-2.true)
    (c.in_ok-found-2.ensures.some (still-sound c.in_ok-found.ensures.read sound)) (c.in_ok-faults-2.ensures.faults (still-sound read sound))

pub returns-then-is_some-2-clause-early : goal.returns-then-is_some-2-clause-early
returns-then-is_some-2-clause-early g c = λ sound.
    let d : Database = c.args.dbd.now in
    let v : VolumeState = c.args.volume.now in
    let u : VolumeState = c.header_fault.new.volume in
    let w : VolumeState = c.blocks_fault.new.volume in
    let read = reads-join (Ok c.in_ok-found-2.found) c.in_ok-found.ensures.read c.in_ok-found-2.ensures.read in
    found-in (λ p. p < 3) d v u w 2 c.in_ok-found-2.found c.in_ok-faults-2.faults.items (omega arith) (read-one c.in_ok-found.ensures.read sound) (read-one read sound) (sym c.is_some-2.ensures ∙ c.if-is_some-2.true)
    (c.in_ok-found-2.ensures.some (still-sound c.in_ok-found.ensures.read sound)) (c.in_ok-faults-2.ensures.faults (still-sound read sound))

pub returns-clause-read : goal.returns-clause-read
returns-clause-read g c = read-ok None (reads-join (Ok c.in_ok-found-2.found) c.in_ok-found.ensures.read c.in_ok-found-2.ensures.read)

pub returns-clause-none : goal.returns-clause-none
returns-clause-none g c = λ sound fit.
    let v : VolumeState = c.args.volume.now in
    let w : VolumeState = c.header_fault.new.volume in
    let e : IsOne v w = read-one c.in_ok-found.ensures.read sound in
    let now = still-sound c.in_ok-found.ensures.read sound in
    let is-none = sym c.is_some-2.ensures ∙ c.if-is_some-2.false in
    let header : IsHeaderRight c.args.dbd.now v = from-none c.in_ok-found.found (sym c.is_some.ensures ∙ c.if-is_some.false) (c.in_ok-found.ensures.none sound) in
    blocks-found c.args.dbd.now v w c.blocks_fault.new.places.items fit c.requires.size.0 c.requires.size.1 e header
    (from-none c.in_ok-found-2.found is-none (c.in_ok-found-2.ensures.none now)) (from-none c.in_ok-found-2.found is-none (c.in_ok-found-2.ensures.places now))
