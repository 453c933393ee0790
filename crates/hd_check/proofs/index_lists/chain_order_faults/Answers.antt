use Rattle.std.proofs.Common.{Ok, Some, ℕ, List, sym, ap, ◌∙◌, arith}
use Rattle.hd_volume.specs.Headers.{header_of}
use Rattle.hd_volume.specs.Volumes.{VolumeState}
use Rattle.hd_volume.specs.Indexes.{root_key_length}
use Rattle.hd_volume.proofs.CallSteps.{read-ok, reads-join}
use Rattle.hd_image.proofs.OneImage.{volume-same}
use Rattle.hd_check.proofs.OneStore.{IsOne, chain-formed-same, bearers-same}
use Rattle.hd_check.proofs.Joined.{still-sound, was-sound, read-one}
use Rattle.hd_check.proofs.IndexLists.{found-index}
use Rattle.hd_check.proofs.index_lists.chain_order_faults.Goals as goal

pub entry_order_faults-requires-clause-of : goal.entry_order_faults-requires-clause-of
entry_order_faults-requires-clause-of g c = λ now.
    let v : VolumeState = c.args.volume.now in
    let w : VolumeState = c.entry_order_fault.new.volume in
    let sound = was-sound c.in_ok-found.ensures.read now in
    let e : IsOne v w = read-one c.in_ok-found.ensures.read sound in
    volume-same c.args.dbd.now v w e.image e.size e.sizes (c.requires.of sound)

pub entry_order_faults-requires-clause-version : goal.entry_order_faults-requires-clause-version
entry_order_faults-requires-clause-version g c = λ now.
    let sound = was-sound c.in_ok-found.ensures.read now in
    let e : IsOne c.args.volume.now c.entry_order_fault.new.volume = read-one c.in_ok-found.ensures.read sound in
    ap (λ (i : List ℕ). (header_of i).version) e.image ∙ c.requires.version sound

pub entry_order_faults-requires-clause-formed : goal.entry_order_faults-requires-clause-formed
entry_order_faults-requires-clause-formed g c = λ now.
    let v : VolumeState = c.args.volume.now in
    let w : VolumeState = c.entry_order_fault.new.volume in
    let sound = was-sound c.in_ok-found.ensures.read now in
    chain-formed-same v w (read-one c.in_ok-found.ensures.read sound) (root_key_length c.args.dbd.now.types) (c.requires.formed sound)

pub entry_order_faults-requires-clause-chain : goal.entry_order_faults-requires-clause-chain
entry_order_faults-requires-clause-chain g c = λ now.
    let v : VolumeState = c.args.volume.now in
    let w : VolumeState = c.entry_order_fault.new.volume in
    let sound = was-sound c.in_ok-found.ensures.read now in
    let e : IsOne v w = read-one c.in_ok-found.ensures.read sound in
    c.deref-then-is_some.ensures.value ∙ c.requires.chain sound ∙ sym (bearers-same v w e)

pub returns-then-is_some-clause-read : goal.returns-then-is_some-clause-read
returns-then-is_some-clause-read g c = read-ok (Some c.in_ok-faults.faults) (reads-join (Ok c.in_ok-faults.faults) c.in_ok-found.ensures.read c.in_ok-faults.ensures.read)

pub returns-then-is_some-clause-some : goal.returns-then-is_some-clause-some
returns-then-is_some-clause-some g c = λ sound.
    let v : VolumeState = c.args.volume.now in
    let w : VolumeState = c.entry_order_fault.new.volume in
    let e : IsOne v w = read-one c.in_ok-found.ensures.read sound in
    found-index c.args.dbd.now v w 11 c.in_ok-found.found c.in_ok-faults.faults.items e (omega arith) (c.requires.before sound) (sym c.is_some.ensures ∙ c.if-is_some.true)
    (c.in_ok-found.ensures.some sound) (c.in_ok-faults.ensures.faults (still-sound c.in_ok-found.ensures.read sound))
