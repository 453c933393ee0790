use Rattle.std.proofs.Common.{◌*◌, ◌/◌, ℕ, ap}
use Rattle.hd_volume.proofs.CallSteps.{if-ok}
use Rattle.hd_check_index.proofs.wrong_entries.name_beside.Goals as goal

pub returns-clause-right : goal.returns-clause-right
returns-clause-right g c =
    let number : ℕ = c.args.address / c.block_size-size.result in
    if-ok c.name_on.result c.name_on.ensures.right
    (λ i right sound h. right c.args.volume.now number (c.requires.of sound) (c.requires.places sound) (c.in_ok-bytes.ensures.value sound) (ap (λ (s : ℕ). number * s) c.block_size-size.ensures.value) h)
