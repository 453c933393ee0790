use Rattle.std.proofs.Common.{List, [], ◌∷◌, length, refl, sym, subst}
use Rattle.hd_volume.specs.Volumes.{VolumeState}
use Rattle.hd_volume.specs.Entries.{Entry}
use Rattle.hd_index.specs.Changes.{IsChanged}
use Rattle.hd_index.proofs.Tops.{first-made}
use Rattle.hd_index.proofs.first.insert_first.Goals as goal

pub returns-clause-changed : goal.returns-clause-changed
returns-clause-changed g c sound =
    let u = c.args.volume.now in
    let key = c.args.key.now in
    let new : List Entry = record { key = key; address = c.args.address } ∷ [] in
    let C : VolumeState → Type 0 = λ v. IsChanged (length key) u new 1 v in
    subst C (sym c.note_block.ensures.same) (first-made (length key) key c.args.address refl (c.requires.index sound) (c.requires.none sound) (c.in_ok-begin_top.ensures.begun sound))
