use Rattle.std.proofs.Common.{◌≡◌, ℕ, List, length, ap, sym, ◌∙◌}
use Rattle.hd_dbd.specs.Types.{SegmentType}
use Rattle.hd_volume.specs.Volumes.{VolumeState}
use Rattle.hd_prefix.specs.Fields.{code_of, bytes_of}
use Rattle.hd_image.specs.Records.{links_of}
use Rattle.hd_forest.proofs.Reading.{IsLent, lent}
use Rattle.hd_update.specs.declared.held.HeldRow.{HeldRow}
use Rattle.hd_update.proofs.held.stored_row.Goals as goal

-- what is lent is stored there
stored_is : (types : List SegmentType) (v : VolumeState) (a : ℕ) (s : List ℕ) (row : HeldRow) → IsLent types v a s
    → row ≡ record { address = a; code = code_of s; length = length (bytes_of types (code_of s) s) }
    → row ≡ record { address = a; code = (links_of types v).code a; length = length ((links_of types v).bytes a) }
stored_is types v a s row l is = is ∙ ap (λ (x : List ℕ). record { address = a; code = code_of x; length = length (bytes_of types (code_of x) x) }) (sym l.stored)

pub returns-clause-value : goal.returns-clause-value
returns-clause-value g c sound =
    let d = c.args.dbd.now in
    let of = c.requires.of sound in
    let l = lent d c.args.volume.now c.args.address c.in_ok-segment.segment.now of.fit of (c.requires.there sound) (c.in_ok-segment.ensures.value sound) in
    stored_is d.types c.args.volume.now c.args.address c.in_ok-segment.segment.now c.row_in.result l (c.row_in.ensures l.whole)
